use Rattle.std.proofs.Common.{◌∙◌, ◌∷◌, [], ◌++◌, ap}
use Rattle.std.proofs.lemmas.List.{replicate-append-replicate}
use Rattle.st_world_parts.specs.State.{empty_link}
use Rattle.st_world.proofs.opening.links_of.Goals as goal

pub loop-link-preserved : goal.loop-link-preserved
loop-link-preserved g c = rw (c.in_ok-push.ensures.items, c.loop-link.invariant, c.new.ensures) (replicate-append-replicate c.loop-link.link 1 empty_link)
