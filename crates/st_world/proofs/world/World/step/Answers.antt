use Rattle.std.proofs.Common.{◌≡◌, arith}
use Rattle.std.specs.Vec.{with_items}
use Rattle.std.proofs.lemmas.List.{with_items_is}
use Rattle.st_world_parts.specs.Seen.{told_seen}
use Rattle.st_world.specs.Seen.{event_seen}
use Rattle.st_world.proofs.Reached.{step_kept, step_is}
use Rattle.st_world.proofs.world.World.step.Goals as goal

pub invariant_of-self-2 : goal.invariant_of-self-2
invariant_of-self-2 g c =
    let same : (with_items c.self.inside.links c.take_event.new.links).items ≡ c.take_event.new.links = with_items_is c.self.inside.links c.take_event.new.links (omega (arith, c.take_event.auto.links, c.deref_mut.ensures.len)) in
    step_kept c.self.inside.trace c.take_event.new.self c.deref_mut.result.now c.self.inside.links.items c.take_event.new.links _ (event_seen c.args.event.now) (told_seen c.in_ok-told.told) same c.deref_mut.ensures.value c.self.invariant.0 c.take_event.auto.links c.in_ok-told.ensures.nodes c.self.invariant.1 c.in_ok-told.ensures.happens

pub returns-clause-happens : goal.returns-clause-happens
returns-clause-happens g c =
    let same : (with_items c.self.inside.links c.take_event.new.links).items ≡ c.take_event.new.links = with_items_is c.self.inside.links c.take_event.new.links (omega (arith, c.take_event.auto.links, c.deref_mut.ensures.len)) in
    step_is c.self.inside.trace c.take_event.new.self c.deref_mut.result.now c.self.inside.links.items c.take_event.new.links _ c.args.self.now (event_seen c.args.event.now) (told_seen c.in_ok-told.told) same c.deref_mut.ensures.value c.self.view_is c.in_ok-told.ensures.happens
