use Rattle.std.proofs.Common.{◌≡◌, map, drop}
use Rattle.st_frames.specs.Seen.{seen}
use Rattle.st_end.specs.Receiving.{marked}
use Rattle.st_end.proofs.effect.mark.Given as goal

abbrev pub invariant-loop-told : goal.invariant-loop-told
invariant-loop-told g l = marked (map seen l.reply) l.fn.outbox (seen l.blocked) ≡ marked (map seen (drop l.told-index l.reply)) l.outbox (seen l.blocked)
