use Rattle.std.proofs.Common.{◌≡◌, None, subst, arith}
use Rattle.std.specs.Prelude.{replicate}
use Rattle.st_receiver.proofs.intake.no_places.Goals as goal

pub returns-clause-empty : goal.returns-clause-empty
returns-clause-empty g c = let e : c.loop-k.k ≡ 65 = omega (arith, c.loop-k.auto.k-end) in subst (λ n. c.loop-k.places.items ≡ replicate n None) e c.loop-k.invariant
