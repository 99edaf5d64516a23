use Rattle.std.proofs.lemmas.Grind.{common_steps}
use Rattle.std.proofs.Common.{ℕ, ◌≡◌, ◌<◌, ◌^◌, zero, suc, refl, max, ap, subst, sym, slice_index, replicate, arith, ◌∙◌}
use Rattle.st_sender.specs.Flights.{flying_end}
use Rattle.st_sender.proofs.in_flight.ends_of.Goals as goal

zero_at : (n k : ℕ) → slice_index (replicate n 0) k ≡ 0
zero_at zero k = refl
zero_at (suc n) zero = refl
zero_at (suc n) (suc k) = zero_at n k

max_zero : (n : ℕ) → max 0 n ≡ n
max_zero n = omega arith

pub loop-flight-init : goal.loop-flight-init
loop-flight-init g c = (
  (λ k h. ap (λ (n : ℕ). max n (flying_end k c.args.flights.now)) (zero_at 65 k) ∙ max_zero (flying_end k c.args.flights.now)),
  (λ k h. subst (λ (n : ℕ). n < 2 ^ 65) (sym (zero_at 65 k)) (omega arith)),
)

pub offset_bounds-flights-flight-index : goal.offset_bounds-flights-flight-index
offset_bounds-flights-flight-index g c = c.loop-flight.auto.flight-index-end

pub bounds-flights-flight-index : goal.bounds-flights-flight-index
bounds-flights-flight-index g c = c.loop-flight-test.true

pub loop-flight-preserved : goal.loop-flight-preserved
loop-flight-preserved g c = grind (arith, common_steps)

pub returns : goal.returns
returns g c = grind (arith, common_steps)
