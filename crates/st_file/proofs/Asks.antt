-- Calls counted one after the other, and calls of two parties counted down from one number.
use Rattle.std.proofs.Common.{◌≡◌, ℕ, ◌+◌, ◌-◌, arith, refl, ap, ◌∙◌, Option, Some, None}
use Rattle.st_devices.specs.Tallies.{TakesTurns}
use Rattle.st_devices.specs.declared.tally.Tally.{Tally}
use Rattle.st_file.specs.Sinks.{calls_after}
use Rattle.st_file.specs.Spending.{Spends, TakesAsks}

pub calls_sum : (m n : ℕ) (a : Option ℕ) → calls_after m (calls_after n a) ≡ calls_after (n + m) a
calls_sum m n None = refl
calls_sum m n (Some k) = ap (λ x. Some x) (omega arith)

pub spends_turns : (t u v : Tally) (a b : Option ℕ) (before now after : ℕ) → Spends t u a b before now → TakesTurns u v now after → Spends t v a b before after
spends_turns t u v a b before now after s x = record {
  device = s.device + (now - after);
  asked = s.asked;
  sum = omega (arith, s.sum, x.fewer);
  device_calls = omega (arith, s.device_calls, x.calls);
  asked_calls = s.asked_calls;
}

pub spends_asks : (t u : Tally) (a b c : Option ℕ) (before now after : ℕ) → Spends t u a b before now → TakesAsks b c now after → Spends t u a c before after
spends_asks t u a b c before now after s x = record {
  device = s.device;
  asked = s.asked + (now - after);
  sum = omega (arith, s.sum, x.fewer);
  device_calls = s.device_calls;
  asked_calls = x.calls ∙ ap (λ y. calls_after (now - after) y) s.asked_calls ∙ calls_sum (now - after) s.asked a;
}
