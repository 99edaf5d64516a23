-- The rule of a full stream as one comparison.
use Rattle.std.proofs.Common.{◌≡◌, ℕ, ◌+◌, ◌-◌, ◌^◌, ◌<◌, ◌≤◌, Bool, true, false, ◌||◌, cond, refl, ap, ◌∙◌, arith, None, Some}
use Rattle.std.specs.Prelude.{min, nat_lt, nat_le}
use Rattle.std.specs.FinMap.{len}
use Rattle.std.proofs.lemmas.Bool.Decides.{nat_tests}
use Rattle.st_sender.specs.declared.error.OutboxError.TheVariants.{Closed, Full}
use Rattle.st_sender.specs.Sending.{Outgoing}
use Rattle.st_sender.specs.Refusals.{is_closed}
use Rattle.st_sender.specs.Room.{IsRoom}

not_over : (a b : Bool) → (a || b) ≡ false → (a ≡ false) × (b ≡ false)
not_over false false e = (refl, refl)
not_over true b e = absurd (cc)
not_over false true e = absurd (cc)

one_test : (u a m n : ℕ) → n ≡ min (262144 - u) (2 ^ 63 - 1 - a) → u ≤ 262144 → a < 2 ^ 63 → (nat_lt 262144 (u + m) || nat_le (2 ^ 63) (a + m)) ≡ nat_lt n m
one_test u a m n e f g = by (nat_lt 262144 (u + m)) (nat_le (2 ^ 63) (a + m)) (nat_lt n m) refl refl refl
  where
    by : (b c d : Bool) → nat_lt 262144 (u + m) ≡ b → nat_le (2 ^ 63) (a + m) ≡ c → nat_lt n m ≡ d → (b || c) ≡ d
    by true c true p q r = refl
    by false true true p q r = refl
    by false false false p q r = refl
    by true c false p q r = absurd (grind (arith, nat_tests))
    by false true false p q r = absurd (grind (arith, nat_tests))
    by false false true p q r = absurd (grind (arith, nat_tests))

pub is_room : (x : Outgoing) (all n : ℕ) → is_closed x ≡ false → (nat_lt 262144 (len x.unacked + 0) || nat_le (2 ^ 63) (all + 0)) ≡ false → n ≡ min (262144 - len x.unacked) (2 ^ 63 - 1 - all) → IsRoom (Some x) all n
is_room x all n unclosed over e m =
    let p = not_over (nat_lt 262144 (len x.unacked + 0)) (nat_le (2 ^ 63) (all + 0)) over in
    let f : len x.unacked ≤ 262144 = grind (arith, nat_tests) in
    let g : all < 2 ^ 63 = grind (arith, nat_tests) in
    ap (λ b. cond b (Some Closed) (cond (nat_lt 262144 (len x.unacked + m) || nat_le (2 ^ 63) (all + m)) (Some Full) None)) unclosed
    ∙ ap (λ b. cond b (Some Full) None) (one_test (len x.unacked) all m n e f g)
