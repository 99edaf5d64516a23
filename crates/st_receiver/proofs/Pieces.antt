-- A chunk that an inbox accepts.
use Rattle.std.proofs.Common.{◌≡◌, ◌+◌, ◌-◌, ◌^◌, ◌<◌, ℕ, Bool, true, false, cond, List, length, arith, refl, sym, ap, ◌∙◌, Result, Ok, Err, IsOk}
use Rattle.std.specs.Prelude.{is_err, nat_le, nat_lt, not, ◌&&◌}
use Rattle.std.proofs.lemmas.Bool.Decides.{nat_tests}
use Rattle.st_reassembly.specs.declared.error.InboxError.{InboxError}
use Rattle.st_reassembly.specs.declared.error.InboxError.TheVariants.{PastWindow, Overflow}
use Rattle.st_reassembly.specs.Held.{Held, is_over, after_insert}
use Rattle.st_reassembly.specs.Inserting.{inserted, Inserts}

abbrev answer_by : Bool → Bool → Held → Result Held InboxError
answer_by a b t = cond a (Err Overflow) (cond b (Err PastWindow) (Ok t))

fits_by : (a b : Bool) (n : ℕ) (t : Held) → nat_le (2 ^ 64) n ≡ a → is_err (answer_by a b t) ≡ false → n < 2 ^ 64
fits_by true b n t f e = absurd cc
fits_by false b n t f e = grind (arith, nat_tests)

-- what is not refused ends below 2^64
pub piece_fits : (offset : ℕ) (xs : List ℕ) (h : Held) → is_err (inserted offset xs h) ≡ false → offset + length xs < 2 ^ 64
unfolding inserted
piece_fits offset xs h e = fits_by (nat_le (2 ^ 64) (offset + length xs)) (not (is_over h) && nat_lt (h.read + 65536) (offset + length xs)) (offset + length xs) (after_insert offset xs h) refl e

-- and it goes in
pub piece_goes : (offset : ℕ) (xs : List ℕ) (s t : Held) (r : Result (Unit {0}) InboxError) → Inserts offset xs s t r → is_err (inserted offset xs s) ≡ false → IsOk r
piece_goes offset xs s t (Ok u) i e = refl
piece_goes offset xs s t (Err f) i e = absurd (let z : is_err (inserted offset xs s) ≡ true = λ j. is_err (i.1 j) in cc)

window_by : (a b : Bool) (n : ℕ) (t : Held) → nat_le (2 ^ 64) n ≡ a → n < 2 ^ 64 → b ≡ is_err (answer_by a b t)
window_by true b n t f l = absurd (grind (arith, nat_tests))
window_by false true n t f l = refl
window_by false false n t f l = refl

pub past_window : (offset : ℕ) (xs : List ℕ) (h : Held) → offset + length xs < 2 ^ 64 → (not (is_over h) && nat_lt (h.read + 65536) (offset + length xs)) ≡ is_err (inserted offset xs h)
unfolding inserted
past_window offset xs h l = window_by (nat_le (2 ^ 64) (offset + length xs)) (not (is_over h) && nat_lt (h.read + 65536) (offset + length xs)) (offset + length xs) (after_insert offset xs h) refl l

window_test : (n r s : ℕ) → s ≡ n - r → nat_lt 65536 s ≡ nat_lt (r + 65536) n
window_test n r s e = grind (arith, nat_tests)

pub past_alive : (offset : ℕ) (xs : List ℕ) (h : Held) (n r s : ℕ) → is_over h ≡ false → n ≡ offset + length xs → r ≡ h.read → s ≡ n - r → nat_lt 65536 s ≡ (not (is_over h) && nat_lt (h.read + 65536) (offset + length xs))
past_alive offset xs h n r s over e f d = window_test n r s d ∙ (λ i. nat_lt (f i + 65536) (e i)) ∙ ap (λ b. not b && nat_lt (h.read + 65536) (offset + length xs)) (sym over)

pub past_over : (offset : ℕ) (xs : List ℕ) (h : Held) (b : Bool) → b ≡ is_over h → b ≡ true → not b ≡ (not (is_over h) && nat_lt (h.read + 65536) (offset + length xs))
past_over offset xs h b e is = ap not is ∙ ap (λ o. not o && nat_lt (h.read + 65536) (offset + length xs)) (sym is ∙ e)

err_by : (a b c : Bool) (t u : Held) → b ≡ c → is_err (answer_by a b t) ≡ is_err (answer_by a c u)
err_by true b c t u e = refl
err_by false true true t u e = refl
err_by false false false t u e = refl
err_by false true false t u e = absurd (cc)
err_by false false true t u e = absurd (cc)

-- whether it is refused depends on the state of the direction alone
pub err_same : (offset : ℕ) (xs : List ℕ) (s t : Held) → (not (is_over s) && nat_lt (s.read + 65536) (offset + length xs)) ≡ (not (is_over t) && nat_lt (t.read + 65536) (offset + length xs)) → is_err (inserted offset xs s) ≡ is_err (inserted offset xs t)
unfolding inserted
err_same offset xs s t e = err_by (nat_le (2 ^ 64) (offset + length xs)) _ _ (after_insert offset xs s) (after_insert offset xs t) e

pub ruleset pieces = (piece_fits, piece_goes)
