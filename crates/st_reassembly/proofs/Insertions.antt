-- What an insert answers, case by case.
use Rattle.std.proofs.Common.{◌≡◌, ℕ, ◌+◌, ◌^◌, ◌<◌, ◌≤◌, true, false, ◌&&◌, List, length, Ok, Err, arith, ap, ◌∙◌, cond}
use Rattle.std.specs.Prelude.{not, nat_lt, nat_le}
use Rattle.std.proofs.lemmas.Bool.Decides.{nat_tests}
use Rattle.st_reassembly.specs.declared.error.InboxError.TheVariants.{PastWindow, Overflow}
use Rattle.st_reassembly.specs.Held.{Held, is_over, after_insert}
use Rattle.st_reassembly.specs.Inserting.{inserted}

pub inserted-overflow : (offset : ℕ) (xs : List ℕ) (s : Held) → 2 ^ 64 ≤ offset + length xs → inserted offset xs s ≡ Err Overflow
unfolding inserted
inserted-overflow offset xs s past = grind (arith, nat_tests)

fits_test : (n : ℕ) → n < 2 ^ 64 → nat_le (2 ^ 64) n ≡ false
fits_test n l = grind (arith, nat_tests)

pub inserted-past_window : (offset : ℕ) (xs : List ℕ) (s : Held) → offset + length xs < 2 ^ 64 → (not (is_over s) && nat_lt (s.read + 65536) (offset + length xs)) ≡ true → inserted offset xs s ≡ Err PastWindow
unfolding inserted
inserted-past_window offset xs s fits past =
    ap (λ b. cond b (Err Overflow) (cond (not (is_over s) && nat_lt (s.read + 65536) (offset + length xs)) (Err PastWindow) (Ok (after_insert offset xs s)))) (fits_test (offset + length xs) fits)
    ∙ ap (λ b. cond b (Err PastWindow) (Ok (after_insert offset xs s))) past

pub inserted-ok : (offset : ℕ) (xs : List ℕ) (s : Held) → offset + length xs < 2 ^ 64 → (not (is_over s) && nat_lt (s.read + 65536) (offset + length xs)) ≡ false → inserted offset xs s ≡ Ok (after_insert offset xs s)
unfolding inserted
inserted-ok offset xs s fits near =
    ap (λ b. cond b (Err Overflow) (cond (not (is_over s) && nat_lt (s.read + 65536) (offset + length xs)) (Err PastWindow) (Ok (after_insert offset xs s)))) (fits_test (offset + length xs) fits)
    ∙ ap (λ b. cond b (Err PastWindow) (Ok (after_insert offset xs s))) near
