-- A clean close by the least offset past every byte, and as a function: one and the same.
use Rattle.std.proofs.Common.{◌≡◌, ℕ, ◌<◌, ◌≤◌, false, cond, Some, refl, ap, ◌∙◌, sym, subst, arith}
use Rattle.std.specs.Prelude.{◌↔◌}
use Rattle.std.specs.FinMap as map
use Rattle.st_reassembly.specs.Held.{Held, is_over}
use Rattle.st_reassembly.specs.Run.{past}
use Rattle.st_reassembly.specs.Closing.{IsPastAll, Ends, past_all, after_finish}
use Rattle.st_reassembly.proofs.Pointwise.{same_held}
use Rattle.st_reassembly.proofs.Runs.{held_below, past-within}

past_all-is : (s : Held) → IsPastAll s (past_all s)
past_all-is s = record { read = omega arith; held = λ q h. let below : q < past (map.keys s.bytes) = held_below s q h in omega arith }

past_all-least : (s : Held) (e : ℕ) → IsPastAll s e → past_all s ≤ e
past_all-least s e p =
    let few : past (map.keys s.bytes) ≤ e = past-within s e p.held in
    let from : s.read ≤ e = p.read in
    omega arith

still_open : (s : Held) → is_over s ≡ false → after_finish s ≡ record s { end = Some (past_all s) }
still_open s e = ap (λ b. cond b s (record s { end = Some (past_all s) })) e

finished_ends : (s : Held) → Ends s (record s { end = Some (past_all s) })
finished_ends s = record { end = (past_all s, refl, past_all-is s, past_all-least s); bytes = refl; read = refl; aborted = refl }

one_end : (s t : Held) → Ends s t → t ≡ record s { end = Some (past_all s) }
one_end s t e =
    let high : past_all s ≤ e.end.0 = past_all-least s e.end.0 e.end.2 in
    let low : e.end.0 ≤ past_all s = e.end.3 (past_all s) (past_all-is s) in
    let same : e.end.0 ≡ past_all s = omega arith in
    same_held t (record s { end = Some (past_all s) }) e.bytes e.read (e.end.1 ∙ ap (λ n. Some n) same) e.aborted

pub ends_is : (s t : Held) → is_over s ≡ false → Ends s t ↔ (t ≡ after_finish s)
ends_is s t e = (λ w. one_end s t w ∙ sym (still_open s e), λ w. subst (Ends s) (sym (w ∙ still_open s e)) (finished_ends s))
