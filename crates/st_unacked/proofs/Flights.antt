-- The end of what a sequence carries, and that a claim can be taken back.
use Rattle.std.proofs.Common.{◌≡◌, ℕ, ◌+◌, ◌-◌, ◌<◌, ◌≤◌, Bool, true, false, cond, List, length, Option, Some, None, IsSome, refl, ap, ◌∙◌, sym, arith, inl, inr}
use Rattle.std.specs.Prelude.{not, nat_eq}
use Rattle.std.specs.Cmp.{nat_cmp_total}
use Rattle.std.specs.FinMap as fmap
use Rattle.std.proofs.lemmas.Bool.{cases_lt}
use Rattle.std.proofs.lemmas.Bool.Decides.{nat_tests}
use Rattle.st_streams.specs.Table.{is_between, table, put_same}
use Rattle.st_streams.proofs.Tables.{get-table_in, table-inside, get-put_same, get-kept}
use Rattle.st_unacked.specs.declared.run.Run.{Run}
use Rattle.st_unacked.specs.Sent.{Sent, is_by, after_claim, after_failed, IsFlightEnd}
use Rattle.st_unacked.specs.Laws.{AClaimIsTakenBack}
use Rattle.st_unacked.specs.Runs.{flight_of, flight_at, shown_by, IsTiled}
use Rattle.st_unacked.proofs.Views.{same_sent}

-- a sequence's end is one number
pub one_end : (sequence : ℕ) (s : Sent) (e f : ℕ) → IsFlightEnd sequence s e → IsFlightEnd sequence s f → e ≡ f
one_end sequence s e f a b = let low : e ≤ f = a.least f b.past in let high : f ≤ e = b.least e a.past in omega arith

some_by : (sequence : ℕ) (o : Option ℕ) → is_by sequence o ≡ true → IsSome o
some_by sequence None e = absurd cc
some_by sequence (Some n) e = refl

module _ (sequence : ℕ) (runs : List Run) (byte : ℕ → ℕ) (first n : ℕ) (tiled : IsTiled runs first n) where
  not_past : (q : ℕ) → is_by sequence (flight_at runs q) ≡ true → first + n ≤ q → ⊥
  not_past q e l = let none : is_by sequence (flight_at runs q) ≡ false = ap (λ s. is_by sequence (flight_of s)) (tiled.outside q l) in cc

  within : (q : ℕ) → is_by sequence (flight_at runs q) ≡ true → q < first + n
  within q e = elim (cases_lt q (first + n)) [ inl l ↦ l | inr l ↦ absurd (not_past q e l) ]

  past : (end : ℕ) → ((q : ℕ) → first ≤ q → is_by sequence (flight_at runs q) ≡ true → q < end) → (q : ℕ) → is_by sequence (fmap.get (table (flight_at runs) first n) q) ≡ true → q < end
  past end h q e =
      let w = table-inside (flight_at runs) first n q (some_by sequence (fmap.get (table (flight_at runs) first n) q) e) in
      h q w.from (ap (is_by sequence) (sym (get-table_in (flight_at runs) first n q w.from w.before)) ∙ e)

  shown : (q : ℕ) → first ≤ q → is_by sequence (flight_at runs q) ≡ true → is_by sequence (fmap.get (table (flight_at runs) first n) q) ≡ true
  shown q l e = ap (is_by sequence) (get-table_in (flight_at runs) first n q l (within q e)) ∙ e

  pub flight_end_view : (end : ℕ) → ((q : ℕ) → first ≤ q → is_by sequence (flight_at runs q) ≡ true → q < end) → (0 < end → (first < end) × (is_by sequence (flight_at runs (end - 1)) ≡ true))
      → IsFlightEnd sequence (shown_by runs byte first n) end
  flight_end_view end below last = record {
    past = past end below;
    least = λ f h. elim (cases_lt 0 end) [
      | inl l ↦ (let w = last l in let m : end - 1 < f = h (end - 1) (shown (end - 1) (omega (arith, w.0)) w.1) in omega arith)
      | inr l ↦ omega arith
    ];
  }

-- an offset after a claim by a fresh sequence, and its failure
back : (b : Bool) (sequence : ℕ) (g : Option ℕ) → is_by sequence g ≡ false → (b ≡ true → g ≡ None) → nat_eq sequence sequence ≡ true
    → cond (not (is_by sequence (cond b (Some sequence) g))) (cond b (Some sequence) g) None ≡ g
back true sequence g fresh free same = ap (λ t. cond (not t) (Some sequence) None) same ∙ sym (free refl)
back false sequence g fresh free same = ap (λ t. cond (not t) g None) fresh

itself : (n : ℕ) → nat_eq n n ≡ true
itself n = grind (arith, nat_tests)

both : (a e q : ℕ) → is_between a e q ≡ true → (a ≤ q) × (q < e)
both a e q h = (grind (arith, nat_tests), grind (arith, nat_tests))

pub taken_back : AClaimIsTakenBack
taken_back sequence from n s fresh free =
    let m = put_same s.flying from n sequence in
    same_sent (after_failed sequence (after_claim sequence from n s)) s refl
    (fmap.same_map nat_cmp_total fmap.nat_cmp-IsAntisymmetric _ _ (λ q.
    get-kept m (λ p. not (is_by sequence (fmap.get m p))) q
    ∙ ap (λ g. cond (not (is_by sequence g)) g None) (get-put_same n s.flying from sequence q)
    ∙ back (is_between from (from + n) q) sequence (fmap.get s.flying q) (fresh q) (λ e. free q (both from (from + n) q e).0 (both from (from + n) q e).1) (itself sequence)))
    refl
