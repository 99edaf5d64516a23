-- Received bytes are buffered, and one read of enough bytes returns them all.
use Rattle.std.proofs.Common.{◌≡◌, ℕ, ◌+◌, ◌-◌, ◌<◌, ◌≤◌, true, cond, List, [], ◌∷◌, zero, suc, length, slice_get, refl, sym, ◌∙◌, arith, Option, None, Some, inl, inr, nat_le}
use Rattle.std.specs.Option.{option_or}
use Rattle.std.specs.FinMap as fmap
use Rattle.std.proofs.lemmas.Bool.{cases_lt}
use Rattle.std.proofs.lemmas.Bool.Decides.{nat_tests}
use Rattle.st_reassembly.specs.Held.{Held, after_insert, is_wanted, piece_at}
use Rattle.st_reassembly.proofs.Pointwise.{joins_after}
use Rattle.st_reassembly.specs.Run.{IsRun}
use Rattle.st_world_quiet.specs.Mirrored.{IsOn}

pub wanted_on : (q : ℕ) (s : Held) → IsOn s → s.read ≤ q → is_wanted s q ≡ true
wanted_on q s on unread = let a = on.aborted in let e = on.end in let b : nat_le s.read q ≡ true = grind (arith, nat_tests) in rw (a, b, e) refl

pub has_byte : (xs : List ℕ) (i : ℕ) → i < length xs → (b : ℕ) × (slice_get xs i ≡ Some b)
has_byte [] i l = absurd (omega arith)
has_byte (x ∷ xs) zero l = (x, refl)
has_byte (x ∷ xs) (suc i) l = has_byte xs i (omega arith)

either_has : (g h : Option ℕ) → (b : ℕ) × (h ≡ Some b) → (b : ℕ) × (option_or g h ≡ Some b)
either_has None h one = one
either_has (Some b) h one = (b, refl)

-- each byte of a chunk past the read count is buffered
pub insert_has : (xs : List ℕ) (o q : ℕ) (s : Held) → IsOn s → s.read ≤ q → o ≤ q → q < o + length xs → (b : ℕ) × (fmap.get (after_insert o xs s).bytes q ≡ Some b)
insert_has xs o q s on unread from till =
    let here = has_byte xs (q - o) (omega (arith, from, till)) in
    let wanted = wanted_on q s on unread in
    let behind : nat_le o q ≡ true = grind (arith, nat_tests) in
    let brings : cond (is_wanted s q) (piece_at o xs q) None ≡ Some here.0 = rw (wanted, behind) here.1 in
    let got = either_has (fmap.get s.bytes q) (cond (is_wanted s q) (piece_at o xs q) None) (here.0, brings) in
    (got.0, (joins_after o xs s).bytes q ∙ got.1)

-- a run has all bytes that are buffered without a gap
pub run_is_all : (s : Held) (run : List ℕ) (end : ℕ) → IsRun s run → s.read ≤ end → ((q : ℕ) → s.read ≤ q → q < end → (b : ℕ) × (fmap.get s.bytes q ≡ Some b)) → ((q : ℕ) → end ≤ q → fmap.get s.bytes q ≡ None) → s.read + length run ≡ end
run_is_all s run end is_run l held none = elim (cases_lt (s.read + length run) end) [
  | inl short ↦ absurd (let got = held (s.read + length run) (omega arith) short in let stops = is_run.longest in let clash : ◌≡◌ {A = Option ℕ} None (Some got.0) = sym stops ∙ got.1 in cc)
  | inr enough ↦ elim (cases_lt end (s.read + length run)) [
    | inl long ↦ absurd (let place : s.read + (end - s.read) ≡ end = omega arith in
        let got = is_run.held (end - s.read) (omega arith) in
        let there = none end (omega arith) in
        let at_end = rw place at got in
        clash _ _ there at_end)
    | inr exact ↦ omega arith
  ]
]
  where
    clash : (g : Option ℕ) (b : ℕ) → g ≡ None → g ≡ Some b → ⊥
    clash g b n e = let c : ◌≡◌ {A = Option ℕ} None (Some b) = sym n ∙ e in cc
