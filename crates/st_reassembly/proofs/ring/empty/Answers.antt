use Rattle.std.proofs.Common.{◌≡◌, ℕ, ◌∙◌, ◌/◌, ◌%◌, ap, None, get_or, List, inl, inr}
use Rattle.std.specs.Prelude.{replicate, if◌then◌else◌, Some, slice_index}
use Rattle.std.proofs.lemmas.Bool.{cases_lt}
use Rattle.std.proofs.lemmas.List.{get_or-replicate, get_or_past, length-replicate}
use Rattle.st_reassembly.specs.Ring.{has_bit, is_marked, place}
use Rattle.st_reassembly.proofs.Bits.{has_bit-zero}
use Rattle.st_reassembly.proofs.ring.empty.Goals as goal

all_zero : (n k z : ℕ) → get_or (replicate n z) k z ≡ z
all_zero n k z = elim (cases_lt k n) [ inl l ↦ get_or-replicate n k z z l | inr l ↦ get_or_past (replicate n z) k z (simp length-replicate l) ]

no_mark : (bytes marks : List ℕ) (n : ℕ) → marks ≡ replicate n 0 → (k : ℕ) → place bytes marks k ≡ None
no_mark bytes marks n e k = ap (λ b. if b then Some (slice_index bytes k) else None) (ap (λ xs. is_marked xs k) e ∙ ap (λ x. has_bit x (k % 64)) (all_zero n (k / 64) 0) ∙ has_bit-zero (k % 64))

pub returns-clause-empty : goal.returns-clause-empty
returns-clause-empty g c q = no_mark c.in_ok-bytes.bytes.items c.in_ok-marks.marks.items 1024 (c.in_ok-marks.ensures.items_if_clones_equal (λ y e. e)) (q % 65536)
