use Rattle.std.proofs.Common.{◌≡◌, ℕ, ◌∙◌, ◌%◌, ap, None, Some, List, []}
use Rattle.std.specs.Prelude.{if◌then◌else◌, slice_index}
use Rattle.st_reassembly.specs.Ring.{is_marked, place}
use Rattle.st_reassembly.proofs.Bits.{has_bit-zero}
use Rattle.st_reassembly.proofs.ring.none.Goals as goal

no_mark : (bytes marks : List ℕ) → marks ≡ [] → (k : ℕ) → place bytes marks k ≡ None
no_mark bytes marks e k = ap (λ b. if b then Some (slice_index bytes k) else None) (ap (λ xs. is_marked xs k) e ∙ has_bit-zero (k % 64))

pub returns-clause-empty : goal.returns-clause-empty
returns-clause-empty g c q = no_mark c.new.result.items c.new-2.result.items c.new-2.ensures.items (q % 65536)
