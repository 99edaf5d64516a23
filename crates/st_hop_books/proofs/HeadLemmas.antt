-- The header of a log, as it is read.
use Rattle.std.proofs.Common.{◌≡◌, ◌↔◌, ℕ, ◌≤◌, List, length, slice_index, Bool, not, nat_eq, IsTrue, inl, inr, arith, sym, ap, subst, ◌∙◌}
use Rattle.std.proofs.lemmas.Bool.{not-true, not_from_false, eqb-false, eqb-true, ne_eqb, and_parts}
use Rattle.std.proofs.Common.{◌&&◌}
use Rattle.sqlite_disk.specs.Disk.{Holds}
use Rattle.sqlite_wal.specs.Format.{be32, IsSigned}
use Rattle.sqlite_wal.specs.Recovery.{header, IsBegun}
use Rattle.sqlite_wal.proofs.PartLemmas.{held_is_part, slice_index-part}
use Rattle.st_hop_books.specs.Damage.{IsBroken, IsDamaged}

pub header_read : (log buf : List ℕ) → Holds log 0 buf → length buf ≡ 32 → buf ≡ header log
header_read log buf holds len = sym (held_is_part log buf 0 32 holds len)

pub unsigned_damaged : (log head : List ℕ) → head ≡ header log → ¬ IsSigned head → IsTrue (not (nat_eq (slice_index head 0) 0)) ↔ IsDamaged log
unsigned_damaged log head is unsigned =
    let first : slice_index head 0 ≡ slice_index log 0 = ap (λ (b : List ℕ). slice_index b 0) is ∙ slice_index-part log 0 32 0 (omega arith) in (
      λ some. inl (λ none. eqb-false _ _ (not-true _ some) (first ∙ none), λ both. unsigned (subst (λ (b : List ℕ). IsSigned b) (sym is) both.1)),
      λ damaged. elim damaged [
        | inl bad ↦ not_from_false _ (ne_eqb _ _ (λ none. bad.0 (sym first ∙ none)))
        | inr broken ↦ absurd (unsigned (subst (λ (b : List ℕ). IsSigned b) (sym is) broken.0))
      ],
    )

pub signed_damaged : (log head : List ℕ) (b : Bool) (page_size : ℕ) → 32 ≤ length log → head ≡ header log → IsSigned head → page_size ≡ be32 head 8 → IsTrue b ↔ IsBroken page_size log → IsTrue b ↔ IsDamaged log
signed_damaged log head b page_size long is signed size found =
    let is_signed : IsSigned (header log) = subst (λ (b : List ℕ). IsSigned b) is signed in
    let same : page_size ≡ be32 (header log) 8 = size ∙ ap (λ (b : List ℕ). be32 b 8) is in (
      λ yes'. inr (is_signed, subst (λ (n : ℕ). IsBroken n log) same (found.0 yes')),
      λ damaged. elim damaged [
        | inl bad ↦ absurd (bad.1 (long, is_signed))
        | inr broken ↦ found.1 (subst (λ (n : ℕ). IsBroken n log) (sym same) broken.1)
      ],
    )

pub begun_read : (log head : List ℕ) (version size round : ℕ) → 32 ≤ length log → head ≡ header log → IsSigned head → version ≡ be32 head 4 → size ≡ be32 head 8 → round ≡ be32 head 12
    → IsTrue ((nat_eq version 3007000 && nat_eq size 4096) && nat_eq round 4294967295) → IsBegun 4096 log
begun_read log head version size round long is signed is_version is_size is_round yes' =
    let both = and_parts _ _ yes' in
    let front = and_parts _ _ both.0 in
    let at = λ (n : ℕ). ap (λ (b : List ℕ). be32 b n) (sym is) in (
      long,
      record {
        signed = subst (λ (b : List ℕ). IsSigned b) is signed;
        version = at 4 ∙ sym is_version ∙ eqb-true _ _ front.0;
        size = at 8 ∙ sym is_size ∙ eqb-true _ _ front.1;
      },
      at 12 ∙ sym is_round ∙ eqb-true _ _ both.1,
    )
