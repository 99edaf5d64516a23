-- How frames follow one another in a log.
use Rattle.std.proofs.Common.{◌≡◌, ◌≢◌, ◌↔◌, ℕ, zero, suc, ◌+◌, ◌-◌, ◌<◌, ◌≤◌, List, length, Bool, true, false, inl, inr, arith, refl, sym, ap, ap₂, ◌∙◌, ◌*◌, mul-le-mul_right}
use Rattle.std.proofs.lemmas.Bool.{false≢true, cases_eq, cases_lt, not-true, not-false}
use Rattle.sqlite_wal.specs.Format.{part, be32, stored_sum, IsFrame}
use Rattle.sqlite_wal.specs.Recovery.{frame_at, frames_len, frame, header, sum_before, Passes}
use Rattle.sqlite_disk.specs.Disk.{Holds}
use Rattle.sqlite_disk.specs.declared.Disk.{Ghosts}
use Rattle.sqlite_wal.specs.Reads.{OnlyReads}
use Rattle.sqlite_wal.proofs.PartLemmas.{frames_len-le, held_is_part}
use Rattle.sqlite_wal.proofs.FormatLemmas.{be32-part, pair}
use Rattle.st_hop_books.specs.declared.damage.Fit.{Fit}
use Rattle.st_hop_books.specs.declared.damage.Fit.TheVariants.{Absent, Broken, Inner, Last}
use Rattle.st_hop_books.specs.Damage.{IsFit, IsPast, IsWanted, HasNoNext, wants}

-- the checksum in a frame's header, read as the eight bytes by themselves
pub sum_in_frame : (log : List ℕ) (at n : ℕ) → 24 ≤ n → stored_sum (part log at n) 16 ≡ stored_sum (part log (at + 16) 8) 0
sum_in_frame log at n wide =
    let first : be32 (part log at n) 16 ≡ be32 (part log (at + 16) 8) 0 =
    be32-part log at n 16 (omega arith) ∙ sym (be32-part log (at + 16) 8 0 (omega arith) ∙ ap (be32 log) (omega arith)) in
    let second : be32 (part log at n) 20 ≡ be32 (part log (at + 16) 8) 4 =
    be32-part log at n 20 (omega arith) ∙ sym (be32-part log (at + 16) 8 4 (omega arith) ∙ ap (be32 log) (omega arith)) in
    ap₂ pair first second

-- if a frame is past the end, so is each later one
pub past_stays : (page_size : ℕ) (log : List ℕ) (i j : ℕ) → IsPast page_size log i → i ≤ j → ¬ Passes page_size log j
past_stays page_size log i j past low passes = absurd (omega (arith, frames_len-le page_size i j low, passes.within))

pub wanted_not : (ends : Bool) (page_size : ℕ) (log : List ℕ) (from i : ℕ) → ((j : ℕ) → from ≤ j → j < i → ¬ IsWanted ends page_size log j) → ¬ IsWanted ends page_size log i
    → (j : ℕ) → from ≤ j → j < i + 1 → ¬ IsWanted ends page_size log j
wanted_not ends page_size log from i before here j low high = elim (cases_eq j i) [
  | inl same ↦ rw same here
  | inr other ↦ before j low (omega arith)
]

-- the checksum before a later frame is in the header of the frame before it
pub sum_after : (page_size : ℕ) (log : List ℕ) (i : ℕ) → i ≢ 0 → stored_sum (part log (frame_at page_size (i - 1) + 16) 8) 0 ≡ sum_before page_size log i
sum_after page_size log zero some = absurd (some refl)
sum_after page_size log (suc i) some =
    let same : suc i - 1 ≡ i = omega arith in
    rw same (sym (sum_in_frame log (frame_at page_size i) (24 + page_size) (omega arith)))

-- a frame that was read, with the header and the checksum that the log has
pub passes_read : (page_size : ℕ) (log : List ℕ) (i : ℕ) (head : List ℕ) (before : ℕ × ℕ) (buf : List ℕ) → head ≡ header log → before ≡ sum_before page_size log i → frame page_size log i ≡ buf → frame_at page_size i + (24 + page_size) ≤ length log
    → IsFrame head before buf ↔ Passes page_size log i
passes_read page_size log i head before buf is_head is_before is_frame within =
    rw (is_head, is_before, ← is_frame) (λ passes. record { within = within; passes = passes }, λ passes. passes.passes)

-- no frame lies past this
pub frames_few : (page_size i : ℕ) → page_size ≤ 65536 → i ≤ 0xffff_ffff → frames_len page_size i ≤ 0xffff_ffff * 65560
unfolding frames_len
frames_few page_size i size few =
    let low : i * (24 + page_size) ≤ 0xffff_ffff * (24 + page_size) = mul-le-mul_right (24 + page_size) few in
    omega arith

-- the bytes that were read are the frame's
pub frame_read : (log buf : List ℕ) (page_size i at : ℕ) → at ≡ frame_at page_size i → Holds log at buf → length buf ≡ 24 + page_size → frame page_size log i ≡ buf
frame_read log buf page_size i at here holds len =
    ap (λ (a : ℕ). part log a (24 + page_size)) (sym here) ∙ held_is_part log buf at (24 + page_size) holds len

-- a frame that fits as is wanted
pub wanted_fits : (ends : Bool) (page_size : ℕ) (log : List ℕ) (i : ℕ) (fit : Fit) → IsFit page_size log i fit → wants fit ends ≡ true → IsWanted ends page_size log i
wanted_fits ends page_size log i Absent h yes' = absurd (false≢true yes')
wanted_fits ends page_size log i Broken h yes' = absurd (false≢true yes')
wanted_fits ends page_size log i Inner h yes' = (h.0, λ so. absurd (false≢true (sym (not-true ends yes') ∙ so)))
wanted_fits ends page_size log i Last h yes' = (h.0, λ so. h.1)

-- one that does not
pub other_fits : (ends : Bool) (page_size : ℕ) (log : List ℕ) (i : ℕ) (fit : Fit) → IsFit page_size log i fit → wants fit ends ≡ false → ¬ IsWanted ends page_size log i
other_fits ends page_size log i Absent h no' wanted = past_stays page_size log i i h (omega arith) wanted.0
other_fits ends page_size log i Broken h no' wanted = h wanted.0
other_fits ends page_size log i Inner h no' wanted = wanted.1 (not-false ends no') h.1
other_fits ends page_size log i Last h no' wanted = false≢true (sym no')

-- if a frame is past the end, none is wanted from there on
pub none_past : (ends : Bool) (page_size : ℕ) (log : List ℕ) (from i : ℕ) → IsPast page_size log i → ((j : ℕ) → from ≤ j → j < i → ¬ IsWanted ends page_size log j) → HasNoNext ends page_size log from
none_past ends page_size log from i past before j low wanted = elim (cases_lt j i) [ inl high ↦ before j low high wanted | inr h ↦ past_stays page_size log i j past h wanted.0 ]

pub reads_on : {D : Type 0} {g : Ghosts D} {a b c : D} → OnlyReads g a b → OnlyReads g b c → OnlyReads g a c
reads_on p q = record {
  seen = q.seen ∙ p.seen;
  clean = λ h. p.clean (q.clean h);
  usable = q.usable;
  key = q.key ∙ p.key;
  rot = q.rot ∙ p.rot;
  crash = λ left may. p.crash left (q.crash left may);
}
