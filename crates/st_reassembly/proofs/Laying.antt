-- Chunks put into places, place by place and offset by offset.
use Rattle.std.proofs.Common.{◌≡◌, ℕ, ◌+◌, ◌-◌, ◌<◌, ◌≤◌, Bool, true, false, ◌||◌, List, length, Option, Some, None, max, min, refl, ap, ◌∙◌, sym, arith}
use Rattle.std.specs.Prelude.{nat_lt, slice_index, if◌then◌else◌}
use Rattle.std.specs.Option.{option_or}
use Rattle.std.specs.List.{slice_range}
use Rattle.std.proofs.lemmas.Bool.Decides.{nat_tests}
use Rattle.std.proofs.lemmas.List.Edits.{get_or-between, length-between}
use Rattle.st_streams.specs.Table.{is_between}
use Rattle.st_reassembly.specs.Ring.{byte_at}

-- one place after a gap from `first` on and before `last` was filled
pub filled_at : (p : Option ℕ) (m m' : Bool) (at n from first last k x x' y : ℕ) → at ≤ from → from ≤ first → first ≤ last → last ≤ at + n
    → m' ≡ (is_between first last k || m) → (first ≤ k → k < last → x' ≡ y) → (is_between first last k ≡ false → x' ≡ x)
    → (first ≤ k → k < last → m ≡ false) → (from ≤ k → k < first → m ≡ true)
    → (if m then Some x else None) ≡ option_or p (if nat_lt k from then (if is_between at (at + n) k then Some y else None) else None)
    → (if m' then Some x' else None) ≡ option_or p (if nat_lt k last then (if is_between at (at + n) k then Some y else None) else None)
filled_at None true m' at n from first last k x x' y a b c d em ey ex gap full cur = grind (arith, nat_tests)
filled_at None false m' at n from first last k x x' y a b c d em ey ex gap full cur = grind (arith, nat_tests)
filled_at (Some z) true m' at n from first last k x x' y a b c d em ey ex gap full cur = grind (arith, nat_tests)
filled_at (Some z) false m' at n from first last k x x' y a b c d em ey ex gap full cur = grind (arith, nat_tests)

or_none : (g : Option ℕ) → option_or g None ≡ g
or_none None = refl
or_none (Some x) = refl

pub index_range : (xs : List ℕ) (a b i j : ℕ) → a ≤ b → b ≤ length xs → i < b - a → j ≡ a + i → slice_index (slice_range xs a b) i ≡ slice_index xs j
index_range xs a b i j l m h e = get_or-between xs a b i 0 (omega arith) ∙ ap (slice_index xs) (sym e)

-- the part of a chunk for the places from `first` on and before `last`, written over them
module _ (new old piece : List ℕ) (at first last k : ℕ) (l : at ≤ first) (m : first ≤ last) (h : last ≤ at + length piece)
    (written : slice_index new k ≡ (if is_between first (first + length (slice_range piece (first - at) (last - at))) k then slice_index (slice_range piece (first - at) (last - at)) (k - first) else slice_index old k)) where
  part_end : first + length (slice_range piece (first - at) (last - at)) ≡ last
  part_end = omega (arith, length-between piece (first - at) (last - at) (omega arith))

  by_ends : slice_index new k ≡ (if is_between first last k then slice_index (slice_range piece (first - at) (last - at)) (k - first) else slice_index old k)
  by_ends = written ∙ ap (λ e. if is_between first e k then slice_index (slice_range piece (first - at) (last - at)) (k - first) else slice_index old k) part_end

  is_in : first ≤ k → k < last → is_between first last k ≡ true
  is_in from before = grind (arith, nat_tests)

  pub written_in : first ≤ k → k < last → slice_index new k ≡ slice_index piece (k - at)
  written_in from before =
      by_ends ∙ ap (λ b. if b then slice_index (slice_range piece (first - at) (last - at)) (k - first) else slice_index old k) (is_in from before)
      ∙ index_range piece (first - at) (last - at) (k - first) (k - at) (omega arith) (omega arith) (omega arith) (omega arith)

  pub written_out : is_between first last k ≡ false → slice_index new k ≡ slice_index old k
  written_out e = by_ends ∙ ap (λ b. if b then slice_index (slice_range piece (first - at) (last - at)) (k - first) else slice_index old k) e

-- one offset of a window after the part of a chunk between its bounds was laid
pub laid_at : (old new : Option ℕ) (offset n low high q x y : ℕ)
    → max offset low < min high (offset + n) → low ≤ q → q < low + 65536
    → (max offset low ≤ q → new ≡ option_or old (if is_between (max offset low) (min high (offset + n)) q then Some x else None))
    → (q < max offset low → new ≡ old)
    → (max offset low ≤ q → q < min high (offset + n) → x ≡ y)
    → new ≡ option_or old (if nat_lt q high then (if is_between offset (offset + n) q then Some y else None) else None)
laid_at None new offset n low high q x y some l m lays around same = grind (arith, nat_tests)
laid_at (Some z) new offset n low high q x y some l m lays around same = grind (arith, nat_tests)

-- the same, from what laying the part says
pub joined_at : (old new : Option ℕ) (piece : List ℕ) (offset low high start end q : ℕ) → start ≡ max offset low → end ≡ min high (offset + length piece) → start < end
    → min high (offset + length piece) ≤ low + 65536 → low ≤ q → q < low + 65536
    → (start ≤ q → q < start + 65536 → new ≡ option_or old (byte_at start (slice_range piece (start - offset) (end - offset)) q))
    → (q < start → start + length (slice_range piece (start - offset) (end - offset)) ≤ q + 65536 → new ≡ old)
    → new ≡ option_or old (if nat_lt q high then byte_at offset piece q else None)
joined_at old new piece offset low high start end q es ee some near l m lays around =
    let part : start + length (slice_range piece (start - offset) (end - offset)) ≡ end = omega (arith, length-between piece (start - offset) (end - offset) (omega arith)) in
    laid_at old new offset (length piece) low high q (slice_index (slice_range piece (start - offset) (end - offset)) (q - start)) (slice_index piece (q - offset))
    (omega arith) l m
    (λ h. lays (omega arith) (omega arith) ∙ ap (λ p. option_or old (if is_between start p q then Some (slice_index (slice_range piece (start - offset) (end - offset)) (q - start)) else None)) part
    ∙ ap (λ p. option_or old (if is_between p end q then Some (slice_index (slice_range piece (start - offset) (end - offset)) (q - start)) else None)) es
    ∙ ap (λ p. option_or old (if is_between (max offset low) p q then Some (slice_index (slice_range piece (start - offset) (end - offset)) (q - start)) else None)) ee)
    (λ h. around (omega arith) (omega arith))
    (λ h b. index_range piece (start - offset) (end - offset) (q - start) (q - offset) (omega arith) (omega arith) (omega arith) (omega arith))
