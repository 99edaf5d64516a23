-- The first bad line of a table.
use Rattle.std.proofs.Common.{◌≡◌, ◌<◌, ℕ, ◌+◌, List, [], ◌∷◌, ◌++◌, Bor, length, map, take, drop, get_or, sym, ◌∙◌, arith}
use Rattle.std.specs.List.{AllByRecursion}
use Rattle.std.proofs.lemmas.List.{length-map, length-take-le}
use Rattle.ilpstream_settings.specs.declared.fault.LineFault.{LineFault}
use Rattle.ilpstream_settings.specs.Faults.{Breaks, IsFirstFault, IsGood}
use Rattle.ilpstream_settings.specs.Table.{Text, words_of}
use Rattle.ilpstream_settings.proofs.LineFaults.{breaks_bad}
use Rattle.ilpstream_settings.proofs.Tables.{lines_more, lines_round}

abbrev Words : Type 0
Words = List (Bor (List ℕ))

abbrev texts : Words → List Text
texts = map (λ w. w.now)

abbrev AreGood : List Text → Type 0
AreGood = AllByRecursion (λ l. IsGood (words_of l))

push : (ls : List Text) (l : Text) → AreGood ls → IsGood (words_of l) → AreGood (ls ++ l ∷ [])
push [] l all good = (good, tt)
push (m ∷ ls) l all good = (all.0, push ls l all.1 good)

-- one good line more
pub good_more : (items : Words) (k : ℕ) (d : Bor (List ℕ)) → k < length items → AreGood (texts (take k items)) → IsGood (words_of (get_or items k d).now) → AreGood (texts (take (k + 1) items))
good_more items k d within all good = rw (lines_more items k d within) (push (texts (take k items)) (get_or items k d).now all good)

-- the line at place k is the first bad one
pub first_at : (ls : List Text) (items : Words) (k : ℕ) (d : Bor (List ℕ)) (f : LineFault) → texts items ≡ ls → k < length items → AreGood (texts (take k items))
    → Breaks (words_of (get_or items k d).now) f → IsFirstFault ls (k + 1) f
first_at ls items k d f all within good breaks = record {
  before = texts (take k items);
  line = (get_or items k d).now;
  after = texts (drop (k + 1) items);
  lines_are = sym all ∙ lines_round items k d within;
  number_is = omega (arith, length-map (take k items) (λ (w : Bor (List ℕ)). w.now), length-take-le k items (omega arith));
  good = good;
  bad = breaks_bad (words_of (get_or items k d).now) f breaks;
  breaks = breaks;
}
