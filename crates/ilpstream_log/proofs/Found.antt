-- A line that finds room is queued after all lines that wait.
use Rattle.std.proofs.Common.{◌≡◌, ℕ, ℤ, ◌<◌, ◌==◌, false, List, [], ◌∷◌, ◌++◌, refl, sym, ap, ◌∙◌, append_assoc, arith}
use Rattle.std.proofs.lemmas.Bool.Decides.{nat_tests}
use Rattle.ilpstream_log.specs.Lines.{line_text}
use Rattle.ilpstream_log.specs.Queue.{Queue, told_before, Finds}
use Rattle.ilpstream_log.specs.Waiting.{texts}
use Rattle.ilpstream_log.specs.declared.event.Event.TheVariants as event
use Rattle.ilpstream_log.specs.declared.waiting.Line.{Line}

texts_append : (a b : List Line) → texts (a ++ b) ≡ texts a ++ texts b
texts_append [] b = refl
texts_append (l ∷ a) b = ap (λ (t : List (List ℕ)). l.text.items ∷ t) (texts_append a b)

none_told : (now : ℤ) (lost : ℕ) → lost ≡ 0 → told_before now lost ≡ []
none_told now lost e = ap (λ (n : ℕ). told_before now n) e

some_told : (now : ℤ) (lost : ℕ) → 0 < lost → told_before now lost ≡ line_text now 0 (event.NoRoom lost) ∷ []
some_told now lost h =
    let is_not : (lost == 0) ≡ false = grind (arith, nat_tests, h) in
    rw is_not refl

pub alone : (old new : Queue) (now : ℤ) (line : Line) → old.lost ≡ 0
    → new.lines.items ≡ old.lines.items ++ line ∷ [] → new.begun ≡ old.begun → new.lost ≡ 0 → Finds old now line.text.items new
alone old new now line none items begun lost = record {
  lines = ap texts items ∙ texts_append old.lines.items (line ∷ [])
      ∙ ap (λ (t : List (List ℕ)). texts old.lines.items ++ (t ++ line.text.items ∷ [])) (sym (none_told now old.lost none));
  begun = begun;
  lost = lost;
}

pub behind_lost : (old new : Queue) (now : ℤ) (told line : Line) (mid : List Line) → 0 < old.lost → told.text.items ≡ line_text now 0 (event.NoRoom old.lost)
    → mid ≡ old.lines.items ++ told ∷ [] → new.lines.items ≡ mid ++ line ∷ [] → new.begun ≡ old.begun → new.lost ≡ 0 → Finds old now line.text.items new
behind_lost old new now told line mid some says first items begun lost =
    let before = texts old.lines.items in
    let one : texts mid ≡ before ++ told.text.items ∷ [] = ap texts first ∙ texts_append old.lines.items (told ∷ []) in
    let is_told : told.text.items ∷ [] ≡ told_before now old.lost = ap (λ (t : List ℕ). t ∷ []) says ∙ sym (some_told now old.lost some) in
    record {
      lines = ap texts items ∙ texts_append mid (line ∷ [])
          ∙ ap (λ (t : List (List ℕ)). t ++ line.text.items ∷ []) one
          ∙ append_assoc before (told.text.items ∷ []) (line.text.items ∷ [])
          ∙ ap (λ (t : List (List ℕ)). before ++ (t ++ line.text.items ∷ [])) is_told;
      begun = begun;
      lost = lost;
    }
