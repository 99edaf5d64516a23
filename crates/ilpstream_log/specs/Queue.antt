-- What finds room among the lines that wait, and what is counted as lost.
use Rattle.std.specs.Prelude.{◌≡◌, ℕ, ℤ, ◌+◌, ◌==◌, nat_le, Bool, true, false, if◌then◌else◌, List, [], ◌∷◌, ◌++◌, length}
use Rattle.st_devices.specs.Faults.{count_after}
use Rattle.ilpstream_log.specs.Lines.{line_text}
use Rattle.ilpstream_log.specs.Waiting.{most_lines, texts}
use Rattle.ilpstream_log.specs.declared.event.Event.TheVariants as event
use Rattle.ilpstream_log.specs.declared.waiting.Queue.{Queue as Lines}

abbrev pub Queue : Type 0
Queue = Lines

-- If events were lost, a line with their number precedes the next one, and needs room, too
abbrev pub has_room : Queue → Bool
has_room q = nat_le (length q.lines.items + (if q.lost == 0 then 1 else 2)) most_lines

-- that line
abbrev pub told_before : (now : ℤ) → (lost : ℕ) → List (List ℕ)
told_before now lost = if lost == 0 then [] else line_text now 0 (event.NoRoom lost) ∷ []

-- a line finds room after all others, and the number of those lost before is written ahead of it
pub record Finds (old : Queue) (now : ℤ) (line : List ℕ) (new : Queue) : Type 0 where
  pub lines : texts new.lines.items ≡ texts old.lines.items ++ (told_before now old.lost ++ line ∷ [])
  pub begun : new.begun ≡ old.begun
  pub lost : new.lost ≡ 0

-- `count` events are lost: the lines that wait stay as they are
pub record Loses (old : Queue) (count : ℕ) (new : Queue) : Type 0 where
  pub lines : new.lines.items ≡ old.lines.items
  pub begun : new.begun ≡ old.begun
  pub lost : new.lost ≡ count_after count old.lost

abbrev pub Adds : (old : Queue) → (now : ℤ) → (line : List ℕ) → (count : ℕ) → (found : Bool) → (new : Queue) → Type 0
Adds old now line count true new = Finds old now line new
Adds old now line count false new = Loses old count new
