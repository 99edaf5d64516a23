-- What holds of all lines, and of all runs of events.
use Rattle.std.specs.Prelude.{◌≡◌, ℕ, ℤ, ◌+◌, ◌^◌, ◌<◌, ◌≤◌, ◌==◌, Bool, true, not, List, [], ◌∷◌, ◌++◌, length, replicate}
use Rattle.std.specs.List.{list_all}
use Rattle.ilpstream_log.specs.Quoting.{quoted_short}
use Rattle.ilpstream_log.specs.Lines.{line_text}
use Rattle.ilpstream_log.specs.Pacing.{Slot, Run, lines_in, told_left, written_in}
use Rattle.ilpstream_log.specs.declared.event.Event.{Event}
use Rattle.ilpstream_log.specs.declared.pace.Verdict.{Verdict}

-- no newline is in it
abbrev pub has_no_newline : List ℕ → Bool
has_no_newline text = list_all (λ b. not (b == 10)) text

-- a newline ends the text, and it has no other
pub record EndsByItsOneNewline (text : List ℕ) : Type 0 where
  pub front : List ℕ
  pub whole : text ≡ front ++ 10 ∷ []
  pub clean : has_no_newline front ≡ true

-- so it is with each line, whatever the texts of the event are
abbrev pub LineHasOneNewline : Type 0
LineHasOneNewline = (moment : ℤ) (n : ℕ) (e : Event) → EndsByItsOneNewline (line_text moment n e)

-- A text of a peer has at most 256 characters in a line, with two dots where it is cut, and two quotes
abbrev pub TextsOfPeersAreShort : Type 0
TextsOfPeersAreShort = (text : List ℕ) → length (quoted_short text) ≤ 260

-- Each event has a line, or is reported as left out, or is counted for a later report; so are those that were left out
-- before. The count stops at 2^64 - 1
abbrev pub EventsAreCounted : Type 0
EventsAreCounted = (old new : Slot) (seconds : List ℕ) (verdicts : List Verdict) → Run old seconds verdicts new
    → old.left + length seconds < 2 ^ 64 → lines_in verdicts + told_left verdicts + new.left ≡ old.left + length seconds

-- events in one second have ten lines at most, with those that were written in it before
abbrev pub TenASecond : Type 0
TenASecond = (old new : Slot) (second count : ℕ) (verdicts : List Verdict) → Run old (replicate count second) verdicts new
    → written_in old second ≤ 10 → written_in old second + lines_in verdicts ≤ 10
