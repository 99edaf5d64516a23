-- Lines that wait for the writer, first in, first out.
use Rattle.std.specs.Prelude.{ℕ, List, [], ◌∷◌, ◌++◌, drop}
use Rattle.ilpstream_log.specs.declared.waiting.Line.{Line}

-- the most lines that wait
abbrev pub most_lines : ℕ
most_lines = 1024

-- the text of each
abbrev pub texts : List Line → List (List ℕ)
texts [] = []
texts (l ∷ ls) = l.text.items ∷ texts ls

-- their bytes, one line after another
abbrev pub bytes_of : List Line → List ℕ
bytes_of [] = []
bytes_of (l ∷ ls) = l.text.items ++ bytes_of ls

-- the text of the first of them
abbrev pub first_of : List Line → List ℕ
first_of [] = []
first_of (l ∷ ls) = l.text.items

-- all but the first
abbrev pub behind_first : List Line → List Line
behind_first [] = []
behind_first (l ∷ ls) = ls

-- what is still to be written if `begun` bytes of the first line are written
abbrev pub unwritten : List Line → (begun : ℕ) → List ℕ
unwritten lines begun = drop begun (first_of lines) ++ bytes_of (behind_first lines)
