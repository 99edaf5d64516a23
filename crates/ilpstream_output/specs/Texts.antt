-- The text of a fault.
use Rattle.std.specs.Prelude.{ℕ, List, [], ◌∷◌, ◌++◌, codes, decimal}

-- what a fault prints: `fault 90` and a newline
abbrev pub fault_text : ℕ → List ℕ
fault_text n = codes "fault " ++ decimal n ++ 10 ∷ []
