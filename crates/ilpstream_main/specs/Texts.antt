-- The texts that the program writes of its own.
use Rattle.std.specs.Prelude.{ℕ, List, codes}

-- what is written to a terminal before its lines are read
abbrev pub waits_text : List ℕ
waits_text = codes "ilpstream: reads packets from the terminal, one a line in hexadecimal; Ctrl-D on a new line ends them\n"

-- what is written if an argument is not UTF-8
abbrev pub not_utf8_text : List ℕ
not_utf8_text = codes "error: invalid UTF-8 was detected in one or more arguments\n"
