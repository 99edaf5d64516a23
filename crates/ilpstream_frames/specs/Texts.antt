-- The texts that the commands write.
use Rattle.std.specs.Prelude.{ℕ, List, [], ◌∷◌, ◌++◌, length, ◌==◌, if◌then◌else◌, Option, Some, None, codes, decimal}
use Rattle.hex.specs.Hex.{encode_lower}
use Rattle.ilpstream_frames.specs.declared.error.LineError.{LineError}
use Rattle.ilpstream_frames.specs.Errors.{number, inner}

-- a line's number and a refusal's: `line 3 refused 63` and a newline
abbrev pub plain_text : ℕ → ℕ → List ℕ
plain_text i n = codes "line " ++ decimal i ++ codes " refused " ++ decimal n ++ 10 ∷ []

-- with the first number that the refusal wraps: `line 3 refused 22(1)` and a newline
abbrev pub wrapped_text : ℕ → ℕ → ℕ → List ℕ
wrapped_text i n m = codes "line " ++ decimal i ++ codes " refused " ++ decimal n ++ codes "(" ++ decimal m ++ codes ")\n"

abbrev pub numbered_text : ℕ → ℕ → Option ℕ → List ℕ
numbered_text i n None = plain_text i n
numbered_text i n (Some m) = wrapped_text i n m

-- what a refused line prints
abbrev pub line_text : ℕ → LineError → List ℕ
line_text i e = numbered_text i (number e) (inner e)

-- the bytes of a run in hexadecimal, or `-` if there are none
abbrev pub run_text : List ℕ → List ℕ
run_text bytes = if length bytes == 0 then codes "-" else encode_lower bytes

-- what a stream prints: `stream 1 4 61626364` and a newline
abbrev pub stream_text : ℕ → List ℕ → List ℕ
stream_text stream bytes = codes "stream " ++ decimal stream ++ codes " " ++ decimal (length bytes) ++ codes " " ++ run_text bytes ++ 10 ∷ []
