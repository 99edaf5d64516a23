-- How the input is cut into parts, each for a stream of its own.
use Rattle.std.specs.Prelude.{ℕ, zero, suc, ◌+◌, ◌-◌, ◌*◌, List, [], ◌++◌, min, take, drop}
use Rattle.std.specs.Int.{div_ceil}

-- the size of a part if `bytes` bytes are cut into `parts` parts: rounded up
abbrev pub part_size : (bytes parts : ℕ) → ℕ
part_size bytes parts = div_ceil bytes parts

-- the part at this place, from 0: the last ones may be shorter, or empty
abbrev pub part_at : (size : ℕ) → List ℕ → (place : ℕ) → List ℕ
part_at size input place = take size (drop (place * size) input)

-- of the input's part at a place, what is among the first `sent` bytes of the input
abbrev pub sent_of : (size : ℕ) → List ℕ → (sent place : ℕ) → List ℕ
sent_of size input sent place = take (min size (sent - place * size)) (drop (place * size) input)

-- the number of the stream that carries the part at this place
abbrev pub stream_at : (place : ℕ) → ℕ
stream_at place = 2 * place + 1

-- the first `count` of these lists, one after another
abbrev pub joined : (ℕ → List ℕ) → (count : ℕ) → List ℕ
joined f zero = []
joined f (suc n) = joined f n ++ f n
