-- How one direction of a stream ends: by a clean close, which fixes its end, or by an abort. The first of the two counts.
use Rattle.std.specs.Prelude.{◌≡◌, ℕ, ◌<◌, ◌≤◌, ◌||◌, Bool, false, max, nat_eq, Option, None, Some, IsSome, is_some, if◌then◌else◌}
use Rattle.std.specs.FinMap.{empty, get, keys}
use Rattle.st_reassembly.specs.Held.{Held, is_over}
use Rattle.st_reassembly.specs.Run.{past}

-- e is past every byte that is buffered or was read
pub record IsPastAll (s : Held) (e : ℕ) : Type 0 where
  pub read : s.read ≤ e
  pub held : (q : ℕ) → IsSome (get s.bytes q) → q < e

-- t is s with its end fixed at the least offset past every byte
pub record Ends (s t : Held) : Type 0 where
  pub end : (e : ℕ) × (t.end ≡ Some e) × IsPastAll s e × ((f : ℕ) → IsPastAll s f → e ≤ f)
  pub bytes : t.bytes ≡ s.bytes
  pub read : t.read ≡ s.read
  pub aborted : t.aborted ≡ s.aborted

-- the least offset past every byte
abbrev pub past_all : Held → ℕ
past_all s = max s.read (past (keys s.bytes))

-- s after a clean close
abbrev pub after_finish : Held → Held
after_finish s = if is_over s then s else record s { end = Some (past_all s) }

-- s after an abort: what was buffered is dropped, what was read stays counted
abbrev pub after_abort : ℕ → Held → Held
after_abort code s = if is_over s then s else record s { bytes = empty; aborted = Some code }

-- whether all bytes before the end were read, if it is fixed
abbrev pub is_at_end : ℕ → Option ℕ → Bool
is_at_end read None = false
is_at_end read (Some e) = nat_eq e read

-- no byte can come or be read any more
abbrev pub is_spent : Held → Bool
is_spent s = is_some s.aborted || is_at_end s.read s.end
