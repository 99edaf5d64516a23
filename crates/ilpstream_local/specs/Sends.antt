-- How many Prepares a run had, and how many the law of a run with losses allows.
use Rattle.std.specs.Prelude.{◌≡◌, ◌&&◌, Bool, ℕ, zero, suc, ◌+◌, ◌-◌, ◌*◌, ◌/◌, false, Option, Some, None, min, nat_eq, nat_le, nat_lt, if◌then◌else◌}
use Rattle.ilpstream_settings.specs.declared.settings.LocalSettings.{LocalSettings}
use Rattle.st_world_parts.specs.Sides.{Client}
use Rattle.ilpstream_local.specs.declared.sends.LocalSends.{LocalSends}
use Rattle.ilpstream_local.specs.Parts.{part_size}
use Rattle.ilpstream_local.specs.Schedule.{arrived}

-- if `bytes` bytes are cut into parts of this size: frames of 16,000 bytes for the part at a place
abbrev pub frames_at : (size bytes place : ℕ) → ℕ
frames_at size bytes place = (min size (bytes - place * size) + 15999) / 16000

-- and for the first `count` parts
abbrev pub all_frames : (size bytes : ℕ) → (count : ℕ) → ℕ
all_frames size bytes zero = 0
all_frames size bytes (suc n) = all_frames size bytes n + frames_at size bytes n

-- one end alone sends, and each part is written whole before the first Send
abbrev pub is_bounded : (size returned : ℕ) → Bool
is_bounded size returned = nat_le size 262144 && nat_eq returned 0

-- a Prepare for each frame, one for the close of each stream, and one more for each that is lost
abbrev pub bound_of : (bytes streams lost returned : ℕ) → Option ℕ
bound_of bytes streams lost returned =
    if is_bounded (part_size bytes streams) returned then Some (all_frames (part_size bytes streams) bytes streams + streams + lost) else None

-- the numbers of a run with this number of bytes, and of Prepares that the client and the server sent
pub record AreOf (asked : LocalSettings) (bytes went returned : ℕ) (q : LocalSends) : Type 0 where
  pub sent : q.sent ≡ went
  pub lost : q.lost ≡ went - arrived Client asked.lose went
  pub bound : q.bound ≡ bound_of bytes asked.streams q.lost returned

-- there were more than the bound
abbrev pub is_past : (sent : ℕ) → (bound : Option ℕ) → Bool
is_past sent None = false
is_past sent (Some most) = nat_lt most sent
