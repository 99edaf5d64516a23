-- What stays true of all that an end receives, whatever comes and is read.
use Rattle.std.specs.Prelude.{◌≡◌, ℕ, false, length, Some}
use Rattle.st_streams.specs.Slots.{slot}
use Rattle.st_reassembly.specs.Held.{is_over}
use Rattle.st_reassembly.specs.Closing.{past_all}
use Rattle.st_receiver.specs.Streams.{Incoming, Receiving, all_credited}

-- while a direction is not over, its highest byte end received is the least one past every byte buffered or read
abbrev pub EndsAtHighest : Incoming → Type 0
EndsAtHighest x = is_over x.held ≡ false → x.highest ≡ past_all x.held

pub record IsLawful (r : Receiving) : Type 0 where
  pub places : length r.streams ≡ 65
  pub ends : (k : ℕ) (x : Incoming) → slot r.streams k ≡ Some x → EndsAtHighest x
  pub credits : all_credited r ≡ r.credit
