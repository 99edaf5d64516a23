-- How many Prepares are left, at most: each carries 16,000 bytes of some stream and money up to the packet limit, and
-- then each stream is closed.
use Rattle.std.specs.Prelude.{ℕ, ◌+◌, ◌-◌, ◌*◌, ◌/◌, map, max, sum, if◌then◌else◌}
use Rattle.std.specs.List.{range_with_len}
use Rattle.std.specs.declared.option.Option.{Option}
use Rattle.std.specs.declared.option.Option.TheVariants.{None, Some}
use Rattle.st_sender.specs.Sending.{Outgoing, Sending, outgoing_at}

-- frames of 16,000 bytes that are left of n
abbrev pub frames_left : ℕ → Option Outgoing → ℕ
frames_left n None = 0
frames_left n (Some x) = (n - x.acked_end + 15999) / 16000

abbrev pub all_frames_left : (ℕ → ℕ) → Sending → ℕ
all_frames_left n s = sum (map (λ k. frames_left (n k) (outgoing_at s k)) (range_with_len 0 65))

-- money that is left, of all streams, and Prepares for it
abbrev pub money_left : Option Outgoing → ℕ
money_left None = 0
money_left (Some x) = x.offered - x.fulfilled

abbrev pub all_money_left : Sending → ℕ
all_money_left s = sum (map (λ k. money_left (outgoing_at s k)) (range_with_len 0 65))

abbrev pub prepares_left : Sending → ℕ
prepares_left s = (all_money_left s + s.packet_limit - 1) / s.packet_limit

-- closes that are left
abbrev pub closes_left : Option Outgoing → ℕ
closes_left None = 0
closes_left (Some x) = if x.clean_settled then 0 else 1

abbrev pub all_closes_left : Sending → ℕ
all_closes_left s = sum (map (λ k. closes_left (outgoing_at s k)) (range_with_len 0 65))

-- a packet carries data and money together, and closes are sent afterwards
abbrev pub work_left : (ℕ → ℕ) → Sending → ℕ
work_left n s = max (all_frames_left n s) (prepares_left s) + all_closes_left s

-- streams that are open
abbrev pub one_open : Option Outgoing → ℕ
one_open None = 0
one_open (Some x) = 1

abbrev pub all_open : Sending → ℕ
all_open s = sum (map (λ k. one_open (outgoing_at s k)) (range_with_len 0 65))

-- frames of 16,000 bytes for each stream, Prepares for all the money, and two for each stream and two more
abbrev pub bound : (ℕ → ℕ) → Sending → ℕ
bound n s = all_frames_left n s + prepares_left s + 2 * all_open s + 2
