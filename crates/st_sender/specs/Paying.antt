-- Money in a packet with other frames: how much may be sent on each stream, and what is sent.
use Rattle.std.specs.Prelude.{◌≡◌, ℕ, ◌+◌, ◌-◌, ◌*◌, ◌/◌, ◌<◌, ◌≤◌, List, length, map, min, sum, is_some, nat_eq, if◌then◌else◌}
use Rattle.std.specs.List.{sum_by, range_with_len, AllByRecursion}
use Rattle.std.specs.declared.option.Option.{Option}
use Rattle.std.specs.declared.option.Option.TheVariants.{None, Some}
use Rattle.st_oer.specs.Ratios.{Ratio, exchanged}
use Rattle.st_streams.specs.Slots.{Slots, slot}
use Rattle.st_sender.specs.declared.load.Payment.{Payment}
use Rattle.st_sender.specs.Sending.{Outgoing, Flight}
use Rattle.st_sender.specs.Flights.{part_of}
use Rattle.st_sender.specs.Lanes.{SendStream, out_of}
use Rattle.st_sender.specs.Refusals.{offered_of}

-- all money of some payments, and a stream's part of it
abbrev pub total : List Payment → ℕ
total ms = sum_by (λ (p : Payment). p.amount) ms

abbrev pub amount_to : ℕ → Payment → ℕ
amount_to k p = if nat_eq p.stream k then p.amount else 0

abbrev pub paid_to : ℕ → List Payment → ℕ
paid_to k ms = sum_by (amount_to k) ms

-- money of a stream in flight, and what of it should arrive at least
abbrev pub flown_money : ℕ → List Flight → ℕ
flown_money k ps = sum_by (part_of k) ps

abbrev pub flown_least : Ratio → ℕ → List Flight → ℕ
flown_least r k ps = sum_by (λ (p : Flight). exchanged r (part_of k p)) ps

-- money that is due
abbrev pub open_money : List Flight → ℕ → Outgoing → ℕ
open_money ps k x = if is_some x.abort then 0 else x.offered - x.fulfilled - flown_money k ps

-- the greatest amount that may be sent if this much is left of the receive max: at most this much of it should arrive, and
-- nothing is sent if nothing is left
abbrev pub most_for : Ratio → ℕ → ℕ
most_for r left = if nat_eq left 0 then 0 else (left * r.den + (r.den - 1)) / r.num

-- and what of it may be sent: no limit before the peer advertised one
abbrev pub allowed_money : Ratio → Option (ℕ × ℕ) → (flying due : ℕ) → ℕ
allowed_money r None flying due = due
allowed_money r (Some told) flying due = min (most_for r (told.0 - told.1 - flying)) due

abbrev pub payable : Ratio → List Flight → ℕ → Option SendStream → ℕ
payable r ps k None = 0
payable r ps k (Some l) = allowed_money r l.out.advertised_money (flown_least r k ps) (open_money ps k l.out)

abbrev pub payable_at : Slots SendStream → Ratio → List Flight → ℕ → ℕ
payable_at lanes r ps k = payable r ps k (slot lanes k)

abbrev pub all_payable : Slots SendStream → Ratio → List Flight → (count : ℕ) → ℕ
all_payable lanes r ps count = sum (map (payable_at lanes r ps) (range_with_len 0 count))

pub record IsPayment (lanes : Slots SendStream) (r : Ratio) (ps : List Flight) (p : Payment) : Type 0 where
  pub some : 0 < p.amount
  pub due : p.amount ≤ payable_at lanes r ps p.stream

-- money that is due and may go
pub record AreDue (lanes : Slots SendStream) (r : Ratio) (ps : List Flight) (limit : ℕ) (ms : List Payment) : Type 0 where
  pub each : AllByRecursion (IsPayment lanes r ps) ms
  pub own : (k : ℕ) → paid_to k ms ≤ payable_at lanes r ps k
  pub within : total ms ≤ limit

-- money of the first streams, as much as may go, up to a limit. A payment makes a packet at most 34 bytes longer
pub record Pays (lanes : Slots SendStream) (r : Ratio) (ps : List Flight) (limit room count : ℕ) (ms : List Payment) : Type 0 where
  pub each : AllByRecursion (IsPayment lanes r ps) ms
  pub own : (k : ℕ) → paid_to k ms ≤ payable_at lanes r ps k
  pub later : (k : ℕ) → count ≤ k → paid_to k ms ≡ 0
  pub within : total ms ≤ limit
  pub few : length ms ≤ count
  pub room_left : 34 * length ms ≤ room
  pub filled : 34 * 65 ≤ room → total ms ≡ min limit (all_payable lanes r ps count)

-- what of a stream's money was fulfilled, and what was offered
abbrev pub fulfilled_of : Option Outgoing → ℕ
fulfilled_of None = 0
fulfilled_of (Some x) = x.fulfilled

abbrev pub fulfilled_in : Option SendStream → ℕ
fulfilled_in o = fulfilled_of (out_of o)

abbrev pub offered_in : Option SendStream → ℕ
offered_in o = offered_of (out_of o)

-- no stream has more money in flight than it was offered and is not fulfilled
abbrev pub AreFunded : Slots SendStream → List Flight → Type 0
AreFunded lanes ps = (k : ℕ) → fulfilled_in (slot lanes k) + flown_money k ps ≤ offered_in (slot lanes k)
