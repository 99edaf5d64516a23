-- How a packet is judged while nothing changes: by the streams as they were, and the highest byte ends as they would be.
use Rattle.std.specs.Prelude.{◌≡◌, ◌<◌, ℕ, zero, suc, ◌+◌, Bool, true, false, not, ◌&&◌, ◌||◌, List, [], ◌∷◌, length, map, max, sum, slice_index, slice_set, nat_eq, nat_lt, is_err, if◌then◌else◌, cond, ◌++◌}
use Rattle.std.specs.declared.option.Option.{Option}
use Rattle.std.specs.declared.option.Option.TheVariants.{None, Some}
use Rattle.std.specs.Option.{option_or}
use Rattle.st_streams.specs.Slots.{slot}
use Rattle.std.specs.Prelude.{slice_index_or, MatchResult, Result}
use Rattle.std.specs.List.{flat_map, range_with_len}
use Rattle.st_frames.specs.Frames.{Known, CloseFrame, ConnectionClose, LimitFrame, ConnectionMaxData, StreamClose, StreamMoney, StreamData}
use Rattle.st_reassembly.specs.Held.{Held, nothing_held, is_over}
use Rattle.st_reassembly.specs.Inserting.{inserted}
use Rattle.st_receiver.specs.declared.reason.Reason.{Reason}
use Rattle.st_receiver.specs.declared.reason.Reason.TheVariants.{FlowControl}
use Rattle.st_receiver.specs.declared.closing.Tally.{Tally}
use Rattle.st_receiver.specs.Streams.{Incoming, Receiving, incoming_at, may_name, received_of, read_of}
use Rattle.st_receiver.specs.Data.{stream_fault, frames_fault, after_frames}
use Rattle.st_receiver.specs.Limits.{told_by}
use Rattle.st_receiver.specs.Money.{after_money}
use Rattle.st_frames.specs.declared.frame.Frame.{Frame}
use Rattle.st_frames.specs.Seen.{seen}

-- what a stream holds, or a new one
abbrev pub held_or : Option Incoming → Held
held_or None = nothing_held
held_or (Some x) = x.held

abbrev pub held_at : Receiving → ℕ → Held
held_at r k = held_or (slot r.streams k)

-- a chunk has bytes that count for the connection
abbrev pub counts : Held → List ℕ → Bool
counts h xs = not (is_over h || nat_eq (length xs) 0)

-- the highest byte end once a chunk arrived
abbrev pub raised : Held → (highest offset : ℕ) → List ℕ → ℕ
raised h highest offset xs = if is_over h || nat_eq (length xs) 0 then highest else max highest (offset + length xs)

abbrev pub ends_with : Receiving → List ℕ → (stream offset : ℕ) → List ℕ → List ℕ
ends_with r ends stream offset xs = slice_set ends stream (raised (held_at r stream) (slice_index ends stream) offset xs)

abbrev pub piece_fault : Receiving → List ℕ → (limit stream offset : ℕ) → List ℕ → Option Reason
piece_fault r ends limit stream offset xs =
    if is_err (inserted offset xs (held_at r stream)) || (counts (held_at r stream) xs && nat_lt limit (sum (ends_with r ends stream offset xs)))
    then Some FlowControl else None

abbrev pub told_fault : Receiving → List ℕ → (limit : ℕ) → Known → Option Reason
told_fault r ends limit (StreamData stream offset xs) = option_or (stream_fault r stream) (piece_fault r ends limit stream offset xs)
told_fault r ends limit (StreamMoney stream shares) = stream_fault r stream
told_fault r ends limit (CloseFrame (StreamClose stream code message)) = stream_fault r stream
told_fault r ends limit f = None

abbrev pub ends_after : Receiving → List ℕ → Known → List ℕ
ends_after r ends (StreamData stream offset xs) = ends_with r ends stream offset xs
ends_after r ends f = ends

-- what data leave of a direction
pub record SameSpan (s t : Held) : Type 0 where
  pub read : t.read ≡ s.read
  pub end : t.end ≡ s.end
  pub aborted : t.aborted ≡ s.aborted

-- cur came from r by data, and these are its highest byte ends
pub record Tracks (r cur : Receiving) (ends : List ℕ) : Type 0 where
  pub highest : ends ≡ map received_of cur.streams
  pub reads : map read_of cur.streams ≡ map read_of r.streams
  pub spans : (k : ℕ) → SameSpan (held_at r k) (held_at cur k)
  pub names : (k : ℕ) → may_name cur k ≡ may_name r k
  pub len : length cur.streams ≡ 65

-- ---- money

-- the shares with those of one frame more
abbrev pub with_shares : List ℕ → Known → List ℕ
with_shares ms (StreamMoney stream shares) = slice_set ms stream (slice_index ms stream + shares)
with_shares ms f = ms

unfoldable pub with_all_shares : List ℕ → List Known → List ℕ
with_all_shares ms [] = ms
with_all_shares ms (f ∷ fs) = with_all_shares (with_shares ms f) fs

-- shares for a stream, if there are any
abbrev pub plus : List ℕ → Option (ℕ × ℕ) → List ℕ
plus ms None = ms
plus ms (Some x) = slice_set ms x.0 (slice_index ms x.0 + x.1)

abbrev pub below_end : Option (ℕ × ℕ) → Type 0
below_end None = Unit {0}
below_end (Some x) = x.0 < 65

-- a part past what its stream may receive, as it is or as it would open
abbrev pub over_at : Receiving → ℕ → ℕ → Bool
over_at r k p = nat_lt (incoming_at r k).receive_max ((incoming_at r k).credited + p)

-- whether a part of these is
abbrev pub IsOverAt : Receiving → List ℕ → Bool → Type 0
IsOverAt r ps true = (k : ℕ) × (k < 65) × (over_at r k (slice_index ps k) ≡ true)
IsOverAt r ps false = (k : ℕ) → k < 65 → over_at r k (slice_index ps k) ≡ false

-- the first k of one list, and then those of the other
unfoldable pub mix : {A : Type 0} → ℕ → List A → List A → List A
mix zero gs os = os
mix (suc k) (g ∷ gs) (o ∷ os) = g ∷ mix k gs os
mix (suc k) gs os = os

-- what a stream is credited in all, once the frames of a packet with this amount took effect
abbrev pub credited_after : Receiving → (amount : ℕ) → List Known → ℕ → ℕ
credited_after r amount fs k = (incoming_at (after_money (after_frames r fs) amount fs) k).credited

-- ---- what a reply reports

-- these frames were appended
abbrev pub Appends : List Known → (old new : List Frame) → Type 0
Appends told old new = map seen new ≡ map seen old ++ told

-- the highest byte ends once frames arrived, or why they are rejected
abbrev pub IsEnds : Receiving → List Known → Result (List ℕ) Reason → Type 0
IsEnds r fs result = MatchResult result (λ ends. (frames_fault r fs ≡ None) × (ends ≡ map received_of (after_frames r fs).streams)) (λ fault. frames_fault r fs ≡ Some fault)

-- whether a clean close or an abort came
abbrev pub over_of : Option Incoming → Bool
over_of o = is_over (held_or o)

-- these count for the connection's limit
pub record Counts (r : Receiving) (t : Tally) : Type 0 where
  pub ends : t.ends ≡ map received_of r.streams
  pub reads : t.reads ≡ map read_of r.streams
  pub over : t.over ≡ map over_of r.streams
  pub len : length r.streams ≡ 65

-- the first close counts, and with another code than 1 all counts as read
abbrev pub closed_at : Tally → (stream code : ℕ) → Tally
closed_at t k code = record t {
  reads = (if slice_index_or t.over k false || nat_eq code 1 then t.reads else slice_set t.reads k (slice_index t.ends k));
  over = slice_set t.over k true;
}

abbrev pub closes_connection : Known → Bool
closes_connection (CloseFrame (ConnectionClose code message)) = true
closes_connection f = false

-- what counts as read once what has not ended is aborted
abbrev pub aborted_read : Option Incoming → ℕ
aborted_read None = 0
aborted_read (Some x) = if is_over x.held then read_of (Some x) else x.highest

-- the same by number: what counts as read of a direction that has ended, else all that arrived
abbrev pub read_once_aborted : Tally → ℕ → ℕ
read_once_aborted t k = cond (slice_index_or t.over k false) (slice_index t.reads k) (slice_index t.ends k)

abbrev pub is_number : ℕ → Option ℕ → Bool
is_number k None = false
is_number k (Some n) = nat_eq n k

-- another total in place of what was credited
abbrev pub with_total : ℕ → Incoming → Incoming
with_total total x = record x { credited = total }

-- the limits of a stream with another total
abbrev pub told_with : (total stream : ℕ) → Incoming → List Known
told_with total k x = told_by k (with_total total x)

abbrev pub limits_with : Receiving → (stream total : ℕ) → List Known
limits_with r k total = if may_name r k then told_by k (with_total total (incoming_at r k)) else []

abbrev pub told_at : Receiving → List Bool → List ℕ → ℕ → List Known
told_at r named totals k = if slice_index_or named k false then limits_with r k (slice_index totals k) else []

unfoldable pub told_frames : Receiving → (limit : ℕ) → List Bool → List ℕ → List Known
told_frames r limit named totals = LimitFrame (ConnectionMaxData limit) ∷ flat_map (told_at r named totals) (range_with_len 1 64)
