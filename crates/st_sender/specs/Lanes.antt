-- A stream with what of it is in flight, and streams as the model sees them.
use Rattle.std.specs.Prelude.{◌≡◌, ℕ, List, [], ◌∷◌, is_some, map, if◌then◌else◌}
use Rattle.std.specs.List.{list_any}
use Rattle.std.specs.declared.option.Option.{Option}
use Rattle.std.specs.declared.option.Option.TheVariants.{None, Some}
use Rattle.std.specs.Ordering.{nat_cmp}
use Rattle.std.specs.FinMap.{FinMap, get, empty}
use Rattle.st_streams.specs.Slots.{Slots, slot, with_slot}
use Rattle.st_streams.specs.Table.{put_same}
use Rattle.st_sender.specs.Sending.{Outgoing, Flight, new_outgoing}
use Rattle.st_sender.specs.Flights.{carries}
use Rattle.st_sender.specs.declared.error.OutboxError.{OutboxError}
use Rattle.st_sender.specs.Refusals.{refusal_at, is_closed, full, too_much, all_accepted, all_offered}

-- a stream, and the sequence by which each offset is in flight
pub record SendStream : Type 0 where
  pub out : Outgoing
  pub flying : FinMap nat_cmp ℕ

abbrev pub new_lane : SendStream
new_lane = record { out = new_outgoing; flying = empty }

-- the byte that is due at an offset
abbrev pub due_in : SendStream → ℕ → Option ℕ
due_in l q = if is_some (get l.flying q) then None else get l.out.unacked q

-- a change of what the model sees, and of what is in flight
abbrev pub on_out : (Outgoing → Outgoing) → SendStream → SendStream
on_out f l = record l { out = f l.out }

abbrev pub claimed_by : (sequence offset count : ℕ) → SendStream → SendStream
claimed_by sequence offset count l = record l { flying = put_same l.flying offset count sequence }

abbrev pub changed_to : Slots SendStream → ℕ → (SendStream → SendStream) → Option SendStream → Slots SendStream
changed_to lanes k f None = lanes
changed_to lanes k f (Some l) = with_slot lanes k (f l)

-- a change of a stream, if it is open
abbrev pub changed_lane : Slots SendStream → ℕ → (SendStream → SendStream) → Slots SendStream
changed_lane lanes k f = changed_to lanes k f (slot lanes k)

abbrev pub out_of : Option SendStream → Option Outgoing
out_of None = None
out_of (Some l) = Some l.out

abbrev pub outs : Slots SendStream → Slots Outgoing
outs lanes = map out_of lanes

-- why a write of n bytes is refused, and an offer
abbrev pub why_not_write : Slots SendStream → (stream n : ℕ) → Option OutboxError
why_not_write lanes k n = refusal_at (out_of (slot lanes k)) is_closed (full (all_accepted (outs lanes)) n)

abbrev pub why_not_offer : Slots SendStream → (stream amount : ℕ) → Option OutboxError
why_not_offer lanes k amount = refusal_at (out_of (slot lanes k)) is_closed (too_much (all_offered (outs lanes)) amount)

-- the sequence of the flight that carries a byte
abbrev pub flying_by : ℕ → List Flight → ℕ → Option ℕ
flying_by k [] o = None
flying_by k (p ∷ ps) o = if list_any (carries k o) p.frames then Some p.sequence else flying_by k ps o

-- the sequence by which a byte is in flight as the stream knows it, and none if the stream is not open
abbrev pub flying_in : Option SendStream → ℕ → Option ℕ
flying_in None o = None
flying_in (Some l) o = get l.flying o

-- each stream knows of its bytes in flight what the flights say
abbrev pub AreBooked : Slots SendStream → List Flight → Type 0
AreBooked lanes flights = (k o : ℕ) → flying_in (slot lanes k) o ≡ flying_by k flights o
