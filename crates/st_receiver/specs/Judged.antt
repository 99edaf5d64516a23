-- What becomes of a packet that opened: the first rule that it breaks, or what it leaves. The order is this profile's own.
use Rattle.std.specs.Prelude.{ℕ, List, nat_lt, if◌then◌else◌}
use Rattle.std.specs.declared.option.Option.{Option}
use Rattle.std.specs.declared.option.Option.TheVariants.{Some}
use Rattle.std.specs.Option.{option_or}
use Rattle.std.specs.FinSet.{contains, insert}
use Rattle.st_frames.specs.Frames.{Known, Packet, frames_of}
use Rattle.st_receiver.specs.declared.reason.Reason.{Reason}
use Rattle.st_receiver.specs.declared.reason.Reason.TheVariants.{Repeated, AmountTooSmall, ConnectionClosed}
use Rattle.st_receiver.specs.Streams.{Receiving}
use Rattle.st_receiver.specs.Data.{frames_fault, after_frames}
use Rattle.st_receiver.specs.Money.{money_fault, after_money}
use Rattle.st_receiver.specs.Closes.{after_closes, after_connection_closes}

-- the reason of a Reject, if a packet arrived with this amount
abbrev pub fault_of : Receiving → Packet → (amount : ℕ) → Option Reason
fault_of r p amount =
    if r.closed then Some ConnectionClosed
    else (if contains r.fulfilled p.sequence then Some Repeated
    else (if nat_lt amount p.amount then Some AmountTooSmall
    else option_or (frames_fault r (frames_of p)) (money_fault (after_frames r (frames_of p)) amount (frames_of p))))

abbrev pub with_sequence : ℕ → Receiving → Receiving
with_sequence n r = record r { fulfilled = insert r.fulfilled n }

-- the data first, then the money, then the closes, the connection's last
abbrev pub after_all : Receiving → (amount : ℕ) → List Known → Receiving
after_all r amount fs = after_connection_closes (after_closes (after_money (after_frames r fs) amount fs) fs) fs

-- what a packet that breaks no rule leaves
abbrev pub effect : Receiving → Packet → (amount : ℕ) → Receiving
effect r p amount = with_sequence p.sequence (after_all r amount (frames_of p))
