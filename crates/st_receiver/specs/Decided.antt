-- What a decision says, and what a read gave, in the definitions' terms.
use Rattle.std.specs.Prelude.{◌≡◌, ℕ, ◌⊎◌, Option, None, Some, List}
use Rattle.st_frames.specs.Frames.{Packet, Known, frames_of}
use Rattle.st_receiver.specs.declared.reason.Reason.TheVariants.{NoMemory}
use Rattle.st_receiver.specs.declared.intake.Decision.{Decision}
use Rattle.st_receiver.specs.declared.intake.Decision.TheVariants.{Fulfill, Reject}
use Rattle.st_receiver.specs.declared.intake.Plan.{Plan}
use Rattle.st_streams.specs.declared.stream_read.StreamRead.{StreamRead}
use Rattle.st_streams.specs.declared.stream_read.StreamRead.TheVariants.{Bytes, Nothing, End, Aborted}
use Rattle.st_receiver.specs.Reading as reading
use Rattle.st_receiver.specs.Reasons.{code_of}
use Rattle.st_receiver.specs.Streams.{Receiving}
use Rattle.st_receiver.specs.Judged.{fault_of, effect}
use Rattle.st_receiver.specs.Standing.{Standing, HasRoom}
use Rattle.st_receiver.specs.Limits.{reply_frames}

-- a plan by which the packet may take effect: it breaks no rule, and there is room
pub record IsPlanFor (s : Standing) (p : Packet) (plan : Plan) : Type 0 where
  pub lawful : fault_of s.state p plan.amount ≡ None
  pub room : HasRoom s p

-- the packet may take effect, or there is a reason: out of memory only if no other reason applies
abbrev pub IsDecision : Standing → Packet → (amount : ℕ) → Decision → Type 0
IsDecision s p amount (Fulfill plan) = (plan.amount ≡ amount) × IsPlanFor s p plan
IsDecision s p amount (Reject code reason) =
    (code ≡ code_of reason) × ((fault_of s.state p amount ≡ Some reason) ⊎ ((reason ≡ NoMemory) × (fault_of s.state p amount ≡ None)))

-- the state once the answer to a packet was chosen: what the packet leaves, if a plan lets it take effect
abbrev pub state_by : Receiving → Packet → Option Plan → Receiving
state_by r p None = r
state_by r p (Some plan) = effect r p plan.amount

-- the limits in the reply to a packet, once its answer was chosen
abbrev pub limits_in_reply : Receiving → Packet → Option Plan → List Known
limits_in_reply r p plan = reply_frames (state_by r p plan) (frames_of p)

abbrev pub got_seen : {X : Type 0} → StreamRead X → reading.Got
got_seen (Bytes bytes) = reading.Bytes bytes.items
got_seen Nothing = reading.Nothing
got_seen End = reading.End
got_seen (Aborted code) = reading.Aborted code
