-- What a settlement books, and whether that was stored before it.
use Rattle.std.specs.Prelude.{◌≡◌, ℕ, ℤ, List, Bool, true, false, not, ◌&&◌, nat_eq, bytes_eq, if◌then◌else◌, Result, Ok, Err, ⊤}
use Rattle.std.specs.Ordering.{int_eq}
use Rattle.std.specs.declared.option.Option.{Option}
use Rattle.std.specs.declared.option.Option.TheVariants.{None, Some}
use Rattle.st_ilp.specs.Packets.{AnswerPacket, Fulfilled, Rejected}
use Rattle.st_ilp.specs.Reading.{answer_at}
use Rattle.st_ilp.specs.declared.error.IlpError.{IlpError}
use Rattle.st_hop.specs.declared.ticket.Open.{Open}
use Rattle.st_hop.specs.Settling.{is_booked, settled}
use Rattle.st_links.specs.declared.booking.Booking.{Booking}
use Rattle.st_links.specs.declared.booking.Proof.{Proof}
use Rattle.st_hop_desk.specs.declared.stored.Fate.{Fate}
use Rattle.st_hop_desk.specs.declared.stored.Fate.TheVariants.{Stored, Refused, Unknown}
use Rattle.st_hop.specs.Hop.{Hop}

-- what proves the claim of a ticket that was answered so at a moment: its condition, the fulfillment and the moment
abbrev pub proof_in : Open → Result AnswerPacket IlpError → (now : ℤ) → Option Proof
proof_in t (Err e) now = None
proof_in t (Ok (Rejected code by message payload)) now = None
proof_in t (Ok (Fulfilled fulfillment payload)) now = Some (record { condition = t.condition; fulfillment = fulfillment; moment = now })

abbrev pub proof_of : Open → (outcome : Option (List ℕ)) → (now : ℤ) → Option Proof
proof_of t None now = None
proof_of t (Some bytes) now = proof_in t (answer_at bytes) now

-- what is booked if this ticket ends fulfilled: the claim on the account from which the Prepare arrived, with what proves it, and the
-- due of the one to which it was forwarded
abbrev pub booking_of : Open → (outcome : Option (List ℕ)) → (now : ℤ) → Booking
booking_of t outcome now = record { payer = t.incoming; claim = t.amount_in; payee = t.outgoing; due = t.amount_out; proof = proof_of t outcome now }

abbrev pub is_same_proof : Proof → Proof → Bool
is_same_proof a b = (bytes_eq a.condition b.condition && bytes_eq a.fulfillment b.fulfillment) && int_eq a.moment b.moment

abbrev pub are_same_proofs : Option Proof → Option Proof → Bool
are_same_proofs None None = true
are_same_proofs None (Some b) = false
are_same_proofs (Some a) None = false
are_same_proofs (Some a) (Some b) = is_same_proof a b

abbrev pub is_same : Booking → Booking → Bool
is_same a b = ((nat_eq a.payer b.payer && nat_eq a.claim b.claim) && (nat_eq a.payee b.payee && nat_eq a.due b.due)) && are_same_proofs a.proof b.proof

-- whether this is the token of what the ticket books
abbrev pub is_stored : Open → (outcome : Option (List ℕ)) → (now : ℤ) → (token : Option Booking) → Bool
is_stored t outcome now None = false
is_stored t outcome now (Some b) = is_same b (booking_of t outcome now)

-- a Fulfill whose booking was not stored counts as no answer
abbrev pub counted : Open → (outcome : Option (List ℕ)) → (now : ℤ) → (token : Option Booking) → Option (List ℕ)
counted t outcome now token = if is_booked t outcome now && not (is_stored t outcome now token) then None else outcome

-- the fate by the token of a booking: without one, it is known only if no commit had the booking
abbrev pub fate_by : (token : Option Booking) → (is_known : Bool) → Fate
fate_by (Some b) is_known = Stored b
fate_by None is_known = if is_known then Refused else Unknown

-- what is stored is this booking
abbrev pub IsFateOf : Booking → Fate → Type 0
IsFateOf b (Stored token) = token ≡ b
IsFateOf b Refused = ⊤
IsFateOf b Unknown = ⊤

-- a fate as that of this booking: of the token of another one nothing is known
abbrev pub own_fate : Fate → Booking → Fate
own_fate (Stored token) b = if is_same token b then Stored token else Unknown
own_fate Refused b = Refused
own_fate Unknown b = Unknown

-- a ticket is settled by an outcome, and by the token of what it books if it has one
abbrev pub settled_by : Hop → Open → (outcome : Option (List ℕ)) → (now : ℤ) → (token : Option Booking) → List ℕ × Hop
settled_by h t outcome now token = settled h t (counted t outcome now token) now
