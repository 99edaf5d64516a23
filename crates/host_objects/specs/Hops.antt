-- What a call on a hop's tickets and bytes leaves.
use Rattle.std.specs.Prelude.{◌≡◌, ℕ, ℤ, List, [], ◌∷◌, ◌++◌, true, false, Option, Some, slice_get}
use Rattle.std.specs.List.{remove}
use Rattle.st_hop.specs.declared.ticket.Open.{Open}
use Rattle.st_hop.specs.Hop.{Hop, restarted}
use Rattle.st_hop.specs.Arriving.{Answers, Forwards, arrived}
use Rattle.st_hop.specs.Settling.{settled, is_booked}
use Rattle.st_hop.specs.Tickets.{IsAmong}
use Rattle.host_objects.specs.declared.hop.HostHop.{HostHop}
use Rattle.host_objects.specs.declared.hop.Way.{Way}
use Rattle.host_objects.specs.declared.hop.Way.TheVariants.{Back, Onward}
use Rattle.host_objects.specs.declared.hop.Settling.{Settling}
use Rattle.host_objects.specs.declared.hop.Settling.TheVariants.{Unknown, Nothing, Books}

-- no ticket was given out, and there is no output
pub record IsNewHop (h : Hop) (k : HostHop) : Type 0 where
  pub state_is : k.state ≡ h
  pub tickets_are : k.tickets.items ≡ []
  pub output_is : k.output.items ≡ []

-- a refusal leaves the hop, its tickets and its output; there may be room for one ticket more
pub record IsSameHop (old new : HostHop) : Type 0 where
  pub state_is : new.state ≡ old.state
  pub tickets_are : new.tickets.items ≡ old.tickets.items
  pub output_is : new.output ≡ old.output

-- a ticket of this number that is not spent
pub record IsTicket (h : Hop) (kept : List Open) (number : ℕ) (place : ℕ) (ticket : Open) : Type 0 where
  pub stands : slice_get kept place ≡ Some ticket
  pub named : ticket.number ≡ number
  pub among : IsAmong h.tickets ticket

-- none has this number
abbrev pub HasNoTicket : Hop → List Open → (number : ℕ) → Type 0
HasNoTicket h kept number = (place : ℕ) (ticket : Open) → ¬ IsTicket h kept number place ticket

-- a Prepare is answered, or is forwarded under a ticket that is kept
abbrev pub Arrives : (old : HostHop) (account : ℕ) (bytes : List ℕ) (now : ℤ) → Way → (new : HostHop) → Type 0
Arrives old account bytes now Back new = (arrived old.state account bytes now ≡ (Answers new.output.items, new.state)) × (new.tickets.items ≡ old.tickets.items)
Arrives old account bytes now (Onward number next) new = (t : Open) × ((t.number ≡ number) × ((arrived old.state account bytes now ≡ (Forwards t next new.output.items, new.state)) × (new.tickets.items ≡ old.tickets.items ++ t ∷ [])))

-- one ticket of this number ends by the bytes of an answer, or by a fault if there was none, and the others are kept
pub record IsSettled (old new : HostHop) (number : ℕ) (back : Option (List ℕ)) (now : ℤ) : Type 0 where
  pub ticket : Open
  pub place : ℕ
  pub ticket_is : IsTicket old.state old.tickets.items number place ticket
  pub settled_is : settled old.state ticket back now ≡ (new.output.items, new.state)
  pub left_is : new.tickets.items ≡ remove old.tickets.items place

-- one ticket of this number is given up, and all else stays
pub record IsAbandoned (old new : HostHop) (number : ℕ) : Type 0 where
  pub ticket : Open
  pub place : ℕ
  pub ticket_is : IsTicket old.state old.tickets.items number place ticket
  pub state_is : new.state ≡ old.state
  pub left_is : new.tickets.items ≡ remove old.tickets.items place
  pub output_is : new.output ≡ old.output

-- what was open is gone, numbers continue, and the output stays
pub record IsRestarted (old new : HostHop) : Type 0 where
  pub state_is : new.state ≡ restarted old.state old.state.next
  pub tickets_are : new.tickets.items ≡ []
  pub output_is : new.output ≡ old.output

-- whether the ticket of this number books as it ends by these bytes, and which it is
abbrev pub IsToldBooking : HostHop → (number : ℕ) (bytes : List ℕ) (now : ℤ) → Settling → Type 0
IsToldBooking h number bytes now Unknown = HasNoTicket h.state h.tickets.items number
IsToldBooking h number bytes now Nothing = (t : Open) × ((place : ℕ) × (IsTicket h.state h.tickets.items number place t × (is_booked t (Some bytes) now ≡ false)))
IsToldBooking h number bytes now (Books t) = (place : ℕ) × (IsTicket h.state h.tickets.items number place t × (is_booked t (Some bytes) now ≡ true))

-- no open ticket has this number, and nothing changes
abbrev pub FindsNoTicket : (number : ℕ) (old new : HostHop) → Type 0
FindsNoTicket number old new = HasNoTicket old.state old.tickets.items number × (new ≡ old)
