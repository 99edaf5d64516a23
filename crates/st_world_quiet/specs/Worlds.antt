-- A lossless run in a world of st_world: which events a Prepare and its answer are, and what they leave.
use Rattle.std.specs.Prelude.{◌≡◌, ℕ, zero, suc, ◌+◌, ◌≤◌, ℤ, List, [], ◌∷◌, ◌++◌, length, map}
use Rattle.std.specs.declared.option.Option.TheVariants.{Some}
use Rattle.st_hop.specs.declared.ticket.Open.{Open}
use Rattle.st_hop.specs.Hop.{Hop}
use Rattle.st_hop.specs.Tickets.{ticket_at}
use Rattle.st_hop.specs.Arriving.{Forwards, arrived}
use Rattle.st_end.specs.State.{EndState}
use Rattle.st_end.specs.declared.flight.Open as flights
use Rattle.st_end.specs.Sending.{Goes}
use Rattle.st_end.specs.Answers.{ended}
use Rattle.st_world_parts.specs.Sides.{Client, Server}
use Rattle.st_world_parts.specs.State.{Direction, Node, World, end_at, direction_at}
use Rattle.st_world_parts.specs.Events.{AnswerArrives, Arrive, Event, IsEvent, Told}
use Rattle.st_world.specs.Steps.{Step}
use Rattle.st_world_quiet.specs.Crossing.{crossed}

-- each event met as it should be: no call found no memory
abbrev pub Met : World → List Event → World → Type 0
Met w [] after = after ≡ w
Met w (event ∷ events) after = (mid : World) × (told : Told) × IsEvent event × Step w event told mid × Met mid events after

-- ---- a world between two Prepares of its client

abbrev pub state_of : Node → Hop
state_of n = n.state

-- how many Prepares were put on a lane, and how many answers were given on it
pub record HasGone (sent returned : ℕ) (lane : Direction) : Type 0 where
  pub prepares : length lane.prepares ≡ sent
  pub given : length lane.given ≡ returned

-- `count` Prepares crossed a lane, and each was answered
abbrev pub HasPassed : (count : ℕ) → Direction → Type 0
HasPassed count lane = HasGone count count lane

-- the client is e, the server f, and the hops between them are these; on each link's lane towards the server these numbers
-- of Prepares were put, and of answers given
pub record IsSettled (w : World) (e : EndState) (hops : List Hop) (f : EndState) (prepares answers : ℕ → ℕ) : Type 0 where
  pub client : end_at w Client ≡ e
  pub server : end_at w Server ≡ f
  pub hops_are : map state_of w.nodes ≡ hops
  pub links : length w.links ≡ length w.nodes + 1
  pub lanes : (link : ℕ) → link ≤ length w.nodes → HasGone (prepares link) (answers link) (direction_at w link Client)

-- as many of both over all links
abbrev pub IsAtRest : World → EndState → List Hop → EndState → (count : ℕ) → Type 0
IsAtRest w e hops f count = IsSettled w e hops f (λ link. count) (λ link. count)

-- ---- a Prepare crosses all links, and its answer is returned

-- from a link over `hops` hops: all but the last event, the answer's arrival over the first of these links
unfoldable pub going_over : (link hops which : ℕ) → (now : ℤ) → List Event
going_over link zero which now = Arrive link Client which now ∷ []
going_over link (suc more) which now = Arrive link Client which now ∷ going_over (suc link) more which now ++ AnswerArrives (suc link) Client which now ∷ []

-- over a chain
abbrev pub passing : (hops which : ℕ) → (now : ℤ) → List Event
passing hops which now = going_over 0 hops which now ++ AnswerArrives 0 Client which now ∷ []

-- each hop sends it on
abbrev pub AllForward : List Hop → (text : List ℕ) → (now : ℤ) → Type 0
AllForward [] text now = Unit {0}
AllForward (h ∷ others) text now =
    (t : Open) × (account : ℕ) × (onward : List ℕ) × (after : Hop)
    × (arrived h 0 text now ≡ (Forwards t account onward, after)) × (ticket_at after.tickets t.number ≡ Some t) × AllForward others onward now

-- from this world the client sent, the Prepare crossed all hops to the server, and the client received its answer; nothing
-- was written or read. These numbers of Prepares and answers had crossed each link before
pub record HasCrossedBy (w : World) (e : EndState) (hops : List Hop) (f : EndState) (prepares answers : ℕ → ℕ) (iv : List ℕ) (now : ℤ)
    (v : World) : Type 0 where
  pub flight : flights.Open
  pub bytes : List ℕ
  pub gone : EndState
  pub goes : Goes e iv now flight bytes gone
  pub ledgers : v.ledgers ≡ w.ledgers
  pub rests : IsSettled v (ended gone flight (Some (crossed hops f bytes now).answer)) (crossed hops f bytes now).hops
      (crossed hops f bytes now).end (λ link. suc (prepares link)) (λ link. suc (answers link))

-- as many over all links
abbrev pub HasCrossed : World → EndState → List Hop → EndState → (count : ℕ) → (iv : List ℕ) → (now : ℤ) → World → Type 0
HasCrossed w e hops f count iv now v = HasCrossedBy w e hops f (λ link. count) (λ link. count) iv now v
