-- The laws of every run, as sentences.
use Rattle.std.specs.Prelude.{◌≡◌, ℕ, ◌+◌, ◌<◌, ◌≤◌, ℤ, true, false, List, [], ◌∷◌, length, slice_get, Some}
use Rattle.std.specs.List.{sum_by}
use Rattle.st_hop.specs.declared.ticket.Open as tickets
use Rattle.st_hop.specs.Hop.{Hop}
use Rattle.st_hop.specs.Lawful.{IsLawful}
use Rattle.st_hop.specs.Arriving.{Forwards, arrived}
use Rattle.st_end.specs.Receiving.{prepare_in}
use Rattle.st_world_parts.specs.Sides.{Side, Client}
use Rattle.st_world_parts.specs.State.{World, Node, AtHop, direction_at, near, log_at, account_from, account_to}
use Rattle.st_world_parts.specs.Events.{Event, OpenStream, Close, Crash, Told, IsEvent}
use Rattle.st_world.specs.Steps.{Step}
use Rattle.st_world.specs.Runs.{Chain, is_chain, Run, opening}
use Rattle.st_world.specs.Holds.{StaysRead}
use Rattle.st_world.specs.Crashes.{WasPut, HasNoTicket, HasTicket, IsLost, pending_to, fulfilled_due}

-- what was read of a stream at its end or abort is all that is ever read of it
abbrev pub ReadingStops : Type 0
ReadingStops =
    (c : Chain) (events more : List Event) (w v : World)
    → Run (opening c) events w
    → Run w more v
    → (side : Side) (k : ℕ)
    → StaysRead (log_at w side k) (log_at v side k)

-- no answer to what a hop sent before a crash changes anything after it
abbrev pub LateAnswersAreLost : Type 0
LateAnswersAreLost =
    (c : Chain) (before after : List Event) (w v u : World) (i : ℕ) (told : Told)
    → Run (opening c) before w
    → Step w (Crash i) told v
    → Run v after u
    → (link : ℕ) (way : Side) (which : ℕ)
    → WasPut w i link way which
    → IsLost u link way which

-- nor does one to a Prepare whose ticket is not open
abbrev pub SpentAnswersAreLost : Type 0
SpentAnswersAreLost =
    (c : Chain) (events more : List Event) (w u : World)
    → Run (opening c) events w
    → Run w more u
    → (i link : ℕ) (way : Side) (which : ℕ) (was : WasPut w i link way which)
    → HasNoTicket w i was.put
    → IsLost u link way which

-- an open ticket has the amount and the account of its Prepare
abbrev pub TicketsPayAmounts : Type 0
TicketsPayAmounts =
    (c : Chain) (events : List Event) (w : World)
    → Run (opening c) events w
    → (i link : ℕ) (way : Side) (which : ℕ) (was : WasPut w i link way which) (t : tickets.Open)
    → HasTicket w i was.put t
    → (t.outgoing ≡ account_to way) × (t.amount_out ≡ (prepare_in was.put.bytes).amount)

-- the Fulfills that are ever sent for what is pending at a hop towards a neighbour are at most what is pending there
abbrev pub PendingBoundsTheCost : Type 0
PendingBoundsTheCost =
    (c : Chain) (events more : List Event) (w u : World)
    → Run (opening c) events w
    → Run w more u
    → (link i : ℕ) (way : Side) (n : Node)
    → link < length w.nodes + 1
    → near w link way ≡ AtHop i
    → slice_get w.nodes i ≡ Some n
    → sum_by (fulfilled_due n.state.tickets (direction_at w link way).prepares) (direction_at u link way).given
    ≤ pending_to n.state (account_to way)

-- an event whose call had the memory that it needed leaves the note of a want as it was
abbrev pub MetLeavesTheNote : Type 0
MetLeavesTheNote =
    (c : Chain) (events : List Event) (w : World)
    → Run (opening c) events w
    → (event : Event) (told : Told) (v : World)
    → IsEvent event
    → Step w event told v
    → v.refused ≡ w.refused

-- each hop of a lawful chain stays lawful, and has two accounts
abbrev pub HopsStayLawful : Type 0
HopsStayLawful =
    (c : Chain) (events : List Event) (w : World)
    → is_chain c ≡ true
    → Run (opening c) events w
    → (i : ℕ) (n : Node)
    → slice_get w.nodes i ≡ Some n
    → IsLawful n.state × (length n.state.accounts ≡ 2)

-- a lawful hop with two accounts forwards to the other one
abbrev pub PreparesGoAcross : Type 0
PreparesGoAcross =
    (h : Hop) (way : Side) (bytes : List ℕ) (now : ℤ)
    → IsLawful h
    → length h.accounts ≡ 2
    → (t : tickets.Open) (outgoing : ℕ) (text : List ℕ)
    → (arrived h (account_from way) bytes now).0 ≡ Forwards t outgoing text
    → outgoing ≡ account_to way

-- over each chain some run opens a stream and closes it
abbrev pub AStreamOpensAndCloses : Type 0
AStreamOpensAndCloses =
    (c : Chain)
    → (w : World)
    × Run (opening c) (OpenStream Client ∷ Close Client 1 ∷ []) w
    × ((log_at w Client 1).clean ≡ true)
    × (w.refused ≡ false)
