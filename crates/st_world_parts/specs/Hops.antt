-- Events at a hop.
use Rattle.std.specs.Prelude.{◌≡◌, ℕ, ℤ, Bool, false, List}
use Rattle.std.specs.declared.option.Option.{Option}
use Rattle.std.specs.declared.option.Option.TheVariants.{None, Some}
use Rattle.st_hop.specs.declared.ticket.Open.{Open}
use Rattle.st_hop.specs.Hop.{Hop}
use Rattle.st_hop.specs.Books.{GoesOn}
use Rattle.st_hop.specs.Tickets.{ticket_at}
use Rattle.st_hop.specs.Arriving.{Arrival, Answers, Forwards, arrived}
use Rattle.st_hop.specs.Settling.{settled, is_booked}
use Rattle.st_end.specs.Receiving.{prepare_in}
use Rattle.st_world_parts.specs.Sides.{Side}
use Rattle.st_world_parts.specs.State.{AnsweredAtHop, Node, SentPrepare, World, with_prepare, with_answer, with_node, with_hop_entry, next_link, prev_link, account_from, account_to}
use Rattle.st_world_parts.specs.Events.{Told, Silent, Replied, Went}
use Rattle.st_world_parts.specs.Ends.{answer_to, taken_if}

-- ---- a Prepare arrives at a hop: it answers, or forwards the Prepare

-- of a Prepare that was not forwarded: its amount was not exchanged
abbrev pub reject_entry : (account : ℕ) → (bytes : List ℕ) → AnsweredAtHop
reject_entry account bytes = record { incoming = account; outgoing = None; amount_in = (prepare_in bytes).amount; amount_out = (prepare_in bytes).amount; fulfilled = false }

abbrev pub answered_at_hop : World → (link : ℕ) → (way : Side) → (which : ℕ) → (bytes : List ℕ) → (i : ℕ) → Node → Hop → (answer : List ℕ) → World
answered_at_hop w link way which bytes i n h answer = with_answer (with_hop_entry w i n h (reject_entry (account_from way) bytes)) link way (answer_to which answer)

abbrev pub prepare_of_ticket : Open → (bytes : List ℕ) → (which : ℕ) → SentPrepare
prepare_of_ticket t bytes which = record { bytes = bytes; name = t.number; condition = t.condition; cause = which }

-- a hop of a chain has two accounts: it forwards a Prepare to the one that it did not arrive from
abbrev pub Comes : World → (link : ℕ) → (way : Side) → (which : ℕ) → SentPrepare → (i : ℕ) → Node → Arrival → Hop → Told → World → Type 0
Comes w link way which p i n (Answers bytes) h told after =
    (told ≡ Replied) × (after ≡ answered_at_hop w link way which p.bytes i n h bytes)
Comes w link way which p i n (Forwards t outgoing bytes) h told after =
    (outgoing ≡ account_to way) × (told ≡ Went)
    × (after ≡ with_prepare (with_node w i (record { state = h; answered = n.answered })) (next_link link way) way (prepare_of_ticket t bytes which))

abbrev pub ArrivesAtHop : World → (link : ℕ) → (way : Side) → (which : ℕ) → SentPrepare → (now : ℤ) → (i : ℕ) → Option Node → Told → World → Type 0
ArrivesAtHop w link way which p now i None told after = (told ≡ Silent) × (after ≡ w)
ArrivesAtHop w link way which p now i (Some n) told after =
    let r = arrived n.state (account_from way) p.bytes now in Comes w link way which p i n r.0 r.1 told after

-- ---- an outcome arrives at a hop. The answer, if it is one, has this place in the list

abbrev pub settled_entry : Open → (fulfilled : Bool) → AnsweredAtHop
settled_entry t fulfilled = record { incoming = t.incoming; outgoing = Some t.outgoing; amount_in = t.amount_in; amount_out = t.amount_out; fulfilled = fulfilled }

-- a ticket that is spent changes nothing
abbrev pub BackAtTicket : World → (link : ℕ) → (way : Side) → ℕ → SentPrepare → (outcome : Option (List ℕ)) → (now : ℤ) → (i : ℕ) → Node → Option Open
    → Told → World → Type 0
BackAtTicket w link way j p outcome now i n None told after = (told ≡ Silent) × (after ≡ w)
BackAtTicket w link way j p outcome now i n (Some t) told after =
    let r = settled n.state t outcome now in
    let booked = is_booked t outcome now in
    (told ≡ Replied)
    × (after ≡ with_answer
    (taken_if booked (with_hop_entry w i n r.1 (settled_entry t booked)) link way j)
    (prev_link link way) way (answer_to p.cause r.0))

abbrev pub BackAtHop : World → (link : ℕ) → (way : Side) → ℕ → SentPrepare → (outcome : Option (List ℕ)) → (now : ℤ) → (i : ℕ) → Option Node → Told
    → World → Type 0
BackAtHop w link way j p outcome now i None told after = (told ≡ Silent) × (after ≡ w)
BackAtHop w link way j p outcome now i (Some n) told after = BackAtTicket w link way j p outcome now i n (ticket_at n.state.tickets p.name) told after

-- ---- a hop crashes, and is started again with its books: its claims and dues stay, its open tickets are gone. Its ticket
-- numbers continue from the next one or from any later one, so what was put before has no ticket, then or ever

abbrev pub crashed : World → (i : ℕ) → Node → Hop → World
crashed w i n h = with_node w i (record { state = h; answered = n.answered })

abbrev pub CrashesAt : World → (i : ℕ) → Option Node → Told → World → Type 0
CrashesAt w i None told after = (told ≡ Silent) × (after ≡ w)
CrashesAt w i (Some n) told after = (h : Hop) × GoesOn n.state h × (told ≡ Silent) × (after ≡ crashed w i n h)
