-- The threads of a connector and the requests that they claim.
use Rattle.std.specs.Prelude.{⊤, ◌≡◌, ◌⊎◌, ℕ, ◌+◌, ◌-◌, ◌<◌, ◌≤◌, Bool, true, false, not, ◌&&◌, if◌then◌else◌, is_none, List, slice_index, slice_set, Option, Some, None, IsNone, IsSome, ◌^◌, replicate, unwrap_or}
use Rattle.std.specs.Option.{option_or}
use Rattle.st_devices.specs.Faults.{count_after}
use Rattle.ilpstream_connector.specs.declared.roster.Failed.{Failed}
use Rattle.ilpstream_connector.specs.declared.roster.Failed.TheVariants as fails
use Rattle.ilpstream_connector.specs.declared.roster.Leave.{Leave}
use Rattle.ilpstream_connector.specs.declared.roster.Leave.TheVariants.{Send, Wait, Refuse}
use Rattle.ilpstream_serving.specs.declared.error.TransferError.{TransferError}
use Rattle.ilpstream_serving.specs.declared.error.TransferError.TheVariants.{Failed as ConnectionFailed, Stalled, Rings, Accept, Turns, Silent, IvFault, NoMemory, End, Desk, File, Books}

-- what ends a connector: its listener, memory, its hop or its books; and no fault of a sender or a receiver
abbrev pub IsOfConnector : TransferError → Type 0
IsOfConnector ConnectionFailed = ⊥
IsOfConnector Stalled = ⊥
IsOfConnector Rings = ⊥
IsOfConnector Accept = ⊤
IsOfConnector Turns = ⊥
IsOfConnector Silent = ⊥
IsOfConnector IvFault = ⊥
IsOfConnector NoMemory = ⊤
IsOfConnector (End e) = ⊥
IsOfConnector (Desk e) = ⊤
IsOfConnector (File e) = ⊥
IsOfConnector (Books n) = ⊤

-- the requests that no thread has claimed; the threads that are being made, that accept and
-- that have a connection, each with a claim; how many of these last were to send to a neighbour for each account; the requests whose connections are done, or that are left to no thread since a fault ended all; those for which none is
-- accepted any more since the connector is stopped; how often a thread began to accept;
-- how many ended since the last connection because their accepts failed; whether the last thread could not be made; whether any
-- number of connections is accepted; whether the connector is stopped; and the fault
-- that ended all, so that no request is left
pub record Roster : Type 0 where
  pub left : ℕ
  pub coming : ℕ
  pub accepting : ℕ
  pub busy : ℕ
  pub sending : List ℕ
  pub spent : ℕ
  pub unserved : ℕ
  pub begun : ℕ
  pub failed : ℕ
  pub refused : Bool
  pub endless : Bool
  pub stopped : Bool
  pub fault : Option TransferError

-- no threads, this number of requests or any, and this number of accounts
abbrev pub empty_roster : (requests : Option ℕ) → (accounts : ℕ) → Roster
empty_roster requests accounts = record {
  left = unwrap_or requests (2 ^ 64 - 1);
  coming = 0;
  accepting = 0;
  busy = 0;
  sending = replicate accounts 0;
  spent = 0;
  unserved = 0;
  begun = 0;
  failed = 0;
  refused = false;
  endless = is_none requests;
  stopped = false;
  fault = None;
}

-- all threads
abbrev pub threads_of : Roster → ℕ
threads_of r = r.coming + r.accepting + r.busy

-- one request more is claimed, for a thread that is being made
abbrev pub Hires : Roster → Roster → Type 0
Hires a b = (a.left ≡ b.left + 1) × (b ≡ record a { left = b.left; coming = a.coming + 1; refused = false })

-- a request is left, fewer threads than workers accept, or are to or could not, and there is room for one more
abbrev pub Wants : (workers : ℕ) → Roster → Type 0
Wants workers r = (0 < r.left) × (r.coming + r.accepting + r.failed < workers) × (threads_of r < 1024 + workers)

-- that thread could not be made, and its request is left again
abbrev pub LeavesAgain : Roster → Roster → Type 0
LeavesAgain a b = (a.coming ≡ b.coming + 1) × (b ≡ record a { left = a.left + 1; coming = b.coming; refused = true })

-- that thread is made, and accepts
abbrev pub Begins : Roster → Roster → Type 0
Begins a b = (a.coming ≡ b.coming + 1) × (b ≡ record a { coming = b.coming; accepting = a.accepting + 1; begun = count_after 1 a.begun })

-- it has a connection, so that accepts do not fail any more
abbrev pub Takes : Roster → Roster → Type 0
Takes a b = (a.accepting ≡ b.accepting + 1) × (b ≡ record a { accepting = b.accepting; busy = a.busy + 1; failed = 0 })

-- if a fault ended all, a thread that accepts does not process a connection, and ends
abbrev pub Leaves : Roster → Roster → Type 0
Leaves a b = (a.accepting ≡ b.accepting + 1) × (b ≡ record a { accepting = b.accepting; spent = a.spent + 1 })

-- how often threads are to have begun to accept before it may send: once more if no other thread accepts
abbrev pub IsNeeded : Roster → ℕ → Type 0
IsNeeded r n = ((0 < r.accepting) × (n ≡ r.begun)) ⊎ ((r.accepting ≡ 0) × (n ≡ count_after 1 r.begun))

-- one thread fewer sends for an account, if one is given
abbrev pub without : (account : Option ℕ) → (sending : List ℕ) → List ℕ
without None sending = sending
without (Some account) sending = slice_set sending account (slice_index sending account - 1)

-- the connector is stopped: no request is left to any thread, and those that have a connection finish
abbrev pub Stops : Roster → Roster → Type 0
Stops a b = b ≡ record a { left = 0; unserved = a.unserved + a.left; stopped = true }

-- then a thread that accepts ends without a connection
abbrev pub LeavesUnserved : Roster → Roster → Type 0
LeavesUnserved a b = (a.accepting ≡ b.accepting + 1) × (b ≡ record a { accepting = b.accepting; unserved = a.unserved + 1 })

-- and one that could not be made is not asked for again
abbrev pub IsMissed : Roster → Roster → Type 0
IsMissed a b = (a.coming ≡ b.coming + 1) × (b ≡ record a { coming = b.coming; unserved = a.unserved + 1; refused = true })

-- whether a request whose connection is done is left again: to an endless connector, until it is stopped or a fault ended all
abbrev pub gives_back : Roster → Bool
gives_back r = r.endless && (not r.stopped && is_none r.fault)

-- it is done with its connection, which counts as a request whatever it brought, and sends for its account no more
abbrev pub IsDone : Roster → (sent_for : Option ℕ) → Roster → Type 0
IsDone a sent_for b = (a.busy ≡ b.busy + 1) × (b ≡ record a {
  busy = b.busy;
  sending = without sent_for a.sending;
  left = if gives_back a then a.left + 1 else a.left;
  spent = if gives_back a then a.spent else a.spent + 1;
})

-- it accepts again, for one request more
abbrev pub GoesOn : Roster → Roster → Type 0
GoesOn a b = (a.left ≡ b.left + 1) × (b ≡ record a { left = b.left; accepting = a.accepting + 1; begun = count_after 1 a.begun })

-- how many more threads than workers may accept, next to a thread that continues: none if it did not reach its neighbour, since
-- those that accept may have the last file descriptors
abbrev pub spare_of : (reached : Bool) → ℕ
spare_of reached = if reached then 16 else 0

-- a request is left, not many more threads than workers accept or are to, and there is room for one more
abbrev pub Stays : (workers : ℕ) → (reached : Bool) → Roster → Type 0
Stays workers reached r = (0 < r.left) × (r.coming + r.accepting < workers + spare_of reached) × (threads_of r < 1024 + workers)

-- no request is left to any thread, and the first fault is why
abbrev pub LeavesNone : Roster → TransferError → Roster → Type 0
LeavesNone a e b = b ≡ record a { left = 0; spent = a.spent + a.left; fault = option_or a.fault (Some e) }

-- no request is left to any thread, and then the one that accepts ends
abbrev pub EndsBy : Roster → TransferError → Roster → Type 0
EndsBy a e b = (mid : Roster) × LeavesNone a e mid × Leaves mid b

-- a thread fails to accept. If the connector is stopped, it ends. If others accept, it ends, and its request is left again. The last one
-- that accepts tries again while threads have connections; if none has, or a fault ended all, it ends, and so do all
abbrev pub IsFailed : Roster → TransferError → Failed → Roster → Type 0
IsFailed a e fails.Leave b = IsNone a.fault
    × (((a.stopped ≡ true) × (0 < a.accepting → LeavesUnserved a b) × (a.accepting ≡ 0 → b ≡ a))
    ⊎ ((a.stopped ≡ false) × (1 < a.accepting) × (a.accepting ≡ b.accepting + 1)
    × (b ≡ record a { left = a.left + 1; accepting = b.accepting; failed = count_after 1 a.failed })))
IsFailed a e fails.Again b = IsNone a.fault × (a.stopped ≡ false) × (a.accepting ≤ 1) × (0 < a.busy) × (b ≡ a)
IsFailed a e fails.End b = (IsSome a.fault ⊎ ((a.stopped ≡ false) × (a.accepting ≤ 1) × (a.busy ≡ 0)))
    × (0 < a.accepting → EndsBy a e b) × (a.accepting ≡ 0 → LeavesNone a e b)

-- the only thread could not be made, for lack of memory or threads, or a fault ended all before: no request is left
abbrev pub GivesUp : Roster → Roster → Type 0
GivesUp a b = (a.coming ≡ b.coming + 1) × LeavesNone (record a { left = a.left + 1; coming = b.coming; refused = true }) NoMemory b

-- an account may have one exchange more: fewer threads send for it than places are free of 1,024. So it leaves at least half of
-- those that it found: the first that uses all that it can has half of the places, the next a quarter
abbrev pub HasPlace : Roster → (account : ℕ) → Type 0
HasPlace r account = slice_index r.sending account < 1024 - r.busy

-- a thread more sends for an account
abbrev pub Sends : Roster → (account : ℕ) → Roster → Type 0
Sends a account b = b ≡ record a { sending = slice_set a.sending account (count_after 1 (slice_index a.sending account)) }

-- a thread sends for an account if no fault ended all, the account has a place, and threads began to accept as often as it needs
-- or no other can be asked for; it waits if one is being made or may be; and it is refused after a fault, if its account has
-- no place, or if no other is being made, since the last one could not be or there is no room for it
abbrev pub IsLeave : (workers : ℕ) → Roster → (account needed : ℕ) → Leave → Type 0
IsLeave workers r account needed Send = IsNone r.fault × HasPlace r account × ((needed ≤ r.begun) ⊎ ((r.left ≡ 0) × (r.coming ≡ 0)))
IsLeave workers r account needed Wait = IsNone r.fault × HasPlace r account × (r.begun < needed)
    × ((0 < r.coming) ⊎ ((0 < r.left) × (r.refused ≡ false) × (threads_of r < 1024 + workers)))
IsLeave workers r account needed Refuse = IsSome r.fault
    ⊎ ((1024 - r.busy ≤ slice_index r.sending account) ⊎ ((r.begun < needed) × (0 < r.left) × (r.coming ≡ 0) × ((r.refused ≡ true) ⊎ (1024 + workers ≤ threads_of r))))
