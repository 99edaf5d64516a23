-- What an end keeps of the streams on which it receives (RFC 0029).
use Rattle.std.specs.Prelude.{ℕ, ◌%◌, Bool, false, not, ◌&&◌, ◌||◌, List, map, max, replicate, sum, slice_index, slice_set, nat_le, nat_eq, is_some, if◌then◌else◌}
use Rattle.std.specs.declared.option.Option.{Option}
use Rattle.std.specs.declared.option.Option.TheVariants.{None, Some}
use Rattle.std.specs.Ordering.{nat_cmp}
use Rattle.std.specs.FinSet.{FinSet, empty}
use Rattle.st_streams.specs.Slots.{Slots, no_slots, slot, with_slot}
use Rattle.st_reassembly.specs.Held.{Held, nothing_held}

-- one stream's incoming direction
pub record Incoming : Type 0 where
  pub held : Held
  pub highest : ℕ  -- the highest byte end received
  pub receive_max : ℕ
  pub credited : ℕ

pub record Receiving : Type 0 where
  pub parity : ℕ  -- of this end's own stream numbers: 1 for a client, 0 for a server
  pub streams : Slots Incoming
  pub kept : List ℕ  -- by number: the receive max that waits for a stream that is not open
  pub fulfilled : FinSet nat_cmp  -- the sequences
  pub credit : ℕ
  pub closed : Bool  -- by a ConnectionClose of the peer

abbrev pub new_receiving : (parity : ℕ) → Receiving
new_receiving parity = record { parity = parity; streams = no_slots; kept = replicate 65 0; fulfilled = empty; credit = 0; closed = false }

-- a stream as it opens, with the receive max that was kept for it
abbrev pub fresh_incoming : (receive_max : ℕ) → Incoming
fresh_incoming receive_max = record { held = nothing_held; highest = 0; receive_max = receive_max; credited = 0 }

abbrev pub incoming_or : Incoming → Option Incoming → Incoming
incoming_or fresh None = fresh
incoming_or fresh (Some x) = x

-- a stream as it is, or as it would open
abbrev pub incoming_at : Receiving → ℕ → Incoming
incoming_at r k = incoming_or (fresh_incoming (slice_index r.kept k)) (slot r.streams k)

abbrev pub with_incoming : Receiving → ℕ → Incoming → Receiving
with_incoming r k x = record r { streams = with_slot r.streams k x }

-- a stream that is named is open from then on
abbrev pub opened_stream : Receiving → ℕ → Receiving
opened_stream r k = with_incoming r k (incoming_at r k)

abbrev pub is_open : Receiving → ℕ → Bool
is_open r k = is_some (slot r.streams k)

-- a number of a stream that is open, or that the peer may open
abbrev pub may_name : Receiving → ℕ → Bool
may_name r k = nat_le 1 k && nat_le k 64 && (is_open r k || not (nat_eq (k % 2) r.parity))

-- what counts for the connection's window: all that was received, and of it all that was read. On an aborted direction
-- all counts as read
abbrev pub received_of : Option Incoming → ℕ
received_of None = 0
received_of (Some x) = x.highest

abbrev pub read_of : Option Incoming → ℕ
read_of None = 0
read_of (Some x) = if is_some x.held.aborted then x.highest else x.held.read

abbrev pub all_received : Receiving → ℕ
all_received r = sum (map received_of r.streams)

abbrev pub all_read : Receiving → ℕ
all_read r = sum (map read_of r.streams)

-- what was read, and no more
abbrev pub delivered_of : Option Incoming → ℕ
delivered_of None = 0
delivered_of (Some x) = x.held.read

abbrev pub all_delivered : Receiving → ℕ
all_delivered r = sum (map delivered_of r.streams)

-- what a stream was credited
abbrev pub credited_of : Option Incoming → ℕ
credited_of None = 0
credited_of (Some x) = x.credited

abbrev pub all_credited : Receiving → ℕ
all_credited r = sum (map credited_of r.streams)

-- the greater of the old and the new receive max is kept
abbrev pub with_max : ℕ → Incoming → Incoming
with_max amount x = record x { receive_max = max x.receive_max amount }

abbrev pub with_kept : Receiving → (stream amount : ℕ) → Receiving
with_kept r k amount = record r { kept = slice_set r.kept k (max (slice_index r.kept k) amount) }

-- a number that is not open yet keeps the value for when it opens
abbrev pub with_receive_max : Receiving → (stream amount : ℕ) → Receiving
with_receive_max r k amount = if is_open r k then with_incoming r k (with_max amount (incoming_at r k)) else with_kept r k amount
