-- Which ends of rings were handed out.
use Rattle.std.specs.Prelude.{◌≡◌, ◌≢◌, ◌⊎◌, ℕ, ◌+◌, ◌-◌, ◌*◌, ◌%◌, ◌<◌, true, false, List, [], Result, Ok, Err}
use Rattle.st_queues.specs.Writing.{Written}
use Rattle.st_queues.specs.Reading.{Read}
use Rattle.st_queues.specs.declared.items.Over.TheVariants.{Open}
use Rattle.st_receiver.specs.Streams.{is_open}
use Rattle.st_streams.specs.declared.end_error.EndError.{EndError}
use Rattle.st_end.specs.State.{EndState}
use Rattle.st_end.specs.Calls.{has_stream}
use Rattle.st_hub.specs.declared.error.HubError.{HubError}
use Rattle.st_hub.specs.declared.error.HubError.TheVariants.{NoStream, NoShareLeft, Stranger, MissingShare, NoMemory, EightWriters, WriterTooLate}
use Rattle.st_hub.specs.Flow.{Flow, Inlet, inlet_at, outlet_at, writer_out, reader_out, is_writing}

-- a number of this end's own streams: odd for a client, even for a server
abbrev pub IsOwn : EndState → (number : ℕ) → Type 0
IsOwn e k = k % 2 ≡ e.receiving.parity

-- a stream is open, for sending or for receiving
abbrev pub IsKnown : EndState → (number : ℕ) → Type 0
IsKnown e k = (has_stream e k ≡ true) ⊎ (is_open e.receiving k ≡ true)

module _ {A : Type 0} where
  -- a writer that nobody used, and a reader
  abbrev pub IsFreshWriter : (ring : ℕ) → Written A → Type 0
  IsFreshWriter r w = (w.ring ≡ r) × (w.items ≡ []) × (w.free ≡ 64) × (w.ended ≡ false)

  abbrev pub IsFreshReader : (place : ℕ) → Read A → Type 0
  IsFreshReader s r = (r.stream ≡ s) × (r.items ≡ []) × (r.known ≡ []) × (r.over ≡ Open)

  -- the stream's first writer and its reader are handed out
  abbrev pub with_ends_out : Flow A → (place : ℕ) → Flow A
  with_ends_out f s = record f { inlets = writer_out f.inlets (8 * s); outlets = reader_out f.outlets s }

  -- a stream is open whose ends nobody has. It is one of the peer's: a stream that this end opens has its ends handed out
  -- with that
  pub record IsLeft (f : Flow A) (s : ℕ) : Type 0 where
    pub peers : ¬ (IsOwn f.core (s + 1))
    pub is_open : has_stream f.core (s + 1) ≡ true
    pub writer : (inlet_at f.inlets (8 * s)).out ≡ false
    pub reader : (outlet_at f.outlets s).out ≡ false

  abbrev pub IsTaken : Flow A → ℕ → Type 0
  IsTaken f s = has_stream f.core (s + 1) ≡ true → (outlet_at f.outlets s).out ≡ true

  -- of a stream's first writer and its reader both were handed out or neither, and only if it is open; if it is one of this end's own they
  -- were
  pub record IsPaired (f : Flow A) (s : ℕ) : Type 0 where
    pub both : (inlet_at f.inlets (8 * s)).out ≡ (outlet_at f.outlets s).out
    pub is_open : (outlet_at f.outlets s).out ≡ true → has_stream f.core (s + 1) ≡ true
    pub own : IsOwn f.core (s + 1) → IsKnown f.core (s + 1) → (outlet_at f.outlets s).out ≡ true

  abbrev pub AllPaired : Flow A → Type 0
  AllPaired f = (s : ℕ) → s < 64 → IsPaired f s

  -- each of the stream's further seven writers was handed out
  abbrev pub AllOut : List (Inlet A) → (place : ℕ) → Type 0
  AllOut xs s = (j : ℕ) → 0 < j → j < 8 → (inlet_at xs (8 * s + j)).out ≡ true

  -- no writer of the stream is left, or one is
  abbrev pub NoneWrites : List (Inlet A) → (place : ℕ) → Type 0
  NoneWrites xs s = (j : ℕ) → j < 8 → is_writing (inlet_at xs (8 * s + j)) ≡ false

  abbrev pub SomeWrites : List (Inlet A) → (place : ℕ) → Type 0
  SomeWrites xs s = (j : ℕ) × (j < 8) × (is_writing (inlet_at xs (8 * s + j)) ≡ true)

  -- the same of its other writers than j
  abbrev pub NoOther : List (Inlet A) → (place j : ℕ) → Type 0
  NoOther xs s j = (i : ℕ) → i < 8 → i ≢ j → is_writing (inlet_at xs (8 * s + i)) ≡ false

  abbrev pub SomeOther : List (Inlet A) → (place j : ℕ) → Type 0
  SomeOther xs s j = (i : ℕ) × (i < 8) × (i ≢ j) × (is_writing (inlet_at xs (8 * s + i)) ≡ true)

  -- a writer of the stream was handed out, or none was
  abbrev pub SomeOut : List (Inlet A) → (place : ℕ) → Type 0
  SomeOut xs s = (j : ℕ) × (j < 8) × ((inlet_at xs (8 * s + j)).out ≡ true)

  abbrev pub NoneOut : List (Inlet A) → (place : ℕ) → Type 0
  NoneOut xs s = (j : ℕ) → j < 8 → (inlet_at xs (8 * s + j)).out ≡ false

  -- a writer was handed out, and the end of each that was is removed from its ring: the stream was closed with the last of them
  abbrev pub IsTooLate : List (Inlet A) → (place : ℕ) → Type 0
  IsTooLate xs s = SomeOut xs s × NoneWrites xs s

-- a stream is open. They have the numbers 1 to 64
abbrev pub IsStream : EndState → (number : ℕ) → Type 0
IsStream e k = (0 < k) × (k < 65) × (has_stream e k ≡ true)

-- the number that an opened stream was given
abbrev pub number_in : {W R : Type 0} → Result (ℕ × W × R) EndError → Result ℕ EndError
number_in (Ok x) = Ok x.0
number_in (Err why) = Err why

module _ {A : Type 0} where
  -- the stream at the place s was opened, and its ends handed out
  pub record HandsOut (a b : Flow A) (number : ℕ) (writer : Written A) (reader : Read A) (s : ℕ) : Type 0 where
    pub place : s < 64
    pub number_is : number ≡ s + 1
    pub fresh_writer : IsFreshWriter (8 * s) writer
    pub fresh_reader : IsFreshReader s reader
    pub after : b ≡ with_ends_out (record a { core = b.core }) s

  -- a stream that was left is handed out, and none of a lower number was
  pub record TakesLeft (a b : Flow A) (number : ℕ) (writer : Written A) (reader : Read A) (s : ℕ) : Type 0 where
    pub left : IsLeft a s
    pub lowest : (t : ℕ) → t < s → IsTaken a t
    pub same : b.core ≡ a.core
    pub handed : HandsOut a b number writer reader s

  -- a further writer, with a ring of its own
  pub record AddsWriter (a b : Flow A) (number : ℕ) (writer : Written A) (j : ℕ) : Type 0 where
    pub is_open : IsStream a.core number
    pub further : (0 < j) × (j < 8)
    pub unused : (inlet_at a.inlets (8 * (number - 1) + j)).out ≡ false
    pub in_time : ¬ (IsTooLate a.inlets (number - 1))
    pub fresh : IsFreshWriter (8 * (number - 1) + j) writer
    pub after : b ≡ record a { inlets = writer_out a.inlets (8 * (number - 1) + j) }

  -- why none is given: the first cause that applies
  abbrev pub RefusesWriter : Flow A → (number : ℕ) → HubError → Type 0
  RefusesWriter f k NoStream = ¬ (IsStream f.core k)
  RefusesWriter f k EightWriters = IsStream f.core k × AllOut f.inlets (k - 1)
  RefusesWriter f k WriterTooLate = IsStream f.core k × (¬ (AllOut f.inlets (k - 1))) × IsTooLate f.inlets (k - 1)
  RefusesWriter f k NoShareLeft = ⊥
  RefusesWriter f k Stranger = ⊥
  RefusesWriter f k MissingShare = ⊥
  RefusesWriter f k NoMemory = ⊥
