-- The laws of a lossless run between two ends, as sentences. A Send is a call of `send` at the sending end.
use Rattle.std.specs.Prelude.{◌≡◌, ℕ, ◌+◌, ◌<◌, ◌≤◌, true, false, List, [], ◌∷◌, ◌^◌, length, sum, Contains}
use Rattle.std.specs.List.{AllByRecursion, list_any}
use Rattle.std.specs.FinMap.{get}
use Rattle.std.specs.declared.option.Option.TheVariants.{None, Some}
use Rattle.st_streams.specs.Slots.{slot}
use Rattle.st_frames.specs.Frames.{Known, Packet, CloseFrame, StreamClose, LimitFrame, StreamMaxData, frames_of, max_packet}
use Rattle.st_frames.specs.Told.{money_in, names, shares}
use Rattle.st_reassembly.specs.Held.{Held, after_insert}
use Rattle.st_reassembly.specs.Run.{IsRun, run}
use Rattle.st_sender.specs.Sending.{Config, Load, Outgoing, Sending, outgoing_at}
use Rattle.st_sender.specs.Due.{IsDue}
use Rattle.st_sender.specs.Loads.{Sends, load_with, with_flight}
use Rattle.st_sender.specs.Filling.{Fills}
use Rattle.st_sender.specs.Answering.{after_all_told}
use Rattle.st_sender.specs.Accepting.{after_write}
use Rattle.st_sender.specs.Refusals.{all_accepted, is_closed, write_refusal}
use Rattle.st_sender.specs.declared.error.OutboxError.TheVariants.{Full}
use Rattle.st_receiver.specs.Streams.{Receiving, incoming_at, may_name}
use Rattle.st_receiver.specs.Limits.{capped, reply_frames}
use Rattle.st_receiver.specs.Data.{frames_fault}
use Rattle.st_receiver.specs.Money.{is_over_max, money_fault}
use Rattle.st_receiver.specs.Judged.{after_all, effect, fault_of}
use Rattle.st_world_quiet.specs.Quiet.{IsQuiet, IsRow}
use Rattle.st_world_quiet.specs.Left.{all_frames_left, all_money_left, bound, work_left}
use Rattle.st_world_quiet.specs.Rounds.{IsRefilled, once_fulfilled, IsWritten, IsOpening, IsSmall, PeerTells, Rounds, TellsEnough}
use Rattle.st_world_quiet.specs.Exchanges.{AllowsAll, Exchange, Exchanges, IsModest, opened_receiving, read_each}
use Rattle.st_keys.specs.Keys.{DerivedKeys}
use Rattle.st_end.specs.State.{EndState, new_end}
use Rattle.st_end.specs.declared.role.Role.{Role}
use Rattle.st_world_quiet.specs.Calls.{CanWrite, MaySend, allow_each, begin_each, lengths, other, write_each}
use Rattle.st_world_quiet.specs.Trips.{AreJoined, CanTell, Trip, Trips, Turns}
use Rattle.st_world_quiet.specs.Mirrored.{IsAbreast, IsOn, IsPacketOf, IsReadOut}

-- a run has fewer Sends than the bound
abbrev pub SendsAreBounded : Type 0
SendsAreBounded =
    (n : ℕ → ℕ) (config : Config) (m : ℕ) (s t : Sending)
    → IsOpening n config s
    → Rounds n m s t
    → m + 1 ≤ bound n s

-- and no more than the work that is done
abbrev pub SendsAreWorkDone : Type 0
SendsAreWorkDone =
    (n : ℕ → ℕ) (config : Config) (m : ℕ) (s t : Sending)
    → IsOpening n config s
    → Rounds n m s t
    → m + work_left n t ≤ work_left n s

-- each round leaves the sender of a lossless run
abbrev pub RoundsStayQuiet : Type 0
RoundsStayQuiet =
    (n : ℕ → ℕ) (config : Config) (m : ℕ) (s t : Sending)
    → IsOpening n config s
    → Rounds n m s t
    → IsQuiet n t

-- if nothing is left, no Send gives a Prepare
abbrev pub NothingLeftSendsNothing : Type 0
NothingLeftSendsNothing =
    (n : ℕ → ℕ) (s : Sending) (limits : List Known) (p : Load)
    → IsQuiet n s
    → work_left n s ≡ 0
    → ¬ Sends s limits max_packet p (with_flight s p)

-- if only closes are left, a Send gives a close
abbrev pub ACloseIsSent : Type 0
ACloseIsSent =
    (n : ℕ → ℕ) (s : Sending) (limits : List Known) (k : ℕ) (x : Outgoing)
    → IsQuiet n s
    → all_frames_left n s ≡ 0
    → all_money_left s ≡ 0
    → outgoing_at s k ≡ Some x
    → x.clean_settled ≡ false
    → (let p = load_with s ((CloseFrame (StreamClose k 1 [])) ∷ []) in
    Sends s limits max_packet p (with_flight s p) × Fills s limits max_packet p)

-- what a peer advertises of a small packet suffices for the next Send
abbrev pub ReplyTellsEnough : Type 0
ReplyTellsEnough =
    (n : ℕ → ℕ) (s : Sending) (limits : List Known) (p : Load) (told : List Known)
    → IsQuiet n s
    → Sends s limits max_packet p (with_flight s p)
    → Fills s limits max_packet p
    → IsSmall s
    → PeerTells s p told
    → TellsEnough (once_fulfilled s p) told

-- no frame of a packet breaks a rule
abbrev pub LoadHasNoFault : Type 0
LoadHasNoFault =
    (n : ℕ → ℕ) (s : Sending) (limits : List Known) (p : Load) (r : Receiving)
    → IsQuiet n s
    → Sends s limits max_packet p (with_flight s p)
    → Fills s limits max_packet p
    → IsAbreast n s r
    → frames_fault r p.frames ≡ None

-- a packet leaves what was read
abbrev pub LoadReadsNothing : Type 0
LoadReadsNothing =
    (s : Sending) (limits : List Known) (r : Receiving) (amount : ℕ) (fs : List Known) (k : ℕ)
    → AllByRecursion (IsDue s limits) fs
    → (incoming_at (after_all r amount fs) k).held.read ≡ (incoming_at r k).held.read

-- money that is split as the shares say, and that no stream has too much of, breaks no rule
abbrev pub SharedMoneyHasNoFault : Type 0
SharedMoneyHasNoFault =
    (r : Receiving) (amount : ℕ) (fs : List Known)
    → sum (shares fs) ≡ amount
    → r.credit + amount < 2 ^ 63
    → ((k : ℕ) → is_over_max (slot r.streams k) (money_in k fs) ≡ false)
    → money_fault r amount fs ≡ None

-- a reply has the window of each stream that the request names
abbrev pub ReplyTellsWindow : Type 0
ReplyTellsWindow =
    (r : Receiving) (fs : List Known) (k : ℕ)
    → 1 ≤ k
    → k ≤ 64
    → may_name r k ≡ true
    → list_any (names k) fs ≡ true
    → Contains (reply_frames r fs) (LimitFrame (StreamMaxData k (capped ((incoming_at r k).held.read + 65536))))

-- a level receiver finds no fault in a packet
abbrev pub LoadIsFulfilled : Type 0
LoadIsFulfilled =
    (n : ℕ → ℕ) (s : Sending) (limits : List Known) (p : Load) (q : Packet) (r : Receiving)
    → IsQuiet n s
    → Sends s limits max_packet p (with_flight s p)
    → Fills s limits max_packet p
    → IsAbreast n s r
    → IsPacketOf p q
    → fault_of r q p.amount ≡ None

-- the reply of a level receiver is that of such a peer
abbrev pub ReplyIsAPeers : Type 0
ReplyIsAPeers =
    (n : ℕ → ℕ) (s : Sending) (limits : List Known) (p : Load) (q : Packet) (r : Receiving)
    → IsQuiet n s
    → Sends s limits max_packet p (with_flight s p)
    → Fills s limits max_packet p
    → IsAbreast n s r
    → IsPacketOf p q
    → PeerTells s p (reply_frames (effect r q p.amount) (frames_of q))

-- and so suffices for the next Send
abbrev pub FulfillTellsEnough : Type 0
FulfillTellsEnough =
    (n : ℕ → ℕ) (s : Sending) (limits : List Known) (p : Load) (q : Packet) (r : Receiving)
    → IsQuiet n s
    → Sends s limits max_packet p (with_flight s p)
    → Fills s limits max_packet p
    → IsSmall s
    → IsAbreast n s r
    → IsPacketOf p q
    → TellsEnough (once_fulfilled s p) (reply_frames (effect r q p.amount) (frames_of q))

-- what is acknowledged after a packet can be read
abbrev pub LoadIsRead : Type 0
LoadIsRead =
    (n : ℕ → ℕ) (s : Sending) (limits : List Known) (p : Load) (q : Packet) (r : Receiving) (k : ℕ) (y : Outgoing)
    → IsQuiet n s
    → Sends s limits max_packet p (with_flight s p)
    → Fills s limits max_packet p
    → IsAbreast n s r
    → IsPacketOf p q
    → outgoing_at (once_fulfilled s p) k ≡ Some y
    → (let h = (incoming_at (effect r q p.amount) k).held in
    h.read + length (run h) ≡ y.acked_end)

-- and is no more in a row than one packet has room for
abbrev pub LoadIsShort : Type 0
LoadIsShort =
    (n : ℕ → ℕ) (s : Sending) (limits : List Known) (p : Load) (q : Packet) (r : Receiving) (k : ℕ)
    → IsQuiet n s
    → Sends s limits max_packet p (with_flight s p)
    → Fills s limits max_packet p
    → IsAbreast n s r
    → IsPacketOf p q
    → length (run (incoming_at (effect r q p.amount) k).held) ≤ 32739

-- a receiver whose reader takes all is level again after a round
abbrev pub RoundKeepsAbreast : Type 0
RoundKeepsAbreast =
    (n : ℕ → ℕ) (s t : Sending) (limits : List Known) (p : Load) (q : Packet) (r u : Receiving)
    → IsQuiet n s
    → Sends s limits max_packet p (with_flight s p)
    → Fills s limits max_packet p
    → IsAbreast n s r
    → IsPacketOf p q
    → IsReadOut (effect r q p.amount) u
    → IsWritten n (after_all_told (once_fulfilled s p) (reply_frames (effect r q p.amount) (frames_of q))) t
    → IsAbreast n t u

-- a run of both sides has fewer Sends than the bound
abbrev pub ExchangesAreBounded : Type 0
ExchangesAreBounded =
    (n : ℕ → ℕ) (config : Config) (m : ℕ) (s t : Sending) (r u : Receiving)
    → IsModest n
    → IsOpening n config s
    → IsAbreast n s r
    → Exchanges n m s r t u
    → m + 1 ≤ bound n s

-- and no more than the work that is done
abbrev pub ExchangesAreWorkDone : Type 0
ExchangesAreWorkDone =
    (n : ℕ → ℕ) (config : Config) (m : ℕ) (s t : Sending) (r u : Receiving)
    → IsModest n
    → IsOpening n config s
    → IsAbreast n s r
    → Exchanges n m s r t u
    → m + work_left n t ≤ work_left n s

-- both sides are level after each run
abbrev pub ExchangesKeepAbreast : Type 0
ExchangesKeepAbreast =
    (n : ℕ → ℕ) (config : Config) (m : ℕ) (s t : Sending) (r u : Receiving)
    → IsModest n
    → IsOpening n config s
    → IsAbreast n s r
    → Exchanges n m s r t u
    → IsQuiet n t × IsAbreast n t u

-- if nothing is left, a level receiver has read and credited all
abbrev pub AbreastDelivers : Type 0
AbreastDelivers =
    (n : ℕ → ℕ) (s : Sending) (r : Receiving) (k : ℕ) (x : Outgoing)
    → IsQuiet n s
    → IsAbreast n s r
    → work_left n s ≡ 0
    → outgoing_at s k ≡ Some x
    → ((incoming_at r k).held.read ≡ n k) × ((incoming_at r k).credited ≡ x.offered)

-- a read of each stream, of as much as is there in a row, takes all
abbrev pub ReadsTakeAll : Type 0
ReadsTakeAll =
    (limit : ℕ) (r : Receiving)
    → length r.streams ≡ 65
    → ((k : ℕ) → (incoming_at r k).held.aborted ≡ None)
    → ((k : ℕ) → length (run (incoming_at r k).held) ≤ limit)
    → IsReadOut r (read_each limit 0 65 r)

-- a write that fits is accepted
abbrev pub WriteFits : Type 0
WriteFits =
    (s : Sending) (k count : ℕ) (x : Outgoing)
    → outgoing_at s k ≡ Some x
    → IsRow x
    → is_closed x ≡ false
    → all_accepted s.streams + count < 2 ^ 63
    → x.accepted + count ≤ x.acked_end + 262144
    → write_refusal s k count ≡ None

-- one that does not is refused with `Full`
abbrev pub WriteIsFull : Type 0
WriteIsFull =
    (s : Sending) (k count : ℕ) (x : Outgoing)
    → outgoing_at s k ≡ Some x
    → IsRow x
    → is_closed x ≡ false
    → x.acked_end + 262144 < x.accepted + count
    → write_refusal s k count ≡ Some Full

-- a stream whose input continues is written as far as it fits
abbrev pub WrittenOn : Type 0
WrittenOn =
    (n : ℕ) (x : Outgoing) (more : List ℕ)
    → x.accepted + length more < n
    → x.acked_end + 262144 ≤ x.accepted + length more
    → IsRefilled n x (after_write more x)

-- writes on each stream continue the writes, and change nothing else
abbrev pub CallsWriteOn : Type 0
CallsWriteOn =
    (input : ℕ → List ℕ) (e : EndState)
    → CanWrite (lengths input) e
    → (let g = write_each input 0 65 e in
    IsWritten (lengths input) e.sending g.sending × (g ≡ record e { sending = g.sending }))

-- calls that open streams are a start
abbrev pub CallsOpen : Type 0
CallsOpen =
    (role : Role) (keys : DerivedKeys) (own peer : List ℕ) (config : Config) (input : ℕ → List ℕ) (money : ℕ → ℕ)
    (count : ℕ)
    → MaySend config
    → IsModest (lengths input)
    → IsModest money
    → IsOpening (lengths input) config (begin_each input money count (new_end role keys own peer config)).sending

-- a peer that raised its receive max to the money is level with it
abbrev pub CallsOpenAbreast : Type 0
CallsOpenAbreast =
    (role : Role) (keys : DerivedKeys) (own peer : List ℕ) (config its_config : Config) (input : ℕ → List ℕ)
    (money : ℕ → ℕ) (count : ℕ)
    → MaySend config
    → IsModest (lengths input)
    → IsModest money
    → IsAbreast (lengths input) (begin_each input money count (new_end role keys own peer config)).sending
    (allow_each money 0 65 (new_end (other role) keys peer own its_config)).receiving

-- and both ends are of one connection
abbrev pub CallsOpenJoined : Type 0
CallsOpenJoined =
    (role : Role) (keys : DerivedKeys) (own peer : List ℕ) (config its_config : Config) (input : ℕ → List ℕ)
    (money : ℕ → ℕ) (count : ℕ)
    → IsModest money
    → (let f = allow_each money 0 65 (new_end (other role) keys peer own its_config) in
    AreJoined (begin_each input money count (new_end role keys own peer config)) f × CanTell f.receiving)

-- a receiver at which nothing arrived is level with a start
abbrev pub OpeningIsAbreast : Type 0
OpeningIsAbreast =
    (n : ℕ → ℕ) (config : Config) (s : Sending) (parity : ℕ) (kept : List ℕ)
    → IsModest n
    → IsOpening n config s
    → AllowsAll s (opened_receiving parity kept)
    → IsAbreast n s (opened_receiving parity kept)

-- what arrived is buffered
abbrev pub ArrivedIsHeld : Type 0
ArrivedIsHeld =
    (xs : List ℕ) (o q : ℕ) (s : Held)
    → IsOn s
    → s.read ≤ q
    → o ≤ q
    → q < o + length xs
    → (b : ℕ) × (get (after_insert o xs s).bytes q ≡ Some b)

-- and a read takes all that is there in a row
abbrev pub RunIsRead : Type 0
RunIsRead =
    (s : Held) (run : List ℕ) (end : ℕ)
    → IsRun s run
    → s.read ≤ end
    → ((q : ℕ) → s.read ≤ q → q < end → (b : ℕ) × (get s.bytes q ≡ Some b))
    → ((q : ℕ) → end ≤ q → get s.bytes q ≡ None)
    → s.read + length run ≡ end

-- a trip of bytes between two ends is an exchange
abbrev pub TripIsExchange : Type 0
TripIsExchange =
    (n : ℕ → ℕ) (e f g h : EndState)
    → IsQuiet n e.sending
    → IsAbreast n e.sending f.receiving
    → AreJoined e f
    → CanTell f.receiving
    → Trip n e f g h
    → Exchange n e.sending f.receiving g.sending h.receiving

-- a run of trips has fewer Sends than the bound
abbrev pub TripsAreBounded : Type 0
TripsAreBounded =
    (n : ℕ → ℕ) (config : Config) (m : ℕ) (e f g h : EndState)
    → IsModest n
    → IsOpening n config e.sending
    → IsAbreast n e.sending f.receiving
    → AreJoined e f
    → CanTell f.receiving
    → Trips n m e f g h
    → m + 1 ≤ bound n e.sending

-- and is a run of exchanges
abbrev pub TripsAreExchanges : Type 0
TripsAreExchanges =
    (n : ℕ → ℕ) (config : Config) (m : ℕ) (e f g h : EndState)
    → IsModest n
    → IsOpening n config e.sending
    → IsAbreast n e.sending f.receiving
    → AreJoined e f
    → CanTell f.receiving
    → Trips n m e f g h
    → Exchanges n m e.sending f.receiving g.sending h.receiving

-- and delivered all, if nothing is left
abbrev pub TripsDeliver : Type 0
TripsDeliver =
    (n : ℕ → ℕ) (config : Config) (m k : ℕ) (e f g h : EndState) (x : Outgoing)
    → IsModest n
    → IsOpening n config e.sending
    → IsAbreast n e.sending f.receiving
    → AreJoined e f
    → CanTell f.receiving
    → Trips n m e f g h
    → work_left n g.sending ≡ 0
    → outgoing_at g.sending k ≡ Some x
    → ((incoming_at h.receiving k).held.read ≡ n k) × ((incoming_at h.receiving k).credited ≡ x.offered)

-- a run by calls has fewer Sends than the bound
abbrev pub RunIsBounded : Type 0
RunIsBounded =
    (role : Role) (keys : DerivedKeys) (own peer : List ℕ) (config its_config : Config) (input : ℕ → List ℕ)
    (money : ℕ → ℕ) (count limit m : ℕ) (g h : EndState)
    → MaySend config
    → IsModest (lengths input)
    → IsModest money
    → (let e = begin_each input money count (new_end role keys own peer config) in
    let f = allow_each money 0 65 (new_end (other role) keys peer own its_config) in
    Turns input limit m e f g h
    → m + 1 ≤ bound (lengths input) e.sending)

-- and delivered all, if nothing is left
abbrev pub RunDelivers : Type 0
RunDelivers =
    (role : Role) (keys : DerivedKeys) (own peer : List ℕ) (config its_config : Config) (input : ℕ → List ℕ)
    (money : ℕ → ℕ) (count limit m k : ℕ) (g h : EndState) (x : Outgoing)
    → MaySend config
    → IsModest (lengths input)
    → IsModest money
    → (let e = begin_each input money count (new_end role keys own peer config) in
    let f = allow_each money 0 65 (new_end (other role) keys peer own its_config) in
    Turns input limit m e f g h
    → work_left (lengths input) g.sending ≡ 0
    → outgoing_at g.sending k ≡ Some x
    → ((incoming_at h.receiving k).held.read ≡ length (input k)) × ((incoming_at h.receiving k).credited ≡ x.offered))
