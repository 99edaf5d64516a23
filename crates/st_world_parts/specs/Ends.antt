-- Events at an end.
use Rattle.std.specs.Prelude.{◌≡◌, ◌⊎◌, ℕ, zero, suc, ℤ, Bool, true, false, List, [], get_or, set, Result, Ok, Err}
use Rattle.std.specs.declared.option.Option.{Option}
use Rattle.std.specs.declared.option.Option.TheVariants.{None, Some}
use Rattle.st_ilp.specs.Reading.{is_fulfill_text}
use Rattle.st_sender.specs.Sending.{Flight}
use Rattle.st_receiver.specs.Reading.{Got}
use Rattle.st_streams.specs.declared.end_error.EndError.{EndError}
use Rattle.st_end.specs.declared.flight.Open as flights
use Rattle.st_end.specs.State.{EndState}
use Rattle.st_end.specs.Calls.{Answer, abort}
use Rattle.st_end.specs.Sending.{Goes, GoesNone}
use Rattle.st_end.specs.Answers.{after_outcome, pays}
use Rattle.st_end.specs.Receiving.{Received, prepare_in, received}
use Rattle.st_end.specs.Reading.{read}
use Rattle.st_world_parts.specs.Sides.{Side, other}
use Rattle.st_world_parts.specs.StreamLogs.{StreamLog, given_up, got}
use Rattle.st_world_parts.specs.State.{AnsweredAtEnd, SentPrepare, SentAnswer, World, direction_at, with_lane, with_prepare, with_answer, end_at, with_end, with_entry, log_at, with_ledger, first_link}
use Rattle.st_world_parts.specs.Events.{Told, Silent, Call, Took, Gave, Sent, Answered}

-- ---- calls on streams, and the ledgers that they change

abbrev pub accepted_at : Answer → World → Side → ℕ → StreamLog → World
accepted_at (Ok done) w side k x = with_ledger w side k x
accepted_at (Err why) w side k x = w

abbrev pub Calls : World → Side → ℕ → Answer × EndState → StreamLog → Told → World → Type 0
Calls w side k r x told after = (told ≡ Call r.0) × (after ≡ accepted_at r.0 (with_end w side r.1) side k x)

-- an abort with code 1 makes no call
abbrev pub AbortsAt : World → Side → (stream code : ℕ) → Bool → Told → World → Type 0
AbortsAt w side k code true told after = (told ≡ Silent) × (after ≡ w)
AbortsAt w side k code false told after = Calls w side k (abort (end_at w side) k code) (given_up (log_at w side k)) told after

abbrev pub read_at : Result Got EndError → World → Side → ℕ → World
read_at (Err why) w side k = w
read_at (Ok g) w side k = with_ledger w side k (got g (log_at w side k))

-- a read of at most 0 bytes makes no call
abbrev pub ReadsAt : World → Side → (stream limit : ℕ) → Told → World → Type 0
ReadsAt w side k zero told after = (told ≡ Silent) × (after ≡ w)
ReadsAt w side k (suc n) told after =
    let r = read (end_at w side) k (suc n) in (told ≡ Gave r.0) × (after ≡ read_at r.0 (with_end w side r.1) (other side) k)

-- ---- a Send gives none, or its Prepare is put on the first link

abbrev pub prepare_of_flight : flights.Open → List ℕ → SentPrepare
prepare_of_flight flight bytes = record { bytes = bytes; name = flight.sequence; condition = flight.condition; cause = 0 }

abbrev pub SendsAt : World → Side → (iv : List ℕ) → (now : ℤ) → Told → World → Type 0
SendsAt w side iv now told after =
    (GoesNone (end_at w side) × (told ≡ Silent) × (after ≡ w))
    ⊎ ((flight : flights.Open) × (bytes : List ℕ) × (e : EndState) × Goes (end_at w side) iv now flight bytes e × (told ≡ Sent)
    × (after ≡ with_prepare (with_end w side e) (first_link w side) side (prepare_of_flight flight bytes)))

-- ---- a Prepare arrives at an end

abbrev pub end_entry : Received → AnsweredAtEnd
end_entry r = record { amount = r.amount; sequence = r.sequence; fulfilled = is_fulfill_text r.bytes }

-- of a Prepare that found no memory: whoever records it may know its sequence or not
abbrev pub refused_entry : (bytes : List ℕ) → (sequence : Option ℕ) → AnsweredAtEnd
refused_entry bytes sequence = record { amount = (prepare_in bytes).amount; sequence = sequence; fulfilled = false }

abbrev pub answer_to : ℕ → List ℕ → SentAnswer
answer_to which bytes = record { which = which; bytes = bytes; taken = false }

-- the end answers, and its answer is given on the link
abbrev pub answered_at_end : World → (link : ℕ) → (way : Side) → (which : ℕ) → Side → EndState → AnsweredAtEnd → (answer : List ℕ) → World
answered_at_end w link way which side e x answer = with_answer (with_entry (with_end w side e) side x) link way (answer_to which answer)

abbrev pub ArrivesAtEnd : World → (link : ℕ) → (way : Side) → (which : ℕ) → SentPrepare → (now : ℤ) → Side → Told → World → Type 0
ArrivesAtEnd w link way which p now side told after =
    let r = received (end_at w side) p.bytes now in (told ≡ Answered r.0.reason r.0.amount r.0.sequence)
    × (after ≡ answered_at_end w link way which side r.1 (end_entry r.0) r.0.bytes)

-- ---- an outcome arrives at an end. The answer, if it is one, has this place in the list

abbrev pub took : SentAnswer → SentAnswer
took g = record g { taken = true }

abbrev pub with_taken : World → (link : ℕ) → (way : Side) → ℕ → World
with_taken w link way zero = w
with_taken w link way (suc j) =
    with_lane w link way (record {
      prepares = (direction_at w link way).prepares;
      given = set (direction_at w link way).given j (took (get_or (direction_at w link way).given j (answer_to 0 [])));
    })

abbrev pub taken_if : Bool → World → (link : ℕ) → (way : Side) → ℕ → World
taken_if true w link way j = with_taken w link way j
taken_if false w link way j = w

abbrev pub flight_of : SentPrepare → flights.Open
flight_of p = record { sequence = p.name; condition = p.condition }

-- a flight that is spent, or that another end has, changes nothing
abbrev pub BackAtEnd : World → (link : ℕ) → (way : Side) → ℕ → SentPrepare → (outcome : Option (List ℕ)) → Side → Option Flight → Told → World → Type 0
BackAtEnd w link way j p outcome side None told after = (told ≡ Silent) × (after ≡ w)
BackAtEnd w link way j p outcome side (Some flown) told after =
    (told ≡ Took (pays (flight_of p) outcome))
    × (after ≡ taken_if (pays (flight_of p) outcome) (with_end w side (after_outcome (end_at w side) (flight_of p) flown outcome)) link way j)
