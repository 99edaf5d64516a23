-- The outcome of the command `send`.
use Rattle.std.specs.Prelude.{◌≡◌, ◌⊎◌, ℕ, Bool, true, false, List, [], ◌∷◌, Option, Some, None, Result, Ok, Err}
use Rattle.st_end.specs.State.{EndState}
use Rattle.st_end.specs.Calls as calls
use Rattle.st_end.specs.Totals.{Totals, totals, settled}
use Rattle.st_streams.specs.declared.end_error.EndError.{EndError}
use Rattle.st_streams.specs.declared.end_error.EndError.TheVariants as refusals
use Rattle.st_hub.specs.declared.workers.WorkEnd.{WorkEnd}
use Rattle.st_hub.specs.declared.workers.WorkEnd.TheVariants as ends
use Rattle.st_file.specs.declared.error.FileError.{FileError}
use Rattle.ilpstream_ends.specs.Keeping.{file_stream}
use Rattle.ilpstream_serving.specs.declared.error.TransferError.{TransferError}
use Rattle.ilpstream_serving.specs.declared.error.TransferError.TheVariants.{Failed, Stalled, Rings, Turns, IvFault, NoMemory, End, File}

-- which fault a worker's end is
abbrev pub fault_of : WorkEnd → Option TransferError
fault_of ends.Stopped = None
fault_of ends.Failed = Some Failed
fault_of ends.IvFault = Some IvFault
fault_of ends.NoMemory = Some NoMemory
fault_of ends.Turns = Some Turns
fault_of ends.Settled = None
fault_of ends.Stalled = Some Stalled

abbrev pub fault_or : Option TransferError → TransferError → TransferError
fault_or (Some e) later = e
fault_or None later = later

-- the first fault of the workers, or otherwise the last one
abbrev pub first_fault : List WorkEnd → (last : TransferError) → TransferError
first_fault [] last = last
first_fault (e ∷ es) last = fault_or (fault_of e) (first_fault es last)

-- the fault of the connection before all others
abbrev pub fault_told : (failed : Bool) → List WorkEnd → (last : TransferError) → TransferError
fault_told true es last = Failed
fault_told false es last = first_fault es last

-- all was sent if the stream's close was fulfilled, and the whole input was put into it. Otherwise the workers' rounds were used up,
-- unless another fault is reported
abbrev pub outcome : (settled failed : Bool) → List WorkEnd → (fed : Result ℕ FileError) → Result ℕ TransferError
outcome true failed es (Ok sent) = Ok sent
outcome false failed es (Ok sent) = Err (fault_told failed es Turns)
outcome true failed es (Err e) = Err (fault_told failed es (File e))
outcome false failed es (Err e) = Err (fault_told failed es (File e))

-- the next stream is opened, and the money is offered on it
abbrev pub OpensWith : EndState → (money : ℕ) → EndState → Type 0
OpensWith a money b = (k : ℕ) × (mid : EndState) × (calls.open_stream a ≡ (Ok k, mid)) × (calls.offer mid k money ≡ (Ok tt, b))

-- why an end does not open its next stream with this money on it: it refuses one of the two, or memory ran out
abbrev pub RefusesToOpen : EndState → (money : ℕ) → EndError → Type 0
RefusesToOpen a money e =
    (e ≡ refusals.NoMemory)
    ⊎ ((b : EndState) × (calls.open_stream a ≡ (Err e, b)))
    ⊎ ((k : ℕ) × (mid : EndState) × (b : EndState) × (calls.open_stream a ≡ (Ok k, mid)) × (calls.offer mid k money ≡ (Err e, b)))

-- why a transfer does not begin: memory for the rings of the streams ran out, or the end does not open its stream
abbrev pub WhyNotBegun : EndState → (money : ℕ) → TransferError → Type 0
WhyNotBegun a money why = (why ≡ Rings) ⊎ ((e : EndError) × (why ≡ End e) × RefusesToOpen a money e)

-- an end reports these totals, and the result says whether its stream's close was fulfilled and its connection failed
abbrev pub IsTold : Result ℕ TransferError → Totals → Type 0
IsTold result told =
    (e : EndState) × (es : List WorkEnd) × (fed : Result ℕ FileError)
    × (result ≡ outcome (settled e file_stream) e.sending.failed es fed) × (told ≡ totals e)

-- those of an end that did nothing
abbrev pub no_totals : Totals
no_totals = record { accepted = 0; delivered = 0; credited = 0; paid = 0 }

-- the same, or a transfer of this end and this money did not begin
abbrev pub ComesTo : EndState → (money : ℕ) → Result ℕ TransferError → Totals → Type 0
ComesTo a money result told = IsTold result told ⊎ ((why : TransferError) × (result ≡ Err why) × WhyNotBegun a money why × (told ≡ no_totals))
