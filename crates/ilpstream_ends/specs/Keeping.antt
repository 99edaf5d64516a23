-- The states of an end that only receives, and what of stream 1 is written.
use Rattle.std.specs.Prelude.{◌≡◌, ◌⊎◌, ℕ, false, zero, suc, List, [], ◌++◌, Option, None, Result, Ok, Err, ⊤}
use Rattle.std.specs.Io.KnownBytes.{Keeps}
use Rattle.st_queues.specs.declared.items.Over.TheVariants as over
use Rattle.st_receiver.specs.Reading as reading
use Rattle.st_receiver.specs.Streams.{is_open}
use Rattle.st_end.specs.State.{EndState}
use Rattle.st_end.specs.Calls.{Answer}
use Rattle.st_end.specs.Reading.{read}
use Rattle.st_end.specs.Totals.{Totals, totals}
use Rattle.st_end.specs.Receiving.{Received}
use Rattle.st_streams.specs.declared.end_error.EndError.TheVariants as refusals
use Rattle.st_file.specs.Sources.{Given}
use Rattle.st_file.specs.Stores.{Stored}
use Rattle.st_file.specs.Errors as file
use Rattle.st_file.specs.declared.error.FileError.TheVariants as file_error
use Rattle.ilpstream_ends.specs.Answering.{Takes}
use Rattle.ilpstream_ends.specs.declared.delivery.Delivered.{Delivered}
use Rattle.ilpstream_ends.specs.declared.delivery.Delivered.TheVariants.{More, Whole}
use Rattle.ilpstream_serving.specs.declared.error.TransferError.{TransferError}
use Rattle.ilpstream_serving.specs.declared.error.TransferError.TheVariants.{Failed, Stalled, Rings, Accept, Turns, Silent, IvFault, NoMemory, End, Desk, File, Books}

-- the stream that carries files and money
abbrev pub file_stream : ℕ
file_stream = 1

-- the most bytes of a read of it
abbrev pub piece_limit : ℕ
piece_limit = 65536

-- one read of the stream
abbrev pub Reads : EndState → reading.Got → EndState → Type 0
Reads a got b = read a file_stream piece_limit ≡ (Ok got, b)

-- what the stream gives next: nothing yet also if it is not open, and then without a read
abbrev pub Gives : EndState → reading.Got → EndState → Type 0
Gives a (reading.Bytes out) b = Reads a (reading.Bytes out) b
Gives a reading.Nothing b = Reads a reading.Nothing b ⊎ ((is_open a.receiving file_stream ≡ false) × (b ≡ a))
Gives a reading.End b = Reads a reading.End b
Gives a (reading.Aborted code) b = Reads a (reading.Aborted code) b

-- the bytes that a read gave
abbrev pub bytes_in : reading.Got → List ℕ
bytes_in (reading.Bytes out) = out
bytes_in reading.Nothing = []
bytes_in reading.End = []
bytes_in (reading.Aborted code) = []

-- a Prepare arrives; or the stream is read
pub data Happens (a : EndState) (out : List ℕ) (b : EndState) : Type 0 where
  comes : (bytes : List ℕ) (r : Received) → Takes a bytes r b → out ≡ [] → Happens a out b
  is_read : (got : reading.Got) → Reads a got b → out ≡ bytes_in got → Happens a out b

-- a number of these, one after another, in which the stream gave these bytes
abbrev pub RunsIn : ℕ → EndState → (out : List ℕ) → EndState → Type 0
RunsIn zero a out b = (out ≡ []) × (b ≡ a)
RunsIn (suc n) a out b = (c : EndState) × (first last : List ℕ) × RunsIn n a first c × Happens c last b × (out ≡ first ++ last)

abbrev pub Runs : EndState → (out : List ℕ) → EndState → Type 0
Runs a out b = (n : ℕ) × RunsIn n a out b

-- the stream gave these bytes
abbrev pub given_of : (out : List ℕ) → Given
given_of out = record { bytes = out; over = over.Open; calls = None }

-- the first n bytes that the stream gave in a run are written, with n as it is reported; these others are not
abbrev pub KeptBut : EndState → (before : Option (List ℕ)) → (now : EndState) → (after : Option (List ℕ)) → (written : ℕ) → (others : List ℕ) → Type 0
KeptBut start before now after n others =
    (out : List ℕ) × Runs start out now × Stored (record { before = before; after = after; old = given_of []; new = given_of out }) n others

-- all of them are
abbrev pub Kept : EndState → (before : Option (List ℕ)) → (now : EndState) → (after : Option (List ℕ)) → (written : ℕ) → Type 0
Kept start before now after n = KeptBut start before now after n []

-- all are, and then the stream gave this in place of bytes
abbrev pub KeptTo : EndState → (before : Option (List ℕ)) → (now : EndState) → (after : Option (List ℕ)) → (written : ℕ) → reading.Got → Type 0
KeptTo start before now after n got = (was : EndState) × Kept start before was after n × Reads was got now

-- all are, and then the stream gave nothing more
abbrev pub KeptAll : EndState → (before : Option (List ℕ)) → (now : EndState) → (after : Option (List ℕ)) → (written : ℕ) → Type 0
KeptAll start before now after n = (was : EndState) × Kept start before was after n × Gives was reading.Nothing now

-- the same, or the end was not asked and not read yet
abbrev pub IsUpToDate : EndState → (before : Option (List ℕ)) → (now : EndState) → (after : Option (List ℕ)) → (written : ℕ) → Type 0
IsUpToDate start before now after n = ((now ≡ start) × (n ≡ 0) × Keeps before after) ⊎ KeptAll start before now after n

-- why no more is written: if no further request arrived, all that could be read is; and all that the stream gave is, unless
-- the output failed or its allowed calls are used up
abbrev pub Explains : EndState → (before : Option (List ℕ)) → (now : EndState) → (after : Option (List ℕ)) → TransferError → Type 0
Explains start before now after Failed = ⊥
Explains start before now after Stalled = ⊥
Explains start before now after Rings = ⊥
Explains start before now after Accept = (n : ℕ) × IsUpToDate start before now after n
Explains start before now after Turns = (n : ℕ) × IsUpToDate start before now after n
Explains start before now after Silent = (n : ℕ) × IsUpToDate start before now after n
Explains start before now after IvFault = ⊥
Explains start before now after NoMemory = ⊥
Explains start before now after (End e) = (e ≡ refusals.NoMemory) × (n : ℕ) × Kept start before now after n
Explains start before now after (Desk e) = ⊥
Explains start before now after (Books n) = ⊥
Explains start before now after (File (file_error.ReadFault n)) = ⊥
Explains start before now after (File (file_error.WriteFault n)) = (others : List ℕ) × KeptBut start before now after n others
Explains start before now after (File (file_error.Aborted code n)) = KeptTo start before now after n (reading.Aborted code)
Explains start before now after (File (file_error.Turns n)) = (others : List ℕ) × KeptBut start before now after n others
Explains start before now after (File (file_error.NoMemory n)) = ⊥
Explains start before now after (File (file_error.Closed n)) = ⊥

-- a fault of the stream or of the output, and none of the listener
abbrev pub IsOfDelivery : TransferError → Type 0
IsOfDelivery Failed = ⊥
IsOfDelivery Stalled = ⊥
IsOfDelivery Rings = ⊥
IsOfDelivery Accept = ⊥
IsOfDelivery Turns = ⊥
IsOfDelivery Silent = ⊥
IsOfDelivery IvFault = ⊥
IsOfDelivery NoMemory = ⊥
IsOfDelivery (End e) = ⊤
IsOfDelivery (Desk e) = ⊥
IsOfDelivery (File e) = ⊤
IsOfDelivery (Books n) = ⊥

-- what is kept once all was read that could be
abbrev pub Delivers : EndState → (before : Option (List ℕ)) → (now : EndState) → (after : Option (List ℕ)) → (written : ℕ) → Result Delivered TransferError → Type 0
Delivers start before now after n (Ok More) = KeptAll start before now after n
Delivers start before now after n (Ok Whole) = KeptTo start before now after n reading.End
Delivers start before now after n (Err e) = Explains start before now after e

-- what a receiver wrote, from the end with its receive max set to the end now: all, if the stream reported a clean end
abbrev pub Receives : (start now : EndState) → (before after : Option (List ℕ)) → Result ℕ TransferError → Type 0
Receives start now before after (Ok n) = KeptTo start before now after n reading.End
Receives start now before after (Err e) = Explains start before now after e

-- the same, or the receive max was refused and nothing was written
abbrev pub ReceivesFrom : Answer × EndState → (now : EndState) → (before after : Option (List ℕ)) → Result ℕ TransferError → Type 0
ReceivesFrom (Ok x, start) now before after result = Receives start now before after result
ReceivesFrom (Err why, start) now before after result = (result ≡ Err (End why)) × (now ≡ start) × Keeps before after

-- the same, and these totals are those of the end then
abbrev pub TellsTotals : Answer × EndState → (before after : Option (List ℕ)) → Totals → Result ℕ TransferError → Type 0
TellsTotals opened before after told result = (now : EndState) × ReceivesFrom opened now before after result × (told ≡ totals now)

-- an output's count of errors after it: one more if the result is a fault of it, and the same otherwise
abbrev pub faults_reported : {T : Type 0} → Result T TransferError → ℕ → ℕ
faults_reported (Ok x) count = count
faults_reported (Err (File e)) count = file.faults_reported {T = Unit {0}} (Err e) count
faults_reported (Err Failed) count = count
faults_reported (Err Stalled) count = count
faults_reported (Err Rings) count = count
faults_reported (Err Accept) count = count
faults_reported (Err Turns) count = count
faults_reported (Err Silent) count = count
faults_reported (Err IvFault) count = count
faults_reported (Err NoMemory) count = count
faults_reported (Err (End e)) count = count
faults_reported (Err (Desk e)) count = count
faults_reported (Err (Books n)) count = count
