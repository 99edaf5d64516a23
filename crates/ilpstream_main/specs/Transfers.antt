-- What the commands `send` and `receive` are asked for: the end that each runs, the terms of its transfer, and how it ends.
use Rattle.std.specs.Prelude.{◌≡◌, ◌⊎◌, ℕ, Bool, true, false, ◌&&◌, if◌then◌else◌, List, Option, IsNone, IsSome, Result, Ok, Err, string_bytes}
use Rattle.std.specs.Borrow.{Bor}
use Rattle.st_devices.specs.declared.counted.Counting.{Counting}
use Rattle.st_keys.specs.Keys.{keys_of}
use Rattle.st_sender.specs.Configs.{config, with_least}
use Rattle.st_sender.specs.Sending.{Config}
use Rattle.st_end.specs.Calls.{set_receive_max}
use Rattle.st_end.specs.State.{EndState, new_end}
use Rattle.st_end.specs.Totals.{Totals}
use Rattle.st_streams.specs.declared.end_error.EndError.TheVariants as refusals
use Rattle.st_end.specs.declared.role.Role.TheVariants as roles
use Rattle.ilpstream_ends.specs.Keeping.{TellsTotals, file_stream}
use Rattle.ilpstream_ends.specs.Outcomes.{ComesTo, no_totals}
use Rattle.ilpstream_serving.specs.declared.error.TransferError.{TransferError}
use Rattle.ilpstream_serving.specs.declared.error.TransferError.TheVariants as transfer
use Rattle.st_http.specs.declared.neighbour.Neighbour.{Neighbour}
use Rattle.ilpstream_serving.specs.declared.terms.ReceiveTerms.{ReceiveTerms}
use Rattle.ilpstream_serving.specs.declared.terms.SendTerms.{SendTerms}
use Rattle.ilpstream_output.specs.Endings.{most_turns}
use Rattle.ilpstream_output.specs.declared.error.Fault.{Fault}
use Rattle.ilpstream_output.specs.declared.error.Fault.TheVariants as fault
use Rattle.ilpstream_settings.specs.declared.settings.ReceiveSettings.{ReceiveSettings}
use Rattle.ilpstream_settings.specs.declared.settings.SendSettings.{SendSettings}
use Rattle.ilpstream_net.specs.Credentials.{HasSecret, WhyNotOpened}
use Rattle.ilpstream_net.specs.Totals.{ended_with}
use Rattle.ilpstream_net.specs.EndTotals.{EndsTold}
use Rattle.ilpstream_net.specs.declared.credentials.Credentials.{Credentials}
use Rattle.ilpstream_net.specs.declared.error.RunError.{RunError}
use Rattle.ilpstream_net.specs.declared.error.RunError.TheVariants as run

-- ---- the ends and the terms

-- as many bytes and packets in flight as an end may have, and as large packets as there may be
abbrev pub widest : Config
widest = config 64 2147483647 9223372036854775807

-- the end of `send`: the client with this secret, its own address and that of its peer, and the least that has to arrive
abbrev pub sender_end : SendSettings → (secret : List ℕ) → EndState
sender_end s secret = new_end roles.Client (keys_of secret) s.address.now s.peer.now (with_least s.least widest)

-- the end of `receive`: the server
abbrev pub receiver_end : ReceiveSettings → (secret : List ℕ) → EndState
receiver_end s secret = new_end roles.Server (keys_of secret) s.address.now s.peer.now widest

-- the neighbour of `send`, and the token by which that knows it
pub record IsNeighbourOf (s : SendSettings) (c : Credentials) (n : Neighbour) : Type 0 where
  pub host : n.host.now ≡ s.to.now
  pub token : n.token.now ≡ string_bytes c.token

-- what a sender is to do
pub record AreTermsOut (s : SendSettings) (c : Credentials) (t : SendTerms) : Type 0 where
  pub neighbour : IsNeighbourOf s c t.neighbour
  pub money : t.money ≡ s.money
  pub workers : t.workers ≡ s.workers
  pub patience : t.patience ≡ s.patience
  pub turns : t.turns ≡ most_turns

-- what a receiver is to do
pub record AreTermsIn (s : ReceiveSettings) (c : Credentials) (t : ReceiveTerms) : Type 0 where
  pub token : t.token.now ≡ string_bytes c.token
  pub receive_max : t.receive_max ≡ s.receive_max
  pub workers : t.workers ≡ s.workers
  pub patience : t.patience ≡ s.patience
  pub turns : t.turns ≡ most_turns

-- ---- the transfers

-- the result of `send`, by the result of its transfer
abbrev pub sender_result : Result ℕ TransferError → Result (Unit {0}) RunError
sender_result (Ok n) = Ok tt
sender_result (Err e) = Err (run.Transfer e)

-- there is no further request: none is accepted any more, or none arrived in time
abbrev pub has_no_request : TransferError → Bool
has_no_request transfer.Failed = false
has_no_request transfer.Stalled = false
has_no_request transfer.Rings = false
has_no_request transfer.Accept = false
has_no_request transfer.Turns = true
has_no_request transfer.Silent = true
has_no_request transfer.IvFault = false
has_no_request transfer.NoMemory = false
has_no_request (transfer.End e) = false
has_no_request (transfer.Desk e) = false
has_no_request (transfer.File e) = false
has_no_request (transfer.Books n) = false

-- how a receiver ends: one that was asked to stop ends well if there is no further request
abbrev pub receiver_result : Result ℕ TransferError → (stopped : Bool) → Result (Unit {0}) RunError
receiver_result (Ok n) stopped = Ok tt
receiver_result (Err e) stopped = if stopped && has_no_request e then Ok tt else Err (run.Transfer e)

-- memory for an end was refused
abbrev pub LacksEnd : Result (Unit {0}) RunError → Type 0
LacksEnd ended = ended ≡ Err (run.Transfer (transfer.End refusals.NoMemory))

-- nothing was sent: the random bytes cannot be read, or memory was refused
abbrev pub SendsNothing : Result (Unit {0}) RunError → Type 0
SendsNothing ended = (ended ≡ Err run.NoRandom) ⊎ (ended ≡ Err (run.Fault fault.NoMemory)) ⊎ LacksEnd ended

-- nothing was received: the command cannot listen, or memory was refused
abbrev pub ReceivesNothing : Result (Unit {0}) RunError → Type 0
ReceivesNothing ended = (ended ≡ Err run.NoListener) ⊎ LacksEnd ended

-- the transfer of `send` with this secret: it came to these totals, which were others before, and ended so
abbrev pub TransfersOut : SendSettings → (secret : List ℕ) → (before now : Totals) → Result (Unit {0}) RunError → Type 0
TransfersOut s secret before now ended =
    (SendsNothing ended × (now ≡ before))
    ⊎ ((got : Result ℕ TransferError) × ComesTo (sender_end s secret) s.money got now × (ended ≡ sender_result got))

-- a receiver gives up after a silence only if its patience has an end
abbrev pub IsPatient : (patience : Option ℕ) → Result ℕ TransferError → Type 0
IsPatient patience got = got ≡ Err transfer.Silent → IsSome patience

-- the transfer of `receive` with this secret, before and after the bytes of its output
abbrev pub TransfersIn : ReceiveSettings → (secret : List ℕ) → (before after : Option (List ℕ)) → (old now : Totals) → Result (Unit {0}) RunError → Type 0
TransfersIn s secret before after old now ended =
    (ReceivesNothing ended × (after ≡ before) × (now ≡ old))
    ⊎ ((got : Result ℕ TransferError) × (stopped : Bool) × TellsTotals (set_receive_max (receiver_end s secret) file_stream s.receive_max) before after now got
    × IsPatient s.patience got × (ended ≡ receiver_result got stopped))

-- ---- how the commands end

-- `send` with a secret and a file for its totals
abbrev pub SendsBy : {W : Type 0} → (W → Option (List ℕ)) → SendSettings → (secret : List ℕ) → (old new : Option (Counting W))
    → Result (Unit {0}) RunError → Type 0
SendsBy contents s secret old new result =
    (now : Totals) × (ended : Result (Unit {0}) RunError) × TransfersOut s secret no_totals now ended × EndsTold contents old new now ended result

-- `receive` with a secret and a file for its totals, before and after the bytes of its output
abbrev pub ReceivesBy : {W : Type 0} → (W → Option (List ℕ)) → ReceiveSettings → (secret : List ℕ) → (before after : Option (List ℕ))
    → (old new : Option (Counting W)) → Result (Unit {0}) RunError → Type 0
ReceivesBy contents s secret before after old new result =
    (now : Totals) × (ended : Result (Unit {0}) RunError) × TransfersIn s secret before after no_totals now ended × EndsTold contents old new now ended result

-- a command ended, and wrote its totals if a file was asked for, and its end if it has a log
abbrev pub EndsAsked : (file : Option (Bor (List ℕ))) → (ended result : Result (Unit {0}) RunError) → Type 0
EndsAsked file ended result =
    (told : Result (Unit {0}) Fault) × (logged : Result (Unit {0}) Fault) × (IsNone file → told ≡ Ok tt) × (result ≡ ended_with (ended_with ended told) logged)

-- a file that was asked for cannot be opened, or memory was refused
abbrev pub BeginsNothing : Result (Unit {0}) RunError → Type 0
BeginsNothing result = (e : RunError) × WhyNotOpened e × (result ≡ Err e)

-- how `send` ends: with the secret that was asked for
abbrev pub EndsSend : SendSettings → Result (Unit {0}) RunError → Type 0
EndsSend s result =
    BeginsNothing result
    ⊎ ((secret : List ℕ) × HasSecret s.secret secret × (now : Totals) × (ended : Result (Unit {0}) RunError)
    × TransfersOut s secret no_totals now ended × EndsAsked s.totals ended result)

-- how `receive` ends, before and after the bytes of its output
abbrev pub EndsReceive : ReceiveSettings → (before after : Option (List ℕ)) → Result (Unit {0}) RunError → Type 0
EndsReceive s before after result =
    (BeginsNothing result × (after ≡ before))
    ⊎ ((secret : List ℕ) × HasSecret s.secret secret × (now : Totals) × (ended : Result (Unit {0}) RunError)
    × TransfersIn s secret before after no_totals now ended × EndsAsked s.totals ended result)
