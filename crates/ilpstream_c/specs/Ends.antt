-- What a call on a handle of an end answers and leaves.
use Rattle.std.specs.Prelude.{◌≡◌, ◌⊎◌, ◌++◌, ◌<◌, ℕ, zero, suc, ℤ, Bool, true, List, [], ◌∷◌, length, Option, Some, None, Result, Ok, Err, IfOk, MatchResult}
use Rattle.std.specs.List.{range_with_len, filter}
use Rattle.st_oer.specs.Address.{is_address}
use Rattle.st_oer.specs.Ratios.{IsRatio, ratio}
use Rattle.st_keys.specs.Keys.{keys_of}
use Rattle.st_sender.specs.Sending.{Config}
use Rattle.st_sender.specs.Configs.{IsConfig, config, with_least}
use Rattle.st_receiver.specs.Reading as got
use Rattle.st_streams.specs.declared.end_error.EndError.{EndError}
use Rattle.st_end.specs.declared.flight.Open.{Open}
use Rattle.st_end.specs.declared.role.Role.{Role}
use Rattle.st_end.specs.declared.role.Role.TheVariants.{Client, Server}
use Rattle.st_streams.specs.Errors.{number}
use Rattle.st_end.specs.State.{EndState, new_end}
use Rattle.st_end.specs.Calls.{OrWants, has_stream}
use Rattle.st_end.specs.Ready.{TellsRoom, is_ready}
use Rattle.st_end.specs.Reading as reading
use Rattle.st_end.specs.Receiving as receiving
use Rattle.st_end.specs.Sending.{Goes, GoesNone}
use Rattle.st_end.specs.Answers.{pays}
use Rattle.st_end.specs.Totals as totals
use Rattle.host_objects.specs.Codes.{code_of, done, idle, argument, unknown, ended, aborted}
use Rattle.host_objects.specs.Ends.{IsNewEnd, IsSameEnd, IsSpent, HasNoFlight}
use Rattle.host_objects.specs.declared.object.Object.{Object}
use Rattle.host_objects.specs.declared.object.Object.TheVariants.{End}
use Rattle.host_objects.specs.declared.end.HostEnd.{HostEnd}
use Rattle.ilpstream_c.specs.Handles.{Misused, flag, Copies}
use Rattle.ilpstream_c.specs.declared.end.HostConfig.{HostConfig}
use Rattle.ilpstream_c.specs.declared.end_packets.HostReceived.{HostReceived}
use Rattle.ilpstream_c.specs.declared.end_reports.HostTotals.{HostTotals}

abbrev pub no_memory : ℕ
no_memory = 54

-- ---- a new end

abbrev pub role_of : ℕ → Role
role_of zero = Client
role_of (suc n) = Server

abbrev pub config_of : HostConfig → Config
config_of c = with_least (ratio c.least_num c.least_den) (config c.in_flight c.packets c.packet_limit)

-- the numbers of a configuration are in their ranges
abbrev pub AreNumbers : HostConfig → Type 0
AreNumbers c = IsConfig (config c.in_flight c.packets c.packet_limit) × IsRatio (ratio c.least_num c.least_den)

-- what an end can be made of
pub record AreTerms (role : ℕ) (own peer : List ℕ) (c : HostConfig) : Type 0 where
  pub role_is : role < 2
  pub own_is : is_address own ≡ true
  pub peer_is : is_address peer ≡ true
  pub numbers : IsConfig (config c.in_flight c.packets c.packet_limit)
  pub least : IsRatio (ratio c.least_num c.least_den)

-- the end of these terms, or why there is none
abbrev pub MakesEnd : (role : ℕ) (secret own peer : List ℕ) (c : HostConfig) → Result HostEnd ℕ → Type 0
MakesEnd role secret own peer c result = MatchResult result
    (λ e. AreTerms role own peer c × IsNewEnd (new_end (role_of role) (keys_of secret) own peer (config_of c)) e)
    (λ code. (code ≡ no_memory) ⊎ ((code ≡ argument) × (¬ AreTerms role own peer c)))

-- of these terms an end is made, unless memory is refused; of others none
abbrev pub IsEndMade : (role : ℕ) (secret own peer : List ℕ) (c : HostConfig) (old new : Option Object) (code : ℕ) → Type 0
IsEndMade role secret own peer c None new code =
    ((code ≡ done) × (AreTerms role own peer c × ((e : HostEnd) × ((new ≡ Some (End e)) × IsNewEnd (new_end (role_of role) (keys_of secret) own peer (config_of c)) e))))
    ⊎ (((code ≡ no_memory) × (new ≡ None)) ⊎ ((code ≡ argument) × ((¬ AreTerms role own peer c) × (new ≡ None))))
IsEndMade role secret own peer c (Some o) new code = Misused (Some o) new code

-- ---- streams

-- flights and output stay
abbrev pub KeepsRest : (old new : HostEnd) → Type 0
KeepsRest old new = (new.flights ≡ old.flights) × (new.output ≡ old.output)

-- the answer whose number is the code, and the end after it
abbrev pub Answers : {A : Type 0} → (old new : HostEnd) → (code : ℕ) → Result A EndError × EndState → Type 0
Answers {A} old new code defined = KeepsRest old new × ((r : Result A EndError) × (OrWants old.state defined (r, new.state) × (code ≡ code_of r)))

-- the same of a call whose answer is a number
abbrev pub Numbers : (old new : HostEnd) → (code answer : ℕ) → Result ℕ EndError × EndState → Type 0
Numbers old new code answer defined = KeepsRest old new × ((r : Result ℕ EndError) × (OrWants old.state defined (r, new.state) × ((code ≡ code_of r) × IfOk r (λ n. answer ≡ n))))

-- a question changes nothing
abbrev pub Says : (old new : HostEnd) → (code answer : ℕ) → Bool → Type 0
Says old new code answer value = (new ≡ old) × ((code ≡ done) × (answer ≡ flag value))

abbrev pub SaysTotals : (old new : HostEnd) → (code : ℕ) → HostTotals → Type 0
SaysTotals old new code t =
    (new ≡ old) × ((code ≡ done) × (totals.totals old.state ≡ record { accepted = t.accepted; delivered = t.delivered; credited = t.credited; paid = t.paid }))

-- how much a write accepts, or why it accepts nothing
abbrev pub SaysRoom : (old new : HostEnd) → (stream code room : ℕ) → Type 0
SaysRoom old new stream code room = (new ≡ old) × ((r : Result ℕ EndError) × (TellsRoom old.state stream r × ((code ≡ code_of r) × IfOk r (λ n. room ≡ n))))

-- the numbers of streams (RFC 0029, section 4.1), rising
abbrev pub all_streams : List ℕ
all_streams = range_with_len 1 64

-- those that can be read, and those that are open
abbrev pub ready_streams : EndState → List ℕ
ready_streams e = filter (is_ready e) all_streams

abbrev pub open_streams : EndState → List ℕ
open_streams e = filter (has_stream e) all_streams

-- a list of streams is copied out, or memory is refused
abbrev pub Lists : (old new : HostEnd) → (streams before after : List ℕ) → (code len : ℕ) → Type 0
Lists old new streams before after code len = (new ≡ old) × (Copies streams before after code len ⊎ ((code ≡ no_memory) × (after ≡ before)))

-- ---- reading

-- what a read gave, and the bytes that it output
abbrev pub Gives : Result got.Got EndError → (old new : HostEnd) → (code len reason : ℕ) → Type 0
Gives (Ok (got.Bytes xs)) old new code len reason = (code ≡ done) × ((new.output.items ≡ xs) × (len ≡ length xs))
Gives (Ok got.Nothing) old new code len reason = (code ≡ idle) × (new.output ≡ old.output)
Gives (Ok got.End) old new code len reason = (code ≡ ended) × (new.output ≡ old.output)
Gives (Ok (got.Aborted c)) old new code len reason = (code ≡ aborted) × ((reason ≡ c) × (new.output ≡ old.output))
Gives (Err why) old new code len reason = (code ≡ number why) × (new ≡ old)

abbrev pub Reads : (old new : HostEnd) → (stream max code len reason : ℕ) → Type 0
Reads old new stream max code len reason =
    (new.flights ≡ old.flights) × ((r : Result got.Got EndError) × (OrWants old.state (reading.read old.state stream max) (r, new.state) × Gives r old new code len reason))

-- ---- Prepares and their answers

-- a Prepare is sent, and the end keeps its flight; or none is sent; or memory is refused
abbrev pub Sends : (old new : HostEnd) → (iv : List ℕ) (now : ℤ) → (code flight len : ℕ) → Type 0
Sends old new iv now code flight len =
    ((code ≡ done) × ((f : Open) × ((f.sequence ≡ flight) × ((len ≡ length new.output.items) × (Goes old.state iv now f new.output.items new.state × (new.flights.items ≡ old.flights.items ++ f ∷ []))))))
    ⊎ (((code ≡ idle) × (GoesNone old.state × IsSameEnd old new)) ⊎ ((code ≡ no_memory) × IsSameEnd old new))

abbrev pub Sequence : Option ℕ → (opened sequence : ℕ) → Type 0
Sequence None opened sequence = opened ≡ 0
Sequence (Some n) opened sequence = (opened ≡ 1) × (sequence ≡ n)

-- what the answer to a Prepare is, apart from its bytes
abbrev pub Reports : receiving.Received → (output : List ℕ) → HostReceived → Type 0
Reports r output h =
    (output ≡ r.bytes) × ((h.len ≡ length r.bytes) × ((h.reason ≡ r.reason) × ((h.amount ≡ r.amount) × Sequence r.sequence h.opened h.sequence)))

abbrev pub Receives : (old new : HostEnd) → (bytes : List ℕ) (now : ℤ) → (code : ℕ) → HostReceived → Type 0
Receives old new bytes now code h =
    ((code ≡ done) × ((new.flights ≡ old.flights) × ((r : receiving.Received) × ((receiving.received old.state bytes now ≡ (r, new.state)) × Reports r new.output.items h))))
    ⊎ ((code ≡ no_memory) × (new ≡ old))

-- no open flight has this number, and nothing changes
abbrev pub IsUnknown : (old new : HostEnd) → (flight code : ℕ) → Type 0
IsUnknown old new flight code = (code ≡ unknown) × (HasNoFlight old.state old.flights.items flight × (new ≡ old))

abbrev pub Spends : (old new : HostEnd) → (flight : ℕ) (bytes : List ℕ) (code fulfilled : ℕ) → Type 0
Spends old new flight bytes code fulfilled =
    ((code ≡ done) × ((f : Open) × (IsSpent old new flight (Some bytes) f × (fulfilled ≡ flag (pays f (Some bytes)))))) ⊎ IsUnknown old new flight code

abbrev pub Faults : (old new : HostEnd) → (flight code : ℕ) → Type 0
Faults old new flight code = ((code ≡ done) × ((f : Open) × IsSpent old new flight None f)) ⊎ IsUnknown old new flight code
