-- What passes over a link, a link of which one exchange fails, and the links of a hop in one list.
use Rattle.std.specs.Prelude.{◌≡◌, ◌+◌, ℕ, List, Option, Some, None, Result, Ok, Err, MatchOption, slice_get, slice_set}
use Rattle.st_devices.specs.Faults.{count_after}
use Rattle.st_links.specs.declared.link.LinkFault.{LinkFault}
use Rattle.st_links.specs.declared.link.LinkFault.TheVariants.{Device}
use Rattle.st_links.specs.declared.fail_link.FailLink.{FailLink}

-- the wrapped link
abbrev pub link_behind : {L : Type 0} → FailLink L → L
link_behind f = f.link

-- how many exchanges there were, the one that failed among them
abbrev pub exchanges_made : {L : Type 0} → FailLink L → ℕ
exchanges_made f = f.calls

-- which exchange fails, counted from 1
abbrev pub failing_exchange : {L : Type 0} → FailLink L → ℕ
failing_exchange f = f.fails_at

-- how many faults of a device it answered
abbrev pub faults_answered : {L : Type 0} → FailLink L → ℕ
faults_answered f = f.faults

-- the next exchange is the one that fails
abbrev pub IsDue : {L : Type 0} → FailLink L → Type 0
IsDue f = f.calls + 1 ≡ f.fails_at

-- the exchange failed, and the wrapped link was not asked
pub record FailsAlone {L : Type 0} (old new : FailLink L) (answer : Result (List ℕ) LinkFault) : Type 0 where
  pub fault : answer ≡ Err Device
  pub behind : new.link ≡ old.link
  pub counted : new.faults ≡ count_after 1 old.faults

-- one exchange, if those of the wrapped link are lawful by `behind`: that of the one number fails alone, and each other is passed through
pub record IsExchange {L : Type 0} (behind : L → List ℕ → Result (List ℕ) LinkFault → L → Type 0) (old : FailLink L) (bytes : List ℕ) (answer : Result (List ℕ) LinkFault) (new : FailLink L) : Type 0 where
  pub made : new.calls ≡ count_after 1 old.calls
  pub number : new.fails_at ≡ old.fails_at
  pub fails : IsDue old → FailsAlone old new answer
  pub through : ¬ (IsDue old) → behind old.link bytes answer new.link

-- the bytes of the answer, or none at a fault of any kind
abbrev pub bytes_answered : Result (List ℕ) LinkFault → Option (List ℕ)
bytes_answered (Ok bytes) = Some bytes
bytes_answered (Err fault) = None

-- one exchange, of the link at this place: the others stay as they were
pub record ExchangesOne {L : Type 0} (exchanges : L → List ℕ → Result (List ℕ) LinkFault → L → Type 0) (old : List L) (place : ℕ) (bytes : List ℕ) (outcome : Option (List ℕ)) (new : List L) (before : L) : Type 0 where
  pub answer : Result (List ℕ) LinkFault
  pub after : L
  pub exchanged : exchanges before bytes answer after
  pub passed : outcome ≡ bytes_answered answer
  pub others : new ≡ slice_set old place after

-- an exchange of an account is that of the link at its place; if there is none, there is no answer
abbrev pub IsExchangeAt : {L : Type 0} → (exchanges : L → List ℕ → Result (List ℕ) LinkFault → L → Type 0) → (old : List L) → (account : ℕ) → (bytes : List ℕ) → (outcome : Option (List ℕ)) → (new : List L) → Type 0
IsExchangeAt exchanges old account bytes outcome new = MatchOption (slice_get old account) ((outcome ≡ None) × (new ≡ old)) (ExchangesOne exchanges old account bytes outcome new)
