-- What a worker found to do, and the outcome of its exchange.
use Rattle.std.specs.Prelude.{◌≡◌, ◌⊎◌, ℕ, ℤ, Bool, true, false, List, Option, Some, None, Result, Ok, Err}
use Rattle.st_end.specs.State.{EndState}
use Rattle.st_end.specs.Totals.{settled}
use Rattle.st_links.specs.declared.link.LinkFault.{LinkFault}
use Rattle.st_hub.specs.Steps.{Flows}
use Rattle.st_hub.specs.Hub.{Hub, with_core}
use Rattle.st_hub.specs.Stalls.{Does, IsStalled}
use Rattle.st_hub.specs.Trying.{AllTried}
use Rattle.st_hub.specs.declared.turns.Step.TheVariants as step
use Rattle.st_hub.specs.declared.workers.WorkEnd.{WorkEnd}
use Rattle.st_hub.specs.declared.workers.WorkEnd.TheVariants as ends
use Rattle.st_hub.specs.declared.workers.Begun.{Begun}
use Rattle.st_hub.specs.declared.workers.Begun.TheVariants.{Sends, Idle, Ends}

-- whether the close of a worker's stream was fulfilled, if it has one
abbrev pub own_settled : EndState → (stream : Option ℕ) → Bool
own_settled e None = false
own_settled e (Some k) = settled e k

-- the connection works, and the stream's close is not fulfilled: a worker continues
pub record GoesOn (e : EndState) (stream : Option ℕ) : Type 0 where
  pub works : e.sending.failed ≡ false
  pub is_open : own_settled e stream ≡ false

-- a worker ends for what it finds at an end: the connection failed; else the stream's close is fulfilled; else the stream is
-- stalled; or memory was refused
abbrev pub EndsAt : EndState → (stream : Option ℕ) → WorkEnd → Type 0
EndsAt a stream ends.Failed = a.sending.failed ≡ true
EndsAt a stream ends.Settled = (a.sending.failed ≡ false) × (own_settled a stream ≡ true)
EndsAt a stream ends.Stalled = GoesOn a stream × IsStalled a stream
EndsAt a stream ends.NoMemory = Unit {0}
EndsAt a stream ends.Stopped = ⊥
EndsAt a stream ends.IvFault = ⊥
EndsAt a stream ends.Turns = ⊥

-- what a worker finds at an end. If it continues it does what a step does. If it sends nothing the end and the spare IV are as they were
abbrev pub FindsAt : {A : Type 0} → EndState → (spare_iv : Option (List ℕ)) → (stream : Option ℕ) → (now : ℤ)
    → Begun A → EndState → (after : Option (List ℕ)) → Type 0
FindsAt {A} a spare_iv stream now (Sends t) b after = GoesOn a stream × Does {A = A} a spare_iv stream now (step.Sends t) b after
FindsAt {A} a spare_iv stream now Idle b after = GoesOn a stream × Does {A = A} a spare_iv stream now step.Idle b after
FindsAt a spare_iv stream now (Ends end) b after = EndsAt a stream end × (b ≡ a) × (after ≡ spare_iv)

-- items moved between a hub's rings and its end, and no share was touched
pub record Moves {A : Type 0} (a b : Hub A) : Type 0 where
  pub flows : Flows a.flow b.flow
  pub shares : (b.out ≡ a.out) × (b.kept ≡ a.kept)

-- the worker had memory
abbrev pub HadMemory : {A : Type 0} → Begun A → Type 0
HadMemory (Ends ends.NoMemory) = ⊥
HadMemory (Ends ends.Stopped) = Unit {0}
HadMemory (Ends ends.Failed) = Unit {0}
HadMemory (Ends ends.IvFault) = Unit {0}
HadMemory (Ends ends.Turns) = Unit {0}
HadMemory (Ends ends.Settled) = Unit {0}
HadMemory (Ends ends.Stalled) = Unit {0}
HadMemory Idle = Unit {0}
HadMemory (Sends t) = Unit {0}

-- what a worker finds at a hub, once each ring was tried. Apart from what was pumped, the hub changes as its end does
pub record Finds {A : Type 0} (a : Hub A) (spare_iv : Option (List ℕ)) (stream : Option ℕ) (now : ℤ)
    (found : Begun A) (b : Hub A) (after : Option (List ℕ)) : Type 0 where
  pub pumped : Hub A
  pub moves : Moves a pumped
  pub tried : HadMemory found → AllTried a.flow a.known a.room pumped.flow
  pub finds : FindsAt pumped.flow.core spare_iv stream now found b.flow.core after
  pub rest : b ≡ with_core pumped b.flow.core

-- what a worker finds at a hub, as it was then
abbrev pub FindsSome : {A : Type 0} → (spare_iv : Option (List ℕ)) → (stream : Option ℕ) → (now : ℤ) → Begun A → (after : Option (List ℕ)) → Type 0
FindsSome {A} spare_iv stream now found after = (a b : Hub A) × Finds a spare_iv stream now found b after

-- how a round begins: somebody asked to stop, and nothing was touched; or the worker read its clock once, and found this then at the hub
abbrev pub Begins : {K A : Type 0} → (reads : K → ℤ → K → Type 0) → K → (spare_iv : Option (List ℕ)) → (stream : Option ℕ)
    → Begun A → K → (after : Option (List ℕ)) → Type 0
Begins {K} {A} reads clock spare_iv stream found clock_after after =
    ((found ≡ Ends ends.Stopped) × (clock_after ≡ clock) × (after ≡ spare_iv))
    ⊎ ((now : ℤ) × reads clock now clock_after × FindsSome {A = A} spare_iv stream now found after)

-- the bytes of an answer, if there is one
abbrev pub bytes_back : Result (List ℕ) LinkFault → Option (List ℕ)
bytes_back (Ok answer) = Some answer
bytes_back (Err fault) = None

-- the bytes were sent over a link by its rule, and this is the link's outcome
abbrev pub Exchanged : {L : Type 0} → (L → List ℕ → Result (List ℕ) LinkFault → L → Type 0)
    → L → (bytes : List ℕ) → Option (List ℕ) → L → Type 0
Exchanged rule old bytes outcome new = (answer : Result (List ℕ) LinkFault) × rule old bytes answer new × (outcome ≡ bytes_back answer)
