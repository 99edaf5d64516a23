-- What a worker takes from its source of IVs and reads from its clock, what it sends over its link and reports to its observer, and why it
-- ends.
use Rattle.std.specs.Prelude.{◌≡◌, ◌≤◌, ◌⊎◌, ℕ, ℤ, List, [], ◌∷◌, ◌++◌, length, map, flat_map, Option, Some, None, Result}
use Rattle.st_streams.specs.declared.blocked.Blocked.{Blocked}
use Rattle.st_sender.specs.Stops.{blocked_at}
use Rattle.st_end.specs.declared.flight.Open.{Open}
use Rattle.st_end.specs.State.{EndState}
use Rattle.st_end.specs.Sending.{Goes}
use Rattle.st_links.specs.declared.link.LinkFault.{LinkFault}
use Rattle.st_hub.specs.Begins.{EndsAt, bytes_back}
use Rattle.st_hub.specs.Causes.{Cause, cause_of}
use Rattle.st_hub.specs.Told.{Event, waits_of, fails_of}
use Rattle.st_hub.specs.declared.workers.WorkEnd.{WorkEnd}
use Rattle.st_hub.specs.declared.workers.WorkEnd.TheVariants.{IvFault, Stopped, Turns}

-- what a worker uses in addition to its hub, at a time
pub record Around (I L K W : Type 0) : Type 0 where
  pub ivs : I
  pub link : L
  pub clock : K
  pub watch : W

-- a packet that was sent: the IV under which it was sealed, its flight, its bytes, the limit of the peer that its Blocked frame reports,
-- what the link gave, and why it failed
pub record Sealed : Type 0 where
  pub iv : List ℕ
  pub flight : Open
  pub bytes : List ℕ
  pub stops : Option Blocked
  pub answer : Result (List ℕ) LinkFault
  pub cause : Option Cause

-- a round of a worker: the time at which it began, and the packet that was sent in it, if one was
pub record Turned : Type 0 where
  pub now : ℤ
  pub sent : Option Sealed

-- an end sealed this packet at this moment
abbrev pub Seals : (now : ℤ) → Sealed → Type 0
Seals now x = (a b : EndState) × Goes a x.iv now x.flight x.bytes b × (x.stops ≡ blocked_at b.sending.flights x.flight.sequence)

-- an end was given the outcome, and the packet failed for this or did not
abbrev pub Closes : Sealed → Type 0
Closes x = (e : EndState) × (x.cause ≡ cause_of e x.flight (bytes_back x.answer))

-- each of these one after another, by this rule
abbrev pub Gave : {I T : Type 0} → (I → T → I → Type 0) → I → List T → I → Type 0
Gave gives a [] b = b ≡ a
Gave {I} gives a (x ∷ xs) b = (m : I) × gives a x m × Gave gives m xs b

-- a packet was sealed at this moment, sent over a link, and closed by what that gave; or none was sent
abbrev pub WentAt : {L : Type 0} → (L → List ℕ → Result (List ℕ) LinkFault → L → Type 0) → L → (now : ℤ) → Option Sealed → L → Type 0
WentAt exchanges a now None b = b ≡ a
WentAt exchanges a now (Some x) b = Seals now x × exchanges a x.bytes x.answer b × Closes x

-- the packets of these rounds were sent over a link, one after another
abbrev pub Went : {L : Type 0} → (L → List ℕ → Result (List ℕ) LinkFault → L → Type 0) → L → List Turned → L → Type 0
Went exchanges a [] b = b ≡ a
Went {L} exchanges a (t ∷ ts) b = (m : L) × WentAt exchanges a t.now t.sent m × Went exchanges m ts b

-- the IV of a packet, if one was sent
abbrev pub iv_in : Option Sealed → List (List ℕ)
iv_in None = []
iv_in (Some x) = x.iv ∷ []

-- the IVs under which the packets of these rounds were sealed, in their order
abbrev pub ivs_of : List Turned → List (List ℕ)
ivs_of ts = flat_map (λ (t : Turned). iv_in t.sent) ts

-- what is reported of a packet, if one was sent: the limit at which its end waits, once, and why it failed, once
abbrev pub told_in : Option Sealed → List Event
told_in None = []
told_in (Some x) = waits_of x.stops ++ fails_of x.cause

-- what is reported of the packets of these rounds, in their order
abbrev pub told_of : List Turned → List Event
told_of ts = flat_map (λ (t : Turned). told_in t.sent) ts

-- the spare IV, if there is one
abbrev pub spare_ivs : Option (List ℕ) → List (List ℕ)
spare_ivs None = []
spare_ivs (Some iv) = iv ∷ []

-- there is a spare IV after this: the one that was, or, if there was none, the next one that the source gave
abbrev pub Fills : {I : Type 0} → (I → List ℕ → I → Type 0) → I → Option (List ℕ) → I → Option (List ℕ) → Type 0
Fills gives a spare_iv b after = (iv : List ℕ) × (after ≡ Some iv) × (((spare_iv ≡ Some iv) × (b ≡ a)) ⊎ ((spare_iv ≡ None) × gives a iv b))

-- a worker made `count` rounds, each at a time that it read from its clock. What the source gave are the IVs of the packets that were sent,
-- in their order, and after them the spare one: no IV serves twice. These packets were reported to the observer, and nothing else
pub record Works {I L K W : Type 0}
    (gives : I → List ℕ → I → Type 0) (exchanges : L → List ℕ → Result (List ℕ) LinkFault → L → Type 0)
    (reads : K → ℤ → K → Type 0) (hears : W → Event → W → Type 0)
    (old : Around I L K W) (count : ℕ) (spare_iv : Option (List ℕ)) (new : Around I L K W) : Type 0 where
  pub turns : List Turned
  pub counted : length turns ≡ count
  pub gave : Gave gives old.ivs (ivs_of turns ++ spare_ivs spare_iv) new.ivs
  pub went : Went exchanges old.link turns new.link
  pub read : Gave reads old.clock (map (λ (t : Turned). t.now) turns) new.clock
  pub told : Gave hears old.watch (told_of turns) new.watch

-- why a worker ended after `made` rounds of at most `most`, and what it took since: the source gave no IV; or all rounds were made; or
-- somebody asked to stop; or it read its clock once more, and then found a reason at an end
pub data EndsBy {I L K W : Type 0}
    (reads : K → ℤ → K → Type 0) (stream : Option ℕ) (made most : ℕ) (spare_iv : Option (List ℕ))
    (old : Around I L K W) (end : WorkEnd) (new : Around I L K W) : Type 0 where
  no_iv : end ≡ IvFault → spare_iv ≡ None → new ≡ record old { ivs = new.ivs } → EndsBy reads stream made most spare_iv old end new
  all_turns : end ≡ Turns → made ≡ most → new ≡ old → EndsBy reads stream made most spare_iv old end new
  stopped : end ≡ Stopped → new ≡ old → EndsBy reads stream made most spare_iv old end new
  found : (now : ℤ) (e : EndState) → reads old.clock now new.clock → EndsAt e stream end → new ≡ record old { clock = new.clock }
      → EndsBy reads stream made most spare_iv old end new

-- a worker made some rounds, at most `most`, and ended
pub record WorkedTo {I L K W : Type 0}
    (gives : I → List ℕ → I → Type 0) (exchanges : L → List ℕ → Result (List ℕ) LinkFault → L → Type 0)
    (reads : K → ℤ → K → Type 0) (hears : W → Event → W → Type 0)
    (stream : Option ℕ) (most : ℕ) (old : Around I L K W) (end : WorkEnd) (new : Around I L K W) : Type 0 where
  pub made : ℕ
  pub few : made ≤ most
  pub spare_iv : Option (List ℕ)
  pub last : Around I L K W
  pub works : Works gives exchanges reads hears old made spare_iv last
  pub ends : EndsBy reads stream made most spare_iv last end new
