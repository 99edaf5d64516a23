-- When nothing can be sent any more, and the result of one step of a worker.
use Rattle.std.specs.Prelude.{◌≡◌, ℕ, ℤ, Bool, true, false, List}
use Rattle.std.specs.declared.option.Option.{Option}
use Rattle.std.specs.declared.option.Option.TheVariants.{None, Some}
use Rattle.st_sender.specs.Stops.{blocked_at}
use Rattle.st_end.specs.State.{EndState}
use Rattle.st_end.specs.Sending.{GoesNone}
use Rattle.st_end.specs.Unsealed.{GoesUnsealed}
use Rattle.st_end.specs.Totals.{in_flight, waits}
use Rattle.st_hub.specs.declared.turns.Step.{Step}
use Rattle.st_hub.specs.declared.turns.Step.TheVariants.{Sends, Idle, Stalled}

-- whether a worker's stream waits, if it has one
abbrev pub own_waits : EndState → (stream : Option ℕ) → Bool
own_waits e None = false
own_waits e (Some k) = waits e k

-- nothing can be sent, no Prepare is in flight, and accepted bytes of the stream are not acknowledged or its close is not
-- fulfilled: only a packet of the peer can raise a limit now, and the peer answers nothing
pub record IsStalled (e : EndState) (stream : Option ℕ) : Type 0 where
  pub none : GoesNone e
  pub alone : in_flight e ≡ 0
  pub waits : own_waits e stream ≡ true

-- a Prepare is to be sealed and sent under the spare IV, which is used up, and its `Turn` has the limit of its Blocked frame; otherwise the end and the
-- spare IV are as they were, and `Stalled` is returned exactly if the end is stalled
abbrev pub Does : {A : Type 0} → EndState → (spare_iv : Option (List ℕ)) → (stream : Option ℕ) → (now : ℤ)
    → Step A → EndState → (after : Option (List ℕ)) → Type 0
Does a spare_iv stream now (Sends t) b after = (iv : List ℕ) × (spare_iv ≡ Some iv) × GoesUnsealed a iv now t.flight t.bytes b × (after ≡ None)
    × (t.stops ≡ blocked_at b.sending.flights t.flight.sequence)
Does a spare_iv stream now Idle b after = GoesNone a × (¬ (IsStalled a stream)) × (b ≡ a) × (after ≡ spare_iv)
Does a spare_iv stream now Stalled b after = IsStalled a stream × (b ≡ a) × (after ≡ spare_iv)
