-- What an event reported, and whether it succeeded.
use Rattle.std.proofs.Common.{◌≡◌, ℕ, Bool, true, false, List, [], ◌∷◌, refl, sym, ap, subst, ◌∙◌, ℤ, inl, inr, Option, None, Some, Result, Ok, Err}
use Rattle.std.specs.Prelude.{MatchBool}
use Rattle.st_streams.specs.declared.end_error.EndError.{EndError}
use Rattle.st_world_parts.specs.Sides.{Client}
use Rattle.st_world_parts.specs.State.{World}
use Rattle.st_world_parts.specs.Events.{Event, Opened, Send, Told}
use Rattle.st_world.specs.Steps.{Happens}
use Rattle.st_world_quiet.specs.declared.stop.Stop.TheVariants.{Refused}
use Rattle.st_world_quiet.specs.Playing.{Sends, SendsNone, Stops, Tells, is_sent, iv_of, opened_in}

-- if the world notes no lack of memory, the event succeeded
pub tells_met : (w v : World) (event : Event) (told : Told) → Happens w event told v → v.refused ≡ false → Tells event told w v
tells_met w v event told h none = elim h.1 [
  | inl met ↦ (h.0, met)
  | inr lacks ↦ absurd (let with_refusal : v.refused ≡ true = ap (λ (z : World). z.refused) lacks.3 in let clash : ◌≡◌ {A = Bool} true false = sym with_refusal ∙ none in cc)
]

pub stops_refused : (w v : World) (event : Event) (told : Told) → Happens w event told v → v.refused ≡ true → Stops ⊥ ⊥ Refused w v
stops_refused w v event told h with_refusal = record { goes_on = (event ∷ [], (v, told, h, refl)); why = with_refusal }

-- ---- a Send

pub send_tells : (number : ℕ) (iv : List ℕ) (now : ℤ) (told : Told) (w v : World) → iv ≡ iv_of number → Tells (Send Client iv now) told w v → MatchBool (is_sent told) (Sends number now w v) (SendsNone w v)
send_tells number iv now told w v is tells = by (subst (λ x. Tells (Send Client x now) told w v) is tells)
  where
    by : Tells (Send Client (iv_of number) now) told w v → MatchBool (is_sent told) (Sends number now w v) (SendsNone w v)
    by (lawful, step) = elim step [
      | inl none ↦ subst (λ t. MatchBool (is_sent t) (Sends number now w v) (SendsNone w v)) (sym none.1) (record { none = none.0; same = none.2 })
      | inr goes ↦ subst (λ t. MatchBool (is_sent t) (Sends number now w v) (SendsNone w v)) (sym goes.4)
          (record { lawful = lawful; goes = inr (goes.0, goes.1, goes.2, goes.3, refl, goes.5) })
    ]

-- ---- a stream that opens

opened_by : (r : Result ℕ EndError) (told : Told) (k : ℕ) → told ≡ Opened r → opened_in told ≡ Some k → told ≡ Opened (Ok k)
opened_by (Ok j) told k is here = let same : ◌≡◌ {A = Option ℕ} (Some j) (Some k) = ap opened_in (sym is) ∙ here in is ∙ (let number : j ≡ k = cc in ap (λ (i : ℕ). Opened (Ok i)) number)
opened_by (Err why) told k is here = absurd (let same : ◌≡◌ {A = Option ℕ} None (Some k) = ap opened_in (sym is) ∙ here in cc)
