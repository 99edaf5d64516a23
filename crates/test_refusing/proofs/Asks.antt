-- `admits` at a call: what it is handed, and what a caller has of it. Assumes `Logic`.
use Rattle.std.proofs.Common.{◌≡◌, ℕ, ◌<◌, ◌^◌, w64, Bool, List, [], ◌∷◌, refl, ap}
use seplogic.Ra.Ura.{Ura}
use mir.Val.{Val, vbool, vptr, vint}
use base.Logic.{SProp, ent, sep, ex, guard, id⊢}
use base.Fml.{Lft, Share, ftrue, fsep, flft}
use prog.Memory.{Memory}
use prog.Routine.{Routine}
use types.Logic.{Logic, sem}
use contract.Monad.{Fun}
use types.Kit.{‵, ◌⊛◌, some, later, ◌$◌, ◌∵◌, !, qed, move, keep, use1, split, join, pick, fjoin, feq_i, flt_i, feq_l, check, show, await, updating, now as at_once, done, raw}
use denote.Memory.{hidden_shr}
use denote.Builtin.{bool}
use denote.Steps.{nothing, only}
use denote.Triple.Statement.{Contract}
use denote.Triple.Spec.{triple_of}
use Rattle.test_refusing.specs.contracts.Plan as PL
use Rattle.test_refusing.specs.contracts.admits as AD

abbrev pub a_plan : PL.the_row.Denot
a_plan = record { asked = record { value = tt }; bytes = record { value = tt }; first = record { value = tt }; last = record { value = tt } }

module _ {M : Type 1} {𝓤 : Ura M} (𝓛 : Logic 𝓤) (at_mem : Memory → SProp 𝓤) (run : Routine → Fun 𝓤) where
  abbrev pub Admits : Contract 𝓤
  Admits = triple_of 𝓛 AD.signature (AD.spec 𝓛 at_mem run)

  abbrev pub at_admits : Lft → Share → ℕ × ℕ → ℕ → Admits.Ghost
  at_admits κ q c n = (((κ, tt), (q, tt), tt, (record { ref_ptr = c; now = a_plan }, (n, tt)), (vptr c.0 c.1 ∷ [], (vint w64 n ∷ [], tt))), tt)

module _ {M : Type 1} {𝓤 : Ura M} (𝓛 : Logic 𝓤) (at_mem : Memory → SProp 𝓤) (run : Routine → Fun 𝓤) (κ : Lft) (q : Share) (c : ℕ × ℕ) (n : ℕ) where
  open 𝓛 use {H, A}

  pub Admits-goes : n < 2 ^ 64 → ent 𝓤 (sep 𝓤 (sem 𝓛 (hidden_shr PL.the_row κ a_plan c.0 c.1)) (A.lft κ q)) ((Admits 𝓛 at_mem run).pre (at_admits 𝓛 at_mem run κ q c n))
  Admits-goes fits =
      qed 𝓛 (‵ (hidden_shr PL.the_row κ a_plan c.0 c.1) ∷ ‵ (flft κ q) ∷ []) ∵ feq_i ! (List Val) (vptr c.0 c.1 ∷ []) (vptr c.0 c.1 ∷ []) refl $ fjoin ! $
      nothing ! $ flt_i ! n (2 ^ 64) fits $ feq_i ! (List Val) (vint w64 n ∷ []) (vint w64 n ∷ []) refl $ fjoin ! $ fjoin ! $ move ! (1 ∷ []) $ fjoin ! $ nothing ! $ move ! (2 ∷ []) $ join ! $ join ! $ nothing ! $ move ! (1 ∷ []) $ done !

  pub Admits-gives : (v : Val) → ent 𝓤 ((Admits 𝓛 at_mem run).post (at_admits 𝓛 at_mem run κ q c n) v) (H.⇛ (ex 𝓤 (λ (y : Bool). guard 𝓤 (v ≡ vbool y) (A.lft κ q))))
  Admits-gives v =
      qed 𝓛 (raw ((Admits 𝓛 at_mem run).post (at_admits 𝓛 at_mem run κ q c n) v) ∷ []) ∵ updating ! $
      use1 𝓛 (later (some (λ (r : Bool). ((‵ (flft κ q) ⊛ ‵ ftrue) ⊛ ‵ (bool.own_val r (v ∷ []))) ⊛ some (λ (ws : Unit {0} × (Unit {0} × Unit {0})). ‵ (fsep ftrue (fsep ftrue ftrue)) ⊛ ‵ ftrue)))) (id⊢ 𝓤 _) $ await ! tt $ pick ! (λ r.
      split ! $ split ! $ move ! (1 ∷ []) $ feq_l ! (λ e. split ! $ at_once ! $
      show ! (λ (y : Bool). guard 𝓤 (v ≡ vbool y) (A.lft κ q)) r $ check ! (ap only e) $ keep ! (0 ∷ []) $ done !))
