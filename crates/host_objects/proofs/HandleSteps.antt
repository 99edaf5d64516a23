-- The machine value of a handle: a pointer with an allocator of no bytes. Assumes `Logic`.
use Rattle.std.proofs.Common.{◌≡◌, ℕ, List, [], ◌∷◌, ◌++◌, refl, subst, lit<}
use mathlib.Core.Bool.{◌&&◌}
use lib.Dec.{T}
use seplogic.Ra.Ura.{Ura}
use mir.Syntax.{impl, tnil, dnil}
use mir.Raw.{raw as bare}
use mir.Val.{Val, vnull, vstruct, of_list, has_ty, WT}
use base.Logic.{never, via, snd∗, fst∗, guard_i}
use types.Logic.{Logic, sem}
use types.Kit.{Item, Goal, Seq, Step, step, ‵, given, ◌$◌, move, drop, fsplit, fjoin, fpick, fpack, feq_i, feq_l, use1, learn, ! }
use contract.Monad.{fact_use}
use denote.RattleType.{RattleType, Valss}
use denote.Builtin.{RawPtr}
use denote.Memory.{lone}
use denote.RawPtr.{Ptr, block_ptr, null_ptr, ptr_val, in_a_block, Testable}
use denote.Steps.{nothing}
use denote.Param.{layout}
use denote.Struct.Struct.{within}
use denote.Struct.Owning.{shape, to}
use Rattle.core.proofs.alloc.Calls.{Al, handle_tells}
use Rattle.core.proofs.cell.Inside.{Good}
use Rattle.core.specs.Ptr.{points_to}
use Rattle.std.specs.Prelude.{Option, Some, None}
use Rattle.std.specs.declared.alloc.Global.{Global}
use Rattle.std.specs.contracts.alloc.Global as heap
use Rattle.std.proofs.alloc.Global.TheLaws as heap_laws
use Rattle.std.specs.contracts.impls.GlobalAllocator.TheImpl.{ghosts}
use Rattle.std.proofs.GlobalToken.{dealloc_token-Testable}
use Rattle.std_alloc.specs.Box.Ownership.{box_owns}
use Rattle.std_alloc.proofs.ResultValues.{and_tt}
use Rattle.host_box.proofs.Values.{both}
use Rattle.host_objects.specs.Owning.{owned}
use Rattle.host_objects.specs.contracts.object.Object as state
use Rattle.host_objects.specs.contracts.handle.Handle as handle

abbrev pub X : RattleType
X = state.the_row

abbrev pub Z : RattleType
Z = heap.the_row

abbrev pub al : Al
al = record { row = Z; laws = heap_laws.the_row_laws; g = ghosts; d = impl [] tnil dnil; drops = impl [] tnil dnil }

pub null_good : (h : Val) → Good (layout Z) h → T (has_ty (layout Z) h && mathlib.Core.Bool.true) × WT (both vnull h)
null_good h fits = (and_tt (has_ty (layout Z) h) fits.0, (record { fits = lit< tt }, (fits.1, tt)))

module _ {M : Type 1} {𝓤 : Ura M} {𝓛 : Logic 𝓤} {K : Type 0} {Γ : List (Item 𝓤)} {G : Goal 𝓤 𝓛.H} where
  pub hand_out : K → (d : handle.the_row.Denot) (vs : List Val)
      → ((h : Val) → vs ≡ both (ptr_val d.at) h ∷ [] → Good (layout Z) h → Seq K 𝓛 (‵ (owned d.alloc d.at d.state) ∷ ‵ (Z.own_val d.alloc (h ∷ [])) ∷ Γ) G)
      → Seq K 𝓛 (‵ (handle.the_row.own_val d vs) ∷ Γ) G
  hand_out t d vs k =
      fsplit t $ fpick t (λ vss. fsplit t $ feq_l t (λ ev. fsplit t $ feq_l t (λ ep. fsplit t $ handle_tells al t d.alloc vss.1.0 (λ h ea fits. move t (1 ∷ []) $ drop t $ move t (1 ∷ []) $
      k h (subst (λ (ws : List Val). vs ≡ vstruct (of_list (ptr_val d.at ∷ (ws ++ []))) ∷ []) ea (subst (λ (ps : List Val). vs ≡ vstruct (of_list (ps ++ (vss.1.0 ++ []))) ∷ []) ep ev)) fits))))

  pub hand_in : K → (p : Ptr) (h : Val) (a : Global) (s : Option X.Denot)
      → Step K 𝓛 (‵ (handle.the_row.own_val (record { at = p; alloc = a; state = s }) (both (ptr_val p) h ∷ [])) ∷ Γ) G (‵ (owned a p s) ∷ ‵ (Z.own_val a (h ∷ [])) ∷ Γ) G
  hand_in t p h a s = step (λ q. let v : Val = both (ptr_val p) h in
      nothing t $ move t (2 ∷ 0 ∷ []) $ fjoin t $ feq_i t (List Val) (ptr_val p ∷ []) (ptr_val p ∷ []) refl $ fjoin t $ feq_i t (List Val) (v ∷ []) (v ∷ []) refl $ fjoin t $
      fpack t (Valss (RawPtr ∷ Z ∷ [])) (within (shape handle.the_type) (to handle.the_type (record { at = p; alloc = a; state = s })) (v ∷ [])) (ptr_val p ∷ [], (h ∷ [], tt)) $ fjoin t $ q)

  -- a handle is null and has no state, or it has the block of its state
  pub hand_is : K → (a : Global) (p : Ptr) (s : Option X.Denot) → (p ≡ null_ptr → s ≡ None → Seq K 𝓛 Γ G)
      → ((b o : ℕ) (x : X.Denot) → p ≡ block_ptr b o → s ≡ Some x → Testable (block_ptr b o) → Seq K 𝓛 (‵ (box_owns (ghosts.dealloc_token a) X (block_ptr b o) x) ∷ Γ) G)
      → Seq K 𝓛 (‵ (owned a p s) ∷ Γ) G
  hand_is t a p None none one = feq_l t (λ e. none e refl)
  hand_is t a p (Some x) none one =
      in_a_block t p (λ r. box_owns (ghosts.dealloc_token a) X r x) (fst∗ 𝓤 (never 𝓤) (sem 𝓛 (ghosts.dealloc_token a (bare (lone X.mir)) null_ptr))) (λ b o e.
      use1 𝓛 (given (Testable (block_ptr b o)) (‵ (box_owns (ghosts.dealloc_token a) X (block_ptr b o) x)))
      (fact_use 𝓤 (Testable (block_ptr b o)) (via 𝓤 _ (snd∗ 𝓤 (sem 𝓛 (points_to X (block_ptr b o) x)) (sem 𝓛 (ghosts.dealloc_token a (bare (lone X.mir)) (block_ptr b o)))) (dealloc_token-Testable 𝓛 a (bare (lone X.mir)) (block_ptr b o))) (guard_i 𝓤 (Testable (block_ptr b o)) _)) $
      learn t (λ tested. one b o x e refl tested))
