-- What holds of the runs and the blocks together, after more bytes and after a claim.
use Rattle.std.proofs.Common.{◌≡◌, ℕ, zero, suc, ◌+◌, ◌-◌, ◌^◌, ◌<◌, ◌≤◌, Bool, true, false, cond, List, [], ◌∷◌, length, Option, Some, None, IsSome, refl, ap, ◌∙◌, sym, subst, arith, inl, inr}
use Rattle.std.specs.Prelude.{if◌then◌else◌, nat_lt, slice_index}
use Rattle.std.specs.Option.{option_or}
use Rattle.std.proofs.lemmas.Bool.{cases_lt}
use Rattle.st_unacked.specs.declared.run.Run.{Run}
use Rattle.st_unacked.specs.declared.run.Status.{Status}
use Rattle.st_unacked.specs.Runs.{status_at, is_kept, counted, shown_by, IsTiled, Parted, claimed}
use Rattle.st_unacked.specs.Sent.{Sent, after_accept}
use Rattle.st_unacked.specs.Chunks.{Block, byte_in, covers, EachHas, HasBytes, IsTidy}
use Rattle.st_unacked.proofs.Counts.{counted-some}
use Rattle.st_unacked.proofs.Neighbours.{tiled_claimed, kept_claimed, tiled_accepted}
use Rattle.st_unacked.proofs.Views.{accepted_view}
use Rattle.st_unacked.proofs.Blocks.{test_true, test_false, found}

-- what passes one test passes another
pub each_has : (p r : ℕ → Bool) (cs : List Block) → ((q : ℕ) → p q ≡ true → r q ≡ true) → EachHas p cs → EachHas r cs
each_has p r [] also h = tt
each_has p r (c ∷ cs) also h = (let w = found p c.at 4096 h.0 in counted-some r c.at 4096 w.0 w.1 w.2 (also w.0 w.3), each_has p r cs also h.1)

pub tidy_same : (rs ts : List Run) (cs ds : List Block) (n places wider : ℕ) → ts ≡ rs → ds ≡ cs → wider ≡ places → IsTidy rs cs n places → IsTidy ts ds n wider
tidy_same rs ts cs ds n places wider e f h t = subst (λ xs. IsTidy xs ds n wider) (sym e) (subst (λ ys. IsTidy rs ys n wider) (sym f) (subst (IsTidy rs cs n) (sym h) t))

pub tidy_claimed : (rs ts : List Run) (cs : List Block) (n places sequence from to : ℕ) → Parted 0 ts → ((q : ℕ) → 0 ≤ q → status_at ts q ≡ claimed sequence from to q (status_at rs q)) → IsTidy rs cs n places → IsTidy ts cs n places
tidy_claimed rs ts cs n places sequence from to parted claims t = record {
  tiled = tiled_claimed rs ts 0 n sequence from to claims t.tiled;
  parted = parted;
  laid = t.laid;
  covered = λ q h. t.covered q (sym (kept_claimed rs ts sequence from to claims q) ∙ h);
  held = each_has (λ q. is_kept (status_at rs q)) (λ q. is_kept (status_at ts q)) cs (λ q h. kept_claimed rs ts sequence from to claims q ∙ h) t.held;
  freed = t.freed;
}

module _ (rs ts : List Run) (old new : List Block) (n places wider : ℕ) (more : List ℕ) (some : 0 < length more) (fits : n + length more < 2 ^ 64) (parted : Parted 0 ts)
    (appends : (q : ℕ) → 0 ≤ q → status_at ts q ≡ option_or (status_at rs q) (if nat_lt q (n + length more) then Some (record { flight = None; kept = true }) else None)) (has : HasBytes n more old new) (t : IsTidy rs old n places) where
  still_kept : (s p : Option Status) → is_kept s ≡ true → is_kept (option_or s p) ≡ true
  still_kept None p h = absurd cc
  still_kept (Some s) p h = h

  was_kept : (s p : Option Status) → IsSome s → is_kept (option_or s p) ≡ true → is_kept s ≡ true
  was_kept None p h k = absurd cc
  was_kept (Some s) p h k = k

  now_kept : (q : ℕ) → n ≤ q → q < n + length more → is_kept (status_at ts q) ≡ true
  now_kept q l m =
      ap is_kept (appends q (omega arith))
      ∙ ap (λ s. is_kept (option_or s (if nat_lt q (n + length more) then Some (record { flight = None; kept = true }) else None))) (t.tiled.outside q (omega (arith, l)))
      ∙ ap (λ b. is_kept (if b then Some (record { flight = None; kept = true }) else None)) (test_true q (n + length more) m)

  none_kept : (q : ℕ) → n + length more ≤ q → is_kept (status_at ts q) ≡ false
  none_kept q l =
      ap is_kept (appends q (omega arith))
      ∙ ap (λ s. is_kept (option_or s (if nat_lt q (n + length more) then Some (record { flight = None; kept = true }) else None))) (t.tiled.outside q (omega (arith, l)))
      ∙ ap (λ b. is_kept (if b then Some (record { flight = None; kept = true }) else None)) (test_false q (n + length more) l)

  covered : (q : ℕ) → is_kept (status_at ts q) ≡ true → covers new q ≡ true
  covered q h = elim (cases_lt q n) [
    | inl l ↦ (has.before q l (t.covered q (was_kept (status_at rs q) _ (t.tiled.inside q (omega arith) (omega (arith, l))) (sym (ap is_kept (appends q (omega arith))) ∙ h)))).0
    | inr l ↦ elim (cases_lt q (n + length more)) [
      | inl m ↦ (has.behind q l m).0
      | inr m ↦ absurd (let none : is_kept (status_at ts q) ≡ false = none_kept q m in cc)
    ]
  ]

  not_empty : (cs : List Block) (q : ℕ) → covers cs q ≡ true → length cs ≡ 0 → ⊥
  not_empty [] q h e = cc
  not_empty (c ∷ cs) q h e = omega (arith, e)

  pub tidy_accepted : IsTidy ts new (n + length more) wider
  tidy_accepted = record {
    tiled = tiled_accepted rs ts 0 n (length more) (omega (arith, fits)) (λ q l. appends q l ∙ ap (λ e. option_or (status_at rs q) (if nat_lt q e then Some (record { flight = None; kept = true }) else None)) (let same : n + length more ≡ 0 + n + length more = omega arith in same)) t.tiled;
    parted = parted;
    laid = has.laid;
    covered = covered;
    held = has.held (λ q. is_kept (status_at ts q)) (each_has (λ q. is_kept (status_at rs q)) (λ q. is_kept (status_at ts q)) old (λ q h. ap is_kept (appends q (omega arith)) ∙ still_kept (status_at rs q) _ h) t.held) now_kept;
    freed = λ e. absurd (not_empty new n (has.behind n (omega arith) (omega (arith, some))).0 e);
  }

-- both in the code's numbers
module _ (rs ts : List Run) (old new : List Block) (n count end places : ℕ) (more : List ℕ) (len : count ≡ length more) (is : end ≡ n + count)
    (appends : (q : ℕ) → 0 ≤ q → status_at ts q ≡ option_or (status_at rs q) (if nat_lt q end then Some (record { flight = None; kept = true }) else None)) (has : HasBytes n more old new) (t : IsTidy rs old n places) where
  ending : end ≡ n + length more
  ending = is ∙ ap (λ m. n + m) len

  appends_to : (e : ℕ) → end ≡ e → (q : ℕ) → 0 ≤ q → status_at ts q ≡ option_or (status_at rs q) (if nat_lt q e then Some (record { flight = None; kept = true }) else None)
  appends_to e same q l = appends q l ∙ ap (λ x. option_or (status_at rs q) (if nat_lt q x then Some (record { flight = None; kept = true }) else None)) same

  pub accept_view : shown_by ts (byte_in new) 0 end ≡ after_accept more (shown_by rs (byte_in old) 0 n)
  accept_view =
      ap (λ e. shown_by ts (byte_in new) 0 e) ending
      ∙ accepted_view rs ts (byte_in old) (byte_in new) more 0 n t.tiled (appends_to (0 + n + length more) (let e : end ≡ 0 + n + length more = omega (arith, ending) in e))
      (λ q l h. (has.before q (omega (arith, l)) (t.covered q h)).1)
      (λ q l m. (has.behind q (omega (arith, l)) (omega (arith, m))).1 ∙ ap (slice_index more) (let e : q - n ≡ q - (0 + n) = omega arith in e))

  pub accept_tidy : 0 < count → end < 2 ^ 64 → Parted 0 ts → (wider : ℕ) → IsTidy ts new end wider
  accept_tidy some fits parted wider =
      subst (λ e. IsTidy ts new e wider) (sym ending) (tidy_accepted rs ts old new n places wider more (omega (arith, some, len)) (omega (arith, fits, ending)) parted (appends_to (n + length more) ending) has t)
