-- How `local` ends that writes its totals to a file.
use Rattle.std.proofs.Common.{◌≡◌, ℕ, ◌≤◌, Bool, true, false, List, length, refl, sym, subst, inl, inr, Option, Some, None, Result, Ok, Err}
use Rattle.std.specs.Prelude.{◌⊎◌, IfSome, MatchOption, not, if◌then◌else◌}
use Rattle.std.specs.Option.{is_some}
use Rattle.std.specs.Io.KnownBytes.{Appends}
use Rattle.std.proofs.KnownBytes.{Appends-nil}
use Rattle.ilpstream_output.specs.declared.error.Fault.{Fault}
use Rattle.ilpstream_output.specs.declared.error.Fault.TheVariants.{NoMemory}
use Rattle.ilpstream_local.specs.declared.fault.LocalFault.{LocalFault}
use Rattle.ilpstream_local.specs.declared.sends.LocalSends.{LocalSends}
use Rattle.ilpstream_local.specs.Endings.{ComesBefore, Explains, GoesOver, most_bytes}
use Rattle.ilpstream_output.specs.Endings.{WritesPart}
use Rattle.ilpstream_local.specs.Sends.{is_past}
use Rattle.ilpstream_settings.specs.declared.settings.LocalSettings.{LocalSettings}
use Rattle.ilpstream_net.specs.declared.error.RunError.{RunError}
use Rattle.ilpstream_net.specs.declared.error.RunError.TheVariants as run
use Rattle.ilpstream_main.specs.declared.error.LocalError.{LocalError}
use Rattle.ilpstream_main.specs.declared.error.LocalError.TheVariants as ended
use Rattle.ilpstream_main.specs.Local.{EndsLocal, ended_within, written}

whole_alone : (input before now : Option (List ℕ)) → IfSome input (λ bytes. Appends before now bytes × (length bytes ≤ most_bytes)) → IfSome input (λ bytes. Appends before now bytes)
whole_alone None before now h = tt
whole_alone (Some bytes) before now h = h.0

nothing : (input before : Option (List ℕ)) → IfSome input (λ bytes. WritesPart bytes before before)
nothing None before = tt
nothing (Some bytes) before = (0, Appends-nil before)

module _ (asked : LocalSettings) (input before now : Option (List ℕ)) (U W : Type 0) (part : IfSome input (λ bytes. WritesPart bytes before now)) where
  well : (q : LocalSends) (t : Result (Unit {0}) Fault) → is_past q.sent q.bound ≡ false → IfSome input (λ bytes. Appends before now bytes) → GoesOver asked input q → EndsLocal asked input before now U W (written t)
  well q (Ok x) within whole over = record { unopened = λ e. absurd (cc); done = λ e. record { whole = whole; told = q; over = over; is_past = within }; past = λ e. absurd (cc); refused = λ x e. absurd (cc); part = part }
  well q (Err x) within whole over = record { unopened = λ e. absurd (cc); done = λ e. absurd (cc); past = λ e. absurd (cc); refused = λ x e. absurd (cc); part = part }

  by : (b : Bool) (q : LocalSends) (t : Result (Unit {0}) Fault) → is_past q.sent q.bound ≡ b → IfSome input (λ bytes. Appends before now bytes) → GoesOver asked input q → EndsLocal asked input before now U W (if b then Err ended.PastBound else written t)
  by true q t past whole over = record { unopened = λ e. absurd (cc); done = λ e. absurd (cc); past = λ e. record { whole = whole; told = q; over = over; is_past = past }; refused = λ x e. absurd (cc); part = part }
  by false q t within whole over = well q t within whole over

  -- a run that transferred all of its input
  pub ends_over : (q : LocalSends) (t : Result (Unit {0}) Fault) (r : Result (Unit {0}) LocalError) → r ≡ ended_within q t → IfSome input (λ bytes. Appends before now bytes × (length bytes ≤ most_bytes)) → GoesOver asked input q → EndsLocal asked input before now U W r
  ends_over q t r is whole over = subst (EndsLocal asked input before now U W) (sym is) (by (is_past q.sent q.bound) q t refl (whole_alone input before now whole) over)

  -- one that ended with a fault
  pub ends_by : (x : LocalFault) → Explains asked input x → (ComesBefore x → W) → EndsLocal asked input before now U W (Err (ended.Local x))
  ends_by x why early = record {
    unopened = λ e. absurd (cc);
    done = λ e. absurd (cc);
    past = λ e. absurd (cc);
    refused = λ y e. let same : x ≡ y = cc in subst (λ (z : LocalFault). Explains asked input z × (ComesBefore z → W)) same (why, early);
    part = part;
  }

-- one that did not begin
pub ends_unopened : (asked : LocalSettings) (input before : Option (List ℕ)) (U W : Type 0) (error : RunError) → U → (error ≡ run.BadOption) ⊎ (error ≡ run.Fault NoMemory) → EndsLocal asked input before before U W (Err (ended.Run error))
ends_unopened asked input before U W error same (inl is) = subst (λ (x : RunError). EndsLocal asked input before before U W (Err (ended.Run x))) (sym is) (record { unopened = λ e. same; done = λ e. absurd (cc); past = λ e. absurd (cc); refused = λ x e. absurd (cc); part = nothing input before })
ends_unopened asked input before U W error same (inr is) = subst (λ (x : RunError). EndsLocal asked input before before U W (Err (ended.Run x))) (sym is) (record { unopened = λ e. absurd (cc); done = λ e. absurd (cc); past = λ e. absurd (cc); refused = λ x e. absurd (cc); part = nothing input before })

-- with a file for its totals
pub told_some : {X : Type 0} (o : Option X) (A B : Type 0) (b : Bool) → is_some o ≡ not b → b ≡ false → B → MatchOption o A (λ x. B)
told_some None A B true is there h = absurd (let clash : ◌≡◌ {A = Bool} true false = there in cc)
told_some None A B false is there h = absurd (let clash : ◌≡◌ {A = Bool} false true = is in cc)
told_some (Some x) A B b is there h = h
