-- Results one after another.
use Rattle.std.proofs.Common.{◌≡◌, Bool, true, false, cond, Result, Ok, Err, refl}
use Rattle.std.specs.Prelude.{IsOk}
use Rattle.st_oer.specs.declared.error.OerError.{OerError}
use Rattle.st_frames.specs.Contents.{◌>>=◌, refusing}
use Rattle.st_frames.specs.Reading.{outer}

pub bind_ok : {A B E : Type 0} (r : Result A E) (f : A → Result B E) (y : B) → (r >>= f) ≡ Ok y → (x : A) × (r ≡ Ok x) × (f x ≡ Ok y)
bind_ok (Ok x) f y e = (x, refl, e)
bind_ok (Err d) f y e = absurd cc

pub refusing_ok : {A D E : Type 0} (e : E) (r : Result A D) (x : A) → refusing e r ≡ Ok x → r ≡ Ok x
refusing_ok e (Ok y) x h = cc
refusing_ok e (Err d) x h = absurd cc

pub outer_ok : {A : Type 0} (r : Result A OerError) (x : A) → outer r ≡ Ok x → r ≡ Ok x
outer_ok (Ok y) x e = cc
outer_ok (Err d) x e = absurd cc

pub ok_is : {A E : Type 0} (x y : A) → (let l : Result A E = Ok x in let r : Result A E = Ok y in l ≡ r) → x ≡ y
ok_is x y e = cc

pub guard_ok : {A E : Type 0} (b : Bool) (d : E) (x : Result A E) (y : A) → cond b (Err d) x ≡ Ok y → (b ≡ false) × (x ≡ Ok y)
guard_ok true d x y e = absurd cc
guard_ok false d x y e = (refl, e)

-- what an Ok holds
pub found : {A E : Type 0} (r : Result A E) → IsOk r → (x : A) × (r ≡ Ok x)
found (Ok x) h = (x, refl)
found (Err e) h = absurd cc
