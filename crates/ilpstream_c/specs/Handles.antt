-- What a call on a handle answers and leaves, whatever it is of.
use Rattle.std.specs.Prelude.{◌≡◌, ◌⊎◌, ◌++◌, ◌&&◌, ℕ, ℤ, Bool, not, nat_eq, nat_lt, List, length, drop, Option, Some, None, MatchBool, if◌then◌else◌}
use Rattle.st_ilp.specs.Moments.{IsMoment}
use Rattle.host_objects.specs.Codes.{done, misuse, argument, room}
use Rattle.host_objects.specs.Objects.{output_of, end_in, hop_in}
use Rattle.host_objects.specs.declared.object.Object.{Object}
use Rattle.host_objects.specs.declared.end.HostEnd.{HostEnd}
use Rattle.host_objects.specs.declared.hop.HostHop.{HostHop}

-- ---- handles

-- an object of one kind answers and is left as P says
abbrev pub OnOne : {X : Type 0} → (old new : Option X) → (other : Type 0) → (X → X → Type 0) → Type 0
OnOne None new other P = other
OnOne (Some x) None other P = ⊥
OnOne (Some x) (Some y) other P = P x y

-- a handle of nothing, or of another kind, is left as it was
abbrev pub Misused : (old new : Option Object) → (code : ℕ) → Type 0
Misused old new code = (code ≡ misuse) × (new ≡ old)

abbrev pub OnEnd : (old new : Option Object) → (code : ℕ) → (HostEnd → HostEnd → Type 0) → Type 0
OnEnd old new code P = OnOne (end_in old) (end_in new) (Misused old new code) P

abbrev pub OnHop : (old new : Option Object) → (code : ℕ) → (HostHop → HostHop → Type 0) → Type 0
OnHop old new code P = OnOne (hop_in old) (hop_in new) (Misused old new code) P

-- ---- arguments

-- an argument out of its range is refused, and changes nothing
abbrev pub Refused : (old new : Option Object) → (code : ℕ) → Type 0
Refused old new code = (code ≡ argument) × (new ≡ old)

abbrev pub IfFits : Bool → (old new : Option Object) → (code : ℕ) → Type 0 → Type 0
IfFits fits old new code P = MatchBool fits P (Refused old new code)

abbrev pub is_byte : ℕ → Bool
is_byte n = nat_lt n 256

-- a code of an abort is a byte other than 1, which is that of a clean close
abbrev pub is_abort : ℕ → Bool
is_abort n = is_byte n && not (nat_eq n 1)

abbrev pub IfMoment : (now : ℤ) → (old new : Option Object) → (code : ℕ) → Type 0 → Type 0
IfMoment now old new code P = (IsMoment now × P) ⊎ ((¬ IsMoment now) × Refused old new code)

-- ---- answers

-- 1 for yes, 0 for no
abbrev pub flag : Bool → ℕ
flag b = if b then 1 else 0

-- these bytes are copied to the front of the buffer, or it has no room for them and stays
abbrev pub Copies : (bytes before after : List ℕ) → (code len : ℕ) → Type 0
Copies bytes before after code len =
    (len ≡ length bytes) × MatchBool (nat_lt (length before) (length bytes)) ((code ≡ room) × (after ≡ before)) ((code ≡ done) × (after ≡ bytes ++ drop (length bytes) before))

abbrev pub PutsOut : (old new : Option Object) → (before after : List ℕ) → (code len : ℕ) → Type 0
PutsOut None new before after code len = Misused None new code × (after ≡ before)
PutsOut (Some o) new before after code len = (new ≡ Some o) × Copies (output_of o) before after code len

-- ---- arguments, and then the object

abbrev pub OnEndIf : Bool → (old new : Option Object) → (code : ℕ) → (HostEnd → HostEnd → Type 0) → Type 0
OnEndIf fits old new code P = IfFits fits old new code (OnEnd old new code P)

abbrev pub OnEndIfBoth : (fits also : Bool) → (old new : Option Object) → (code : ℕ) → (HostEnd → HostEnd → Type 0) → Type 0
OnEndIfBoth fits also old new code P = IfFits fits old new code (IfFits also old new code (OnEnd old new code P))

-- the same at a moment, which has to be one
abbrev pub OnEndAt : (now : ℤ) → (old new : Option Object) → (code : ℕ) → (HostEnd → HostEnd → Type 0) → Type 0
OnEndAt now old new code P = IfMoment now old new code (OnEnd old new code P)

abbrev pub OnHopAt : (now : ℤ) → (old new : Option Object) → (code : ℕ) → (HostHop → HostHop → Type 0) → Type 0
OnHopAt now old new code P = IfMoment now old new code (OnHop old new code P)
