-- What is asked of a stream, and that one that is open opens no more.
use Rattle.std.proofs.Common.{◌≡◌, ℕ, zero, suc, ◌<◌, Bool, true, false, nat_le, ◌&&◌, [], ◌∷◌, length, set, Option, Some, None, refl, sym, ap, arith}
use Rattle.std.specs.Prelude.{is_some, Result, Ok, Err, IfOk, OnOk, OnErr}
use Rattle.std.proofs.lemmas.Bool.Decides.{nat_tests}
use Rattle.st_streams.specs.Slots.{Slots, slot}
use Rattle.st_streams.proofs.SlotLemmas.{slot_within}
use Rattle.st_receiver.specs.Streams.{Incoming, Receiving, is_open, incoming_at, incoming_or, with_incoming}

-- a stream that is open has a place
pub open_within : (ss : Slots Incoming) (k : ℕ) (o : Option Incoming) → slot ss k ≡ o → is_some o ≡ true → k < length ss
open_within ss k (Some x) e is = slot_within ss k x e
open_within ss k None e is = absurd cc

within : (k : ℕ) (b : Bool) → (nat_le 1 k && nat_le k 64 && b) ≡ true → k < 65
within k true e = grind (arith, nat_tests)
within k false e = grind (arith, nat_tests)

set-again : (ss : Slots Incoming) (k : ℕ) (x : Incoming) → slot ss k ≡ Some x → set ss k (Some x) ≡ ss
set-again [] k x e = refl
set-again (s ∷ ss) zero x e = ap (λ o. o ∷ ss) (sym e)
set-again (s ∷ ss) (suc k) x e = ap (λ r. s ∷ r) (set-again ss k x e)

-- a stream that is open opens no more
opens-by : (r : Receiving) (k : ℕ) (fresh : Incoming) (o : Option Incoming) → slot r.streams k ≡ o → is_some o ≡ true → with_incoming r k (incoming_or fresh o) ≡ r
opens-by r k fresh (Some x) e is = ap (λ ss. record r { streams = ss }) (set-again r.streams k x e)
opens-by r k fresh None e is = absurd cc

pub opened_same : (r : Receiving) (k : ℕ) → is_open r k ≡ true → with_incoming r k (incoming_at r k) ≡ r
opened_same r k e = opens-by r k _ (slot r.streams k) refl e

-- ---- a read that was given back, or refused

pub on_ok : {X E P Q : Type 0} (r : Result X E) → (P → Q) → OnOk r P → OnOk r Q
on_ok (Ok x) f h = f h
on_ok (Err e) f h = h

pub on_err : {X E P Q : Type 0} (r : Result X E) → (P → Q) → OnErr r P → OnErr r Q
on_err (Ok x) f h = h
on_err (Err e) f h = f h

pub if_ok : {X E : Type 0} {P Q : X → Type 0} (r : Result X E) → ((x : X) → P x → Q x) → IfOk r P → IfOk r Q
if_ok (Ok x) f h = f x h
if_ok (Err e) f h = h
