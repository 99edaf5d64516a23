-- What one stream has of a total.
use Rattle.std.proofs.Common.{◌≡◌, ℕ, zero, suc, ◌+◌, ◌^◌, ◌<◌, ◌≤◌, Bool, false, [], ◌∷◌, ◌++◌, length, get_or, drop, replicate, arith, ap, subst, refl, sym, ◌∙◌, Option, Some, None}
use Rattle.std.specs.Prelude.{nat_le}
use Rattle.std.proofs.lemmas.Bool.Decides.{nat_tests}
use Rattle.std.proofs.lemmas.List.{drop_all}
use Rattle.std.proofs.Math.Seq.{drop-cons}
use Rattle.st_streams.specs.Slots.{Slots, slot, no_slots}
use Rattle.st_sender.specs.Lanes.{SendStream, out_of, outs}
use Rattle.st_sender.specs.Refusals.{accepted_of, offered_of, all_accepted, all_offered}

accepted_slot : (lanes : Slots SendStream) (k : ℕ) → accepted_of (out_of (slot lanes k)) ≤ all_accepted (outs lanes)
accepted_slot [] k = omega arith
accepted_slot (x ∷ xs) zero = omega arith
accepted_slot (x ∷ xs) (suc k) = omega (arith, accepted_slot xs k)

offered_slot : (lanes : Slots SendStream) (k : ℕ) → offered_of (out_of (slot lanes k)) ≤ all_offered (outs lanes)
offered_slot [] k = omega arith
offered_slot (x ∷ xs) zero = omega arith
offered_slot (x ∷ xs) (suc k) = omega (arith, offered_slot xs k)

pub accepted_within : (lanes : Slots SendStream) (k : ℕ) (l : SendStream) → slot lanes k ≡ Some l → l.out.accepted ≤ all_accepted (outs lanes)
accepted_within lanes k l e = omega (arith, accepted_slot lanes k, ap (λ o. accepted_of (out_of o)) e)

pub offered_within : (lanes : Slots SendStream) (k : ℕ) (l : SendStream) → slot lanes k ≡ Some l → l.out.offered ≤ all_offered (outs lanes)
offered_within lanes k l e = omega (arith, offered_slot lanes k, ap (λ o. offered_of (out_of o)) e)

below : (a b : ℕ) → nat_le a b ≡ false → b < a
below a b e = grind (arith, nat_tests)

-- what a total has room for, each of its parts has
pub room_for : (all more part : ℕ) (t : Bool) → t ≡ nat_le (2 ^ 63) (all + more) → t ≡ false → part ≤ all → part + more < 2 ^ 64
room_for all more part t is less within = let h = below (2 ^ 63) (all + more) (sym is ∙ less) in omega arith

-- a place that was read
pub found_at : (xs : Slots SendStream) (k : ℕ) (o : Option SendStream) → k < length xs → o ≡ get_or xs k o → slot xs k ≡ o
found_at [] k o h e = absurd (omega arith)
found_at (x ∷ xs) zero o h e = sym e
found_at (x ∷ xs) (suc k) o h e = found_at xs k o (omega arith) e

pub all_none : {X : Type 0} (xs : Slots X) (n : ℕ) → xs ≡ replicate n None → n ≡ 65 → xs ≡ no_slots
all_none xs n e is = e ∙ ap (λ (i : ℕ). replicate i None) is

suc_is : (i : ℕ) → suc i ≡ i + 1
suc_is i = omega arith

replicate_push : {X : Type 0} (n : ℕ) (x : X) → replicate n x ++ x ∷ [] ≡ replicate (suc n) x
replicate_push zero x = refl
replicate_push (suc n) x = ap (λ xs. x ∷ xs) (replicate_push n x)

-- one empty place more
pub none_more : {X : Type 0} (xs all : Slots X) (n : ℕ) → xs ≡ replicate n None → all ≡ xs ++ None ∷ [] → all ≡ replicate (n + 1) None
none_more xs all n e pushed = pushed ∙ ap (λ ys. ys ++ None ∷ []) e ∙ replicate_push n None ∙ ap (λ (j : ℕ). replicate j None) (suc_is n)

-- a total so far, with what is left, is the whole: over one place more, and at the end
pub total_next : (all : Slots SendStream → ℕ) (part : Option SendStream → ℕ) → ((x : Option SendStream) (xs : Slots SendStream) → all (x ∷ xs) ≡ part x + all xs) → (seen lanes : Slots SendStream) (total more i : ℕ) (d : Option SendStream) → seen ≡ lanes
    → i < length seen → more ≡ part (get_or seen i d) → total + all (drop i lanes) ≡ all lanes → total + more + all (drop (i + 1) lanes) ≡ all lanes
total_next all part cons seen lanes total more i d same lt is e =
    omega (arith, is, e, ap (λ xs. part (get_or xs i d)) same, ap all (drop-cons lanes i d (subst (λ xs. i < length xs) same lt)), cons (get_or lanes i d) (drop (suc i) lanes), ap (λ (j : ℕ). all (drop j lanes)) (suc_is i))

pub total_whole : (all : Slots SendStream → ℕ) → all [] ≡ 0 → (seen lanes : Slots SendStream) (total i : ℕ) → seen ≡ lanes → length seen ≤ i → total + all (drop i lanes) ≡ all lanes → total ≡ all lanes
total_whole all none seen lanes total i same past e = omega (arith, e, none, ap all (drop_all i lanes (subst (λ xs. length xs ≤ i) same past)))
