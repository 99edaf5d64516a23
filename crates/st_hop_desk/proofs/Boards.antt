-- A batch that collects the bookings of a board, and one whose fates are reported.
use Rattle.std.proofs.Common.{◌≡◌, ℕ, zero, suc, ◌+◌, ◌<◌, ◌≤◌, Bool, true, false, List, [], ◌∷◌, ◌++◌, length, set, map, slice_get, Option, Some, None, refl, sym, ap, subst, ◌∙◌, arith}
use Rattle.std.specs.Option.{IsSome, option_to_list, unwrap_or}
use Rattle.std.proofs.lemmas.List.{map-append, length-append}
use Rattle.std.proofs.lemmas.List.Sums.{fold-append}
use Rattle.st_links.specs.declared.booking.Booking.{Booking}
use Rattle.st_hop_desk.specs.declared.board.Slot.{Slot}
use Rattle.st_hop_desk.specs.declared.board.Slot.TheVariants.{Waits, Away, Told}
use Rattle.st_hop_desk.specs.Board.{AreRising, with_away, Lists, TakesAt, IsBatch, with_told}
use Rattle.st_hop_desk.specs.declared.stored.Fate.{Fate}
use Rattle.st_hop_desk.specs.Stored.{fate_by}

get_set_other : {X : Type 0} (xs : List X) (p k : ℕ) (x : X) → p < k → slice_get (set xs p x) k ≡ slice_get xs k
get_set_other [] p k x lt = refl
get_set_other (y ∷ ys) zero zero x lt = absurd (omega (arith, lt))
get_set_other (y ∷ ys) zero (suc k) x lt = refl
get_set_other (y ∷ ys) (suc p) zero x lt = absurd (omega (arith, lt))
get_set_other (y ∷ ys) (suc p) (suc k) x lt = get_set_other ys p k x (omega (arith, lt))

rising_bound : (first : ℕ) (ps : List ℕ) (last : ℕ) → AreRising first ps last → first ≤ last
rising_bound first [] last r = r
rising_bound first (p ∷ ps) last r = let b = rising_bound (p + 1) ps last r.1 in let a = r.0 in omega (arith, a, b)

rising_later : (first : ℕ) (ps : List ℕ) (last more : ℕ) → AreRising first ps last → last ≤ more → AreRising first ps more
rising_later first [] last more r l = omega (arith, r, l)
rising_later first (p ∷ ps) last more r l = (r.0, rising_later (p + 1) ps last more r.1 l)

rising_push : (first : ℕ) (ps : List ℕ) (last : ℕ) → AreRising first ps last → AreRising first (ps ++ last ∷ []) (last + 1)
rising_push first [] last r = (r, omega arith)
rising_push first (p ∷ ps) last r = (r.0, rising_push (p + 1) ps last r.1)

away_other : (slots : List Slot) (first : ℕ) (ps : List ℕ) (last k : ℕ) → AreRising first ps last → last ≤ k → slice_get (with_away slots ps) k ≡ slice_get slots k
away_other slots first [] last k r l = refl
away_other slots first (p ∷ ps) last k r l =
    let b = rising_bound (p + 1) ps last r.1 in
    away_other (set slots p Away) (p + 1) ps last k r.1 l ∙ get_set_other slots p k Away (omega (arith, b, l))

pub begins : (slots : List Slot) → IsBatch slots (record { places = []; bookings = []; tokens = [] }) slots 0
begins slots = record { rising = omega arith; waited = refl; untold = refl; away = refl }

pub takes : (old : List Slot) (l m : Lists) (now new : List Slot) (k : ℕ) → IsBatch old l now k → TakesAt k now l new m → IsBatch old m new (k + 1)
takes old l m now new k is t =
    let there : slice_get old k ≡ Some (Waits t.booking) = sym (away_other old 0 l.places k k is.rising (omega arith)) ∙ ap (λ slots. slice_get slots k) (sym is.away) ∙ t.waited in
    subst (λ n. IsBatch old n new (k + 1)) (sym t.taken) (record {
      rising = rising_push 0 l.places k is.rising;
      waited = map-append (slice_get old) l.places (k ∷ []) ∙ ap (λ xs. xs ++ slice_get old k ∷ []) is.waited ∙ ap (λ x. map (λ b. Some (Waits b)) l.bookings ++ x ∷ []) there ∙ sym (map-append (λ b. Some (Waits b)) l.bookings (t.booking ∷ []));
      untold = ap (λ xs. xs ++ None ∷ []) is.untold ∙ sym (map-append (λ b. None) l.bookings (t.booking ∷ []));
      away = t.away ∙ ap (λ slots. set slots k Away) is.away ∙ sym (fold-append (λ slots p. set slots p Away) old l.places (k ∷ []));
    })

pub leaves : (old : List Slot) (l m : Lists) (now new : List Slot) (k : ℕ) → IsBatch old l now k → (new ≡ now) × (m ≡ l) → IsBatch old m new (k + 1)
leaves old l m now new k is same =
    subst (λ n. IsBatch old n new (k + 1)) (sym same.1) (record { rising = rising_later 0 l.places k (k + 1) is.rising (omega arith); waited = is.waited; untold = is.untold; away = same.0 ∙ is.away })

pub steps : (old : List Slot) (l m : Lists) (now new : List Slot) (k : ℕ) (taken : Bool) → IsBatch old l now k → (taken ≡ true → TakesAt k now l new m) → (taken ≡ false → (new ≡ now) × (m ≡ l)) → IsBatch old m new (k + 1)
steps old l m now new k true is takes_it leaves_it = takes old l m now new k is (takes_it refl)
steps old l m now new k false is takes_it leaves_it = leaves old l m now new k is (leaves_it refl)

pub ends : (old : List Slot) (l : Lists) (new : List Slot) (k last : ℕ) → IsBatch old l new k → k ≤ last → IsBatch old l new last
ends old l new k last is le = record { rising = rising_later 0 l.places k last is.rising le; waited = is.waited; untold = is.untold; away = is.away }

-- the last place of a batch, reported first
pub told_last : (slots : List Slot) (ps : List ℕ) (p : ℕ) (ts : List (Option Booking)) (t : Option Booking) (is_known : Bool) → length ts ≡ length ps
    → with_told slots (ps ++ p ∷ []) (ts ++ t ∷ []) is_known ≡ with_told (set slots p (Told (fate_by t is_known))) ps ts is_known
told_last slots [] p [] t is_known e = refl
told_last slots [] p (u ∷ ts) t is_known e = absurd (omega (arith, e))
told_last slots (q ∷ ps) p [] t is_known e = absurd (omega (arith, e))
told_last slots (q ∷ ps) p (u ∷ ts) t is_known e = ap (λ s. set s q (Told (fate_by u is_known))) (told_last slots ps p ts t is_known (omega (arith, e)))

-- one step of the loop that reports the fates of a batch, from its end on
pub told_one : (slots : List Slot) (ps : List ℕ) (p : ℕ) (places : List ℕ) (ts : List (Option Booking)) (o : Option (Option Booking)) (tokens : List (Option Booking)) (is_known : Bool)
    → places ≡ ps ++ p ∷ [] → tokens ≡ ts ++ option_to_list o → (0 < length tokens → IsSome o) → length tokens ≡ length places
    → (length ts ≡ length ps) × (with_told (set slots p (Told (fate_by (unwrap_or o None) is_known))) ps ts is_known ≡ with_told slots places tokens is_known)
told_one slots ps p places ts None tokens is_known are none there same =
    let long = ap length are ∙ length-append ps (p ∷ []) in
    let is : false ≡ true = there (omega (arith, long, same)) in
    absurd (cc)
told_one slots ps p places ts (Some t) tokens is_known are one there same =
    let long = ap length are ∙ length-append ps (p ∷ []) in
    let wide = ap length one ∙ length-append ts (t ∷ []) in
    let even : length ts ≡ length ps = omega (arith, long, wide, same) in
    (even, sym (told_last slots ps p ts t is_known even) ∙ ap (λ ys. with_told slots (ps ++ p ∷ []) ys is_known) (sym one) ∙ ap (λ xs. with_told slots xs tokens is_known) (sym are))

-- the same by the values of the code
pub told_step : (slots after told : List Slot) (ps : List ℕ) (p : ℕ) (places : List ℕ) (ts : List (Option Booking)) (o : Option (Option Booking)) (t : Option Booking) (f : Fate) (tokens : List (Option Booking)) (is_known : Bool)
    → after ≡ set slots p (Told f) → f ≡ fate_by t is_known → t ≡ unwrap_or o None → places ≡ ps ++ p ∷ [] → tokens ≡ ts ++ option_to_list o → (0 < length tokens → IsSome o)
    → (length tokens ≡ length places) × (with_told slots places tokens is_known ≡ told) → (length ts ≡ length ps) × (with_told after ps ts is_known ≡ told)
told_step slots after told ps p places ts o t f tokens is_known now fate token are one there is =
    let e = told_one slots ps p places ts o tokens is_known are one there is.0 in
    (e.0, ap (λ s. with_told s ps ts is_known) (now ∙ ap (λ x. set slots p (Told x)) (fate ∙ ap (λ u. fate_by u is_known) token)) ∙ e.1 ∙ is.1)
