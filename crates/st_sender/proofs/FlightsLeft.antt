-- The flight of a sequence lands, and a new one goes.
use Rattle.std.proofs.Common.{◌≡◌, ◌≢◌, ℕ, ◌+◌, ◌^◌, ◌<◌, ◌≤◌, Bool, true, false, cond, List, [], ◌∷◌, ◌++◌, length, refl, sym, ap, subst, ◌∙◌, arith, Option, None, Some, inl, inr, eqb, length-append}
use Rattle.std.specs.Prelude.{nat_eq}
use Rattle.std.specs.List.{list_any}
use Rattle.std.proofs.lemmas.Bool.{cases_eq}
use Rattle.std.proofs.lemmas.Bool.Decides.{nat_tests}
use Rattle.std.proofs.lemmas.List.Sums.{sum_by-cons}
use Rattle.st_unacked.specs.Sent.{is_by}
use Rattle.st_sender.specs.Sending.{Flight}
use Rattle.st_sender.specs.Flights.{carries, flight_at, without_flight, part_of}
use Rattle.st_sender.specs.Paying.{flown_money}
use Rattle.st_sender.specs.Lanes.{flying_by}
use Rattle.st_sender.specs.FlightsLeft.{AreApart, AreOrdered}
use Rattle.st_sender.proofs.Going.{or_else, flying_push}

pub same_test : {A : Type 0} (m n : ℕ) (x y : A) → m ≡ n → cond (eqb m n) x y ≡ x
same_test m n x y e = grind (arith, nat_tests)

pub other_test : {A : Type 0} (m n : ℕ) (x y : A) → m ≢ n → cond (eqb m n) x y ≡ y
other_test m n x y e = grind (arith, nat_tests)

is_same : (n m : ℕ) → n ≡ m → nat_eq n m ≡ true
is_same n m e = grind (arith, nat_tests)

not_same : (n m : ℕ) → n ≢ m → nat_eq n m ≡ false
not_same n m d = grind (arith, nat_tests)

pub none_else : {A : Type 0} (t : Bool) (x : A) (r : Option A) → cond t (Some x) r ≡ None → r ≡ None
none_else true x r e = absurd (cc)
none_else false x r e = e

-- a sequence that is not in flight carries nothing
by_other : (t : Bool) (n m : ℕ) (r : Option ℕ) → n ≢ m → is_by m r ≡ false → is_by m (cond t (Some n) r) ≡ false
by_other true n m r d e = not_same n m d
by_other false n m r d e = e

pub none_by : (k q m : ℕ) (ps : List Flight) → flight_at ps m ≡ None → is_by m (flying_by k ps q) ≡ false
none_by k q m [] e = refl
none_by k q m (x ∷ xs) e = elim (cases_eq x.sequence m) [
  | inl same ↦ (let f = same_test x.sequence m (Some x) (flight_at xs m) same in absurd (cc))
  | inr apart ↦ by_other (list_any (carries k q) x.frames) x.sequence m (flying_by k xs q) apart (none_by k q m xs (sym (other_test x.sequence m (Some x) (flight_at xs m) apart) ∙ e))
]

by_own : (t : Bool) (n m : ℕ) (r : Option ℕ) → n ≡ m → is_by m r ≡ false → is_by m (cond t (Some n) r) ≡ t
by_own true n m r same e = is_same n m same
by_own false n m r same e = e

by_rest : (t : Bool) (n m : ℕ) (r : Option ℕ) (c : Bool) → n ≢ m → (t ≡ true → r ≡ None) → is_by m r ≡ c → is_by m (cond t (Some n) r) ≡ c
by_rest true n m r c d none e = not_same n m d ∙ sym (ap (is_by m) (none refl)) ∙ e
by_rest false n m r c d none e = e

-- what a sequence carries is what its flight does
pub by_flight : (k q m : ℕ) (ps : List Flight) (p : Flight) → AreApart ps → flight_at ps m ≡ Some p → is_by m (flying_by k ps q) ≡ list_any (carries k q) p.frames
by_flight k q m [] p a e = absurd (cc)
by_flight k q m (x ∷ xs) p a e = elim (cases_eq x.sequence m) [
  | inl same ↦ (let f : ◌≡◌ {A = Option Flight} (Some x) (Some p) = sym (same_test x.sequence m (Some x) (flight_at xs m) same) ∙ e in
      let here : x ≡ p = cc in
      by_own (list_any (carries k q) x.frames) x.sequence m (flying_by k xs q) same (none_by k q m xs (ap (λ n. flight_at xs n) (sym same) ∙ a.1))
      ∙ ap (λ (y : Flight). list_any (carries k q) y.frames) here)
  | inr apart ↦ by_rest (list_any (carries k q) x.frames) x.sequence m (flying_by k xs q) (list_any (carries k q) p.frames) apart (a.0 k q) (by_flight k q m xs p a.2 (sym (other_test x.sequence m (Some x) (flight_at xs m) apart) ∙ e))
]

land_own : (t : Bool) (n m : ℕ) (r : Option ℕ) → n ≡ m → (t ≡ true → r ≡ None) → is_by m r ≡ false → r ≡ cond (is_by m (cond t (Some n) r)) None (cond t (Some n) r)
land_own true n m r same none f = none refl ∙ sym (ap (λ b. cond b None (Some n)) (is_same n m same))
land_own false n m r same none f = sym (ap (λ b. cond b None r) f)

land_rest : (t : Bool) (n m : ℕ) (r : Option ℕ) → n ≢ m → cond t (Some n) (cond (is_by m r) None r) ≡ cond (is_by m (cond t (Some n) r)) None (cond t (Some n) r)
land_rest true n m r d = sym (ap (λ b. cond b None (Some n)) (not_same n m d))
land_rest false n m r d = refl

-- what flies once a sequence has landed
pub landed_by : (k q m : ℕ) (ps : List Flight) → AreApart ps → flying_by k (without_flight ps m) q ≡ cond (is_by m (flying_by k ps q)) None (flying_by k ps q)
landed_by k q m [] a = refl
landed_by k q m (x ∷ xs) a = elim (cases_eq x.sequence m) [
  | inl same ↦ ap (λ ps. flying_by k ps q) (same_test x.sequence m xs (x ∷ without_flight xs m) same)
      ∙ land_own (list_any (carries k q) x.frames) x.sequence m (flying_by k xs q) same (a.0 k q) (none_by k q m xs (ap (λ n. flight_at xs n) (sym same) ∙ a.1))
  | inr apart ↦ ap (λ ps. flying_by k ps q) (other_test x.sequence m xs (x ∷ without_flight xs m) apart)
      ∙ ap (λ r. cond (list_any (carries k q) x.frames) (Some x.sequence) r) (landed_by k q m xs a.2) ∙ land_rest (list_any (carries k q) x.frames) x.sequence m (flying_by k xs q) apart
]

pub rest_none : (n : ℕ) (x : Flight) (xs : List Flight) → flight_at (x ∷ xs) n ≡ None → flight_at xs n ≡ None
rest_none n x xs e = none_else (eqb x.sequence n) x (flight_at xs n) e

pub still_none : (m n : ℕ) (ps : List Flight) → flight_at ps n ≡ None → flight_at (without_flight ps m) n ≡ None
still_none m n [] e = refl
still_none m n (x ∷ xs) e = elim (cases_eq x.sequence m) [
  | inl same ↦ ap (λ ps. flight_at ps n) (same_test x.sequence m xs (x ∷ without_flight xs m) same) ∙ rest_none n x xs e
  | inr apart ↦ ap (λ ps. flight_at ps n) (other_test x.sequence m xs (x ∷ without_flight xs m) apart)
      ∙ ap (λ r. cond (eqb x.sequence n) (Some x) r) (still_none m n xs (rest_none n x xs e) ∙ sym (rest_none n x xs e)) ∙ e
]

pub landed_apart : (m : ℕ) (ps : List Flight) → AreApart ps → AreApart (without_flight ps m)
landed_apart m [] a = tt
landed_apart m (x ∷ xs) a = elim (cases_eq x.sequence m) [
  | inl same ↦ subst AreApart (sym (same_test x.sequence m xs (x ∷ without_flight xs m) same)) a.2
  | inr apart ↦ subst AreApart (sym (other_test x.sequence m xs (x ∷ without_flight xs m) apart)) (
    (λ k q c. landed_by k q m xs a.2 ∙ ap (λ r. cond (is_by m r) None r) (a.0 k q c)),
    still_none m x.sequence xs a.1,
    landed_apart m xs a.2,
  )
]

pub landed_length : (m : ℕ) (ps : List Flight) (p : Flight) → flight_at ps m ≡ Some p → length (without_flight ps m) + 1 ≡ length ps
landed_length m [] p e = absurd (cc)
landed_length m (x ∷ xs) p e = elim (cases_eq x.sequence m) [
  | inl same ↦ (let f = ap length (same_test x.sequence m xs (x ∷ without_flight xs m) same) in omega (arith, f))
  | inr apart ↦ (let f = ap length (other_test x.sequence m xs (x ∷ without_flight xs m) apart) in
      let rest = landed_length m xs p (sym (other_test x.sequence m (Some x) (flight_at xs m) apart) ∙ e) in omega (arith, f, rest))
]

-- at most one failure more, and less than 2^64 paid
pub landed_ordered : (m last failures after paid more : ℕ) (ps : List Flight) (p : Flight) → AreOrdered ps last failures paid → flight_at ps m ≡ Some p → after ≤ failures + 1 → more ≤ 2 ^ 64 → AreOrdered (without_flight ps m) last after (paid + more)
landed_ordered m last failures after paid more ps p o e l w = record {
  apart = landed_apart m ps o.apart;
  past = λ n h. still_none m n ps (o.past n h);
  few = omega (arith, o.few, landed_length m ps p e, l);
  bounded = omega (arith, o.bounded, landed_length m ps p e, w);
  small = o.small;
}

pub failed_ordered : (m last failures paid : ℕ) (ps : List Flight) (p : Flight) → AreOrdered ps last failures paid → flight_at ps m ≡ Some p → AreOrdered (without_flight ps m) last (failures + 1) paid
failed_ordered m last failures paid ps p o e = record {
  apart = landed_apart m ps o.apart;
  past = λ n h. still_none m n ps (o.past n h);
  few = omega (arith, o.few, landed_length m ps p e);
  bounded = omega (arith, o.bounded, landed_length m ps p e);
  small = o.small;
}

-- the money of what lands
pub landed_money : (k m : ℕ) (ps : List Flight) (p : Flight) → flight_at ps m ≡ Some p → flown_money k ps ≡ part_of k p + flown_money k (without_flight ps m)
landed_money k m [] p e = absurd (cc)
landed_money k m (x ∷ xs) p e = elim (cases_eq x.sequence m) [
  | inl same ↦ (let f : ◌≡◌ {A = Option Flight} (Some x) (Some p) = sym (same_test x.sequence m (Some x) (flight_at xs m) same) ∙ e in
      let here : x ≡ p = cc in
      sum_by-cons (part_of k) x xs ∙ ap (λ (y : Flight). part_of k y + flown_money k xs) here ∙ ap (λ ps. part_of k p + flown_money k ps) (sym (same_test x.sequence m xs (x ∷ without_flight xs m) same)))
  | inr apart ↦ (let rest = landed_money k m xs p (sym (other_test x.sequence m (Some x) (flight_at xs m) apart) ∙ e) in
      let left = ap (λ ps. flown_money k ps) (other_test x.sequence m xs (x ∷ without_flight xs m) apart) in
      omega (arith, sum_by-cons (part_of k) x xs, rest, left, sum_by-cons (part_of k) x (without_flight xs m)))
]

-- ---- a flight that goes

at_push : (n : ℕ) (ps : List Flight) (r : Flight) → r.sequence ≢ n → flight_at ps n ≡ None → flight_at (ps ++ r ∷ []) n ≡ None
at_push n [] r d e = other_test r.sequence n (Some r) None d
at_push n (x ∷ xs) r d e = ap (λ y. cond (eqb x.sequence n) (Some x) y) (at_push n xs r d (rest_none n x xs e) ∙ sym (rest_none n x xs e)) ∙ e

no_clash : (u t : Bool) (n i : ℕ) (r : Option ℕ) → (u ≡ true → cond t (Some n) r ≡ None) → t ≡ true → cond u (Some i) None ≡ None
no_clash true true n i r h e = absurd (let f = h refl in cc)
no_clash true false n i r h e = absurd (cc)
no_clash false t n i r h e = refl

pushed_apart : (ps : List Flight) (r : Flight) → AreApart ps → flight_at ps r.sequence ≡ None → ((k q : ℕ) → list_any (carries k q) r.frames ≡ true → flying_by k ps q ≡ None) → AreApart (ps ++ r ∷ [])
pushed_apart [] r a n f = ((λ k q c. refl), refl, tt)
pushed_apart (x ∷ xs) r a n f = (
  (λ k q c. flying_push k xs r q ∙ ap (λ y. or_else y (cond (list_any (carries k q) r.frames) (Some r.sequence) None)) (a.0 k q c)
      ∙ no_clash (list_any (carries k q) r.frames) (list_any (carries k q) x.frames) x.sequence r.sequence (flying_by k xs q) (f k q) c),
  at_push x.sequence xs r (λ s. let g = same_test x.sequence r.sequence (Some x) (flight_at xs r.sequence) (sym s) in absurd (cc)) a.1,
  pushed_apart xs r a.2 (rest_none r.sequence x xs n) (λ k q c. none_else (list_any (carries k q) x.frames) x.sequence (flying_by k xs q) (f k q c)),
)

pub pushed_ordered : (ps : List Flight) (last failures paid : ℕ) (r : Flight) → AreOrdered ps last failures paid → r.sequence ≡ last + 1 → last + 1 < 2 ^ 32 → ((k q : ℕ) → list_any (carries k q) r.frames ≡ true → flying_by k ps q ≡ None)
    → AreOrdered (ps ++ r ∷ []) (last + 1) failures paid
pushed_ordered ps last failures paid r o is small f = record {
  apart = pushed_apart ps r o.apart (o.past r.sequence (omega (arith, is))) f;
  past = λ n h. at_push n ps r (λ s. absurd (omega (arith, is, s, h))) (o.past n (omega (arith, h)));
  few = omega (arith, o.few, length-append ps (r ∷ []));
  bounded = omega (arith, o.bounded, length-append ps (r ∷ []));
  small = small;
}

pub none_ordered : (ps : List Flight) → ps ≡ [] → AreOrdered ps 0 0 0
none_ordered ps e = record { apart = subst AreApart (sym e) tt; past = λ n h. ap (λ qs. flight_at qs n) e; few = omega (arith, ap length e); bounded = omega (arith, ap length e); small = omega arith }
