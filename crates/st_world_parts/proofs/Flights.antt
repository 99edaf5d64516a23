-- The flights of an end that are not spent, and the conditions that it keeps.
use Rattle.std.proofs.Common.{◌≡◌, ◌≢◌, ℕ, zero, suc, ◌+◌, ◌<◌, ◌≤◌, Bool, true, false, List, [], ◌∷◌, ◌++◌, length, get_or, slice_get, refl, sym, ap, subst, ◌∙◌, arith, ℤ, Option, None, Some, inl, inr, ◌⊎◌, is_some, bytes_eq, nat_eq, ◌&&◌}
use Rattle.std.specs.List.{remove}
use Rattle.std.specs.Ordering.{nat_cmp}
use Rattle.std.specs.FinMap as fmap
use Rattle.std.proofs.lemmas.Grind.{common_steps}
use Rattle.std.proofs.lemmas.Bool.{cases_eq}
use Rattle.std.proofs.lemmas.Bool.Decides.{nat_tests}
use Rattle.std.proofs.lemmas.Slice.Eq.{bytes_eq-Decides}
use Rattle.std.proofs.lemmas.Option.{slice_get_within, slice_get_read}
use Rattle.st_sender.specs.Sending as sender
use Rattle.st_end.specs.declared.flight.Open.{Open}
use Rattle.st_keys.specs.Keys.{DerivedKeys}
use Rattle.st_end.specs.declared.role.Role.{Role}
use Rattle.st_end.specs.State.{EndState, new_end}
use Rattle.st_end.specs.Sending.{Goes, open_flight, is_open}
use Rattle.st_end.specs.Answers.{ended, ended_with}
use Rattle.st_world_parts.specs.State.{Party, AnsweredAtEnd, SentPrepare, SentAnswer, Direction}
use Rattle.st_world_parts.specs.Events.{Sent}
use Rattle.st_world_parts.specs.Ends.{prepare_of_flight}
use Rattle.st_world_parts.specs.Kept.{AreKept, Stands}
use Rattle.st_world_parts.specs.Parts.{EndSends}

-- ---- places

both_true : (b c : Bool) → (b && c) ≡ true → (b ≡ true) × (c ≡ true)
both_true true c e = (refl, e)
both_true false c e = absurd (cc)

true_true : (b c : Bool) → b ≡ true → c ≡ true → (b && c) ≡ true
true_true true c e f = f
true_true false c e f = absurd (cc)

same_number : (m n : ℕ) → nat_eq m n ≡ true → m ≡ n
same_number m n e = grind (arith, nat_tests)

number_same : (m n : ℕ) → m ≡ n → nat_eq m n ≡ true
number_same m n e = grind (arith, nat_tests)

-- the test of a flight
pub same_flight : (x w : Open) → (nat_eq x.sequence w.sequence && bytes_eq x.condition w.condition) ≡ true → x ≡ w
same_flight x w e =
    let both = both_true _ _ e in
    let condition = (bytes_eq-Decides x.condition w.condition).0 both.1 in
    let rename : (k : ℕ) (c : List ℕ) → Open = λ (k : ℕ) (c : List ℕ). record { sequence = k; condition = c } in
    ap (λ (k : ℕ). rename k x.condition) (same_number x.sequence w.sequence both.0) ∙ ap (λ (c : List ℕ). rename w.sequence c) condition

pub other_flight : (x w : Open) → (nat_eq x.sequence w.sequence && bytes_eq x.condition w.condition) ≡ false → x ≢ w
other_flight x w e = λ same.
    let t : (nat_eq x.sequence w.sequence && bytes_eq x.condition w.condition) ≡ true =
    true_true _ _ (number_same _ _ (ap (λ (u : Open). u.sequence) same)) ((bytes_eq-Decides x.condition w.condition).1 (ap (λ (u : Open). u.condition) same)) in
    let f : true ≡ false = sym t ∙ e in
    cc

pub found_here : (xs : List Open) (i : ℕ) (x w : Open) → i < length xs → x ≡ get_or xs i x → x ≡ w → slice_get xs i ≡ Some w
found_here xs i x w l is e = slice_get_read xs (length xs) i x refl l is ∙ ap Some e

pub not_here : (xs : List Open) (i : ℕ) (x w : Open) → i < length xs → x ≡ get_or xs i x → x ≢ w → slice_get xs i ≡ Some w → ⊥
not_here xs i x w l is n e = let same : ◌≡◌ {A = Option Open} (Some x) (Some w) = sym (slice_get_read xs (length xs) i x refl l is) ∙ e in n (cc)

pub not_yet : (xs : List Open) (i : ℕ) (w : Open) → ((k : ℕ) → k < i → slice_get xs k ≡ Some w → ⊥) → (slice_get xs i ≡ Some w → ⊥) → (k : ℕ) → k < i + 1 → slice_get xs k ≡ Some w → ⊥
not_yet xs i w before n k l e = elim (cases_eq k i) [
  | inl same ↦ n (subst (λ (m : ℕ). slice_get xs m ≡ Some w) same e)
  | inr apart ↦ before k (omega (arith, l, apart)) e
]

pub nowhere : (xs : List Open) (n : ℕ) (w : Open) → length xs ≤ n → ((k : ℕ) → k < n → slice_get xs k ≡ Some w → ⊥) → (i : ℕ) → slice_get xs i ≡ Some w → ⊥
nowhere xs n w l before i e = before i (let h = slice_get_within xs i w e in omega (arith, l, h)) e

last_of : (xs : List Open) (x : Open) → slice_get (xs ++ x ∷ []) (length xs) ≡ Some x
last_of [] x = refl
last_of (y ∷ ys) x = last_of ys x

stays_at : (xs : List Open) (x : Open) (i : ℕ) (w : Open) → slice_get xs i ≡ Some w → slice_get (xs ++ x ∷ []) i ≡ Some w
stays_at [] x i w e = absurd (cc)
stays_at (y ∷ ys) x zero w e = e
stays_at (y ∷ ys) x (suc i) w e = stays_at ys x i w e

-- removing one leaves the others
left_at : (xs : List Open) (i j : ℕ) (w : Open) → i ≢ j → slice_get xs j ≡ Some w → Stands (remove xs i) w
left_at [] i j w n e = absurd (cc)
left_at (x ∷ xs) zero zero w n e = absurd (n refl)
left_at (x ∷ xs) zero (suc j) w n e = (j, e)
left_at (x ∷ xs) (suc i) zero w n e = (0, e)
left_at (x ∷ xs) (suc i) (suc j) w n e = let rest = left_at xs i j w (λ s. n (ap suc s)) e in (suc rest.0, rest.1)

-- ---- what is kept

pub same_kept : (e f : EndState) (kept : List Open) → f.conditions ≡ e.conditions → AreKept e.conditions kept → AreKept f.conditions kept
same_kept e f kept same h = subst (λ (m : fmap.FinMap nat_cmp (List ℕ)). AreKept m kept) (sym same) h

got_insert : (m : fmap.FinMap nat_cmp (List ℕ)) (k : ℕ) (x : List ℕ) (q : ℕ) (y : List ℕ) → fmap.get (fmap.insert m k x) q ≡ Some y → ((q ≡ k) × (x ≡ y)) ⊎ (fmap.get m q ≡ Some y)
got_insert m k x q y e = grind (arith, common_steps, fmap.gets)

got_remove : (m : fmap.FinMap nat_cmp (List ℕ)) (k q : ℕ) (y : List ℕ) → fmap.get (fmap.remove m k) q ≡ Some y → (q ≢ k) × (fmap.get m q ≡ Some y)
got_remove m k q y e = (grind (arith, common_steps, fmap.gets), grind (arith, common_steps, fmap.gets))

abbrev one : ℕ → List ℕ → Open
one sequence condition = record { sequence = sequence; condition = condition }

kept_more : (m : fmap.FinMap nat_cmp (List ℕ)) (kept : List Open) (x : Open) → AreKept m kept → AreKept (fmap.insert m x.sequence x.condition) (kept ++ x ∷ [])
kept_more m kept x h n c e = elim (got_insert m x.sequence x.condition n c e) [
  | inl new ↦ (length kept, last_of kept x ∙ ap Some (ap (λ (k : ℕ). one k x.condition) (sym new.0) ∙ ap (one n) new.1))
  | inr old ↦ (let at = h n c old in (at.0, stays_at kept x at.0 _ at.1))
]

pub sent_kept : (e f : EndState) (iv : List ℕ) (now : ℤ) (flight : Open) (bytes : List ℕ) (kept more : List Open) → Goes e iv now flight bytes f → more ≡ kept ++ flight ∷ [] → AreKept e.conditions kept → AreKept f.conditions more
sent_kept e f iv now flight bytes kept more goes is h =
    let after : f.conditions ≡ fmap.insert e.conditions flight.sequence flight.condition = ap (λ (s : EndState). s.conditions) goes.after_is in
    subst (λ (ks : List Open). AreKept f.conditions ks) (sym is) (subst (λ (m : fmap.FinMap nat_cmp (List ℕ)). AreKept m (kept ++ flight ∷ [])) (sym after) (kept_more e.conditions kept flight h))

kept_less : (m : fmap.FinMap nat_cmp (List ℕ)) (kept : List Open) (i : ℕ) (x : Open) → slice_get kept i ≡ Some x → AreKept m kept → AreKept (fmap.remove m x.sequence) (remove kept i)
kept_less m kept i x here h n c e =
    let old = got_remove m x.sequence n c e in
    let at = h n c old.1 in
    left_at kept i at.0 (record { sequence = n; condition = c })
    (λ same. let got : ◌≡◌ {A = Option Open} (Some x) (Some (record { sequence = n; condition = c })) = sym here ∙ ap (slice_get kept) same ∙ at.1 in let number : x.sequence ≡ n = ap (λ (u : Open). u.sequence) (let is : x ≡ record { sequence = n; condition = c } = cc in is) in old.0 (sym number)) at.1

-- ---- an open flight, and one that is not

is_there : (e : EndState) (x : Open) (outcome : Option (List ℕ)) (o : Option sender.Flight) → is_some o ≡ true → (ended_with e x o outcome).conditions ≡ fmap.remove e.conditions x.sequence
is_there e x outcome None there = absurd (cc)
is_there e x outcome (Some p) there = refl

pub ended_kept : (e f : EndState) (x : Open) (outcome : Option (List ℕ)) (kept : List Open) (i : ℕ) → f ≡ ended e x outcome → is_open e x ≡ true → slice_get kept i ≡ Some x → AreKept e.conditions kept → AreKept f.conditions (remove kept i)
ended_kept e f x outcome kept i is live here h =
    let after : f.conditions ≡ fmap.remove e.conditions x.sequence = ap (λ (s : EndState). s.conditions) is ∙ is_there e x outcome (open_flight e x) live in
    subst (λ (m : fmap.FinMap nat_cmp (List ℕ)). AreKept m (remove kept i)) (sym after) (kept_less e.conditions kept i x here h)

-- ---- what a call leaves

pub sent : (e f : EndState) (answered : List AnsweredAtEnd) (prepares more : List SentPrepare) (given : List SentAnswer) (p : Party) (x : Direction) (iv : List ℕ) (now : ℤ) (flight : Open) (bytes : List ℕ)
    → record { state = e; answered = answered } ≡ p → record { prepares = prepares; given = given } ≡ x → Goes e iv now flight bytes f → more ≡ prepares ++ prepare_of_flight flight bytes ∷ []
    → EndSends iv now Sent p (record { state = f; answered = answered }) x (record { prepares = more; given = given })
sent e f answered prepares more given p x iv now flight bytes pe xe goes is =
    let y : Direction = record { prepares = more; given = given } in
    let q : Party = record { state = f; answered = answered } in
    let P : Party → Type 0 = λ p. EndSends iv now Sent p q x y in
    let Q : Direction → Type 0 = λ x. EndSends iv now Sent (record { state = e; answered = answered }) q x y in
    subst P pe (subst Q xe (inr (inl (flight, bytes, f, goes, refl, refl, ap (λ (ps : List SentPrepare). record { prepares = ps; given = given }) is))))

-- the same for a flight that was found and taken out
pub spent_kept : (e f : EndState) (x w : Open) (outcome : Option (List ℕ)) (kept ks rest : List Open) (i : ℕ) → f ≡ ended e x outcome → x ≡ w → is_open e w ≡ true → ks ≡ kept → slice_get ks i ≡ Some w → rest ≡ remove kept i → AreKept e.conditions kept
    → AreKept f.conditions rest
spent_kept e f x w outcome kept ks rest i is xw live same here r h =
    let is' : f ≡ ended e w outcome = subst (λ (u : Open). f ≡ ended e u outcome) xw is in
    let here' : slice_get kept i ≡ Some w = subst (λ (l : List Open). slice_get l i ≡ Some w) same here in
    subst (λ (l : List Open). AreKept f.conditions l) (sym r) (ended_kept e f w outcome kept i is' live here' h)

-- an end that sent nothing keeps no condition
pub nothing_kept : (e : EndState) (role : Role) (keys : DerivedKeys) (own peer : List ℕ) (config : sender.Config) (kept : List Open) → e ≡ new_end role keys own peer config → AreKept e.conditions kept
nothing_kept e role keys own peer config kept is n condition there =
    let none : fmap.get {X = List ℕ} {R = nat_cmp} fmap.empty n ≡ None = fmap.get-empty nat_cmp n in
    let some : fmap.get {X = List ℕ} {R = nat_cmp} fmap.empty n ≡ Some condition = subst (λ (s : EndState). fmap.get s.conditions n ≡ Some condition) is there in
    absurd (let both : ◌≡◌ {A = Option (List ℕ)} None (Some condition) = sym none ∙ some in cc)
