-- While a direction is not over, its highest byte end received is the least offset past every byte buffered or read.
use Rattle.std.proofs.Common.{◌≡◌, ◌≢◌, ℕ, zero, suc, ◌+◌, ◌-◌, ◌<◌, ◌≤◌, Bool, true, false, ◌&&◌, ◌||◌, cond, List, [], ◌∷◌, length, refl, sym, ap, subst, ◌∙◌, arith, Option, None, Some, ◌⊎◌, inl, inr, max, nat_lt, nat_le, nat_eq, is_some, is_none}
use Rattle.std.specs.Ordering.{nat_cmp}
use Rattle.std.specs.FinMap as fmap
use Rattle.std.proofs.lemmas.Bool.{cases_eq}
use Rattle.std.proofs.lemmas.Bool.Decides.{nat_tests}
use Rattle.std.proofs.lemmas.Grind.{common_steps}
use Rattle.st_reassembly.specs.Held.{Held, is_before, is_wanted, with_byte, after_insert, after_read, is_over, nothing_held}
use Rattle.st_reassembly.specs.Run.{IsRun, past}
use Rattle.st_reassembly.specs.Closing.{past_all}
use Rattle.st_reassembly.proofs.Runs.{held_below, past-within}
use Rattle.st_receiver.specs.Streams.{Incoming}
use Rattle.st_receiver.specs.Data.{with_data}
use Rattle.st_world.proofs.Maps.{got_insert, got_retain, get_here, get_apart}
use Rattle.st_world.proofs.DataReceived.{insert_keeps}
use Rattle.st_world.proofs.Truths.{or_false}

-- the least offset past every byte buffered or read
pub record IsPast (s : Held) (end : ℕ) : Type 0 where
  pub read : s.read ≤ end
  pub above : (q : ℕ) → end ≤ q → fmap.get s.bytes q ≡ None
  pub least : (end ≡ s.read) ⊎ ((q : ℕ) × (q + 1 ≡ end) × (fmap.get s.bytes q ≢ None))

byte_back : (c : Bool) (h : Held) (o x q b : ℕ) → fmap.get (cond c (record h { bytes = fmap.insert h.bytes o x }) h).bytes q ≡ Some b → (fmap.get h.bytes q ≡ Some b) ⊎ (q ≡ o)
byte_back true h o x q b e = elim (got_insert h.bytes o x q b e) [ inl p ↦ inr p.0 | inr old ↦ inl old ]
byte_back false h o x q b e = inl e

-- what is buffered after an insert was buffered before, or is of the chunk
pub held_back : (xs : List ℕ) (h : Held) (o q b : ℕ) → fmap.get (after_insert o xs h).bytes q ≡ Some b → (fmap.get h.bytes q ≡ Some b) ⊎ ((o ≤ q) × (q < o + length xs))
unfolding after_insert
held_back [] h o q b e = inl e
held_back (x ∷ xs) h o q b e =
    elim (held_back xs (with_byte o x h) (o + 1) q b e) [
      | inl old ↦ elim (byte_back (is_wanted h o && is_none (fmap.get h.bytes o)) h o x q b old) [ inl f ↦ inl f | inr s ↦ inr (omega arith, omega arith) ]
      | inr new ↦ inr (let l = new.0 in omega arith, let m = new.1 in omega arith)
    ]

and_right : (a b : Bool) → (a && b) ≡ true → b ≡ true
and_right true b e = e
and_right false b e = absurd (cc)

byte_stays : (c : Bool) (h : Held) (o x q b : ℕ) → (c ≡ true → is_none (fmap.get h.bytes o) ≡ true) → fmap.get h.bytes q ≡ Some b → fmap.get (cond c (record h { bytes = fmap.insert h.bytes o x }) h).bytes q ≡ Some b
byte_stays false h o x q b f e = e
byte_stays true h o x q b f e =
    elim (cases_eq q o) [
      | inl s ↦ absurd (let n = f refl in let g : is_none (fmap.get h.bytes o) ≡ false = ap is_none (ap (fmap.get h.bytes) (sym s) ∙ e) in cc)
      | inr n ↦ get_apart h.bytes o x q n ∙ e
    ]

-- buffered bytes stay
pub held_stays : (xs : List ℕ) (h : Held) (o q b : ℕ) → fmap.get h.bytes q ≡ Some b → fmap.get (after_insert o xs h).bytes q ≡ Some b
unfolding after_insert
held_stays [] h o q b e = e
held_stays (x ∷ xs) h o q b e = held_stays xs (with_byte o x h) (o + 1) q b (byte_stays (is_wanted h o && is_none (fmap.get h.bytes o)) h o x q b (and_right (is_wanted h o) (is_none (fmap.get h.bytes o))) e)

byte_wanted : (c : Bool) (h : Held) (o x q : ℕ) → is_wanted (cond c (record h { bytes = fmap.insert h.bytes o x }) h) q ≡ is_wanted h q
byte_wanted true h o x q = refl
byte_wanted false h o x q = refl

byte_there : (w : Bool) (h : Held) (o x : ℕ) (f : Option ℕ) → w ≡ true → fmap.get h.bytes o ≡ f → (b : ℕ) × (fmap.get (cond (w && is_none f) (record h { bytes = fmap.insert h.bytes o x }) h).bytes o ≡ Some b)
byte_there true h o x (Some b) w e = (b, e)
byte_there true h o x None w e = (x, get_here h.bytes o x)
byte_there false h o x f w e = absurd (cc)

-- a byte of the chunk that is wanted is buffered
pub held_new : (xs : List ℕ) (h : Held) (o q : ℕ) → is_wanted h q ≡ true → o ≤ q → q < o + length xs → (b : ℕ) × (fmap.get (after_insert o xs h).bytes q ≡ Some b)
unfolding after_insert
held_new [] h o q w l m = absurd (omega arith)
held_new (x ∷ xs) h o q w l m =
    elim (cases_eq q o) [
      | inl s ↦
          let W : ℕ → Type 0 = λ k. is_wanted h k ≡ true in
          let there = byte_there (is_wanted h o) h o x (fmap.get h.bytes o) (subst W s w) refl in
          (there.0, held_stays xs (with_byte o x h) (o + 1) q there.0 (ap (fmap.get (with_byte o x h).bytes) s ∙ there.1))
      | inr n ↦ held_new xs (with_byte o x h) (o + 1) q (byte_wanted (is_wanted h o && is_none (fmap.get h.bytes o)) h o x q ∙ w) (omega arith) (omega arith)
    ]

-- ---- the highest end

none_by : (o : Option ℕ) → ((b : ℕ) → o ≡ Some b → ⊥) → o ≡ None
none_by None f = refl
none_by (Some b) f = absurd (f b refl)

some_of : (o : Option ℕ) → o ≢ None → (b : ℕ) × (o ≡ Some b)
some_of (Some b) f = (b, refl)
some_of None f = absurd (f refl)

not_none : (o : Option ℕ) (b : ℕ) → o ≡ Some b → o ≢ None
not_none o b e f = let z : ◌≡◌ {A = Option ℕ} (Some b) None = sym e ∙ f in cc

before_none : (end : Option ℕ) (q : ℕ) → is_some end ≡ false → is_before q end ≡ true
before_none None q e = refl
before_none (Some n) q e = absurd (cc)

wanted_by : (a b : Bool) (c : Option ℕ) → a ≡ true → b ≡ true → is_some c ≡ false → (a && (b && is_none c)) ≡ true
wanted_by true true None e f g = refl
wanted_by true true (Some n) e f g = absurd (cc)
wanted_by true false c e f g = absurd (cc)
wanted_by false b c e f g = absurd (cc)

alive_wants : (h : Held) (q : ℕ) → is_over h ≡ false → h.read ≤ q → is_wanted h q ≡ true
alive_wants h q over l =
    let f = or_false (is_some h.end) (is_some h.aborted) over in
    wanted_by (nat_le h.read q) (is_before q h.end) h.aborted (grind (arith, nat_tests)) (before_none h.end q f.0) f.1

which : (m n : ℕ) → (n ≤ m) ⊎ (m < n)
which m n = which_by m n (nat_lt m n) refl
  where
    which_by : (m n : ℕ) (b : Bool) → nat_lt m n ≡ b → (n ≤ m) ⊎ (m < n)
    which_by m n true e = inr (grind (arith, nat_tests))
    which_by m n false e = inl (grind (arith, nat_tests))

clash : (n q : ℕ) → n ≤ q → q < n → ⊥
clash n q l m = omega arith

pub past_piece : (h : Held) (e o : ℕ) (xs : List ℕ) → is_over h ≡ false → 0 < length xs → IsPast h e → IsPast (after_insert o xs h) (max e (o + length xs))
past_piece h e o xs over some p =
    let read : (after_insert o xs h).read ≡ h.read = insert_keeps (λ (g : Held). g.read) (λ g b. refl) xs h o in
    let low : h.read ≤ e = p.read in
    let n = o + length xs in
    record {
      read = let a : e ≤ max e n = grind (arith) in omega arith;
      above = λ q l. none_by _ (λ b is.
          let a : e ≤ q = grind (arith) in
          let c : n ≤ q = grind (arith) in
          elim (held_back xs h o q b is) [
            | inl old ↦ not_none _ b old (p.above q a)
            | inr new ↦ clash n q c new.1
          ]);
      least = elim (which e n) [
        | inl less ↦
            let same : max e n ≡ e = grind (arith) in
            elim p.least [
              | inl none ↦ inl (same ∙ none ∙ sym read)
              | inr last ↦ (let b = some_of _ last.2 in inr (last.0, last.1 ∙ sym same, not_none _ b.0 (held_stays xs h o last.0 b.0 b.1)))
            ]
        | inr more ↦
            let same : max e n ≡ n = grind (arith) in
            let b = held_new xs h o (n - 1) (alive_wants h (n - 1) over (omega arith)) (omega arith) (omega arith) in
            inr (n - 1, (let k : n - 1 + 1 ≡ n = omega arith in k ∙ sym same), not_none _ b.0 b.1)
      ];
    }

empty_past : (h : Held) (e o : ℕ) → IsPast h e → IsPast (after_insert o [] h) e
unfolding after_insert
empty_past h e o p = p

data_past : (b : Bool) (h : Held) (e o : ℕ) (xs : List ℕ) → is_over h ≡ false → nat_eq (length xs) 0 ≡ b → IsPast h e → IsPast (after_insert o xs h) (cond b e (max e (o + length xs)))
data_past false h e o xs over none p = past_piece h e o xs over (grind (arith)) p
data_past true h e o [] over none p = empty_past h e o p
data_past true h e o (x ∷ xs) over none p = absurd (let z : suc (length xs) ≡ 0 = grind (arith) in omega arith)

-- data keep it
pub past_data : (x : Incoming) (o : ℕ) (xs : List ℕ) → is_over x.held ≡ false → IsPast x.held x.highest → IsPast (with_data o xs x).held (with_data o xs x).highest
past_data x o xs over p =
    let P : Bool → Type 0 = λ b. IsPast (after_insert o xs x.held) (cond (b || nat_eq (length xs) 0) x.highest (max x.highest (o + length xs))) in
    subst P (sym over) (data_past (nat_eq (length xs) 0) x.held x.highest o xs over refl p)

-- ---- reads

retained : (m : fmap.FinMap nat_cmp ℕ) (f : ℕ → Bool) (q b : ℕ) → f q ≡ true → fmap.get m q ≡ Some b → fmap.get (fmap.retain_keys m f) q ≡ Some b
retained m f q b t e = grind (arith, common_steps, fmap.gets, fmap.get-retain_keys)

read_below : (h : Held) (e : ℕ) (run : List ℕ) (n : ℕ) → IsRun h run → n ≤ length run → IsPast h e → h.read + n ≤ e
read_below h e run zero is l p = let a : h.read ≤ e = p.read in omega arith
read_below h e run (suc n) is l p =
    elim (which (h.read + n) e) [
      | inl past ↦ absurd (not_none _ _ (is.held n (omega arith)) (p.above (h.read + n) past))
      | inr below ↦ omega arith
    ]

-- a read of bytes of the run keeps it
pub past_read : (h : Held) (e : ℕ) (run : List ℕ) (n : ℕ) → IsRun h run → n ≤ length run → IsPast h e → IsPast (after_read n h) e
unfolding after_read
past_read h e run n is l p =
    let low = read_below h e run n is l p in
    record {
      read = low;
      above = λ q m. none_by _ (λ b f. not_none _ b (got_retain h.bytes (λ k. nat_le (h.read + n) k) q b f) (p.above q m));
      least = elim p.least [
        | inl none ↦ inl (omega arith)
        | inr last ↦ elim (which e (h.read + n + 1)) [
          | inl kept ↦ (let b = some_of _ last.2 in let k : last.0 + 1 ≡ e = last.1 in inr (last.0, last.1, not_none _ b.0 (retained h.bytes (λ k. nat_le (h.read + n) k) last.0 b.0 (grind (arith, nat_tests)) b.1)))
          | inr all ↦ inl (omega arith)
        ]
      ];
    }

-- nothing was received
pub past_nothing : (h : Held) → h ≡ nothing_held → IsPast h 0
past_nothing h e =
    let P : Held → Type 0 = λ g. IsPast g 0 in
    subst P (sym e) (record { read = omega arith; above = λ q l. fmap.get-empty nat_cmp q; least = inl refl })

some_is : (o : Option ℕ) → o ≢ None → is_some o ≡ true
some_is None f = absurd (f refl)
some_is (Some b) f = refl

held_before : (h : Held) (e q : ℕ) → IsPast h e → is_some (fmap.get h.bytes q) ≡ true → q < e
held_before h e q p s =
    elim (which q e) [
      | inl beyond ↦ absurd (let none = p.above q beyond in let b : is_some (fmap.get h.bytes q) ≡ false = ap is_some none in cc)
      | inr below ↦ below
    ]

-- it is the end that a clean close fixes
pub past_is : (h : Held) (e : ℕ) → IsPast h e → past_all h ≡ e
past_is h e p =
    let few : past (fmap.keys h.bytes) ≤ e = past-within h e (λ q s. held_before h e q p s) in
    let low : h.read ≤ e = p.read in
    let high : e ≤ past_all h = elim p.least [
      | inl none ↦ omega arith
      | inr last ↦ (let below : last.0 < past (fmap.keys h.bytes) = held_below h last.0 (some_is _ last.2) in let k : last.0 + 1 ≡ e = last.1 in omega arith)
    ] in
    omega arith
