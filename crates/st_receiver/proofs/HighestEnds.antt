-- While a direction is not over, its highest byte end received is the least offset past every byte buffered or read.
use Rattle.std.proofs.Common.{◌≡◌, ℕ, zero, suc, ◌+◌, ◌-◌, ◌<◌, ◌≤◌, Bool, true, false, ◌&&◌, ◌||◌, cond, List, [], ◌∷◌, length, take, refl, sym, ap, subst, ◌∙◌, arith, Option, None, Some, ◌⊎◌, inl, inr, max, nat_lt, nat_le, nat_eq}
use Rattle.std.specs.Prelude.{is_some, is_none, IsSome, slice_get}
use Rattle.std.specs.Option.{option_or}
use Rattle.std.specs.Ordering.{nat_cmp}
use Rattle.std.specs.FinMap as fmap
use Rattle.std.proofs.lemmas.Bool.Decides.{nat_tests}
use Rattle.st_reassembly.specs.Held.{Held, nothing_held, is_over, is_before, is_wanted, piece_at, after_insert, after_read}
use Rattle.st_reassembly.specs.Run.{past, run, after_take}
use Rattle.st_reassembly.specs.Closing.{IsPastAll, past_all}
use Rattle.st_reassembly.proofs.Pointwise.{joins_after, reads_after, after_insert-nothing}
use Rattle.st_reassembly.proofs.Runs.{held_below, past-within, is_run}
use Rattle.st_receiver.specs.Streams.{Incoming}
use Rattle.st_receiver.specs.Data.{with_data}
use Rattle.st_receiver.specs.Lawful.{EndsAtHighest}

past_is : (s : Held) → IsPastAll s (past_all s)
past_is s = record { read = omega arith; held = λ q h. let below : q < past (fmap.keys s.bytes) = held_below s q h in omega arith }

past_least : (s : Held) (e : ℕ) → IsPastAll s e → past_all s ≤ e
past_least s e p =
    let few : past (fmap.keys s.bytes) ≤ e = past-within s e p.held in
    let from : s.read ≤ e = p.read in
    omega arith

-- an offset past all bytes, and the least such, is the one of the definition
one_past : (s : Held) (e : ℕ) → IsPastAll s e → ((f : ℕ) → IsPastAll s f → e ≤ f) → e ≡ past_all s
one_past s e p least = let high = past_least s e p in let low = least (past_all s) (past_is s) in omega (arith, high, low)

-- ---- data

or_false : (a b : Bool) → (a || b) ≡ false → (a ≡ false) × (b ≡ false)
or_false true b e = absurd (cc)
or_false false b e = (refl, e)

before_none : (end : Option ℕ) (q : ℕ) → is_some end ≡ false → is_before q end ≡ true
before_none None q e = refl
before_none (Some n) q e = absurd (cc)

none_not : (o : Option ℕ) → is_some o ≡ false → is_none o ≡ true
none_not None e = refl
none_not (Some n) e = absurd (cc)

all_three : (a b c : Bool) → a ≡ true → b ≡ true → c ≡ true → (a && (b && c)) ≡ true
all_three true true true e f g = refl
all_three true true false e f g = absurd (cc)
all_three true false c e f g = absurd (cc)
all_three false b c e f g = absurd (cc)

le_test : (a b : ℕ) → a ≤ b → nat_le a b ≡ true
le_test a b l = grind (arith, nat_tests)

alive_wants : (h : Held) (q : ℕ) → is_over h ≡ false → h.read ≤ q → is_wanted h q ≡ true
alive_wants h q over l =
    let f = or_false (is_some h.end) (is_some h.aborted) over in
    all_three (nat_le h.read q) (is_before q h.end) (is_none h.aborted) (le_test h.read q l) (before_none h.end q f.0) (none_not h.aborted f.1)

get_some : (xs : List ℕ) (k : ℕ) → k < length xs → IsSome (slice_get xs k)
get_some [] k l = absurd (omega arith)
get_some (x ∷ xs) zero l = refl
get_some (x ∷ xs) (suc k) l = get_some xs k (omega arith)

get_within : (xs : List ℕ) (k : ℕ) → IsSome (slice_get xs k) → k < length xs
get_within [] k e = absurd (cc)
get_within (x ∷ xs) zero e = omega arith
get_within (x ∷ xs) (suc k) e = let h = get_within xs k e in omega (arith, h)

piece_within : (o q : ℕ) (xs : List ℕ) (w b : Bool) → nat_le o q ≡ b → IsSome (cond w (cond b (slice_get xs (q - o)) None) None) → q < o + length xs
piece_within o q xs true true e h = let l = get_within xs (q - o) h in let m : o ≤ q = grind (arith, nat_tests) in omega (arith, l, m)
piece_within o q xs true false e h = absurd (cc)
piece_within o q xs false b e h = absurd (cc)

-- what is buffered after an insert was buffered before it, or is of the chunk
which : (g p : Option ℕ) → IsSome (option_or g p) → IsSome g ⊎ IsSome p
which None p h = inr h
which (Some x) p h = inl refl

or_some : (g p : Option ℕ) → IsSome g → IsSome (option_or g p)
or_some None p h = absurd (cc)
or_some (Some x) p h = refl

or_piece : (g p : Option ℕ) → IsSome p → IsSome (option_or g p)
or_piece None p h = h
or_piece (Some x) p h = refl

held_back : (h : Held) (o : ℕ) (xs : List ℕ) (q : ℕ) → IsSome (fmap.get (after_insert o xs h).bytes q) → IsSome (fmap.get h.bytes q) ⊎ (q < o + length xs)
held_back h o xs q is =
    let p = cond (is_wanted h q) (piece_at o xs q) None in
    elim (which (fmap.get h.bytes q) p (subst IsSome ((joins_after o xs h).bytes q) is)) [
      | inl old ↦ inl old
      | inr new ↦ inr (piece_within o q xs (is_wanted h q) (nat_le o q) refl new)
    ]

held_stays : (h : Held) (o : ℕ) (xs : List ℕ) (q : ℕ) → IsSome (fmap.get h.bytes q) → IsSome (fmap.get (after_insert o xs h).bytes q)
held_stays h o xs q is = subst IsSome (sym ((joins_after o xs h).bytes q)) (or_some (fmap.get h.bytes q) _ is)

held_new : (h : Held) (o : ℕ) (xs : List ℕ) (q : ℕ) → is_wanted h q ≡ true → o ≤ q → q < o + length xs → IsSome (fmap.get (after_insert o xs h).bytes q)
held_new h o xs q w l m =
    let there : IsSome (piece_at o xs q) = subst (λ b. IsSome (cond b (slice_get xs (q - o)) None)) (sym (le_test o q l)) (get_some xs (q - o) (omega arith)) in
    subst IsSome (sym ((joins_after o xs h).bytes q)) (or_piece (fmap.get h.bytes q) _ (subst (λ b. IsSome (cond b (piece_at o xs q) None)) (sym w) there))

split : (m n : ℕ) → (n ≤ m) ⊎ (m < n)
split m n = by (nat_lt m n) refl
  where
    by : (b : Bool) → nat_lt m n ≡ b → (n ≤ m) ⊎ (m < n)
    by true e = inr (grind (arith, nat_tests))
    by false e = inl (grind (arith, nat_tests))

piece_past : (h : Held) (o : ℕ) (xs : List ℕ) (e : ℕ) → is_over h ≡ false → 0 < length xs → e ≡ past_all h → max e (o + length xs) ≡ past_all (after_insert o xs h)
piece_past h o xs e over some is =
    let n = o + length xs in
    let t = after_insert o xs h in
    let read : t.read ≡ h.read = (joins_after o xs h).read in
    let p = subst (IsPastAll h) (sym is) (past_is h) in
    one_past t (max e n) (record {
      read = let l : h.read ≤ e = p.read in let m : e ≤ max e n = grind (arith) in omega (arith, read, l, m);
      held = λ q got. elim (held_back h o xs q got) [
        | inl old ↦ (let l : q < e = p.held q old in let m : e ≤ max e n = grind (arith) in omega (arith, l, m))
        | inr new ↦ (let m : n ≤ max e n = grind (arith) in omega (arith, new, m))
      ];
    }) (λ f g.
    let low : e ≤ f = subst (λ a. a ≤ f) (sym is) (past_least h f (record { read = (let l : t.read ≤ f = g.read in omega (arith, read, l)); held = λ q old. g.held q (held_stays h o xs q old) })) in
    let high : n ≤ f = elim (split (n - 1) h.read) [
      | inl ahead ↦ (let l = g.held (n - 1) (held_new h o xs (n - 1) (alive_wants h (n - 1) over ahead) (omega (arith, some)) (omega (arith, some))) in omega (arith, l, some))
      | inr behind ↦ (let l : t.read ≤ f = g.read in omega (arith, behind, read, l))
    ] in
    grind (arith))

data_past : (b : Bool) (h : Held) (o : ℕ) (xs : List ℕ) (e : ℕ) → is_over h ≡ false → nat_eq (length xs) 0 ≡ b → e ≡ past_all h → cond b e (max e (o + length xs)) ≡ past_all (after_insert o xs h)
data_past false h o xs e over none is = piece_past h o xs e over (grind (arith, nat_tests)) is
data_past true h o [] e over none is = is ∙ ap past_all (sym (after_insert-nothing o h))
data_past true h o (x ∷ xs) e over none is = absurd (let z : suc (length xs) ≡ 0 = grind (arith, nat_tests) in omega (arith, z))

pub data_ends : (x : Incoming) (o : ℕ) (xs : List ℕ) → EndsAtHighest x → EndsAtHighest (with_data o xs x)
data_ends x o xs h over =
    let j = joins_after o xs x.held in
    let was : is_over x.held ≡ false = (λ i. is_some (sym j.end i) || is_some (sym j.aborted i)) ∙ over in
    ap (λ b. cond (b || nat_eq (length xs) 0) x.highest (max x.highest (o + length xs))) was ∙ data_past (nat_eq (length xs) 0) x.held o xs x.highest was refl (h was)

-- ---- reads

length_take : (n : ℕ) (xs : List ℕ) → length (take n xs) ≤ length xs
length_take zero xs = omega arith
length_take (suc n) [] = omega arith
length_take (suc n) (x ∷ xs) = let h = length_take n xs in omega (arith, h)

later_some : (b : Bool) (o : Option ℕ) → IsSome (cond b o None) → IsSome o
later_some true o h = h
later_some false o h = absurd (cc)

read_below : (h : Held) (n : ℕ) → n ≤ length (run h) → h.read + n ≤ past_all h
read_below h zero l = let p : h.read ≤ past_all h = (past_is h).read in omega (arith, p)
read_below h (suc n) l =
    let there : IsSome (fmap.get h.bytes (h.read + n)) = subst IsSome (sym ((is_run h).held n (omega (arith, l)))) refl in
    let below = (past_is h).held (h.read + n) there in
    omega (arith, below)

-- a read of bytes of the run keeps it
read_past : (h : Held) (n : ℕ) → n ≤ length (run h) → past_all h ≡ past_all (after_read n h)
read_past h n l =
    let t = after_read n h in
    let w = reads_after n h in
    let read : t.read ≡ h.read + n = w.read in
    let low = read_below h n l in
    one_past t (past_all h) (record {
      read = omega (arith, read, low);
      held = λ q got. (past_is h).held q (later_some (nat_le (h.read + n) q) (fmap.get h.bytes q) (subst IsSome (w.bytes q) got));
    }) (λ f g. past_least h f (record {
      read = (let m : t.read ≤ f = g.read in omega (arith, read, m));
      held = λ q old. elim (split q (h.read + n)) [
        | inl ahead ↦ g.held q (subst IsSome (sym (w.bytes q ∙ ap (λ b. cond b (fmap.get h.bytes q) None) (le_test (h.read + n) q ahead))) old)
        | inr behind ↦ (let m : t.read ≤ f = g.read in omega (arith, behind, read, m))
      ];
    }))

pub take_past : (h : Held) (limit : ℕ) → past_all h ≡ past_all (after_take limit h)
take_past h limit = read_past h (length (take limit (run h))) (length_take limit (run h))

pub fresh_past : 0 ≡ past_all nothing_held
fresh_past = one_past nothing_held 0 (record { read = omega arith; held = λ q h. absurd (none_there q h) }) (λ f p. omega arith)
  where
    none_there : (q : ℕ) → IsSome (fmap.get nothing_held.bytes q) → ⊥
    none_there q h = let e = fmap.get-empty {X = ℕ} nat_cmp q in cc
