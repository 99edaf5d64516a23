-- Each step keeps the gauge's rule.
use Rattle.std.proofs.Common.{◌≡◌, ◌≢◌, ◌⊎◌, ℕ, zero, suc, ◌<◌, ◌≤◌, List, [], ◌∷◌, ◌++◌, length, set, get_or, Bool, true, true≢false, refl, sym, ap, ◌∙◌, subst, ⊎_elim, inl, inr, arith}
use Rattle.std.specs.Prelude.{slice_index, slice_set}
use Rattle.std.proofs.lemmas.List.{length-set, get_or-set_same, get_or-set_other}
use mathlib.Core.Logic.{dite}
use native.Mathlib.Decide.{ℕ_discrete}
use mathlib.Core.Option.{Option, none, some, some-injective, some-ne-none}
use lib.ListN.{get_elem?}
use Rattle.atomic_table.specs.Table.{keeps, step, Me, Allows, Splits}
use Rattle.atomic_table.proofs.Lists.{at_set, at_snoc, at_longer, set_again, set_here, set_else}
use Rattle.st_queues.specs.declared.table.View.{View}
use Rattle.st_queues.specs.Gauged.{Sees, SomeAsked, Gauged, watcher, Rises, Asks}

-- a list with one place changed, read at any place
at_place : (P : ℕ → Type 0) (l : List ℕ) (i j a : ℕ) → i < length l → (j ≡ i → P a) → (j ≢ i → P (slice_index l j)) → P (slice_index (slice_set l i a) j)
at_place P l i j a room hit miss =
    dite (ℕ_discrete j i)
    (λ e. subst P (sym (ap (λ (k : ℕ). get_or (set l i a) k 0) e ∙ get_or-set_same l i a 0 room)) (hit e))
    (λ ne. subst P (sym (get_or-set_other l i j a 0 ne)) (miss ne))

both_places : (P : ℕ → ℕ → Type 0) (l m : List ℕ) (i j a b : ℕ) → i < length l → i < length m → (j ≡ i → P a b) → (j ≢ i → P (slice_index l j) (slice_index m j)) → P (slice_index (slice_set l i a) j) (slice_index (slice_set m i b) j)
both_places P l m i j a b rl rm hit miss =
    at_place (λ x. P x (slice_index (slice_set m i b) j)) l i j a rl
    (λ e. at_place (λ y. P a y) m i j b rm hit (λ ne. absurd (ne e)))
    (λ ne. at_place (λ y. P (slice_index l j) y) m i j b rm (λ e. absurd (ne e)) miss)

there_is : {A : Type 0} (l : List A) (i : ℕ) (a : A) → get_elem? l i ≡ some a → i < length l
there_is [] i a e = absurd (some-ne-none a (sym e))
there_is (x ∷ xs) zero a e = omega arith
there_is (x ∷ xs) (suc i) a e = let below = there_is xs i a e in omega arith

-- a seat that asked still did, after one seat's view changed
asked_set : (views : List View) (id : ℕ) (v w : View) → get_elem? views id ≡ some v → (v.asked ≡ true → w.asked ≡ true) → SomeAsked views → SomeAsked (set views id w)
asked_set views id v w at keep (j, u, there, asked) =
    dite (ℕ_discrete j id)
    (λ same.
    let is : u ≡ v = some-injective u v (sym there ∙ ap (get_elem? views) same ∙ at) in
    (id, w, set_here views id w (there_is views id v at), keep (subst (λ (x : View). x.asked ≡ true) is asked)))
    (λ other. (j, u, set_else views id j w other ∙ there, asked))

-- the stop word after a word rose
still_one : (words : List ℕ) (word new : ℕ) → word < length words → slice_index words word ≤ new → (word ≡ 0 → new ≤ 1) → slice_index words 0 ≡ 1 → slice_index (slice_set words word new) 0 ≡ 1
still_one words word new room up stop one =
    at_place (λ y. y ≡ 1) words word 0 new room
    (λ e. let there = ap (slice_index words) e in let most = stop (sym e) in omega arith)
    (λ _. one)

was_one : (words : List ℕ) (word new : ℕ) → word < length words → (word ≡ 0 → new ≡ slice_index words 0) → slice_index (slice_set words word new) 0 ≡ 1 → slice_index words 0 ≡ 1
was_one words word new room same one = sym (at_place (λ y. y ≡ slice_index words 0) words word 0 new room (λ e. same (sym e)) (λ _. refl)) ∙ one

abbrev risen : View → ℕ → ℕ → Bool → View
risen v word new asked = record { publishes = v.publishes; asked = asked; seen = slice_set v.seen word new }

-- a word rises to new, and the seat's view of it too
rise : (words : List ℕ) (homes : List (Option ℕ)) (views : List View) (id word new : ℕ) (asked : Bool) (v : View)
    → Gauged record { words = words; homes = homes; views = views } → get_elem? views id ≡ some v → word < 5 → slice_index words word ≤ new → (word ≡ 0 → new ≤ 1)
    → ((new ≡ slice_index words word) ⊎ ((v.publishes ≡ true) ⊎ (word ≡ 0)))
    → (asked ≡ true → slice_index (slice_set words word new) 0 ≡ 1)
    → (slice_index (slice_set words word new) 0 ≡ 1 → SomeAsked (set views id (risen v word new asked)))
    → Gauged record { words = slice_set words word new; homes = homes; views = slice_set views id (risen v word new asked) }
rise words homes views id word new asked v rule at small up stop how told why =
    record {
      size = length-set words word new ∙ rule.size;
      stop = at_place (λ n. n ≤ 1) words word 0 new room (λ e. stop (sym e)) (λ _. rule.stop);
      why = why;
      seats = every;
    }
  where
    room : word < length words
    room = omega (arith, rule.size)

    mine : Sees words id v
    mine = rule.seats id v at

    own : Sees (slice_set words word new) id (risen v word new asked)
    own = record {
      size = length-set v.seen word new ∙ mine.size;
      most = λ i lt. both_places (λ a b. a ≤ b) v.seen words word i new new (omega (arith, mine.size)) room (λ _. omega arith) (λ _. mine.most i lt);
      asked = told;
      published = λ p. ((mine.published p).0, λ i pos lt. both_places (λ a b. a ≡ b) v.seen words word i new new (omega (arith, mine.size)) room (λ _. refl) (λ _. (mine.published p).1 i pos lt));
    }

    -- a total that another seat publishes is not the one that rises
    apart : (j : ℕ) (u : View) → j ≢ id → Sees words j u → u.publishes ≡ true → (i : ℕ) → 0 < i → i < 5 → i ≡ word → slice_index u.seen i ≡ new
    apart j u other theirs p i pos lt e =
        ⊎_elim
        (λ (same : new ≡ slice_index words word). (theirs.published p).1 i pos lt ∙ ap (slice_index words) e ∙ sym same)
        (λ rest. ⊎_elim
        (λ (shown : v.publishes ≡ true). absurd (other ((theirs.published p).0 ∙ sym (mine.published shown).0)))
        (λ (first : word ≡ 0). absurd (omega arith))
        rest)
        how

    others : (j : ℕ) (u : View) → j ≢ id → Sees words j u → Sees (slice_set words word new) j u
    others j u other theirs = record {
      size = theirs.size;
      most = λ i lt. at_place (λ y. slice_index u.seen i ≤ y) words word i new room (λ e. let below = theirs.most i lt in let there = ap (slice_index words) e in omega arith) (λ _. theirs.most i lt);
      asked = λ a. still_one words word new room up stop (theirs.asked a);
      published = λ p. ((theirs.published p).0, λ i pos lt. at_place (λ y. slice_index u.seen i ≡ y) words word i new room (λ e. apart j u other theirs p i pos lt e) (λ _. (theirs.published p).1 i pos lt));
    }

    every : (j : ℕ) (u : View) → get_elem? (set views id (risen v word new asked)) j ≡ some u → Sees (slice_set words word new) j u
    every j u e =
        ⊎_elim
        (λ (x : (j ≡ id) × (risen v word new asked ≡ u)). subst (λ (y : ℕ × View). Sees (slice_set words word new) y.0 y.1) (λ i. (sym x.0 i, x.1 i)) own)
        (λ (x : (j ≢ id) × (get_elem? views j ≡ some u)). others j u x.0 (rule.seats j u x.1))
        (at_set views id j (risen v word new asked) u e)

-- reading any word
pub looks : (slots id word : ℕ) (me : Me ℕ View) → word < 5 → Allows Gauged slots id me word (λ n. n) (Rises (step slots word 0 0 none) me)
looks slots id word me small s rule homes at fits =
    let v = me.0 in
    let mine = rule.seats id v at in
    let now = slice_index s.words word in
    let room : word < length s.words = omega (arith, rule.size) in
    let most : word ≡ 0 → now ≤ 1 = λ e. subst (λ k. slice_index s.words k ≤ 1) (sym e) rule.stop in (
      risen v word now v.asked,
      keeps,
      tt,
      rise s.words s.homes s.views id word now v.asked v rule at small (omega arith) most (inl refl)
          (λ a. still_one s.words word now room (omega arith) most (mine.asked a))
          (λ one. asked_set s.views id v (risen v word now v.asked) at (λ a. a) (rule.why (was_one s.words word now room (ap (slice_index s.words)) one))),
      (refl, refl, mine.most word small),
    )

-- a store of a total by the seat that publishes
pub publishes : (slots id word new : ℕ) (me : Me ℕ View) → 0 < word → word < 5 → me.0.publishes ≡ true → slice_index me.0.seen word ≤ new → Allows Gauged slots id me word (λ _. new) (λ _. Rises (step slots word new 0 none) me new)
publishes slots id word new me pos small shown up s rule homes at fits =
    let v = me.0 in
    let mine = rule.seats id v at in
    let is = (mine.published shown).1 word pos small in
    let room : word < length s.words = omega (arith, rule.size) in
    let most : word ≡ 0 → new ≤ 1 = λ e. absurd (omega arith) in
    let more : slice_index s.words word ≤ new = omega arith in (
      risen v word new v.asked,
      keeps,
      tt,
      rise s.words s.homes s.views id word new v.asked v rule at small more most (inr (inl shown))
          (λ a. still_one s.words word new room more most (mine.asked a))
          (λ one. asked_set s.views id v (risen v word new v.asked) at (λ a. a) (rule.why (was_one s.words word new room (λ e. absurd (omega arith)) one))),
      (refl, refl, up),
    )

-- the stop word is set
pub asks : (slots id : ℕ) (me : Me ℕ View) → Allows Gauged slots id me 0 (λ _. 1) (λ _. Asks (step slots 0 1 0 none) me 1)
asks slots id me s rule homes at fits =
    let v = me.0 in
    let room : 0 < length s.words = omega (arith, rule.size) in (
      risen v 0 1 true,
      keeps,
      tt,
      rise s.words s.homes s.views id 0 1 true v rule at (omega arith) rule.stop (λ _. omega arith) (inr (inr refl))
          (λ _. at_place (λ y. y ≡ 1) s.words 0 0 1 room (λ _. refl) (λ ne. absurd (ne refl)))
          (λ _. (id, risen v 0 1 true, set_here s.views id (risen v 0 1 true) (there_is s.views id v at), refl)),
      (refl, refl),
    )

-- a seat that only looks is split off
pub splits : (id : ℕ) (v : View) → Splits Gauged id v v (watcher v)
splits id v s rule at =
    record {
      size = rule.size;
      stop = rule.stop;
      why = λ one. more (rule.why one);
      seats = every;
    }
  where
    same_views : set s.views id v ≡ s.views
    same_views = set_again s.views id v at

    more : SomeAsked s.views → SomeAsked (set s.views id v ++ watcher v ∷ [])
    more (j, u, there, asked) = (j, u, at_longer (set s.views id v) (watcher v ∷ []) j u (ap (λ (l : List View). get_elem? l j) same_views ∙ there), asked)

    every : (j : ℕ) (u : View) → get_elem? (set s.views id v ++ watcher v ∷ []) j ≡ some u → Sees s.words j u
    every j u e =
        ⊎_elim
        (λ was. rule.seats j u (subst (λ l. get_elem? l j ≡ some u) same_views was))
        (λ (same : watcher v ≡ u).
        let mine = rule.seats id v at in
        subst (λ (y : View). Sees s.words j y) same
        (record {
          size = mine.size;
          most = mine.most;
          asked = λ off. absurd (true≢false (sym off));
          published = λ off. absurd (true≢false (sym off));
        }))
        (at_snoc (set s.views id v) (watcher v) u j e)
