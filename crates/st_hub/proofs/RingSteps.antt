-- What is known of rings from one try to the next.
use Rattle.std.proofs.Common.{◌≡◌, ◌≢◌, ℕ, ◌+◌, ◌*◌, ◌<◌, ◌≤◌, true, List, [], ◌∷◌, ◌++◌, map, length, Some, slice_get, refl, sym, ap, subst, ◌∙◌, arith, inl, inr, append_assoc, append-nil, length-append}
use Rattle.std.specs.Prelude.{slice_set}
use Rattle.std.proofs.lemmas.Bool.{cases_eq}
use Rattle.std.proofs.lemmas.List.{map-set}
use mathlib.Core.List.{IsPrefix}
use base.Growing.{prefix_refl, prefix_trans}
use Rattle.st_streams.proofs.SlotLemmas.{set_here, set_there}
use Rattle.st_queues.specs.WriteEnds.{taken, known}
use Rattle.st_queues.specs.ReadEnds.{put_in, free_of}
use Rattle.st_queues.specs.declared.items.Item.{Item}
use Rattle.st_queues.specs.declared.items.Delivery.{Delivery}
use Rattle.st_queues.specs.declared.lanes.WriteRing.{WriteRing}
use Rattle.st_queues.specs.declared.lanes.ReadRing.{ReadRing}
use Rattle.st_end.specs.State.{EndState}
use Rattle.st_end.specs.Calls.{has_stream}
use Rattle.st_hub.specs.declared.pumping.Pumped.{Pumped}
use Rattle.st_hub.specs.declared.pumping.Pumped.TheVariants.{Moved, Nothing, Stuck, NoMemory}
use Rattle.st_hub.specs.Flow.{Flow, Inlet, Outlet, no_inlet, no_outlet, inlet_at, outlet_at, has_last}
use Rattle.st_hub.specs.Steps.{Flows}
use Rattle.st_hub.specs.Keeping.{Rises}
use Rattle.st_hub.specs.Trying.{HadMemory, Refuses, known_at, room_at, Longer, Stops, Fuller, StopsGiving, Found, all, ended, refused, many, FoundRead, Tried, TriedRead}
use Rattle.st_hub.specs.Trying as trying
use Rattle.st_hub.specs.Inside.{inlet_of, outlet_of, known_of, room_of, taken_at, stands_at, put_at, free_at, Grow, Fill}
use Rattle.st_hub.proofs.Lists.{at_map}
use Rattle.st_hub.proofs.StepTies.{flows_none, flows_join}

pub had_memory : (p : Pumped) → p ≢ NoMemory → HadMemory p
had_memory Moved ne = tt
had_memory Nothing ne = tt
had_memory Stuck ne = tt
had_memory NoMemory ne = absurd (ne refl)

prefix_length : {X : Type 0} (xs ys : List X) → IsPrefix xs ys → length xs ≤ length ys
prefix_length xs ys p = omega (arith, sym (ap length p.1) ∙ length-append xs p.0)

behind : {X : Type 0} (ts ks ls : List X) → IsPrefix ks ls → IsPrefix (ts ++ ks) (ts ++ ls)
behind ts ks ls p = (p.0, append_assoc ts ks p.0 ∙ ap (λ l. ts ++ l) p.1)

module _ {A : Type 0} where
  -- ---- one try

  pub longer_none : (ts ks : List (Item A)) → Longer ts ks ts ks
  longer_none ts ks = record { taken = prefix_refl ts; whole = prefix_refl (ts ++ ks) }

  pub longer_join : (ts ks us ls vs ms : List (Item A)) → Longer ts ks us ls → Longer us ls vs ms → Longer ts ks vs ms
  longer_join ts ks us ls vs ms f g = record { taken = prefix_trans ts us vs f.taken g.taken; whole = prefix_trans (ts ++ ks) (us ++ ls) (vs ++ ms) f.whole g.whole }

  -- a look at a ring
  pub longer_look : (ts ks us ls : List (Item A)) → us ≡ ts → IsPrefix ks ls → Longer ts ks us ls
  longer_look ts ks us ls same p = record {
    taken = subst (IsPrefix ts) (sym same) (prefix_refl ts);
    whole = subst (λ l. IsPrefix (ts ++ ks) (l ++ ls)) (sym same) (behind ts ks ls p);
  }

  -- its first item is removed
  pub longer_took : (ts ks us ls : List (Item A)) (x : Item A) → us ≡ ts ++ x ∷ [] → ks ≡ x ∷ ls → Longer ts ks us ls
  longer_took ts ks us ls x took is = record {
    taken = (x ∷ [], sym took);
    whole = subst (IsPrefix (ts ++ ks)) (ap (λ l. ts ++ l) is ∙ sym (append_assoc ts (x ∷ []) ls) ∙ ap (λ l. l ++ ls) (sym took)) (prefix_refl (ts ++ ks));
  }

  pub one_more : (ts us : List (Item A)) (x : Item A) → us ≡ ts ++ x ∷ [] → length ts + 1 ≤ length us
  one_more ts us x took = let e = ap length took ∙ length-append ts (x ∷ []) in omega (arith, e)

  pub one_put : (ds us : List (Delivery A)) (x : Delivery A) → us ≡ ds ++ x ∷ [] → length ds + 1 ≡ length us
  one_put ds us x put = let e = ap length put ∙ length-append ds (x ∷ []) in omega (arith, e)

  pub fuller_none : (ds : List (Delivery A)) (n : ℕ) → Fuller ds n ds n
  fuller_none ds n = record { put = omega arith; whole = omega arith }

  pub fuller_join : (ds : List (Delivery A)) (n : ℕ) (us : List (Delivery A)) (m : ℕ) (vs : List (Delivery A)) (k : ℕ) → Fuller ds n us m → Fuller us m vs k → Fuller ds n vs k
  fuller_join ds n us m vs k f g = record { put = omega (arith, f.put, g.put); whole = omega (arith, f.whole, g.whole) }

  pub fuller_look : (ds us : List (Delivery A)) (n m : ℕ) → us ≡ ds → n ≤ m → Fuller ds n us m
  fuller_look ds us n m same le = let e = ap length same in record { put = omega (arith, e); whole = omega (arith, e, le) }

  pub fuller_put : (ds us : List (Delivery A)) (x : Delivery A) (n m k : ℕ) → us ≡ ds ++ x ∷ [] → n ≤ m → m ≡ k + 1 → Fuller ds n us k
  fuller_put ds us x n m k put le is = let e = one_put ds us x put in record { put = omega (arith, e); whole = omega (arith, e, le, is) }

  -- ---- at which index the ring lies

  pub here_known : (xs : List (WriteRing A)) (r : ℕ) (x : WriteRing A) → slice_get xs r ≡ Some x → stands_at xs r ≡ known x.end
  here_known xs r x at = at_map known_of xs r x [] at

  pub here_taken : (xs : List (WriteRing A)) (r : ℕ) (x : WriteRing A) → slice_get xs r ≡ Some x → taken_at xs r ≡ taken x.end
  here_taken xs r x at = ap (λ (z : Inlet A). z.taken) (at_map inlet_of xs r x no_inlet at)

  pub new_known : (xs : List (WriteRing A)) (r : ℕ) (y : WriteRing A) → r < length (map known_of xs) → stands_at (slice_set xs r y) r ≡ known y.end
  new_known xs r y room = ap (λ l. known_at l r) (map-set known_of xs r y) ∙ set_here (map known_of xs) r (known_of y) [] room

  pub new_taken : (xs : List (WriteRing A)) (r : ℕ) (y : WriteRing A) → r < length (map inlet_of xs) → taken_at (slice_set xs r y) r ≡ taken y.end
  new_taken xs r y room = ap (λ l. (inlet_at l r).taken) (map-set inlet_of xs r y) ∙ ap (λ (z : Inlet A). z.taken) (set_here (map inlet_of xs) r (inlet_of y) no_inlet room)

  pub other_known : (xs : List (WriteRing A)) (r i : ℕ) (y : WriteRing A) → i ≢ r → stands_at (slice_set xs r y) i ≡ stands_at xs i
  other_known xs r i y ne = ap (λ l. known_at l i) (map-set known_of xs r y) ∙ set_there (map known_of xs) r (known_of y) [] i ne

  other_taken : (xs : List (WriteRing A)) (r i : ℕ) (y : WriteRing A) → i ≢ r → taken_at (slice_set xs r y) i ≡ taken_at xs i
  other_taken xs r i y ne = ap (λ l. (inlet_at l i).taken) (map-set inlet_of xs r y) ∙ ap (λ (z : Inlet A). z.taken) (set_there (map inlet_of xs) r (inlet_of y) no_inlet i ne)

  longer_as : (ts ks us ls ts' ks' us' ls' : List (Item A)) → ts' ≡ ts → ks' ≡ ks → us' ≡ us → ls' ≡ ls → Longer ts ks us ls → Longer ts' ks' us' ls'
  longer_as ts ks us ls ts' ks' us' ls' a b c d h = subst (λ (q : (List (Item A) × List (Item A)) × (List (Item A) × List (Item A))). Longer q.0.0 q.0.1 q.1.0 q.1.1) (λ i. ((sym a i, sym b i), (sym c i, sym d i))) h

  pub grow_set : (xs : List (WriteRing A)) (r : ℕ) (x y : WriteRing A) → r < length (map known_of xs) → r < length (map inlet_of xs) → slice_get xs r ≡ Some x → Longer (taken x.end) (known x.end) (taken y.end) (known y.end) → Grow xs (slice_set xs r y)
  grow_set xs r x y room room' at h i =
      elim (cases_eq i r) [
        | inl same ↦ subst (λ k. Longer (taken_at xs k) (stands_at xs k) (taken_at (slice_set xs r y) k) (stands_at (slice_set xs r y) k)) (sym same)
            (longer_as _ _ _ _ _ _ _ _ (here_taken xs r x at) (here_known xs r x at) (new_taken xs r y room') (new_known xs r y room) h)
        | inr ne ↦ longer_as _ _ _ _ _ _ _ _ refl refl (other_taken xs r i y ne) (other_known xs r i y ne) (longer_none (taken_at xs i) (stands_at xs i))
      ]

  pub grow_none : (xs : List (WriteRing A)) → Grow xs xs
  grow_none xs r = longer_none (taken_at xs r) (stands_at xs r)

  pub grow_join : (xs ys zs : List (WriteRing A)) → Grow xs ys → Grow ys zs → Grow xs zs
  grow_join xs ys zs f g r = longer_join _ _ _ _ _ _ (f r) (g r)

  pub stops_here : (k : ℕ) (p : Pumped) (e : EndState) (xs : List (WriteRing A)) (r : ℕ) (x y : WriteRing A) → r < length (map known_of xs) → r < length (map inlet_of xs) → slice_get xs r ≡ Some x
      → Stops k p (taken x.end) e (taken y.end) (known y.end) → Stops k p (taken_at xs r) e (taken_at (slice_set xs r y) r) (stands_at (slice_set xs r y) r)
  stops_here k p e xs r x y room room' at h = subst (λ (q : List (Item A) × List (Item A) × List (Item A)). Stops k p q.0 e q.1 q.2) (λ i. (sym (here_taken xs r x at) i, sym (new_taken xs r y room') i, sym (new_known xs r y room) i)) h

  here_free : (ys : List (ReadRing A)) (s : ℕ) (x : ReadRing A) → slice_get ys s ≡ Some x → free_at ys s ≡ free_of x.end
  here_free ys s x at = at_map room_of ys s x 0 at

  here_put : (ys : List (ReadRing A)) (s : ℕ) (x : ReadRing A) → slice_get ys s ≡ Some x → put_at ys s ≡ put_in x.end
  here_put ys s x at = ap (λ (z : Outlet A). z.put) (at_map outlet_of ys s x no_outlet at)

  new_free : (ys : List (ReadRing A)) (s : ℕ) (y : ReadRing A) → s < length (map room_of ys) → free_at (slice_set ys s y) s ≡ free_of y.end
  new_free ys s y room = ap (λ l. room_at l s) (map-set room_of ys s y) ∙ set_here (map room_of ys) s (room_of y) 0 room

  new_put : (ys : List (ReadRing A)) (s : ℕ) (y : ReadRing A) → s < length (map outlet_of ys) → put_at (slice_set ys s y) s ≡ put_in y.end
  new_put ys s y room = ap (λ l. (outlet_at l s).put) (map-set outlet_of ys s y) ∙ ap (λ (z : Outlet A). z.put) (set_here (map outlet_of ys) s (outlet_of y) no_outlet room)

  other_free : (ys : List (ReadRing A)) (s i : ℕ) (y : ReadRing A) → i ≢ s → free_at (slice_set ys s y) i ≡ free_at ys i
  other_free ys s i y ne = ap (λ l. room_at l i) (map-set room_of ys s y) ∙ set_there (map room_of ys) s (room_of y) 0 i ne

  other_put : (ys : List (ReadRing A)) (s i : ℕ) (y : ReadRing A) → i ≢ s → put_at (slice_set ys s y) i ≡ put_at ys i
  other_put ys s i y ne = ap (λ l. (outlet_at l i).put) (map-set outlet_of ys s y) ∙ ap (λ (z : Outlet A). z.put) (set_there (map outlet_of ys) s (outlet_of y) no_outlet i ne)

  fuller_as : (ds us ds' us' : List (Delivery A)) (n m n' m' : ℕ) → ds' ≡ ds → n' ≡ n → us' ≡ us → m' ≡ m → Fuller ds n us m → Fuller ds' n' us' m'
  fuller_as ds us ds' us' n m n' m' a b c d h = subst (λ (q : (List (Delivery A) × ℕ) × (List (Delivery A) × ℕ)). Fuller q.0.0 q.0.1 q.1.0 q.1.1) (λ i. ((sym a i, sym b i), (sym c i, sym d i))) h

  pub fill_set : (ys : List (ReadRing A)) (s : ℕ) (x y : ReadRing A) → s < length (map room_of ys) → s < length (map outlet_of ys) → slice_get ys s ≡ Some x → Fuller (put_in x.end) (free_of x.end) (put_in y.end) (free_of y.end) → Fill ys (slice_set ys s y)
  fill_set ys s x y room room' at h i =
      elim (cases_eq i s) [
        | inl same ↦ subst (λ k. Fuller (put_at ys k) (free_at ys k) (put_at (slice_set ys s y) k) (free_at (slice_set ys s y) k)) (sym same)
            (fuller_as _ _ _ _ _ _ _ _ (here_put ys s x at) (here_free ys s x at) (new_put ys s y room') (new_free ys s y room) h)
        | inr ne ↦ fuller_as _ _ _ _ _ _ _ _ refl refl (other_put ys s i y ne) (other_free ys s i y ne) (fuller_none (put_at ys i) (free_at ys i))
      ]

  pub fill_none : (ys : List (ReadRing A)) → Fill ys ys
  fill_none ys s = fuller_none (put_at ys s) (free_at ys s)

  pub fill_join : (xs ys zs : List (ReadRing A)) → Fill xs ys → Fill ys zs → Fill xs zs
  fill_join xs ys zs f g s = fuller_join _ _ _ _ _ _ (f s) (g s)

  pub stops_giving_here : (k : ℕ) (a : EndState) (p : Pumped) (b : EndState) (ys : List (ReadRing A)) (s : ℕ) (x y : ReadRing A) → s < length (map room_of ys) → s < length (map outlet_of ys) → slice_get ys s ≡ Some x
      → StopsGiving k a (put_in x.end) p b (put_in y.end) (free_of y.end) → StopsGiving k a (put_at ys s) p b (put_at (slice_set ys s y) s) (free_at (slice_set ys s y) s)
  stops_giving_here k a p b ys s x y room room' at h = subst (λ (q : List (Delivery A) × List (Delivery A) × ℕ). StopsGiving k a q.0 p b q.1 q.2) (λ i. (sym (here_put ys s x at) i, sym (new_put ys s y room') i, sym (new_free ys s y room) i)) h

  -- ---- all tries of a ring

  emptied : (ts ks us ls : List (Item A)) → ls ≡ [] → IsPrefix (ts ++ ks) (us ++ ls) → IsPrefix (ts ++ ks) us
  emptied ts ks us ls none p = subst (IsPrefix (ts ++ ks)) (ap (λ l. us ++ l) none ∙ append-nil us) p

  -- the last try of a ring says how it was found
  pub stop_found : (p : Pumped) (k : ℕ) (e : EndState) (ts ks vs us ls : List (Item A)) → p ≢ Moved → HadMemory p → Longer ts ks us ls → Stops k p vs e us ls → Found e k ts ks us
  stop_found Moved k e ts ks vs us ls ne had grows h = absurd (ne refl)
  stop_found Nothing k e ts ks vs us ls ne had grows h = absurd h
  stop_found NoMemory k e ts ks vs us ls ne had grows h = absurd had
  stop_found Stuck k e ts ks vs us ls ne had grows (inl over) = ended over
  stop_found Stuck k e ts ks vs us ls ne had grows (inr (inl none)) = all (emptied ts ks us ls none grows.whole)
  stop_found Stuck k e ts ks vs us ls ne had grows (inr (inr (x, first, why))) = refused x first.0 (subst (λ l. IsPrefix (ts ++ ks) (us ++ l)) (sym first.1) grows.whole) why

  -- a ring of which more was known to begin with
  pub found_from : (e : EndState) (k : ℕ) (ts ks vs ms us : List (Item A)) → Longer ts ks vs ms → Found e k vs ms us → Found e k ts ks us
  found_from e k ts ks vs ms us l (all p) = all (prefix_trans (ts ++ ks) (vs ++ ms) us l.whole p)
  found_from e k ts ks vs ms us l (ended over) = ended over
  found_from e k ts ks vs ms us l (refused x rest p why) = refused x rest (prefix_trans (ts ++ ks) (vs ++ ms) (us ++ x ∷ rest) l.whole p) why
  found_from e k ts ks vs ms us l (many h) = many (let le = prefix_length ts vs l.taken in omega (arith, le, h))

  pub tried_on : (a b c : Flow A) (ks : List (List (Item A))) (s j : ℕ) → Flows b c → Tried a ks s j b → Tried a ks s j c
  tried_on a b c ks s j f t = record { mid = t.mid; before = t.before; after = flows_join _ _ _ t.after f; found = t.found }

  pub tried_from : (a b c : Flow A) (ks ls : List (List (Item A))) (s j : ℕ) → Flows a b → Longer (inlet_at a.inlets (8 * s + j)).taken (known_at ks (8 * s + j)) (inlet_at b.inlets (8 * s + j)).taken (known_at ls (8 * s + j)) → Tried b ls s j c → Tried a ks s j c
  tried_from a b c ks ls s j f l t = record { mid = t.mid; before = flows_join _ _ _ f t.before; after = t.after; found = found_from _ _ _ _ _ _ _ l t.found }

  pub tried_now : (a b : Flow A) (ks : List (List (Item A))) (s j : ℕ) → Flows a b → Found b.core (s + 1) (inlet_at a.inlets (8 * s + j)).taken (known_at ks (8 * s + j)) (inlet_at b.inlets (8 * s + j)).taken → Tried a ks s j b
  tried_now a b ks s j f h = record { mid = b; before = f; after = flows_none b; found = h }

  pub tried_here : (a b : Flow A) (ks : List (List (Item A))) (s j w : ℕ) → j ≡ w → Flows a b → Found b.core (s + 1) (inlet_at a.inlets (8 * s + w)).taken (known_at ks (8 * s + w)) (inlet_at b.inlets (8 * s + w)).taken → Tried a ks s j b
  tried_here a b ks s j w same f h = subst (λ n. Tried a ks s n b) (sym same) (tried_now a b ks s w f h)

  -- a stream that was open to begin with is open when it is tried
  pub tried_open : (a b c : Flow A) (ks ls : List (List (Item A))) (s t j : ℕ) → s ≡ t → Flows a b → Rises a.core b.core → ((r : ℕ) → Longer (inlet_at a.inlets r).taken (known_at ks r) (inlet_at b.inlets r).taken (known_at ls r))
      → has_stream a.core (s + 1) ≡ true → (has_stream b.core (t + 1) ≡ true → Tried b ls t j c) → Tried a ks s j c
  tried_open a b c ks ls s t j same f up grows on h = subst (λ n. Tried a ks n j c) (sym same) (tried_from a b c ks ls t j f (grows (8 * t + j)) (h (up.is_open (t + 1) (subst (λ n. has_stream a.core (n + 1) ≡ true) same on))))

  pub moved_one : (k : ℕ) (p : Pumped) (ts : List (Item A)) (e : EndState) (us ls : List (Item A)) → p ≡ Moved → Stops k p ts e us ls → length ts + 1 ≤ length us
  moved_one k p ts e us ls is h = subst (λ q. Stops k q ts e us ls) is h

  pub gave_one : (k : ℕ) (a : EndState) (p : Pumped) (ds : List (Delivery A)) (b : EndState) (us : List (Delivery A)) (m : ℕ) → p ≡ Moved → StopsGiving k a ds p b us m → length ds + 1 ≤ length us
  gave_one k a p ds b us m is h = subst (λ q. StopsGiving k a ds q b us m) is h

  -- the last try of a reader's ring says how it was found, at the end before it
  pub stop_read : (p : Pumped) (k : ℕ) (a b : EndState) (ds : List (Delivery A)) (n : ℕ) (vs us : List (Delivery A)) (m : ℕ) → p ≢ Moved → HadMemory p → Fuller ds n us m → StopsGiving k a vs p b us m → FoundRead a k ds n vs
  stop_read Moved k a b ds n vs us m ne had fills h = absurd (ne refl)
  stop_read NoMemory k a b ds n vs us m ne had fills h = absurd had
  stop_read Nothing k a b ds n vs us m ne had fills h = trying.nothing b h.0
  stop_read Stuck k a b ds n vs us m ne had fills (same, inl over) = trying.over (subst (λ l. has_last l ≡ true) same over)
  stop_read Stuck k a b ds n vs us m ne had fills (same, inr (inl none)) = trying.full (let e = ap length same in omega (arith, fills.whole, none, e))
  stop_read Stuck k a b ds n vs us m ne had fills (same, inr (inr (why, h))) = trying.refused why h

  pub found_read_from : (e : EndState) (k : ℕ) (ds : List (Delivery A)) (n : ℕ) (vs : List (Delivery A)) (m : ℕ) (us : List (Delivery A)) → Fuller ds n vs m → FoundRead e k vs m us → FoundRead e k ds n us
  found_read_from e k ds n vs m us f (trying.full h) = trying.full (omega (arith, f.whole, h))
  found_read_from e k ds n vs m us f (trying.over h) = trying.over h
  found_read_from e k ds n vs m us f (trying.nothing b h) = trying.nothing b h
  found_read_from e k ds n vs m us f (trying.refused why h) = trying.refused why h
  found_read_from e k ds n vs m us f (trying.many h) = trying.many (omega (arith, f.put, h))

  pub read_on : (a b c : Flow A) (ns : List ℕ) (s : ℕ) → Flows b c → TriedRead a ns s b → TriedRead a ns s c
  read_on a b c ns s f t = record { mid = t.mid; before = t.before; after = flows_join _ _ _ t.after f; found = t.found }

  pub read_from : (a b c : Flow A) (ns ms : List ℕ) (s : ℕ) → Flows a b → Fuller (outlet_at a.outlets s).put (room_at ns s) (outlet_at b.outlets s).put (room_at ms s) → TriedRead b ms s c → TriedRead a ns s c
  read_from a b c ns ms s f l t = record { mid = t.mid; before = flows_join _ _ _ f t.before; after = t.after; found = found_read_from _ _ _ _ _ _ _ l t.found }

  -- nothing was delivered before it
  pub read_before : (a b c : Flow A) (ns : List ℕ) (s : ℕ) → Flows a b → a.outlets ≡ b.outlets → TriedRead b ns s c → TriedRead a ns s c
  read_before a b c ns s f same t =
      read_from a b c ns ns s f (subst (λ os. Fuller (outlet_at os s).put (room_at ns s) (outlet_at b.outlets s).put (room_at ns s)) (sym same) (fuller_none (outlet_at b.outlets s).put (room_at ns s))) t

  pub read_open : (a b c : Flow A) (ns ms : List ℕ) (s t : ℕ) → s ≡ t → Flows a b → Rises a.core b.core → ((r : ℕ) → Fuller (outlet_at a.outlets r).put (room_at ns r) (outlet_at b.outlets r).put (room_at ms r))
      → has_stream a.core (s + 1) ≡ true → (has_stream b.core (t + 1) ≡ true → TriedRead b ms t c) → TriedRead a ns s c
  read_open a b c ns ms s t same f up fills on h = subst (λ n. TriedRead a ns n c) (sym same) (read_from a b c ns ms t f (fills t) (h (up.is_open (t + 1) (subst (λ n. has_stream a.core (n + 1) ≡ true) same on))))
