-- One try to move an item, at the index of its ring.
use Rattle.std.proofs.Common.{◌≡◌, ◌≢◌, ℕ, zero, suc, ◌+◌, ◌*◌, ◌<◌, Bool, true, false, not, ◌&&◌, nat_eq, List, [], ◌∷◌, ◌++◌, map, length, Some, slice_get, is_some, refl, sym, ap, subst, ◌∙◌, arith, Ok, inl, inr, ◌⊎◌, ⊎_elim}
use Rattle.std.specs.Prelude.{slice_set, slice_index_or, Vec, MatchBool}
use Rattle.std.proofs.lemmas.List.{map-set}
use Rattle.std.proofs.lemmas.Bool.{cases_eq}
use Rattle.std.proofs.lemmas.Bool.Decides.{nat_tests}
use Rattle.st_streams.proofs.SlotLemmas.{set_here, set_there}
use Rattle.st_queues.specs.Names.{RingId}
use Rattle.st_queues.specs.WriteEnds.{taken, SameWriteEnd}
use Rattle.st_queues.specs.ReadEnds.{put_in, SameReadEnd}
use Rattle.st_queues.specs.Held.{HeldWrite, HeldRead}
use Rattle.st_queues.specs.declared.items.Item.{Item}
use Rattle.st_queues.specs.declared.items.Item.TheVariants as item
use Rattle.st_queues.specs.declared.items.Delivery.{Delivery}
use Rattle.st_queues.specs.declared.items.Delivery.TheVariants as delivery
use Rattle.st_queues.specs.declared.lanes.WriteRing.{WriteRing}
use Rattle.st_queues.specs.declared.lanes.ReadRing.{ReadRing}
use Rattle.st_end.specs.State.{EndState}
use Rattle.st_end.specs.Calls.{write, close}
use Rattle.st_hub.specs.declared.pumping.Pumped.{Pumped}
use Rattle.st_hub.specs.declared.pumping.Pumped.TheVariants.{Moved, Nothing, Stuck, NoMemory}
use Rattle.st_hub.specs.Flow.{Flow, Inlet, Outlet, no_inlet, no_outlet, inlet_at, outlet_at, with_item, with_delivery, has_end, has_last, is_writing}
use Rattle.st_hub.specs.Handing.{NoneWrites, SomeWrites, NoOther, SomeOther}
use Rattle.st_hub.specs.Steps.{takes, ends, gives, gives_none, Flows}
use Rattle.st_hub.specs.Moving.{ClosesIf, AfterTake, AfterGive}
use Rattle.st_hub.specs.Inside.{inlet_of, outlet_of, IsLane, IsReadLane}
use Rattle.st_hub.proofs.Lists.{at_map}
use Rattle.st_hub.proofs.StepTies.{flows_none, flows_more}

-- ---- the test for another writer

pub busy_is : (b : Bool) (m n : ℕ) → m ≢ n → b ≡ (not (nat_eq m n) && b)
busy_is b m n ne = grind (arith, nat_tests)

pub end_end : {A : Type 0} (xs : List (Item A)) → has_end (xs ++ item.End ∷ []) ≡ true
end_end [] = refl
end_end (item.Chunk v ∷ xs) = end_end xs
end_end (item.End ∷ xs) = refl

pub chunk_end : {A : Type 0} (xs : List (Item A)) (v : Vec ℕ A) → has_end (xs ++ item.Chunk v ∷ []) ≡ has_end xs
chunk_end [] v = refl
chunk_end (item.Chunk w ∷ xs) v = chunk_end xs v
chunk_end (item.End ∷ xs) v = refl

pub bytes_last : {A : Type 0} (xs : List (Delivery A)) (v : Vec ℕ A) → has_last (xs ++ delivery.Bytes v ∷ []) ≡ has_last xs
bytes_last [] v = refl
bytes_last (delivery.Bytes w ∷ xs) v = bytes_last xs v
bytes_last (delivery.End ∷ xs) v = refl
bytes_last (delivery.Aborted code ∷ xs) v = refl

pub end_last : {A : Type 0} (xs : List (Delivery A)) → has_last (xs ++ delivery.End ∷ []) ≡ true
end_last [] = refl
end_last (delivery.Bytes w ∷ xs) = end_last xs
end_last (delivery.End ∷ xs) = refl
end_last (delivery.Aborted code ∷ xs) = refl

pub abort_last : {A : Type 0} (xs : List (Delivery A)) (code : ℕ) → has_last (xs ++ delivery.Aborted code ∷ []) ≡ true
abort_last [] code = refl
abort_last (delivery.Bytes w ∷ xs) code = abort_last xs code
abort_last (delivery.End ∷ xs) code = refl
abort_last (delivery.Aborted other ∷ xs) code = refl

and_off : (b : Bool) → (b && false) ≡ false
and_off true = refl
and_off false = refl

put_back : {X : Type 0} (zs : List X) (i : ℕ) (d : X) → slice_set zs i (slice_index_or zs i d) ≡ zs
put_back [] i d = refl
put_back (z ∷ zs) zero d = refl
put_back (z ∷ zs) (suc i) d = ap (λ l. z ∷ l) (put_back zs i d)

module _ {A : Type 0} where
  -- a lane whose ring is the same is still the hub's
  pub lane_kept : (ring : ℕ → RingId A) (k : ℕ) (x y : WriteRing A) → IsLane ring k x → SameWriteEnd x.end y.end → y.held ≡ x.held → y.over ≡ has_end (taken y.end) → IsLane ring k y
  lane_kept ring k x y l same held over =
      let n : y.end.ring ≡ x.end.ring = same.1 in
      record {
        number = n ∙ l.number;
        ours = (
          subst (λ m. m < 512) (sym n) l.ours.0,
          same.0 ∙ l.ours.1 ∙ ap ring (sym n),
          subst (HeldWrite (ring y.end.ring)) (sym held) (subst (λ m. HeldWrite (ring m) x.held) (sym n) l.ours.2),
        );
        over = over;
      }

  pub read_lane_kept : (ring : ℕ → RingId A) (k : ℕ) (x y : ReadRing A) → IsReadLane ring k x → SameReadEnd x.end y.end → y.held ≡ x.held → y.over ≡ has_last (put_in y.end) → IsReadLane ring k y
  read_lane_kept ring k x y l same held over =
      let n : y.end.stream ≡ x.end.stream = same.1 in
      record {
        number = n ∙ l.number;
        ours = (
          subst (λ m. m < 64) (sym n) l.ours.0,
          same.0 ∙ l.ours.1 ∙ ap ring (sym n),
          subst (HeldRead (ring y.end.stream)) (sym held) (subst (λ m. HeldRead (ring m) x.held) (sym n) l.ours.2),
        );
        over = over;
      }

  -- ---- the lists after a try

  taken_more : (xs : List (WriteRing A)) (r : ℕ) (x y : WriteRing A) (i : Item A) → slice_get xs r ≡ Some x → y.held ≡ x.held → taken y.end ≡ taken x.end ++ i ∷ [] → map inlet_of (slice_set xs r y) ≡ with_item (map inlet_of xs) r i
  taken_more xs r x y i at held new =
      let was : inlet_at (map inlet_of xs) r ≡ inlet_of x = at_map inlet_of xs r x no_inlet at in
      let t : taken y.end ≡ (inlet_at (map inlet_of xs) r).taken ++ i ∷ [] = new ∙ ap (λ (z : Inlet A). z.taken ++ i ∷ []) (sym was) in
      let o : not (is_some y.held) ≡ (inlet_at (map inlet_of xs) r).out = ap (λ z. not (is_some z)) held ∙ ap (λ (z : Inlet A). z.out) (sym was) in
      map-set inlet_of xs r y ∙ ap (λ z. slice_set (map inlet_of xs) r z) (λ k. record { taken = t k; out = o k })

  pub taken_same : (xs : List (WriteRing A)) (r : ℕ) (x y : WriteRing A) → slice_get xs r ≡ Some x → y.held ≡ x.held → taken y.end ≡ taken x.end → map inlet_of (slice_set xs r y) ≡ map inlet_of xs
  taken_same xs r x y at held new =
      let was : inlet_at (map inlet_of xs) r ≡ inlet_of x = at_map inlet_of xs r x no_inlet at in
      let o : not (is_some y.held) ≡ not (is_some x.held) = ap (λ z. not (is_some z)) held in
      let same : inlet_of y ≡ inlet_of x = λ k. record { taken = new k; out = o k } in
      map-set inlet_of xs r y ∙ ap (λ z. slice_set (map inlet_of xs) r z) (same ∙ sym was) ∙ put_back (map inlet_of xs) r no_inlet

  put_more : (xs : List (ReadRing A)) (s : ℕ) (x y : ReadRing A) (d : Delivery A) → slice_get xs s ≡ Some x → y.held ≡ x.held → put_in y.end ≡ put_in x.end ++ d ∷ [] → map outlet_of (slice_set xs s y) ≡ with_delivery (map outlet_of xs) s d
  put_more xs s x y d at held new =
      let was : outlet_at (map outlet_of xs) s ≡ outlet_of x = at_map outlet_of xs s x no_outlet at in
      let t : put_in y.end ≡ (outlet_at (map outlet_of xs) s).put ++ d ∷ [] = new ∙ ap (λ (z : Outlet A). z.put ++ d ∷ []) (sym was) in
      let o : not (is_some y.held) ≡ (outlet_at (map outlet_of xs) s).out = ap (λ z. not (is_some z)) held ∙ ap (λ (z : Outlet A). z.out) (sym was) in
      map-set outlet_of xs s y ∙ ap (λ z. slice_set (map outlet_of xs) s z) (λ k. record { put = t k; out = o k })

  pub put_same : (xs : List (ReadRing A)) (s : ℕ) (x y : ReadRing A) → slice_get xs s ≡ Some x → y.held ≡ x.held → put_in y.end ≡ put_in x.end → map outlet_of (slice_set xs s y) ≡ map outlet_of xs
  put_same xs s x y at held new =
      let was : outlet_at (map outlet_of xs) s ≡ outlet_of x = at_map outlet_of xs s x no_outlet at in
      let o : not (is_some y.held) ≡ not (is_some x.held) = ap (λ z. not (is_some z)) held in
      let same : outlet_of y ≡ outlet_of x = λ k. record { put = new k; out = o k } in
      map-set outlet_of xs s y ∙ ap (λ z. slice_set (map outlet_of xs) s z) (same ∙ sym was) ∙ put_back (map outlet_of xs) s no_outlet

  -- ---- whether a writer is left after the end of one was removed from its ring

  ended_writer : (xs : List (Inlet A)) (r : ℕ) → r < length xs → is_writing (inlet_at (with_item xs r item.End) r) ≡ false
  ended_writer xs r room =
      ap is_writing (set_here xs r (record (inlet_at xs r) { taken = (inlet_at xs r).taken ++ item.End ∷ [] }) no_inlet room)
      ∙ ap (λ b. (inlet_at xs r).out && not b) (end_end (inlet_at xs r).taken) ∙ and_off (inlet_at xs r).out

  other_writer : (xs : List (Inlet A)) (s i j : ℕ) → i ≢ j → is_writing (inlet_at (with_item xs (8 * s + j) item.End) (8 * s + i)) ≡ is_writing (inlet_at xs (8 * s + i))
  other_writer xs s i j ne =
      let far : 8 * s + i ≢ 8 * s + j = λ e. ne (omega arith) in
      ap is_writing (set_there xs (8 * s + j) (record (inlet_at xs (8 * s + j)) { taken = (inlet_at xs (8 * s + j)).taken ++ item.End ∷ [] }) no_inlet (8 * s + i) far)

  none_left : (xs : List (Inlet A)) (s j : ℕ) → 8 * s + j < length xs → NoOther xs s j → NoneWrites (with_item xs (8 * s + j) item.End) s
  none_left xs s j room none i li =
      elim (cases_eq i j) [
        | inl same ↦ subst (λ k. is_writing (inlet_at (with_item xs (8 * s + j) item.End) (8 * s + k)) ≡ false) (sym same) (ended_writer xs (8 * s + j) room)
        | inr ne ↦ other_writer xs s i j ne ∙ none i li ne
      ]

  some_left : (xs : List (Inlet A)) (s j : ℕ) → SomeOther xs s j → SomeWrites (with_item xs (8 * s + j) item.End) s
  some_left xs s j (i, li, ne, writes) = (i, li, other_writer xs s i j ne ∙ writes)

  closing : (last : Bool) (xs : List (Inlet A)) (s j : ℕ) (a b : EndState) → 8 * s + j < length xs → MatchBool last (NoOther xs s j) (SomeOther xs s j) → ClosesIf last a (s + 1) b
      → (NoneWrites (with_item xs (8 * s + j) item.End) s × (close a (s + 1) ≡ (Ok tt, b))) ⊎ (SomeWrites (with_item xs (8 * s + j) item.End) s × (b ≡ a))
  closing true xs s j a b room others h = inl (none_left xs s j room others, h)
  closing false xs s j a b room others h = inr (some_left xs s j others, h)

  -- ---- a try is at most one step

  abbrev flow : EndState → List (Inlet A) → List (Outlet A) → Flow A
  flow e xs ys = record { core = e; inlets = xs; outlets = ys }

  still : (a b : EndState) (xs us : List (Inlet A)) (ys vs : List (Outlet A)) → b ≡ a → us ≡ xs → vs ≡ ys → Flows (flow a xs ys) (flow b us vs)
  still a b xs us ys vs e x y = subst (Flows (flow a xs ys)) (λ i. flow (sym e i) (sym x i) (sym y i)) (flows_none (flow a xs ys))

  pub took : (p : Pumped) (last : Bool) (s j : ℕ) (a b : EndState) (xs : List (WriteRing A)) (x y : WriteRing A) (ys : List (Outlet A)) → s < 64 → j < 8 → length xs ≡ 512 → length (map inlet_of xs) ≡ 512 → slice_get xs (8 * s + j) ≡ Some x → y.held ≡ x.held
      → MatchBool last (NoOther (map inlet_of xs) s j) (SomeOther (map inlet_of xs) s j) → AfterTake (s + 1) last a (taken x.end) p b (taken y.end)
      → Flows (flow a (map inlet_of xs) ys) (flow b (map inlet_of (slice_set xs (8 * s + j) y)) ys)
  took Moved last s j a b xs x y ys ls lj wide wide_too at held others h =
      let f = flow a (map inlet_of xs) ys in
      let g = flow b (map inlet_of (slice_set xs (8 * s + j) y)) ys in
      flows_more f f g s ls (flows_none f) (⊎_elim
      (λ (w : (v : Vec ℕ A) × (write a (s + 1) v.items ≡ (Ok tt, b)) × (taken y.end ≡ taken x.end ++ item.Chunk v ∷ [])).
      takes j lj (record { chunk = w.0; writes = w.1; inlets = taken_more xs (8 * s + j) x y (item.Chunk w.0) at held w.2; outlets = refl }))
      (λ (w : ClosesIf last a (s + 1) b × (taken y.end ≡ taken x.end ++ item.End ∷ [])).
      let new = taken_more xs (8 * s + j) x y item.End at held w.1 in
      let P : List (Inlet A) → Type 0 = λ zs. (NoneWrites zs s × (close a (s + 1) ≡ (Ok tt, b))) ⊎ (SomeWrites zs s × (b ≡ a)) in
      ends j lj (record { inlets = new; closes = subst P (sym new) (closing last (map inlet_of xs) s j a b (omega arith) others w.0); outlets = refl }))
      h)
  took Nothing last s j a b xs x y ys ls lj wide wide_too at held others h = still a b _ _ ys ys h.0 (taken_same xs (8 * s + j) x y at held h.1) refl
  took Stuck last s j a b xs x y ys ls lj wide wide_too at held others h = still a b _ _ ys ys h.0 (taken_same xs (8 * s + j) x y at held h.1) refl
  took NoMemory last s j a b xs x y ys ls lj wide wide_too at held others h = still a b _ _ ys ys h.0 (taken_same xs (8 * s + j) x y at held h.1) refl

  pub gave : (p : Pumped) (s : ℕ) (a b : EndState) (xs : List (Inlet A)) (ys : List (ReadRing A)) (x y : ReadRing A) → s < 64 → slice_get ys s ≡ Some x → y.held ≡ x.held → AfterGive (s + 1) a (put_in x.end) p b (put_in y.end)
      → Flows (flow a xs (map outlet_of ys)) (flow b xs (map outlet_of (slice_set ys s y)))
  gave Moved s a b xs ys x y ls at held h =
      let f = flow a xs (map outlet_of ys) in
      let g = flow b xs (map outlet_of (slice_set ys s y)) in
      let was : outlet_at (map outlet_of ys) s ≡ outlet_of x = at_map outlet_of ys s x no_outlet at in
      flows_more f f g s ls (flows_none f) (gives (record { delivery = h.0; goes_on = ap (λ (z : Outlet A). has_last z.put) was ∙ h.1; reads = h.2; inlets = refl; outlets = put_more ys s x y h.0 at held h.3 }))
  gave Nothing s a b xs ys x y ls at held h =
      let f = flow a xs (map outlet_of ys) in
      let g = flow b xs (map outlet_of (slice_set ys s y)) in
      flows_more f f g s ls (flows_none f) (gives_none (record { reads = h.0; inlets = refl; outlets = put_same ys s x y at held h.1 }))
  gave Stuck s a b xs ys x y ls at held h = still a b xs xs _ _ h.0 refl (put_same ys s x y at held h.1)
  gave NoMemory s a b xs ys x y ls at held h = still a b xs xs _ _ h.0 refl (put_same ys s x y at held h.1)
