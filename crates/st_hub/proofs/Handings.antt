-- What handing out ends of rings leaves.
use Rattle.std.proofs.Common.{◌≡◌, ◌≢◌, ℕ, ◌+◌, ◌*◌, ◌<◌, Bool, true, false, not, List, [], map, length, Option, None, Some, slice_get, is_some, refl, sym, ap, subst, ◌∙◌, arith, inl, inr, length-set}
use Rattle.std.specs.Prelude.{slice_set, IsSome, IfSome, ◌↔◌}
use Rattle.std.proofs.lemmas.List.{map-set}
use Rattle.std.proofs.lemmas.Bool.{cases_eq}
use Rattle.st_streams.proofs.SlotLemmas.{set_or, set_here, set_there, slot_here, slot_apart}
use Rattle.st_sender.specs.Sending.{outgoing_at, new_outgoing}
use Rattle.st_receiver.specs.Streams.{incoming_at}
use Rattle.st_queues.specs.Names.{RingId}
use Rattle.st_queues.specs.Writing.{Written}
use Rattle.st_queues.specs.Reading.{Read}
use Rattle.st_queues.specs.WriteEnds.{taken}
use Rattle.st_queues.specs.ReadEnds.{put_in}
use Rattle.st_queues.specs.declared.items.Over.TheVariants.{Open}
use Rattle.st_queues.specs.declared.lanes.WriteRing.{WriteRing}
use Rattle.st_queues.specs.declared.lanes.ReadRing.{ReadRing}
use Rattle.st_end.specs.State.{EndState}
use Rattle.st_end.specs.Calls.{has_stream}
use Rattle.st_hub.specs.Flow.{Flow, Inlet, Outlet, no_inlet, no_outlet, inlet_at, outlet_at, writer_out, reader_out, AllTied}
use Rattle.st_hub.specs.Handing.{IsKnown, IsFreshWriter, IsFreshReader, IsPaired, AllPaired}
use Rattle.st_hub.specs.Keeping.{Keeps}
use Rattle.st_hub.specs.Inside.{inlet_of, outlet_of, IsLane, IsReadLane, AllLanes, AllReadLanes, IsSound}
use Rattle.st_hub.proofs.Lists.{at_map}
use Rattle.st_hub.proofs.Ties.{tied_same}
use Rattle.st_hub.proofs.SentKeeping.{out_same}
use Rattle.st_hub.proofs.EndEvents.{Opened}

is_there : {X : Type 0} (o : Option X) → IsSome o → not (is_some o) ≡ false
is_there None h = absurd (cc)
is_there (Some x) h = refl

held_by : (o : Bool) (n : Bool) → n ≡ false → (o ≡ true → n ≡ true) → o ≡ false
held_by true n off f = absurd (let e : n ≡ true = f refl in cc)
held_by false n off f = refl

-- the other streams are open if they were
pub opened_others : (e b : EndState) (k : ℕ) → Opened e b k → (j : ℕ) → j ≢ k → IsKnown b j → IsKnown e j
opened_others e b k o j ne at =
    elim (subst (λ (z : EndState). IsKnown z j) o.after at) [
      | inl on ↦ inl (sym (ap is_some (slot_apart e.sending.streams k new_outgoing j ne)) ∙ on)
      | inr on ↦ inr (sym (ap is_some (slot_apart e.receiving.streams k (incoming_at e.receiving k) j ne)) ∙ on)
    ]

-- a stream that opened is open
pub opened_on : (e b : EndState) (k : ℕ) → Opened e b k → length e.sending.streams ≡ 65 → k < 65 → has_stream b k ≡ true
opened_on e b k o width small =
    ap (λ (z : EndState). is_some (outgoing_at z.sending k)) o.after ∙ ap is_some (slot_here e.sending.streams k new_outgoing (omega arith))

module _ {A : Type 0} where
  pub handed_lane : (ring : ℕ → RingId A) (k : ℕ) (x y : WriteRing A) → IsLane ring k x → y.held ≡ None → y.end ≡ x.end → y.over ≡ x.over → IsLane ring k y
  handed_lane ring k x y l h e o =
      let z : WriteRing A = record { end = x.end; held = None; over = x.over } in
      let is : y ≡ z = λ i. record { end = e i; held = h i; over = o i } in
      subst (IsLane ring k) (sym is) (record { number = l.number; ours = (l.ours.0, l.ours.1, tt); over = l.over })

  pub handed_read_lane : (ring : ℕ → RingId A) (k : ℕ) (x y : ReadRing A) → IsReadLane ring k x → y.held ≡ None → y.end ≡ x.end → y.over ≡ x.over → IsReadLane ring k y
  handed_read_lane ring k x y l h e o =
      let z : ReadRing A = record { end = x.end; held = None; over = x.over } in
      let is : y ≡ z = λ i. record { end = e i; held = h i; over = o i } in
      subst (IsReadLane ring k) (sym is) (record { number = l.number; ours = (l.ours.0, l.ours.1, tt); over = l.over })

  pub handed_out : (xs : List (WriteRing A)) (r : ℕ) (x y : WriteRing A) → slice_get xs r ≡ Some x → y.held ≡ None → y.end ≡ x.end → map inlet_of (slice_set xs r y) ≡ writer_out (map inlet_of xs) r
  handed_out xs r x y at h e =
      let was : inlet_at (map inlet_of xs) r ≡ inlet_of x = at_map inlet_of xs r x no_inlet at in
      let t : taken y.end ≡ (inlet_at (map inlet_of xs) r).taken = ap taken e ∙ ap (λ (z : Inlet A). z.taken) (sym was) in
      let o : not (is_some y.held) ≡ true = ap (λ z. not (is_some z)) h in
      map-set inlet_of xs r y ∙ ap (λ z. slice_set (map inlet_of xs) r z) (λ i. record { taken = t i; out = o i })

  pub handed_reader : (xs : List (ReadRing A)) (s : ℕ) (x y : ReadRing A) → slice_get xs s ≡ Some x → y.held ≡ None → y.end ≡ x.end → map outlet_of (slice_set xs s y) ≡ reader_out (map outlet_of xs) s
  handed_reader xs s x y at h e =
      let was : outlet_at (map outlet_of xs) s ≡ outlet_of x = at_map outlet_of xs s x no_outlet at in
      let t : put_in y.end ≡ (outlet_at (map outlet_of xs) s).put = ap put_in e ∙ ap (λ (z : Outlet A). z.put) (sym was) in
      let o : not (is_some y.held) ≡ true = ap (λ z. not (is_some z)) h in
      map-set outlet_of xs s y ∙ ap (λ z. slice_set (map outlet_of xs) s z) (λ i. record { put = t i; out = o i })

  pub found_writer : (o : Option (Written A)) (r : ℕ) (xs : List (WriteRing A)) (x : WriteRing A) → slice_get xs r ≡ Some x → x.end.ring ≡ r → (IsSome o ↔ IsSome x.held)
      → IfSome o (λ w. (w.ring ≡ x.end.ring) × (w.items ≡ []) × (w.free ≡ 64) × (w.ended ≡ false)) → IfSome o (λ w. IsFreshWriter r w × ((inlet_at (map inlet_of xs) r).out ≡ false))
  found_writer None r xs x at is f h = tt
  found_writer (Some w) r xs x at is f h =
      ((h.0 ∙ is, h.1, h.2, h.3), ap (λ (z : Inlet A). z.out) (at_map inlet_of xs r x no_inlet at) ∙ is_there x.held (f.0 refl))

  pub found_reader : (o : Option (Read A)) (s : ℕ) (xs : List (ReadRing A)) (x : ReadRing A) → slice_get xs s ≡ Some x → x.end.stream ≡ s → (IsSome o ↔ IsSome x.held)
      → IfSome o (λ w. (w.stream ≡ x.end.stream) × (w.items ≡ []) × (w.known ≡ []) × (w.over ≡ Open)) → IfSome o (λ w. IsFreshReader s w × ((outlet_at (map outlet_of xs) s).out ≡ false))
  found_reader None s xs x at is f h = tt
  found_reader (Some w) s xs x at is f h =
      ((h.0 ∙ is, h.1, h.2, h.3), ap (λ (z : Outlet A). z.out) (at_map outlet_of xs s x no_outlet at) ∙ is_there x.held (f.0 refl))

  -- ---- the tie and the pairs

  writer_taken : (xs : List (Inlet A)) (r q : ℕ) → (inlet_at (writer_out xs r) q).taken ≡ (inlet_at xs q).taken
  writer_taken xs r q =
      elim (set_or xs r (record (inlet_at xs r) { out = true }) no_inlet q) [
        | inl h ↦ rw h.0 (ap (λ (y : Inlet A). y.taken) h.1)
        | inr h ↦ ap (λ (y : Inlet A). y.taken) h
      ]

  reader_put : (xs : List (Outlet A)) (s q : ℕ) → (outlet_at (reader_out xs s) q).put ≡ (outlet_at xs q).put
  reader_put xs s q =
      elim (set_or xs s (record (outlet_at xs s) { out = true }) no_outlet q) [
        | inl h ↦ rw h.0 (ap (λ (y : Outlet A). y.put) h.1)
        | inr h ↦ ap (λ (y : Outlet A). y.put) h
      ]

  -- the first writer of a stream and its reader are handed out, if the stream is open by now
  ends_tied : (a b : EndState) (xs : List (Inlet A)) (ys : List (Outlet A)) (s : ℕ) → Keeps 0 a b → AllTied (record { core = a; inlets = xs; outlets = ys }) → AllTied (record { core = b; inlets = writer_out xs (8 * s); outlets = reader_out ys s })
  ends_tied a b xs ys s k t = record {
    inlets = length-set xs (8 * s) _ ∙ t.inlets;
    outlets = length-set ys s _ ∙ t.outlets;
    each = λ p l. let was = t.each p l in (
      was.0,
      tied_same (record { core = a; inlets = xs; outlets = ys }) (record { core = b; inlets = writer_out xs (8 * s); outlets = reader_out ys s }) p was.0
          (λ j lj. writer_taken xs (8 * s) (8 * p + j)) (reader_put ys s p) (k.sent.each (p + 1)) (k.read.each (p + 1)) was.1,
    );
  }

  ends_paired : (a b : EndState) (xs : List (Inlet A)) (ys : List (Outlet A)) (s : ℕ) → s < 64 → length xs ≡ 512 → length ys ≡ 64 → Keeps 0 a b → ((j : ℕ) → j ≢ s + 1 → IsKnown b j → IsKnown a j) → has_stream b (s + 1) ≡ true → AllPaired (record { core = a; inlets = xs; outlets = ys })
      → AllPaired (record { core = b; inlets = writer_out xs (8 * s); outlets = reader_out ys s })
  ends_paired a b xs ys s ls wi wo k others opened p t lt =
      let w : Inlet A = record (inlet_at xs (8 * s)) { out = true } in
      let r : Outlet A = record (outlet_at ys s) { out = true } in
      let f : Flow A = record { core = b; inlets = writer_out xs (8 * s); outlets = reader_out ys s } in
      elim (cases_eq t s) [
        | inl same ↦ subst (IsPaired f) (sym same) (record {
          both = ap (λ (y : Inlet A). y.out) (set_here xs (8 * s) w no_inlet (omega arith)) ∙ sym (ap (λ (y : Outlet A). y.out) (set_here ys s r no_outlet (omega arith)));
          is_open = λ e. opened;
          own = λ e at. ap (λ (y : Outlet A). y.out) (set_here ys s r no_outlet (omega arith));
        })
        | inr ne ↦
            let was = p t lt in
            let far : 8 * t ≢ 8 * s = λ e. ne (omega arith) in
            let x : (inlet_at (writer_out xs (8 * s)) (8 * t)).out ≡ (inlet_at xs (8 * t)).out = ap (λ (y : Inlet A). y.out) (set_there xs (8 * s) w no_inlet (8 * t) far) in
            let y : (outlet_at (reader_out ys s) t).out ≡ (outlet_at ys t).out = ap (λ (y : Outlet A). y.out) (set_there ys s r no_outlet t ne) in
            let apart : t + 1 ≢ s + 1 = λ e. ne (omega arith) in
            record {
              both = x ∙ was.both ∙ sym y;
              is_open = λ e. (k.sent.each (t + 1)).is_open (was.is_open (sym y ∙ e));
              own = λ e at. y ∙ was.own (e ∙ k.read.parity) (others (t + 1) apart at);
            }
      ]

  pub ends_sound : (w r : ℕ → RingId A) (a b : EndState) (xs us : List (WriteRing A)) (ys vs : List (ReadRing A)) (s : ℕ) → s < 64 → Keeps 0 a b → ((j : ℕ) → j ≢ s + 1 → IsKnown b j → IsKnown a j) → has_stream b (s + 1) ≡ true
      → AllLanes w us → AllReadLanes r vs → map inlet_of us ≡ writer_out (map inlet_of xs) (8 * s) → map outlet_of vs ≡ reader_out (map outlet_of ys) s → IsSound w r a xs ys → IsSound w r b us vs
  ends_sound w r a b xs us ys vs s ls k others opened lanes reads is os sound =
      let P : List (Inlet A) × List (Outlet A) → Type 0 = λ z. AllTied (record { core = b; inlets = z.0; outlets = z.1 }) × AllPaired (record { core = b; inlets = z.0; outlets = z.1 }) in
      let here = subst P (λ i. (sym is i, sym os i)) (
        ends_tied a b (map inlet_of xs) (map outlet_of ys) s k sound.tied,
        ends_paired a b (map inlet_of xs) (map outlet_of ys) s ls sound.tied.inlets sound.tied.outlets k others opened sound.paired,
      ) in
      record { lanes = lanes; read_lanes = reads; tied = here.0; paired = here.1; parity = omega (arith, k.read.parity, sound.parity); width = k.sent.width ∙ sound.width }

  -- the ends of a stream that is not open are still here
  pub closed_held : (f : Flow A) (s : ℕ) → IsPaired f s → outgoing_at f.core.sending (s + 1) ≡ None → ((inlet_at f.inlets (8 * s)).out ≡ false) × ((outlet_at f.outlets s).out ≡ false)
  closed_held f s p none =
      let off : has_stream f.core (s + 1) ≡ false = ap is_some none in
      let o = held_by (outlet_at f.outlets s).out (has_stream f.core (s + 1)) off p.is_open in
      (p.both ∙ o, o)

  -- a further writer is handed out, which is not the first
  further_tied : (e : EndState) (xs : List (Inlet A)) (ys : List (Outlet A)) (r : ℕ) → AllTied (record { core = e; inlets = xs; outlets = ys }) → AllTied (record { core = e; inlets = writer_out xs r; outlets = ys })
  further_tied e xs ys r t = record {
    inlets = length-set xs r _ ∙ t.inlets;
    outlets = t.outlets;
    each = λ p l. let was = t.each p l in (
      was.0,
      tied_same (record { core = e; inlets = xs; outlets = ys }) (record { core = e; inlets = writer_out xs r; outlets = ys }) p was.0
          (λ j lj. writer_taken xs r (8 * p + j)) refl (out_same (outgoing_at e.sending (p + 1))) refl was.1,
    );
  }

  further_paired : (e : EndState) (xs : List (Inlet A)) (ys : List (Outlet A)) (s j : ℕ) → 0 < j → j < 8 → AllPaired (record { core = e; inlets = xs; outlets = ys }) → AllPaired (record { core = e; inlets = writer_out xs (8 * s + j); outlets = ys })
  further_paired e xs ys s j above below p t lt =
      let was = p t lt in
      let far : 8 * t ≢ 8 * s + j = λ same. absurd (omega arith) in
      let x : (inlet_at (writer_out xs (8 * s + j)) (8 * t)).out ≡ (inlet_at xs (8 * t)).out = ap (λ (y : Inlet A). y.out) (set_there xs (8 * s + j) (record (inlet_at xs (8 * s + j)) { out = true }) no_inlet (8 * t) far) in
      record { both = x ∙ was.both; is_open = was.is_open; own = was.own }

  pub further_sound : (w r : ℕ → RingId A) (e : EndState) (xs us : List (WriteRing A)) (ys : List (ReadRing A)) (s j : ℕ) → 0 < j → j < 8 → AllLanes w us → map inlet_of us ≡ writer_out (map inlet_of xs) (8 * s + j) → IsSound w r e xs ys → IsSound w r e us ys
  further_sound w r e xs us ys s j above below lanes is sound =
      let P : List (Inlet A) → Type 0 = λ z. AllTied (record { core = e; inlets = z; outlets = map outlet_of ys }) × AllPaired (record { core = e; inlets = z; outlets = map outlet_of ys }) in
      let here = subst P (sym is) (further_tied e (map inlet_of xs) (map outlet_of ys) (8 * s + j) sound.tied, further_paired e (map inlet_of xs) (map outlet_of ys) s j above below sound.paired) in
      record { lanes = lanes; read_lanes = sound.read_lanes; tied = here.0; paired = here.1; parity = sound.parity; width = sound.width }
