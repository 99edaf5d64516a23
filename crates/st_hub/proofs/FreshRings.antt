-- A hub over rings that nobody used.
use Rattle.std.proofs.Common.{◌≡◌, ℕ, zero, suc, ◌+◌, ◌*◌, ◌<◌, false, not, inl, inr, List, [], ◌∷◌, map, length, replicate, Option, None, Some, slice_get, is_some, refl, sym, ap, subst, ◌∙◌, arith}
use Rattle.std.specs.Prelude.{IsSome, slice_index_or, sum}
use Rattle.std.proofs.lemmas.List.Sums.{sum_by-cons}
use Rattle.std.specs.Ordering.{nat_cmp}
use Rattle.std.specs.FinMap as fmap
use Rattle.std.proofs.lemmas.List.{length-map}
use Rattle.st_streams.specs.Slots.{slot}
use Rattle.st_sender.specs.Sending.{Outgoing, outgoing_at}
use Rattle.st_sender.specs.Refusals.{all_accepted}
use Rattle.st_receiver.specs.Streams.{delivered_of, all_delivered}
use Rattle.st_receiver.specs.Limits.{capped}
use Rattle.st_queues.specs.Watching.{no_totals}
use Rattle.st_queues.specs.Items.{delivered}
use Rattle.st_queues.specs.Names.{RingId}
use Rattle.st_queues.specs.Lanes.{Fresh, FreshRead, AllNamed, AllNamedReads}
use Rattle.st_queues.specs.declared.lanes.WriteRing.{WriteRing}
use Rattle.st_queues.specs.declared.lanes.ReadRing.{ReadRing}
use Rattle.st_end.specs.State.{EndState}
use Rattle.st_hub.specs.Flow.{Flow, Inlet, Outlet, no_inlet, no_outlet, inlet_at, outlet_at, rings_of, has_end, has_last, IsSent, TiedBy}
use Rattle.st_hub.specs.Handing.{IsKnown}
use Rattle.st_hub.specs.Hub.{IsNew}
use Rattle.st_end.specs.Totals.{totals}
use Rattle.st_hub.specs.Trying.{known_at, room_at}
use Rattle.st_hub.specs.Inside.{inlet_of, outlet_of, known_of, room_of, flow_of, IsSound}
use Rattle.st_hub.proofs.Merges.{merge_none}

no_value : {A : Type 0} (n k : ℕ) → slice_index_or {A = Option A} (replicate n None) k None ≡ None
no_value zero k = refl
no_value (suc n) zero = refl
no_value (suc n) (suc k) = no_value n k

is_here : {X : Type 0} (o : Option X) → IsSome o → not (is_some o) ≡ false
is_here None h = absurd (cc)
is_here (Some x) h = refl

sent_none : IsSent [] None
sent_none = record { accepted = refl; kept = λ q b e. absurd (let none : fmap.get {X = ℕ} {R = nat_cmp} fmap.empty q ≡ None = fmap.get-empty nat_cmp q in cc) }

none_known : (e : EndState) (s : ℕ) → IsNew e → ¬ (IsKnown e (s + 1))
none_known e s new at =
    let out : outgoing_at e.sending (s + 1) ≡ None = ap (λ xs. slot xs (s + 1)) new.sent ∙ no_value 65 (s + 1) in
    let inn : slot e.receiving.streams (s + 1) ≡ None = ap (λ xs. slot xs (s + 1)) new.received ∙ no_value 65 (s + 1) in
    elim at [
      | inl on ↦ absurd (let off : is_some (outgoing_at e.sending (s + 1)) ≡ false = ap is_some out in cc)
      | inr on ↦ absurd (let off : is_some (slot e.receiving.streams (s + 1)) ≡ false = ap is_some inn in cc)
    ]

module _ {A : Type 0} where
  pub fresh_inlet : (xs : List (WriteRing A)) (n : ℕ) → ((k : ℕ) (x : WriteRing A) → slice_get xs k ≡ Some x → Fresh (n + k) x) → (r : ℕ) → inlet_at (map inlet_of xs) r ≡ no_inlet
  fresh_inlet [] n h r = refl
  fresh_inlet (x ∷ xs) n h zero = let f = h 0 x refl in λ i. record { taken = f.1 i; out = is_here x.held f.3 i }
  fresh_inlet (x ∷ xs) n h (suc r) = fresh_inlet xs (n + 1) (λ k y e. let s : n + suc k ≡ n + 1 + k = omega arith in subst (λ m. Fresh m y) s (h (suc k) y e)) r

  pub fresh_outlet : (xs : List (ReadRing A)) (n : ℕ) → ((k : ℕ) (x : ReadRing A) → slice_get xs k ≡ Some x → FreshRead (n + k) x) → (s : ℕ) → outlet_at (map outlet_of xs) s ≡ no_outlet
  fresh_outlet [] n h s = refl
  fresh_outlet (x ∷ xs) n h zero = let f = h 0 x refl in λ i. record { put = f.1 i; out = is_here x.held f.3 i }
  fresh_outlet (x ∷ xs) n h (suc s) = fresh_outlet xs (n + 1) (λ k y e. let m : n + suc k ≡ n + 1 + k = omega arith in subst (λ m. FreshRead m y) m (h (suc k) y e)) s

  pub all_fresh_inlets : (ring : ℕ → RingId A) (xs : List (WriteRing A)) → AllNamed ring xs → (r : ℕ) → inlet_at (map inlet_of xs) r ≡ no_inlet
  all_fresh_inlets ring xs h r = fresh_inlet xs 0 (λ k x e. let s : 0 + k ≡ k = omega arith in subst (λ m. Fresh m x) (sym s) (h k x e).0) r

  pub all_fresh_outlets : (ring : ℕ → RingId A) (xs : List (ReadRing A)) → AllNamedReads ring xs → (s : ℕ) → outlet_at (map outlet_of xs) s ≡ no_outlet
  all_fresh_outlets ring xs h s = fresh_outlet xs 0 (λ k x e. let m : 0 + k ≡ k = omega arith in subst (λ m. FreshRead m x) (sym m) (h k x e).0) s

  fresh_known : (xs : List (WriteRing A)) (n : ℕ) → ((k : ℕ) (x : WriteRing A) → slice_get xs k ≡ Some x → Fresh (n + k) x) → (r : ℕ) → known_at (map known_of xs) r ≡ []
  fresh_known [] n h r = refl
  fresh_known (x ∷ xs) n h zero = (h 0 x refl).2
  fresh_known (x ∷ xs) n h (suc r) = fresh_known xs (n + 1) (λ k y e. let s : n + suc k ≡ n + 1 + k = omega arith in subst (λ m. Fresh m y) s (h (suc k) y e)) r

  fresh_room : (xs : List (ReadRing A)) (n : ℕ) → ((k : ℕ) (x : ReadRing A) → slice_get xs k ≡ Some x → FreshRead (n + k) x) → (s : ℕ) → s < length xs → room_at (map room_of xs) s ≡ 64
  fresh_room [] n h s less = absurd (omega (arith, less))
  fresh_room (x ∷ xs) n h zero less = (h 0 x refl).2
  fresh_room (x ∷ xs) n h (suc s) less = fresh_room xs (n + 1) (λ k y e. let m : n + suc k ≡ n + 1 + k = omega arith in subst (λ m. FreshRead m y) m (h (suc k) y e)) s (omega (arith, less))

  pub all_fresh_known : (ring : ℕ → RingId A) (xs : List (WriteRing A)) → AllNamed ring xs → (r : ℕ) → known_at (map known_of xs) r ≡ []
  all_fresh_known ring xs h r = fresh_known xs 0 (λ k x e. let s : 0 + k ≡ k = omega arith in subst (λ m. Fresh m x) (sym s) (h k x e).0) r

  pub all_fresh_room : (ring : ℕ → RingId A) (xs : List (ReadRing A)) → length xs ≡ 64 → AllNamedReads ring xs → (s : ℕ) → s < 64 → room_at (map room_of xs) s ≡ 64
  all_fresh_room ring xs wide h s less = fresh_room xs 0 (λ k x e. let m : 0 + k ≡ k = omega arith in subst (λ m. FreshRead m x) (sym m) (h k x e).0) s (omega (arith, wide, less))

  fresh_tied : (f : Flow A) (s : ℕ) → IsNew f.core → ((r : ℕ) → inlet_at f.inlets r ≡ no_inlet) → ((t : ℕ) → outlet_at f.outlets t ≡ no_outlet) → TiedBy f s []
  fresh_tied f s new ins outs =
      let out : outgoing_at f.core.sending (s + 1) ≡ None = ap (λ xs. slot xs (s + 1)) new.sent ∙ no_value 65 (s + 1) in
      let inn : slot f.core.receiving.streams (s + 1) ≡ None = ap (λ xs. slot xs (s + 1)) new.received ∙ no_value 65 (s + 1) in
      record {
        merge = merge_none (rings_of f.inlets s) (λ j. ap (λ (x : Inlet A). x.taken) (ins (8 * s + j)));
        sent = let P : Option Outgoing → Type 0 = IsSent [] in subst P (sym out) sent_none;
        read = ap delivered_of inn ∙ sym (ap (λ (x : Outlet A). length (delivered x.put)) (outs s));
      }

  pub fresh_sound : (w r : ℕ → RingId A) (e : EndState) (xs : List (WriteRing A)) (ys : List (ReadRing A)) → IsNew e → length xs ≡ 512 → AllNamed w xs → length ys ≡ 64 → AllNamedReads r ys → IsSound w r e xs ys
  fresh_sound w r e xs ys new wi ws wo rs =
      let f = flow_of e xs ys in
      let ins = all_fresh_inlets w xs ws in
      let outs = all_fresh_outlets r ys rs in
      record {
        lanes = (wi, λ k x at. let n = ws k x at in record { number = n.0.0; ours = n.1; over = n.0.5 ∙ sym (ap has_end n.0.1) });
        read_lanes = (wo, λ k x at. let n = rs k x at in record { number = n.0.0; ours = n.1; over = n.0.5 ∙ sym (ap has_last n.0.1) });
        tied = record {
          inlets = length-map xs inlet_of ∙ wi;
          outlets = length-map ys outlet_of ∙ wo;
          each = λ s l. ([], fresh_tied f s new ins outs);
        };
        paired = λ s l. record {
          both = ap (λ (x : Inlet A). x.out) (ins (8 * s)) ∙ sym (ap (λ (x : Outlet A). x.out) (outs s));
          is_open = λ on. absurd (let off : (outlet_at f.outlets s).out ≡ false = ap (λ (x : Outlet A). x.out) (outs s) in cc);
          own = λ mine at. absurd (none_known e s new at);
        };
        parity = new.parity;
        width = ap length new.sent;
      }

-- ---- totals of a new end

none_accepted : (n : ℕ) → all_accepted (replicate n None) ≡ 0
none_accepted zero = refl
none_accepted (suc n) = let h = none_accepted n in omega arith

none_delivered : (n : ℕ) → sum (map delivered_of (replicate n None)) ≡ 0
none_delivered zero = refl
none_delivered (suc n) = let h = none_delivered n in let s = sum_by-cons (λ m. m) 0 (map delivered_of (replicate n None)) in omega arith

pub shown_new : (e : EndState) → IsNew e → totals e ≡ no_totals
shown_new e new =
    let a : all_accepted e.sending.streams ≡ 0 = ap all_accepted new.sent ∙ none_accepted 65 in
    let d : all_delivered e.receiving ≡ 0 = ap (λ xs. sum (map delivered_of xs)) new.received ∙ none_delivered 65 in
    λ i. record { accepted = capped (a i); delivered = capped (d i); credited = new.credit i; paid = capped (new.paid i) }
