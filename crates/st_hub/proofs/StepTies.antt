-- Each step of a pump keeps the tie of the end and its rings.
use Rattle.std.proofs.Common.{◌≡◌, ◌≢◌, ℕ, zero, suc, ◌+◌, ◌*◌, ◌<◌, List, [], ◌∷◌, ◌++◌, map, length, refl, sym, ap, subst, ◌∙◌, arith, Ok, inl, inr, append_assoc, length-append, length-set}
use Rattle.std.proofs.lemmas.Bool.{cases_eq}
use Rattle.std.proofs.lemmas.List.{append-nil}
use Rattle.st_streams.specs.Slots.{slot}
use Rattle.st_streams.proofs.SlotLemmas.{set_or, set_here, set_there}
use Rattle.st_sender.specs.Sending.{outgoing_at}
use Rattle.st_receiver.specs.Streams.{delivered_of}
use Rattle.st_receiver.specs.Reading as reading
use Rattle.st_queues.specs.Items.{joined, delivered}
use Rattle.st_queues.specs.declared.items.Item.{Item}
use Rattle.st_queues.specs.declared.items.Item.TheVariants as kind
use Rattle.st_queues.specs.declared.items.Delivery.{Delivery}
use Rattle.st_queues.specs.declared.items.Delivery.TheVariants as told
use Rattle.st_hub.specs.Merge.{Took, item}
use Rattle.st_hub.specs.Flow.{Flow, Inlet, Outlet, no_inlet, no_outlet, inlet_at, outlet_at, rings_of, with_item, with_delivery, IsSent, TiedBy, AllTied}
use Rattle.st_hub.specs.Handing.{AllPaired}
use Rattle.st_hub.specs.Steps.{read_limit, got_of, Takes, Ends, Gives, GivesNone, StepAt, takes, ends, gives, gives_none, Steps, Flows, Continues}
use Rattle.st_hub.specs.Keeping.{KeepsOut, Keeps, OpensNoOwn, Rises}
use Rattle.st_hub.proofs.Merges.{merge_same, merge_more, joined_more}
use Rattle.st_hub.proofs.Ties.{sent_keeps, tied_same}
use Rattle.st_hub.proofs.SentKeeping.{out_same}
use Rattle.st_hub.proofs.EndEvents.{keeps_same, close_keeps}
use Rattle.st_hub.proofs.Totals.{keeps_rises, rises_same, rises_join}
use Rattle.st_hub.proofs.Opening.{same_opens, write_opens, close_opens, read_opens}
use Rattle.st_hub.proofs.CoreSteps.{write_is, bytes_of, read_is}

-- rings of different streams, and different rings of a stream, have different numbers
apart_streams : (s t i j : ℕ) → i < 8 → j < 8 → t ≢ s → 8 * t + i ≢ 8 * s + j
apart_streams s t i j li lj ne e = ne (omega arith)

apart_writers : (s i j : ℕ) → j ≢ i → 8 * s + i ≢ 8 * s + j
apart_writers s i j ne e = ne (omega arith)

numbers_apart : (s t : ℕ) → t ≢ s → t + 1 ≢ s + 1
numbers_apart s t ne e = ne (omega arith)

module _ {A : Type 0} where
  item_here : (xs : List (Inlet A)) (r : ℕ) (x : Item A) → r < length xs → (inlet_at (with_item xs r x) r).taken ≡ (inlet_at xs r).taken ++ x ∷ []
  item_here xs r x room = ap (λ (y : Inlet A). y.taken) (set_here xs r (record (inlet_at xs r) { taken = (inlet_at xs r).taken ++ x ∷ [] }) no_inlet room)

  item_there : (xs : List (Inlet A)) (r : ℕ) (x : Item A) (q : ℕ) → q ≢ r → inlet_at (with_item xs r x) q ≡ inlet_at xs q
  item_there xs r x q ne = set_there xs r (record (inlet_at xs r) { taken = (inlet_at xs r).taken ++ x ∷ [] }) no_inlet q ne

  pub item_out : (xs : List (Inlet A)) (r : ℕ) (x : Item A) (q : ℕ) → (inlet_at (with_item xs r x) q).out ≡ (inlet_at xs q).out
  item_out xs r x q =
      elim (set_or xs r (record (inlet_at xs r) { taken = (inlet_at xs r).taken ++ x ∷ [] }) no_inlet q) [
        | inl h ↦ rw h.0 (ap (λ (y : Inlet A). y.out) h.1)
        | inr h ↦ ap (λ (y : Inlet A). y.out) h
      ]

  put_here : (xs : List (Outlet A)) (s : ℕ) (x : Delivery A) → s < length xs → (outlet_at (with_delivery xs s x) s).put ≡ (outlet_at xs s).put ++ x ∷ []
  put_here xs s x room = ap (λ (y : Outlet A). y.put) (set_here xs s (record (outlet_at xs s) { put = (outlet_at xs s).put ++ x ∷ [] }) no_outlet room)

  put_there : (xs : List (Outlet A)) (s : ℕ) (x : Delivery A) (t : ℕ) → t ≢ s → outlet_at (with_delivery xs s x) t ≡ outlet_at xs t
  put_there xs s x t ne = set_there xs s (record (outlet_at xs s) { put = (outlet_at xs s).put ++ x ∷ [] }) no_outlet t ne

  pub put_out : (xs : List (Outlet A)) (s : ℕ) (x : Delivery A) (t : ℕ) → (outlet_at (with_delivery xs s x) t).out ≡ (outlet_at xs t).out
  put_out xs s x t =
      elim (set_or xs s (record (outlet_at xs s) { put = (outlet_at xs s).put ++ x ∷ [] }) no_outlet t) [
        | inl h ↦ rw h.0 (ap (λ (y : Outlet A). y.out) h.1)
        | inr h ↦ ap (λ (y : Outlet A). y.out) h
      ]

  -- the rings of a stream after an item of the writer j of the stream s was removed
  rings_there : (a b : Flow A) (s j t : ℕ) (x : Item A) → j < 8 → t ≢ s → b.inlets ≡ with_item a.inlets (8 * s + j) x → (i : ℕ) → i < 8 → rings_of b.inlets t i ≡ rings_of a.inlets t i
  rings_there a b s j t x lj ne is i li = ap (λ xs. rings_of xs t i) is ∙ ap (λ (y : Inlet A). y.taken) (item_there a.inlets (8 * s + j) x (8 * t + i) (apart_streams s t i j li lj ne))

  rings_here : (a b : Flow A) (s j : ℕ) (x : Item A) → 8 * s + j < length a.inlets → b.inlets ≡ with_item a.inlets (8 * s + j) x → rings_of b.inlets s j ≡ rings_of a.inlets s j ++ x ∷ []
  rings_here a b s j x room is = ap (λ xs. rings_of xs s j) is ∙ item_here a.inlets (8 * s + j) x room

  rings_beside : (a b : Flow A) (s j : ℕ) (x : Item A) → b.inlets ≡ with_item a.inlets (8 * s + j) x → (i : ℕ) → i < 8 → j ≢ i → rings_of b.inlets s i ≡ rings_of a.inlets s i
  rings_beside a b s j x is i li ne = ap (λ xs. rings_of xs s i) is ∙ ap (λ (y : Inlet A). y.taken) (item_there a.inlets (8 * s + j) x (8 * s + i) (apart_writers s i j ne))

  -- an item more of the stream s: what the end has of it, and what was read
  tied_more : (a b : Flow A) (s j : ℕ) (x : Item A) (log : List (Took A)) → j < 8 → 8 * s + j < length a.inlets → b.inlets ≡ with_item a.inlets (8 * s + j) x → b.outlets ≡ a.outlets
      → IsSent (joined (map item log) ++ joined (x ∷ [])) (outgoing_at b.core.sending (s + 1)) → delivered_of (slot b.core.receiving.streams (s + 1)) ≡ delivered_of (slot a.core.receiving.streams (s + 1))
      → TiedBy a s log → TiedBy b s (log ++ (j, x) ∷ [])
  tied_more a b s j x log lj room is outs sent read t = record {
    merge = merge_more log (rings_of a.inlets s) (rings_of b.inlets s) j x lj (rings_here a b s j x room is) (rings_beside a b s j x is) t.merge;
    sent = subst (λ l. IsSent l (outgoing_at b.core.sending (s + 1))) (sym (joined_more log j x)) sent;
    read = read ∙ t.read ∙ ap (λ os. length (delivered (outlet_at os s).put)) (sym outs);
  }

  -- a stream of which nothing is moved
  tied_on : (a b : Flow A) (t : ℕ) (log : List (Took A)) → TiedBy b t log → (more : List (Took A)) × TiedBy b t (log ++ more)
  tied_on a b t log h = ([], subst (TiedBy b t) (sym (append-nil log)) h)

  takes_continue : (a b : Flow A) (s j : ℕ) → s < 64 → j < 8 → length a.inlets ≡ 512 → Takes s j a b → (t : ℕ) (log : List (Took A)) → TiedBy a t log → (more : List (Took A)) × TiedBy b t (log ++ more)
  takes_continue a b s j ls lj wide h t log tie =
      let w = write_is a.core b.core (s + 1) h.chunk.items h.writes in
      let x = kind.Chunk h.chunk in
      let read : (k : ℕ) → delivered_of (slot b.core.receiving.streams k) ≡ delivered_of (slot a.core.receiving.streams k) = λ k. ap (λ r. delivered_of (slot r.streams k)) w.same in
      elim (cases_eq t s) [
        | inl same ↦ (
          (j, x) ∷ [],
          (let here : TiedBy a s log = subst (λ k. TiedBy a k log) same tie in
              let sent = subst (λ l. IsSent (joined (map item log) ++ l) (outgoing_at b.core.sending (s + 1))) (sym (append-nil h.chunk.items)) (w.here (joined (map item log)) here.sent) in
              subst (λ k. TiedBy b k (log ++ (j, x) ∷ [])) (sym same) (tied_more a b s j x log lj (omega arith) h.inlets h.outlets sent (read (s + 1)) here)),
        )
        | inr ne ↦ tied_on a b t log (tied_same a b t log (rings_there a b s j t x lj ne h.inlets) (ap (λ os. (outlet_at os t).put) h.outlets) (w.others (t + 1) (numbers_apart s t ne)) (read (t + 1)) tie)
      ]

  ends_keeps : (a b : Flow A) (s j : ℕ) → Ends s j a b → Keeps 0 a.core b.core
  ends_keeps a b s j h = elim h.closes [
    | inl c ↦ close_keeps a.core b.core (s + 1) (Ok tt) c.1
    | inr c ↦ subst (Keeps 0 a.core) (sym c.1) (keeps_same a.core)
  ]

  ends_open : (a b : Flow A) (s j : ℕ) → Ends s j a b → OpensNoOwn a.core b.core
  ends_open a b s j h = elim h.closes [
    | inl c ↦ close_opens a.core b.core (s + 1) (Ok tt) c.1
    | inr c ↦ subst (OpensNoOwn a.core) (sym c.1) (same_opens a.core)
  ]

  ends_continue : (a b : Flow A) (s j : ℕ) → s < 64 → j < 8 → length a.inlets ≡ 512 → Ends s j a b → (t : ℕ) (log : List (Took A)) → TiedBy a t log → (more : List (Took A)) × TiedBy b t (log ++ more)
  ends_continue a b s j ls lj wide h t log tie =
      let k = ends_keeps a b s j h in
      elim (cases_eq t s) [
        | inl same ↦ (
          (j, kind.End) ∷ [],
          (let here : TiedBy a s log = subst (λ k. TiedBy a k log) same tie in
              let sent = subst (λ l. IsSent l (outgoing_at b.core.sending (s + 1))) (sym (append-nil (joined (map item log)))) (sent_keeps (joined (map item log)) _ _ (k.sent.each (s + 1)) here.sent) in
              subst (λ k. TiedBy b k (log ++ (j, kind.End) ∷ [])) (sym same) (tied_more a b s j kind.End log lj (omega arith) h.inlets h.outlets sent (k.read.each (s + 1)) here)),
        )
        | inr ne ↦ tied_on a b t log (tied_same a b t log (rings_there a b s j t kind.End lj ne h.inlets) (ap (λ os. (outlet_at os t).put) h.outlets) (k.sent.each (t + 1)) (k.read.each (t + 1)) tie)
      ]

  delivered-append : (xs ys : List (Delivery A)) → delivered (xs ++ ys) ≡ delivered xs ++ delivered ys
  delivered-append [] ys = refl
  delivered-append (told.Bytes v ∷ xs) ys = ap (λ l. v.items ++ l) (delivered-append xs ys) ∙ sym (append_assoc v.items (delivered xs) (delivered ys))
  delivered-append (told.End ∷ xs) ys = delivered-append xs ys
  delivered-append (told.Aborted code ∷ xs) ys = delivered-append xs ys

  one_delivered : (d : Delivery A) → length (delivered (d ∷ [])) ≡ length (bytes_of (got_of d))
  one_delivered (told.Bytes v) = ap length (append-nil v.items)
  one_delivered told.End = refl
  one_delivered (told.Aborted code) = refl

  more_delivered : (xs : List (Delivery A)) (d : Delivery A) → length (delivered (xs ++ d ∷ [])) ≡ length (delivered xs) + length (bytes_of (got_of d))
  more_delivered xs d = ap length (delivered-append xs (d ∷ [])) ∙ length-append (delivered xs) (delivered (d ∷ [])) ∙ ap (λ n. length (delivered xs) + n) (one_delivered d)

  sent_on : (a b : Flow A) (k : ℕ) → b.core.sending ≡ a.core.sending → KeepsOut (outgoing_at a.core.sending k) (outgoing_at b.core.sending k)
  sent_on a b k same = subst (λ s. KeepsOut (outgoing_at a.core.sending k) (outgoing_at s k)) (sym same) (out_same (outgoing_at a.core.sending k))

  gives_continue : (a b : Flow A) (s : ℕ) → s < 64 → length a.outlets ≡ 64 → Gives s a b → (t : ℕ) (log : List (Took A)) → TiedBy a t log → (more : List (Took A)) × TiedBy b t (log ++ more)
  gives_continue a b s ls wide h t log tie =
      let r = read_is a.core b.core (s + 1) read_limit (got_of h.delivery) h.reads in
      let n = length (bytes_of (got_of h.delivery)) in
      let rings : (k i : ℕ) → i < 8 → rings_of b.inlets k i ≡ rings_of a.inlets k i = λ k i li. ap (λ xs. rings_of xs k i) h.inlets in
      tied_on a b t log (elim (cases_eq t s) [
        | inl same ↦
            let here : TiedBy a s log = subst (λ k. TiedBy a k log) same tie in
            let put : (outlet_at b.outlets s).put ≡ (outlet_at a.outlets s).put ++ h.delivery ∷ [] = ap (λ os. (outlet_at os s).put) h.outlets ∙ put_here a.outlets s h.delivery (omega arith) in
            subst (λ k. TiedBy b k log) (sym same) (record {
              merge = merge_same log (rings_of a.inlets s) (rings_of b.inlets s) (rings s) here.merge;
              sent = sent_keeps (joined (map item log)) _ _ (sent_on a b (s + 1) r.same) here.sent;
              read = r.here ∙ ap (λ m. m + n) here.read ∙ sym (more_delivered (outlet_at a.outlets s).put h.delivery) ∙ ap (λ l. length (delivered l)) (sym put);
            })
        | inr ne ↦ tied_same a b t log (rings t) (ap (λ os. (outlet_at os t).put) h.outlets ∙ ap (λ (y : Outlet A). y.put) (put_there a.outlets s h.delivery t ne)) (sent_on a b (t + 1) r.same) (r.others (t + 1) (numbers_apart s t ne)) tie
      ])

  none_continue : (a b : Flow A) (s : ℕ) → GivesNone s a b → (t : ℕ) (log : List (Took A)) → TiedBy a t log → (more : List (Took A)) × TiedBy b t (log ++ more)
  none_continue a b s h t log tie =
      let r = read_is a.core b.core (s + 1) read_limit reading.Nothing h.reads in
      let read : delivered_of (slot b.core.receiving.streams (t + 1)) ≡ delivered_of (slot a.core.receiving.streams (t + 1)) =
      elim (cases_eq (t + 1) (s + 1)) [
        | inl same ↦ rw same (omega (arith, r.here))
        | inr ne ↦ r.others (t + 1) ne
      ] in
      tied_on a b t log (tied_same a b t log (λ i li. ap (λ xs. rings_of xs t i) h.inlets) (ap (λ os. (outlet_at os t).put) h.outlets) (sent_on a b (t + 1) r.same) read tie)

  -- ---- all that a step keeps

  pub record Kept (a b : Flow A) : Type 0 where
    pub continues : Continues a b
    pub inlets : length b.inlets ≡ 512
    pub outlets : length b.outlets ≡ 64
    pub writers : (r : ℕ) → (inlet_at b.inlets r).out ≡ (inlet_at a.inlets r).out
    pub readers : (s : ℕ) → (outlet_at b.outlets s).out ≡ (outlet_at a.outlets s).out
    pub rises : Rises a.core b.core
    pub credit : b.core.receiving.credit ≡ a.core.receiving.credit
    pub opens : OpensNoOwn a.core b.core

  step_kept : (s : ℕ) (a b : Flow A) → s < 64 → length a.inlets ≡ 512 → length a.outlets ≡ 64 → StepAt s a b → Kept a b
  step_kept s a b ls wi wo (takes j lj h) =
      let w = write_is a.core b.core (s + 1) h.chunk.items h.writes in
      record {
        continues = λ t log lt tie. takes_continue a b s j ls lj wi h t log tie;
        inlets = ap length h.inlets ∙ length-set a.inlets (8 * s + j) _ ∙ wi;
        outlets = ap length h.outlets ∙ wo;
        writers = λ r. ap (λ xs. (inlet_at xs r).out) h.inlets ∙ item_out a.inlets (8 * s + j) (kind.Chunk h.chunk) r;
        readers = λ t. ap (λ os. (outlet_at os t).out) h.outlets;
        rises = w.rises;
        credit = ap (λ r. r.credit) w.same;
        opens = write_opens a.core b.core (s + 1) h.chunk.items (Ok tt) h.writes;
      }
  step_kept s a b ls wi wo (ends j lj h) =
      let k = ends_keeps a b s j h in
      record {
        continues = λ t log lt tie. ends_continue a b s j ls lj wi h t log tie;
        inlets = ap length h.inlets ∙ length-set a.inlets (8 * s + j) _ ∙ wi;
        outlets = ap length h.outlets ∙ wo;
        writers = λ r. ap (λ xs. (inlet_at xs r).out) h.inlets ∙ item_out a.inlets (8 * s + j) kind.End r;
        readers = λ t. ap (λ os. (outlet_at os t).out) h.outlets;
        rises = keeps_rises 0 a.core b.core k;
        credit = omega (arith, k.read.credit);
        opens = ends_open a b s j h;
      }
  step_kept s a b ls wi wo (gives h) =
      let r = read_is a.core b.core (s + 1) read_limit (got_of h.delivery) h.reads in
      record {
        continues = λ t log lt tie. gives_continue a b s ls wo h t log tie;
        inlets = ap length h.inlets ∙ wi;
        outlets = ap length h.outlets ∙ length-set a.outlets s _ ∙ wo;
        writers = λ q. ap (λ xs. (inlet_at xs q).out) h.inlets;
        readers = λ t. ap (λ os. (outlet_at os t).out) h.outlets ∙ put_out a.outlets s h.delivery t;
        rises = r.rises;
        credit = r.credit;
        opens = read_opens a.core b.core (s + 1) read_limit (got_of h.delivery) h.reads;
      }
  step_kept s a b ls wi wo (gives_none h) =
      let r = read_is a.core b.core (s + 1) read_limit reading.Nothing h.reads in
      record {
        continues = λ t log lt tie. none_continue a b s h t log tie;
        inlets = ap length h.inlets ∙ wi;
        outlets = ap length h.outlets ∙ wo;
        writers = λ q. ap (λ xs. (inlet_at xs q).out) h.inlets;
        readers = λ t. ap (λ os. (outlet_at os t).out) h.outlets;
        rises = r.rises;
        credit = r.credit;
        opens = read_opens a.core b.core (s + 1) read_limit reading.Nothing h.reads;
      }

  kept_same : (a : Flow A) → length a.inlets ≡ 512 → length a.outlets ≡ 64 → Kept a a
  kept_same a wi wo = record {
    continues = λ t log lt tie. tied_on a a t log tie;
    inlets = wi;
    outlets = wo;
    writers = λ r. refl;
    readers = λ s. refl;
    rises = rises_same a.core;
    credit = refl;
    opens = same_opens a.core;
  }

  kept_join : (a b c : Flow A) → Kept a b → Kept b c → Kept a c
  kept_join a b c f g = record {
    continues = λ t log lt tie.
        let x = f.continues t log lt tie in
        let y = g.continues t (log ++ x.0) lt x.1 in
        (x.0 ++ y.0, subst (TiedBy c t) (append_assoc log x.0 y.0) y.1);
    inlets = g.inlets;
    outlets = g.outlets;
    writers = λ r. g.writers r ∙ f.writers r;
    readers = λ s. g.readers s ∙ f.readers s;
    rises = rises_join a.core b.core c.core f.rises g.rises;
    credit = g.credit ∙ f.credit;
    opens = record { each = λ k own at. f.opens.each k own (g.opens.each k (own ∙ sym f.rises.parity) at) };
  }

  pub steps_kept : (n : ℕ) (a b : Flow A) → length a.inlets ≡ 512 → length a.outlets ≡ 64 → Steps n a b → Kept a b
  steps_kept zero a b wi wo h = subst (Kept a) (sym h) (kept_same a wi wo)
  steps_kept (suc n) a b wi wo (c, s, before, ls, last) =
      let f = steps_kept n a c wi wo before in
      kept_join a c b f (step_kept s c b ls f.inlets f.outlets last)

  pub kept_tied : (a b : Flow A) → Kept a b → AllTied a → AllTied b
  kept_tied a b k t = record {
    inlets = k.inlets;
    outlets = k.outlets;
    each = λ s l. let was = t.each s l in let now = k.continues s was.0 l was.1 in (was.0 ++ now.0, now.1);
  }

  pub kept_paired : (a b : Flow A) → Kept a b → AllPaired a → AllPaired b
  kept_paired a b k p s l =
      let was = p s l in
      record {
        both = k.writers (8 * s) ∙ was.both ∙ sym (k.readers s);
        is_open = λ e. k.rises.is_open (s + 1) (was.is_open (sym (k.readers s) ∙ e));
        own = λ e at. k.readers s ∙ was.own (e ∙ k.rises.parity) (k.opens.each (s + 1) (e ∙ k.rises.parity) at);
      }

  -- ---- steps one after another

  pub flows_none : (a : Flow A) → Flows a a
  flows_none a = (0, refl)

  pub flows_more : (a b c : Flow A) (s : ℕ) → s < 64 → Flows a b → StepAt s b c → Flows a c
  flows_more a b c s l (n, h) last = (suc n, (b, s, h, l, last))

  flows_then : (a b : Flow A) → Flows a b → (n : ℕ) (c : Flow A) → Steps n b c → Flows a c
  flows_then a b f zero c h = subst (Flows a) (sym h) f
  flows_then a b f (suc n) c (d, s, before, l, last) = flows_more a d c s l (flows_then a b f n d before) last

  pub flows_join : (a b c : Flow A) → Flows a b → Flows b c → Flows a c
  flows_join a b c f g = flows_then a b f g.0 c g.1
