-- What keeps the tie of a hub's end and its rings, if nothing is moved.
use Rattle.std.proofs.Common.{◌≡◌, ℕ, ◌+◌, ◌<◌, List, length, map, refl, sym, ap, subst, ◌∙◌, arith, Option}
use Rattle.st_streams.specs.Slots.{slot}
use Rattle.st_sender.specs.Sending.{Outgoing, outgoing_at}
use Rattle.st_receiver.specs.Streams.{delivered_of}
use Rattle.st_queues.specs.Items.{joined, delivered}
use Rattle.st_queues.specs.Names.{RingId}
use Rattle.st_queues.specs.declared.lanes.WriteRing.{WriteRing}
use Rattle.st_queues.specs.declared.lanes.ReadRing.{ReadRing}
use Rattle.st_end.specs.State.{EndState}
use Rattle.st_hub.specs.Merge.{Took, item}
use Rattle.st_hub.specs.Flow.{Flow, Inlet, Outlet, outlet_at, rings_of, IsSent, TiedBy, AllTied}
use Rattle.st_hub.specs.Handing.{AllPaired}
use Rattle.st_hub.specs.Keeping.{KeepsOut, Keeps, OpensNoOwn}
use Rattle.st_hub.specs.Inside.{inlet_of, outlet_of, AllLanes, AllReadLanes, IsSound}
use Rattle.st_hub.proofs.Merges.{merge_same}

pub sent_keeps : (bytes : List ℕ) (x y : Option Outgoing) → KeepsOut x y → IsSent bytes x → IsSent bytes y
sent_keeps bytes x y h s = record { accepted = h.accepted ∙ s.accepted; kept = λ q b e. s.kept q b (h.kept q b e) }

module _ {A : Type 0} where
  -- a stream of which nothing was moved
  pub tied_same : (a b : Flow A) (s : ℕ) (log : List (Took A)) → ((j : ℕ) → j < 8 → rings_of b.inlets s j ≡ rings_of a.inlets s j) → (outlet_at b.outlets s).put ≡ (outlet_at a.outlets s).put
      → KeepsOut (outgoing_at a.core.sending (s + 1)) (outgoing_at b.core.sending (s + 1))
      → delivered_of (slot b.core.receiving.streams (s + 1)) ≡ delivered_of (slot a.core.receiving.streams (s + 1)) → TiedBy a s log → TiedBy b s log
  tied_same a b s log rings put sent read t = record {
    merge = merge_same log (rings_of a.inlets s) (rings_of b.inlets s) rings t.merge;
    sent = sent_keeps (joined (map item log)) (outgoing_at a.core.sending (s + 1)) (outgoing_at b.core.sending (s + 1)) sent t.sent;
    read = read ∙ t.read ∙ ap (λ xs. length (delivered xs)) (sym put);
  }

  pub core_tied : (n : ℕ) (a b : EndState) (xs : List (Inlet A)) (ys : List (Outlet A)) → Keeps n a b → (s : ℕ) (log : List (Took A))
      → TiedBy (record { core = a; inlets = xs; outlets = ys }) s log → TiedBy (record { core = b; inlets = xs; outlets = ys }) s log
  core_tied n a b xs ys h s log t =
      tied_same (record { core = a; inlets = xs; outlets = ys }) (record { core = b; inlets = xs; outlets = ys }) s log (λ j l. refl) refl (h.sent.each (s + 1)) (h.read.each (s + 1)) t

  core_all_tied : (n : ℕ) (a b : EndState) (xs : List (Inlet A)) (ys : List (Outlet A)) → Keeps n a b → AllTied (record { core = a; inlets = xs; outlets = ys }) → AllTied (record { core = b; inlets = xs; outlets = ys })
  core_all_tied n a b xs ys h t = record {
    inlets = t.inlets;
    outlets = t.outlets;
    each = λ s l. let was = t.each s l in (was.0, core_tied n a b xs ys h s was.0 was.1);
  }

  core_paired : (n : ℕ) (a b : EndState) (xs : List (Inlet A)) (ys : List (Outlet A)) → Keeps n a b → OpensNoOwn a b → AllPaired (record { core = a; inlets = xs; outlets = ys }) → AllPaired (record { core = b; inlets = xs; outlets = ys })
  core_paired n a b xs ys h o p s l =
      let was = p s l in
      record {
        both = was.both;
        is_open = λ e. (h.sent.each (s + 1)).is_open (was.is_open e);
        own = λ e at. was.own (e ∙ h.read.parity) (o.each (s + 1) (e ∙ h.read.parity) at);
      }

  -- the end changed, and nothing was written or read
  pub core_sound : (w r : ℕ → RingId A) (n : ℕ) (a b : EndState) (xs : List (WriteRing A)) (ys : List (ReadRing A)) → Keeps n a b → OpensNoOwn a b → IsSound w r a xs ys → IsSound w r b xs ys
  core_sound w r n a b xs ys h o s = record {
    lanes = s.lanes;
    read_lanes = s.read_lanes;
    tied = core_all_tied n a b _ _ h s.tied;
    paired = core_paired n a b _ _ h o s.paired;
    parity = omega (arith, h.read.parity, s.parity);
    width = h.sent.width ∙ s.width;
  }

  -- lanes that look the same
  pub lanes_sound : (w r : ℕ → RingId A) (e : EndState) (xs us : List (WriteRing A)) (ys vs : List (ReadRing A)) → AllLanes w us → AllReadLanes r vs → map inlet_of us ≡ map inlet_of xs → map outlet_of vs ≡ map outlet_of ys
      → IsSound w r e xs ys → IsSound w r e us vs
  lanes_sound w r e xs us ys vs lanes reads is os s =
      let P : List (Inlet A) × List (Outlet A) → Type 0 = λ z. AllTied (record { core = e; inlets = z.0; outlets = z.1 }) × AllPaired (record { core = e; inlets = z.0; outlets = z.1 }) in
      let here = subst P (λ i. (sym is i, sym os i)) (s.tied, s.paired) in
      record { lanes = lanes; read_lanes = reads; tied = here.0; paired = here.1; parity = s.parity; width = s.width }
