-- Closes: what both ends and their ledgers keep, and how a change of one of them keeps it.
use Rattle.std.proofs.Common.{◌≡◌, ◌≢◌, ℕ, Ok, true, ◌||◌, List, slice_get, refl, sym, ap, subst, ◌∙◌, Option, Some, inl, inr, is_some}
use Rattle.std.specs.Ordering.{nat_cmp}
use Rattle.std.specs.FinMap as fmap
use Rattle.std.proofs.lemmas.Bool.{cases_eq}
use Rattle.st_frames.specs.Frames.{Packet, frames_of}
use Rattle.st_keys.specs.Sealed.{opened}
use Rattle.st_keys.specs.Keys.{DerivedKeys}
use Rattle.st_sender.specs.Sending.{Sending, Outgoing, outgoing_at}
use Rattle.st_receiver.specs.Streams.{Receiving, Incoming, incoming_at}
use Rattle.st_end.specs.State.{EndState}
use Rattle.st_end.specs.Receiving.{prepare_in}
use Rattle.st_world_parts.specs.Sides.{Side, Client, Server, other, Both, at, put}
use Rattle.st_world_parts.specs.State.{World, Party, end_at, SentPrepare, SentAnswer, direction_at, nth}
use Rattle.st_world_parts.specs.StreamLogs.{StreamLog, ledger_or}
use Rattle.st_ilp.specs.Reading.{is_fulfill_text}
use Rattle.st_world.proofs.DataWays.{by_side, ledger_here, ledger_apart}
use Rattle.st_world.proofs.WholeReceived.{OutWhole, InWhole, SendWhole, RecvWhole, Rise, rise_same, rise_join, FramesSound, FramesTaken, Onward, rise_onward}
use Rattle.st_world.proofs.WholeSent.{out_rise, EndGood}

abbrev pub StreamLogs : Type 0
StreamLogs = Both (fmap.FinMap nat_cmp StreamLog)

abbrev pub ledger_in : StreamLogs → Side → ℕ → StreamLog
ledger_in g a k = ledger_or (fmap.get (at g a) k)

pub record ToldWhole (l : StreamLog) (x : Incoming) : Type 0 where
  pub saw_end : l.saw_end ≡ true → (l.clean ≡ true) × (l.read ≡ l.written)
  pub saw_abort : l.saw_abort ≡ true → is_some x.held.aborted ≡ true

pub record StateWhole (l : ℕ → StreamLog) (s : Sending) (r : Receiving) : Type 0 where
  pub send : SendWhole l r s
  pub recv : RecvWhole l r
  pub told : (k : ℕ) → ToldWhole (l k) (incoming_at r k)

abbrev pub StatesOf : Both Party → StreamLogs → Type 0
StatesOf b g = (a : Side) → StateWhole (ledger_in g a) (at b a).state.sending (at b (other a)).state.receiving

-- an end or abort that was reported stays so, and then no more is read
abbrev pub StaysTold : StreamLog → StreamLog → Type 0
StaysTold l m = (l.saw_end || l.saw_abort) ≡ true → ((m.saw_end || m.saw_abort) ≡ true) × (m.read ≡ l.read)

pub record ForthAt (l m : ℕ → StreamLog) (r t : Receiving) : Type 0 where
  pub onward : Onward l m r t
  pub stays : (k : ℕ) → StaysTold (l k) (m k)

abbrev pub ForthOf : Both Party → StreamLogs → Both Party → StreamLogs → Type 0
ForthOf b g c h = (a : Side) → ForthAt (ledger_in g a) (ledger_in h a) (at b (other a)).state.receiving (at c (other a)).state.receiving

abbrev pub PutWhole : DerivedKeys → World → Side → SentPrepare → Type 0
PutWhole keys w a p = (q : Packet) → opened keys 12 (prepare_in p.bytes).payload ≡ Ok q → FramesSound (ledger_in w.ledgers a) (end_at w (other a)).receiving (frames_of q)

abbrev pub TakenWhole : DerivedKeys → World → Side → List ℕ → Type 0
TakenWhole keys w a payload = (q : Packet) → opened keys 12 payload ≡ Ok q → FramesTaken (end_at w (other a)).receiving (frames_of q)

abbrev pub GivenWhole : DerivedKeys → World → ℕ → Side → SentAnswer → Type 0
GivenWhole keys w link a g = is_fulfill_text g.bytes ≡ true → (p : SentPrepare) → nth (direction_at w link a).prepares g.which ≡ Some p → TakenWhole keys w a (prepare_in p.bytes).payload

pub record WholeFine (keys : DerivedKeys) (w : World) : Type 0 where
  pub states : StatesOf w.ends w.ledgers
  pub prepares : (link : ℕ) (a : Side) (j : ℕ) (p : SentPrepare) → slice_get (direction_at w link a).prepares j ≡ Some p → PutWhole keys w a p
  pub given : (link : ℕ) (a : Side) (j : ℕ) (g : SentAnswer) → slice_get (direction_at w link a).given j ≡ Some g → GivenWhole keys w link a g

same_forth : (l : ℕ → StreamLog) (r : Receiving) → ForthAt l l r r
same_forth l r = record { onward = rise_onward l r r (rise_same r); stays = λ k e. (e, refl) }

pub forth_join : (l m n : ℕ → StreamLog) (r s t : Receiving) → ForthAt l m r s → ForthAt m n s t → ForthAt l n r t
forth_join l m n r s t f g = record {
  onward = record {
    clean = λ k e. let a = f.onward.clean k e in let b = g.onward.clean k a.0 in (b.0, b.1 ∙ a.1);
    aborted = λ k e. g.onward.aborted k (f.onward.aborted k e);
    rise = rise_join r s t f.onward.rise g.onward.rise;
  };
  stays = λ k e. let a = f.stays k e in let b = g.stays k a.0 in (b.0, b.1 ∙ a.1);
}

-- an end that changed
good_send : (l : ℕ → StreamLog) (s t : Sending) (r : Receiving) → SendWhole l r t → StateWhole l s r → StateWhole l t r
good_send l s t r g h = record { send = g; recv = h.recv; told = h.told }

good_recv : (l : ℕ → StreamLog) (s : Sending) (r t : Receiving) → RecvWhole l t → Rise r t → StateWhole l s r → StateWhole l s t
good_recv l s r t g rise h = record {
  send = λ k. out_rise (l k) (incoming_at r k).highest (incoming_at t k).highest (outgoing_at s k) (rise k).0 (h.send k);
  recv = g;
  told = λ k. record { saw_end = (h.told k).saw_end; saw_abort = λ e. (rise k).1 ((h.told k).saw_abort e) };
}

abbrev pub GoodAt : Both Party → StreamLogs → Side → EndState → Type 0
GoodAt b g a e = EndGood (ledger_in g a) (ledger_in g (other a)) (at b (other a)).state.receiving (at b a).state.receiving e

states_put : (b : Both Party) (g : StreamLogs) (a : Side) (p : Party) → StatesOf b g → GoodAt b g a p.state → StatesOf (put b a p) g
states_put b g Client p h e =
    by_side (λ a. StateWhole (ledger_in g a) (at (put b Client p) a).state.sending (at (put b Client p) (other a)).state.receiving) Client
    (good_send (ledger_in g Client) b.client.state.sending p.state.sending b.server.state.receiving e.send (h Client))
    (good_recv (ledger_in g Server) b.server.state.sending b.client.state.receiving p.state.receiving e.recv e.rise (h Server))
states_put b g Server p h e =
    by_side (λ a. StateWhole (ledger_in g a) (at (put b Server p) a).state.sending (at (put b Server p) (other a)).state.receiving) Server
    (good_send (ledger_in g Server) b.server.state.sending p.state.sending b.client.state.receiving e.send (h Server))
    (good_recv (ledger_in g Client) b.client.state.sending b.server.state.receiving p.state.receiving e.recv e.rise (h Client))

rise_forth : (l : ℕ → StreamLog) (r t : Receiving) → Rise r t → ForthAt l l r t
rise_forth l r t rise = record { onward = rise_onward l r t rise; stays = λ k e. (e, refl) }

forth_put : (b : Both Party) (g : StreamLogs) (a : Side) (p : Party) → Rise (at b a).state.receiving p.state.receiving → ForthOf b g (put b a p) g
forth_put b g Client p rise =
    by_side (λ a. ForthAt (ledger_in g a) (ledger_in g a) (at b (other a)).state.receiving (at (put b Client p) (other a)).state.receiving) Client
    (same_forth (ledger_in g Client) b.server.state.receiving) (rise_forth (ledger_in g Server) b.client.state.receiving p.state.receiving rise)
forth_put b g Server p rise =
    by_side (λ a. ForthAt (ledger_in g a) (ledger_in g a) (at b (other a)).state.receiving (at (put b Server p) (other a)).state.receiving) Server
    (same_forth (ledger_in g Server) b.client.state.receiving) (rise_forth (ledger_in g Client) b.server.state.receiving p.state.receiving rise)

-- both, for a world with these ends and ledgers
pub record Passed (w v : World) : Type 0 where
  pub states : StatesOf v.ends v.ledgers
  pub forth : ForthOf w.ends w.ledgers v.ends v.ledgers

pub passed_end : (w v : World) (a : Side) (p : Party) → v.ends ≡ put w.ends a p → v.ledgers ≡ w.ledgers → GoodAt w.ends w.ledgers a p.state → StatesOf w.ends w.ledgers → Passed w v
passed_end w v a p e f good h =
    let P : Both Party → Type 0 = λ b. StatesOf b v.ledgers in
    let Q : StreamLogs → Type 0 = λ g. StatesOf (put w.ends a p) g in
    let R : Both Party → Type 0 = λ b. ForthOf w.ends w.ledgers b v.ledgers in
    let S : StreamLogs → Type 0 = λ g. ForthOf w.ends w.ledgers (put w.ends a p) g in
    record { states = subst P (sym e) (subst Q (sym f) (states_put w.ends w.ledgers a p h good)); forth = subst R (sym e) (subst S (sym f) (forth_put w.ends w.ledgers a p good.rise)) }

pub passed_same : (w v : World) → v.ends ≡ w.ends → v.ledgers ≡ w.ledgers → StatesOf w.ends w.ledgers → Passed w v
passed_same w v e f h =
    let P : Both Party → Type 0 = λ b. StatesOf b v.ledgers in
    let Q : StreamLogs → Type 0 = λ g. StatesOf w.ends g in
    let R : Both Party → Type 0 = λ b. ForthOf w.ends w.ledgers b v.ledgers in
    let S : StreamLogs → Type 0 = λ g. ForthOf w.ends w.ledgers w.ends g in
    record { states = subst P (sym e) (subst Q (sym f) h); forth = subst R (sym e) (subst S (sym f) (λ a. same_forth (ledger_in w.ledgers a) (at w.ends (other a)).state.receiving)) }

-- a ledger that changed, with the stream that it is of
ledger_state : (l m : ℕ → StreamLog) (s t : Sending) (r : Receiving) (k : ℕ) → ((j : ℕ) → j ≢ k → m j ≡ l j) → ((j : ℕ) → j ≢ k → outgoing_at t j ≡ outgoing_at s j)
    → OutWhole (m k) (incoming_at r k).highest (outgoing_at t k) → InWhole (m k) (incoming_at r k) → ToldWhole (m k) (incoming_at r k) → StateWhole l s r → StateWhole m t r
ledger_state l m s t r k apart beside o i d h = record {
  send = λ j. elim (cases_eq j k) [
    | inl e ↦ rw e o
    | inr n ↦ let P : StreamLog → Type 0 = λ z. OutWhole z (incoming_at r j).highest (outgoing_at t j) in let Q : Option Outgoing → Type 0 = λ z. OutWhole (l j) (incoming_at r j).highest z in subst P (sym (apart j n)) (subst Q (sym (beside j n)) (h.send j))
  ];
  recv = λ j. elim (cases_eq j k) [ inl e ↦ rw e i | inr n ↦ let P : StreamLog → Type 0 = λ z. InWhole z (incoming_at r j) in subst P (sym (apart j n)) (h.recv j) ];
  told = λ j. elim (cases_eq j k) [ inl e ↦ rw e d | inr n ↦ let P : StreamLog → Type 0 = λ z. ToldWhole z (incoming_at r j) in subst P (sym (apart j n)) (h.told j) ];
}

ledger_forth : (l m : ℕ → StreamLog) (r : Receiving) (k : ℕ) → ((j : ℕ) → j ≢ k → m j ≡ l j) → ((l k).clean ≡ true → ((m k).clean ≡ true) × ((m k).written ≡ (l k).written)) → ((l k).aborted ≡ true → (m k).aborted ≡ true) → StaysTold (l k) (m k) → ForthAt l m r r
ledger_forth l m r k apart c a d = record {
  onward = record {
    clean = λ j e. elim (cases_eq j k) [ inl s ↦ (rw s (c (rw s at e))) | inr n ↦ (ap (λ (z : StreamLog). z.clean) (apart j n) ∙ e, ap (λ (z : StreamLog). z.written) (apart j n)) ];
    aborted = λ j e. elim (cases_eq j k) [ inl s ↦ (rw s (a (rw s at e))) | inr n ↦ ap (λ (z : StreamLog). z.aborted) (apart j n) ∙ e ];
    rise = rise_same r;
  };
  stays = λ j e. elim (cases_eq j k) [ inl s ↦ (rw s (d (rw s at e))) | inr n ↦ (ap (λ (z : StreamLog). z.saw_end || z.saw_abort) (apart j n) ∙ e, ap (λ (z : StreamLog). z.read) (apart j n)) ];
}

-- what a ledger is after a call
pub record LedgerGood (l : ℕ → StreamLog) (t : Sending) (r : Receiving) (k : ℕ) (x : StreamLog) : Type 0 where
  pub out : OutWhole x (incoming_at r k).highest (outgoing_at t k)
  pub inn : InWhole x (incoming_at r k)
  pub told : ToldWhole x (incoming_at r k)
  pub clean : (l k).clean ≡ true → (x.clean ≡ true) × (x.written ≡ (l k).written)
  pub aborted : (l k).aborted ≡ true → x.aborted ≡ true
  pub stays : StaysTold (l k) x

abbrev pub with_of : StreamLogs → Side → ℕ → StreamLog → StreamLogs
with_of g a k x = put g a (fmap.insert (at g a) k x)

pub passed_ledger : (g : StreamLogs) (b : Both Party) (a : Side) (p : Party) (k : ℕ) (x : StreamLog) → p.state.receiving ≡ (at b a).state.receiving → ((j : ℕ) → j ≢ k → outgoing_at p.state.sending j ≡ outgoing_at (at b a).state.sending j)
    → LedgerGood (ledger_in g a) p.state.sending (at b (other a)).state.receiving k x → StatesOf b g → StatesOf (put b a p) (with_of g a k x) × ForthOf b g (put b a p) (with_of g a k x)
passed_ledger g b Client p k x same beside good h =
    let here : ledger_in (with_of g Client k x) Client k ≡ x = ledger_here g.client k x in
    let apart = λ (j : ℕ) (n : j ≢ k). ledger_apart g.client k x j n in
    let m = ledger_in (with_of g Client k x) Client in
    let O : StreamLog → Type 0 = λ z. OutWhole z (incoming_at b.server.state.receiving k).highest (outgoing_at p.state.sending k) in
    let I : StreamLog → Type 0 = λ z. InWhole z (incoming_at b.server.state.receiving k) in
    let T : StreamLog → Type 0 = λ z. ToldWhole z (incoming_at b.server.state.receiving k) in
    let C : StreamLog → Type 0 = λ z. (ledger_in g Client k).clean ≡ true → (z.clean ≡ true) × (z.written ≡ (ledger_in g Client k).written) in
    let A : StreamLog → Type 0 = λ z. (ledger_in g Client k).aborted ≡ true → z.aborted ≡ true in
    let S : StreamLog → Type 0 = λ z. StaysTold (ledger_in g Client k) z in
    let Z : Receiving → Type 0 = λ z. StateWhole (ledger_in g Server) b.server.state.sending z in
    let F : Receiving → Type 0 = λ z. ForthAt (ledger_in g Server) (ledger_in g Server) b.client.state.receiving z in (
      by_side (λ a. StateWhole (ledger_in (with_of g Client k x) a) (at (put b Client p) a).state.sending (at (put b Client p) (other a)).state.receiving) Client
          (ledger_state (ledger_in g Client) m b.client.state.sending p.state.sending b.server.state.receiving k apart beside (subst O (sym here) good.out) (subst I (sym here) good.inn) (subst T (sym here) good.told) (h Client))
          (subst Z (sym same) (h Server)),
      by_side (λ a. ForthAt (ledger_in g a) (ledger_in (with_of g Client k x) a) (at b (other a)).state.receiving (at (put b Client p) (other a)).state.receiving) Client
          (ledger_forth (ledger_in g Client) m b.server.state.receiving k apart (subst C (sym here) good.clean) (subst A (sym here) good.aborted) (subst S (sym here) good.stays))
          (subst F (sym same) (same_forth (ledger_in g Server) b.client.state.receiving)),
    )
passed_ledger g b Server p k x same beside good h =
    let here : ledger_in (with_of g Server k x) Server k ≡ x = ledger_here g.server k x in
    let apart = λ (j : ℕ) (n : j ≢ k). ledger_apart g.server k x j n in
    let m = ledger_in (with_of g Server k x) Server in
    let O : StreamLog → Type 0 = λ z. OutWhole z (incoming_at b.client.state.receiving k).highest (outgoing_at p.state.sending k) in
    let I : StreamLog → Type 0 = λ z. InWhole z (incoming_at b.client.state.receiving k) in
    let T : StreamLog → Type 0 = λ z. ToldWhole z (incoming_at b.client.state.receiving k) in
    let C : StreamLog → Type 0 = λ z. (ledger_in g Server k).clean ≡ true → (z.clean ≡ true) × (z.written ≡ (ledger_in g Server k).written) in
    let A : StreamLog → Type 0 = λ z. (ledger_in g Server k).aborted ≡ true → z.aborted ≡ true in
    let S : StreamLog → Type 0 = λ z. StaysTold (ledger_in g Server k) z in
    let Z : Receiving → Type 0 = λ z. StateWhole (ledger_in g Client) b.client.state.sending z in
    let F : Receiving → Type 0 = λ z. ForthAt (ledger_in g Client) (ledger_in g Client) b.server.state.receiving z in (
      by_side (λ a. StateWhole (ledger_in (with_of g Server k x) a) (at (put b Server p) a).state.sending (at (put b Server p) (other a)).state.receiving) Server
          (ledger_state (ledger_in g Server) m b.server.state.sending p.state.sending b.client.state.receiving k apart beside (subst O (sym here) good.out) (subst I (sym here) good.inn) (subst T (sym here) good.told) (h Server))
          (subst Z (sym same) (h Client)),
      by_side (λ a. ForthAt (ledger_in g a) (ledger_in (with_of g Server k x) a) (at b (other a)).state.receiving (at (put b Server p) (other a)).state.receiving) Server
          (ledger_forth (ledger_in g Server) m b.client.state.receiving k apart (subst C (sym here) good.clean) (subst A (sym here) good.aborted) (subst S (sym here) good.stays))
          (subst F (sym same) (same_forth (ledger_in g Client) b.server.state.receiving)),
    )
