-- Closes: reads and calls on a stream.
use Rattle.std.proofs.Common.{◌≡◌, ℕ, true, false, ◌||◌, List, [], ◌∷◌, ◌++◌, length, refl, sym, ap, subst, ◌∙◌, arith, Option, None, Some, inl, inr, is_some, append-nil, length-append, ◌≤◌}
use Rattle.st_keys.specs.Keys.{DerivedKeys}
use Rattle.st_streams.specs.Slots.{slot}
use Rattle.st_reassembly.specs.Held.{after_read}
use Rattle.st_sender.specs.Sending.{Outgoing, outgoing_at, with_outgoing}
use Rattle.st_receiver.specs.Streams.{Receiving, Incoming, incoming_at, incoming_or}
use Rattle.st_receiver.specs.Reading.{Got, Bytes, Nothing, End, Aborted}
use Rattle.st_world_parts.specs.Sides.{Side, Client, Server, other, Both, at, put, IsPrefixOf}
use Rattle.st_world_parts.specs.State.{World, Party, log_at, with_ledger, end_at, with_end}
use Rattle.st_world_parts.specs.StreamLogs.{StreamLog, got}
use Rattle.st_streams.proofs.SlotLemmas.{slot_here, slot_apart, slot_within}
use Rattle.st_world.proofs.DataReceived.{fresh_at, StreamFine, incoming_here}
use Rattle.st_world.proofs.DataSent.{OutFine}
use Rattle.st_world.proofs.DataWays.{DataFine, ledger_here}
use Rattle.st_world.proofs.Moves.{Accepts, Tells, nothing, ended, aborted, after_reading}
use Rattle.st_world.proofs.WholeReceived.{OutSome, OutWhole, InWhole, RisesAt, in-with, rise-with}
use Rattle.st_world.proofs.WholeSent.{out_accepts, in_accepts, follows}
use Rattle.st_world.proofs.PastEnds.{past_read}
use Rattle.st_reassembly.specs.Run.{IsRun}
use Rattle.st_world.proofs.WholeStates.{ForthOf, GoodAt, Passed, StatesOf, StaysTold, ToldWhole, forth_join, ledger_in, passed_end, passed_ledger, with_of}
use Rattle.st_world.proofs.Truths.{or_true, or_right}

-- a ledger after a read
out_got : (g : Got) (l : StreamLog) (n : ℕ) (o : Option Outgoing) → OutWhole l n o → OutWhole (got g l) n o
out_got (Bytes xs) l n None h = h
out_got (Bytes xs) l n (Some y) h = record { codes = h.codes; aborted = h.aborted; shut = h.shut; clean = h.clean; acked = h.acked }
out_got Nothing l n o h = h
out_got End l n None h = h
out_got End l n (Some y) h = record { codes = h.codes; aborted = h.aborted; shut = h.shut; clean = h.clean; acked = h.acked }
out_got (Aborted code) l n None h = h
out_got (Aborted code) l n (Some y) h = record { codes = h.codes; aborted = h.aborted; shut = h.shut; clean = h.clean; acked = h.acked }

in_got : (g : Got) (l : StreamLog) (x : Incoming) → InWhole l x → InWhole (got g l) x
in_got (Bytes xs) l x h = record { ends = h.ends; drops = h.drops; within = h.within; past = h.past }
in_got Nothing l x h = h
in_got End l x h = record { ends = h.ends; drops = h.drops; within = h.within; past = h.past }
in_got (Aborted code) l x h = record { ends = h.ends; drops = h.drops; within = h.within; past = h.past }

clean_got : (g : Got) (l : StreamLog) → l.clean ≡ true → ((got g l).clean ≡ true) × ((got g l).written ≡ l.written)
clean_got (Bytes xs) l e = (e, refl)
clean_got Nothing l e = (e, refl)
clean_got End l e = (e, refl)
clean_got (Aborted code) l e = (e, refl)

aborted_got : (g : Got) (l : StreamLog) → l.aborted ≡ true → (got g l).aborted ≡ true
aborted_got (Bytes xs) l e = e
aborted_got Nothing l e = e
aborted_got End l e = e
aborted_got (Aborted code) l e = e

rest_none : (xs ys rest : List ℕ) → xs ++ rest ≡ ys → length xs ≡ length ys → xs ≡ ys
rest_none xs ys [] e f = sym (append-nil xs) ∙ e
rest_none xs ys (z ∷ zs) e f = absurd (let a = length-append xs (z ∷ zs) in let b : length (xs ++ z ∷ zs) ≡ length ys = ap (λ l. length l) e in omega arith)

prefix_whole : (xs ys : List ℕ) → IsPrefixOf xs ys → length xs ≡ length ys → xs ≡ ys
prefix_whole xs ys p e = rest_none xs ys p.0 p.1 e

nothing_more : (r t w : List ℕ) → IsPrefixOf (r ++ t) w → r ≡ w → r ++ t ≡ w
nothing_more r t w p e =
    let a = length-append r t in
    let b = length-append (r ++ t) p.0 in
    let c : length ((r ++ t) ++ p.0) ≡ length w = ap (λ l. length l) p.1 in
    let d : length r ≡ length w = ap (λ l. length l) e in
    prefix_whole (r ++ t) w p (omega arith)

told_got : (l : StreamLog) (x : Incoming) (g : Got) → Tells x g → StreamFine l.written l.read x.held → InWhole l x → ToldWhole l x → ToldWhole (got g l) x
told_got l x g nothing f h d = d
told_got l x g (ended n a is e) f h d = record {
  saw_end = λ yes. let i = h.ends n is in (i.2, prefix_whole l.read l.written f.is_prefix (let c : length l.read ≡ x.held.read = f.count in let b : n ≡ length l.written = i.0 in let k : n ≡ x.held.read = e in omega arith));
  saw_abort = d.saw_abort;
}
told_got l x g (aborted code a) f h d = record { saw_end = d.saw_end; saw_abort = λ yes. ap (λ z. is_some z) a }

stays_got : (l : StreamLog) (x : Incoming) (g : Got) → Tells x g → StaysTold l (got g l)
stays_got l x g nothing e = (e, refl)
stays_got l x g (ended n a is f) e = (refl, refl)
stays_got l x g (aborted code a) e = (or_right l.saw_end, refl)

put_same : (b : Both Party) (a : Side) → put b a (at b a) ≡ b
put_same b Client = refl
put_same b Server = refl

held_here : (r : Receiving) (k : ℕ) (x : Incoming) → slot r.streams k ≡ Some x → incoming_at r k ≡ x
held_here r k x is = ap (incoming_or (fresh_at r k)) is

tells_passed : (keys : DerivedKeys) (w : World) (s : Side) (k : ℕ) (x : Incoming) (g : Got) → slot (end_at w (other s)).receiving.streams k ≡ Some x → Tells x g → DataFine keys w → StatesOf w.ends w.ledgers
    → Passed w (with_ledger w s k (got g (log_at w s k)))
tells_passed keys w s k x g is t d h =
    let l = ledger_in w.ledgers s k in
    let same : incoming_at (end_at w (other s)).receiving k ≡ x = held_here (end_at w (other s)).receiving k x is in
    let T : Incoming → Type 0 = λ z. ToldWhole (got g l) z in
    let I : Incoming → Type 0 = λ z. InWhole l z in
    let D : Incoming → Type 0 = λ z. ToldWhole l z in
    let F : Incoming → Type 0 = λ z. StreamFine l.written l.read z.held in
    let m = passed_ledger w.ledgers w.ends s (at w.ends s) k (got g l) refl (λ j n. refl)
    (record {
      out = out_got g l _ _ ((h s).send k);
      inn = in_got g l _ ((h s).recv k);
      told = subst T (sym same) (told_got l x g t (subst F same ((d.ways s).recv k)) (subst I same ((h s).recv k)) (subst D same ((h s).told k)));
      clean = clean_got g l;
      aborted = aborted_got g l;
      stays = stays_got l x g t;
    }) h in
    let P : Both Party → Type 0 = λ b. StatesOf b (with_of w.ledgers s k (got g l)) in
    let Q : Both Party → Type 0 = λ b. ForthOf w.ends w.ledgers b (with_of w.ledgers s k (got g l)) in
    record { states = subst P (put_same w.ends s) m.0; forth = subst Q (put_same w.ends s) m.1 }

pub tells_side : (keys : DerivedKeys) (w : World) (a : Side) (k : ℕ) (x : Incoming) (g : Got) → slot (end_at w a).receiving.streams k ≡ Some x → Tells x g → DataFine keys w → StatesOf w.ends w.ledgers
    → Passed w (with_ledger w (other a) k (got g (log_at w (other a) k)))
tells_side keys w Client k x g is t d h = tells_passed keys w Server k x g is t d h
tells_side keys w Server k x g is t d h = tells_passed keys w Client k x g is t d h

ledger_with : (w : World) (s : Side) (k : ℕ) (x : StreamLog) → log_at (with_ledger w s k x) s k ≡ x
ledger_with w Client k x = ledger_here w.ledgers.client k x
ledger_with w Server k x = ledger_here w.ledgers.server k x

passed_join : (w u v : World) → Passed w u → ForthOf u.ends u.ledgers v.ends v.ledgers → StatesOf v.ends v.ledgers → Passed w v
passed_join w u v p f h = record { states = h; forth = λ a. forth_join (ledger_in w.ledgers a) (ledger_in u.ledgers a) (ledger_in v.ledgers a) _ _ _ (p.forth a) (f a) }

-- a read of bytes: the reader's end first, then the ledger
read_in' : (l : StreamLog) (x : Incoming) (run : List ℕ) (n : ℕ) → IsRun x.held run → n ≤ length run → InWhole l x → InWhole l (record x { held = after_read n x.held })
unfolding after_read
read_in' l x run n r s i = record { ends = i.ends; drops = i.drops; within = i.within; past = λ o. past_read x.held x.highest run n r s (i.past o) }

read_rise : (x : Incoming) (n : ℕ) → RisesAt x (record x { held = after_read n x.held })
unfolding after_read
read_rise x n = (omega arith, λ e. e)

read_live : (x : Incoming) (n : ℕ) → is_some (after_read n x.held).aborted ≡ is_some x.held.aborted
unfolding after_read
read_live x n = refl

bytes_good : (w : World) (a : Side) (k n : ℕ) (x : Incoming) (run : List ℕ) → IsRun x.held run → n ≤ length run → slot (end_at w a).receiving.streams k ≡ Some x → StatesOf w.ends w.ledgers → (s : Side) → s ≡ other a → other s ≡ a → GoodAt w.ends w.ledgers a (after_reading (end_at w a) k x n)
bytes_good w Client k n x run row few is h s e f =
    let r = (end_at w Client).receiving in
    let P : Incoming → Type 0 = λ z. InWhole (ledger_in w.ledgers Server k) z in
    let i : InWhole (ledger_in w.ledgers Server k) x = subst P (held_here r k x is) ((h Server).recv k) in
    let R : Incoming → Type 0 = λ z. RisesAt z (record x { held = after_read n x.held }) in
    record {
      send = (h Client).send;
      recv = in-with (ledger_in w.ledgers Server) r k (record x { held = after_read n x.held }) (h Server).recv (read_in' (ledger_in w.ledgers Server k) x run n row few i);
      rise = rise-with r k (record x { held = after_read n x.held }) (subst R (sym (held_here r k x is)) (read_rise x n));
    }
bytes_good w Server k n x run row few is h s e f =
    let r = (end_at w Server).receiving in
    let P : Incoming → Type 0 = λ z. InWhole (ledger_in w.ledgers Client k) z in
    let i : InWhole (ledger_in w.ledgers Client k) x = subst P (held_here r k x is) ((h Client).recv k) in
    let R : Incoming → Type 0 = λ z. RisesAt z (record x { held = after_read n x.held }) in
    record {
      send = (h Server).send;
      recv = in-with (ledger_in w.ledgers Client) r k (record x { held = after_read n x.held }) (h Client).recv (read_in' (ledger_in w.ledgers Client k) x run n row few i);
      rise = rise-with r k (record x { held = after_read n x.held }) (subst R (sym (held_here r k x is)) (read_rise x n));
    }

reads_ledger : (keys : DerivedKeys) (w u : World) (s : Side) (k : ℕ) (t : List ℕ) → StatesOf u.ends u.ledgers → DataFine keys (with_ledger u s k (got (Bytes t) (log_at u s k))) → is_some (incoming_at (end_at u (other s)).receiving k).held.aborted ≡ false
    → StatesOf u.ends (with_of u.ledgers s k (got (Bytes t) (log_at u s k))) × ForthOf u.ends u.ledgers u.ends (with_of u.ledgers s k (got (Bytes t) (log_at u s k)))
reads_ledger keys w u s k t h d live =
    let l = ledger_in u.ledgers s k in
    let L : StreamLog → Type 0 = λ z. IsPrefixOf z.read z.written in
    let prefix : IsPrefixOf (l.read ++ t) l.written = subst L (ledger_with u s k (got (Bytes t) l)) ((d.ways s).recv k).is_prefix in
    let old = (h s).told k in
    let m = passed_ledger u.ledgers u.ends s (at u.ends s) k (got (Bytes t) l) refl (λ j n. refl)
    (record {
      out = out_got (Bytes t) l _ _ ((h s).send k);
      inn = in_got (Bytes t) l _ ((h s).recv k);
      told = record { saw_end = λ e. let o = old.saw_end e in (o.0, nothing_more l.read t l.written prefix o.1); saw_abort = old.saw_abort };
      clean = clean_got (Bytes t) l;
      aborted = aborted_got (Bytes t) l;
      stays = λ e. (
        e,
        elim (or_true l.saw_end l.saw_abort e) [
          | inl y ↦ let o = old.saw_end y in nothing_more l.read t l.written prefix o.1 ∙ sym o.1
          | inr y ↦ absurd (let o = old.saw_abort y in cc)
        ],
      );
    }) h in
    let P : Both Party → Type 0 = λ b. StatesOf b (with_of u.ledgers s k (got (Bytes t) l)) in
    let Q : Both Party → Type 0 = λ b. ForthOf u.ends u.ledgers b (with_of u.ledgers s k (got (Bytes t) l)) in
    (subst P (put_same u.ends s) m.0, subst Q (put_same u.ends s) m.1)

live_after : (w : World) (a : Side) (k n : ℕ) (x : Incoming) → slot (end_at w a).receiving.streams k ≡ Some x → x.held.aborted ≡ None → is_some (incoming_at (end_at (with_end w a (after_reading (end_at w a) k x n)) a).receiving k).held.aborted ≡ false
live_after w Client k n x is e = ap (λ (z : Incoming). is_some z.held.aborted) (incoming_here (end_at w Client).receiving k (record x { held = after_read n x.held }) (slot_within (end_at w Client).receiving.streams k x is)) ∙ read_live x n ∙ ap (λ z. is_some z) e
live_after w Server k n x is e = ap (λ (z : Incoming). is_some z.held.aborted) (incoming_here (end_at w Server).receiving k (record x { held = after_read n x.held }) (slot_within (end_at w Server).receiving.streams k x is)) ∙ read_live x n ∙ ap (λ z. is_some z) e

pub reads_passed : (keys : DerivedKeys) (w : World) (a : Side) (k n : ℕ) (x : Incoming) (run t : List ℕ) → IsRun x.held run → n ≤ length run → slot (end_at w a).receiving.streams k ≡ Some x → x.held.aborted ≡ None → StatesOf w.ends w.ledgers
    → let v = with_ledger (with_end w a (after_reading (end_at w a) k x n)) (other a) k (got (Bytes t) (log_at w (other a) k)) in DataFine keys v → Passed w v
reads_passed keys w Client k n x run t row few is live h d =
    let u = with_end w Client (after_reading (end_at w Client) k x n) in
    let p = passed_end w u Client (record { state = after_reading (end_at w Client) k x n; answered = w.ends.client.answered }) refl refl (bytes_good w Client k n x run row few is h Server refl refl) h in
    let m = reads_ledger keys w u Server k t p.states d (live_after w Client k n x is live) in
    passed_join w u (with_ledger u Server k (got (Bytes t) (log_at w Server k))) p m.1 m.0
reads_passed keys w Server k n x run t row few is live h d =
    let u = with_end w Server (after_reading (end_at w Server) k x n) in
    let p = passed_end w u Server (record { state = after_reading (end_at w Server) k x n; answered = w.ends.server.answered }) refl refl (bytes_good w Server k n x run row few is h Client refl refl) h in
    let m = reads_ledger keys w u Client k t p.states d (live_after w Server k n x is live) in
    passed_join w u (with_ledger u Client k (got (Bytes t) (log_at w Client k))) p m.1 m.0

-- an accepted call
pub accepts_passed : (keys : DerivedKeys) (w : World) (a : Side) (k : ℕ) (x y : Outgoing) (m : StreamLog) → outgoing_at (end_at w a).sending k ≡ Some x → is_some x.abort ≡ false → Accepts x (log_at w a k) y m → DataFine keys w → StatesOf w.ends w.ledgers
    → Passed w (with_ledger (with_end w a (record (end_at w a) { sending = with_outgoing (end_at w a).sending k y })) a k m)
accepts_passed keys w a k x y m is live c d h =
    let l = ledger_in w.ledgers a k in
    let r = (end_at w (other a)).receiving in
    let P : Option Outgoing → Type 0 = λ z. OutWhole l (incoming_at r k).highest z in
    let old : OutSome l (incoming_at r k).highest x = subst P is ((h a).send k) in
    let D : Option Outgoing → Type 0 = λ z. OutFine l.written z in
    let count = (subst D is ((d.ways a).send k)).0 in
    let f = follows l m (incoming_at r k).highest x y c live old in
    let Q : Option Outgoing → Type 0 = λ z. OutWhole m (incoming_at r k).highest z in
    let told = (h a).told k in
    let n = passed_ledger w.ledgers w.ends a (record { state = record (end_at w a) { sending = with_outgoing (end_at w a).sending k y }; answered = (at w.ends a).answered }) k m refl
    (λ j ne. slot_apart (end_at w a).sending.streams k y j ne)
    (record {
      out = subst Q (sym (slot_here (end_at w a).sending.streams k y (slot_within (end_at w a).sending.streams k x is))) (out_accepts l m (incoming_at r k).highest x y c live count old);
      inn = in_accepts l m (incoming_at r k).highest x y (incoming_at r k) c live old ((h a).recv k);
      told = record {
        saw_end = λ e. let o = told.saw_end (sym f.saw_end ∙ e) in let g = f.clean o.0 in (g.0, f.read ∙ o.1 ∙ sym g.1);
        saw_abort = λ e. told.saw_abort (sym f.saw_abort ∙ e);
      };
      clean = f.clean;
      aborted = f.aborted;
      stays = λ e. (ap (λ b. b || m.saw_abort) f.saw_end ∙ ap (λ b. l.saw_end || b) f.saw_abort ∙ e, f.read);
    }) h in
    record { states = n.0; forth = n.1 }
