-- What counts for the connection's limit as closes come, stream by stream.
use Rattle.std.proofs.Common.{◌≡◌, ℕ, zero, suc, ◌<◌, Bool, true, false, ◌||◌, cond, List, [], ◌∷◌, length, map, set, get_or, Option, Some, None, refl, sym, ap, ◌∙◌, subst, arith, nat_eq, nat_lt}
use Rattle.std.specs.Prelude.{is_some, slice_index}
use Rattle.std.specs.List.{list_any}
use Rattle.std.specs.FinMap.{empty}
use Rattle.std.proofs.lemmas.List.{map-set, set-get_or, length-set, length-map, ext_get_or}
use Rattle.st_streams.specs.Slots.{Slots, slot}
use Rattle.st_frames.specs.Frames.{Known, CloseFrame, ConnectionClose, OtherFrame, LimitFrame, BlockedFrame, StreamClose, StreamMoney, StreamData}
use Rattle.st_reassembly.specs.Held.{Held, is_over}
use Rattle.st_reassembly.specs.Closing.{past_all}
use Rattle.st_receiver.specs.declared.closing.Tally.{Tally}
use Rattle.st_receiver.specs.Streams.{Incoming, Receiving, incoming_at, with_incoming, received_of, read_of}
use Rattle.st_receiver.specs.Data.{frames_fault, after_frames}
use Rattle.st_receiver.specs.Money.{with_credit, with_credits, after_money}
use Rattle.st_receiver.specs.Closes.{with_close, with_abort, after_connection_close, after_connection_closes}
use Rattle.st_receiver.specs.Inside.{held_or, over_of, Counts, closed_at, closes_connection, aborted_read}
use Rattle.st_receiver.proofs.Tracking.{held_is, highest_is, read_is, get_or-map, span_over}
use Rattle.st_receiver.proofs.Mixing.{length-credits}
use Rattle.st_receiver.proofs.Leaving.{all_track}

-- ---- one close

-- what a stream that is written leaves of a number for each
pub same_at : {X : Type 0} (f : Option Incoming → X) (d : X) (ss : Slots Incoming) (k : ℕ) (o : Option Incoming) → f None ≡ d → f o ≡ f (slot ss k) → map f (set ss k o) ≡ map f ss
same_at f d ss k o z e = map-set f ss k o ∙ ap (set (map f ss) k) (e ∙ sym (at f d ss k z)) ∙ set-get_or (map f ss) k d
  where
    at : {X : Type 0} (f : Option Incoming → X) (d : X) (ss : Slots Incoming) (k : ℕ) → f None ≡ d → get_or (map f ss) k d ≡ f (slot ss k)
    at f d [] k e = sym e
    at f d (s ∷ ss) zero e = refl
    at f d (s ∷ ss) (suc k) e = at f d ss k e

pub over_at : (ss : Slots Incoming) (k : ℕ) → get_or (map over_of ss) k false ≡ over_of (slot ss k)
over_at [] k = refl
over_at (s ∷ ss) zero = refl
over_at (s ∷ ss) (suc k) = over_at ss k

closed_read : (o b : Bool) (x : Incoming) (e code : Option ℕ) → is_some code ≡ true
    → read_of (Some (record x { held = cond b (cond o x.held (record x.held { end = e })) (cond o x.held (record x.held { bytes = empty; aborted = code })) })) ≡ cond (o || b) (read_of (Some x)) x.highest
closed_read true true x e code is = refl
closed_read true false x e code is = refl
closed_read false true x e code is = refl
closed_read false false x e code is = ap (λ c. cond c x.highest x.held.read) is

or_true : (b : Bool) → (b || true) ≡ true
or_true true = refl
or_true false = refl

pub closed_over : (o b : Bool) (h : Held) (e code : Option ℕ) → is_over h ≡ o → is_some e ≡ true → is_some code ≡ true
    → is_over (cond b (cond o h (record h { end = e })) (cond o h (record h { bytes = empty; aborted = code }))) ≡ true
closed_over true true h e code is a c = is
closed_over true false h e code is a c = is
closed_over false true h e code is a c = ap (λ x. x || is_some h.aborted) a
closed_over false false h e code is a c = ap (λ x. is_some h.end || x) c ∙ or_true (is_some h.end)

read_by : (b : Bool) (rs es : List ℕ) (k r e : ℕ) → get_or rs k 0 ≡ r → get_or es k 0 ≡ e → cond b rs (set rs k (get_or es k 0)) ≡ set rs k (cond b r e)
read_by true rs es k r e p q = sym (set-get_or rs k 0) ∙ ap (set rs k) p
read_by false rs es k r e p q = ap (set rs k) q

pub counts_close : (r : Receiving) (t : Tally) (k code : ℕ) → Counts r t → Counts (with_incoming r k (with_close code (incoming_at r k))) (closed_at t k code)
counts_close r t k code c =
    let ss = r.streams in
    let x = incoming_at r k in
    let y = with_close code x in
    let m = slice_index r.kept k in
    let over : get_or t.over k false ≡ is_over x.held = ap (λ os. get_or os k false) c.over ∙ over_at ss k ∙ ap is_over (sym (held_is m (slot ss k))) in
    let b = nat_eq code 1 in
    record {
      ends = c.ends ∙ sym (same_at received_of 0 ss k (Some y) refl (highest_is m (slot ss k)));
      reads = ap (λ o. cond (o || b) t.reads (set t.reads k (get_or t.ends k 0))) over
          ∙ read_by (is_over x.held || b) t.reads t.ends k (read_of (Some x)) x.highest
          (ap (λ rs. get_or rs k 0) c.reads ∙ get_or-map read_of ss k refl ∙ sym (read_is m (slot ss k)))
          (ap (λ es. get_or es k 0) c.ends ∙ get_or-map received_of ss k refl ∙ sym (highest_is m (slot ss k)))
          ∙ ap (λ rs. set rs k (cond (is_over x.held || b) (read_of (Some x)) x.highest)) c.reads
          ∙ ap (set (map read_of ss) k) (sym (closed_read (is_over x.held) b x (Some (past_all x.held)) (Some code) refl))
          ∙ sym (map-set read_of ss k (Some y));
      over = ap (λ os. set os k true) c.over ∙ ap (set (map over_of ss) k) (sym (closed_over (is_over x.held) b x.held (Some (past_all x.held)) (Some code) refl refl refl)) ∙ sym (map-set over_of ss k (Some y));
      len = length-set ss k (Some y) ∙ c.len;
    }

-- ---- what data and money keep

same_map : {X : Type 0} (f : Option Incoming → X) (xs ys : Slots Incoming) → length xs ≡ length ys → ((k : ℕ) → f (slot xs k) ≡ f (slot ys k)) → map f xs ≡ map f ys
same_map f [] [] e h = refl
same_map f [] (y ∷ ys) e h = absurd (omega arith)
same_map f (x ∷ xs) [] e h = absurd (omega arith)
same_map f (x ∷ xs) (y ∷ ys) e h =
    let first : f x ≡ f y = h 0 in
    let rest : map f xs ≡ map f ys = same_map f xs ys (omega arith) (λ k. h (suc k)) in
    λ i. first i ∷ rest i

paid_map : {X : Type 0} (f : Option Incoming → X) → ((o : Option Incoming) (p : ℕ) → f (with_credit o p) ≡ f o) → (ss : Slots Incoming) (ps : List ℕ) → map f (with_credits ss ps) ≡ map f ss
paid_map f h [] ps = refl
paid_map f h (s ∷ ss) [] = refl
paid_map f h (s ∷ ss) (p ∷ ps) = let first = h s p in let rest = paid_map f h ss ps in λ i. first i ∷ rest i

paid_by : {X : Type 0} (f : Option Incoming → X) → ((o : Option Incoming) (p : ℕ) → f (with_credit o p) ≡ f o) → (b : Bool) (ss : Slots Incoming) (ps : List ℕ) → map f (cond b (with_credits ss ps) ss) ≡ map f ss
paid_by f h true ss ps = paid_map f h ss ps
paid_by f h false ss ps = refl

pub paid_length : (b : Bool) (ss : Slots Incoming) (ps : List ℕ) → length (cond b (with_credits ss ps) ss) ≡ length ss
paid_length true ss ps = length-credits ss ps
paid_length false ss ps = refl

received_paid : (o : Option Incoming) (p : ℕ) → received_of (with_credit o p) ≡ received_of o
received_paid None p = refl
received_paid (Some x) p = refl

read_paid : (o : Option Incoming) (p : ℕ) → read_of (with_credit o p) ≡ read_of o
read_paid None p = refl
read_paid (Some x) p = refl

over_paid : (o : Option Incoming) (p : ℕ) → over_of (with_credit o p) ≡ over_of o
over_paid None p = refl
over_paid (Some x) p = refl

-- once data and money are applied, the ends have risen alone
pub counts_start : (r : Receiving) (amount : ℕ) (fs : List Known) (t : Tally) → length r.streams ≡ 65 → frames_fault r fs ≡ None
    → t.ends ≡ map received_of (after_frames r fs).streams → t.reads ≡ map read_of r.streams → t.over ≡ map over_of r.streams → Counts (after_money (after_frames r fs) amount fs) t
counts_start r amount fs t len e ends reads over =
    let cur = after_frames r fs in
    let k = (all_track r fs len e).1 in
    let b = nat_lt 0 amount in
    record {
      ends = ends ∙ sym (paid_by received_of received_paid b cur.streams _);
      reads = reads ∙ sym k.reads ∙ sym (paid_by read_of read_paid b cur.streams _);
      over = over ∙ same_map over_of r.streams cur.streams (len ∙ sym k.len) (λ j. sym (span_over (held_or (slot r.streams j)) (held_or (slot cur.streams j)) (k.spans j))) ∙ sym (paid_by over_of over_paid b cur.streams _);
      len = paid_length b cur.streams _ ∙ k.len;
    }

-- ---- a ConnectionClose

abort_reads : (code : ℕ) (o : Option Incoming) → read_of (with_abort code o) ≡ aborted_read o
abort_reads code None = refl
abort_reads code (Some x) = by (is_over x.held)
  where
    by : (b : Bool) → read_of (Some (record x { held = cond b x.held (record x.held { bytes = empty; aborted = Some code }) })) ≡ cond b (read_of (Some x)) x.highest
    by true = refl
    by false = refl

abort_again : (code : ℕ) (o : Option Incoming) → aborted_read (with_abort code o) ≡ aborted_read o
abort_again code None = refl
abort_again code (Some x) = by (is_over x.held) refl
  where
    gone : (h : Held) → is_over (record h { bytes = empty; aborted = Some code }) ≡ true
    gone h = or_true (is_some h.end)

    by : (b : Bool) → is_over x.held ≡ b → aborted_read (Some (record x { held = cond b x.held (record x.held { bytes = empty; aborted = Some code }) })) ≡ cond b (read_of (Some x)) x.highest
    by true e = ap (λ o. cond o (read_of (Some x)) x.highest) e
    by false e = ap (λ o. cond o x.highest x.highest) (gone x.held)

map_of_map : (f : Option Incoming → ℕ) (g : Option Incoming → Option Incoming) (h : Option Incoming → ℕ) → ((o : Option Incoming) → f (g o) ≡ h o) → (ss : Slots Incoming) → map f (map g ss) ≡ map h ss
map_of_map f g h e [] = refl
map_of_map f g h e (s ∷ ss) = let first = e s in let rest = map_of_map f g h e ss in λ i. first i ∷ rest i

-- what counts as read once the ConnectionClose frames of a packet are applied
abbrev pub reads_by : Bool → Slots Incoming → List ℕ
reads_by b ss = cond b (map aborted_read ss) (map read_of ss)

both_ways : (b : Bool) (code : ℕ) (ss : Slots Incoming) → reads_by b (map (with_abort code) ss) ≡ map aborted_read ss
both_ways true code ss = map_of_map aborted_read (with_abort code) aborted_read (abort_again code) ss
both_ways false code ss = map_of_map read_of (with_abort code) aborted_read (abort_reads code) ss

connection_reads : (r : Receiving) (f : Known) (b : Bool) → reads_by b (after_connection_close r f).streams ≡ reads_by (closes_connection f || b) r.streams
connection_reads r (CloseFrame (ConnectionClose code message)) b = both_ways b code r.streams
connection_reads r (CloseFrame (StreamClose k code message)) b = refl
connection_reads r (StreamData k o xs) b = refl
connection_reads r (StreamMoney k n) b = refl
connection_reads r (OtherFrame o) b = refl
connection_reads r (LimitFrame l) b = refl
connection_reads r (BlockedFrame blocked) b = refl

pub connections_read : (r : Receiving) (fs : List Known) → map read_of (after_connection_closes r fs).streams ≡ reads_by (list_any closes_connection fs) r.streams
unfolding after_connection_closes
connections_read r [] = refl
connections_read r (f ∷ fs) = connections_read (after_connection_close r f) fs ∙ connection_reads r f (list_any closes_connection fs)

aborted_by : (o : Option Incoming) → cond (over_of o) (read_of o) (received_of o) ≡ aborted_read o
aborted_by None = refl
aborted_by (Some x) = refl

-- what the code makes of its tally
pub aborted_all : (r : Receiving) (t : Tally) (xs : List ℕ) → Counts r t → length xs ≡ 65 → ((k : ℕ) → k < 65 → get_or xs k 0 ≡ cond (get_or t.over k false) (get_or t.reads k 0) (get_or t.ends k 0)) → xs ≡ map aborted_read r.streams
aborted_all r t xs c len h =
    ext_get_or 0 xs (map aborted_read r.streams) (len ∙ sym c.len ∙ sym (length-map r.streams aborted_read)) (λ k l.
    let over = ap (λ os. get_or os k false) c.over ∙ over_at r.streams k in
    let reads = ap (λ rs. get_or rs k 0) c.reads ∙ get_or-map read_of r.streams k refl in
    let ends = ap (λ es. get_or es k 0) c.ends ∙ get_or-map received_of r.streams k refl in
    h k (subst (λ n. k < n) len l) ∙ (λ i. cond (over i) (reads i) (ends i)) ∙ aborted_by (slot r.streams k) ∙ sym (get_or-map aborted_read r.streams k refl))
