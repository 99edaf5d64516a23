-- Streams that take data, one frame after another, as they are judged before any of it comes.
use Rattle.std.proofs.Common.{◌≡◌, ℕ, zero, suc, ◌+◌, ◌%◌, ◌<◌, Bool, true, false, not, ◌&&◌, ◌||◌, cond, List, [], ◌∷◌, length, map, set, take, get_or, max, Option, Some, None, refl, sym, ap, ◌∙◌, subst, arith, nat_eq, nat_lt, nat_le, inl, inr}
use Rattle.std.specs.Prelude.{is_some, is_err, sum, slice_index}
use Rattle.std.specs.Option.{option_or}
use Rattle.std.proofs.lemmas.List.{map-set, set-get_or, get_or-set_same, get_or-set_other, get_or_read, length-set, length-map}
use Rattle.std.proofs.lemmas.Grind.{common_steps}
use Rattle.std.proofs.lemmas.Bool.{cases_eq}
use Rattle.std.proofs.lemmas.Bool.Decides.{nat_tests}
use Rattle.st_streams.specs.Slots.{Slots, slot}
use Rattle.st_frames.specs.Frames.{Known, CloseFrame, ConnectionClose, OtherFrame, LimitFrame, BlockedFrame, StreamClose, StreamMoney, StreamData}
use Rattle.st_reassembly.specs.Held.{Held, is_over}
use Rattle.st_reassembly.specs.Inserting.{inserted}
use Rattle.st_receiver.specs.declared.reason.Reason.{Reason}
use Rattle.st_receiver.specs.declared.reason.Reason.TheVariants.{FlowControl, StreamId}
use Rattle.st_receiver.specs.Streams.{Incoming, Receiving, fresh_incoming, incoming_or, incoming_at, with_incoming, opened_stream, is_open, may_name, received_of, read_of, delivered_of}
use Rattle.st_receiver.specs.Data.{with_data, after_data, stream_fault, data_fault, frame_fault, after_frame, frames_fault}
use Rattle.st_receiver.specs.Limits.{connection_limit, capped}
use Rattle.st_reassembly.proofs.Pointwise.{joins_after}
use Rattle.st_receiver.proofs.Pieces.{err_same}
use Rattle.st_receiver.specs.Inside.{held_or, held_at, raised, ends_with, piece_fault, told_fault, ends_after, SameSpan, Tracks}

pub get_or-map : (f : Option Incoming → ℕ) (ss : Slots Incoming) (k : ℕ) → f None ≡ 0 → get_or (map f ss) k 0 ≡ f (get_or ss k None)
get_or-map f [] k e = sym e
get_or-map f (s ∷ ss) zero e = refl
get_or-map f (s ∷ ss) (suc k) e = get_or-map f ss k e

next_sum : (xs : List ℕ) (i x : ℕ) → i < length xs → x ≡ get_or xs i 0 → sum (take (i + 1) xs) ≡ sum (take i xs) + x
next_sum xs i x l e = grind (arith, common_steps)

pub read_more : (ss : Slots Incoming) (i : ℕ) (o : Option Incoming) (r : ℕ) → i < length ss → o ≡ get_or ss i o → r ≡ read_of o → sum (take (i + 1) (map read_of ss)) ≡ sum (take i (map read_of ss)) + r
read_more ss i o r l e f =
    next_sum (map read_of ss) i r (subst (λ n. i < n) (sym (length-map ss read_of)) l) (f ∙ ap read_of (get_or_read ss i o l e None) ∙ sym (get_or-map read_of ss i refl))

pub delivered_more : (ss : Slots Incoming) (i : ℕ) (o : Option Incoming) (r : ℕ) → i < length ss → o ≡ get_or ss i o → r ≡ delivered_of o → sum (take (i + 1) (map delivered_of ss)) ≡ sum (take i (map delivered_of ss)) + r
delivered_more ss i o r l e f =
    next_sum (map delivered_of ss) i r (subst (λ n. i < n) (sym (length-map ss delivered_of)) l) (f ∙ ap delivered_of (get_or_read ss i o l e None) ∙ sym (get_or-map delivered_of ss i refl))

-- ---- what a stream holds

pub held_is : (m : ℕ) (o : Option Incoming) → (incoming_or (fresh_incoming m) o).held ≡ held_or o
held_is m None = refl
held_is m (Some x) = refl

pub highest_is : (m : ℕ) (o : Option Incoming) → (incoming_or (fresh_incoming m) o).highest ≡ received_of o
highest_is m None = refl
highest_is m (Some x) = refl

pub read_is : (m : ℕ) (o : Option Incoming) → read_of (Some (incoming_or (fresh_incoming m) o)) ≡ read_of o
read_is m None = refl
read_is m (Some x) = refl

-- ---- what data keep

span_itself : (s : Held) → SameSpan s s
span_itself s = record { read = refl; end = refl; aborted = refl }

span_join : (s t u : Held) → SameSpan s t → SameSpan t u → SameSpan s u
span_join s t u a b = record { read = b.read ∙ a.read; end = b.end ∙ a.end; aborted = b.aborted ∙ a.aborted }

pub span_over : (s t : Held) → SameSpan s t → is_over t ≡ is_over s
span_over s t e = λ i. is_some (e.end i) || is_some (e.aborted i)

span_err : (s t : Held) (o : ℕ) (xs : List ℕ) → SameSpan s t → is_err (inserted o xs t) ≡ is_err (inserted o xs s)
span_err s t o xs e = err_same o xs t s (λ i. (not (is_some (e.end i) || is_some (e.aborted i)) && nat_lt (e.read i + 65536) (o + length xs)))

span_raised : (s t : Held) (h o : ℕ) (xs : List ℕ) → SameSpan s t → raised t h o xs ≡ raised s h o xs
span_raised s t h o xs e = ap (λ b. cond (b || nat_eq (length xs) 0) h (max h (o + length xs))) (span_over s t e)

span_data : (x : Incoming) (o : ℕ) (xs : List ℕ) → SameSpan x.held (with_data o xs x).held
span_data x o xs = let j = joins_after o xs x.held in record { read = j.read; end = j.end; aborted = j.aborted }

or_true : (b : Bool) → (b || true) ≡ true
or_true true = refl
or_true false = refl

-- what was read of a stream stays as data come
raised_over : (a : Option ℕ) (h : Held) (highest o : ℕ) (xs : List ℕ) (r : ℕ) → h.aborted ≡ a → cond (is_some a) (raised h highest o xs) r ≡ cond (is_some a) highest r
raised_over None h highest o xs r e = refl
raised_over (Some c) h highest o xs r e =
    let over : is_over h ≡ true = ap (λ q. is_some h.end || is_some q) e ∙ or_true (is_some h.end) in ap (λ b. cond (b || nat_eq (length xs) 0) highest (max highest (o + length xs))) over

read_data : (x : Incoming) (o : ℕ) (xs : List ℕ) → read_of (Some (with_data o xs x)) ≡ read_of (Some x)
read_data x o xs =
    let j = joins_after o xs x.held in
    (λ i. cond (is_some (j.aborted i)) (raised x.held x.highest o xs) (j.read i)) ∙ raised_over x.held.aborted x.held x.highest o xs x.held.read refl

-- ---- a stream that is written, and the others

at_set : (ss : Slots Incoming) (k : ℕ) (x : Incoming) (P : ℕ → Held → Type 0) → k < length ss → P k x.held → ((j : ℕ) → P j (held_or (slot ss j))) → (j : ℕ) → P j (held_or (slot (set ss k (Some x)) j))
at_set ss k x P l here others j =
    elim (cases_eq j k) [
      | inl e ↦ subst (λ i. P i (held_or (slot (set ss k (Some x)) i))) (sym e) (subst (λ o. P k (held_or o)) (sym (get_or-set_same ss k (Some x) None l)) here)
      | inr n ↦ subst (λ o. P j (held_or o)) (sym (get_or-set_other ss k j (Some x) None n)) (others j)
    ]

named : (b o c : Bool) → (b && o) ≡ true → (b && (true || c)) ≡ (b && o)
named true o c e = sym e
named false o c e = refl

below : (k : ℕ) (o : Bool) → (nat_le 1 k && nat_le k 64 && o) ≡ true → k < 65
below k true e = grind (arith, nat_tests)
below k false e = grind (arith, nat_tests)

-- what may be named stays as a stream that may be named is written
pub names_with : (r : Receiving) (k : ℕ) (y : Incoming) → length r.streams ≡ 65 → may_name r k ≡ true → (j : ℕ) → may_name (with_incoming r k y) j ≡ may_name r j
names_with r k y len may j = elim (cases_eq j k) [
  | inl e ↦ subst (λ i. may_name (with_incoming r k y) i ≡ may_name r i) (sym e)
      (ap (λ o. nat_le 1 k && nat_le k 64 && (is_some o || not (nat_eq (k % 2) r.parity))) (get_or-set_same r.streams k (Some y) None (subst (λ n. k < n) (sym len) (below k _ may)))
      ∙ named (nat_le 1 k && nat_le k 64) (is_open r k || not (nat_eq (k % 2) r.parity)) (not (nat_eq (k % 2) r.parity)) may)
  | inr n ↦ ap (λ o. nat_le 1 j && nat_le j 64 && (is_some o || not (nat_eq (j % 2) r.parity))) (get_or-set_other r.streams k j (Some y) None n)
]

pub tracks-with : (r cur : Receiving) (ends : List ℕ) (k : ℕ) (y : Incoming) (h : ℕ) → may_name r k ≡ true → Tracks r cur ends
    → SameSpan (held_at cur k) y.held → y.highest ≡ h → read_of (Some y) ≡ read_of (slot cur.streams k) → Tracks r (with_incoming cur k y) (set ends k h)
tracks-with r cur ends k y h may t span high read =
    let ss = cur.streams in
    let in_cur : k < length ss = subst (λ n. k < n) (sym t.len) (below k _ may) in
    record {
      highest = ap (λ es. set es k h) t.highest ∙ ap (set (map received_of ss) k) (sym high) ∙ sym (map-set received_of ss k (Some y));
      reads = map-set read_of ss k (Some y) ∙ ap (set (map read_of ss) k) (read ∙ sym (get_or-map read_of ss k refl)) ∙ set-get_or (map read_of ss) k 0 ∙ t.reads;
      spans = at_set ss k y (λ j z. SameSpan (held_at r j) z) in_cur (span_join (held_at r k) (held_at cur k) y.held (t.spans k) span) t.spans;
      names = λ j. names_with cur k y t.len (t.names k ∙ may) j ∙ t.names j;
      len = length-set ss k (Some y) ∙ t.len;
    }

end_at : (r cur : Receiving) (ends : List ℕ) (k : ℕ) → Tracks r cur ends → get_or ends k 0 ≡ received_of (slot cur.streams k)
end_at r cur ends k t = ap (λ es. get_or es k 0) t.highest ∙ get_or-map received_of cur.streams k refl

-- what data would raise the end to
end_with : (r cur : Receiving) (ends : List ℕ) (k o : ℕ) (xs : List ℕ) → Tracks r cur ends → (with_data o xs (incoming_at cur k)).highest ≡ raised (held_at r k) (slice_index ends k) o xs
end_with r cur ends k o xs t =
    let x = incoming_at cur k in
    ap (λ h. raised h x.highest o xs) (held_is (slice_index cur.kept k) (slot cur.streams k))
    ∙ span_raised (held_at r k) (held_at cur k) x.highest o xs (t.spans k)
    ∙ ap (λ n. raised (held_at r k) n o xs) (highest_is (slice_index cur.kept k) (slot cur.streams k) ∙ sym (end_at r cur ends k t))

tracks-data : (r cur : Receiving) (ends : List ℕ) (k o : ℕ) (xs : List ℕ) → may_name r k ≡ true → Tracks r cur ends → Tracks r (after_data cur k o xs) (ends_with r ends k o xs)
tracks-data r cur ends k o xs may t =
    let x = incoming_at cur k in
    let held = held_is (slice_index cur.kept k) (slot cur.streams k) in
    tracks-with r cur ends k (with_data o xs x) (raised (held_at r k) (slice_index ends k) o xs) may t
    (subst (λ s. SameSpan s (with_data o xs x).held) held (span_data x o xs)) (end_with r cur ends k o xs t)
    (read_data x o xs ∙ read_is (slice_index cur.kept k) (slot cur.streams k))

tracks-open : (r cur : Receiving) (ends : List ℕ) (k : ℕ) → may_name r k ≡ true → Tracks r cur ends → Tracks r (opened_stream cur k) ends
tracks-open r cur ends k may t =
    let x = incoming_at cur k in
    let m = slice_index cur.kept k in
    subst (λ es. Tracks r (opened_stream cur k) es) (set-get_or ends k 0)
    (tracks-with r cur ends k x (get_or ends k 0) may t
    (subst (λ s. SameSpan (held_at cur k) s) (sym (held_is m (slot cur.streams k))) (span_itself (held_at cur k)))
    (highest_is m (slot cur.streams k) ∙ sym (end_at r cur ends k t))
    (read_is m (slot cur.streams k)))

pub may_of : (a : Bool) (o : Option Reason) → option_or (cond a None (Some StreamId)) o ≡ None → a ≡ true
may_of true o e = refl
may_of false o e = absurd cc

pub may_alone : (a : Bool) → cond a None (Some StreamId) ≡ None → a ≡ true
may_alone true e = refl
may_alone false e = absurd cc

-- a frame that breaks no rule is counted
pub tracks-next : (r cur : Receiving) (ends : List ℕ) (limit : ℕ) (f : Known) → told_fault r ends limit f ≡ None → Tracks r cur ends → Tracks r (after_frame cur f) (ends_after r ends f)
tracks-next r cur ends limit (StreamData k o xs) e t = tracks-data r cur ends k o xs (may_of (may_name r k) (piece_fault r ends limit k o xs) e) t
tracks-next r cur ends limit (StreamMoney k n) e t = tracks-open r cur ends k (may_alone (may_name r k) e) t
tracks-next r cur ends limit (CloseFrame (StreamClose k code message)) e t = tracks-open r cur ends k (may_alone (may_name r k) e) t
tracks-next r cur ends limit (CloseFrame (ConnectionClose code message)) e t = t
tracks-next r cur ends limit (OtherFrame o) e t = t
tracks-next r cur ends limit (LimitFrame l) e t = t
tracks-next r cur ends limit (BlockedFrame b) e t = t

stream_same : (r cur : Receiving) (ends : List ℕ) (k : ℕ) → Tracks r cur ends → stream_fault r k ≡ stream_fault cur k
stream_same r cur ends k t = ap (λ b. cond b None (Some StreamId)) (sym (t.names k))

piece_same : (r cur : Receiving) (ends : List ℕ) (limit k o : ℕ) (xs : List ℕ) → limit ≡ connection_limit r → Tracks r cur ends → piece_fault r ends limit k o xs ≡ data_fault cur k o xs
piece_same r cur ends limit k o xs b t =
    let x = incoming_at cur k in
    let span : SameSpan (held_at r k) x.held = subst (λ s. SameSpan (held_at r k) s) (sym (held_is (slice_index cur.kept k) (slot cur.streams k))) (t.spans k) in
    let err = sym (span_err (held_at r k) x.held o xs span) in
    let over = sym (span_over (held_at r k) x.held span) in
    let bound : limit ≡ connection_limit cur = b ∙ ap (λ rs. capped (sum rs + 1048576)) (sym t.reads) in
    let all : ends_with r ends k o xs ≡ map received_of (after_data cur k o xs).streams =
    ap (λ es. set es k (raised (held_at r k) (slice_index ends k) o xs)) t.highest
    ∙ ap (set (map received_of cur.streams) k) (sym (end_with r cur ends k o xs t)) ∙ sym (map-set received_of cur.streams k (Some (with_data o xs x))) in
    λ i. cond (err i || (not (over i || nat_eq (length xs) 0) && nat_lt (bound i) (sum (all i)))) (Some FlowControl) None

-- a frame is judged by what was as by what the frames before it leave
pub tracks-fault : (r cur : Receiving) (ends : List ℕ) (limit : ℕ) (f : Known) → limit ≡ connection_limit r → Tracks r cur ends → told_fault r ends limit f ≡ frame_fault cur f
tracks-fault r cur ends limit (StreamData k o xs) b t = λ i. option_or (stream_same r cur ends k t i) (piece_same r cur ends limit k o xs b t i)
tracks-fault r cur ends limit (StreamMoney k n) b t = stream_same r cur ends k t
tracks-fault r cur ends limit (CloseFrame (StreamClose k code message)) b t = stream_same r cur ends k t
tracks-fault r cur ends limit (CloseFrame (ConnectionClose code message)) b t = refl
tracks-fault r cur ends limit (OtherFrame o) b t = refl
tracks-fault r cur ends limit (LimitFrame l) b t = refl
tracks-fault r cur ends limit (BlockedFrame blocked) b t = refl

pub tracks-itself : (r : Receiving) → length r.streams ≡ 65 → Tracks r r (map received_of r.streams)
tracks-itself r l = record { highest = refl; reads = refl; spans = λ k. span_itself (held_at r k); names = λ k. refl; len = l }

-- ---- the first frame that breaks a rule

fault-cons : (r : Receiving) (f : Known) (fs : List Known) → frames_fault r (f ∷ fs) ≡ option_or (frame_fault r f) (frames_fault (after_frame r f) fs)
unfolding frames_fault
fault-cons r f fs = refl

pub fault-nil : (r : Receiving) → frames_fault r [] ≡ None
unfolding frames_fault
fault-nil r = refl

pub first_some : (cur : Receiving) (f : Known) (fs : List Known) (r : Option Reason) → r ≡ frame_fault cur f → is_some r ≡ true → r ≡ frames_fault cur (f ∷ fs)
first_some cur f fs None h is = absurd cc
first_some cur f fs (Some r) h is = ap (λ o. option_or o (frames_fault (after_frame cur f) fs)) h ∙ sym (fault-cons cur f fs)

pub first_none : (cur : Receiving) (f : Known) (fs : List Known) → frame_fault cur f ≡ None → frames_fault (after_frame cur f) fs ≡ frames_fault cur (f ∷ fs)
first_none cur f fs h = sym (fault-cons cur f fs ∙ ap (λ o. option_or o (frames_fault (after_frame cur f) fs)) h)

pub none_from : (r : Option Reason) → is_some r ≡ false → r ≡ None
none_from None e = refl
none_from (Some x) e = absurd cc

both_none : (a b : Option Reason) → option_or a b ≡ None → (a ≡ None) × (b ≡ None)
both_none None b e = (refl, e)
both_none (Some x) b e = absurd cc

-- if no frame of a list breaks a rule
pub frames_none : (cur : Receiving) (f : Known) (fs : List Known) → frames_fault cur (f ∷ fs) ≡ None → (frame_fault cur f ≡ None) × (frames_fault (after_frame cur f) fs ≡ None)
frames_none cur f fs e = both_none (frame_fault cur f) (frames_fault (after_frame cur f) fs) (sym (fault-cons cur f fs) ∙ e)
