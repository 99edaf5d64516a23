-- A reply can be written: its frames fit their fields, and are few and short.
use Rattle.std.proofs.Common.{◌≡◌, ℕ, zero, suc, ◌+◌, ◌*◌, ◌^◌, ◌<◌, ◌≤◌, Bool, true, false, cond, List, [], ◌∷◌, ◌++◌, length, length-append, refl, sym, subst, arith}
use Rattle.std.specs.List.{AllByRecursion, flat_map, list_any, range_with_len}
use Rattle.std.proofs.lemmas.List.Concat.{flat_map-cons}
use Rattle.st_oer.specs.Spelling.{var_uint}
use Rattle.st_frames.specs.Frames.{LimitFrame, ConnectionMaxData, Known, StreamMaxData, StreamMaxMoney, max_packet}
use Rattle.st_frames.specs.Table.{row_of}
use Rattle.st_frames.specs.Told.{names}
use Rattle.st_frames.specs.Written.{AllFit, KnownFits, contents_text, frame_text, frames_text, is_unwritable, packet_length}
use Rattle.st_receiver.specs.Streams.{Incoming, Receiving, incoming_at, may_name}
use Rattle.st_receiver.specs.Limits.{capped, connection_limit, named_limits, reply_frames, told_by}
use Rattle.st_world_quiet.proofs.Lengths.{octets_short, var_uint_small}

-- frames that can be written, in at most `most` bytes
pub record Writes (most : ℕ) (fs : List Known) : Type 0 where
  pub fit : AllFit fs
  pub writable : AllByRecursion (λ f. is_unwritable f ≡ false) fs
  pub short : length (frames_text fs) ≤ most

writes_none : (most : ℕ) → Writes most []
writes_none most = record { fit = tt; writable = tt; short = omega arith }

writes_more : (most : ℕ) (f : Known) (fs : List Known) → KnownFits f → is_unwritable f ≡ false → length (frame_text f) ≤ 40 → Writes most fs → Writes (40 + most) (f ∷ fs)
writes_more most f fs fit writable short w = record {
  fit = (fit, w.fit);
  writable = (writable, w.writable);
  short = (let e = length-append (frame_text f) (frames_text fs) in let rest = w.short in omega (arith, e, short, rest));
}

text_joined : (fs gs : List Known) → length (frames_text (fs ++ gs)) ≡ length (frames_text fs) + length (frames_text gs)
text_joined [] gs = omega arith
text_joined (f ∷ fs) gs =
    let rest = text_joined fs gs in
    let a = length-append (frame_text f) (frames_text (fs ++ gs)) in
    let b = length-append (frame_text f) (frames_text fs) in
    omega (arith, rest, a, b)

fit_joined : (fs gs : List Known) → AllFit fs → AllFit gs → AllFit (fs ++ gs)
fit_joined [] gs a b = b
fit_joined (f ∷ fs) gs a b = (a.0, fit_joined fs gs a.1 b)

writable_joined : (fs gs : List Known) → AllByRecursion (λ f. is_unwritable f ≡ false) fs → AllByRecursion (λ f. is_unwritable f ≡ false) gs → AllByRecursion (λ f. is_unwritable f ≡ false) (fs ++ gs)
writable_joined [] gs a b = b
writable_joined (f ∷ fs) gs a b = (a.0, writable_joined fs gs a.1 b)

writes_joined : (m n : ℕ) (fs gs : List Known) → Writes m fs → Writes n gs → Writes (m + n) (fs ++ gs)
writes_joined m n fs gs a b = record {
  fit = fit_joined fs gs a.fit b.fit;
  writable = writable_joined fs gs a.writable b.writable;
  short = (let e = text_joined fs gs in let x = a.short in let y = b.short in omega (arith, e, x, y));
}

-- ---- the frames that advertise limits

capped_fits : (n : ℕ) → capped n < 2 ^ 64
capped_fits n = omega arith

connection_fits : (v : ℕ) → v < 2 ^ 64 → KnownFits (LimitFrame (ConnectionMaxData v))
unfolding KnownFits row_of
connection_fits v l = (l, tt)

window_fits : (k v : ℕ) → k < 2 ^ 64 → v < 2 ^ 64 → KnownFits (LimitFrame (StreamMaxData k v))
unfolding KnownFits row_of
window_fits k v a b = (a, (b, tt))

money_fits : (k m t : ℕ) → k < 2 ^ 64 → m < 2 ^ 64 → t < 2 ^ 64 → KnownFits (LimitFrame (StreamMaxMoney k m t))
unfolding KnownFits row_of
money_fits k m t a b c = (a, (b, (c, tt)))

connection_short : (v : ℕ) → length (frame_text (LimitFrame (ConnectionMaxData v))) ≤ 40
unfolding frame_text contents_text
connection_short v =
    let u = var_uint_small v in
    let e = length-append (var_uint v) [] in
    let all = octets_short (var_uint v ++ []) (omega (arith, u, e)) in
    omega (arith, u, e, all)

window_short : (k v : ℕ) → length (frame_text (LimitFrame (StreamMaxData k v))) ≤ 40
unfolding frame_text contents_text
window_short k v =
    let a = var_uint_small k in
    let b = var_uint_small v in
    let f = length-append (var_uint v) [] in
    let e = length-append (var_uint k) (var_uint v ++ []) in
    let all = octets_short (var_uint k ++ (var_uint v ++ [])) (omega (arith, a, b, e, f)) in
    omega (arith, a, b, e, f, all)

money_max_short : (k m t : ℕ) → length (frame_text (LimitFrame (StreamMaxMoney k m t))) ≤ 40
unfolding frame_text contents_text
money_max_short k m t =
    let a = var_uint_small k in
    let b = var_uint_small m in
    let c = var_uint_small t in
    let g = length-append (var_uint t) [] in
    let f = length-append (var_uint m) (var_uint t ++ []) in
    let e = length-append (var_uint k) (var_uint m ++ (var_uint t ++ [])) in
    let all = octets_short (var_uint k ++ (var_uint m ++ (var_uint t ++ []))) (omega (arith, a, b, c, e, f, g)) in
    omega (arith, a, b, c, e, f, g, all)

-- ---- the reply

told_writes : (k : ℕ) (x : Incoming) → k < 2 ^ 64 → x.receive_max < 2 ^ 64 → x.credited < 2 ^ 64 → Writes 80 (told_by k x)
told_writes k x a b c =
    writes_more 40 _ _ (window_fits k (capped (x.held.read + 65536)) a (capped_fits (x.held.read + 65536))) refl (window_short k (capped (x.held.read + 65536)))
    (writes_more 0 _ _ (money_fits k x.receive_max x.credited a b c) refl (money_max_short k x.receive_max x.credited) (writes_none 0))

writes_if : (b c : Bool) (fs : List Known) → Writes 80 fs → Writes 80 (cond b (cond c fs []) [])
writes_if true true fs w = w
writes_if true false fs w = writes_none 80
writes_if false c fs w = writes_none 80

all_write : (f : ℕ → List Known) (a m : ℕ) → ((k : ℕ) → k < a + m → Writes 80 (f k)) → Writes (m * 80) (flat_map f (range_with_len a m))
all_write f a zero each = writes_none (zero * 80)
all_write f a (suc m) each =
    let first = each a (omega arith) in
    let rest = all_write f (a + 1) m (λ k l. each k (omega (arith, l))) in
    let joined = writes_joined 80 (m * 80) (f a) (flat_map f (range_with_len (a + 1) m)) first rest in
    subst (Writes (suc m * 80)) (sym (flat_map-cons f a (range_with_len (a + 1) m)))
    (subst (λ n. Writes n (f a ++ flat_map f (range_with_len (a + 1) m))) (let z : 80 + m * 80 ≡ suc m * 80 = omega arith in z) joined)

pub reply_writes : (r : Receiving) (fs : List Known) → ((k : ℕ) → k < 65 → ((incoming_at r k).receive_max < 2 ^ 64) × ((incoming_at r k).credited < 2 ^ 64)) → Writes 5160 (reply_frames r fs)
unfolding reply_frames
reply_writes r fs h =
    writes_more 5120 (LimitFrame (ConnectionMaxData (connection_limit r))) (flat_map (named_limits r fs) (range_with_len 1 64)) (connection_fits (connection_limit r) (capped_fits _)) refl (connection_short (connection_limit r))
    (all_write (named_limits r fs) 1 64 (λ k l. (let at = h k (omega (arith, l)) in writes_if (list_any (names k) fs) (may_name r k) (told_by k (incoming_at r k)) (told_writes k (incoming_at r k) (omega (arith, l)) at.0 at.1))))

-- and so its packet has room
pub writes_room : (sequence amount : ℕ) (fs : List Known) → Writes 5160 fs → packet_length sequence amount fs ≤ max_packet
writes_room sequence amount fs w =
    let a = var_uint_small sequence in
    let b = var_uint_small amount in
    let c = var_uint_small (length fs) in
    let l = w.short in
    omega (arith, a, b, c, l)
