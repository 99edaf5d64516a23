-- Lists made stream by stream.
use Rattle.std.proofs.Common.{◌≡◌, ℕ, zero, suc, ◌+◌, ◌<◌, ◌≤◌, Bool, true, false, cond, List, [], ◌∷◌, ◌++◌, length, map, replicate, get_or, Option, Some, None, refl, sym, ap, ◌∙◌, subst, arith}
use Rattle.std.specs.Prelude.{slice_index}
use Rattle.std.proofs.lemmas.List.{append-nil, append_assoc, get_or-replicate}
use Rattle.std.specs.List.{flat_map, range_with_len, list_any}
use Rattle.st_streams.specs.Slots.{slot}
use Rattle.st_frames.specs.Frames.{Known, Packet, frames_of, LimitFrame, ConnectionMaxData}
use Rattle.st_frames.specs.Told.{names}
use Rattle.st_receiver.specs.Streams.{Incoming, Receiving, fresh_incoming, incoming_or, incoming_at, may_name, credited_of}
use Rattle.st_receiver.specs.Data.{frames_fault, after_frames}
use Rattle.st_receiver.specs.Money.{after_money}
use Rattle.st_receiver.specs.Judged.{after_all, effect}
use Rattle.st_receiver.specs.Limits.{connection_limit, told_by, limits_of, limits, named_limits, reply_frames}
use Rattle.st_receiver.specs.Inside.{with_total, limits_with, told_at, told_frames}
use Rattle.st_receiver.proofs.Tracking.{get_or-map}
use Rattle.st_receiver.proofs.Leaving.{effect_names, effect_told}

flat-suc : {X : Type 0} (f : ℕ → List X) (a n : ℕ) → flat_map f (range_with_len a (suc n)) ≡ flat_map f (range_with_len a n) ++ f (a + n)
flat-suc f a zero = let e : a ≡ a + 0 = omega arith in append-nil (f a) ∙ ap f e
flat-suc f a (suc n) =
    let e : (a + 1) + n ≡ a + suc n = omega arith in
    ap (λ r. f a ++ r) (flat-suc f (a + 1) n ∙ ap (λ k. flat_map f (range_with_len (a + 1) n) ++ f k) e) ∙ sym (append_assoc (f a) (flat_map f (range_with_len (a + 1) n)) (f (a + suc n)))

-- one stream more
pub flat-more : {X : Type 0} (f : ℕ → List X) (a n : ℕ) → flat_map f (range_with_len a (n + 1)) ≡ flat_map f (range_with_len a n) ++ f (a + n)
flat-more f a n = let e : suc n ≡ n + 1 = omega arith in subst (λ m. flat_map f (range_with_len a m) ≡ flat_map f (range_with_len a n) ++ f (a + n)) e (flat-suc f a n)

-- lists that are alike for each stream
flat_same : {X : Type 0} (f g : ℕ → List X) (a n : ℕ) → ((k : ℕ) → a ≤ k → k < a + n → f k ≡ g k) → flat_map f (range_with_len a n) ≡ flat_map g (range_with_len a n)
flat_same f g a zero h = refl
flat_same f g a (suc n) h =
    let first = h a (omega arith) (omega arith) in
    let rest = flat_same f g (a + 1) n (λ k l m. h k (omega arith) (omega arith)) in
    λ i. first i ++ rest i

-- the limits of the first streams
abbrev pub first_told : Receiving → (limit : ℕ) → List Bool → List ℕ → ℕ → List Known
first_told r limit named totals n = LimitFrame (ConnectionMaxData limit) ∷ flat_map (told_at r named totals) (range_with_len 1 n)

pub told-more : (r : Receiving) (limit : ℕ) (named : List Bool) (totals : List ℕ) (n : ℕ) (ks : List Known) → ks ≡ first_told r limit named totals n → ks ++ told_at r named totals (n + 1) ≡ first_told r limit named totals (n + 1)
told-more r limit named totals n ks e =
    let at : n + 1 ≡ 1 + n = omega arith in
    ap (λ l. l ++ told_at r named totals (n + 1)) e
    ∙ ap (λ l. LimitFrame (ConnectionMaxData limit) ∷ l) (ap (λ m. flat_map (told_at r named totals) (range_with_len 1 n) ++ told_at r named totals m) at ∙ sym (flat-more (told_at r named totals) 1 n))

pub told-all : (r : Receiving) (limit : ℕ) (named : List Bool) (totals : List ℕ) (n : ℕ) → n ≡ 64 → first_told r limit named totals n ≡ told_frames r limit named totals
unfolding told_frames
told-all r limit named totals n e = ap (first_told r limit named totals) e

-- ---- by what the streams were credited

total_same : (m : ℕ) (o : Option Incoming) → with_total (credited_of o) (incoming_or (fresh_incoming m) o) ≡ incoming_or (fresh_incoming m) o
total_same m None = refl
total_same m (Some x) = refl

with_same : (r : Receiving) (k total : ℕ) → total ≡ credited_of (slot r.streams k) → limits_with r k total ≡ limits_of r k
with_same r k total e = ap (λ x. cond (may_name r k) (told_by k x) []) (ap (λ n. with_total n (incoming_at r k)) e ∙ total_same (slice_index r.kept k) (slot r.streams k))

pub told_limits : (r : Receiving) (limit : ℕ) (totals : List ℕ) → limit ≡ connection_limit r → totals ≡ map credited_of r.streams → told_frames r limit (replicate 65 true) totals ≡ limits r
unfolding told_frames limits
told_limits r limit totals l t =
    let all = flat_same (told_at r (replicate 65 true) totals) (limits_of r) 1 64 (λ k a b.
    ap (λ c. cond c (limits_with r k (slice_index totals k)) []) (get_or-replicate 65 k true false b)
    ∙ with_same r k (slice_index totals k) (ap (λ ns. get_or ns k 0) t ∙ get_or-map credited_of r.streams k refl)) in
    λ i. LimitFrame (ConnectionMaxData (l i)) ∷ all i

-- a reply while nothing changes
pub told_reply : (r : Receiving) (limit : ℕ) (named : List Bool) (totals : List ℕ) (fs : List Known) → limit ≡ connection_limit r → totals ≡ map credited_of r.streams
    → ((k : ℕ) → k < 65 → get_or named k false ≡ list_any (names k) fs) → told_frames r limit named totals ≡ reply_frames r fs
unfolding told_frames reply_frames
told_reply r limit named totals fs l t n =
    let all = flat_same (told_at r named totals) (named_limits r fs) 1 64 (λ k a b.
    ap (λ c. cond c (limits_with r k (slice_index totals k)) []) (n k b)
    ∙ ap (λ ls. cond (list_any (names k) fs) ls []) (with_same r k (slice_index totals k) (ap (λ ns. get_or ns k 0) t ∙ get_or-map credited_of r.streams k refl))) in
    λ i. LimitFrame (ConnectionMaxData (l i)) ∷ all i

told_same : (k : ℕ) (x y : Incoming) (total : ℕ) → y.held.read ≡ x.held.read → y.receive_max ≡ x.receive_max → y.credited ≡ total → told_by k (with_total total x) ≡ told_by k y
told_same k x y total a b c = sym (λ i. told_by k (record x { held = record x.held { read = a i }; receive_max = b i; credited = c i }))

-- a reply once the packet took effect
pub told_effect : (r : Receiving) (p : Packet) (amount limit : ℕ) (named : List Bool) (totals : List ℕ) → length r.streams ≡ 65 → frames_fault r (frames_of p) ≡ None → limit ≡ connection_limit (after_all r amount (frames_of p))
    → ((k : ℕ) → k < 65 → get_or totals k 0 ≡ (incoming_at (after_money (after_frames r (frames_of p)) amount (frames_of p)) k).credited)
    → ((k : ℕ) → k < 65 → get_or named k false ≡ list_any (names k) (frames_of p)) → told_frames r limit named totals ≡ reply_frames (effect r p amount) (frames_of p)
unfolding told_frames reply_frames
told_effect r p amount limit named totals len lawful l t n =
    let fs = frames_of p in
    let after = effect r p amount in
    let all = flat_same (told_at r named totals) (named_limits after fs) 1 64 (λ k a b.
    let same = effect_told r amount fs k len lawful in
    let may = effect_names r amount fs k len lawful in
    let told = told_same k (incoming_at r k) (incoming_at after k) (slice_index totals k) same.read same.receive_max (same.credited ∙ sym (t k b)) in
    ap (λ c. cond c (limits_with r k (slice_index totals k)) []) (n k b) ∙ (λ i. cond (list_any (names k) fs) (cond (sym may i) (told i) []) [])) in
    λ i. LimitFrame (ConnectionMaxData (l i)) ∷ all i
