-- What a packet credits: each stream its part, and the parts are the whole amount.
use Rattle.std.proofs.Common.{◌≡◌, ℕ, zero, suc, ◌+◌, ◌-◌, ◌*◌, ◌/◌, ◌^◌, ◌<◌, ◌≤◌, Bool, true, false, ◌&&◌, ◌||◌, cond, List, [], ◌∷◌, map, length, refl, sym, ap, ◌∙◌, arith, Option, None, Some, nat_lt, nat_le, nat_eq, length-set}
use Rattle.std.specs.Prelude.{sum}
use Rattle.std.specs.List.{range_with_len}
use Rattle.std.proofs.lemmas.List.{length-map}
use Rattle.std.proofs.lemmas.List.FromFn.{length-range_with_len}
use Rattle.std.proofs.lemmas.List.Sums.{sum_by-cons}
use Rattle.std.specs.FinSet as fset
use Rattle.std.proofs.lemmas.Bool.Decides.{nat_tests}
use Rattle.st_frames.specs.Frames.{Known, CloseFrame, ConnectionClose, OtherFrame, LimitFrame, BlockedFrame, StreamClose, StreamMoney, StreamData, Packet, frames_of}
use Rattle.st_frames.specs.Told.{shares, money_in}
use Rattle.st_streams.specs.Slots.{Slots, slot, with_slot}
use Rattle.st_receiver.specs.Streams.{Receiving, Incoming, incoming_at, with_incoming, credited_of}
use Rattle.st_receiver.specs.Data.{with_data, after_frame, after_frames, frames_fault}
use Rattle.st_receiver.specs.Money.{rounded, with_rest, parts, with_credit, with_credits, is_over_max, any_over_max, money_fault, after_money}
use Rattle.st_receiver.specs.Closes.{with_close, after_close, after_closes, with_abort, after_connection_close, after_connection_closes}
use Rattle.st_receiver.specs.Judged.{fault_of, effect}
use Rattle.st_world.proofs.Truths.{or_false, if_none, or_none}

-- ---- sums

sum-cons : (x : ℕ) (xs : List ℕ) → sum (x ∷ xs) ≡ x + sum xs
sum-cons x xs = sum_by-cons (λ n. n) x xs

unfoldable pub credits : Slots Incoming → ℕ
credits xs = sum (map credited_of xs)

pub credits-cons : (x : Option Incoming) (xs : Slots Incoming) → credits (x ∷ xs) ≡ credited_of x + credits xs
unfolding credits
credits-cons x xs = sum-cons (credited_of x) (map credited_of xs)

-- a stream with the same credit
credits_set : (xs : Slots Incoming) (k : ℕ) (x : Incoming) → x.credited ≡ credited_of (slot xs k) → credits (with_slot xs k x) ≡ credits xs
credits_set [] k x e = refl
credits_set (y ∷ ys) zero x e = let a = credits-cons (Some x) ys in let b = credits-cons y ys in omega arith
credits_set (y ∷ ys) (suc k) x e = let a = credits-cons y (with_slot ys k x) in let b = credits-cons y ys in let c = credits_set ys k x e in omega arith

credits_map : (f : Option Incoming → Option Incoming) → ((o : Option Incoming) → credited_of (f o) ≡ credited_of o) → (xs : Slots Incoming) → credits (map f xs) ≡ credits xs
credits_map f e [] = refl
credits_map f e (x ∷ xs) = let a = credits-cons (f x) (map f xs) in let b = credits-cons x xs in let c = credits_map f e xs in let d = e x in omega arith

-- ---- the parts of an amount add up to it (this profile's split)

div_times : (x s : ℕ) → x / s * s ≤ x
div_times x s = grind arith

rounded_sum : (amount all : ℕ) (ms : List ℕ) → sum (rounded amount all ms) * all ≤ amount * sum ms
rounded_sum amount all [] = omega arith
rounded_sum amount all (m ∷ ms) =
    let h = rounded_sum amount all ms in
    let d : amount * m / all * all ≤ amount * m = div_times (amount * m) all in
    let a = sum-cons (amount * m / all) (rounded amount all ms) in
    let b = sum-cons m ms in
    rw (a, b) (grind (arith))

cancel : (x a s : ℕ) → 0 < s → x * s ≤ a * s → x ≤ a
cancel x a s pos h = grind arith

rounded_at_most : (amount : ℕ) (ms : List ℕ) → 0 < sum ms → sum (rounded amount (sum ms) ms) ≤ amount
rounded_at_most amount ms pos = cancel (sum (rounded amount (sum ms) ms)) amount (sum ms) pos (rounded_sum amount (sum ms) ms)

rest_if : (b : Bool) (rest m p : ℕ) (ms ps : List ℕ) → nat_eq m 0 ≡ b → length ms ≡ length ps → ((0 < sum ms) → sum (with_rest rest ms ps) ≡ sum ps + rest) → 0 < sum (m ∷ ms) → sum (cond b (p ∷ with_rest rest ms ps) ((p + rest) ∷ ps)) ≡ sum (p ∷ ps) + rest
rest_if true rest m p ms ps e l h pos =
    let z : m ≡ 0 = grind (arith) in
    let s = sum-cons m ms in
    let k = h (omega arith) in
    let a = sum-cons p (with_rest rest ms ps) in let b = sum-cons p ps in omega arith
rest_if false rest m p ms ps e l h pos = let a = sum-cons (p + rest) ps in let b = sum-cons p ps in omega arith

rest_sum : (rest : ℕ) (ms ps : List ℕ) → length ms ≡ length ps → 0 < sum ms → sum (with_rest rest ms ps) ≡ sum ps + rest
rest_sum rest [] ps l pos = absurd (omega arith)
rest_sum rest (m ∷ ms) [] l pos = absurd (omega arith)
rest_sum rest (m ∷ ms) (p ∷ ps) l pos = let e : length ms ≡ length ps = omega arith in rest_if (nat_eq m 0) rest m p ms ps refl e (λ q. rest_sum rest ms ps e q) pos

pub parts_add_up : (amount : ℕ) (ms : List ℕ) → 0 < sum ms → sum (parts amount ms) ≡ amount
unfolding parts
parts_add_up amount ms pos =
    let ps = rounded amount (sum ms) ms in
    let l : length ms ≡ length ps = sym (length-map ms (λ m. amount * m / sum ms)) in
    let most = rounded_at_most amount ms pos in
    rest_sum (amount - sum ps) ms ps l pos ∙ (let e : sum ps + (amount - sum ps) ≡ amount = omega arith in e)

rest_length : (rest : ℕ) (ms ps : List ℕ) → length (with_rest rest ms ps) ≡ length ps
rest_length rest [] ps = refl
rest_length rest (m ∷ ms) [] = refl
rest_length rest (m ∷ ms) (p ∷ ps) = rest_length_if (nat_eq m 0) rest p ms ps (rest_length rest ms ps)
  where
    rest_length_if : (b : Bool) (rest p : ℕ) (ms ps : List ℕ) → length (with_rest rest ms ps) ≡ length ps → length (cond b (p ∷ with_rest rest ms ps) ((p + rest) ∷ ps)) ≡ length (p ∷ ps)
    rest_length_if true rest p ms ps e = ap suc e
    rest_length_if false rest p ms ps e = refl

parts_length : (amount : ℕ) (ms : List ℕ) → length (parts amount ms) ≡ length ms
unfolding parts
parts_length amount ms = rest_length _ ms (rounded amount (sum ms) ms) ∙ length-map ms (λ m. amount * m / sum ms)

shares_length : (fs : List Known) → length (shares fs) ≡ 65
unfolding shares
shares_length fs = length-map (range_with_len 0 65) (λ k. money_in k fs) ∙ length-range_with_len 0 65

-- ---- crediting

one_credit : (x : Option Incoming) (p : ℕ) → is_over_max x p ≡ false → credited_of (with_credit x p) ≡ credited_of x + p
one_credit None p e = let z : p ≡ 0 = grind (arith, nat_tests) in omega arith
one_credit (Some x) p e = refl

credited_sum : (xs : Slots Incoming) (ps : List ℕ) → length xs ≡ length ps → any_over_max xs ps ≡ false → credits (with_credits xs ps) ≡ credits xs + sum ps
credited_sum [] [] l e = omega arith
credited_sum [] (p ∷ ps) l e = absurd (omega arith)
credited_sum (x ∷ xs) [] l e = absurd (omega arith)
credited_sum (x ∷ xs) (p ∷ ps) l e =
    let f = or_false (is_over_max x p) (any_over_max xs ps) e in
    let a = credits-cons (with_credit x p) (with_credits xs ps) in
    let b = credits-cons x xs in
    let c = credited_sum xs ps (omega arith) f.1 in
    let d = one_credit x p f.0 in
    let s = sum-cons p ps in
    omega arith

credits_length : (xs : Slots Incoming) (ps : List ℕ) → length (with_credits xs ps) ≡ length xs
credits_length [] ps = refl
credits_length (x ∷ xs) [] = refl
credits_length (x ∷ xs) (p ∷ ps) = ap suc (credits_length xs ps)

-- ---- what a step keeps

pub record Keeps (r t : Receiving) : Type 0 where
  pub credit : t.credit ≡ r.credit
  pub fulfilled : t.fulfilled ≡ r.fulfilled
  pub width : length t.streams ≡ length r.streams
  pub total : credits t.streams ≡ credits r.streams

pub keeps_same : (r : Receiving) → Keeps r r
keeps_same r = record { credit = refl; fulfilled = refl; width = refl; total = refl }

keeps_join : (r s t : Receiving) → Keeps r s → Keeps s t → Keeps r t
keeps_join r s t a b = record { credit = b.credit ∙ a.credit; fulfilled = b.fulfilled ∙ a.fulfilled; width = b.width ∙ a.width; total = b.total ∙ a.total }

pub credit_at : (r : Receiving) (k : ℕ) (o : Option Incoming) → slot r.streams k ≡ o → (incoming_at r k).credited ≡ credited_of (slot r.streams k)
credit_at r k None e = rw e refl
credit_at r k (Some x) e = rw e refl

pub keeps_with : (r : Receiving) (k : ℕ) (x : Incoming) → x.credited ≡ (incoming_at r k).credited → Keeps r (with_incoming r k x)
keeps_with r k x e = record { credit = refl; fulfilled = refl; width = length-set r.streams k (Some x); total = credits_set r.streams k x (e ∙ credit_at r k (slot r.streams k) refl) }

frame_keeps : (r : Receiving) (f : Known) → Keeps r (after_frame r f)
frame_keeps r (StreamData k o xs) = keeps_with r k (with_data o xs (incoming_at r k)) refl
frame_keeps r (StreamMoney k n) = keeps_with r k (incoming_at r k) refl
frame_keeps r (CloseFrame (StreamClose k code message)) = keeps_with r k (incoming_at r k) refl
frame_keeps r (CloseFrame (ConnectionClose code message)) = keeps_same r
frame_keeps r (OtherFrame o) = keeps_same r
frame_keeps r (LimitFrame l) = keeps_same r
frame_keeps r (BlockedFrame b) = keeps_same r

pub frames_keep : (fs : List Known) (r : Receiving) → Keeps r (after_frames r fs)
unfolding after_frames
frames_keep [] r = keeps_same r
frames_keep (f ∷ fs) r = keeps_join r (after_frame r f) (after_frames (after_frame r f) fs) (frame_keeps r f) (frames_keep fs (after_frame r f))

close_keeps : (r : Receiving) (f : Known) → Keeps r (after_close r f)
close_keeps r (CloseFrame (StreamClose k code message)) = keeps_with r k (with_close code (incoming_at r k)) refl
close_keeps r (StreamData k o xs) = keeps_same r
close_keeps r (StreamMoney k n) = keeps_same r
close_keeps r (CloseFrame (ConnectionClose code message)) = keeps_same r
close_keeps r (OtherFrame o) = keeps_same r
close_keeps r (LimitFrame l) = keeps_same r
close_keeps r (BlockedFrame b) = keeps_same r

closes_keep : (fs : List Known) (r : Receiving) → Keeps r (after_closes r fs)
unfolding after_closes
closes_keep [] r = keeps_same r
closes_keep (f ∷ fs) r = keeps_join r (after_close r f) (after_closes (after_close r f) fs) (close_keeps r f) (closes_keep fs (after_close r f))

abort_credit : (code : ℕ) (o : Option Incoming) → credited_of (with_abort code o) ≡ credited_of o
abort_credit code None = refl
abort_credit code (Some x) = refl

end_keeps : (r : Receiving) (f : Known) → Keeps r (after_connection_close r f)
end_keeps r (CloseFrame (ConnectionClose code message)) = record { credit = refl; fulfilled = refl; width = length-map r.streams (with_abort code); total = credits_map (with_abort code) (abort_credit code) r.streams }
end_keeps r (CloseFrame (StreamClose k code message)) = keeps_same r
end_keeps r (StreamData k o xs) = keeps_same r
end_keeps r (StreamMoney k n) = keeps_same r
end_keeps r (OtherFrame o) = keeps_same r
end_keeps r (LimitFrame l) = keeps_same r
end_keeps r (BlockedFrame b) = keeps_same r

ends_keep : (fs : List Known) (r : Receiving) → Keeps r (after_connection_closes r fs)
unfolding after_connection_closes
ends_keep [] r = keeps_same r
ends_keep (f ∷ fs) r = keeps_join r (after_connection_close r f) (after_connection_closes (after_connection_close r f) fs) (end_keeps r f) (ends_keep fs (after_connection_close r f))

-- ---- a packet that breaks no rule

pub record Faultless (r : Receiving) (p : Packet) (amount : ℕ) : Type 0 where
  pub first : fset.contains r.fulfilled p.sequence ≡ false
  pub frames : frames_fault r (frames_of p) ≡ None
  pub money : money_fault (after_frames r (frames_of p)) amount (frames_of p) ≡ None

pub faultless : (r : Receiving) (p : Packet) (amount : ℕ) → fault_of r p amount ≡ None → Faultless r p amount
faultless r p amount e =
    let a = if_none r.closed _ _ e in
    let b = if_none (fset.contains r.fulfilled p.sequence) _ _ a.1 in
    let c = if_none (nat_lt amount p.amount) _ _ b.1 in
    let d = or_none (frames_fault r (frames_of p)) (money_fault (after_frames r (frames_of p)) amount (frames_of p)) c.1 in
    record { first = b.0; frames = d.0; money = d.1 }

and_parts : (a b : Bool) → (a && b) ≡ false → a ≡ true → b ≡ false
and_parts true b e f = e
and_parts false b e f = absurd (cc)

credit_if : (b : Bool) (r : Receiving) (amount : ℕ) (ms : List ℕ) → nat_lt 0 amount ≡ b → length r.streams ≡ length (parts amount ms)
    → (nat_lt 0 amount && nat_eq (sum ms) 0) ≡ false → (nat_lt 0 amount && (any_over_max r.streams (parts amount ms) || nat_le (2 ^ 63) (r.credit + amount))) ≡ false
    → credits (cond b (with_credits r.streams (parts amount ms)) r.streams) ≡ credits r.streams + amount
credit_if false r amount ms e l some fits = let z : amount ≡ 0 = grind (arith, nat_tests) in omega arith
credit_if true r amount ms e l some fits =
    let has : 0 < sum ms = let n = and_parts _ _ some e in grind (arith) in
    let over = (or_false _ _ (and_parts _ _ fits e)).0 in
    credited_sum r.streams (parts amount ms) l over ∙ ap (λ n. credits r.streams + n) (parts_add_up amount ms has)

width_if : (b : Bool) (xs : Slots Incoming) (ps : List ℕ) → length (cond b (with_credits xs ps) xs) ≡ length xs
width_if true xs ps = credits_length xs ps
width_if false xs ps = refl

-- what it adds
pub record Adds (r : Receiving) (p : Packet) (amount : ℕ) (t : Receiving) : Type 0 where
  pub credit : t.credit ≡ r.credit + amount
  pub fulfilled : t.fulfilled ≡ fset.insert r.fulfilled p.sequence
  pub width : length t.streams ≡ length r.streams
  pub total : credits t.streams ≡ credits r.streams + amount

pub effect_adds : (r : Receiving) (p : Packet) (amount : ℕ) → length r.streams ≡ 65 → Faultless r p amount → Adds r p amount (effect r p amount)
effect_adds r p amount wide f =
    let fs = frames_of p in
    let s = after_frames r fs in
    let t = after_money s amount fs in
    let u = after_closes t fs in
    let a = frames_keep fs r in
    let c = closes_keep fs t in
    let d = ends_keep fs u in
    let m = if_none _ _ _ f.money in
    let n = if_none _ _ _ m.1 in
    let some = (or_false _ _ m.0).1 in
    let l : length s.streams ≡ length (parts amount (shares fs)) = a.width ∙ wide ∙ sym (parts_length amount (shares fs) ∙ shares_length fs) in
    let money = credit_if (nat_lt 0 amount) s amount (shares fs) refl l some n.0 in
    record {
      credit = d.credit ∙ c.credit ∙ ap (λ z. z + amount) a.credit;
      fulfilled = ap (λ z. fset.insert z p.sequence) (d.fulfilled ∙ c.fulfilled ∙ a.fulfilled);
      width = d.width ∙ c.width ∙ width_if (nat_lt 0 amount) s.streams (parts amount (shares fs)) ∙ a.width;
      total = d.total ∙ c.total ∙ money ∙ ap (λ z. z + amount) a.total;
    }
