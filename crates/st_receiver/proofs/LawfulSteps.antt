-- What stays true of all that an end receives: step by step.
use Rattle.std.proofs.Common.{◌≡◌, ℕ, zero, suc, ◌+◌, ◌<◌, Bool, true, false, ◌||◌, cond, List, [], ◌∷◌, length, map, take, get_or, replicate, Option, Some, None, refl, sym, ap, ◌∙◌, subst, arith, nat_eq, nat_lt, inl, inr}
use Rattle.std.specs.Prelude.{is_some, sum, slice_index}
use Rattle.std.proofs.lemmas.List.{length-set, length-map}
use Rattle.std.proofs.lemmas.Bool.Decides.{nat_tests}
use Rattle.st_streams.specs.Slots.{Slots, slot}
use Rattle.st_streams.proofs.SlotLemmas.{slot_cases, slot_map}
use Rattle.st_frames.specs.Frames.{Known, Packet, frames_of, CloseFrame, ConnectionClose, OtherFrame, LimitFrame, BlockedFrame, StreamClose, StreamMoney, StreamData}
use Rattle.st_frames.specs.Told.{shares}
use Rattle.st_reassembly.specs.Held.{Held, is_over}
use Rattle.st_reassembly.specs.Run.{run, after_take}
use Rattle.st_reassembly.specs.Closing.{past_all, after_abort}
use Rattle.st_reassembly.proofs.Pointwise.{reads_after}
use Rattle.st_receiver.specs.Streams.{Incoming, Receiving, new_receiving, fresh_incoming, incoming_or, incoming_at, with_incoming, opened_stream, is_open, credited_of, with_max, with_kept, with_receive_max}
use Rattle.st_receiver.specs.Data.{with_data, after_frame, after_frames}
use Rattle.st_receiver.specs.Money.{parts, with_credit, with_credits, money_fault, after_money}
use Rattle.st_receiver.specs.Closes.{with_close, after_close, after_closes, with_abort, after_connection_close, after_connection_closes}
use Rattle.st_receiver.specs.Reading.{after_bytes, after_got_by, after_get, after_got}
use Rattle.st_receiver.specs.Judged.{fault_of, effect}
use Rattle.st_receiver.specs.Lawful.{EndsAtHighest, IsLawful}
use Rattle.st_receiver.proofs.Splits.{sum-cons, parts-sum, length-parts, length_shares}
use Rattle.st_receiver.proofs.Crediting.{lawful_of, money_lawful, credited_or, closed_part}
use Rattle.st_receiver.proofs.Tallying.{same_at, closed_over, paid_length}
use Rattle.st_receiver.proofs.HighestEnds.{data_ends, take_past, fresh_past}

abbrev AllEnd : Receiving → Type 0
AllEnd r = (k : ℕ) (x : Incoming) → slot r.streams k ≡ Some x → EndsAtHighest x

some_same : (x y : Incoming) → ◌≡◌ {A = Option Incoming} (Some x) (Some y) → x ≡ y
some_same x y e = ap (incoming_or y) e

fresh_ends : (m : ℕ) → EndsAtHighest (fresh_incoming m)
fresh_ends m over = fresh_past

ends_at : (r : Receiving) (k : ℕ) → AllEnd r → EndsAtHighest (incoming_at r k)
ends_at r k h = by (slot r.streams k) refl
  where
    by : (o : Option Incoming) → slot r.streams k ≡ o → EndsAtHighest (incoming_or (fresh_incoming (slice_index r.kept k)) o)
    by None e = fresh_ends (slice_index r.kept k)
    by (Some x) e = h k x e

ends_with : (r : Receiving) (k : ℕ) (y : Incoming) → EndsAtHighest y → AllEnd r → AllEnd (with_incoming r k y)
ends_with r k y new h j x e = elim (slot_cases r.streams k y j) [
  | inl same ↦ subst EndsAtHighest (some_same y x (sym same.1 ∙ subst (λ i. slot (with_incoming r k y).streams i ≡ Some x) same.0 e)) new
  | inr other ↦ h j x (sym other ∙ e)
]

-- a step that keeps the ends and the credits
pub record Follows (r s : Receiving) : Type 0 where
  pub ends : AllEnd r → AllEnd s
  pub credits : map credited_of s.streams ≡ map credited_of r.streams
  pub credit : s.credit ≡ r.credit
  pub len : length s.streams ≡ length r.streams

itself : (r : Receiving) → Follows r r
itself r = record { ends = λ h. h; credits = refl; credit = refl; len = refl }

join : (r s t : Receiving) → Follows r s → Follows s t → Follows r t
join r s t a b = record { ends = λ h. b.ends (a.ends h); credits = b.credits ∙ a.credits; credit = b.credit ∙ a.credit; len = b.len ∙ a.len }

lawful_after : (r s : Receiving) → Follows r s → IsLawful r → IsLawful s
lawful_after r s f l = record { places = f.len ∙ l.places; ends = f.ends l.ends; credits = ap sum f.credits ∙ l.credits ∙ sym f.credit }

written : (r : Receiving) (k : ℕ) (y : Incoming) → (EndsAtHighest (incoming_at r k) → EndsAtHighest y) → y.credited ≡ (incoming_at r k).credited → Follows r (with_incoming r k y)
written r k y f e = record {
  ends = λ h. ends_with r k y (f (ends_at r k h)) h;
  credits = same_at credited_of 0 r.streams k (Some y) refl (e ∙ sym (credited_or (slice_index r.kept k) (slot r.streams k)));
  credit = refl;
  len = length-set r.streams k (Some y);
}

frame_follows : (r : Receiving) (f : Known) → Follows r (after_frame r f)
frame_follows r (StreamData k o xs) = written r k (with_data o xs (incoming_at r k)) (data_ends (incoming_at r k) o xs) refl
frame_follows r (StreamMoney k n) = written r k (incoming_at r k) (λ h. h) refl
frame_follows r (CloseFrame (StreamClose k code message)) = written r k (incoming_at r k) (λ h. h) refl
frame_follows r (CloseFrame (ConnectionClose code message)) = itself r
frame_follows r (OtherFrame o) = itself r
frame_follows r (LimitFrame l) = itself r
frame_follows r (BlockedFrame b) = itself r

frames_follow : (r : Receiving) (fs : List Known) → Follows r (after_frames r fs)
unfolding after_frames
frames_follow r [] = itself r
frames_follow r (f ∷ fs) = join r (after_frame r f) (after_frames (after_frame r f) fs) (frame_follows r f) (frames_follow (after_frame r f) fs)

-- ---- closes

-- what is over would fix no end
over_ends : (x : Incoming) → is_over x.held ≡ true → EndsAtHighest x
over_ends x e over = absurd (let z : true ≡ false = sym e ∙ over in cc)

close_ends : (code : ℕ) (x : Incoming) → EndsAtHighest (with_close code x)
close_ends code x = over_ends (with_close code x) (closed_over (is_over x.held) (nat_eq code 1) x.held (Some (past_all x.held)) (Some code) refl refl refl)

close_follows : (r : Receiving) (f : Known) → Follows r (after_close r f)
close_follows r (CloseFrame (StreamClose k code message)) = written r k (with_close code (incoming_at r k)) (λ h. close_ends code (incoming_at r k)) refl
close_follows r (StreamData k o xs) = itself r
close_follows r (StreamMoney k n) = itself r
close_follows r (CloseFrame (ConnectionClose code message)) = itself r
close_follows r (OtherFrame o) = itself r
close_follows r (LimitFrame l) = itself r
close_follows r (BlockedFrame b) = itself r

closes_follow : (r : Receiving) (fs : List Known) → Follows r (after_closes r fs)
unfolding after_closes
closes_follow r [] = itself r
closes_follow r (f ∷ fs) = join r (after_close r f) (after_closes (after_close r f) fs) (close_follows r f) (closes_follow (after_close r f) fs)

aborted_ends : (code : ℕ) (o : Option Incoming) (x : Incoming) → with_abort code o ≡ Some x → EndsAtHighest x
aborted_ends code None x e = absurd cc
aborted_ends code (Some y) x e = subst EndsAtHighest (some_same (record y { held = after_abort code y.held }) x e)
    (over_ends (record y { held = after_abort code y.held }) (closed_over (is_over y.held) false y.held (Some 0) (Some code) refl refl refl))

aborted_credit : (code : ℕ) (o : Option Incoming) → credited_of (with_abort code o) ≡ credited_of o
aborted_credit code None = refl
aborted_credit code (Some x) = refl

aborted_credits : (code : ℕ) (ss : Slots Incoming) → map credited_of (map (with_abort code) ss) ≡ map credited_of ss
aborted_credits code [] = refl
aborted_credits code (s ∷ ss) = let first = aborted_credit code s in let rest = aborted_credits code ss in λ i. first i ∷ rest i

connection_follows : (r : Receiving) (f : Known) → Follows r (after_connection_close r f)
connection_follows r (CloseFrame (ConnectionClose code message)) = record {
  ends = λ h k x e. aborted_ends code (slot r.streams k) x (sym (slot_map (with_abort code) refl r.streams k) ∙ e);
  credits = aborted_credits code r.streams;
  credit = refl;
  len = length-map r.streams (with_abort code);
}
connection_follows r (CloseFrame (StreamClose k code message)) = itself r
connection_follows r (StreamData k o xs) = itself r
connection_follows r (StreamMoney k n) = itself r
connection_follows r (OtherFrame o) = itself r
connection_follows r (LimitFrame l) = itself r
connection_follows r (BlockedFrame b) = itself r

connections_follow : (r : Receiving) (fs : List Known) → Follows r (after_connection_closes r fs)
unfolding after_connection_closes
connections_follow r [] = itself r
connections_follow r (f ∷ fs) = join r (after_connection_close r f) (after_connection_closes (after_connection_close r f) fs) (connection_follows r f) (connections_follow (after_connection_close r f) fs)

-- ---- money

paid_ends : (ss : Slots Incoming) (ps : List ℕ) (k : ℕ) (x : Incoming) → slot (with_credits ss ps) k ≡ Some x → ((y : Incoming) → slot ss k ≡ Some y → EndsAtHighest y) → EndsAtHighest x
paid_ends [] ps k x e h = h x e
paid_ends (s ∷ ss) [] k x e h = h x e
paid_ends (None ∷ ss) (p ∷ ps) zero x e h = absurd cc
paid_ends (Some y ∷ ss) (p ∷ ps) zero x e h = subst EndsAtHighest (some_same _ x e) (h y refl)
paid_ends (s ∷ ss) (p ∷ ps) (suc k) x e h = paid_ends ss ps k x e h

paid_sum : (ss : Slots Incoming) (ps : List ℕ) → length ps ≡ length ss → ((k : ℕ) → k < length ss → is_some (slot ss k) ≡ false → get_or ps k 0 ≡ 0)
    → sum (map credited_of (with_credits ss ps)) ≡ sum (map credited_of ss) + sum ps
paid_sum [] [] l h = refl
paid_sum [] (p ∷ ps) l h = absurd (omega arith)
paid_sum (s ∷ ss) [] l h = absurd (omega arith)
paid_sum (s ∷ ss) (p ∷ ps) l h =
    let rest = paid_sum ss ps (omega arith) (λ k m. h (suc k) (omega arith)) in
    let first : credited_of (with_credit s p) ≡ credited_of s + p = by s (h 0 (omega arith)) in
    let a = sum-cons (credited_of (with_credit s p)) (map credited_of (with_credits ss ps)) in
    let b = sum-cons (credited_of s) (map credited_of ss) in
    let c = sum-cons p ps in
    omega (arith, rest, first, a, b, c)
  where
    by : (s : Option Incoming) → (is_some s ≡ false → p ≡ 0) → credited_of (with_credit s p) ≡ credited_of s + p
    by (Some x) z = refl
    by None z = let e = z refl in omega (arith, e)

money_ends : (b : Bool) (ss : Slots Incoming) (ps : List ℕ) (k : ℕ) (x : Incoming) → slot (cond b (with_credits ss ps) ss) k ≡ Some x → ((y : Incoming) → slot ss k ≡ Some y → EndsAtHighest y) → EndsAtHighest x
money_ends true ss ps k x e h = paid_ends ss ps k x e h
money_ends false ss ps k x e h = h x e

positive : (n : ℕ) → nat_lt 0 n ≡ true → 0 < n
positive n e = grind (arith, nat_tests)

none_paid : (n : ℕ) → nat_lt 0 n ≡ false → n ≡ 0
none_paid n e = grind (arith, nat_tests)

money_lawfully : (r : Receiving) (amount : ℕ) (fs : List Known) → length r.streams ≡ 65 → money_fault (after_frames r fs) amount fs ≡ None → IsLawful (after_frames r fs) → IsLawful (after_money (after_frames r fs) amount fs)
money_lawfully r amount fs len lawful l =
    let t = after_frames r fs in
    let ps = parts amount (shares fs) in
    record {
      places = paid_length (nat_lt 0 amount) t.streams ps ∙ l.places;
      ends = λ k x e. money_ends (nat_lt 0 amount) t.streams ps k x e (l.ends k);
      credits = by (nat_lt 0 amount) refl;
    }
  where
    by : (b : Bool) → nat_lt 0 amount ≡ b → sum (map credited_of (cond b (with_credits (after_frames r fs).streams (parts amount (shares fs))) (after_frames r fs).streams)) ≡ (after_frames r fs).credit + amount
    by true e =
        let t = after_frames r fs in
        let ps = parts amount (shares fs) in
        let long : length ps ≡ length t.streams = length-parts amount (shares fs) ∙ length_shares fs ∙ sym l.places in
        let all = paid_sum t.streams ps long (λ k m shut. closed_part r fs amount k len (subst (λ n. k < n) l.places m) shut) in
        let whole = parts-sum amount (shares fs) (money_lawful t amount fs lawful (positive amount e)).some in
        let was = l.credits in
        omega (arith, all, whole, was)
    by false e = let was = l.credits in let z = none_paid amount e in omega (arith, was, z)

pub packet_lawful : (r : Receiving) (p : Packet) (amount : ℕ) → IsLawful r → fault_of r p amount ≡ None → IsLawful (effect r p amount)
packet_lawful r p amount l e =
    let fs = frames_of p in
    let n = lawful_of r p amount e in
    let t = after_frames r fs in
    let m = after_money t amount fs in
    let c = after_closes m fs in
    let paid = money_lawfully r amount fs l.places n.1 (lawful_after r t (frames_follow r fs) l) in
    let done = lawful_after m (after_connection_closes c fs) (join m c (after_connection_closes c fs) (closes_follow m fs) (connections_follow c fs)) paid in
    record { places = done.places; ends = done.ends; credits = done.credits }

-- ---- all else

-- what a read leaves
got_ends : (limit : ℕ) (x : Incoming) → EndsAtHighest x → EndsAtHighest (after_get limit x)
got_ends limit x h = by x.held.aborted
  where
    Left : Held → Type 0
    Left g = is_over g ≡ false → x.highest ≡ past_all g

    took : Left (after_take limit x.held)
    took over =
        let w = reads_after (length (take limit (run x.held))) x.held in
        let was : is_over x.held ≡ false = (λ i. is_some (sym w.end i) || is_some (sym w.aborted i)) ∙ over in
        h was ∙ take_past x.held limit

    some : (xs : List ℕ) → Left (after_bytes limit x.held xs)
    some [] = h
    some (b ∷ xs) = took

    by : (a : Option ℕ) → Left (after_got_by a limit x.held)
    by (Some code) = h
    by None = some (take limit (run x.held))

pub read_lawful : (r : Receiving) (k limit : ℕ) → IsLawful r → IsLawful (after_got r k limit)
read_lawful r k limit = lawful_after r (after_got r k limit) (written r k (after_get limit (incoming_at r k)) (got_ends limit (incoming_at r k)) refl)

pub open_lawful : (r : Receiving) (k : ℕ) → IsLawful r → IsLawful (opened_stream r k)
open_lawful r k = lawful_after r (opened_stream r k) (written r k (incoming_at r k) (λ h. h) refl)

pub max_lawful : (r : Receiving) (k amount : ℕ) → IsLawful r → IsLawful (with_receive_max r k amount)
max_lawful r k amount l = by (is_open r k)
  where
    by : (b : Bool) → IsLawful (cond b (with_incoming r k (with_max amount (incoming_at r k))) (with_kept r k amount))
    by true = lawful_after r _ (written r k (with_max amount (incoming_at r k)) (λ h. h) refl) l
    by false = record { places = l.places; ends = l.ends; credits = l.credits }

none_open : (n k : ℕ) (x : Incoming) → slot (replicate n None) k ≡ Some x → EndsAtHighest x
none_open zero k x e = absurd cc
none_open (suc n) zero x e = absurd cc
none_open (suc n) (suc k) x e = none_open n k x e

none_received : (n : ℕ) → sum (map credited_of (replicate n None)) ≡ 0
none_received zero = refl
none_received (suc n) = let h = none_received n in let a = sum-cons 0 (map credited_of (replicate n None)) in omega (arith, h, a)

pub new_lawful : (parity : ℕ) → IsLawful (new_receiving parity)
new_lawful parity = record { places = refl; ends = none_open 65; credits = none_received 65 }

-- if a clean close fixes the end
pub close_at : (x : Incoming) → EndsAtHighest x → is_over x.held ≡ false → (with_close 1 x).held.end ≡ Some x.highest
close_at x h over = ap (λ b. (cond b x.held (record x.held { end = Some (past_all x.held) })).end) over ∙ ap (λ n. Some n) (sym (h over))
