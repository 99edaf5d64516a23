-- What the money of a packet is refused for, and what it leaves.
use Rattle.std.proofs.Common.{◌≡◌, ℕ, zero, suc, ◌+◌, ◌^◌, ◌<◌, ◌≤◌, Bool, true, false, cond, ◌&&◌, ◌||◌, List, [], ◌∷◌, length, map, get_or, Option, Some, None, refl, sym, ap, ◌∙◌, subst, arith, nat_eq, nat_lt, nat_le, inl, inr}
use Rattle.std.specs.Prelude.{is_some, sum, slice_index}
use Rattle.std.specs.Ordering.{nat_cmp}
use Rattle.std.specs.FinSet.{FinSet, contains}
use Rattle.std.specs.Option.{option_or}
use Rattle.st_receiver.specs.Judged.{fault_of}
use Rattle.std.proofs.lemmas.Bool.Decides.{nat_tests}
use Rattle.std.proofs.lemmas.Bool.{cases_eq}
use Rattle.std.proofs.lemmas.List.{length-set}
use Rattle.st_streams.specs.Slots.{Slots, slot}
use Rattle.st_streams.proofs.SlotLemmas.{slot_cases, slot_here}
use Rattle.st_frames.specs.Frames.{Known, Packet, frames_of, CloseFrame, ConnectionClose, OtherFrame, LimitFrame, BlockedFrame, StreamClose, StreamMoney, StreamData}
use Rattle.st_frames.specs.Told.{money_of, money_in, shares}
use Rattle.st_reassembly.specs.Held.{Held}
use Rattle.st_receiver.specs.declared.reason.Reason.{Reason}
use Rattle.st_receiver.specs.declared.reason.Reason.TheVariants.{NoShares, OverReceiveMax, Repeated, AmountTooSmall, ConnectionClosed}
use Rattle.st_receiver.specs.Streams.{Incoming, Receiving, fresh_incoming, incoming_or, incoming_at, with_incoming, is_open, credited_of}
use Rattle.st_receiver.specs.Data.{with_data, after_frame, after_frames, frames_fault}
use Rattle.st_receiver.specs.Money.{parts, with_credit, with_credits, is_over_max, any_over_max, money_fault, after_money}
use Rattle.st_receiver.specs.Standing.{Standing, is_ready, Keeps}
use Rattle.st_receiver.specs.Inside.{over_at, IsOverAt}
use Rattle.st_receiver.proofs.Applying.{shown, standing}
use Rattle.st_receiver.proofs.Tracking.{get_or-map}
use Rattle.st_receiver.proofs.Mixing.{none_over, some_over, fits_at, credit_at}
use Rattle.st_receiver.proofs.Splits.{share_at, length_shares, length-parts, part_none, money-cons, money-nil}

-- ---- the tests

abbrev fault_by : Bool → Bool → Bool → Bool → Bool → Option Reason
fault_by past pays none over much = cond (past || (pays && none)) (Some NoShares) (cond (pays && (over || much)) (Some OverReceiveMax) None)

pub record Lawful (r : Receiving) (amount : ℕ) (fs : List Known) : Type 0 where
  pub fits : sum (shares fs) < 2 ^ 64
  pub some : 0 < sum (shares fs)
  pub over : any_over_max r.streams (parts amount (shares fs)) ≡ false
  pub credit : r.credit + amount < 2 ^ 63

none_by : (past none over much : Bool) → fault_by past true none over much ≡ None → (past ≡ false) × (none ≡ false) × (over ≡ false) × (much ≡ false)
none_by true none over much e = absurd cc
none_by false true over much e = absurd cc
none_by false false true much e = absurd cc
none_by false false false true e = absurd cc
none_by false false false false e = (refl, refl, refl, refl)

le_false : (a b : ℕ) → nat_le a b ≡ false → b < a
le_false a b e = grind (arith, nat_tests)

eq_false : (n : ℕ) → nat_eq n 0 ≡ false → 0 < n
eq_false n e = grind (arith, nat_tests)

pays_true : (n : ℕ) → 0 < n → nat_lt 0 n ≡ true
pays_true n l = grind (arith, nat_tests)

pub money_lawful : (r : Receiving) (amount : ℕ) (fs : List Known) → money_fault r amount fs ≡ None → 0 < amount → Lawful r amount fs
money_lawful r amount fs e pos =
    let past = nat_le (2 ^ 64) (sum (shares fs)) in
    let none = nat_eq (sum (shares fs)) 0 in
    let over = any_over_max r.streams (parts amount (shares fs)) in
    let much = nat_le (2 ^ 63) (r.credit + amount) in
    let h = none_by past none over much (ap (λ b. fault_by past b none over much) (sym (pays_true amount pos)) ∙ e) in
    record { fits = le_false (2 ^ 64) (sum (shares fs)) h.0; some = eq_false (sum (shares fs)) h.1; over = h.2; credit = le_false (2 ^ 63) (r.credit + amount) h.3 }

-- ---- what the credit leaves

pub credits_open : (ss : Slots Incoming) (ps : List ℕ) (k : ℕ) → is_some (slot (with_credits ss ps) k) ≡ is_some (slot ss k)
credits_open [] ps k = refl
credits_open (s ∷ ss) [] k = refl
credits_open (None ∷ ss) (p ∷ ps) zero = refl
credits_open (Some x ∷ ss) (p ∷ ps) zero = refl
credits_open (s ∷ ss) (p ∷ ps) (suc k) = credits_open ss ps k

pub money_shown : (s : Standing) (parity : ℕ) (ss after : Slots Incoming) (kept : List ℕ) (fulfilled : FinSet nat_cmp) (credit : ℕ) (closed : Bool) (room : ℕ) (windows : Slots Held) (amount : ℕ) (fs : List Known) (ps : List ℕ)
    → standing (shown parity ss kept fulfilled credit closed) room windows ≡ s → 0 < amount → ps ≡ parts amount (shares fs) → after ≡ with_credits ss ps
    → shown parity after kept fulfilled (credit + amount) closed ≡ after_money s.state amount fs
money_shown s parity ss after kept fulfilled credit closed room windows amount fs ps e pos is to =
    ap (λ qs. shown parity qs kept fulfilled (credit + amount) closed) (to ∙ ap (with_credits ss) is ∙ ap (λ b. cond b (with_credits ss (parts amount (shares fs))) ss) (sym (pays_true amount pos)))
    ∙ ap (λ (t : Standing). after_money t.state amount fs) e

pub money_keeps : (s : Standing) (parity : ℕ) (ss after : Slots Incoming) (kept : List ℕ) (fulfilled : FinSet nat_cmp) (credit more : ℕ) (closed : Bool) (room : ℕ) (windows : Slots Held) (ps : List ℕ)
    → standing (shown parity ss kept fulfilled credit closed) room windows ≡ s → after ≡ with_credits ss ps → Keeps s (standing (shown parity after kept fulfilled more closed) room windows)
money_keeps s parity ss after kept fulfilled credit more closed room windows ps e to = record {
  room = ap (λ (t : Standing). t.room) e;
  ready = λ k h. ap (λ b. b || is_some (slot windows k)) (ap (λ qs. is_some (slot qs k)) to ∙ credits_open ss ps k) ∙ ap (λ (t : Standing). is_ready t k) e ∙ h;
}

-- ---- what frames leave of money

pub record SameMoney (x y : Incoming) : Type 0 where
  pub receive_max : y.receive_max ≡ x.receive_max
  pub credited : y.credited ≡ x.credited

money_itself : (x : Incoming) → SameMoney x x
money_itself x = record { receive_max = refl; credited = refl }

money_join : (x y z : Incoming) → SameMoney x y → SameMoney y z → SameMoney x z
money_join x y z a b = record { receive_max = b.receive_max ∙ a.receive_max; credited = b.credited ∙ a.credited }

money_with : (r : Receiving) (k : ℕ) (y : Incoming) (j : ℕ) → SameMoney (incoming_at r k) y → SameMoney (incoming_at r j) (incoming_at (with_incoming r k y) j)
money_with r k y j h = elim (slot_cases r.streams k y j) [
  | inl e ↦ subst (λ i. SameMoney (incoming_at r i) (incoming_at (with_incoming r k y) i)) (sym e.0) (subst (λ o. SameMoney (incoming_at r k) (incoming_or (fresh_incoming (slice_index r.kept k)) o)) (sym e.1) h)
  | inr e ↦ subst (λ o. SameMoney (incoming_at r j) (incoming_or (fresh_incoming (slice_index r.kept j)) o)) (sym e) (money_itself (incoming_at r j))
]

frame_money : (r : Receiving) (f : Known) (j : ℕ) → SameMoney (incoming_at r j) (incoming_at (after_frame r f) j)
frame_money r (StreamData k o xs) j = money_with r k (with_data o xs (incoming_at r k)) j (record { receive_max = refl; credited = refl })
frame_money r (StreamMoney k n) j = money_with r k (incoming_at r k) j (money_itself (incoming_at r k))
frame_money r (CloseFrame (StreamClose k code message)) j = money_with r k (incoming_at r k) j (money_itself (incoming_at r k))
frame_money r (CloseFrame (ConnectionClose code message)) j = money_itself (incoming_at r j)
frame_money r (OtherFrame o) j = money_itself (incoming_at r j)
frame_money r (LimitFrame l) j = money_itself (incoming_at r j)
frame_money r (BlockedFrame b) j = money_itself (incoming_at r j)

pub frames_money : (r : Receiving) (fs : List Known) (j : ℕ) → SameMoney (incoming_at r j) (incoming_at (after_frames r fs) j)
unfolding after_frames
frames_money r [] j = money_itself (incoming_at r j)
frames_money r (f ∷ fs) j = money_join (incoming_at r j) (incoming_at (after_frame r f) j) (incoming_at (after_frames (after_frame r f) fs) j) (frame_money r f j) (frames_money (after_frame r f) fs j)

open_with : (r : Receiving) (k : ℕ) (y : Incoming) (j : ℕ) → is_open r j ≡ true → is_open (with_incoming r k y) j ≡ true
open_with r k y j h = elim (slot_cases r.streams k y j) [
  | inl e ↦ subst (λ i. is_open (with_incoming r k y) i ≡ true) (sym e.0) (ap is_some e.1)
  | inr e ↦ ap is_some e ∙ h
]

frame_stays : (r : Receiving) (f : Known) (j : ℕ) → is_open r j ≡ true → is_open (after_frame r f) j ≡ true
frame_stays r (StreamData k o xs) j h = open_with r k (with_data o xs (incoming_at r k)) j h
frame_stays r (StreamMoney k n) j h = open_with r k (incoming_at r k) j h
frame_stays r (CloseFrame (StreamClose k code message)) j h = open_with r k (incoming_at r k) j h
frame_stays r (CloseFrame (ConnectionClose code message)) j h = h
frame_stays r (OtherFrame o) j h = h
frame_stays r (LimitFrame l) j h = h
frame_stays r (BlockedFrame b) j h = h

frames_stay : (r : Receiving) (fs : List Known) (j : ℕ) → is_open r j ≡ true → is_open (after_frames r fs) j ≡ true
unfolding after_frames
frames_stay r [] j h = h
frames_stay r (f ∷ fs) j h = frames_stay (after_frame r f) fs j (frame_stays r f j h)

frame_length : (r : Receiving) (f : Known) → length (after_frame r f).streams ≡ length r.streams
frame_length r (StreamData k o xs) = length-set r.streams k (Some (with_data o xs (incoming_at r k)))
frame_length r (StreamMoney k n) = length-set r.streams k (Some (incoming_at r k))
frame_length r (CloseFrame (StreamClose k code message)) = length-set r.streams k (Some (incoming_at r k))
frame_length r (CloseFrame (ConnectionClose code message)) = refl
frame_length r (OtherFrame o) = refl
frame_length r (LimitFrame l) = refl
frame_length r (BlockedFrame b) = refl

pub frames_length : (r : Receiving) (fs : List Known) → length (after_frames r fs).streams ≡ length r.streams
unfolding after_frames
frames_length r [] = refl
frames_length r (f ∷ fs) = frames_length (after_frame r f) fs ∙ frame_length r f

same_stream : (b : Bool) (n : ℕ) → 0 < cond b n 0 → b ≡ true
same_stream true n l = refl
same_stream false n l = absurd (omega arith)

equal : (a b : ℕ) → nat_eq a b ≡ true → b ≡ a
equal a b e = grind (arith, nat_tests)

no_money : {P : Type 0} → 0 < 0 → P
no_money l = absurd (omega arith)

frame_opens : (r : Receiving) (f : Known) (k : ℕ) → k < length r.streams → 0 < money_of k f → is_open (after_frame r f) k ≡ true
frame_opens r (StreamMoney stream n) k l h =
    let e : k ≡ stream = equal stream k (same_stream (nat_eq stream k) n h) in
    subst (λ i. is_open (with_incoming r i (incoming_at r i)) k ≡ true) e (ap is_some (slot_here r.streams k (incoming_at r k) l))
frame_opens r (StreamData s o xs) k l h = no_money h
frame_opens r (CloseFrame c) k l h = no_money h
frame_opens r (OtherFrame o) k l h = no_money h
frame_opens r (LimitFrame limit) k l h = no_money h
frame_opens r (BlockedFrame b) k l h = no_money h

-- a stream that has shares is open once the frames came
frames_open : (r : Receiving) (fs : List Known) (k : ℕ) → k < length r.streams → 0 < money_in k fs → is_open (after_frames r fs) k ≡ true
unfolding after_frames
frames_open r [] k l h = let z = money-nil k in absurd (omega (arith, h, z))
frames_open r (f ∷ fs) k l h = elim (cases_eq (money_of k f) 0) [
  | inl z ↦ frames_open (after_frame r f) fs k (subst (λ n. k < n) (sym (frame_length r f)) l) (let c = money-cons k f fs in omega (arith, z, c, h))
  | inr n ↦ frames_stay (after_frame r f) fs k (frame_opens r f k l (omega (arith, n)))
]

over_slot : (m : ℕ) (o : Option Incoming) (p : ℕ) → (is_some o ≡ false → p ≡ 0) → is_over_max o p ≡ nat_lt (incoming_or (fresh_incoming m) o).receive_max ((incoming_or (fresh_incoming m) o).credited + p)
over_slot m (Some x) p h = refl
over_slot m None p h = none m p (h refl)
  where
    none : (m p : ℕ) → p ≡ 0 → nat_lt 0 p ≡ nat_lt m (0 + p)
    none m p e = grind (arith, nat_tests)

pub closed_part : (r : Receiving) (fs : List Known) (amount k : ℕ) → length r.streams ≡ 65 → k < 65 → is_open (after_frames r fs) k ≡ false → get_or (parts amount (shares fs)) k 0 ≡ 0
closed_part r fs amount k len l shut = elim (cases_eq (money_in k fs) 0) [
  | inl z ↦ part_none amount (shares fs) k (share_at fs k l ∙ z)
  | inr n ↦ absurd (let there : is_open (after_frames r fs) k ≡ true = frames_open r fs k (subst (λ n. k < n) (sym len) l) (omega (arith, n)) in cc)
]

over_one : (r : Receiving) (fs : List Known) (amount k : ℕ) → length r.streams ≡ 65 → k < 65
    → is_over_max (slot (after_frames r fs).streams k) (get_or (parts amount (shares fs)) k 0) ≡ over_at r k (get_or (parts amount (shares fs)) k 0)
over_one r fs amount k len l =
    let t = after_frames r fs in
    let p = get_or (parts amount (shares fs)) k 0 in
    let same = frames_money r fs k in
    over_slot (slice_index t.kept k) (slot t.streams k) p (closed_part r fs amount k len l) ∙ (λ i. nat_lt (same.receive_max i) (same.credited i + p))

-- the streams as they were also decide whether a part is past what its stream may receive
over_same : (r : Receiving) (fs : List Known) (amount : ℕ) (b : Bool) → length r.streams ≡ 65 → IsOverAt r (parts amount (shares fs)) b → any_over_max (after_frames r fs).streams (parts amount (shares fs)) ≡ b
over_same r fs amount true len h =
    let both : length (parts amount (shares fs)) ≡ length (after_frames r fs).streams = length-parts amount (shares fs) ∙ length_shares fs ∙ sym (frames_length r fs ∙ len) in
    some_over (after_frames r fs).streams (parts amount (shares fs)) h.0 both (subst (λ n. h.0 < n) (sym (frames_length r fs ∙ len)) h.1) (over_one r fs amount h.0 len h.1 ∙ h.2)
over_same r fs amount false len h =
    let both : length (parts amount (shares fs)) ≡ length (after_frames r fs).streams = length-parts amount (shares fs) ∙ length_shares fs ∙ sym (frames_length r fs ∙ len) in
    none_over (after_frames r fs).streams (parts amount (shares fs)) both (λ k l.
    let m : k < 65 = subst (λ n. k < n) (frames_length r fs ∙ len) l in over_one r fs amount k len m ∙ h k m)

-- if no part is past in all, none is by itself
pub fits_over : (r : Receiving) (fs : List Known) (amount : ℕ) → length r.streams ≡ 65 → any_over_max (after_frames r fs).streams (parts amount (shares fs)) ≡ false → IsOverAt r (parts amount (shares fs)) false
fits_over r fs amount len e k l =
    let within : k < length (after_frames r fs).streams = subst (λ n. k < n) (sym (frames_length r fs ∙ len)) l in
    let there : k < length (parts amount (shares fs)) = subst (λ n. k < n) (sym (length-parts amount (shares fs) ∙ length_shares fs)) l in
    sym (over_one r fs amount k len l) ∙ fits_at (after_frames r fs).streams (parts amount (shares fs)) k e within there

-- ---- what a stream is credited in all

pub credited_or : (m : ℕ) (o : Option Incoming) → credited_of o ≡ (incoming_or (fresh_incoming m) o).credited
credited_or m None = refl
credited_or m (Some x) = refl

credit_part : (m p : ℕ) (o : Option Incoming) → (is_some o ≡ false → p ≡ 0) → (incoming_or (fresh_incoming m) (with_credit o p)).credited ≡ (incoming_or (fresh_incoming m) o).credited + p
credit_part m p (Some x) h = refl
credit_part m p None h = let z = h refl in omega (arith, z)

pays_not : (n : ℕ) → n ≡ 0 → nat_lt 0 n ≡ false
pays_not n e = grind (arith, nat_tests)

pub unpaid_credit : (r : Receiving) (amount : ℕ) (fs : List Known) (k : ℕ) (xs : List ℕ) → amount ≡ 0 → xs ≡ map credited_of r.streams → get_or xs k 0 ≡ (incoming_at (after_money (after_frames r fs) amount fs) k).credited
unpaid_credit r amount fs k xs z e =
    let t = after_frames r fs in
    let m = slice_index t.kept k in
    ap (λ ns. get_or ns k 0) e ∙ get_or-map credited_of r.streams k refl ∙ credited_or (slice_index r.kept k) (slot r.streams k) ∙ sym (frames_money r fs k).credited
    ∙ ap (λ b. (incoming_or (fresh_incoming m) (slot (cond b (with_credits t.streams (parts amount (shares fs))) t.streams) k)).credited) (sym (pays_not amount z))

pub paid_credit : (r : Receiving) (amount : ℕ) (fs : List Known) (k : ℕ) (xs : List ℕ) → length r.streams ≡ 65 → 0 < amount → k < 65 → get_or xs k 0 ≡ (incoming_at r k).credited + get_or (parts amount (shares fs)) k 0
    → get_or xs k 0 ≡ (incoming_at (after_money (after_frames r fs) amount fs) k).credited
paid_credit r amount fs k xs len pos l e =
    let t = after_frames r fs in
    let m = slice_index t.kept k in
    let ps = parts amount (shares fs) in
    let there : k < length ps = subst (λ n. k < n) (sym (length-parts amount (shares fs) ∙ length_shares fs)) l in
    e ∙ ap (λ n. n + get_or ps k 0) (sym (frames_money r fs k).credited)
    ∙ sym (credit_part m (get_or ps k 0) (slot t.streams k) (closed_part r fs amount k len l))
    ∙ ap (λ o. (incoming_or (fresh_incoming m) o).credited) (sym (credit_at t.streams ps k there))
    ∙ ap (λ b. (incoming_or (fresh_incoming m) (slot (cond b (with_credits t.streams ps) t.streams) k)).credited) (sym (pays_true amount pos))

frame_credit : (r : Receiving) (f : Known) → (after_frame r f).credit ≡ r.credit
frame_credit r (StreamData k o xs) = refl
frame_credit r (StreamMoney k n) = refl
frame_credit r (CloseFrame (StreamClose k code message)) = refl
frame_credit r (CloseFrame (ConnectionClose code message)) = refl
frame_credit r (OtherFrame o) = refl
frame_credit r (LimitFrame l) = refl
frame_credit r (BlockedFrame b) = refl

pub frames_credit : (r : Receiving) (fs : List Known) → (after_frames r fs).credit ≡ r.credit
unfolding after_frames
frames_credit r [] = refl
frames_credit r (f ∷ fs) = frames_credit (after_frame r f) fs ∙ frame_credit r f

-- ---- the answers, case by case

pub le_true : (a b : ℕ) → a ≤ b → nat_le a b ≡ true
le_true a b l = grind (arith, nat_tests)

pub le_not : (a b : ℕ) → b < a → nat_le a b ≡ false
le_not a b l = grind (arith, nat_tests)

eq_not : (n : ℕ) → 0 < n → nat_eq n 0 ≡ false
eq_not n l = grind (arith, nat_tests)

pub fault_nothing : (r : Receiving) (amount : ℕ) (fs : List Known) → sum (shares fs) < 2 ^ 64 → amount ≡ 0 → None ≡ money_fault r amount fs
fault_nothing r amount fs l z =
    let no : nat_lt 0 amount ≡ false = grind (arith, nat_tests) in
    λ i. fault_by (sym (le_not (2 ^ 64) (sum (shares fs)) l) i) (sym no i) (nat_eq (sum (shares fs)) 0) (any_over_max r.streams (parts amount (shares fs))) (nat_le (2 ^ 63) (r.credit + amount))

fault_over : (r : Receiving) (amount : ℕ) (fs : List Known) → sum (shares fs) < 2 ^ 64 → 0 < amount → 0 < sum (shares fs) → any_over_max r.streams (parts amount (shares fs)) ≡ true → Some OverReceiveMax ≡ money_fault r amount fs
fault_over r amount fs l pos some over =
    λ i. fault_by (sym (le_not (2 ^ 64) (sum (shares fs)) l) i) (sym (pays_true amount pos) i) (sym (eq_not (sum (shares fs)) some) i) (sym over i) (nat_le (2 ^ 63) (r.credit + amount))

fault_much : (r : Receiving) (amount : ℕ) (fs : List Known) (b : Bool) → sum (shares fs) < 2 ^ 64 → 0 < amount → 0 < sum (shares fs) → any_over_max r.streams (parts amount (shares fs)) ≡ false → nat_le (2 ^ 63) (r.credit + amount) ≡ b
    → cond b (Some OverReceiveMax) None ≡ money_fault r amount fs
fault_much r amount fs b l pos some over much =
    λ i. fault_by (sym (le_not (2 ^ 64) (sum (shares fs)) l) i) (sym (pays_true amount pos) i) (sym (eq_not (sum (shares fs)) some) i) (sym over i) (sym much i)

over_or_much : (r : Receiving) (amount : ℕ) (fs : List Known) (over much : Bool) → sum (shares fs) < 2 ^ 64 → 0 < amount → 0 < sum (shares fs) → any_over_max r.streams (parts amount (shares fs)) ≡ over → nat_le (2 ^ 63) (r.credit + amount) ≡ much
    → cond over (Some OverReceiveMax) (cond much (Some OverReceiveMax) None) ≡ money_fault r amount fs
over_or_much r amount fs true much l pos some a b = fault_over r amount fs l pos some a
over_or_much r amount fs false much l pos some a b = fault_much r amount fs much l pos some a b

-- an amount that has shares to go by is judged by its parts, as the code has them
pub paid_fault : (r : Receiving) (amount all : ℕ) (fs : List Known) (ms ps : List ℕ) (over much : Bool) → length r.streams ≡ 65 → ms ≡ shares fs → sum ms < 2 ^ 64 → (amount ≡ 0 → ⊥) → all ≡ sum ms → (all ≡ 0 → ⊥) → ps ≡ parts amount ms
    → IsOverAt r ps over → nat_le (2 ^ 63) ((after_frames r fs).credit + amount) ≡ much → cond over (Some OverReceiveMax) (cond much (Some OverReceiveMax) None) ≡ money_fault (after_frames r fs) amount fs
paid_fault r amount all fs ms ps over much len e fits pays total some parted is b =
    let l : sum (shares fs) < 2 ^ 64 = subst (λ xs. sum xs < 2 ^ 64) e fits in
    let z : all ≡ sum (shares fs) = total ∙ ap sum e in
    let any = over_same r fs amount over len (subst (λ xs. IsOverAt r xs over) (parted ∙ ap (parts amount) e) is) in
    over_or_much (after_frames r fs) amount fs over much l (omega (arith, pays)) (omega (arith, z, some)) any b

-- ---- a packet that breaks no rule

rules_by : (closed seen small : Bool) (a b : Option Reason) → cond closed (Some ConnectionClosed) (cond seen (Some Repeated) (cond small (Some AmountTooSmall) (option_or a b))) ≡ None → (a ≡ None) × (b ≡ None)
rules_by true seen small a b e = absurd cc
rules_by false true small a b e = absurd cc
rules_by false false true a b e = absurd cc
rules_by false false false (Some x) b e = absurd cc
rules_by false false false None b e = (refl, e)

pub lawful_of : (r : Receiving) (p : Packet) (amount : ℕ) → fault_of r p amount ≡ None → (frames_fault r (frames_of p) ≡ None) × (money_fault (after_frames r (frames_of p)) amount (frames_of p) ≡ None)
lawful_of r p amount e = rules_by r.closed (contains r.fulfilled p.sequence) (nat_lt amount p.amount) (frames_fault r (frames_of p)) (money_fault (after_frames r (frames_of p)) amount (frames_of p)) e
