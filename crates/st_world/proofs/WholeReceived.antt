-- Closes at a receiver: a read returns `End` only after all bytes, and nothing is read after `End` or an abort.
use Rattle.std.proofs.Common.{◌≡◌, ◌≢◌, ℕ, zero, suc, ◌+◌, ◌-◌, ◌<◌, ◌≤◌, Bool, true, false, ◌&&◌, ◌||◌, cond, List, [], ◌∷◌, map, length, slice_get, max, refl, sym, ap, subst, ◌∙◌, arith, Option, None, Some, ◌⊎◌, inl, inr, nat_le, nat_eq, is_some}
use Rattle.std.specs.List.{AllByRecursion}
use Rattle.std.specs.FinMap as fmap
use Rattle.std.proofs.lemmas.Bool.Decides.{nat_tests}
use Rattle.std.proofs.lemmas.Grind.{common_steps}
use Rattle.std.proofs.lemmas.Option.{slice_get_within}
use Rattle.st_frames.specs.Frames.{Known, CloseFrame, ConnectionClose, OtherFrame, LimitFrame, BlockedFrame, StreamClose, StreamMoney, StreamData, Packet, frames_of}
use Rattle.st_reassembly.specs.Held.{Held, after_insert, is_over}
use Rattle.st_reassembly.specs.Closing.{past_all, after_finish, after_abort}
use Rattle.st_sender.specs.Sending.{Sending, Outgoing, SentFrame, Data, Whole, outgoing_at}
use Rattle.st_sender.specs.Flights.{flown}
use Rattle.st_receiver.specs.Streams.{Receiving, Incoming, incoming_at, with_incoming, may_name, opened_stream}
use Rattle.st_receiver.specs.declared.reason.Reason.{Reason}
use Rattle.st_receiver.specs.Data.{with_data, after_data, stream_fault, data_fault, frame_fault, after_frame, frames_fault, after_frames}
use Rattle.st_receiver.specs.Money.{after_money}
use Rattle.st_receiver.specs.Closes.{with_close, after_close, after_closes, after_connection_closes}
use Rattle.st_receiver.specs.Judged.{with_sequence, effect}
use Rattle.st_world_parts.specs.StreamLogs.{StreamLog}
use Rattle.st_world.proofs.Maps.{Within}
use Rattle.st_world.proofs.DataReceived.{incoming_here, incoming_cases, insert_keeps, money_keeps, FrameFine, FramesFine}
use Rattle.st_world.proofs.Credited.{frames_keep}
use Rattle.st_world.proofs.PastEnds.{IsPast, past_data, past_is}
use Rattle.st_world.proofs.Truths.{or_false, or_true, or_right, or_none}

-- one outgoing stream: its ledger, and the highest byte end that the receiver has
pub record OutSome (l : StreamLog) (n : ℕ) (y : Outgoing) : Type 0 where
  pub codes : (c : ℕ) → y.abort ≡ Some c → c ≢ 1
  pub aborted : l.aborted ≡ is_some y.abort
  pub shut : l.clean ≡ true → (y.clean || is_some y.abort) ≡ true
  pub clean : y.clean ≡ true → l.clean ≡ true
  pub acked : is_some y.abort ≡ false → (i : ℕ) → i < length l.written → fmap.get y.unacked i ≡ None → i < n

abbrev pub OutWhole : StreamLog → ℕ → Option Outgoing → Type 0
OutWhole l n None = (l.clean ≡ false) × (l.aborted ≡ false) × (l.written ≡ [])
OutWhole l n (Some y) = OutSome l n y

-- one incoming stream: a fixed end is the length of what was written, and while none is fixed the highest byte end is
-- the end that a clean close would fix
pub record InWhole (l : StreamLog) (x : Incoming) : Type 0 where
  pub ends : (n : ℕ) → x.held.end ≡ Some n → (n ≡ length l.written) × (x.highest ≡ length l.written) × (l.clean ≡ true)
  pub drops : is_some x.held.aborted ≡ true → l.aborted ≡ true
  pub within : x.highest ≤ length l.written
  pub past : is_over x.held ≡ false → IsPast x.held x.highest

abbrev pub SendWhole : (ℕ → StreamLog) → Receiving → Sending → Type 0
SendWhole l r s = (k : ℕ) → OutWhole (l k) (incoming_at r k).highest (outgoing_at s k)

abbrev pub RecvWhole : (ℕ → StreamLog) → Receiving → Type 0
RecvWhole l r = (k : ℕ) → InWhole (l k) (incoming_at r k)

-- what only rises at a receiver
abbrev pub RisesAt : Incoming → Incoming → Type 0
RisesAt x y = (x.highest ≤ y.highest) × (is_some x.held.aborted ≡ true → is_some y.held.aborted ≡ true)

abbrev pub Rise : Receiving → Receiving → Type 0
Rise r t = (k : ℕ) → RisesAt (incoming_at r k) (incoming_at t k)

pub rise_same : (r : Receiving) → Rise r r
rise_same r k = (omega arith, λ e. e)

pub rise_join : (r s t : Receiving) → Rise r s → Rise s t → Rise r t
rise_join r s t f g k = (let a : (incoming_at r k).highest ≤ (incoming_at s k).highest = (f k).0 in let b : (incoming_at s k).highest ≤ (incoming_at t k).highest = (g k).0 in omega arith, λ e. (g k).1 ((f k).1 e))

-- frames of a packet that was sent, and those of one that was accepted
abbrev pub FrameSound : (ℕ → StreamLog) → Receiving → Known → Type 0
FrameSound l r (CloseFrame (StreamClose k code message)) = (code ≡ 1 → ((l k).clean ≡ true) × (length (l k).written ≤ (incoming_at r k).highest)) × (code ≢ 1 → (l k).aborted ≡ true)
FrameSound l r (CloseFrame (ConnectionClose code message)) = ⊥
FrameSound l r _ = Unit {0}

abbrev pub FramesSound : (ℕ → StreamLog) → Receiving → List Known → Type 0
FramesSound l r fs = AllByRecursion (FrameSound l r) fs

abbrev pub FrameTaken : Receiving → Known → Type 0
FrameTaken r (StreamData k o xs) = (is_some (incoming_at r k).held.aborted ≡ true) ⊎ ((i : ℕ) → i < length xs → o + i < (incoming_at r k).highest)
FrameTaken r _ = Unit {0}

abbrev pub FramesTaken : Receiving → List Known → Type 0
FramesTaken r fs = AllByRecursion (FrameTaken r) fs

data_rise : (r t : Receiving) (k o : ℕ) (xs : List ℕ) → Rise r t → FrameTaken r (StreamData k o xs) → FrameTaken t (StreamData k o xs)
data_rise r t k o xs rise h = elim h [ inl e ↦ inl ((rise k).1 e) | inr f ↦ inr (λ i l. let a : (incoming_at r k).highest ≤ (incoming_at t k).highest = (rise k).0 in let b : o + i < (incoming_at r k).highest = f i l in omega arith) ]

frame_rise : (r t : Receiving) (f : Known) → Rise r t → FrameTaken r f → FrameTaken t f
frame_rise r t (StreamData k o xs) rise h = data_rise r t k o xs rise h
frame_rise r t (StreamMoney k n) rise h = tt
frame_rise r t (CloseFrame c) rise h = tt
frame_rise r t (BlockedFrame b) rise h = tt
frame_rise r t (LimitFrame l) rise h = tt
frame_rise r t (OtherFrame o) rise h = tt

pub taken_rise : (r t : Receiving) (fs : List Known) → Rise r t → FramesTaken r fs → FramesTaken t fs
taken_rise r t [] rise h = tt
taken_rise r t (f ∷ fs) rise h = (frame_rise r t f rise h.0, taken_rise r t fs rise h.1)

-- the same of frames that were in flight
abbrev pub FlownTaken : Receiving → SentFrame → Type 0
FlownTaken r (Data k o n) = (is_some (incoming_at r k).held.aborted ≡ true) ⊎ ((i : ℕ) → i < n → o + i < (incoming_at r k).highest)
FlownTaken r (Whole f) = Unit {0}

abbrev pub AllFlownTaken : Receiving → List SentFrame → Type 0
AllFlownTaken r fs = AllByRecursion (FlownTaken r) fs

frame_flown : (r : Receiving) (f : Known) → FrameTaken r f → FlownTaken r (flown f)
frame_flown r (StreamData k o xs) h = h
frame_flown r (StreamMoney k n) h = tt
frame_flown r (CloseFrame c) h = tt
frame_flown r (BlockedFrame b) h = tt
frame_flown r (LimitFrame l) h = tt
frame_flown r (OtherFrame o) h = tt

pub taken_flown : (r : Receiving) (fs : List Known) → FramesTaken r fs → AllFlownTaken r (map flown fs)
taken_flown r [] h = tt
taken_flown r (f ∷ fs) h = (frame_flown r f h.0, taken_flown r fs h.1)

-- later states of ledgers and receivers
pub record Onward (l m : ℕ → StreamLog) (r t : Receiving) : Type 0 where
  pub clean : (k : ℕ) → (l k).clean ≡ true → ((m k).clean ≡ true) × ((m k).written ≡ (l k).written)
  pub aborted : (k : ℕ) → (l k).aborted ≡ true → (m k).aborted ≡ true
  pub rise : Rise r t

close_onward : (l m : ℕ → StreamLog) (r t : Receiving) (k code : ℕ) (message : List ℕ) → Onward l m r t → FrameSound l r (CloseFrame (StreamClose k code message)) → FrameSound m t (CloseFrame (StreamClose k code message))
close_onward l m r t k code message o h = (
  λ e. let x = h.0 e in let y = o.clean k x.0 in (y.0, let a : (incoming_at r k).highest ≤ (incoming_at t k).highest = (o.rise k).0 in let b : length (l k).written ≤ (incoming_at r k).highest = x.1 in let c : length (m k).written ≡ length (l k).written = ap (λ z. length z) y.1 in omega arith),
  λ n. o.aborted k (h.1 n),
)

frame_onward : (l m : ℕ → StreamLog) (r t : Receiving) (f : Known) → Onward l m r t → FrameSound l r f → FrameSound m t f
frame_onward l m r t (StreamData k a xs) o h = tt
frame_onward l m r t (StreamMoney k n) o h = tt
frame_onward l m r t (CloseFrame (StreamClose k code message)) o h = close_onward l m r t k code message o h
frame_onward l m r t (BlockedFrame b) o h = tt
frame_onward l m r t (LimitFrame limit) o h = tt
frame_onward l m r t (CloseFrame (ConnectionClose code message)) o h = absurd h
frame_onward l m r t (OtherFrame other) o h = tt

pub sound_onward : (l m : ℕ → StreamLog) (r t : Receiving) (fs : List Known) → Onward l m r t → FramesSound l r fs → FramesSound m t fs
sound_onward l m r t [] o h = tt
sound_onward l m r t (f ∷ fs) o h = (frame_onward l m r t f o h.0, sound_onward l m r t fs o h.1)

pub rise_onward : (l : ℕ → StreamLog) (r t : Receiving) → Rise r t → Onward l l r t
rise_onward l r t rise = record { clean = λ k e. (e, refl); aborted = λ k e. e; rise = rise }

-- a receiver's stream replaced
pub in-with : (l : ℕ → StreamLog) (r : Receiving) (k : ℕ) (x : Incoming) → RecvWhole l r → InWhole (l k) x → RecvWhole l (with_incoming r k x)
in-with l r k x h here j =
    elim (incoming_cases r k x j) [
      | inl e ↦ rw e.0 (let P : Incoming → Type 0 = λ y. InWhole (l k) y in subst P (sym e.1) here)
      | inr n ↦ let P : Incoming → Type 0 = λ y. InWhole (l j) y in subst P (sym n) (h j)
    ]

pub rise-with : (r : Receiving) (k : ℕ) (x : Incoming) → RisesAt (incoming_at r k) x → Rise r (with_incoming r k x)
rise-with r k x here j =
    elim (incoming_cases r k x j) [
      | inl e ↦ rw e.0 (let P : Incoming → Type 0 = λ y. RisesAt (incoming_at r k) y in subst P (sym e.1) here)
      | inr n ↦ let P : Incoming → Type 0 = λ y. RisesAt (incoming_at r j) y in subst P (sym n) (omega arith, λ e. e)
    ]

-- receivers that hold the same
abbrev pub Alike : Receiving → Receiving → Type 0
Alike r t = (k : ℕ) → ((incoming_at t k).held ≡ (incoming_at r k).held) × ((incoming_at t k).highest ≡ (incoming_at r k).highest)

pub alike_with : (r t : Receiving) (k : ℕ) (x : Incoming) → x.held ≡ (incoming_at t k).held → x.highest ≡ (incoming_at t k).highest → Alike r t → Alike r (with_incoming t k x)
alike_with r t k x a b h j =
    elim (incoming_cases t k x j) [
      | inl e ↦ rw e.0 (let P : Incoming → Type 0 = λ y. (y.held ≡ (incoming_at r k).held) × (y.highest ≡ (incoming_at r k).highest) in subst P (sym e.1) (a ∙ (h k).0, b ∙ (h k).1))
      | inr n ↦ let P : Incoming → Type 0 = λ y. (y.held ≡ (incoming_at r j).held) × (y.highest ≡ (incoming_at r j).highest) in subst P (sym n) (h j)
    ]

pub alike_same : (r : Receiving) → Alike r r
alike_same r k = (refl, refl)

in_alike : (l : StreamLog) (x y : Incoming) → y.held ≡ x.held → y.highest ≡ x.highest → InWhole l x → InWhole l y
in_alike l x y a b h = record {
  ends = λ n e. let f = h.ends n (ap (λ (z : Held). z.end) (sym a) ∙ e) in (f.0, b ∙ f.1, f.2);
  drops = λ e. h.drops (ap (λ (z : Held). is_some z.aborted) (sym a) ∙ e);
  within = let c : x.highest ≤ length l.written = h.within in omega arith;
  past = λ o.
      let P : Held → Type 0 = λ z. IsPast z y.highest in
      let Q : ℕ → Type 0 = λ n. IsPast x.held n in
      subst P (sym a) (subst Q (sym b) (h.past (ap is_over (sym a) ∙ o)));
}

pub alike_whole : (l : ℕ → StreamLog) (r t : Receiving) → Alike r t → RecvWhole l r → RecvWhole l t
alike_whole l r t a h k = in_alike (l k) (incoming_at r k) (incoming_at t k) (a k).0 (a k).1 (h k)

pub alike_rise : (r t : Receiving) → Alike r t → Rise r t
alike_rise r t a k = (let b : (incoming_at t k).highest ≡ (incoming_at r k).highest = (a k).1 in omega arith, λ e. ap (λ (z : Held). is_some z.aborted) (a k).0 ∙ e)

-- the data of a frame
get_below : (xs : List ℕ) (i : ℕ) → i < length xs → (b : ℕ) × (slice_get xs i ≡ Some b)
get_below [] i l = absurd (omega arith)
get_below (x ∷ xs) zero l = (x, refl)
get_below (x ∷ xs) (suc i) l = get_below xs i (omega arith)

within_each : (w : List ℕ) (o : ℕ) (xs : List ℕ) → Within w o xs → (i : ℕ) → i < length xs → o + i < length w
within_each w o xs h i l = let g = get_below xs i l in slice_get_within w (o + i) g.0 (h i g.0 g.1)

within_end : (w : List ℕ) (o : ℕ) (xs : List ℕ) → Within w o xs → 0 < length xs → o + length xs ≤ length w
within_end w o xs h l = let a : o + (length xs - 1) < length w = within_each w o xs h (length xs - 1) (omega arith) in omega arith

over_cases : (e a : Option ℕ) → (is_some e || is_some a) ≡ true → ((n : ℕ) × (e ≡ Some n)) ⊎ (is_some a ≡ true)
over_cases (Some n) a h = inl (n, refl)
over_cases None a h = inr h

over_none : (e a : Option ℕ) → (is_some e || is_some a) ≡ false → (e ≡ None) × (is_some a ≡ false)
over_none (Some n) a h = absurd (cc)
over_none None a h = (refl, h)

data_highest : (b : Bool) (l : StreamLog) (x : Incoming) (o : ℕ) (xs : List ℕ) → (is_over x.held || nat_eq (length xs) 0) ≡ b → InWhole l x → Within l.written o xs
    → let n = cond b x.highest (max x.highest (o + length xs)) in (n ≤ length l.written) × (x.highest ≤ n) × ((m : ℕ) → x.held.end ≡ Some m → n ≡ x.highest) × ((is_some x.held.aborted ≡ true) ⊎ ((i : ℕ) → i < length xs → o + i < n))
data_highest true l x o xs e h w = (
  h.within,
  omega arith,
  λ m f. refl,
  elim (or_true (is_over x.held) (nat_eq (length xs) 0) e) [
    | inl over ↦
        elim (over_cases x.held.end x.held.aborted over) [
          | inl end ↦ inr (λ i s. let a = (h.ends end.0 end.1).1 in let b : o + i < length l.written = within_each l.written o xs w i s in omega arith)
          | inr dropped ↦ inl dropped
        ]
    | inr none ↦ inr (λ i s. let z : length xs ≡ 0 = grind (arith) in absurd (omega arith))
  ],
)
data_highest false l x o xs e h w =
    let f = or_false (is_over x.held) (nat_eq (length xs) 0) e in
    let some : 0 < length xs = let z : nat_eq (length xs) 0 ≡ false = f.1 in grind (arith) in
    let a : o + length xs ≤ length l.written = within_end l.written o xs w some in
    let b : x.highest ≤ length l.written = h.within in
    (grind (arith), grind (arith), λ m g. absurd (let none : x.held.end ≡ None = (over_none x.held.end x.held.aborted f.0).0 in cc), inr (λ i s. grind (arith)))

data_in : (l : StreamLog) (x : Incoming) (o : ℕ) (xs : List ℕ) → InWhole l x → Within l.written o xs → InWhole l (with_data o xs x) × RisesAt x (with_data o xs x) × ((is_some (with_data o xs x).held.aborted ≡ true) ⊎ ((i : ℕ) → i < length xs → o + i < (with_data o xs x).highest))
data_in l x o xs h w =
    let d = data_highest (is_over x.held || nat_eq (length xs) 0) l x o xs refl h w in
    let end : (after_insert o xs x.held).end ≡ x.held.end = insert_keeps (λ (g : Held). g.end) (λ g b. refl) xs x.held o in
    let over : is_over (after_insert o xs x.held) ≡ is_over x.held = insert_keeps is_over (λ g b. refl) xs x.held o in
    let drop : (after_insert o xs x.held).aborted ≡ x.held.aborted = insert_keeps (λ (g : Held). g.aborted) (λ g b. refl) xs x.held o in (
      record {
        ends = λ n e. let f = h.ends n (sym end ∙ e) in (f.0, d.2 n (sym end ∙ e) ∙ f.1, f.2);
        drops = λ e. h.drops (ap (λ z. is_some z) (sym drop) ∙ e);
        within = d.0;
        past = λ f. let live : is_over x.held ≡ false = sym over ∙ f in past_data x o xs live (h.past live);
      },
      (d.1, λ e. ap (λ z. is_some z) drop ∙ e),
      elim d.3 [ inl e ↦ inl (ap (λ z. is_some z) drop ∙ e) | inr f ↦ inr f ],
    )

-- the receiver is right, has risen, and has accepted these frames
pub record Good (l : ℕ → StreamLog) (r : Receiving) (fs : List Known) (t : Receiving) : Type 0 where
  pub recv : RecvWhole l t
  pub rise : Rise r t
  pub taken : FramesTaken t fs

named_if : (b : Bool) (x : Reason) → cond b None (Some x) ≡ None → b ≡ true
named_if true x e = refl
named_if false x e = absurd (cc)

in_range : (k : ℕ) (c : Bool) → (nat_le 1 k && nat_le k 64 && c) ≡ true → k < 65
in_range k c e = grind (arith, common_steps, nat_tests)

named_small : (r : Receiving) (k : ℕ) → stream_fault r k ≡ None → k < 65
named_small r k e = in_range k _ (named_if (may_name r k) _ e)

data_good : (l : ℕ → StreamLog) (r : Receiving) (k o : ℕ) (xs : List ℕ) → k < length r.streams → RecvWhole l r → Within (l k).written o xs → Good l r (StreamData k o xs ∷ []) (after_data r k o xs)
data_good l r k o xs small h w =
    let d = data_in (l k) (incoming_at r k) o xs (h k) w in
    record {
      recv = in-with l r k (with_data o xs (incoming_at r k)) h d.0;
      rise = rise-with r k (with_data o xs (incoming_at r k)) d.1;
      taken = (let P : Incoming → Type 0 = λ y. (is_some y.held.aborted ≡ true) ⊎ ((i : ℕ) → i < length xs → o + i < y.highest) in subst P (sym (incoming_here r k (with_data o xs (incoming_at r k)) small)) d.2, tt);
    }

same_good : (l : ℕ → StreamLog) (r : Receiving) (f : Known) → FrameTaken r f → RecvWhole l r → Good l r (f ∷ []) r
same_good l r f t h = record { recv = h; rise = rise_same r; taken = (t, tt) }

open_good : (l : ℕ → StreamLog) (r : Receiving) (k : ℕ) (f : Known) → FrameTaken (opened_stream r k) f → RecvWhole l r → Good l r (f ∷ []) (opened_stream r k)
open_good l r k f t h =
    let a = alike_with r r k (incoming_at r k) refl refl (alike_same r) in
    record { recv = alike_whole l r (opened_stream r k) a h; rise = alike_rise r (opened_stream r k) a; taken = (t, tt) }

frame_good : (l : ℕ → StreamLog) (r : Receiving) (f : Known) → length r.streams ≡ 65 → frame_fault r f ≡ None → RecvWhole l r → FrameFine (λ k. (l k).written) f → Good l r (f ∷ []) (after_frame r f)
frame_good l r (StreamData k o xs) wide none h w =
    let small : k < 65 = named_small r k (or_none (stream_fault r k) (data_fault r k o xs) none).0 in
    data_good l r k o xs (rw wide small) h w
frame_good l r (StreamMoney k n) wide none h w = open_good l r k (StreamMoney k n) tt h
frame_good l r (CloseFrame (StreamClose k code message)) wide none h w = open_good l r k (CloseFrame (StreamClose k code message)) tt h
frame_good l r (BlockedFrame b) wide none h w = same_good l r (BlockedFrame b) tt h
frame_good l r (LimitFrame limit) wide none h w = same_good l r (LimitFrame limit) tt h
frame_good l r (CloseFrame (ConnectionClose code message)) wide none h w = same_good l r (CloseFrame (ConnectionClose code message)) tt h
frame_good l r (OtherFrame o) wide none h w = same_good l r (OtherFrame o) tt h

frames_good : (l : ℕ → StreamLog) (fs : List Known) (r : Receiving) → length r.streams ≡ 65 → frames_fault r fs ≡ None → RecvWhole l r → FramesFine (λ k. (l k).written) fs → Good l r fs (after_frames r fs)
unfolding frames_fault after_frames
frames_good l [] r wide none h w = record { recv = h; rise = rise_same r; taken = tt }
frames_good l (f ∷ fs) r wide none h w =
    let parts = or_none (frame_fault r f) (frames_fault (after_frame r f) fs) none in
    let g = frame_good l r f wide parts.0 h w.0 in
    let next = frames_good l fs (after_frame r f) ((frames_keep (f ∷ []) r).width ∙ wide) parts.1 g.recv w.1 in
    record {
      recv = next.recv;
      rise = rise_join r (after_frame r f) (after_frames (after_frame r f) fs) g.rise next.rise;
      taken = (frame_rise (after_frame r f) (after_frames (after_frame r f) fs) f next.rise g.taken.0, next.taken);
    }

-- money changes nothing of it
abbrev held_in : Incoming → Held
held_in x = x.held

abbrev highest_in : Incoming → ℕ
highest_in x = x.highest

money_alike : (r : Receiving) (amount : ℕ) (fs : List Known) → Alike r (after_money r amount fs)
money_alike r amount fs k = (money_keeps held_in (λ x n. refl) r amount fs k, money_keeps highest_in (λ x n. refl) r amount fs k)

-- closes
finish_in : (b : Bool) (l : StreamLog) (x : Incoming) → is_over x.held ≡ b → l.clean ≡ true → length l.written ≤ x.highest → InWhole l x → InWhole l (record x { held = cond b x.held (record x.held { end = Some (past_all x.held) }) })
finish_in true l x e c s h = record { ends = h.ends; drops = h.drops; within = h.within; past = h.past }
finish_in false l x e c s h =
    let a : x.highest ≤ length l.written = h.within in
    let same : x.highest ≡ length l.written = omega arith in
    let fixed : past_all x.held ≡ x.highest = past_is x.held x.highest (h.past e) in
    record { ends = λ n f. (let g : past_all x.held ≡ n = cc in sym g ∙ fixed ∙ same, same, c); drops = h.drops; within = h.within; past = λ o. absurd (cc) }

abort_in : (b : Bool) (l : StreamLog) (x : Incoming) (code : ℕ) → l.aborted ≡ true → InWhole l x → InWhole l (record x { held = cond b x.held (record x.held { bytes = fmap.empty; aborted = Some code }) })
abort_in true l x code c h = record { ends = h.ends; drops = h.drops; within = h.within; past = h.past }
abort_in false l x code c h = record { ends = h.ends; drops = λ e. c; within = h.within; past = λ o. absurd (let z : is_over (record x.held { bytes = fmap.empty; aborted = Some code }) ≡ true = or_right (is_some x.held.end) in cc) }

finish_rise : (b : Bool) (x : Incoming) → RisesAt x (record x { held = cond b x.held (record x.held { end = Some (past_all x.held) }) })
finish_rise true x = (omega arith, λ e. e)
finish_rise false x = (omega arith, λ e. e)

abort_rise : (b : Bool) (x : Incoming) (code : ℕ) → RisesAt x (record x { held = cond b x.held (record x.held { bytes = fmap.empty; aborted = Some code }) })
abort_rise true x code = (omega arith, λ e. e)
abort_rise false x code = (omega arith, λ e. refl)

close_in : (b : Bool) (l : StreamLog) (x : Incoming) (code : ℕ) → nat_eq code 1 ≡ b → (code ≡ 1 → (l.clean ≡ true) × (length l.written ≤ x.highest)) → (code ≢ 1 → l.aborted ≡ true) → InWhole l x
    → let y = record x { held = cond b (after_finish x.held) (after_abort code x.held) } in InWhole l y × RisesAt x y
close_in true l x code e c a h = let k = c (grind (arith)) in (finish_in (is_over x.held) l x refl k.0 k.1 h, finish_rise (is_over x.held) x)
close_in false l x code e c a h = (abort_in (is_over x.held) l x code (a (grind (arith))) h, abort_rise (is_over x.held) x code)

close_stream : (l : ℕ → StreamLog) (r : Receiving) (k code : ℕ) (message : List ℕ) → RecvWhole l r → FrameSound l r (CloseFrame (StreamClose k code message)) → RecvWhole l (after_close r (CloseFrame (StreamClose k code message))) × Rise r (after_close r (CloseFrame (StreamClose k code message)))
close_stream l r k code message h f =
    let c = close_in (nat_eq code 1) (l k) (incoming_at r k) code refl f.0 f.1 (h k) in
    (in-with l r k (with_close code (incoming_at r k)) h c.0, rise-with r k (with_close code (incoming_at r k)) c.1)

close_frame : (l : ℕ → StreamLog) (r : Receiving) (f : Known) → RecvWhole l r → FrameSound l r f → RecvWhole l (after_close r f) × Rise r (after_close r f)
close_frame l r (StreamData k o xs) h s = (h, rise_same r)
close_frame l r (StreamMoney k n) h s = (h, rise_same r)
close_frame l r (CloseFrame (StreamClose k code message)) h s = close_stream l r k code message h s
close_frame l r (BlockedFrame b) h s = (h, rise_same r)
close_frame l r (LimitFrame limit) h s = (h, rise_same r)
close_frame l r (CloseFrame (ConnectionClose code message)) h s = (h, rise_same r)
close_frame l r (OtherFrame o) h s = (h, rise_same r)

close_frames : (l : ℕ → StreamLog) (fs : List Known) (r : Receiving) → RecvWhole l r → FramesSound l r fs → RecvWhole l (after_closes r fs) × Rise r (after_closes r fs)
unfolding after_closes
close_frames l [] r h s = (h, rise_same r)
close_frames l (f ∷ fs) r h s =
    let c = close_frame l r f h s.0 in
    let d = close_frames l fs (after_close r f) c.0 (sound_onward l l r (after_close r f) fs (rise_onward l r (after_close r f) c.1) s.1) in
    (d.0, rise_join r (after_close r f) (after_closes (after_close r f) fs) c.1 d.1)

no_close : (l : ℕ → StreamLog) (q : Receiving) (fs : List Known) (r : Receiving) → FramesSound l q fs → after_connection_closes r fs ≡ r
unfolding after_connection_closes
no_close l q [] r s = refl
no_close l q (StreamData k o xs ∷ fs) r s = no_close l q fs r s.1
no_close l q (StreamMoney k n ∷ fs) r s = no_close l q fs r s.1
no_close l q ((CloseFrame (StreamClose k code message)) ∷ fs) r s = no_close l q fs r s.1
no_close l q ((BlockedFrame b) ∷ fs) r s = no_close l q fs r s.1
no_close l q ((LimitFrame limit) ∷ fs) r s = no_close l q fs r s.1
no_close l q ((CloseFrame (ConnectionClose code message)) ∷ fs) r s = absurd s.0
no_close l q ((OtherFrame o) ∷ fs) r s = no_close l q fs r s.1

pub effect_good : (l : ℕ → StreamLog) (r : Receiving) (p : Packet) (amount : ℕ) → length r.streams ≡ 65 → frames_fault r (frames_of p) ≡ None → RecvWhole l r → FramesSound l r (frames_of p) → FramesFine (λ k. (l k).written) (frames_of p) → Good l r (frames_of p) (effect r p amount)
effect_good l r p amount wide none h s w =
    let fs = frames_of p in
    let a = after_frames r fs in
    let t = after_money a amount fs in
    let u = after_closes t fs in
    let g = frames_good l fs r wide none h w in
    let m = money_alike a amount fs in
    let paid = alike_whole l a t m g.recv in
    let up = rise_join r a t g.rise (alike_rise a t m) in
    let c = close_frames l fs t paid (sound_onward l l r t fs (rise_onward l r t up) s) in
    let P : Receiving → Type 0 = λ y. Good l r fs (with_sequence p.sequence y) in
    let all : Good l r fs (with_sequence p.sequence u) = record { recv = c.0; rise = rise_join r t u up c.1; taken = taken_rise a u fs (rise_join a t u (alike_rise a t m) c.1) g.taken } in
    subst P (sym (no_close l r fs u s)) all
