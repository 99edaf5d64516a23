-- Which numbers open streams have, and that the parity of an end's own numbers stays.
use Rattle.std.proofs.Common.{◌≡◌, ℕ, zero, suc, ◌<◌, ◌≤◌, Bool, true, false, ◌&&◌, cond, List, [], ◌∷◌, replicate, get_or, refl, sym, subst, ap, ◌∙◌, arith, Option, None, Some}
use Rattle.std.specs.Prelude.{is_some, MatchOption}
use Rattle.std.proofs.lemmas.Bool.{false≢true}
use Rattle.std.proofs.lemmas.Bool.Decides.{nat_tests}
use Rattle.st_streams.specs.Numbers.{IsStreamNumber}
use Rattle.st_streams.specs.Slots.{slot}
use Rattle.st_frames.specs.Frames.{Known, Packet, frames_of, CloseFrame, ConnectionClose, OtherFrame, LimitFrame, BlockedFrame, StreamClose, StreamMoney, StreamData}
use Rattle.st_sender.specs.Sending.{Outgoing, Sending, outgoing_at}
use Rattle.st_receiver.specs.Streams.{Receiving, is_open, with_incoming, with_kept, with_max, incoming_at, with_receive_max}
use Rattle.st_receiver.specs.Data.{after_frame, after_frames}
use Rattle.st_receiver.specs.Money.{after_money}
use Rattle.st_receiver.specs.Closes.{after_close, after_closes, after_connection_close, after_connection_closes}
use Rattle.st_receiver.specs.Judged.{fault_of, effect}
use Rattle.st_end.specs.declared.role.Role.{Role}
use Rattle.st_end.specs.declared.role.Role.TheVariants.{Client, Server}
use Rattle.st_end.specs.State as state
use Rattle.st_end.specs.State.{EndState}
use Rattle.st_end.specs.Calls.{IsNoStream}
use Rattle.st_end.specs.Lawful.{IsLawful}
use Rattle.st_end.proofs.Streams.{sends, receives, ones_at, within, effect_opens}

-- ---- numbers

abbrev pub AreNumbered : Sending → Type 0
AreNumbered s = (k : ℕ) → is_some (outgoing_at s k) ≡ true → IsStreamNumber k

pub numbered_as : (s t : Sending) → sends t ≡ sends s → AreNumbered s → AreNumbered t
numbered_as s t e n k h = n k (ones_at s.streams k ∙ ap (λ bs. get_or bs k false) (sym e) ∙ sym (ones_at t.streams k) ∙ h)

none_open : (n k : ℕ) → is_some (slot {A = Outgoing} (replicate n None) k) ≡ false
none_open zero k = refl
none_open (suc n) zero = refl
none_open (suc n) (suc k) = none_open n k

pub numbered_when_new : (s : Sending) → s.streams ≡ replicate 65 None → AreNumbered s
numbered_when_new s e k h = absurd (false≢true (sym (ap (λ xs. is_some (slot xs k)) e ∙ none_open 65 k) ∙ h))

within_is : (k : ℕ) → within k ≡ true → IsStreamNumber k
within_is k e = (low e, high e)
  where
    low : within k ≡ true → 1 ≤ k
    low e = grind (arith, nat_tests)

    high : within k ≡ true → k ≤ 64
    high e = grind (arith, nat_tests)

-- a packet that takes effect opens streams of these numbers alone
pub effect_numbered : (r : Receiving) (s t : Sending) (p : Packet) (amount : ℕ) → fault_of r p amount ≡ None → receives r ≡ sends s → sends t ≡ receives (effect r p amount) → AreNumbered s → AreNumbered t
effect_numbered r s t p amount none e f n k h = by (within k) refl
  where
    on : get_or (receives (effect r p amount)) k false ≡ true
    on = ap (λ bs. get_or bs k false) (sym f) ∙ sym (ones_at t.streams k) ∙ h

    by : (b : Bool) → within k ≡ b → IsStreamNumber k
    by true w = within_is k w
    by false o = n k (ones_at s.streams k ∙ ap (λ bs. get_or bs k false) (sym e) ∙ sym ((effect_opens r p amount none).outside k o) ∙ on)

-- ---- the parity

pub parity_low : (role : Role) (n : ℕ) → n ≡ state.parity role → n < 2
parity_low Client n e = omega (arith, e)
parity_low Server n e = omega (arith, e)

max_parity_if : (b : Bool) (r : Receiving) (k amount : ℕ) → (cond b (with_incoming r k (with_max amount (incoming_at r k))) (with_kept r k amount)).parity ≡ r.parity
max_parity_if true r k amount = refl
max_parity_if false r k amount = refl

pub max_parity : (r : Receiving) (k amount : ℕ) → (with_receive_max r k amount).parity ≡ r.parity
max_parity r k amount = max_parity_if (is_open r k) r k amount

frame_parity : (r : Receiving) (f : Known) → (after_frame r f).parity ≡ r.parity
frame_parity r (StreamData k o xs) = refl
frame_parity r (StreamMoney k n) = refl
frame_parity r (CloseFrame (StreamClose k code message)) = refl
frame_parity r (CloseFrame (ConnectionClose code message)) = refl
frame_parity r (OtherFrame o) = refl
frame_parity r (LimitFrame l) = refl
frame_parity r (BlockedFrame b) = refl

frames_parity : (fs : List Known) (r : Receiving) → (after_frames r fs).parity ≡ r.parity
unfolding after_frames
frames_parity [] r = refl
frames_parity (f ∷ fs) r = frames_parity fs (after_frame r f) ∙ frame_parity r f

close_parity : (r : Receiving) (f : Known) → (after_close r f).parity ≡ r.parity
close_parity r (CloseFrame (StreamClose k code message)) = refl
close_parity r (CloseFrame (ConnectionClose code message)) = refl
close_parity r (StreamData k o xs) = refl
close_parity r (StreamMoney k n) = refl
close_parity r (OtherFrame o) = refl
close_parity r (LimitFrame l) = refl
close_parity r (BlockedFrame b) = refl

closes_parity : (fs : List Known) (r : Receiving) → (after_closes r fs).parity ≡ r.parity
unfolding after_closes
closes_parity [] r = refl
closes_parity (f ∷ fs) r = closes_parity fs (after_close r f) ∙ close_parity r f

connection_parity : (r : Receiving) (f : Known) → (after_connection_close r f).parity ≡ r.parity
connection_parity r (CloseFrame (ConnectionClose code message)) = refl
connection_parity r (CloseFrame (StreamClose k code message)) = refl
connection_parity r (StreamData k o xs) = refl
connection_parity r (StreamMoney k n) = refl
connection_parity r (OtherFrame o) = refl
connection_parity r (LimitFrame l) = refl
connection_parity r (BlockedFrame b) = refl

connections_parity : (fs : List Known) (r : Receiving) → (after_connection_closes r fs).parity ≡ r.parity
unfolding after_connection_closes
connections_parity [] r = refl
connections_parity (f ∷ fs) r = connections_parity fs (after_connection_close r f) ∙ connection_parity r f

pub effect_parity : (r : Receiving) (p : Packet) (amount : ℕ) → (effect r p amount).parity ≡ r.parity
effect_parity r p amount =
    let fs = frames_of p in
    let m = after_money (after_frames r fs) amount fs in
    connections_parity fs (after_closes m fs) ∙ closes_parity fs m ∙ frames_parity fs r

-- ---- a number that no stream has

no_slot : (e : EndState) (k : ℕ) → IsLawful e → (IsStreamNumber k → ⊥) → (o : Option Outgoing) → outgoing_at e.sending k ≡ o → o ≡ None
no_slot e k l un None at = refl
no_slot e k l un (Some x) at = absurd (un (l.numbers k (ap is_some at)))

no_some : {X : Type 0} (o : Option X) → is_some o ≡ false → o ≡ None
no_some None e = refl
no_some (Some x) e = absurd (cc)

not_within : (k : ℕ) (b : Bool) → (IsStreamNumber k → ⊥) → (within k && b) ≡ false
not_within k b un = by (within k) refl
  where
    by : (c : Bool) → within k ≡ c → (within k && b) ≡ false
    by true w = absurd (un (within_is k w))
    by false w = ap (λ c. c && b) w

pub no_stream : (e : EndState) (k : ℕ) → IsLawful e → (IsStreamNumber k → ⊥) → IsNoStream e k
no_stream e k l un =
    let none = no_slot e k l un (outgoing_at e.sending k) refl in
    record { sends = none; receives = no_some (slot e.receiving.streams k) (l.both k ∙ ap is_some none); name = not_within k _ un }

-- the stream that a number was made, or that none can be
pub stream_of_number : (e now : EndState) (k : ℕ) (o : Option ℕ) → e ≡ now → IsLawful e → MatchOption o (¬ (IsStreamNumber k)) (λ s. (s ≡ k) × IsStreamNumber k)
    → MatchOption o (IsNoStream now k) (λ s. s ≡ k)
stream_of_number e now k None same l h = subst (λ (x : EndState). IsNoStream x k) same (no_stream e k l h)
stream_of_number e now k (Some s) same l h = h.0
