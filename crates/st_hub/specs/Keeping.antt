-- What the other calls of an end leave of its bytes: nothing is written, and nothing is read.
use Rattle.std.specs.Prelude.{◌≡◌, ℕ, ◌+◌, ◌≤◌, true, length, is_some}
use Rattle.std.specs.declared.option.Option.{Option}
use Rattle.std.specs.declared.option.Option.TheVariants.{Some}
use Rattle.std.specs.FinMap.{get}
use Rattle.st_streams.specs.Slots.{slot}
use Rattle.st_sender.specs.Sending.{Outgoing, Sending, outgoing_at}
use Rattle.st_sender.specs.Refusals.{accepted_of}
use Rattle.st_receiver.specs.Streams.{Receiving, delivered_of}
use Rattle.st_end.specs.State.{EndState}
use Rattle.st_hub.specs.Flow.{unacked_of}
use Rattle.st_hub.specs.Handing.{IsOwn, IsKnown}

-- as many bytes were accepted, and what is kept was kept before
pub record KeepsOut (x y : Option Outgoing) : Type 0 where
  pub accepted : accepted_of y ≡ accepted_of x
  pub kept : (q b : ℕ) → get (unacked_of y) q ≡ Some b → get (unacked_of x) q ≡ Some b
  pub is_open : is_some x ≡ true → is_some y ≡ true

pub record KeepsSent (s t : Sending) : Type 0 where
  pub width : length t.streams ≡ length s.streams
  pub each : (k : ℕ) → KeepsOut (outgoing_at s k) (outgoing_at t k)
  pub paid : s.paid ≤ t.paid

-- so much is credited
pub record KeepsRead (gain : ℕ) (r t : Receiving) : Type 0 where
  pub width : length t.streams ≡ length r.streams
  pub each : (k : ℕ) → delivered_of (slot t.streams k) ≡ delivered_of (slot r.streams k)
  pub credit : t.credit ≡ r.credit + gain
  pub parity : t.parity ≡ r.parity

pub record Keeps (gain : ℕ) (a b : EndState) : Type 0 where
  pub sent : KeepsSent a.sending b.sending
  pub read : KeepsRead gain a.receiving b.receiving

-- no stream opens that is one of this end's own
pub record OpensNoOwn (a b : EndState) : Type 0 where
  pub each : (k : ℕ) → IsOwn a k → IsKnown b k → IsKnown a k

-- nothing that an end counts falls
pub record Rises (a b : EndState) : Type 0 where
  pub sent_width : length b.sending.streams ≡ length a.sending.streams
  pub accepted : (k : ℕ) → accepted_of (outgoing_at a.sending k) ≤ accepted_of (outgoing_at b.sending k)
  pub is_open : (k : ℕ) → is_some (outgoing_at a.sending k) ≡ true → is_some (outgoing_at b.sending k) ≡ true
  pub read_width : length b.receiving.streams ≡ length a.receiving.streams
  pub read : (k : ℕ) → delivered_of (slot a.receiving.streams k) ≤ delivered_of (slot b.receiving.streams k)
  pub credit : a.receiving.credit ≤ b.receiving.credit
  pub parity : b.receiving.parity ≡ a.receiving.parity
  pub paid : a.sending.paid ≤ b.sending.paid
