-- What opening streams and marking limits leave as it was, at the sending side of an end.
use Rattle.std.proofs.Common.{◌≡◌, ℕ, Bool, true, false, not, ◌&&◌, cond, List, [], ◌∷◌, refl, Option, None, Some, is_some}
use Rattle.std.specs.List.{fold, range_with_len}
use Rattle.st_frames.specs.Frames.{Known, CloseFrame, OtherFrame, LimitFrame, BlockedFrame, StreamMoney, StreamData, ConnectionMaxData, StreamMaxData, StreamMaxMoney}
use Rattle.st_sender.specs.Sending.{Sending, Outgoing, PeerBlocked, new_outgoing, outgoing_at, with_outgoing}
use Rattle.st_sender.specs.Answering.{after_marked}
use Rattle.st_receiver.specs.Streams.{Receiving, is_open}
use Rattle.st_end.specs.Receiving.{opened_at, opened_too, tells_blocked, marked_if, marked, all_marked}
use Rattle.st_end.specs.State.{EndState}
use Rattle.st_end.specs.Calls.{with_stream, opened_unless}
use Rattle.st_streams.specs.declared.end_error.EndError.{EndError}

fold_keeps : {A B : Type 0} (P : B → Type 0) (f : B → A → B) → ((b : B) (x : A) → P b → P (f b x)) → (xs : List A) (b : B) → P b → P (fold f b xs)
fold_keeps P f step [] b h = h
fold_keeps P f step (x ∷ xs) b h = fold_keeps P f step xs (f b x) (step b x h)

module _ (P : Sending → Type 0) where
  open_if : ((s : Sending) (k : ℕ) → outgoing_at s k ≡ None → P s → P (with_outgoing s k new_outgoing)) → (s : Sending) (k : ℕ) (b : Bool) (o : Option Outgoing) → outgoing_at s k ≡ o → P s
      → P (cond (b && not (is_some o)) (with_outgoing s k new_outgoing) s)
  open_if step s k true None e h = step s k e h
  open_if step s k true (Some x) e h = h
  open_if step s k false o e h = h

  -- what a new stream keeps, opening streams keeps
  pub opened_keeps : ((s : Sending) (k : ℕ) → outgoing_at s k ≡ None → P s → P (with_outgoing s k new_outgoing)) → (r : Receiving) (s : Sending) → P s → P (opened_too r s)
  unfolding opened_too
  opened_keeps step r s h = fold_keeps P (opened_at r) (λ t k. open_if step t k (is_open r k) (outgoing_at t k) refl) (range_with_len 1 64) s h

  mark_keeps : ((s : Sending) (m : PeerBlocked) → P s → P (record s { marks = m })) → (s : Sending) (f : Known) → P s → P (after_marked s f)
  mark_keeps step s (LimitFrame (ConnectionMaxData n)) h = step s _ h
  mark_keeps step s (LimitFrame (StreamMaxData j n)) h = step s _ h
  mark_keeps step s (LimitFrame (StreamMaxMoney j n u)) h = step s _ h
  mark_keeps step s (BlockedFrame b) h = h
  mark_keeps step s (StreamData k o xs) h = h
  mark_keeps step s (StreamMoney k n) h = h
  mark_keeps step s (CloseFrame c) h = h
  mark_keeps step s (OtherFrame o) h = h

  mark_if : ((s : Sending) (m : PeerBlocked) → P s → P (record s { marks = m })) → (s : Sending) (b : Bool) (f : Known) → P s → P (marked_if s b f)
  mark_if step s true f h = mark_keeps step s f h
  mark_if step s false f h = h

  -- what other marks keep, marking keeps
  pub marked_keeps : ((s : Sending) (m : PeerBlocked) → P s → P (record s { marks = m })) → (reply fs : List Known) (s : Sending) → P s → P (all_marked reply s fs)
  marked_keeps step reply [] s h = h
  marked_keeps step reply (f ∷ fs) s h =
      marked_keeps step reply fs (marked reply s f) (fold_keeps P (λ t g. marked_if t (tells_blocked f g) g) (λ t g. mark_if step t (tells_blocked f g) g) reply s h)

-- if an end has a property before an opening and with the new stream, it has it after the call, refused or not
pub opening_either : (P : EndState → Type 0) (e : EndState) (k : ℕ) (o : Option EndError) → P e → P (with_stream e k) → P (opened_unless e k o).1
opening_either P e k None f g = g
opening_either P e k (Some why) f g = f
