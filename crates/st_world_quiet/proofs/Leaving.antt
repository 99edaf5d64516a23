-- What an outgoing packet leaves unchanged at the receiver: every read count, and whether a stream is aborted.
use Rattle.std.proofs.Common.{◌≡◌, ℕ, zero, suc, Bool, true, false, cond, List, [], ◌∷◌, length, refl, ap, ◌∙◌, None, Some, nat_eq, nat_lt, slice_index}
use Rattle.std.specs.List.{AllByRecursion}
use Rattle.std.proofs.lemmas.List.{length-set}
use Rattle.st_streams.specs.Slots.{Slots, slot}
use Rattle.st_frames.specs.Frames.{CloseFrame, ConnectionClose, Known, StreamClose}
use Rattle.st_frames.specs.Told.{shares}
use Rattle.st_reassembly.specs.Held.{Held, is_over}
use Rattle.st_reassembly.specs.Closing.{after_abort, after_finish}
use Rattle.st_sender.specs.Sending.{Sending}
use Rattle.st_sender.specs.Due.{IsDue}
use Rattle.st_receiver.specs.Streams.{Incoming, Receiving, fresh_incoming, incoming_at, incoming_or}
use Rattle.st_receiver.specs.Data.{after_frames}
use Rattle.st_receiver.specs.Money.{after_money, parts, with_credits}
use Rattle.st_receiver.specs.Closes.{after_close, after_closes, after_connection_close, after_connection_closes, with_close}
use Rattle.st_receiver.specs.Judged.{after_all}
use Rattle.st_receiver.proofs.Tallying.{paid_length}
use Rattle.st_receiver.proofs.Crediting.{frames_length}
use Rattle.st_world_quiet.specs.Quiet.{IsQuiet}
use Rattle.st_world_quiet.proofs.Lowering.{clean_asked}
use Rattle.st_world_quiet.proofs.Receiving.{frames_opened, replaced_at}

credits_held : (fresh : Incoming) (xs : Slots Incoming) (ps : List ℕ) (k : ℕ) → (incoming_or fresh (slot (with_credits xs ps) k)).held ≡ (incoming_or fresh (slot xs k)).held
credits_held fresh [] ps k = refl
credits_held fresh (x ∷ xs) [] k = refl
credits_held fresh (None ∷ xs) (p ∷ ps) zero = refl
credits_held fresh (Some x ∷ xs) (p ∷ ps) zero = refl
credits_held fresh (x ∷ xs) (p ∷ ps) (suc k) = credits_held fresh xs ps k

money_held_if : (b : Bool) (fresh : Incoming) (xs : Slots Incoming) (ps : List ℕ) (k : ℕ) → (incoming_or fresh (slot (cond b (with_credits xs ps) xs) k)).held ≡ (incoming_or fresh (slot xs k)).held
money_held_if true fresh xs ps k = credits_held fresh xs ps k
money_held_if false fresh xs ps k = refl

pub money_held : (r : Receiving) (amount : ℕ) (fs : List Known) (k : ℕ) → (incoming_at (after_money r amount fs) k).held ≡ (incoming_at r k).held
money_held r amount fs k = money_held_if (nat_lt 0 amount) (fresh_incoming (slice_index r.kept k)) r.streams (parts amount (shares fs)) k

-- ---- closes

pub kept_if : {A : Type 0} (g : Held → A) (b : Bool) (s t : Held) → g t ≡ g s → g (cond b s t) ≡ g s
kept_if g true s t e = refl
kept_if g false s t e = e

either_if : {A : Type 0} (g : Held → A) (b : Bool) (s t u : Held) → g t ≡ g s → g u ≡ g s → g (cond b t u) ≡ g s
either_if g true s t u a c = a
either_if g false s t u a c = c

close_reads : (code : ℕ) (x : Incoming) → (with_close code x).held.read ≡ x.held.read
close_reads code x =
    let read : Held → ℕ = λ h. h.read in
    either_if read (nat_eq code 1) x.held (after_finish x.held) (after_abort code x.held) (kept_if read (is_over x.held) x.held _ refl) (kept_if read (is_over x.held) x.held _ refl)

one_close_reads : (r : Receiving) (f : Known) (k : ℕ) → (incoming_at (after_close r f) k).held.read ≡ (incoming_at r k).held.read
one_close_reads r (CloseFrame (StreamClose j code message)) k = replaced_at (λ x. x.held.read) r j (with_close code (incoming_at r j)) k (close_reads code (incoming_at r j))
one_close_reads r f k = refl

closes_read : (r : Receiving) (fs : List Known) (k : ℕ) → (incoming_at (after_closes r fs) k).held.read ≡ (incoming_at r k).held.read
unfolding after_closes
closes_read r [] k = refl
closes_read r (f ∷ fs) k = closes_read (after_close r f) fs k ∙ one_close_reads r f k

-- a close of a lossless run is clean
pub one_close_keeps : {A : Type 0} (g : Held → A) → ((h : Held) → g (after_finish h) ≡ g h) → (n : ℕ → ℕ) (s : Sending) (limits : List Known) (r : Receiving) (f : Known) (k : ℕ) → IsQuiet n s → IsDue s limits f
    → g (incoming_at (after_close r f) k).held ≡ g (incoming_at r k).held
one_close_keeps g keeps n s limits r (CloseFrame (StreamClose j code message)) k quiet due =
    let d = due.0 in
    let clean = (clean_asked n s j code d.stream quiet d.is_open d.asked).0 in
    let one : g (with_close code (incoming_at r j)).held ≡ g (incoming_at r j).held = rw clean (keeps (incoming_at r j).held) in
    replaced_at (λ x. g x.held) r j (with_close code (incoming_at r j)) k one
one_close_keeps g keeps n s limits r f k quiet due = refl

closes_keep : {A : Type 0} (g : Held → A) → ((h : Held) → g (after_finish h) ≡ g h) → (n : ℕ → ℕ) (s : Sending) (limits : List Known) (r : Receiving) (fs : List Known) (k : ℕ) → IsQuiet n s → AllByRecursion (IsDue s limits) fs
    → g (incoming_at (after_closes r fs) k).held ≡ g (incoming_at r k).held
unfolding after_closes
closes_keep g keeps n s limits r [] k quiet due = refl
closes_keep g keeps n s limits r (f ∷ fs) k quiet due = closes_keep g keeps n s limits (after_close r f) fs k quiet due.1 ∙ one_close_keeps g keeps n s limits r f k quiet due.0

pub one_close_slots : (r : Receiving) (f : Known) → length (after_close r f).streams ≡ length r.streams
one_close_slots r (CloseFrame (StreamClose j code message)) = length-set r.streams j (Some (with_close code (incoming_at r j)))
one_close_slots r f = refl

pub closes_slots : (r : Receiving) (fs : List Known) → length (after_closes r fs).streams ≡ length r.streams
unfolding after_closes
closes_slots r [] = refl
closes_slots r (f ∷ fs) = closes_slots (after_close r f) fs ∙ one_close_slots r f

-- an outgoing packet closes no connection
no_connection_close : (s : Sending) (limits : List Known) (r : Receiving) (f : Known) → IsDue s limits f → after_connection_close r f ≡ r
no_connection_close s limits r (CloseFrame (ConnectionClose code message)) due = absurd due
no_connection_close s limits r f due = refl

pub no_connection_closes : (s : Sending) (limits : List Known) (r : Receiving) (fs : List Known) → AllByRecursion (IsDue s limits) fs → after_connection_closes r fs ≡ r
unfolding after_connection_closes
no_connection_closes s limits r [] due = refl
no_connection_closes s limits r (f ∷ fs) due = ap (λ t. after_connection_closes t fs) (no_connection_close s limits r f due.0) ∙ no_connection_closes s limits r fs due.1

-- an outgoing packet leaves every read count of the receiver as it was
pub effect_reads : (s : Sending) (limits : List Known) (r : Receiving) (amount : ℕ) (fs : List Known) (k : ℕ) → AllByRecursion (IsDue s limits) fs → (incoming_at (after_all r amount fs) k).held.read ≡ (incoming_at r k).held.read
effect_reads s limits r amount fs k due =
    ap (λ t. (incoming_at t k).held.read) (no_connection_closes s limits (after_closes (after_money (after_frames r fs) amount fs) fs) fs due)
    ∙ closes_read (after_money (after_frames r fs) amount fs) fs k
    ∙ ap (λ (h : Held). h.read) (money_held (after_frames r fs) amount fs k)
    ∙ (frames_opened r fs).reads k

-- of the receive buffer, money and closes change the end alone
pub effect_held : {A : Type 0} (g : Held → A) → ((h : Held) → g (after_finish h) ≡ g h) → (n : ℕ → ℕ) (s : Sending) (limits : List Known) (r : Receiving) (amount : ℕ) (fs : List Known) (k : ℕ) → IsQuiet n s → AllByRecursion (IsDue s limits) fs
    → g (incoming_at (after_all r amount fs) k).held ≡ g (incoming_at (after_frames r fs) k).held
effect_held g keeps n s limits r amount fs k quiet due =
    ap (λ t. g (incoming_at t k).held) (no_connection_closes s limits (after_closes (after_money (after_frames r fs) amount fs) fs) fs due)
    ∙ closes_keep g keeps n s limits (after_money (after_frames r fs) amount fs) fs k quiet due
    ∙ ap g (money_held (after_frames r fs) amount fs k)

-- and no stream becomes aborted
pub effect_alive : (n : ℕ → ℕ) (s : Sending) (limits : List Known) (r : Receiving) (amount : ℕ) (fs : List Known) (k : ℕ) → IsQuiet n s → AllByRecursion (IsDue s limits) fs
    → (incoming_at (after_all r amount fs) k).held.aborted ≡ (incoming_at r k).held.aborted
effect_alive n s limits r amount fs k quiet due =
    effect_held (λ h. h.aborted) (λ h. kept_if (λ (z : Held). z.aborted) (is_over h) h _ refl) n s limits r amount fs k quiet due ∙ (frames_opened r fs).aborted k

pub effect_slots : (s : Sending) (limits : List Known) (r : Receiving) (amount : ℕ) (fs : List Known) → AllByRecursion (IsDue s limits) fs → length (after_all r amount fs).streams ≡ length r.streams
effect_slots s limits r amount fs due =
    ap (λ (t : Receiving). length t.streams) (no_connection_closes s limits (after_closes (after_money (after_frames r fs) amount fs) fs) fs due)
    ∙ closes_slots (after_money (after_frames r fs) amount fs) fs
    ∙ paid_length (nat_lt 0 amount) (after_frames r fs).streams (parts amount (shares fs))
    ∙ frames_length r fs
