-- What each step of a receiver keeps of the bytes that were written.
use Rattle.std.proofs.Common.{◌≡◌, ◌≢◌, ℕ, zero, suc, ◌+◌, ◌<◌, Bool, true, false, ◌&&◌, cond, List, [], ◌∷◌, length, get_or, slice_get, refl, sym, ap, subst, ◌∙◌, arith, Option, None, Some, ◌⊎◌, inl, inr, nat_lt, nat_le, nat_eq, is_none}
use Rattle.std.specs.List.{AllByRecursion}
use Rattle.std.specs.Ordering.{nat_cmp}
use Rattle.std.specs.FinMap as fmap
use Rattle.std.proofs.lemmas.Bool.{cases_eq}
use Rattle.st_frames.specs.Frames.{Known, CloseFrame, ConnectionClose, OtherFrame, LimitFrame, BlockedFrame, StreamClose, StreamMoney, StreamData, Packet, frames_of}
use Rattle.st_frames.specs.Told.{shares}
use Rattle.st_streams.specs.Slots.{Slots, slot}
use Rattle.st_reassembly.specs.Held.{Held, is_wanted, with_byte, after_insert, after_read, is_over}
use Rattle.st_reassembly.specs.Closing.{past_all, after_finish, after_abort}
use Rattle.st_receiver.specs.Streams.{Receiving, Incoming, fresh_incoming, incoming_at, incoming_or, with_incoming, opened_stream}
use Rattle.st_receiver.specs.Data.{with_data, after_data, after_frame, after_frames}
use Rattle.st_receiver.specs.Money.{with_credits, parts, after_money}
use Rattle.st_receiver.specs.Closes.{with_close, after_close, after_closes, with_abort, after_connection_close, after_connection_closes}
use Rattle.st_receiver.specs.Judged.{effect}
use Rattle.st_world_parts.specs.Sides.{IsPrefixOf}
use Rattle.st_world.proofs.Maps.{got_insert, got_retain, Within}
use Rattle.st_streams.proofs.SlotLemmas.{slot_cases, slot_here, slot_apart, slot_map}

-- a stream as it would open
abbrev pub fresh_at : Receiving → ℕ → Incoming
fresh_at s k = fresh_incoming (get_or s.kept k 0)

-- each buffered byte is the one that was written at its offset
abbrev pub HeldFine : List ℕ → Held → Type 0
HeldFine w h = (o b : ℕ) → fmap.get h.bytes o ≡ Some b → slice_get w o ≡ Some b

byte_fine : (b : Bool) (w : List ℕ) (h : Held) (o x : ℕ) → HeldFine w h → slice_get w o ≡ Some x → HeldFine w (cond b (record h { bytes = fmap.insert h.bytes o x }) h)
byte_fine true w h o x fine here q b e =
    elim (got_insert h.bytes o x q b e) [
      | inl p ↦ let same : q ≡ o = p.0 in let value : x ≡ b = p.1 in rw (same, ← value) here
      | inr old ↦ fine q b old
    ]
byte_fine false w h o x fine here q b e = fine q b e

pub held-insert : (w : List ℕ) (xs : List ℕ) (h : Held) (o : ℕ) → HeldFine w h → Within w o xs → HeldFine w (after_insert o xs h)
unfolding after_insert
held-insert w [] h o fine within = fine
held-insert w (x ∷ xs) h o fine within =
    held-insert w xs (with_byte o x h) (o + 1)
    (byte_fine (is_wanted h o && is_none (fmap.get h.bytes o)) w h o x fine (let e : o + 0 ≡ o = omega arith in rw e at (within zero x refl)))
    (λ i b e. let s : o + 1 + i ≡ o + suc i = omega arith in rw s (within (suc i) b e))

byte_keeps : {A : Type 0} (f : Held → A) → ((h : Held) (b : fmap.FinMap nat_cmp ℕ) → f (record h { bytes = b }) ≡ f h) → (b : Bool) (h : Held) (o x : ℕ) → f (cond b (record h { bytes = fmap.insert h.bytes o x }) h) ≡ f h
byte_keeps f e true h o x = e h (fmap.insert h.bytes o x)
byte_keeps f e false h o x = refl

-- an insert changes the bytes alone
pub insert_keeps : {A : Type 0} (f : Held → A) → ((h : Held) (b : fmap.FinMap nat_cmp ℕ) → f (record h { bytes = b }) ≡ f h) → (xs : List ℕ) (h : Held) (o : ℕ) → f (after_insert o xs h) ≡ f h
unfolding after_insert
insert_keeps f e [] h o = refl
insert_keeps f e (x ∷ xs) h o = insert_keeps f e xs (with_byte o x h) (o + 1) ∙ byte_keeps f e (is_wanted h o && is_none (fmap.get h.bytes o)) h o x

abbrev read_in : Held → ℕ
read_in h = h.read

pub held-read : (w : List ℕ) (h : Held) (n : ℕ) → HeldFine w h → HeldFine w (after_read n h)
unfolding after_read
held-read w h n fine o b e = fine o b (got_retain h.bytes (λ q. nat_le (h.read + n) q) o b e)

pub read-read : (h : Held) (n : ℕ) → (after_read n h).read ≡ h.read + n
unfolding after_read
read-read h n = refl

held_cond : (b : Bool) (w : List ℕ) (g h : Held) → HeldFine w g → HeldFine w h → HeldFine w (cond b g h)
held_cond true w g h x y = x
held_cond false w g h x y = y

held-finish : (w : List ℕ) (h : Held) → HeldFine w h → HeldFine w (after_finish h)
held-finish w h fine = held_cond (is_over h) w h (record h { end = Some (past_all h) }) fine fine

empty_fine : (w : List ℕ) (o b : ℕ) → fmap.get {X = ℕ} {R = nat_cmp} fmap.empty o ≡ Some b → slice_get w o ≡ Some b
empty_fine w o b e = absurd (let none : fmap.get {X = ℕ} {R = nat_cmp} fmap.empty o ≡ None = fmap.get-empty nat_cmp o in cc)

held-abort : (w : List ℕ) (h : Held) (code : ℕ) → HeldFine w h → HeldFine w (after_abort code h)
held-abort w h code fine =
    held_cond (is_over h) w h (record h { bytes = fmap.empty; aborted = Some code }) fine (empty_fine w)

read_cond : (b : Bool) (g h : Held) (n : ℕ) → g.read ≡ n → h.read ≡ n → (cond b g h).read ≡ n
read_cond true g h n x y = x
read_cond false g h n x y = y

pub read-finish : (h : Held) → (after_finish h).read ≡ h.read
read-finish h = read_cond (is_over h) h (record h { end = Some (past_all h) }) h.read refl refl

pub read-abort : (h : Held) (code : ℕ) → (after_abort code h).read ≡ h.read
read-abort h code =
    read_cond (is_over h) h (record h { bytes = fmap.empty; aborted = Some code }) h.read refl refl

-- one incoming stream: what is buffered was written there, and what was read is as long as the count
pub record StreamFine (w r : List ℕ) (h : Held) : Type 0 where
  pub held : HeldFine w h
  pub count : length r ≡ h.read
  pub is_prefix : IsPrefixOf r w

-- a change of a receive buffer that reads nothing
same_read : (w r : List ℕ) (h g : Held) → StreamFine w r h → HeldFine w g → g.read ≡ h.read → StreamFine w r g
same_read w r h g fine held e = record { held = held; count = fine.count ∙ sym e; is_prefix = fine.is_prefix }

abbrev pub RecvFine : (w r : ℕ → List ℕ) → Receiving → Type 0
RecvFine w r s = (k : ℕ) → StreamFine (w k) (r k) (incoming_at s k).held

pub incoming_cases : (s : Receiving) (k : ℕ) (x : Incoming) (j : ℕ) → ((j ≡ k) × (incoming_at (with_incoming s k x) k ≡ x)) ⊎ (incoming_at (with_incoming s k x) j ≡ incoming_at s j)
incoming_cases s k x j =
    elim (slot_cases s.streams k x j) [
      | inl h ↦ inl (h.0, ap (incoming_or (fresh_at s k)) h.1)
      | inr h ↦ inr (ap (incoming_or (fresh_at s j)) h)
    ]

pub incoming_here : (s : Receiving) (k : ℕ) (x : Incoming) → k < length s.streams → incoming_at (with_incoming s k x) k ≡ x
incoming_here s k x h = ap (incoming_or (fresh_at s k)) (slot_here s.streams k x h)

pub incoming_apart : (s : Receiving) (k : ℕ) (x : Incoming) (j : ℕ) → j ≢ k → incoming_at (with_incoming s k x) j ≡ incoming_at s j
incoming_apart s k x j n = ap (incoming_or (fresh_at s j)) (slot_apart s.streams k x j n)

pub recv-read : (w r : ℕ → List ℕ) (s : Receiving) (k : ℕ) (x : Incoming) → k < length s.streams → ((j : ℕ) → j ≢ k → StreamFine (w j) (r j) (incoming_at s j).held) → StreamFine (w k) (r k) x.held → RecvFine w r (with_incoming s k x)
recv-read w r s k x l fine here j =
    elim (cases_eq j k) [
      | inl e ↦ rw e (let P : Incoming → Type 0 = λ y. StreamFine (w k) (r k) y.held in subst P (sym (incoming_here s k x l)) here)
      | inr n ↦ let P : Incoming → Type 0 = λ y. StreamFine (w j) (r j) y.held in subst P (sym (incoming_apart s k x j n)) (fine j n)
    ]

pub recv-with : (w r : ℕ → List ℕ) (s : Receiving) (k : ℕ) (x : Incoming) → RecvFine w r s → StreamFine (w k) (r k) x.held → RecvFine w r (with_incoming s k x)
recv-with w r s k x fine here j =
    elim (incoming_cases s k x j) [
      | inl h ↦ rw h.0 (let P : Incoming → Type 0 = λ y. StreamFine (w k) (r k) y.held in subst P (sym h.1) here)
      | inr h ↦ let P : Incoming → Type 0 = λ y. StreamFine (w j) (r j) y.held in subst P (sym h) (fine j)
    ]

-- a frame whose data were written there
abbrev pub FrameFine : (ℕ → List ℕ) → Known → Type 0
FrameFine w (StreamData k o xs) = Within (w k) o xs
FrameFine w _ = Unit {0}

abbrev pub FramesFine : (ℕ → List ℕ) → List Known → Type 0
FramesFine w fs = AllByRecursion (FrameFine w) fs

recv_data : (w r : ℕ → List ℕ) (s : Receiving) (k o : ℕ) (xs : List ℕ) → RecvFine w r s → Within (w k) o xs → RecvFine w r (after_data s k o xs)
recv_data w r s k o xs fine within =
    recv-with w r s k (with_data o xs (incoming_at s k)) fine
    (same_read (w k) (r k) (incoming_at s k).held (after_insert o xs (incoming_at s k).held) (fine k)
    (held-insert (w k) xs (incoming_at s k).held o (fine k).held within)
    (insert_keeps read_in (λ h b. refl) xs (incoming_at s k).held o))

recv_open : (w r : ℕ → List ℕ) (s : Receiving) (k : ℕ) → RecvFine w r s → RecvFine w r (opened_stream s k)
recv_open w r s k fine = recv-with w r s k (incoming_at s k) fine (fine k)

recv_frame : (w r : ℕ → List ℕ) (s : Receiving) (f : Known) → RecvFine w r s → FrameFine w f → RecvFine w r (after_frame s f)
recv_frame w r s (StreamData k o xs) fine within = recv_data w r s k o xs fine within
recv_frame w r s (StreamMoney k n) fine within = recv_open w r s k fine
recv_frame w r s (CloseFrame (StreamClose k code message)) fine within = recv_open w r s k fine
recv_frame w r s (CloseFrame (ConnectionClose code message)) fine within = fine
recv_frame w r s (OtherFrame o) fine within = fine
recv_frame w r s (LimitFrame l) fine within = fine
recv_frame w r s (BlockedFrame b) fine within = fine

recv_frames : (w r : ℕ → List ℕ) (fs : List Known) (s : Receiving) → RecvFine w r s → FramesFine w fs → RecvFine w r (after_frames s fs)
unfolding after_frames
recv_frames w r [] s fine frames = fine
recv_frames w r (f ∷ fs) s fine frames = recv_frames w r fs (after_frame s f) (recv_frame w r s f fine frames.0) frames.1

-- a credit changes nothing else of a stream
credit_keeps : {A : Type 0} (f : Incoming → A) → ((x : Incoming) (n : ℕ) → f (record x { credited = n }) ≡ f x) → (xs : Slots Incoming) (ps : List ℕ) (d : Incoming) (k : ℕ)
    → f (incoming_or d (slot (with_credits xs ps) k)) ≡ f (incoming_or d (slot xs k))
credit_keeps f e [] ps d k = refl
credit_keeps f e (x ∷ xs) [] d k = refl
credit_keeps f e (None ∷ xs) (p ∷ ps) d zero = refl
credit_keeps f e (Some x ∷ xs) (p ∷ ps) d zero = e x (x.credited + p)
credit_keeps f e (x ∷ xs) (p ∷ ps) d (suc k) = credit_keeps f e xs ps d k

credits_if : {A : Type 0} (f : Incoming → A) → ((x : Incoming) (n : ℕ) → f (record x { credited = n }) ≡ f x) → (b : Bool) (xs : Slots Incoming) (ps : List ℕ) (d : Incoming) (k : ℕ)
    → f (incoming_or d (slot (cond b (with_credits xs ps) xs) k)) ≡ f (incoming_or d (slot xs k))
credits_if f e true xs ps d k = credit_keeps f e xs ps d k
credits_if f e false xs ps d k = refl

pub money_keeps : {A : Type 0} (f : Incoming → A) → ((x : Incoming) (n : ℕ) → f (record x { credited = n }) ≡ f x) → (s : Receiving) (amount : ℕ) (fs : List Known) (k : ℕ) → f (incoming_at (after_money s amount fs) k) ≡ f (incoming_at s k)
money_keeps f e s amount fs k = credits_if f e (nat_lt 0 amount) s.streams (parts amount (shares fs)) (fresh_at s k) k

abbrev held_in : Incoming → Held
held_in x = x.held

recv_money : (w r : ℕ → List ℕ) (s : Receiving) (amount : ℕ) (fs : List Known) → RecvFine w r s → RecvFine w r (after_money s amount fs)
recv_money w r s amount fs fine k = let P : Held → Type 0 = λ h. StreamFine (w k) (r k) h in subst P (sym (money_keeps held_in (λ x n. refl) s amount fs k)) (fine k)

close_fine : (b : Bool) (w r : List ℕ) (h : Held) (code : ℕ) → StreamFine w r h → StreamFine w r (cond b (after_finish h) (after_abort code h))
close_fine true w r h code fine = same_read w r h (after_finish h) fine (held-finish w h fine.held) (read-finish h)
close_fine false w r h code fine = same_read w r h (after_abort code h) fine (held-abort w h code fine.held) (read-abort h code)

recv_close : (w r : ℕ → List ℕ) (s : Receiving) (f : Known) → RecvFine w r s → RecvFine w r (after_close s f)
recv_close w r s (CloseFrame (StreamClose k code message)) fine =
    recv-with w r s k (with_close code (incoming_at s k)) fine (close_fine (nat_eq code 1) (w k) (r k) (incoming_at s k).held code (fine k))
recv_close w r s (StreamData k o xs) fine = fine
recv_close w r s (StreamMoney k n) fine = fine
recv_close w r s (CloseFrame (ConnectionClose code message)) fine = fine
recv_close w r s (OtherFrame o) fine = fine
recv_close w r s (LimitFrame l) fine = fine
recv_close w r s (BlockedFrame b) fine = fine

recv_closes : (w r : ℕ → List ℕ) (fs : List Known) (s : Receiving) → RecvFine w r s → RecvFine w r (after_closes s fs)
unfolding after_closes
recv_closes w r [] s fine = fine
recv_closes w r (f ∷ fs) s fine = recv_closes w r fs (after_close s f) (recv_close w r s f fine)

abort_slot : (w r : List ℕ) (d : Incoming) (code : ℕ) (o : Option Incoming) → StreamFine w r (incoming_or d o).held → StreamFine w r (incoming_or d (with_abort code o)).held
abort_slot w r d code None fine = fine
abort_slot w r d code (Some x) fine = same_read w r x.held (after_abort code x.held) fine (held-abort w x.held code fine.held) (read-abort x.held code)

recv_ended : (w r : ℕ → List ℕ) (s : Receiving) (f : Known) → RecvFine w r s → RecvFine w r (after_connection_close s f)
recv_ended w r s (CloseFrame (ConnectionClose code message)) fine =
    λ k.
    let P : Option Incoming → Type 0 = λ o. StreamFine (w k) (r k) (incoming_or (fresh_at s k) o).held in
    subst P (sym (slot_map (with_abort code) refl s.streams k)) (abort_slot (w k) (r k) (fresh_at s k) code (slot s.streams k) (fine k))
recv_ended w r s (CloseFrame (StreamClose k code message)) fine = fine
recv_ended w r s (StreamData k o xs) fine = fine
recv_ended w r s (StreamMoney k n) fine = fine
recv_ended w r s (OtherFrame o) fine = fine
recv_ended w r s (LimitFrame l) fine = fine
recv_ended w r s (BlockedFrame b) fine = fine

recv_all_ended : (w r : ℕ → List ℕ) (fs : List Known) (s : Receiving) → RecvFine w r s → RecvFine w r (after_connection_closes s fs)
unfolding after_connection_closes
recv_all_ended w r [] s fine = fine
recv_all_ended w r (f ∷ fs) s fine = recv_all_ended w r fs (after_connection_close s f) (recv_ended w r s f fine)

-- a packet whose data were written
pub effect_fine : (w r : ℕ → List ℕ) (s : Receiving) (p : Packet) (amount : ℕ) → RecvFine w r s → FramesFine w (frames_of p) → RecvFine w r (effect s p amount)
effect_fine w r s p amount fine frames =
    let fs = frames_of p in
    recv_all_ended w r fs (after_closes (after_money (after_frames s fs) amount fs) fs)
    (recv_closes w r fs (after_money (after_frames s fs) amount fs) (recv_money w r (after_frames s fs) amount fs (recv_frames w r fs s fine frames)))
