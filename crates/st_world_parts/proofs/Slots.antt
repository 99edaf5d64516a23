-- A call with the place of the stream's ledger is one with the ledgers.
use Rattle.std.proofs.Common.{◌≡◌, ◌≢◌, ℕ, zero, suc, ◌+◌, ◌<◌, ◌≤◌, Bool, true, false, cond, List, [], ◌∷◌, length, take, set, get_or, refl, sym, ap, subst, ◌∙◌, arith, Option, None, Some, inl, inr, Result, Ok, Err}
use Rattle.std.specs.Ordering.{nat_cmp}
use Rattle.std.specs.FinMap as fmap
use Rattle.std.proofs.lemmas.List.{length-take}
use Rattle.st_reassembly.specs.Held.{Held}
use Rattle.st_reassembly.specs.Run.{run}
use Rattle.st_sender.specs.Sending.{Sending}
use Rattle.st_receiver.specs.Streams.{incoming_at, is_open}
use Rattle.st_receiver.specs.Reading.{Got, Bytes, Nothing, End, Aborted, is_read, got_bytes, got_by}
use Rattle.st_streams.specs.declared.end_error.EndError.{EndError}
use Rattle.st_streams.specs.declared.end_error.EndError.TheVariants.{NoMemory}
use Rattle.st_end.specs.State.{EndState}
use Rattle.st_sender.specs.Sending.{changed}
use Rattle.st_sender.specs.Accepting.{after_write, after_clean, after_stream_abort, after_offer}
use Rattle.st_sender.specs.Refusals.{write_refusal, close_refusal, abort_refusal, offer_refusal}
use Rattle.st_end.specs.Calls.{Answer, OrWants, done, refusal, write, close, abort, offer}
use Rattle.st_end.specs.Reading.{read}
use Rattle.st_world_parts.specs.StreamLogs.{StreamLog, ledger_or, got}
use Rattle.st_world_parts.specs.State.{Party, AnsweredAtEnd}
use Rattle.st_world_parts.specs.Events.{Told}
use Rattle.st_world_parts.specs.Kept.{all_from}
use Rattle.st_world_parts.specs.Parts.{CallMet, SlotMet, slot_if, kept_if, ReadMet, SlotRead, slot_read, read_if}
use Rattle.st_world_parts.proofs.AllFrom.{log_at, with_ledger, set_same}

any_or : (xs : List (Option StreamLog)) (k : ℕ) (d x : Option StreamLog) → k < length xs → get_or xs k d ≡ get_or xs k x
any_or [] k d x l = absurd (omega (arith, l))
any_or (y ∷ ys) zero d x l = refl
any_or (y ∷ ys) (suc k) d x l = any_or ys k d x (omega (arith, l))

found : (os : List (Option StreamLog)) (k : ℕ) (o : Option StreamLog) → k < length os → o ≡ get_or os k o → fmap.get (all_from 0 os) k ≡ o
found os k o l is = log_at os k ∙ any_or os k None o l ∙ sym is

kept : (a : Answer) (os : List (Option StreamLog)) (k : ℕ) (o u : Option StreamLog) (x : StreamLog) → k < length os → o ≡ get_or os k o → u ≡ slot_if a o x → all_from 0 (set os k u) ≡ kept_if a (all_from 0 os) k x
kept (Ok done) os k o u x l is e = ap (λ (v : Option StreamLog). all_from 0 (set os k v)) e ∙ with_ledger os k x l
kept (Err why) os k o u x l is e = ap (λ (v : Option StreamLog). all_from 0 (set os k v)) e ∙ ap (all_from 0) (set_same os k o o is)

at_list : (call : EndState → Answer × EndState) (g : StreamLog → StreamLog) (e f : EndState) (answered : List AnsweredAtEnd) (os : List (Option StreamLog)) (k : ℕ) (o u : Option StreamLog) (told : Told)
    → k < length os → o ≡ get_or os k o → SlotMet (call e) (g (ledger_or o)) told e f o u
    → CallMet (call e) k (g (ledger_or (fmap.get (all_from 0 os) k))) told (record { state = e; answered = answered }) (record { state = f; answered = answered }) (all_from 0 os) (all_from 0 (set os k u))
at_list call g e f answered os k o u told l is met = elim met [
  | inl h ↦ inl (
    h.0,
    ap (λ (s : EndState). record { state = s; answered = answered }) h.1,
    kept (call e).0 os k o u (g (ledger_or o)) l is h.2 ∙ ap (λ (z : Option StreamLog). kept_if (call e).0 (all_from 0 os) k (g (ledger_or z))) (sym (found os k o l is)),
  )
  | inr h ↦ inr (
    h.0,
    h.1,
    ap (λ (s : EndState). record { state = s; answered = answered }) h.2,
    ap (λ (v : Option StreamLog). all_from 0 (set os k v)) h.3 ∙ ap (all_from 0) (set_same os k o o is),
  )
]

pub at_slot : (call : EndState → Answer × EndState) (g : StreamLog → StreamLog) (e f : EndState) (answered : List AnsweredAtEnd) (os : List (Option StreamLog)) (i k : ℕ) (o u : Option StreamLog) (told : Told) (p : Party) (m : fmap.FinMap nat_cmp StreamLog)
    → record { state = e; answered = answered } ≡ p → all_from 0 os ≡ m → i ≡ k → i < length os → o ≡ get_or os i o → SlotMet (call e) (g (ledger_or o)) told e f o u
    → CallMet (call p.state) k (g (ledger_or (fmap.get m k))) told p (record { state = f; answered = answered }) m (all_from 0 (set os i u))
at_slot call g e f answered os i k o u told p m pe me ik l is met =
    let q : Party = record { state = f; answered = answered } in
    let P : Party → Type 0 = λ p. CallMet (call p.state) k (g (ledger_or (fmap.get m k))) told p q m (all_from 0 (set os i u)) in
    let p0 : Party = record { state = e; answered = answered } in
    let M : fmap.FinMap nat_cmp StreamLog → Type 0 = λ m. CallMet (call e) k (g (ledger_or (fmap.get m k))) told p0 q m (all_from 0 (set os i u)) in
    let K : ℕ → Type 0 = λ k. CallMet (call e) k (g (ledger_or (fmap.get (all_from 0 os) k))) told p0 q (all_from 0 os) (all_from 0 (set os i u)) in
    subst P pe (subst M me (subst K ik (at_list call g e f answered os i o u told l is met)))

kept_read : (a : Result Got EndError) (os : List (Option StreamLog)) (k : ℕ) (o u : Option StreamLog) → k < length os → o ≡ get_or os k o → u ≡ slot_read a o → all_from 0 (set os k u) ≡ read_if a (all_from 0 os) k
kept_read (Err why) os k o u l is e = ap (λ (v : Option StreamLog). all_from 0 (set os k v)) e ∙ ap (all_from 0) (set_same os k o o is)
kept_read (Ok g) os k o u l is e =
    ap (λ (v : Option StreamLog). all_from 0 (set os k v)) e ∙ with_ledger os k (got g (ledger_or o)) l
    ∙ ap (λ (z : Option StreamLog). fmap.insert (all_from 0 os) k (got g (ledger_or z))) (sym (found os k o l is))

read_list : (e f : EndState) (answered : List AnsweredAtEnd) (os : List (Option StreamLog)) (k n : ℕ) (o u : Option StreamLog) (told : Told) → k < length os → o ≡ get_or os k o → SlotRead (read e k n) told e f o u
    → ReadMet (read e k n) k told (record { state = e; answered = answered }) (record { state = f; answered = answered }) (all_from 0 os) (all_from 0 (set os k u))
read_list e f answered os k n o u told l is met = elim met [
  | inl h ↦ inl (h.0, ap (λ (s : EndState). record { state = s; answered = answered }) h.1, kept_read (read e k n).0 os k o u l is h.2)
  | inr h ↦ inr (h.0, h.1, ap (λ (s : EndState). record { state = s; answered = answered }) h.2, ap (λ (v : Option StreamLog). all_from 0 (set os k v)) h.3 ∙ ap (all_from 0) (set_same os k o o is))
]

pub read_slot : (e f : EndState) (answered : List AnsweredAtEnd) (os : List (Option StreamLog)) (i k n : ℕ) (o u : Option StreamLog) (told : Told) (p : Party) (m : fmap.FinMap nat_cmp StreamLog)
    → record { state = e; answered = answered } ≡ p → all_from 0 os ≡ m → i ≡ k → i < length os → o ≡ get_or os i o → SlotRead (read e k n) told e f o u
    → ReadMet (read p.state k n) k told p (record { state = f; answered = answered }) m (all_from 0 (set os i u))
read_slot e f answered os i k n o u told p m pe me ik l is met =
    let q : Party = record { state = f; answered = answered } in
    let p0 : Party = record { state = e; answered = answered } in
    let P : Party → Type 0 = λ p. ReadMet (read p.state k n) k told p q m (all_from 0 (set os i u)) in
    let M : fmap.FinMap nat_cmp StreamLog → Type 0 = λ m. ReadMet (read e k n) k told p0 q m (all_from 0 (set os i u)) in
    let K : ℕ → Type 0 = λ k. SlotRead (read e k n) told e f o u → ReadMet (read e k n) k told p0 q (all_from 0 os) (all_from 0 (set os i u)) in
    subst P pe (subst M me (subst K ik (read_list e f answered os i n o u told l is) met))

-- ---- what a call leaves of the conditions

done_keeps : (e : EndState) (why : Option EndError) (s : Sending) → (done e why s).1.conditions ≡ e.conditions
done_keeps e None s = refl
done_keeps e (Some why) s = refl

pub write_keeps : (e : EndState) (k : ℕ) (xs : List ℕ) → (write e k xs).1.conditions ≡ e.conditions
write_keeps e k xs = done_keeps e (refusal e k (write_refusal e.sending k (length xs))) (changed e.sending k (after_write xs))

pub close_keeps : (e : EndState) (k : ℕ) → (close e k).1.conditions ≡ e.conditions
close_keeps e k = done_keeps e (refusal e k (close_refusal e.sending k)) (changed e.sending k after_clean)

pub abort_keeps : (e : EndState) (k code : ℕ) → (abort e k code).1.conditions ≡ e.conditions
abort_keeps e k code = done_keeps e (refusal e k (abort_refusal e.sending k)) (changed e.sending k (after_stream_abort code))

pub offer_keeps : (e : EndState) (k amount : ℕ) → (offer e k amount).1.conditions ≡ e.conditions
offer_keeps e k amount = done_keeps e (refusal e k (offer_refusal e.sending k amount)) (changed e.sending k (after_offer amount))

pub slot_keeps : (r : Answer × EndState) (x : StreamLog) (told : Told) (e f : EndState) (o u : Option StreamLog) → r.1.conditions ≡ e.conditions → SlotMet r x told e f o u → f.conditions ≡ e.conditions
slot_keeps r x told e f o u k met = elim met [ inl h ↦ ap (λ (s : EndState). s.conditions) h.1 ∙ k | inr h ↦ ap (λ (s : EndState). s.conditions) h.2 ]

-- ---- a read gives no more than was asked for

no_bytes : (b : Bool) (xs : List ℕ) → cond b End Nothing ≡ Bytes xs → ⊥
no_bytes true xs e = cc
no_bytes false xs e = cc

bytes_are : (h : Held) (t xs : List ℕ) → got_bytes h t ≡ Bytes xs → t ≡ xs
bytes_are h [] xs e = absurd (no_bytes (is_read h.read h.end) xs e)
bytes_are h (x ∷ t) xs e = cc

short_by : (o : Option ℕ) (n : ℕ) (h : Held) (xs : List ℕ) → got_by o n h ≡ Bytes xs → length xs ≤ n
short_by (Some code) n h xs e = absurd (cc)
short_by None n h xs e =
    let is : length (take n (run h)) ≡ length xs = ap length (bytes_are h (take n (run h)) xs e) in
    let most = length-take n (run h) in
    omega (arith, is, most)

short_if : (b : Bool) (e f g : EndState) (x : Got) (y : EndError) (xs : List ℕ) (n : ℕ) → (x ≡ Bytes xs → length xs ≤ n) → (Ok (Bytes xs), g) ≡ cond {A = Result Got EndError × EndState} b (Ok x, f) (Err y, e) → length xs ≤ n
short_if true e f g x y xs n h is = h (let first : ◌≡◌ {A = Result Got EndError} (Ok (Bytes xs)) (Ok x) = ap (λ (r : Result Got EndError × EndState). r.0) is in cc)
short_if false e f g x y xs n h is = absurd (let first : ◌≡◌ {A = Result Got EndError} (Ok (Bytes xs)) (Err y) = ap (λ (r : Result Got EndError × EndState). r.0) is in cc)

pub read_short : (e f : EndState) (k n : ℕ) (xs : List ℕ) → OrWants e (read e k n) (Ok (Bytes xs), f) → length xs ≤ n
read_short e f k n xs got = elim got [
  | inl is ↦ short_if (is_open e.receiving k) e _ f _ _ xs n (short_by (incoming_at e.receiving k).held.aborted n (incoming_at e.receiving k).held xs) is
  | inr lacks ↦ absurd (let first : ◌≡◌ {A = Result Got EndError} (Ok (Bytes xs)) (Err NoMemory) = ap (λ (r : Result Got EndError × EndState). r.0) lacks.1 in cc)
]
