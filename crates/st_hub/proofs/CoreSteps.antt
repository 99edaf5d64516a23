-- What a write and a read leave of an end's bytes.
use Rattle.std.proofs.Common.{◌≡◌, ◌≢◌, ℕ, zero, suc, ◌+◌, ◌≤◌, Bool, true, false, cond, List, [], ◌∷◌, ◌++◌, length, take, slice_get, refl, sym, ap, subst, ◌∙◌, arith, Option, None, Some, inl, inr, ◌⊎◌, is_some, Result, Ok, Err, length-append, length-set}
use Rattle.std.specs.Ordering.{nat_cmp}
use Rattle.std.specs.FinMap as fmap
use Rattle.std.proofs.lemmas.Grind.{common_steps}
use Rattle.st_streams.specs.Table.{put_bytes}
use Rattle.st_streams.specs.Slots.{slot, with_slot}
use Rattle.st_streams.proofs.SlotLemmas.{slot_cases, slot_here, slot_apart, slot_within}
use Rattle.st_reassembly.specs.Held.{Held, after_read}
use Rattle.st_reassembly.specs.Run.{run}
use Rattle.st_sender.specs.Sending.{Sending, Outgoing, outgoing_at, with_outgoing}
use Rattle.st_sender.specs.Accepting.{after_write}
use Rattle.st_sender.specs.Refusals.{accepted_of}
use Rattle.st_receiver.specs.Streams.{Incoming, incoming_at, incoming_or, fresh_incoming, is_open, delivered_of}
use Rattle.st_receiver.specs.Reading as reading
use Rattle.st_receiver.specs.Reading.{Got, got, got_by, got_bytes, got_none, is_read, after_bytes, after_got_by, after_get, after_got}
use Rattle.st_streams.specs.declared.end_error.EndError.{EndError}
use Rattle.st_streams.specs.declared.end_error.EndError.TheVariants as end_errors
use Rattle.st_end.specs.State.{EndState}
use Rattle.st_end.specs.Calls.{write}
use Rattle.st_end.specs.Reading.{read}
use Rattle.st_hub.specs.Flow.{IsSent}
use Rattle.st_hub.specs.Keeping.{KeepsOut, Rises}
use Rattle.st_hub.proofs.SentKeeping.{out_same}
use Rattle.st_hub.proofs.EndEvents.{wrote}

-- ---- a write

-- these bytes of the stream k are accepted
pub record Writes (k : ℕ) (xs : List ℕ) (a b : EndState) : Type 0 where
  pub others : (i : ℕ) → i ≢ k → KeepsOut (outgoing_at a.sending i) (outgoing_at b.sending i)
  pub here : (bytes : List ℕ) → IsSent bytes (outgoing_at a.sending k) → IsSent (bytes ++ xs) (outgoing_at b.sending k)
  pub same : b.receiving ≡ a.receiving
  pub rises : Rises a b

got_append : {X : Type 0} (xs ys : List X) (i : ℕ) (b : X) → slice_get xs i ≡ Some b → slice_get (xs ++ ys) i ≡ Some b
got_append [] ys i b e = absurd (cc)
got_append (x ∷ xs) ys zero b e = e
got_append (x ∷ xs) ys (suc i) b e = got_append xs ys i b e

got_after : {X : Type 0} (xs ys : List X) (i : ℕ) → slice_get (xs ++ ys) (length xs + i) ≡ slice_get ys i
got_after [] ys i = ap (λ n. slice_get ys n) (omega arith)
got_after (x ∷ xs) ys i = let e : suc (length xs) + i ≡ suc (length xs + i) = omega arith in rw e (got_after xs ys i)

got_insert : {X : Type 0} (m : fmap.FinMap nat_cmp X) (k : ℕ) (x : X) (q : ℕ) (y : X) → fmap.get (fmap.insert m k x) q ≡ Some y
    → ((q ≡ k) × (x ≡ y)) ⊎ (fmap.get m q ≡ Some y)
got_insert m k x q y e = grind (arith, common_steps, fmap.gets)

abbrev Within : List ℕ → ℕ → List ℕ → Type 0
Within w o xs = (i b : ℕ) → slice_get xs i ≡ Some b → slice_get w (o + i) ≡ Some b

put_within : (w : List ℕ) (xs : List ℕ) (m : fmap.FinMap nat_cmp ℕ) (o : ℕ) → ((q b : ℕ) → fmap.get m q ≡ Some b → slice_get w q ≡ Some b) → Within w o xs
    → (q b : ℕ) → fmap.get (put_bytes m o xs) q ≡ Some b → slice_get w q ≡ Some b
unfolding put_bytes
put_within w [] m o fine within q b e = fine q b e
put_within w (x ∷ xs) m o fine within q b e =
    put_within w xs (fmap.insert m o x) (o + 1)
    (λ q b e. elim (got_insert m o x q b e) [
      | inl p ↦ let same : q ≡ o = p.0 in let value : x ≡ b = p.1 in rw (same, ← value) (let z : o + 0 ≡ o = omega arith in rw z at (within zero x refl))
      | inr old ↦ fine q b old
    ])
    (λ i b e. let s : o + 1 + i ≡ o + suc i = omega arith in rw s (within (suc i) b e))
    q b e

sent_more : (w xs : List ℕ) (x : Outgoing) → IsSent w (Some x) → IsSent (w ++ xs) (Some (after_write xs x))
sent_more w xs x s = record {
  accepted = ap (λ n. n + length xs) s.accepted ∙ sym (length-append w xs);
  kept = put_within (w ++ xs) xs x.unacked x.accepted (λ q b e. got_append w xs q b (s.kept q b e)) (λ i b e. ap (λ n. slice_get (w ++ xs) (n + i)) s.accepted ∙ got_after w xs i ∙ e);
}

write_rises : (s : Sending) (k : ℕ) (x : Outgoing) (xs : List ℕ) → outgoing_at s k ≡ Some x → (i : ℕ) → accepted_of (outgoing_at s i) ≤ accepted_of (outgoing_at (with_outgoing s k (after_write xs x)) i)
write_rises s k x xs is i =
    elim (slot_cases s.streams k (after_write xs x) i) [
      | inl h ↦ rw h.0 (let a : accepted_of (outgoing_at s k) ≡ x.accepted = ap accepted_of is in let b : accepted_of (outgoing_at (with_outgoing s k (after_write xs x)) k) ≡ x.accepted + length xs = ap accepted_of h.1 in omega arith)
      | inr h ↦ let b : accepted_of (outgoing_at (with_outgoing s k (after_write xs x)) i) ≡ accepted_of (outgoing_at s i) = ap accepted_of h in omega arith
    ]

write_open : (s : Sending) (k : ℕ) (y : Outgoing) (i : ℕ) → is_some (outgoing_at s i) ≡ true → is_some (outgoing_at (with_outgoing s k y) i) ≡ true
write_open s k y i e =
    elim (slot_cases s.streams k y i) [
      | inl h ↦ rw h.0 (ap is_some h.1)
      | inr h ↦ ap is_some h ∙ e
    ]

write_by : (e : EndState) (k : ℕ) (xs : List ℕ) (x : Outgoing) → outgoing_at e.sending k ≡ Some x → Writes k xs e (record e { sending = with_outgoing e.sending k (after_write xs x) })
write_by e k xs x is =
    let s = e.sending in
    let t = with_outgoing s k (after_write xs x) in
    let here : outgoing_at t k ≡ Some (after_write xs x) = slot_here s.streams k (after_write xs x) (slot_within s.streams k x is) in
    record {
      others = λ i n. let P : Option Outgoing → Type 0 = λ y. KeepsOut (outgoing_at s i) y in subst P (sym (slot_apart s.streams k (after_write xs x) i n)) (out_same (outgoing_at s i));
      here = λ bytes h. let P : Option Outgoing → Type 0 = IsSent (bytes ++ xs) in let Q : Option Outgoing → Type 0 = IsSent bytes in subst P (sym here) (sent_more bytes xs x (subst Q is h));
      same = refl;
      rises = record {
        sent_width = length-set s.streams k (Some (after_write xs x));
        accepted = write_rises s k x xs is;
        is_open = write_open s k (after_write xs x);
        read_width = refl;
        read = λ i. omega arith;
        credit = omega arith;
        parity = refl;
        paid = omega arith;
      };
    }

pub write_is : (a b : EndState) (k : ℕ) (xs : List ℕ) → write a k xs ≡ (Ok tt, b) → Writes k xs a b
write_is a b k xs h = let w = wrote a b k xs h in subst (Writes k xs a) (sym w.2) (write_by a k xs w.0 w.1)

-- ---- a read

abbrev pub bytes_of : Got → List ℕ
bytes_of (reading.Bytes xs) = xs
bytes_of reading.Nothing = []
bytes_of reading.End = []
bytes_of (reading.Aborted code) = []

-- n bytes of the stream k are read
pub record ReadsBytes (k n : ℕ) (a b : EndState) : Type 0 where
  pub others : (i : ℕ) → i ≢ k → delivered_of (slot b.receiving.streams i) ≡ delivered_of (slot a.receiving.streams i)
  pub here : delivered_of (slot b.receiving.streams k) ≡ delivered_of (slot a.receiving.streams k) + n
  pub same : b.sending ≡ a.sending
  pub credit : b.receiving.credit ≡ a.receiving.credit
  pub rises : Rises a b

end_or_nothing : (b : Bool) → length (bytes_of (cond b reading.End reading.Nothing)) ≡ 0
end_or_nothing true = refl
end_or_nothing false = refl

none_read : (h : Held) → length (bytes_of (got_none h)) ≡ 0
none_read h = end_or_nothing (is_read h.read h.end)

taken_read : (n : ℕ) (h : Held) → (after_read n h).read ≡ h.read + n
unfolding after_read
taken_read n h = refl

bytes_read : (limit : ℕ) (h : Held) (xs : List ℕ) → xs ≡ take limit (run h) → (after_bytes limit h xs).read ≡ h.read + length (bytes_of (got_bytes h xs))
bytes_read limit h [] e = let z = none_read h in omega arith
bytes_read limit h (x ∷ xs) e = taken_read (length (take limit (run h))) h ∙ ap (λ l. h.read + length l) (sym e)

got_read : (o : Option ℕ) (limit : ℕ) (h : Held) → (after_got_by o limit h).read ≡ h.read + length (bytes_of (got_by o limit h))
got_read (Some code) limit h = omega arith
got_read None limit h = bytes_read limit h (take limit (run h)) refl

open_slot : (o : Option Incoming) → is_some o ≡ true → (x : Incoming) × (o ≡ Some x)
open_slot None e = absurd (cc)
open_slot (Some x) e = (x, refl)

read_by : (e : EndState) (k limit : ℕ) → is_open e.receiving k ≡ true → ReadsBytes k (length (bytes_of (got limit (incoming_at e.receiving k).held))) e (record e { receiving = after_got e.receiving k limit })
read_by e k limit is =
    let r = e.receiving in
    let x = open_slot (slot r.streams k) is in
    let old : incoming_at r k ≡ x.0 = ap (incoming_or (fresh_incoming _)) x.1 in
    let y = after_get limit (incoming_at r k) in
    let n = length (bytes_of (got limit (incoming_at r k).held)) in
    let at : slot (with_slot r.streams k y) k ≡ Some y = slot_here r.streams k y (slot_within r.streams k x.0 x.1) in
    let was : delivered_of (slot r.streams k) ≡ (incoming_at r k).held.read = ap delivered_of x.1 ∙ ap (λ (z : Incoming). z.held.read) (sym old) in
    let here : delivered_of (slot (with_slot r.streams k y) k) ≡ delivered_of (slot r.streams k) + n =
    ap delivered_of at ∙ got_read (incoming_at r k).held.aborted limit (incoming_at r k).held ∙ ap (λ m. m + n) (sym was) in
    record {
      others = λ i apart. ap delivered_of (slot_apart r.streams k y i apart);
      here = here;
      same = refl;
      credit = refl;
      rises = record {
        sent_width = refl;
        accepted = λ i. omega arith;
        is_open = λ i e. e;
        read_width = length-set r.streams k (Some y);
        read = λ i. elim (slot_cases r.streams k y i) [
          | inl h ↦ rw h.0 (omega (arith, here))
          | inr h ↦ let same : delivered_of (slot (with_slot r.streams k y) i) ≡ delivered_of (slot r.streams i) = ap delivered_of h in omega arith
        ];
        credit = omega arith;
        parity = refl;
        paid = omega arith;
      };
    }

read_either : (b : Bool) (e f : EndState) (k limit : ℕ) (g : Got) → is_open e.receiving k ≡ b
    → ◌≡◌ {A = Result Got EndError × EndState} (cond b (Ok (got limit (incoming_at e.receiving k).held), record e { receiving = after_got e.receiving k limit }) (Err end_errors.NoStream, e)) (Ok g, f) → ReadsBytes k (length (bytes_of g)) e f
read_either true e f k limit g is h =
    let told : ◌≡◌ {A = Result Got EndError} (Ok (got limit (incoming_at e.receiving k).held)) (Ok g) = ap (λ p. p.0) h in
    let same : got limit (incoming_at e.receiving k).held ≡ g = cc in
    subst (λ (p : Got × EndState). ReadsBytes k (length (bytes_of p.0)) e p.1) (λ i. (same i, (h i).1)) (read_by e k limit is)
read_either false e f k limit g is h = absurd (let x : ◌≡◌ {A = Result Got EndError} (Err end_errors.NoStream) (Ok g) = ap (λ p. p.0) h in cc)

pub read_is : (a b : EndState) (k limit : ℕ) (g : Got) → read a k limit ≡ (Ok g, b) → ReadsBytes k (length (bytes_of g)) a b
read_is a b k limit g h = read_either (is_open a.receiving k) a b k limit g refl h
