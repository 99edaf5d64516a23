-- Writes of what fits, and closes at the end, write each stream's input on.
use Rattle.std.proofs.Common.{◌≡◌, ◌≢◌, ℕ, zero, suc, ◌+◌, ◌-◌, ◌^◌, ◌<◌, ◌≤◌, Bool, true, false, ◌||◌, cond, List, [], ◌∷◌, map, sum, min, length, drop, length-take, length-drop, refl, sym, ap, subst, ◌∙◌, arith, Option, None, Some, ◌⊎◌, inl, inr, nat_eq}
use Rattle.std.specs.Prelude.{is_some}
use Rattle.std.specs.Option.{option_or}
use Rattle.std.specs.List.{range_with_len}
use Rattle.std.proofs.lemmas.Bool.{cases_Bool, cases_eq, cases_lt}
use Rattle.std.proofs.lemmas.Bool.Decides.{nat_tests}
use Rattle.std.proofs.lemmas.List.{length-set}
use Rattle.st_streams.specs.Slots.{Slots, slot}
use Rattle.st_streams.specs.Table.{put_bytes}
use Rattle.st_streams.proofs.SlotLemmas.{slot_apart, slot_here, slot_within}
use Rattle.st_sender.specs.declared.error.OutboxError.{OutboxError}
use Rattle.st_sender.specs.declared.error.OutboxError.TheVariants.{Closed}
use Rattle.st_sender.specs.Sending.{Outgoing, Sending, outgoing_at, with_outgoing, changed, changed_at}
use Rattle.st_sender.specs.Accepting.{after_clean, after_write}
use Rattle.st_sender.specs.Refusals.{accepted_of, all_accepted, close_refusal, full, is_closed, no_more, refusal_at, write_refusal}
use Rattle.st_end.specs.State.{EndState}
use Rattle.st_end.specs.Calls as calls
use Rattle.st_end.specs.Calls.{close, connection_refusal, done, refusal, write, wrapped_too}
use Rattle.st_sender.specs.Errors.{wrapped}
use Rattle.st_world_quiet.specs.Rounds.{IsRefilled, IsWritten, Refilled}
use Rattle.st_world_quiet.specs.Exchanges.{IsModest}
use Rattle.st_world_quiet.specs.Calls.{AreHeldBack, CanWrite, IsFed, IsHeldBack, closed_if, fitting, lengths, write_each, written_at, written_on}
use Rattle.st_world_quiet.proofs.Sums.{sum_next}
use Rattle.st_world_quiet.proofs.Writing.{refilled_clean, refilled_more, write_fits}

-- ---- a sum over the streams is within that of what each may have

next_place : (n : ℕ → ℕ) (i j a : ℕ) → a ≤ n (i + suc j) → a ≤ n (i + 1 + j)
next_place n i j a l = let e : i + suc j ≡ i + 1 + j = omega arith in subst (λ z. a ≤ n z) e l

first_place : (n : ℕ → ℕ) (i a : ℕ) → a ≤ n (i + 0) → a ≤ n i
first_place n i a l = let e : i + 0 ≡ i = omega arith in subst (λ z. a ≤ n z) e l

module _ (of : Option Outgoing → ℕ) (all : Slots Outgoing → ℕ) (none : all [] ≡ 0) (more : (o : Option Outgoing) (xs : Slots Outgoing) → all (o ∷ xs) ≡ of o + all xs) where
  all_within : (n : ℕ → ℕ) (xs : Slots Outgoing) (i : ℕ) → ((j : ℕ) → of (slot xs j) ≤ n (i + j)) → all xs ≤ sum (map n (range_with_len i (length xs)))
  all_within n [] i within = omega (arith, none)
  all_within n (o ∷ xs) i within =
      let rest = all_within n xs (i + 1) (λ j. next_place n i j (of (slot xs j)) (within (suc j))) in
      let step = sum_next (n i) (map n (range_with_len (i + 1) (length xs))) in
      let here = first_place n i (of o) (within zero) in
      let this = more o xs in
      omega (arith, rest, step, here, this)

  -- so also with all that one stream may have
  all_but_within : (n : ℕ → ℕ) (xs : Slots Outgoing) (i k : ℕ) (x : Outgoing) → ((j : ℕ) → of (slot xs j) ≤ n (i + j)) → slot xs k ≡ Some x → all xs + (n (i + k) - of (Some x)) ≤ sum (map n (range_with_len i (length xs)))
  all_but_within n [] i k x within e = absurd (cc)
  all_but_within n (o ∷ xs) i zero x within e =
      let rest = all_within n xs (i + 1) (λ j. next_place n i j (of (slot xs j)) (within (suc j))) in
      let step = sum_next (n i) (map n (range_with_len (i + 1) (length xs))) in
      let first : of o ≡ of (Some x) = ap of e in
      let here = first_place n i (of o) (within zero) in
      let place : n (i + 0) ≡ n i = ap n (let z : i + 0 ≡ i = omega arith in z) in
      let this = more o xs in
      omega (arith, rest, step, first, here, place, this)
  all_but_within n (o ∷ xs) i (suc k) x within e =
      let rest = all_but_within n xs (i + 1) k x (λ j. next_place n i j (of (slot xs j)) (within (suc j))) e in
      let step = sum_next (n i) (map n (range_with_len (i + 1) (length xs))) in
      let here = first_place n i (of o) (within zero) in
      let place : n (i + suc k) ≡ n (i + 1 + k) = ap n (let z : i + suc k ≡ i + 1 + k = omega arith in z) in
      let this = more o xs in
      omega (arith, rest, step, here, place, this)

  pub room_of : (n : ℕ → ℕ) (xs : Slots Outgoing) (k : ℕ) (x : Outgoing) → length xs ≡ 65 → IsModest n → ((j : ℕ) → of (slot xs j) ≤ n j) → slot xs k ≡ Some x → all xs + (n k - of (Some x)) < 2 ^ 63
  room_of n xs k x slots modest within e =
      let most = all_but_within n xs 0 k x (λ j. from_zero j (within j)) e in
      let place : n (0 + k) ≡ n k = ap n (let z : 0 + k ≡ k = omega arith in z) in
      let whole : sum (map n (range_with_len 0 (length xs))) ≡ sum (map n (range_with_len 0 65)) = ap (λ m. sum (map n (range_with_len 0 m))) slots in
      omega (arith, most, place, whole, modest)
    where
      from_zero : (j : ℕ) → of (slot xs j) ≤ n j → of (slot xs j) ≤ n (0 + j)
      from_zero j l = let e : j ≡ 0 + j = omega arith in subst (λ z. of (slot xs j) ≤ n z) e l

abbrev pub Within : (ℕ → ℕ) → Sending → Type 0
Within n s = (k : ℕ) → accepted_of (outgoing_at s k) ≤ n k

pub room_left : (n : ℕ → ℕ) (s : Sending) (k : ℕ) (x : Outgoing) → length s.streams ≡ 65 → IsModest n → Within n s → outgoing_at s k ≡ Some x → all_accepted s.streams + (n k - x.accepted) < 2 ^ 63
room_left n s k x slots modest within e = room_of accepted_of all_accepted refl (λ o xs. refl) n s.streams k x slots modest within e

-- ---- a call that is accepted, and one that is refused

pub call_taken : (e : EndState) (k : ℕ) (x : Outgoing) (o : Option OutboxError) (f : Outgoing → Outgoing) → outgoing_at e.sending k ≡ Some x → e.sending.failed ≡ false → e.receiving.closed ≡ false → o ≡ None
    → (done e (refusal e k o) (changed e.sending k f)).1 ≡ record e { sending = with_outgoing e.sending k (f x) }
call_taken e k x o f at alive unclosed none =
    ap (λ z. (done e z (changed e.sending k f)).1) (refuses o at none) ∙ ap (λ z. record e { sending = changed_at e.sending k f z }) at
  where
    passes : connection_refusal e ≡ None
    passes = rw (alive, unclosed) refl

    refuses : (o : Option OutboxError) → outgoing_at e.sending k ≡ Some x → o ≡ None → refusal e k o ≡ None
    refuses o at none = ap (λ z. calls.refusal_at e z o) at ∙ ap (λ z. option_or z (wrapped_too o)) passes ∙ ap wrapped_too none

call_refused : (e : EndState) (k : ℕ) (x : Outgoing) (o : Option OutboxError) (why : OutboxError) (s : Sending) → outgoing_at e.sending k ≡ Some x → e.sending.failed ≡ false → e.receiving.closed ≡ false → o ≡ Some why
    → (done e (refusal e k o) s).1 ≡ e
call_refused e k x o why s at alive unclosed some = ap (λ z. (done e z s).1) (refuses o at some)
  where
    passes : connection_refusal e ≡ None
    passes = rw (alive, unclosed) refl

    refuses : (o : Option OutboxError) → outgoing_at e.sending k ≡ Some x → o ≡ Some why → refusal e k o ≡ Some (wrapped why)
    refuses o at some = ap (λ z. calls.refusal_at e z o) at ∙ ap (λ z. option_or z (wrapped_too o)) passes ∙ ap wrapped_too some

-- ---- an end of which one stream has changed

pub record Beside (k : ℕ) (e f : EndState) : Type 0 where
  pub rest : f ≡ record e { sending = record e.sending { streams = f.sending.streams } }
  pub slots : length f.sending.streams ≡ length e.sending.streams
  pub others : (j : ℕ) → j ≢ k → outgoing_at f.sending j ≡ outgoing_at e.sending j

beside_same : (k : ℕ) (e : EndState) → Beside k e e
beside_same k e = record { rest = refl; slots = refl; others = λ j n. refl }

pub beside_with : (k : ℕ) (e : EndState) (y : Outgoing) → Beside k e (record e { sending = with_outgoing e.sending k y })
beside_with k e y = record { rest = refl; slots = length-set e.sending.streams k (Some y); others = λ j n. slot_apart e.sending.streams k y j n }

pub beside_then : (k : ℕ) (e f g : EndState) → Beside k e f → Beside k f g → Beside k e g
beside_then k e f g a b = record {
  rest = subst (λ (z : EndState). g ≡ record z { sending = record z.sending { streams = g.sending.streams } }) a.rest b.rest;
  slots = b.slots ∙ a.slots;
  others = λ j n. b.others j n ∙ a.others j n;
}

-- ---- one stream

pub record FedAt (n k : ℕ) (e f : EndState) : Type 0 where
  pub beside : Beside k e f
  pub here : Refilled n (outgoing_at e.sending k) (outgoing_at f.sending k)
  pub held_back : (y : Outgoing) → outgoing_at f.sending k ≡ Some y → IsHeldBack n y

-- a stream that is closed stays as it is
refilled_same : (n : ℕ) (x : Outgoing) → x.accepted ≡ n → x.clean ≡ true → IsRefilled n x x
unfolding put_bytes
refilled_same n x all clean = record {
  more = [];
  clean = x.clean;
  is = sym (ap (λ a. record x { accepted = a }) (let z : x.accepted + 0 ≡ x.accepted = omega arith in z));
  total = omega (arith, all);
  full = inl all;
  closed = λ e. clean;
}

shut : (x : Outgoing) → x.clean ≡ true → is_closed x ≡ true
shut x e = either (is_some x.abort) x.clean e
  where
    either : (a b : Bool) → b ≡ true → a || b ≡ true
    either true b e = refl
    either false b e = e

unshut : (x : Outgoing) → x.abort ≡ None → x.clean ≡ false → is_closed x ≡ false
unshut x a e = ap (λ z. is_some z || x.clean) a ∙ e

stays_shut : (xs : List ℕ) (e : EndState) (k : ℕ) (x : Outgoing) → outgoing_at e.sending k ≡ Some x → e.sending.failed ≡ false → e.receiving.closed ≡ false → x.clean ≡ true → written_at xs e k (Some x) ≡ e
stays_shut xs e k x at alive unclosed clean =
    ap (λ w. closed_if (nat_eq (x.accepted + length (fitting xs x)) (length xs)) w k) write_refused ∙ close_refused (nat_eq (x.accepted + length (fitting xs x)) (length xs))
  where
    refuses : (own : Outgoing → Option OutboxError) → refusal_at (outgoing_at e.sending k) is_closed own ≡ Some Closed
    refuses own = ap (λ o. refusal_at o is_closed own) at ∙ ap (λ b. cond b (Some Closed) (own x)) (shut x clean)

    write_refused : (write e k (fitting xs x)).1 ≡ e
    write_refused = call_refused e k x (write_refusal e.sending k (length (fitting xs x))) Closed (changed e.sending k (after_write (fitting xs x))) at alive unclosed (refuses (full (all_accepted e.sending.streams) (length (fitting xs x))))

    close_refused : (b : Bool) → closed_if b e k ≡ e
    close_refused true = call_refused e k x (close_refusal e.sending k) Closed (changed e.sending k after_clean) at alive unclosed (refuses no_more)
    close_refused false = refl

part_long : (xs : List ℕ) (x : Outgoing) → length (fitting xs x) ≡ min (x.acked_end + 262144 - x.accepted) (length xs - x.accepted)
part_long xs x = length-take (x.acked_end + 262144 - x.accepted) (drop x.accepted xs) ∙ ap (min (x.acked_end + 262144 - x.accepted)) (length-drop x.accepted xs)

pub here_is : (e : EndState) (k : ℕ) (x y : Outgoing) → outgoing_at e.sending k ≡ Some x → outgoing_at (with_outgoing e.sending k y) k ≡ Some y
here_is e k x y at = slot_here e.sending.streams k y (slot_within e.sending.streams k x at)

refilled_by : (n : ℕ) (o p : Option Outgoing) (x y : Outgoing) → o ≡ Some x → p ≡ Some y → IsRefilled n x y → Refilled n o p
refilled_by n o p x y a b is = subst (λ z. Refilled n z p) (sym a) (y, b, is)

held_by : (n : ℕ) (o : Option Outgoing) (x : Outgoing) → o ≡ Some x → IsHeldBack n x → (y : Outgoing) → o ≡ Some y → IsHeldBack n y
held_by n o x a h y b = let both : ◌≡◌ {A = Option Outgoing} (Some x) (Some y) = sym a ∙ b in let same : x ≡ y = cc in subst (IsHeldBack n) same h

fed_goes : (xs : List ℕ) (e : EndState) (k : ℕ) (x : Outgoing) → outgoing_at e.sending k ≡ Some x → e.sending.failed ≡ false → e.receiving.closed ≡ false → IsFed (length xs) x → x.clean ≡ false
    → all_accepted e.sending.streams + (length xs - x.accepted) < 2 ^ 63 → FedAt (length xs) k e (written_at xs e k (Some x))
fed_goes xs e k x at alive unclosed fed still modest =
    subst (λ w. FedAt (length xs) k e (closed_if (nat_eq (x.accepted + length (fitting xs x)) (length xs)) w k)) (sym taken) (ended (nat_eq (x.accepted + length (fitting xs x)) (length xs)) refl)
  where
    long : length (fitting xs x) ≡ min (x.acked_end + 262144 - x.accepted) (length xs - x.accepted)
    long = part_long xs x

    kept : x.accepted ≤ x.acked_end + 262144
    kept = fed.held_back.kept

    total : x.accepted ≤ length xs
    total = fed.total

    y : Outgoing
    y = after_write (fitting xs x) x

    f : EndState
    f = record e { sending = with_outgoing e.sending k y }

    there : outgoing_at f.sending k ≡ Some y
    there = here_is e k x y at

    taken : (write e k (fitting xs x)).1 ≡ f
    taken = call_taken e k x (write_refusal e.sending k (length (fitting xs x))) (after_write (fitting xs x)) at alive unclosed
        (write_fits e.sending k (length (fitting xs x)) x at fed.row (unshut x fed.alive still) (omega (arith, long, modest)) (omega (arith, long, kept)))

    closed : (close f k).1 ≡ record f { sending = with_outgoing f.sending k (after_clean y) }
    closed = call_taken f k y (close_refusal f.sending k) after_clean there alive unclosed
        (ap (λ o. refusal_at o is_closed no_more) there ∙ ap {B = Option OutboxError} (λ b. cond b (Some Closed) None) (unshut y fed.alive still))

    ended : (b : Bool) → nat_eq (x.accepted + length (fitting xs x)) (length xs) ≡ b → FedAt (length xs) k e (closed_if b f k)
    ended true is =
        let all : x.accepted + length (fitting xs x) ≡ length xs = grind (arith, nat_tests) in
        subst (FedAt (length xs) k e) (sym closed) (record {
          beside = beside_then k e f _ (beside_with k e y) (beside_with k f (after_clean y));
          here = refilled_by (length xs) _ _ x (after_clean y) at (here_is f k y (after_clean y) there) (refilled_clean (length xs) x (fitting xs x) all);
          held_back = held_by (length xs) _ (after_clean y) (here_is f k y (after_clean y) there) (record { kept = omega (arith, long, kept); ended = λ e. all });
        })
    ended false is =
        let some : x.accepted + length (fitting xs x) ≢ length xs = grind (arith, nat_tests) in
        record {
          beside = beside_with k e y;
          here = refilled_by (length xs) _ _ x y at there (refilled_more (length xs) x (fitting xs x) (omega (arith, some, long, total)) (omega (arith, some, long, total, kept)));
          held_back = held_by (length xs) _ y there (record { kept = omega (arith, long, kept); ended = λ e. absurd (let clash : ◌≡◌ {A = Bool} false true = sym still ∙ e in cc) });
        }

pub fed_at : (xs : List ℕ) (e : EndState) (k : ℕ) (o : Option Outgoing) → outgoing_at e.sending k ≡ o → e.sending.failed ≡ false → e.receiving.closed ≡ false → ((x : Outgoing) → o ≡ Some x → IsFed (length xs) x)
    → ((x : Outgoing) → o ≡ Some x → all_accepted e.sending.streams + (length xs - x.accepted) < 2 ^ 63) → FedAt (length xs) k e (written_at xs e k o)
fed_at xs e k None at alive unclosed fed modest = record { beside = beside_same k e; here = subst (λ z. Refilled (length xs) z (outgoing_at e.sending k)) (sym at) at; held_back = λ y here. absurd (let clash : ◌≡◌ {A = Option Outgoing} None (Some y) = sym at ∙ here in cc) }
fed_at xs e k (Some x) at alive unclosed fed modest = elim (cases_Bool x.clean) [
  | inl clean ↦ subst (FedAt (length xs) k e) (sym (stays_shut xs e k x at alive unclosed clean)) (record {
    beside = beside_same k e;
    here = refilled_by (length xs) _ _ x x at at (refilled_same (length xs) x ((fed x refl).held_back.ended clean) clean);
    held_back = held_by (length xs) _ x at (fed x refl).held_back;
  })
  | inr still ↦ fed_goes xs e k x at alive unclosed (fed x refl) still (modest x refl)
]

-- ---- each stream

record Feeding (n : ℕ → ℕ) (first : ℕ) (e : EndState) : Type 0 where
  alive : e.sending.failed ≡ false
  unclosed : e.receiving.closed ≡ false
  slots : length e.sending.streams ≡ 65
  within : Within n e.sending
  streams : (k : ℕ) (x : Outgoing) → first ≤ k → outgoing_at e.sending k ≡ Some x → IsFed (n k) x

fed_on : (input : ℕ → List ℕ) (first : ℕ) (e : EndState) → IsModest (lengths input) → Feeding (lengths input) first e → FedAt (length (input first)) first e (written_on (input first) e first)
fed_on input first e modest h =
    fed_at (input first) e first (outgoing_at e.sending first) refl h.alive h.unclosed (λ x at. h.streams first x (omega arith) at) (λ x at. room_left (lengths input) e.sending first x h.slots modest h.within at)

pub refilled_within : (n : ℕ) (o p : Option Outgoing) → Refilled n o p → accepted_of p ≤ n
refilled_within n None p e = let z : accepted_of p ≡ 0 = ap accepted_of e in omega (arith, z)
refilled_within n (Some x) p is = let z : accepted_of p ≡ is.0.accepted = ap accepted_of is.1 in let t = is.2.total in omega (arith, z, t)

fed_next : (n : ℕ → ℕ) (first : ℕ) (e f : EndState) → Feeding n first e → FedAt (n first) first e f → Feeding n (first + 1) f
fed_next n first e f h a = record {
  alive = ap (λ (z : EndState). z.sending.failed) a.beside.rest ∙ h.alive;
  unclosed = ap (λ (z : EndState). z.receiving.closed) a.beside.rest ∙ h.unclosed;
  slots = a.beside.slots ∙ h.slots;
  within = λ k. elim (cases_eq k first) [
    | inl same ↦ subst (λ i. accepted_of (outgoing_at f.sending i) ≤ n i) (sym same) (refilled_within (n first) _ _ a.here)
    | inr apart ↦ (let is : accepted_of (outgoing_at f.sending k) ≡ accepted_of (outgoing_at e.sending k) = ap accepted_of (a.beside.others k apart) in let l = h.within k in omega (arith, is, l))
  ];
  streams = λ k x from at. h.streams k x (omega (arith, from)) (sym (a.beside.others k (omega (arith, from))) ∙ at);
}

record FedEach (n : ℕ → ℕ) (first count : ℕ) (e f : EndState) : Type 0 where
  rest : f ≡ record e { sending = record e.sending { streams = f.sending.streams } }
  slots : length f.sending.streams ≡ length e.sending.streams
  here : (k : ℕ) → first ≤ k → k < first + count → Refilled (n k) (outgoing_at e.sending k) (outgoing_at f.sending k)
  held_back : (k : ℕ) → first ≤ k → k < first + count → (y : Outgoing) → outgoing_at f.sending k ≡ Some y → IsHeldBack (n k) y
  others : (k : ℕ) → (k < first) ⊎ (first + count ≤ k) → outgoing_at f.sending k ≡ outgoing_at e.sending k

fed_each : (input : ℕ → List ℕ) (first count : ℕ) (e : EndState) → IsModest (lengths input) → Feeding (lengths input) first e → FedEach (lengths input) first count e (write_each input first count e)
unfolding write_each
fed_each input first zero e modest h = record { rest = refl; slots = refl; here = λ k from till. absurd (omega (arith, from, till)); held_back = λ k from till. absurd (omega (arith, from, till)); others = λ k at. refl }
fed_each input first (suc m) e modest h =
    let f = written_on (input first) e first in
    let g = write_each input (first + 1) m f in
    let one = fed_on input first e modest h in
    let rest = fed_each input (first + 1) m f modest (fed_next (lengths input) first e f h one) in
    record {
      rest = subst (λ (z : EndState). g ≡ record z { sending = record z.sending { streams = g.sending.streams } }) one.beside.rest rest.rest;
      slots = rest.slots ∙ one.beside.slots;
      here = λ k from till. elim (cases_eq k first) [
        | inl same ↦ subst (λ i. Refilled (length (input i)) (outgoing_at e.sending i) (outgoing_at g.sending i)) (sym same)
            (subst (Refilled (length (input first)) (outgoing_at e.sending first)) (sym (rest.others first (inl (omega arith)))) one.here)
        | inr apart ↦ subst (λ o. Refilled (length (input k)) o (outgoing_at g.sending k)) (one.beside.others k apart) (rest.here k (omega (arith, from, apart)) (omega (arith, till)))
      ];
      held_back = λ k from till. elim (cases_eq k first) [
        | inl same ↦ subst (λ i. (y : Outgoing) → outgoing_at g.sending i ≡ Some y → IsHeldBack (length (input i)) y) (sym same) (λ y at. one.held_back y (sym (rest.others first (inl (omega arith))) ∙ at))
        | inr apart ↦ rest.held_back k (omega (arith, from, apart)) (omega (arith, till))
      ];
      others = λ k at. rest.others k (further k at) ∙ one.beside.others k (apart k at);
    }
  where
    further : (k : ℕ) → (k < first) ⊎ (first + suc m ≤ k) → (k < first + 1) ⊎ (first + 1 + m ≤ k)
    further k (inl l) = inl (omega arith)
    further k (inr l) = inr (omega arith)

    apart : (k : ℕ) → (k < first) ⊎ (first + suc m ≤ k) → k ≢ first
    apart k h = omega arith

pub past_none : (xs : Slots Outgoing) (k : ℕ) → length xs ≤ k → slot xs k ≡ None
past_none [] k l = refl
past_none (x ∷ xs) zero l = absurd (omega arith)
past_none (x ∷ xs) (suc k) l = past_none xs k (omega arith)

pub within_by : (n : ℕ) (o : Option Outgoing) → ((x : Outgoing) → o ≡ Some x → x.accepted ≤ n) → accepted_of o ≤ n
within_by n None h = omega arith
within_by n (Some x) h = h x refl

all_fed : (input : ℕ → List ℕ) (e : EndState) → CanWrite (lengths input) e → FedEach (lengths input) 0 65 e (write_each input 0 65 e)
all_fed input e can = fed_each input 0 65 e can.modest (record {
  alive = can.alive;
  unclosed = can.unclosed;
  slots = can.slots;
  within = λ k. within_by (length (input k)) (outgoing_at e.sending k) (λ x at. (can.streams k x at).total);
  streams = λ k x from at. can.streams k x at;
})

pub each_written : (input : ℕ → List ℕ) (e : EndState) → CanWrite (lengths input) e
    → (let g = write_each input 0 65 e in IsWritten (lengths input) e.sending g.sending × (g ≡ record e { sending = g.sending }))
each_written input e can = (
  record {
    streams = λ k. elim (cases_lt k 65) [
      | inl low ↦ all.here k (omega arith) (omega (arith, low))
      | inr past ↦ (let none = past_none e.sending.streams k (let slots = can.slots in omega (arith, slots, past)) in
          subst (λ o. Refilled (length (input k)) o (outgoing_at g.sending k)) (sym none) (all.others k (inr (omega (arith, past))) ∙ none))
    ];
    slots = all.slots;
    rest = ap (λ (z : EndState). z.sending) all.rest;
  },
  all.rest ∙ ap (λ (z : Sending). record e { sending = z }) (sym (ap (λ (z : EndState). z.sending) all.rest)),
)
  where
    g : EndState
    g = write_each input 0 65 e

    all : FedEach (lengths input) 0 65 e g
    all = all_fed input e can

pub each_held_back : (input : ℕ → List ℕ) (e : EndState) → CanWrite (lengths input) e → AreHeldBack (lengths input) (write_each input 0 65 e).sending
each_held_back input e can k y at =
    let all = all_fed input e can in
    let within = slot_within (write_each input 0 65 e).sending.streams k y at in
    let same = all.slots in
    let slots = can.slots in
    all.held_back k (omega arith) (omega (arith, within, same, slots)) y at
