-- An outgoing packet moves the ends of its streams by no more bytes than it has.
use Rattle.std.proofs.Common.{◌≡◌, ℕ, zero, suc, ◌+◌, ◌-◌, ◌<◌, ◌≤◌, Bool, true, false, ◌&&◌, ◌||◌, cond, List, [], ◌∷◌, length, map, max, min, sum, refl, sym, ap, ◌∙◌, arith, Option, None, Some, inl, inr, nat_eq, nat_lt, nat_le, length-append}
use Rattle.std.specs.List.{list_any, range_with_len, AllByRecursion}
use Rattle.std.proofs.lemmas.Bool.{cases_eq, cases_lt}
use Rattle.std.proofs.lemmas.Bool.Decides.{nat_tests}
use Rattle.st_frames.specs.Frames.{Known, StreamData, max_packet}
use Rattle.st_frames.specs.Written.{frame_text, frames_text}
use Rattle.st_sender.specs.Sending.{Load, Outgoing, Sending, outgoing_at}
use Rattle.st_sender.specs.Flights.{all_ends, carries, end_of, flown, highest_end, sent_end}
use Rattle.st_sender.specs.Due.{IsDue}
use Rattle.st_sender.specs.Loads.{Sends, with_flight}
use Rattle.st_sender.specs.Filling.{Fills}
use Rattle.st_world_quiet.specs.Quiet.{IsQuiet}
use Rattle.st_streams.proofs.SlotLemmas.{slot_within}
use Rattle.st_world_quiet.proofs.Sums.{sum_below}
use Rattle.st_world_quiet.proofs.Acknowledging.{is_other}
use Rattle.st_world_quiet.proofs.Lengths.{data_below}
use Rattle.st_world_quiet.proofs.Data.{due_is}
use Rattle.st_world_quiet.proofs.Money.{one_place, sum_plus, zeros}
use Rattle.st_world_quiet.proofs.Keeping.{all_end_accepted}

-- how many bytes of a stream a frame has
abbrev pub data_of : ℕ → Known → ℕ
data_of k (StreamData j o xs) = cond (nat_eq j k) (length xs) 0
data_of k f = 0

abbrev pub data_in : ℕ → List Known → ℕ
data_in k [] = 0
data_in k (f ∷ fs) = data_of k f + data_in k fs

-- how many of m offsets from a on are carried
abbrev count : (ℕ → Bool) → (a m : ℕ) → ℕ
count passes a zero = 0
count passes a (suc m) = cond (passes a) 1 0 + count passes (a + 1) m

all_counted : (passes : ℕ → Bool) (a m : ℕ) → ((q : ℕ) → a ≤ q → q < a + m → passes q ≡ true) → count passes a m ≡ m
all_counted passes a zero h = refl
all_counted passes a (suc m) h =
    let first : ◌≡◌ {A = ℕ} (cond (passes a) 1 0) 1 = ap {B = ℕ} (λ b. cond b 1 0) (h a (omega arith) (omega arith)) in
    let rest = all_counted passes (a + 1) m (λ q from till. h q (omega arith) (omega arith)) in
    omega (arith, first, rest)

either_one : (b c : Bool) → cond (b || c) 1 0 ≤ cond b 1 0 + cond c 1 0
either_one true c = omega arith
either_one false c = omega arith

count_either : (p r : ℕ → Bool) (a m : ℕ) → count (λ q. p q || r q) a m ≤ count p a m + count r a m
count_either p r a zero = omega arith
count_either p r a (suc m) = let one = either_one (p a) (r a) in let rest = count_either p r (a + 1) m in omega (arith, one, rest)

none_counted : (a m : ℕ) → count (λ q. false) a m ≡ 0
none_counted a zero = refl
none_counted a (suc m) = let rest = none_counted (a + 1) m in omega (arith, rest)

span_one : (o l a : ℕ) → cond (nat_le o a && nat_lt a (o + l)) 1 0 ≡ (min (o + l) (a + 1)) - (max o a)
span_one o l a = elim (cases_lt a o) [
  | inl low ↦ (let b : nat_le o a ≡ false = grind (arith, nat_tests) in rw b (omega (arith, low)))
  | inr from ↦ (let b : nat_le o a ≡ true = grind (arith, nat_tests) in elim (cases_lt a (o + l)) [
    | inl within ↦ (let c : nat_lt a (o + l) ≡ true = grind (arith, nat_tests) in rw (b, c) (omega (arith, from, within)))
    | inr past ↦ (let c : nat_lt a (o + l) ≡ false = grind (arith, nat_tests) in rw (b, c) (omega (arith, from, past)))
  ])
]

span : (o l a m : ℕ) → count (λ q. nat_le o q && nat_lt q (o + l)) a m ≤ (min (o + l) (a + m)) - (max o a)
span o l a zero = omega arith
span o l a (suc m) = let one = span_one o l a in let rest = span o l (a + 1) m in omega (arith, one, rest)

count_frame_if : (b : Bool) (o l a m : ℕ) → count (λ q. b && nat_le o q && nat_lt q (o + l)) a m ≤ cond b l 0
count_frame_if true o l a m = let s = span o l a m in omega (arith, s)
count_frame_if false o l a m = let n = none_counted a m in omega (arith, n)

count_frame : (k : ℕ) (f : Known) (a m : ℕ) → count (λ q. carries k q (flown f)) a m ≤ data_of k f
count_frame k (StreamData j o xs) a m = count_frame_if (nat_eq j k) o (length xs) a m
count_frame k f a m = let n = none_counted a m in omega (arith, n)

count_frames : (k : ℕ) (fs : List Known) (a m : ℕ) → count (λ q. list_any (carries k q) (map flown fs)) a m ≤ data_in k fs
count_frames k [] a m = let n = none_counted a m in omega (arith, n)
count_frames k (f ∷ fs) a m =
    let split = count_either (λ q. carries k q (flown f)) (λ q. list_any (carries k q) (map flown fs)) a m in
    let one = count_frame k f a m in
    let rest = count_frames k fs a m in
    omega (arith, split, one, rest)

-- the end of a stream moves by no more than its bytes in the `Load`
pub end_moves : (n : ℕ → ℕ) (s : Sending) (limits : List Known) (p : Load) (k : ℕ) (x : Outgoing) → IsQuiet n s → Sends s limits max_packet p (with_flight s p) → Fills s limits max_packet p → outgoing_at s k ≡ Some x
    → highest_end k (map flown p.frames) ≤ x.acked_end + data_in k p.frames
end_moves n s limits p k x quiet sends fills e =
    let w = quiet.streams k x e in
    let most = all_end_accepted n s limits k x p.frames quiet e sends.due in
    let all = all_counted (λ q. list_any (carries k q) (map flown p.frames)) x.acked_end (highest_end k (map flown p.frames) - x.acked_end)
    (λ q from till. let got = w.row q from (omega (arith, till, most)) in fills.gapless k q got.0 x e (due_is s k x q quiet.alone ∙ got.1) (omega (arith, from, till))) in
    let few = count_frames k p.frames x.acked_end (highest_end k (map flown p.frames) - x.acked_end) in
    omega (arith, all, few)

-- ---- all streams together

text_next : (f : Known) (fs : List Known) → length (frames_text (f ∷ fs)) ≡ length (frame_text f) + length (frames_text fs)
text_next f fs = length-append (frame_text f) (frames_text fs)

data_over : (s : Sending) (limits : List Known) (f : Known) → length s.streams ≡ 65 → IsDue s limits f → sum (map (λ k. data_of k f) (range_with_len 0 65)) ≤ length (frame_text f)
data_over s limits (StreamData j o xs) slots due =
    let w = slot_within s.streams j due.stream due.is_open in
    let one = one_place j (length xs) 0 65 (omega arith) (omega (arith, w, slots)) in
    let d = data_below j o xs in
    omega (arith, one, d)
data_over s limits f slots due = let z = zeros 0 65 in omega (arith, z)

all_data_over : (s : Sending) (limits : List Known) (fs : List Known) → length s.streams ≡ 65 → AllByRecursion (IsDue s limits) fs → sum (map (λ k. data_in k fs) (range_with_len 0 65)) ≤ length (frames_text fs)
all_data_over s limits [] slots due = let z = zeros 0 65 in omega (arith, z)
all_data_over s limits (f ∷ fs) slots due =
    let plus = sum_plus (λ k. data_of k f) (λ k. data_in k fs) 0 65 in
    let one = data_over s limits f slots due.0 in
    let rest = all_data_over s limits fs slots due.1 in
    let text = text_next f fs in
    omega (arith, plus, one, rest, text)

pub none_ends : (s : Sending) (limits : List Known) (k : ℕ) (fs : List Known) → AllByRecursion (IsDue s limits) fs → outgoing_at s k ≡ None → highest_end k (map flown fs) ≡ 0
none_ends s limits k [] due e = refl
none_ends s limits k (f ∷ fs) due e = let rest = none_ends s limits k fs due.1 e in let one = none_of f due.0 in omega (arith, rest, one)
  where
    none_of : (f : Known) → IsDue s limits f → end_of k (flown f) ≡ 0
    none_of (StreamData j o xs) due = elim (cases_eq j k) [
      | inl same ↦ absurd (let here : outgoing_at s k ≡ Some due.stream = rw same at due.is_open in let clash : ◌≡◌ {A = Option Outgoing} None (Some due.stream) = sym e ∙ here in cc)
      | inr apart ↦ (let b = is_other j k apart in rw b refl)
    ]
    none_of f due = refl

pub end_at_most : (n : ℕ → ℕ) (s : Sending) (limits : List Known) (p : Load) (k : ℕ) (o : Option Outgoing) → IsQuiet n s → Sends s limits max_packet p (with_flight s p) → Fills s limits max_packet p → outgoing_at s k ≡ o
    → max (sent_end s k o) (highest_end k (map flown p.frames)) ≤ max (sent_end s k o) (highest_end k []) + data_in k p.frames
end_at_most n s limits p k None quiet sends fills e = let z = none_ends s limits k p.frames sends.due e in omega (arith, z)
end_at_most n s limits p k (Some x) quiet sends fills e = let m = end_moves n s limits p k x quiet sends fills e in omega (arith, m)

-- an outgoing packet carries at most `max_packet` bytes of data
pub data_fits : (s : Sending) (limits : List Known) (p : Load) → length s.streams ≡ 65 → Sends s limits max_packet p (with_flight s p) → sum (map (λ k. data_in k p.frames) (range_with_len 0 65)) ≤ max_packet
data_fits s limits p slots sends = let most = all_data_over s limits p.frames slots sends.due in let room = sends.fits.room_left in omega (arith, most, room)

-- and so the sum of the ends
pub ends_move : (n : ℕ → ℕ) (s : Sending) (limits : List Known) (p : Load) → IsQuiet n s → Sends s limits max_packet p (with_flight s p) → Fills s limits max_packet p → all_ends s (map flown p.frames) ≤ all_ends s [] + max_packet
unfolding all_ends
ends_move n s limits p quiet sends fills =
    let below = sum_below
    (λ k. max (sent_end s k (outgoing_at s k)) (highest_end k (map flown p.frames)))
    (λ k. max (sent_end s k (outgoing_at s k)) (highest_end k []) + data_in k p.frames)
    (λ k. end_at_most n s limits p k (outgoing_at s k) quiet sends fills refl) 0 65 in
    let plus = sum_plus (λ k. max (sent_end s k (outgoing_at s k)) (highest_end k [])) (λ k. data_in k p.frames) 0 65 in
    let data_most = all_data_over s limits p.frames quiet.slots sends.due in
    let room = sends.fits.room_left in
    omega (arith, below, plus, data_most, room)

-- one stream takes no more than the packet has
one_below : (k : ℕ) (f : Known) → data_of k f ≤ length (frame_text f)
one_below k (StreamData j o xs) = let d = data_below j o xs in let l = at_most (nat_eq j k) (length xs) in omega (arith, d, l)
  where
    at_most : (b : Bool) (n : ℕ) → cond b n 0 ≤ n
    at_most true n = omega arith
    at_most false n = omega arith
one_below k f = omega arith

pub data_within : (k : ℕ) (fs : List Known) → data_in k fs ≤ length (frames_text fs)
data_within k [] = omega arith
data_within k (f ∷ fs) = let one = one_below k f in let rest = data_within k fs in let text = text_next f fs in omega (arith, one, rest, text)
