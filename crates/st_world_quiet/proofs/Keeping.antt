-- After a filled load was fulfilled the rest of each stream still waits in a row.
use Rattle.std.proofs.Common.{◌≡◌, ℕ, suc, ◌+◌, ◌<◌, ◌≤◌, Bool, true, false, ◌&&◌, ◌||◌, cond, not, List, [], ◌∷◌, length, max, slice_get, refl, sym, ap, ◌∙◌, arith, Option, None, Some, ◌⊎◌, inl, inr, nat_lt, nat_le, nat_eq, map}
use Rattle.std.specs.FinMap as fmap
use Rattle.std.specs.List.{list_any, AllByRecursion}
use Rattle.std.proofs.lemmas.Bool.{cases_eq, cases_lt}
use Rattle.std.proofs.lemmas.Bool.Decides.{nat_tests}
use Rattle.st_streams.specs.Table.{is_between}
use Rattle.st_streams.proofs.Tables.{get-kept}
use Rattle.st_frames.specs.Frames.{CloseFrame, ConnectionClose, BlockedFrame, ConnectionDataBlocked, LimitFrame, OtherFrame, Known, StreamClose, StreamData, StreamDataBlocked, StreamMoney, StreamMoneyBlocked, max_packet}
use Rattle.st_sender.specs.Sending.{Load, Outgoing, Sending, outgoing_at}
use Rattle.st_sender.specs.Flights.{carries, due_at, end_of, flown, highest_end}
use Rattle.st_sender.specs.Due.{IsDue}
use Rattle.st_sender.specs.Loads.{Sends, with_flight}
use Rattle.st_sender.specs.Filling.{Fills}
use Rattle.st_sender.specs.Answering.{acked_close, acked_data}
use Rattle.st_world_quiet.specs.Quiet.{IsQuiet, IsWaiting}
use Rattle.st_world_quiet.proofs.Acknowledging.{all_acked_end, all_kept, all_own_acked, is_other, is_same, own_acked}
use Rattle.st_world_quiet.proofs.Data.{due_is}
use Rattle.st_world_quiet.proofs.Money.{all_acked_paid, due_is_left}
use Rattle.st_world_quiet.proofs.Lowering.{data_needs_bytes}

-- ---- what a Fulfill leaves unacknowledged

outside : (b : Bool) (g : Option ℕ) → cond (not b) g None ≡ cond b None g
outside true g = refl
outside false g = refl

data_if : (b : Bool) (x : Outgoing) (o : ℕ) (xs : List ℕ) (q : ℕ) → fmap.get (cond b (acked_data o (length xs) x) x).unacked q ≡ cond (b && nat_le o q && nat_lt q (o + length xs)) None (fmap.get x.unacked q)
data_if true x o xs q = get-kept x.unacked (λ q. not (is_between o (o + length xs) q)) q ∙ outside (is_between o (o + length xs) q) (fmap.get x.unacked q)
data_if false x o xs q = refl

same_if : (b : Bool) (x y : Outgoing) (q : ℕ) → y.unacked ≡ x.unacked → fmap.get (cond b y x).unacked q ≡ fmap.get x.unacked q
same_if true x y q e = ap (λ m. fmap.get m q) e
same_if false x y q e = refl

close_same : (b : Bool) (x : Outgoing) → (cond b (record x { clean_settled = true }) (record x { abort_settled = true })).unacked ≡ x.unacked
close_same true x = refl
close_same false x = refl

unacked_at : (k : ℕ) (f : Known) (x : Outgoing) (q : ℕ) → fmap.get (own_acked k f x).unacked q ≡ cond (carries k q (flown f)) None (fmap.get x.unacked q)
unacked_at k (StreamData j o xs) x q = data_if (nat_eq j k) x o xs q
unacked_at k (StreamMoney j n) x q = same_if (nat_eq j k) x _ q refl
unacked_at k (CloseFrame (StreamClose j code message)) x q = same_if (nat_eq j k) x (acked_close code x) q (close_same (nat_eq code 1) x)
unacked_at k (BlockedFrame (StreamDataBlocked j n)) x q = same_if (nat_eq j k) x _ q refl
unacked_at k (BlockedFrame (StreamMoneyBlocked j n t)) x q = same_if (nat_eq j k) x _ q refl
unacked_at k (BlockedFrame (ConnectionDataBlocked n)) x q = refl
unacked_at k (LimitFrame l) x q = refl
unacked_at k (CloseFrame (ConnectionClose code message)) x q = refl
unacked_at k (OtherFrame o) x q = refl

twice : (a b : Bool) (g : Option ℕ) → cond b None (cond a None g) ≡ cond (a || b) None g
twice true true g = refl
twice true false g = refl
twice false b g = refl

pub all_unacked_at : (k : ℕ) (fs : List Known) (x : Outgoing) (q : ℕ) → fmap.get (all_own_acked k fs x).unacked q ≡ cond (list_any (carries k q) (map flown fs)) None (fmap.get x.unacked q)
all_unacked_at k [] x q = refl
all_unacked_at k (f ∷ fs) x q =
    all_unacked_at k fs (own_acked k f x) q ∙ ap (λ g. cond (list_any (carries k q) (map flown fs)) None g) (unacked_at k f x q) ∙ twice (carries k q (flown f)) (list_any (carries k q) (map flown fs)) (fmap.get x.unacked q)

-- ---- a byte past the highest end is not carried

not_carried : (k q : ℕ) (f : Known) → end_of k (flown f) ≤ q → carries k q (flown f) ≡ false
not_carried k q (StreamData j o xs) l = elim (cases_eq j k) [
  | inl same ↦ (let b = is_same j k same in let e : end_of k (flown (StreamData j o xs)) ≡ o + length xs = rw b refl in
      elim (cases_lt q o) [
        | inl low ↦ (let c : nat_le o q ≡ false = grind (arith, nat_tests) in rw (b, c) refl)
        | inr from ↦ (let c : nat_le o q ≡ true = grind (arith, nat_tests) in let past : o + length xs ≤ q = omega (arith, e, l) in
            let d : nat_lt q (o + length xs) ≡ false = grind (arith, nat_tests) in rw (b, c, d) refl)
      ])
  | inr apart ↦ (let b = is_other j k apart in rw b refl)
]
not_carried k q f l = refl

pub none_carried : (k q : ℕ) (fs : List Known) → highest_end k (map flown fs) ≤ q → list_any (carries k q) (map flown fs) ≡ false
none_carried k q [] l = refl
none_carried k q (f ∷ fs) l = let a = not_carried k q f (omega (arith, l)) in let b = none_carried k q fs (omega (arith, l)) in rw (a, b) refl

-- ---- the frames end within what was accepted

last_byte : (xs : List ℕ) → 0 < length xs → (i : ℕ) × (b : ℕ) × (slice_get xs i ≡ Some b) × (i + 1 ≡ length xs)
last_byte [] l = absurd (omega arith)
last_byte (b ∷ []) l = (0, b, refl, omega arith)
last_byte (b ∷ c ∷ xs) l = let rest = last_byte (c ∷ xs) (omega arith) in let e = rest.2 in (suc rest.0, rest.1, e, (let h = rest.3 in omega (arith, h)))

end_accepted : (n : ℕ → ℕ) (s : Sending) (limits : List Known) (k : ℕ) (x : Outgoing) (f : Known) → IsQuiet n s → outgoing_at s k ≡ Some x → IsDue s limits f → end_of k (flown f) ≤ x.accepted
end_accepted n s limits k x (StreamData j o xs) quiet e due = elim (cases_eq j k) [
  | inl same ↦ (let b = is_same j k same in let is : end_of k (flown (StreamData j o xs)) ≡ o + length xs = rw b refl in
      let here : outgoing_at s k ≡ Some due.stream = rw same at due.is_open in
      let both : ◌≡◌ {A = Option Outgoing} (Some due.stream) (Some x) = sym here ∙ e in
      let accepted : due.stream.accepted ≡ x.accepted = let is : due.stream ≡ x = cc in ap (λ (z : Outgoing). z.accepted) is in
      let end = last_byte xs due.some in
      let at = data_needs_bytes n s j (o + end.0) due.stream end.1 quiet due.is_open (due.bytes end.0 end.1 end.2) in
      let till = at.1 in let size = end.3 in
      omega (arith, is, accepted, till, size))
  | inr apart ↦ (let b = is_other j k apart in let is : end_of k (flown (StreamData j o xs)) ≡ 0 = rw b refl in omega (arith, is))
]
end_accepted n s limits k x f quiet e due = omega arith

pub all_end_accepted : (n : ℕ → ℕ) (s : Sending) (limits : List Known) (k : ℕ) (x : Outgoing) (fs : List Known) → IsQuiet n s → outgoing_at s k ≡ Some x → AllByRecursion (IsDue s limits) fs → highest_end k (map flown fs) ≤ x.accepted
all_end_accepted n s limits k x [] quiet e due = omega arith
all_end_accepted n s limits k x (f ∷ fs) quiet e due = let a = end_accepted n s limits k x f quiet e due.0 in let b = all_end_accepted n s limits k x fs quiet e due.1 in omega (arith, a, b)

-- ---- the stream after the Fulfill

pub record IsLeft (n : ℕ) (x : Outgoing) : Type 0 where
  pub front : (q : ℕ) → q < x.acked_end → fmap.get x.unacked q ≡ None
  pub row : (q : ℕ) → x.acked_end ≤ q → q < x.accepted → (b : ℕ) × (fmap.get x.unacked q ≡ Some b)
  pub past : (q : ℕ) → x.accepted ≤ q → fmap.get x.unacked q ≡ None
  pub within : x.acked_end ≤ x.accepted
  pub total : x.accepted ≤ n
  pub alive : x.abort ≡ None
  pub paid : x.fulfilled ≤ x.offered
  pub may_pay : (told : ℕ × ℕ) → x.advertised_money ≡ Some told → told.1 + x.offered ≤ told.0 + x.fulfilled

none_either : (b : Bool) (g : Option ℕ) → g ≡ None → cond b None g ≡ None
none_either true g e = refl
none_either false g e = e

some_or_none : (g : Option ℕ) → (g ≡ None) ⊎ ((b : ℕ) × (g ≡ Some b))
some_or_none None = inl refl
some_or_none (Some b) = inr (b, refl)

pub left_kept : (n : ℕ → ℕ) (s : Sending) (limits : List Known) (p : Load) (k : ℕ) (x : Outgoing) → IsQuiet n s → Sends s limits max_packet p (with_flight s p) → Fills s limits max_packet p → outgoing_at s k ≡ Some x
    → IsLeft (n k) (all_own_acked k p.frames x)
left_kept n s limits p k x quiet sends fills e =
    let w = quiet.streams k x e in
    let y = all_own_acked k p.frames x in
    let kept = all_kept k p.frames x in
    let end = all_acked_end k p.frames x in
    let accepted = kept.accepted in
    let most = all_end_accepted n s limits k x p.frames quiet e sends.due in
    let low = w.within in
    record {
      front = λ q l. all_unacked_at k p.frames x q ∙ front_at w q (omega (arith, l, end));
      row = λ q from till. row_at w q (omega (arith, from, end)) (omega (arith, from, end)) (omega (arith, till, accepted));
      past = λ q l. all_unacked_at k p.frames x q ∙ none_either (list_any (carries k q) (map flown p.frames)) (fmap.get x.unacked q) (w.past q (omega (arith, l, accepted)));
      within = omega (arith, end, most, low, accepted);
      total = (let t = w.total in omega (arith, t, accepted));
      alive = kept.abort ∙ w.alive;
      paid = (let m = sends.money k x e in let d = due_is_left s k x quiet.alone w.alive in let f = all_acked_paid k p.frames x in let o = kept.offered in let before = w.paid in omega (arith, m, d, f, o, before));
      may_pay = λ told is. (let f = all_acked_paid k p.frames x in let o = kept.offered in let h = w.may_pay told (sym kept.advertised_money ∙ is) in omega (arith, o, f, h));
    }
  where
    front_at : IsWaiting (n k) x → (q : ℕ) → q < max x.acked_end (highest_end k (map flown p.frames)) → cond (list_any (carries k q) (map flown p.frames)) None (fmap.get x.unacked q) ≡ None
    front_at w q l = elim (some_or_none (fmap.get x.unacked q)) [
      | inl none ↦ none_either (list_any (carries k q) (map flown p.frames)) (fmap.get x.unacked q) none
      | inr some ↦ (let due : due_at s k x q ≡ Some some.0 = due_is s k x q quiet.alone ∙ some.1 in
          let here : q < highest_end k (map flown p.frames) = elim (cases_lt q x.acked_end) [
            | inl low ↦ absurd (let none = w.front q low in let one = some.1 in cc)
            | inr high ↦ omega (arith, high, l)
          ] in
          let b = fills.gapless k q some.0 x e due here in rw b refl)
    ]

    row_at : IsWaiting (n k) x → (q : ℕ) → x.acked_end ≤ q → highest_end k (map flown p.frames) ≤ q → q < x.accepted → (b : ℕ) × (fmap.get (all_own_acked k p.frames x).unacked q ≡ Some b)
    row_at w q from past till = let got = w.row q from till in let no = none_carried k q p.frames past in
        (got.0, all_unacked_at k p.frames x q ∙ rw no got.1)
