-- One payment more, or none, at the next stream.
use Rattle.std.proofs.Common.{◌≡◌, ℕ, ◌+◌, ◌-◌, ◌/◌, ◌<◌, ◌≤◌, List, [], ◌∷◌, ◌++◌, length, get_or, map, min, sum, refl, sym, ap, subst, ◌∙◌, arith, Option, Some, inl, inr, length-append}
use Rattle.std.specs.List.{AllByRecursion, range_with_len}
use Rattle.std.proofs.lemmas.Bool.{cases_lt, cases_eq}
use Rattle.std.proofs.lemmas.List.Sums.{sum_by_push}
use Rattle.std.proofs.lemmas.List.FromFn.{map-range_with_len_more}
use Rattle.st_oer.specs.Ratios.{Ratio}
use Rattle.st_streams.specs.Slots.{Slots}
use Rattle.st_sender.specs.declared.load.Payment.{Payment}
use Rattle.st_sender.specs.Sending.{Flight}
use Rattle.st_sender.specs.Lanes.{SendStream}
use Rattle.st_sender.specs.declared.bounds.Bounds.{Bounds}
use Rattle.st_sender.specs.Allowed.{NoneUnit, least_for, unit_size}
use Rattle.st_sender.specs.Paying.{total, payable, payable_at, all_payable, IsPayment, Pays}
use Rattle.st_sender.proofs.Money.{total_push, paid_push, own_amount, other_amount}
use Rattle.st_sender.proofs.Totals.{found_at}

all_push : (P : Payment → Type 0) (ms : List Payment) (p : Payment) → AllByRecursion P ms → P p → AllByRecursion P (ms ++ p ∷ [])
all_push P [] p a h = (h, tt)
all_push P (q ∷ ms) p a h = (a.0, all_push P ms p a.1 h)

sum_push : (xs : List ℕ) (x : ℕ) → sum (xs ++ x ∷ []) ≡ sum xs + x
sum_push xs x = sum_by_push (λ n. n) xs x

payable_more : (lanes : Slots SendStream) (r : Ratio) (ps : List Flight) (n : ℕ) → all_payable lanes r ps (n + 1) ≡ all_payable lanes r ps n + payable_at lanes r ps n
payable_more lanes r ps n = ap sum (map-range_with_len_more (payable_at lanes r ps) 0 n n (omega arith)) ∙ sum_push (map (payable_at lanes r ps) (range_with_len 0 n)) (payable_at lanes r ps n)

abbrev paid : ℕ → ℕ → Payment
paid n most = record { stream = n; amount = most }

pays_none : (lanes : Slots SendStream) (r : Ratio) (ps : List Flight) (limit room : ℕ) → Pays lanes r ps limit room 0 []
pays_none lanes r ps limit room = record {
  each = tt;
  own = λ k. omega arith;
  later = λ k h. refl;
  within = omega arith;
  few = omega arith;
  room_left = omega arith;
  filled = λ h. omega arith;
}

pays_push : (lanes : Slots SendStream) (r : Ratio) (ps : List Flight) (limit room n left most : ℕ) (ms : List Payment) → Pays lanes r ps limit room n ms → left + total ms ≡ limit
    → most ≡ min (payable_at lanes r ps n) left → 0 < most → length ms < room / 34 → Pays lanes r ps limit room (n + 1) (ms ++ paid n most ∷ [])
pays_push lanes r ps limit room n left most ms p e m some fits =
    let long = length-append ms (paid n most ∷ []) in
    let all = total_push ms (paid n most) in
    let more = payable_more lanes r ps n in
    record {
      each = all_push (IsPayment lanes r ps) ms (paid n most) p.each (record { some = some; due = omega arith });
      own = λ k. elim (cases_eq n k) [
        | inl q ↦ rw (← q) (omega (arith, paid_push n ms (paid n most), p.later n (omega arith), own_amount n most))
        | inr q ↦ omega (arith, paid_push k ms (paid n most), p.own k, other_amount n k most q)
      ];
      later = λ k h. omega (arith, paid_push k ms (paid n most), p.later k (omega arith), other_amount n k most (omega arith));
      within = omega (arith, all);
      few = omega (arith, long, p.few);
      room_left = omega (arith, long, p.room_left);
      filled = λ h. omega (arith, all, more, p.filled h);
    }

pub pays_skip : (lanes : Slots SendStream) (r : Ratio) (ps : List Flight) (limit room n left most : ℕ) (ms : List Payment) → Pays lanes r ps limit room n ms → left + total ms ≡ limit → n < 65
    → most ≡ min (payable_at lanes r ps n) left → (0 < most → room / 34 ≤ length ms) → Pays lanes r ps limit room (n + 1) ms
pays_skip lanes r ps limit room n left most ms p e lt m stops =
    let more = payable_more lanes r ps n in
    record {
      each = p.each;
      own = p.own;
      later = λ k h. p.later k (omega arith);
      within = p.within;
      few = omega (arith, p.few);
      room_left = p.room_left;
      filled = λ h. elim (cases_lt 0 most) [ inl s ↦ (let t = stops s in omega (arith, p.few, t)) | inr z ↦ omega (arith, more, p.filled h) ];
    }

pub none_unit_more : (lanes : Slots SendStream) (ps : List Flight) (r : Ratio) (limit : ℕ) (b : Bounds) (n : ℕ) → NoneUnit lanes ps r limit b n
    → (0 < payable_at lanes r ps n → b.room < unit_size b.sequence (least_for r 1) n) → NoneUnit lanes ps r limit b (n + 1)
none_unit_more lanes ps r limit b n before here k h some any = elim (cases_lt k n) [
  | inl low ↦ before k low some any
  | inr high ↦ (let same : k ≡ n = omega arith in rw same (here (rw (sym same) some)))
]

pub pays_all : (lanes : Slots SendStream) (r : Ratio) (ps : List Flight) (limit room n : ℕ) (ms : List Payment) → n ≡ 65 → Pays lanes r ps limit room n ms → Pays lanes r ps limit room 65 ms
pays_all lanes r ps limit room n ms e p = subst (λ i. Pays lanes r ps limit room i ms) e p

-- how much money may be sent and is sent on a stream, by what is at its place
pub due_at : (lanes : Slots SendStream) (r : Ratio) (ps : List Flight) (n : ℕ) (o : Option SendStream) (due : ℕ) → n < length lanes → o ≡ get_or lanes n o → due ≡ payable r ps n o → due ≡ payable_at lanes r ps n
due_at lanes r ps n o due lt at is = is ∙ ap (payable r ps n) (sym (found_at lanes n o lt at))

pub due_some : (r : Ratio) (ps : List Flight) (n : ℕ) (o : Option SendStream) (l : SendStream) (due : ℕ) → o ≡ Some l → due ≡ payable r ps n (Some l) → due ≡ payable r ps n o
due_some r ps n o l due at is = is ∙ ap (payable r ps n) (sym at)

pub most_at : (lanes : Slots SendStream) (r : Ratio) (ps : List Flight) (n : ℕ) (o : Option SendStream) (due left most : ℕ) → n < length lanes → o ≡ get_or lanes n o → due ≡ payable r ps n o → most ≡ min due left → most ≡ min (payable_at lanes r ps n) left
most_at lanes r ps n o due left most lt at is m = m ∙ ap (λ (d : ℕ). min d left) (due_at lanes r ps n o due lt at is)

pub pays_pushed : (lanes : Slots SendStream) (r : Ratio) (ps : List Flight) (limit room n left most : ℕ) (ms all : List Payment) → all ≡ ms ++ paid n most ∷ [] → Pays lanes r ps limit room n ms → left + total ms ≡ limit
    → most ≡ min (payable_at lanes r ps n) left → 0 < most → length ms < room / 34 → Pays lanes r ps limit room (n + 1) all × ((left - most) + total all ≡ limit)
pays_pushed lanes r ps limit room n left most ms all pushed p e m some fits =
    subst (λ (xs : List Payment). Pays lanes r ps limit room (n + 1) xs × ((left - most) + total xs ≡ limit)) (sym pushed)
    (pays_push lanes r ps limit room n left most ms p e m some fits, omega (arith, total_push ms (paid n most), e, m))

pub pays_first : (lanes : Slots SendStream) (r : Ratio) (ps : List Flight) (limit room : ℕ) (ms : List Payment) → ms ≡ [] → Pays lanes r ps limit room 0 ms × (limit + total ms ≡ limit)
pays_first lanes r ps limit room ms none = subst (λ (xs : List Payment). Pays lanes r ps limit room 0 xs × (limit + total xs ≡ limit)) (sym none) (pays_none lanes r ps limit room, omega arith)

-- if nothing is paid although a payment has room, nothing may be paid: at the first stream, at the next one that is paid nothing, at one that is paid
pub nothing_first : (lanes : Slots SendStream) (r : Ratio) (ps : List Flight) (limit : ℕ) → min limit (all_payable lanes r ps 0) ≡ 0
nothing_first lanes r ps limit = omega arith

pub nothing_skip : (lanes : Slots SendStream) (r : Ratio) (ps : List Flight) (limit room n left most : ℕ) (ms : List Payment) → (ms ≡ [] → 34 ≤ room → min limit (all_payable lanes r ps n) ≡ 0) → left + total ms ≡ limit
    → most ≡ min (payable_at lanes r ps n) left → (0 < most → room / 34 ≤ length ms) → ms ≡ [] → 34 ≤ room → min limit (all_payable lanes r ps (n + 1)) ≡ 0
nothing_skip lanes r ps limit room n left most ms none e m stops empty wide = elim (cases_lt 0 most) [
  | inl some ↦ absurd (let full = stops some in omega (arith, full, ap length empty))
  | inr zero ↦ omega (arith, payable_more lanes r ps n, none empty wide, ap total empty)
]

pub nothing_pushed : (lanes : Slots SendStream) (r : Ratio) (ps : List Flight) (limit room n most count : ℕ) (ms all : List Payment) → all ≡ ms ++ paid n most ∷ [] → all ≡ [] → 34 ≤ room → min limit (all_payable lanes r ps count) ≡ 0
nothing_pushed lanes r ps limit room n most count ms all pushed empty wide = absurd (omega (arith, ap length pushed, ap length empty, length-append ms (paid n most ∷ [])))
