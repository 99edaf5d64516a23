-- How many offsets have a byte.
use Rattle.std.proofs.Common.{◌≡◌, ℕ, zero, suc, ◌+◌, ◌-◌, ◌<◌, ◌≤◌, Bool, true, false, cond, List, [], ◌∷◌, length, drop, drop_of_length-le, get_or, max, Option, Some, None, is_some, refl, ap, ◌∙◌, sym, arith, inl, inr}
use Rattle.std.specs.Prelude.{if◌then◌else◌, not, nat_lt, slice_index}
use Rattle.std.specs.Ordering.{nat_cmp, eq_by_cmp}
use Rattle.std.specs.Cmp.{nat_cmp_total}
use Rattle.std.specs.FinMap as fmap
use Rattle.std.proofs.lemmas.Bool.{cases_lt}
use Rattle.std.proofs.lemmas.Bool.Decides.{nat_tests}
use Rattle.st_streams.specs.Table.{is_between, put_if, table, put_bytes}
use Rattle.st_streams.proofs.Tables.{get-table, table_is, get-kept}
use Rattle.std.proofs.Math.Seq.{drop-cons}
use Rattle.st_unacked.specs.declared.run.Run.{Run}
use Rattle.st_unacked.specs.Sent.{is_by, after_acknowledged, carried}
use Rattle.st_unacked.specs.Runs.{status_at, is_kept, byte_at, shown_by, counted, kept_in}

-- ---- counts of a test

pub counted-same : (p r : ℕ → Bool) (first n : ℕ) → ((q : ℕ) → first ≤ q → q < first + n → p q ≡ r q) → counted p first n ≡ counted r first n
unfolding counted
counted-same p r first zero same = refl
counted-same p r first (suc n) same =
    ap (λ c. c + (if p (first + n) then 1 else 0)) (counted-same p r first n (λ q l m. same q l (omega arith)))
    ∙ ap (λ b. counted r first n + (if b then 1 else 0)) (same (first + n) (omega arith) (omega arith))

pub counted-few : (p : ℕ → Bool) (first n : ℕ) → counted p first n ≤ n
unfolding counted
counted-few p first zero = omega arith
counted-few p first (suc n) = one (p (first + n)) (counted p first n) n (counted-few p first n)
  where
    one : (b : Bool) (c n : ℕ) → c ≤ n → c + (if b then 1 else 0) ≤ suc n
    one true c n l = omega arith
    one false c n l = omega arith

-- k more, of which all or none pass
pub counted-more : (p : ℕ → Bool) (b : Bool) (first n k : ℕ) → ((q : ℕ) → first + n ≤ q → q < first + n + k → p q ≡ b) → counted p first (n + k) ≡ counted p first n + (if b then k else 0)
unfolding counted
counted-more p b first n zero same = ap (counted p first) (let e : n + 0 ≡ n = omega arith in e) ∙ none b (counted p first n)
  where
    none : (b : Bool) (c : ℕ) → c ≡ c + (if b then 0 else 0)
    none true c = omega arith
    none false c = omega arith
counted-more p b first n (suc k) same =
    ap (counted p first) (let e : n + suc k ≡ suc (n + k) = omega arith in e)
    ∙ ap (λ c. c + (if p (first + (n + k)) then 1 else 0)) (counted-more p b first n k (λ q l m. same q l (omega arith)))
    ∙ ap (λ t. counted p first n + (if b then k else 0) + (if t then 1 else 0)) (same (first + (n + k)) (omega arith) (omega arith))
    ∙ one b (counted p first n) k
  where
    one : (b : Bool) (c k : ℕ) → c + (if b then k else 0) + (if b then 1 else 0) ≡ c + (if b then suc k else 0)
    one true c k = omega arith
    one false c k = omega arith

pub counted-append : (p : ℕ → Bool) (first n k : ℕ) → counted p first (n + k) ≡ counted p first n + counted p (first + n) k
unfolding counted
counted-append p first n zero = ap (counted p first) (let e : n + 0 ≡ n = omega arith in e) ∙ (let e : counted p first n ≡ counted p first n + 0 = omega arith in e)
counted-append p first n (suc k) =
    ap (counted p first) (let e : n + suc k ≡ suc (n + k) = omega arith in e)
    ∙ ap (λ c. c + (if p (first + (n + k)) then 1 else 0)) (counted-append p first n k)
    ∙ ap (λ q. counted p first n + counted p (first + n) k + (if p q then 1 else 0)) (let e : first + (n + k) ≡ first + n + k = omega arith in e)
    ∙ (let e : counted p first n + counted p (first + n) k + (if p (first + n + k) then 1 else 0) ≡ counted p first n + (counted p (first + n) k + (if p (first + n + k) then 1 else 0)) = omega arith in e)

-- one that passes
pub counted-some : (p : ℕ → Bool) (first n q : ℕ) → first ≤ q → q < first + n → p q ≡ true → 0 < counted p first n
unfolding counted
counted-some p first zero q l m e = absurd (omega arith)
counted-some p first (suc n) q l m e = elim (cases_lt q (first + n)) [
  | inl h ↦ (let some : 0 < counted p first n = counted-some p first n q l h e in omega (arith, some))
  | inr h ↦ (let same : p (first + n) ≡ true = ap p (let f : first + n ≡ q = omega arith in f) ∙ e in this (p (first + n)) (counted p first n) same)
]
  where
    this : (b : Bool) (c : ℕ) → b ≡ true → 0 < c + (if b then 1 else 0)
    this true c e = omega arith
    this false c e = absurd cc

-- none that passes
pub counted-none : (p : ℕ → Bool) (first n : ℕ) → ((q : ℕ) → first ≤ q → q < first + n → p q ≡ false) → counted p first n ≡ 0
unfolding counted
counted-none p first zero none = refl
counted-none p first (suc n) none =
    ap (λ c. c + (if p (first + n) then 1 else 0)) (counted-none p first n (λ q l m. none q l (omega arith)))
    ∙ ap (λ b. 0 + (if b then 1 else 0)) (none (first + n) (omega arith) (omega arith))

-- all pass
pub counted-all : (p : ℕ → Bool) (first n : ℕ) → ((q : ℕ) → first ≤ q → q < first + n → p q ≡ true) → counted p first n ≡ n
unfolding counted
counted-all p first zero all = refl
counted-all p first (suc n) all =
    ap (λ c. c + (if p (first + n) then 1 else 0)) (counted-all p first n (λ q l m. all q l (omega arith)))
    ∙ ap (λ b. n + (if b then 1 else 0)) (all (first + n) (omega arith) (omega arith))
    ∙ (let e : n + 1 ≡ suc n = omega arith in e)

-- none is left to pass
pub counted-zero : (p : ℕ → Bool) (first n : ℕ) → counted p first n ≡ 0 → (q : ℕ) → first ≤ q → q < first + n → p q ≡ false
counted-zero p first n e q l m = by_test (p q) refl
  where
    by_test : (b : Bool) → p q ≡ b → p q ≡ false
    by_test false h = h
    by_test true h = absurd (let some : 0 < counted p first n = counted-some p first n q l m h in omega (arith, some, e))

-- past n none passes
pub counted-most : (p : ℕ → Bool) (first n m : ℕ) → ((q : ℕ) → first + n ≤ q → p q ≡ false) → counted p first m ≤ counted p first n
counted-most p first n m past = elim (cases_lt m n) [
  | inl l ↦ (let e : counted p first (m + (n - m)) ≡ counted p first m + counted p (first + m) (n - m) = counted-append p first m (n - m) in
      let f : counted p first (m + (n - m)) ≡ counted p first n = ap (counted p first) (let g : m + (n - m) ≡ n = omega arith in g) in omega (arith, e, f))
  | inr l ↦ (let e : counted p first (n + (m - n)) ≡ counted p first n + counted p (first + n) (m - n) = counted-append p first n (m - n) in
      let f : counted p first (n + (m - n)) ≡ counted p first m = ap (counted p first) (let g : n + (m - n) ≡ m = omega arith in g) in
      let h : counted p (first + n) (m - n) ≡ 0 = counted-none p (first + n) (m - n) (λ q a b. past q a) in omega (arith, e, f, h))
]

-- past n and past m none passes
pub counted-ends : (p : ℕ → Bool) (first n m : ℕ) → ((q : ℕ) → first + n ≤ q → p q ≡ false) → ((q : ℕ) → first + m ≤ q → p q ≡ false) → counted p first n ≡ counted p first m
counted-ends p first n m pastn pastm = elim (cases_lt n m) [
  | inl l ↦ sym (further n m (omega arith) pastn)
  | inr l ↦ further m n l pastm
]
  where
    nothing : (c : ℕ) → c + 0 ≡ c
    nothing c = omega arith

    further : (n m : ℕ) → n ≤ m → ((q : ℕ) → first + n ≤ q → p q ≡ false) → counted p first m ≡ counted p first n
    further n m l past = ap (counted p first) (let e : m ≡ n + (m - n) = omega arith in e) ∙ counted-more p false first n (m - n) (λ q a b. past q a) ∙ nothing (counted p first n)

-- those that pass and those that do not
pub counted-split : (p r s : ℕ → Bool) (first n : ℕ) → ((q : ℕ) → (if p q then 1 else 0) + (if r q then 1 else 0) ≡ (if s q then 1 else 0)) → counted p first n + counted r first n ≡ counted s first n
unfolding counted
counted-split p r s first zero each = refl
counted-split p r s first (suc n) each = sums (counted p first n) (counted r first n) (counted s first n) (if p (first + n) then 1 else 0) (if r (first + n) then 1 else 0) (if s (first + n) then 1 else 0)
    (counted-split p r s first n each) (each (first + n))
  where
    sums : (a b c x y z : ℕ) → a + b ≡ c → x + y ≡ z → a + x + (b + y) ≡ c + z
    sums a b c x y z e f = omega arith

-- ---- the size of a map

put_new : (o : Option ℕ) (k : ℕ) (m : fmap.FinMap nat_cmp ℕ) → fmap.get m k ≡ None → fmap.len (put_if o k m) ≡ fmap.len m + (if is_some o then 1 else 0)
put_new None k m none = (let e : fmap.len m ≡ fmap.len m + 0 = omega arith in e)
put_new (Some x) k m none = fmap.len-insert nat_cmp_total m k x ∙ ap (λ o. cond (is_some o) (fmap.len m) (fmap.len m + 1)) none

beyond : (b : Option ℕ) (first n : ℕ) → cond (is_between first (first + n) (first + n)) b None ≡ None
beyond b first n = grind (arith, nat_tests)

pub len-table : (f : ℕ → Option ℕ) (first n : ℕ) → fmap.len (table f first n) ≡ counted (λ q. is_some (f q)) first n
unfolding table counted
len-table f first zero = fmap.len-empty nat_cmp ℕ
len-table f first (suc n) =
    put_new (f (first + n)) (first + n) (table f first n) (get-table f first n (first + n) ∙ beyond (f (first + n)) first n)
    ∙ ap (λ c. c + (if is_some (f (first + n)) then 1 else 0)) (len-table f first n)

-- bytes that are put past all others
pub len-put_bytes : (xs : List ℕ) (m : fmap.FinMap nat_cmp ℕ) (o : ℕ) → ((q : ℕ) → o ≤ q → fmap.get m q ≡ None) → fmap.len (put_bytes m o xs) ≡ fmap.len m + length xs
unfolding put_bytes
len-put_bytes [] m o none = (let e : fmap.len m ≡ fmap.len m + 0 = omega arith in e)
len-put_bytes (x ∷ xs) m o none =
    len-put_bytes xs (fmap.insert m o x) (o + 1) (λ q l. fmap.get-insert nat_cmp_total m o x q ∙ other (fmap.get m q) x o q l (none q (omega arith)))
    ∙ ap (λ n. n + length xs) (put_new (Some x) o m (none o (omega arith)))
    ∙ (let e : fmap.len m + 1 + length xs ≡ fmap.len m + suc (length xs) = omega arith in e)
  where
    other : (g : Option ℕ) (x o q : ℕ) → o + 1 ≤ q → g ≡ None → cond (eq_by_cmp nat_cmp q o) (Some x) g ≡ None
    other g x o q l e = grind (arith, nat_tests)

-- what is left of a table, and what is removed
still : (h b : Bool) (o : Option ℕ) → cond h (if b then o else None) None ≡ cond b (cond h o None) None
still true b o = refl
still false true o = refl
still false false o = refl

pub retained : (f : ℕ → Option ℕ) (first n : ℕ) (p : ℕ → Bool) → fmap.retain_keys (table f first n) p ≡ table (λ q. if p q then f q else None) first n
retained f first n p = sym (table_is (λ q. if p q then f q else None) first n (fmap.retain_keys (table f first n) p)
    (λ q. still (is_between first (first + n) q) (p q) (f q) ∙ ap (λ o. cond (p q) o None) (sym (get-table f first n q)) ∙ sym (get-kept (table f first n) p q)))

pub len-split : (f : ℕ → Option ℕ) (first n : ℕ) (p : ℕ → Bool) → fmap.len (fmap.retain_keys (table f first n) (λ q. not (p q))) + fmap.len (fmap.retain_keys (table f first n) p) ≡ fmap.len (table f first n)
len-split f first n p =
    ap (λ m. fmap.len m + fmap.len (fmap.retain_keys (table f first n) p)) (retained f first n (λ q. not (p q)))
    ∙ ap (λ k. k + fmap.len (fmap.retain_keys (table f first n) p)) (len-table (λ q. if not (p q) then f q else None) first n)
    ∙ ap (λ m. counted (λ q. is_some (if not (p q) then f q else None)) first n + fmap.len m) (retained f first n p)
    ∙ ap (λ k. counted (λ q. is_some (if not (p q) then f q else None)) first n + k) (len-table (λ q. if p q then f q else None) first n)
    ∙ counted-split _ _ _ first n (λ q. either (p q) (f q)) ∙ sym (len-table f first n)
  where
    either : (b : Bool) (o : Option ℕ) → (if is_some (if not b then o else None) then 1 else 0) + (if is_some (if b then o else None) then 1 else 0) ≡ (if is_some o then 1 else 0)
    either true None = refl
    either true (Some x) = refl
    either false None = refl
    either false (Some x) = refl

-- ---- what a model shows

kept_is : (k : Bool) (x : ℕ) → is_some (if k then Some x else None) ≡ k
kept_is true x = refl
kept_is false x = refl

pub shown_count : (runs : List Run) (byte : ℕ → ℕ) (first n : ℕ) → fmap.len (shown_by runs byte first n).unacked ≡ kept_in runs first n
shown_count runs byte first n =
    len-table (byte_at runs byte) first n
    ∙ counted-same (λ q. is_some (byte_at runs byte q)) (λ q. is_kept (status_at runs q)) first n (λ q l m. kept_is (is_kept (status_at runs q)) (byte q))

outside : (b : Option ℕ) (first n q : ℕ) → first + n ≤ q → cond (is_between first (first + n) q) b None ≡ None
outside b first n q l = grind (arith, nat_tests)

pub none_past : (runs : List Run) (byte : ℕ → ℕ) (first n q : ℕ) → (shown_by runs byte first n).accepted ≤ q → fmap.get (shown_by runs byte first n).unacked q ≡ None
none_past runs byte first n q l = get-table (byte_at runs byte) first n q ∙ outside (byte_at runs byte q) first n q l

pub lowered_view : (sequence : ℕ) (runs : List Run) (byte : ℕ → ℕ) (first n : ℕ)
    → fmap.len (after_acknowledged sequence (shown_by runs byte first n)).unacked + fmap.len (carried sequence (shown_by runs byte first n)) ≡ fmap.len (shown_by runs byte first n).unacked
lowered_view sequence runs byte first n = len-split (byte_at runs byte) first n (λ q. is_by sequence (fmap.get (shown_by runs byte first n).flying q))

-- ---- what is kept, run by run

below : (q e : ℕ) → q < e → nat_lt q e ≡ true
below q e l = grind (arith, nat_tests)

not_below : (q e : ℕ) → e ≤ q → nat_lt q e ≡ false
not_below q e l = grind (arith, nat_tests)

-- the runs continue with this one from start on
module _ (runs items : List Run) (same : items ≡ runs) (i : ℕ) (d : Run) (first start past : ℕ) (here : i < length items) (from : first ≤ start) (rest : (q : ℕ) → start ≤ q → status_at runs q ≡ status_at (drop i runs) q)
    (further : past ≡ max start (get_or items i d).end) where
  abbrev one : Run
  one = get_or items i d

  goes_on : (q : ℕ) → start ≤ q → status_at runs q ≡ status_at (one ∷ drop (i + 1) runs) q
  goes_on q l = rest q l ∙ ap (λ rs. status_at (drop i rs) q) (sym same) ∙ ap (λ rs. status_at rs q) (drop-cons items i d here)
      ∙ ap (λ n. status_at (one ∷ drop n items) q) (let e : suc i ≡ i + 1 = omega arith in e) ∙ ap (λ rs. status_at (one ∷ drop (i + 1) rs) q) same

  pub rest-step : (q : ℕ) → past ≤ q → status_at runs q ≡ status_at (drop (i + 1) runs) q
  rest-step q l = goes_on q (omega arith) ∙ ap (λ b. if b then Some one.status else status_at (drop (i + 1) runs) q) (not_below q one.end (omega arith))

  kept_here : (q : ℕ) → first + (start - first) ≤ q → q < first + (start - first) + (one.end - start) → is_kept (status_at runs q) ≡ one.status.kept
  kept_here q l m = ap is_kept (goes_on q (omega arith) ∙ ap (λ b. if b then Some one.status else status_at (drop (i + 1) runs) q) (below q one.end (omega arith)))

  pub kept-step : (count more : ℕ) → count ≡ kept_in runs first (start - first) → more ≡ (if one.status.kept then one.end - start else 0) → count + more ≡ kept_in runs first (past - first)
  kept-step count more e f =
      ap (λ n. n + more) e ∙ ap (λ n. kept_in runs first (start - first) + n) f
      ∙ sym (counted-more (λ q. is_kept (status_at runs q)) one.status.kept first (start - first) (one.end - start) kept_here)
      ∙ ap (kept_in runs first) (let e : start - first + (one.end - start) ≡ past - first = omega arith in e)

pub kept_none : (runs : List Run) (first : ℕ) → 0 ≡ kept_in runs first (first - first)
unfolding counted
kept_none runs first = ap (kept_in runs first) (let e : 0 ≡ first - first = omega arith in e)

pub kept_few : (runs : List Run) (first n : ℕ) → kept_in runs first n ≤ n
kept_few runs first n = counted-few (λ q. is_kept (status_at runs q)) first n

-- what is kept is counted once nothing lies past it
pub kept_all : (runs : List Run) (first n m : ℕ) → ((q : ℕ) → first + n ≤ q → status_at runs q ≡ None) → ((q : ℕ) → first + m ≤ q → status_at runs q ≡ None) → kept_in runs first n ≡ kept_in runs first m
kept_all runs first n m pastn pastm = counted-ends (λ q. is_kept (status_at runs q)) first n m (λ q l. ap is_kept (pastn q l)) (λ q l. ap is_kept (pastm q l))

-- no run is left
pub none_left : (runs items : List Run) → items ≡ runs → (i q : ℕ) → length items ≤ i → status_at runs q ≡ status_at (drop i runs) q → status_at runs q ≡ None
none_left runs items same i q l e = e ∙ ap (λ rs. status_at (drop i rs) q) (sym same) ∙ ap (λ rs. status_at rs q) (drop_of_length-le items l)

-- some of `count` offsets pass if and only if the first that does is among them
pub first-counts : (p : ℕ → Bool) (at count from : ℕ) → at ≤ from → p from ≡ true → ((q : ℕ) → at ≤ q → q < from → p q ≡ false) → nat_lt (from - at) count ≡ nat_lt 0 (counted p at count)
first-counts p at count from l e none = elim (cases_lt (from - at) count) [
  | inl m ↦ below (from - at) count m ∙ sym (below 0 (counted p at count) (counted-some p at count from l (omega (arith, l, m)) e))
  | inr m ↦ not_below (from - at) count m ∙ sym (ap (nat_lt 0) (counted-none p at count (λ q a b. none q a (omega (arith, l, m, b)))))
]
