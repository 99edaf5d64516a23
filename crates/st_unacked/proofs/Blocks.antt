-- The blocks in which the bytes lie: what is let go, and how much is kept.
use Rattle.std.proofs.Common.{◌≡◌, ℕ, zero, suc, ◌+◌, ◌-◌, ◌*◌, ◌<◌, ◌≤◌, Bool, true, false, cond, ◌&&◌, List, [], ◌∷◌, length, filter, Some, None, refl, ap, ◌∙◌, sym, arith, inl, inr}
use Rattle.std.specs.Prelude.{if◌then◌else◌, not, is_some, is_none, nat_lt, slice_index}
use Rattle.std.specs.Ordering.{nat_cmp}
use Rattle.std.specs.FinMap as fmap
use Rattle.std.proofs.lemmas.Bool.{cases_lt}
use Rattle.std.proofs.lemmas.Bool.Decides.{nat_tests}
use Rattle.st_streams.specs.Table.{is_between, table}
use Rattle.st_streams.proofs.Tables.{get-table}
use Rattle.st_unacked.specs.declared.run.Run.{Run}
use Rattle.st_unacked.specs.Sent.{rows}
use Rattle.st_unacked.specs.Runs.{status_at, is_kept, byte_at, shown_by, counted, IsTiled}
use Rattle.st_unacked.specs.Chunks.{Block, ends_past, byte_in, covers, Laid, EachHas}
use Rattle.st_unacked.proofs.Counts.{counted-same, counted-append, counted-some, counted-all, counted-zero, counted-most, retained, len-table, len-split, shown_count}

pub test_true : (q e : ℕ) → q < e → nat_lt q e ≡ true
test_true q e l = grind (arith, nat_tests)

pub test_false : (q e : ℕ) → e ≤ q → nat_lt q e ≡ false
test_false q e l = grind (arith, nat_tests)

pub true_test : (q e : ℕ) → nat_lt q e ≡ true → q < e
true_test q e h = grind (arith, nat_tests)

pub before_not : (q e : ℕ) → e ≤ q → not (nat_lt q e) ≡ true
before_not q e l = grind (arith, nat_tests)

pub not_before : (q e : ℕ) → not (nat_lt q e) ≡ true → e ≤ q
not_before q e h = grind (arith, nat_tests)

-- ---- what is let go

pub laid_from : (low from end : ℕ) (cs : List Block) → low ≤ from → Laid from end cs → Laid low end cs
laid_from low from end [] l h = h
laid_from low from end (c ∷ cs) l h = (omega (arith, h.0), h.1, h.2, h.3)

module _ (passes : ℕ → Bool) where
  -- whether an offset of a block passes
  abbrev has : Block → Bool
  has c = nat_lt 0 (counted passes c.at 4096)

  laid_by : (t : Bool) (from end : ℕ) (c : Block) (cs : List Block) → Laid from end (c ∷ cs) → Laid (c.at + 4096) end (filter has cs) → Laid from end (cond t (c ∷ filter has cs) (filter has cs))
  laid_by true from end c cs h rest = (h.0, h.1, h.2, rest)
  laid_by false from end c cs h rest = laid_from from (c.at + 4096) end (filter has cs) (omega (arith, h.0)) rest

  pub filtered_laid : (from end : ℕ) (cs : List Block) → Laid from end cs → Laid from end (filter has cs)
  filtered_laid from end [] h = h
  filtered_laid from end (c ∷ cs) h = laid_by (has c) from end c cs h (filtered_laid (c.at + 4096) end cs h.3)

  held_by : (t : Bool) (c : Block) (cs : List Block) → has c ≡ t → EachHas passes (filter has cs) → EachHas passes (cond t (c ∷ filter has cs) (filter has cs))
  held_by true c cs e rest = (true_test 0 (counted passes c.at 4096) e, rest)
  held_by false c cs e rest = rest

  pub filtered_held : (cs : List Block) → EachHas passes (filter has cs)
  filtered_held [] = tt
  filtered_held (c ∷ cs) = held_by (has c) c cs refl (filtered_held cs)

  -- what passes stays where it lies
  pub record Stays (cs ds : List Block) (q : ℕ) : Type 0 where
    pub covers : covers ds q ≡ true
    pub byte : byte_in ds q ≡ byte_in cs q

  hidden : (b : Bool) (c : Block) (cs : List Block) (q : ℕ) → ends_past q c ≡ false → Stays cs (filter has cs) q → Stays (c ∷ cs) (cond b (c ∷ filter has cs) (filter has cs)) q
  hidden true c cs q e s = record {
    covers = ap (λ b. if b then not (nat_lt q c.at) else covers (filter has cs) q) e ∙ s.covers;
    byte = ap (λ b. if b then slice_index c.bytes (q - c.at) else byte_in (filter has cs) q) e ∙ s.byte
        ∙ sym (ap (λ b. if b then slice_index c.bytes (q - c.at) else byte_in cs q) e);
  }
  hidden false c cs q e s = record {
    covers = s.covers;
    byte = s.byte ∙ sym (ap (λ b. if b then slice_index c.bytes (q - c.at) else byte_in cs q) e);
  }

  here : (b : Bool) (c : Block) (cs : List Block) (q : ℕ) → b ≡ true → ends_past q c ≡ true → not (nat_lt q c.at) ≡ true → Stays (c ∷ cs) (cond b (c ∷ filter has cs) (filter has cs)) q
  here true c cs q f e n = record {
    covers = ap (λ b. if b then not (nat_lt q c.at) else covers (filter has cs) q) e ∙ n;
    byte = ap (λ b. if b then slice_index c.bytes (q - c.at) else byte_in (filter has cs) q) e
        ∙ sym (ap (λ b. if b then slice_index c.bytes (q - c.at) else byte_in cs q) e);
  }
  here false c cs q f e n = absurd cc

  stays_by : (b : Bool) (c : Block) (cs : List Block) (q : ℕ) → ends_past q c ≡ b → passes q ≡ true → covers (c ∷ cs) q ≡ true → (covers cs q ≡ true → Stays cs (filter has cs) q) → Stays (c ∷ cs) (filter has (c ∷ cs)) q
  stays_by true c cs q e p h rest =
      let n : not (nat_lt q c.at) ≡ true = sym (ap (λ b. if b then not (nat_lt q c.at) else covers cs q) e) ∙ h in
      let from : c.at ≤ q = not_before q c.at n in
      let below : q - c.at < 4096 = true_test (q - c.at) 4096 e in
      let some : 0 < counted passes c.at 4096 = counted-some passes c.at 4096 q from (omega (arith, from, below)) p in
      here (has c) c cs q (test_true 0 (counted passes c.at 4096) some) e n
  stays_by false c cs q e p h rest = hidden (has c) c cs q e (rest (sym (ap (λ b. if b then not (nat_lt q c.at) else covers cs q) e) ∙ h))

  pub filtered_stays : (cs : List Block) (q : ℕ) → passes q ≡ true → covers cs q ≡ true → Stays cs (filter has cs) q
  filtered_stays [] q p h = absurd cc
  filtered_stays (c ∷ cs) q p h = stays_by (ends_past q c) c cs q refl p h (filtered_stays cs q p)

-- ---- how much is kept

-- an offset at which a row begins, and one at which it ends
abbrev begins : (ℕ → Bool) → ℕ → Bool
begins b q = b q && not (nat_lt 0 q && b (q - 1))

abbrev pub ends : (ℕ → Bool) → ℕ → Bool
ends b q = b q && not (b (q + 1))

module _ (b : ℕ → Bool) where
  -- the number of rows that begin up to m is that of those that end before m, and one more if m is in a row
  balance : (m : ℕ) → counted (begins b) 0 (suc m) ≡ counted (ends b) 0 m + (if b m then 1 else 0)
  unfolding counted
  balance zero = by_test (b 0)
    where
      by_test : (x : Bool) → 0 + (if x && not (nat_lt 0 0 && b (0 - 1)) then 1 else 0) ≡ 0 + (if x then 1 else 0)
      by_test true = refl
      by_test false = refl
  balance (suc m) =
      ap (λ q. counted (begins b) 0 (suc m) + (if begins b q then 1 else 0)) (let e : 0 + suc m ≡ suc m = omega arith in e)
      ∙ ap (λ c. c + (if begins b (suc m) then 1 else 0)) (balance m)
      ∙ ap (λ q. counted (ends b) 0 m + (if b m then 1 else 0) + (if b (suc m) && not (nat_lt 0 (suc m) && b q) then 1 else 0)) (let e : suc m - 1 ≡ m = omega arith in e)
      ∙ ap (λ t. counted (ends b) 0 m + (if b m then 1 else 0) + (if b (suc m) && not (t && b m) then 1 else 0)) (test_true 0 (suc m) (omega arith))
      ∙ step (b m) (b (suc m)) (counted (ends b) 0 m)
      ∙ ap (λ q. counted (ends b) 0 m + (if b m && not (b q) then 1 else 0) + (if b (suc m) then 1 else 0)) (let e : suc m ≡ m + 1 = omega arith in e)
      ∙ ap (λ q. counted (ends b) 0 m + (if ends b q then 1 else 0) + (if b (suc m) then 1 else 0)) (let e : m ≡ 0 + m = omega arith in e)
    where
      step : (x y : Bool) (c : ℕ) → c + (if x then 1 else 0) + (if y && not (true && x) then 1 else 0) ≡ c + (if x && not y then 1 else 0) + (if y then 1 else 0)
      step true true c = omega arith
      step true false c = omega arith
      step false true c = omega arith
      step false false c = omega arith

  both_true : (x y : Bool) → x ≡ true → (x && not y) ≡ false → y ≡ true
  both_true true true e f = refl
  both_true true false e f = absurd cc
  both_true false y e f = absurd cc

  -- a block that has an offset of a row, and neither the row's beginning nor its end, lies within it
  module _ (a m p : ℕ) (from : a ≤ p) (before : p < a + m) (at : b p ≡ true) (no_begin : (q : ℕ) → a ≤ q → q < a + m → begins b q ≡ false) (no_end : (q : ℕ) → a ≤ q → q < a + m → ends b q ≡ false) where
    up : (k : ℕ) → p + k < a + m → b (p + k) ≡ true
    up zero l = ap b (let e : p + 0 ≡ p = omega arith in e) ∙ at
    up (suc k) l = ap b (let e : p + suc k ≡ p + k + 1 = omega arith in e) ∙ both_true (b (p + k)) (b (p + k + 1)) (up k (omega arith)) (no_end (p + k) (omega arith) (omega arith))

    down : (k : ℕ) → a + k ≤ p → b (p - k) ≡ true
    down zero l = ap b (let e : p - 0 ≡ p = omega arith in e) ∙ at
    down (suc k) l =
        let here : b (p - k) ≡ true = down k (omega arith) in
        let none : (b (p - k) && not (nat_lt 0 (p - k) && b (p - k - 1))) ≡ false = no_begin (p - k) (omega arith) (omega arith) in
        ap b (let e : p - suc k ≡ p - k - 1 = omega arith in e)
        ∙ both_true (b (p - k)) (b (p - k - 1)) here (ap (λ t. b (p - k) && not (t && b (p - k - 1))) (sym (test_true 0 (p - k) (omega arith))) ∙ none)

    all : (q : ℕ) → a ≤ q → q < a + m → b q ≡ true
    all q l h = elim (cases_lt q p) [
      | inl k ↦ ap b (let e : q ≡ p - (p - q) = omega arith in e) ∙ down (p - q) (omega arith)
      | inr k ↦ ap b (let e : q ≡ p + (q - p) = omega arith in e) ∙ up (q - p) (omega arith)
    ]

  -- some offset passes if the count is not 0
  found_by : (x : Bool) (a m : ℕ) → b (a + m) ≡ x → 0 < counted b a m + (if b (a + m) then 1 else 0) → (0 < counted b a m → (p : ℕ) × (a ≤ p) × (p < a + m) × (b p ≡ true)) → (p : ℕ) × (a ≤ p) × (p < a + suc m) × (b p ≡ true)
  found_by true a m e l rest = (a + m, omega arith, omega arith, e)
  found_by false a m e l rest =
      let less : counted b a m + 0 ≡ counted b a m + (if b (a + m) then 1 else 0) = ap (λ x. counted b a m + (if x then 1 else 0)) (sym e) in
      let w = rest (omega (arith, l, less)) in (w.0, w.1, omega (arith, w.2), w.3)

  pub found : (a m : ℕ) → 0 < counted b a m → (p : ℕ) × (a ≤ p) × (p < a + m) × (b p ≡ true)
  unfolding counted
  found a zero l = absurd (omega arith)
  found a (suc m) l = found_by (b (a + m)) a m refl l (found a m)

  weight : ℕ → ℕ → ℕ
  weight a m = counted b a m + 4096 * (counted (begins b) a m + counted (ends b) a m)

  block_weight : (a : ℕ) → 0 < counted b a 4096 → 4096 ≤ weight a 4096
  unfolding weight
  block_weight a some = elim (cases_lt 0 (counted (begins b) a 4096 + counted (ends b) a 4096)) [
    | inl l ↦ omega (arith, l)
    | inr l ↦ (let w = found a 4096 some in
        let none : counted (begins b) a 4096 ≡ 0 = omega (arith, l) in let none' : counted (ends b) a 4096 ≡ 0 = omega (arith, l) in
        let whole : counted b a 4096 ≡ 4096 = counted-all b a 4096 (all a 4096 w.0 w.1 w.2 w.3 (counted-zero (begins b) a 4096 none) (counted-zero (ends b) a 4096 none')) in omega (arith, whole))
  ]

  weight_append : (a m k : ℕ) → weight a (m + k) ≡ weight a m + weight (a + m) k
  unfolding weight
  weight_append a m k =
      let x = counted-append b a m k in let y = counted-append (begins b) a m k in let z = counted-append (ends b) a m k in omega (arith, x, y, z)

  -- from an offset on up to the end of the last block
  span : ℕ → List Block → ℕ
  span from [] = 0
  span from (c ∷ cs) = c.at - from + (4096 + span (c.at + 4096) cs)

  blocks_weight : (from end : ℕ) (cs : List Block) → Laid from end cs → EachHas b cs → 4096 * length cs ≤ weight from (span from cs)
  unfolding span
  blocks_weight from end [] h e = omega arith
  blocks_weight from end (c ∷ cs) h e =
      let rest : 4096 * length cs ≤ weight (c.at + 4096) (span (c.at + 4096) cs) = blocks_weight (c.at + 4096) end cs h.3 e.1 in
      let this : 4096 ≤ weight c.at 4096 = block_weight c.at e.0 in
      let split : weight from (c.at - from + (4096 + span (c.at + 4096) cs)) ≡ weight from (c.at - from) + weight (from + (c.at - from)) (4096 + span (c.at + 4096) cs) = weight_append from (c.at - from) (4096 + span (c.at + 4096) cs) in
      let at : weight (from + (c.at - from)) (4096 + span (c.at + 4096) cs) ≡ weight c.at (4096 + span (c.at + 4096) cs) = ap (λ a. weight a (4096 + span (c.at + 4096) cs)) (let f : from + (c.at - from) ≡ c.at = omega (arith, h.0) in f) in
      let again : weight c.at (4096 + span (c.at + 4096) cs) ≡ weight c.at 4096 + weight (c.at + 4096) (span (c.at + 4096) cs) = weight_append c.at 4096 (span (c.at + 4096) cs) in
      omega (arith, rest, this, split, at, again)

  -- the blocks are few, if no offset from n on passes
  few_blocks : (n end : ℕ) (cs : List Block) → ((q : ℕ) → n ≤ q → b q ≡ false) → Laid 0 end cs → EachHas b cs → 4096 * length cs ≤ counted b 0 n + 8192 * counted (ends b) 0 n
  unfolding weight
  few_blocks n end cs past h e =
      let heavy : 4096 * length cs ≤ weight 0 (span 0 cs) = blocks_weight 0 end cs h e in
      let x : counted b 0 (span 0 cs) ≤ counted b 0 n = counted-most b 0 n (span 0 cs) (λ q l. past q (omega (arith, l))) in
      let y : counted (ends b) 0 (span 0 cs) ≤ counted (ends b) 0 n = counted-most (ends b) 0 n (span 0 cs) (λ q l. none (b q) (b (q + 1)) (past q (omega (arith, l)))) in
      let z : counted (begins b) 0 (span 0 cs) ≤ counted (begins b) 0 n = counted-most (begins b) 0 n (span 0 cs) (λ q l. none (b q) (nat_lt 0 q && b (q - 1)) (past q (omega (arith, l)))) in
      let more : counted (begins b) 0 n ≤ counted (begins b) 0 (n + 1) = (let w = counted-append (begins b) 0 n 1 in omega (arith, w)) in
      let same : counted (begins b) 0 (n + 1) ≡ counted (ends b) 0 n + (if b n then 1 else 0) = ap (counted (begins b) 0) (let f : n + 1 ≡ suc n = omega arith in f) ∙ balance n in
      let last : counted (ends b) 0 n + (if b n then 1 else 0) ≡ counted (ends b) 0 n + 0 = ap (λ x. counted (ends b) 0 n + (if x then 1 else 0)) (past n (omega arith)) in
      omega (arith, heavy, x, y, z, more, same, last)
    where
      none : (x y : Bool) → x ≡ false → (x && not y) ≡ false
      none true y e = absurd cc
      none false y e = refl

-- ---- the rows of a model

module _ (runs : List Run) (byte : ℕ → ℕ) (n : ℕ) (tiled : IsTiled runs 0 n) where
  abbrev kept : ℕ → Bool
  kept q = is_kept (status_at runs q)

  past_kept : (q : ℕ) → n ≤ q → kept q ≡ false
  past_kept q l = ap is_kept (tiled.outside q (omega (arith, l)))

  last_here : (h k k' : Bool) (x y : ℕ) → (h ≡ false → k' ≡ false) → is_some (if is_none (cond h (if k' then Some y else None) None) then (if k then Some x else None) else None) ≡ (k && not k')
  last_here true true true x y e = refl
  last_here true true false x y e = refl
  last_here true false true x y e = refl
  last_here true false false x y e = refl
  last_here false k true x y e = absurd (let z = e refl in cc)
  last_here false true false x y e = refl
  last_here false false false x y e = refl

  beyond : (q : ℕ) → is_between 0 (0 + n) q ≡ false → n ≤ q
  beyond q e = grind (arith, nat_tests)

  pub rows_view : rows (shown_by runs byte 0 n) ≡ counted (ends kept) 0 n
  rows_view =
      ap fmap.len (retained (byte_at runs byte) 0 n (λ q. is_none (fmap.get (table (byte_at runs byte) 0 n) (q + 1))))
      ∙ len-table (λ q. if is_none (fmap.get (table (byte_at runs byte) 0 n) (q + 1)) then byte_at runs byte q else None) 0 n
      ∙ counted-same (λ q. is_some (if is_none (fmap.get (table (byte_at runs byte) 0 n) (q + 1)) then byte_at runs byte q else None)) (ends kept) 0 n (λ q l m.
      ap (λ g. is_some (if is_none g then byte_at runs byte q else None)) (get-table (byte_at runs byte) 0 n (q + 1))
      ∙ last_here (is_between 0 (0 + n) (q + 1)) (kept q) (kept (q + 1)) (byte q) (byte (q + 1)) (λ e. past_kept (q + 1) (beyond (q + 1) e)))

  pub kept_few : (end : ℕ) (cs : List Block) → Laid 0 end cs → EachHas kept cs → 4096 * length cs ≤ fmap.len (shown_by runs byte 0 n).unacked + 8192 * rows (shown_by runs byte 0 n)
  kept_few end cs h e =
      let few : 4096 * length cs ≤ counted kept 0 n + 8192 * counted (ends kept) 0 n = few_blocks kept n end cs past_kept h e in
      omega (arith, few, shown_count runs byte 0 n, rows_view)

  -- no bytes make no rows
  pub no_rows : (shown_by runs byte 0 n).unacked ≡ fmap.empty → fmap.len (shown_by runs byte 0 n).unacked + 8192 * rows (shown_by runs byte 0 n) ≡ 0
  no_rows none =
      let bytes : fmap.len (shown_by runs byte 0 n).unacked ≡ 0 = ap fmap.len none ∙ fmap.len-empty nat_cmp ℕ in
      let few = len-split (byte_at runs byte) 0 n (λ q. is_none (fmap.get (table (byte_at runs byte) 0 n) (q + 1))) in
      omega (arith, bytes, few)
