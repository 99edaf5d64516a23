-- Lines of the second table, and one of them written at its end.
use Rattle.std.proofs.Common.{◌≡◌, ℕ, suc, ◌+◌, ◌<◌, ◌++◌, max, pos, List, [], ◌∷◌, length, length-append, refl, sym, ap, subst, ◌∙◌, arith}
use Rattle.std.specs.List.{AllByRecursion}
use Rattle.sqlite_value.specs.declared.value.Value.TheVariants.{Null, Int, Text}
use Rattle.sqlite_value.specs.Order.{Row, column}
use Rattle.sqlite_trees.specs.Tree.{put_row}
use Rattle.st_links.specs.declared.side.BalanceSide.{BalanceSide}
use Rattle.st_hop_books.specs.declared.balance.Kind.{Kind}
use Rattle.st_hop_books.specs.declared.balance.Payment.{Payment}
use Rattle.st_hop_books.specs.declared.balance.Tally.{Tally}
use Rattle.st_hop_books.specs.Payments.{payment_line, IsEntryText, IsPaymentLine, ArePaymentsFrom, ArePayments, latest_in, moment_in, name_at, payment_row, with_payment}
use Rattle.st_hop_books.specs.Fulfillments.{last_id}
use Rattle.st_hop_books.specs.Trail.{Trail, next_tally, paid_alone, tally_of, with_entry}
use Rattle.st_hop_books.proofs.LineLemmas.{lower_id, snoc_append}

module _ (name text : List ℕ) (amount moment : ℕ) where
  -- written after those that are there
  put_behind : (id : ℕ) (paid : List Row) → ArePaymentsFrom id paid → put_row (payment_line (id + length paid) name text amount moment) paid ≡ paid ++ payment_line (id + length paid) name text amount moment ∷ []
  put_behind id [] all = refl
  put_behind id (row ∷ paid) all =
      let it = all.0 in
      let first : column row 0 ≡ Int (pos id) = ap (λ r. column r 0) it.is in
      let below : id < id + suc (length paid) = omega arith in
      let moved : id + suc (length paid) ≡ suc id + length paid = omega arith in
      let there : put_row (payment_line (id + suc (length paid)) name text amount moment) paid ≡ paid ++ payment_line (id + suc (length paid)) name text amount moment ∷ [] =
      subst (λ k. put_row (payment_line k name text amount moment) paid ≡ paid ++ payment_line k name text amount moment ∷ []) (sym moved) (put_behind (suc id) paid all.1) in
      rw (first, lower_id id (id + suc (length paid)) below) (ap (λ rows. row ∷ rows) there)

  pushed : (kind : Kind) (side : BalanceSide) → IsEntryText kind side text → (id : ℕ) (paid : List Row) → ArePaymentsFrom id paid → ArePaymentsFrom id (paid ++ payment_line (id + length paid) name text amount moment ∷ [])
  pushed kind side is id [] all =
      let here : id + 0 ≡ id = omega arith in
      (record { name = name; kind = kind; side = side; text = text; text_is = is; amount = amount; moment = moment; is = ap (λ k. payment_line k name text amount moment) here }, tt)
  pushed kind side is id (row ∷ paid) all =
      let moved : id + suc (length paid) ≡ suc id + length paid = omega arith in
      (all.0, subst (λ k. ArePaymentsFrom (suc id) (paid ++ payment_line k name text amount moment ∷ [])) (sym moved) (pushed kind side is (suc id) paid all.1))

pub put_payment : (paid : List Row) (names : List (List ℕ)) (p : Payment) (text : List ℕ) → ArePayments paid → put_row (payment_row paid names p text) paid ≡ with_payment paid names p text
put_payment paid names p text all =
    let moved : length paid + 1 ≡ 1 + length paid = omega arith in
    let line : ℕ → Row = λ k. payment_line k (name_at names p.account) text p.amount (max (latest_in paid) p.moment) in
    subst (λ k. put_row (line k) paid ≡ paid ++ line k ∷ []) (sym moved) (put_behind (name_at names p.account) text p.amount (max (latest_in paid) p.moment) 1 paid all)

pub payments_push : (paid : List Row) (names : List (List ℕ)) (p : Payment) (text : List ℕ) → IsEntryText p.kind p.side text → ArePayments paid → ArePayments (with_payment paid names p text)
payments_push paid names p text is all =
    let moved : length paid + 1 ≡ 1 + length paid = omega arith in
    let line : ℕ → Row = λ k. payment_line k (name_at names p.account) text p.amount (max (latest_in paid) p.moment) in
    subst (λ k. ArePayments (paid ++ line k ∷ [])) (sym moved) (pushed (name_at names p.account) text p.amount (max (latest_in paid) p.moment) p.kind p.side is 1 paid all)

-- ---- how many there are, and the moment of the last one

pub latest_of_last : (paid : List Row) (row : Row) → latest_in (paid ++ row ∷ []) ≡ moment_in row
latest_of_last [] row = refl
latest_of_last (r ∷ []) row = refl
latest_of_last (r ∷ s ∷ paid) row = latest_of_last (s ∷ paid) row

pub tally_more : (paid : List Row) (row : Row) → tally_of (paid_alone (paid ++ row ∷ [])) ≡ record { lines = length paid + 1; latest = moment_in row; filed = 0 }
tally_more paid row =
    let lines : length (paid ++ row ∷ []) ≡ length paid + 1 = omega (arith, length-append paid (row ∷ [])) in
    let latest = latest_of_last paid row in
    λ i. let t : Tally = record { lines = lines i; latest = latest i; filed = 0 } in t

-- one payment more
pub one_more : (trail : Trail) (names : List (List ℕ)) (p : Payment) (text : List ℕ) (count : Tally) → tally_of trail ≡ count → tally_of (with_entry trail names p text) ≡ next_tally count p
one_more trail names p text count is =
    let row = payment_row trail.paid names p text in
    let lines : length (trail.paid ++ row ∷ []) ≡ length trail.paid + 1 = omega (arith, length-append trail.paid (row ∷ [])) in
    let latest = latest_of_last trail.paid row in
    let now : tally_of (with_entry trail names p text) ≡ next_tally (tally_of trail) p = λ i. let t : Tally = record { lines = lines i; latest = latest i; filed = last_id trail.proofs } in t in
    now ∙ ap (λ (t : Tally). next_tally t p) is

-- a line more was read
pub read_payment : (rows : List Row) (done : List Row) (row : Row) (left : List Row) (id : ℕ) → rows ≡ done ++ row ∷ left → length done + 1 ≡ id → ArePayments done → IsPaymentLine id row
    → (rows ≡ (done ++ row ∷ []) ++ left) × ArePayments (done ++ row ∷ [])
read_payment rows done row left id is at all line =
    let moved : 1 + length done ≡ id = omega arith in
    (is ∙ sym (snoc_append done row left), from 1 done all (subst (λ k. IsPaymentLine k row) (sym moved) line))
  where
    from : (k : ℕ) (xs : List Row) → ArePaymentsFrom k xs → IsPaymentLine (k + length xs) row → ArePaymentsFrom k (xs ++ row ∷ [])
    from k [] many one = (subst (λ n. IsPaymentLine n row) (omega arith) one, tt)
    from k (x ∷ xs) many one = (many.0, from (suc k) xs many.1 (subst (λ n. IsPaymentLine n row) (omega arith) one))

-- a row more that has neither text
pub none_more : (P : Row → Type 0) (done : List Row) (row : Row) → AllByRecursion P done → P row → AllByRecursion P (done ++ row ∷ [])
none_more P [] row all one = (one, tt)
none_more P (r ∷ done) row all one = (all.0, none_more P done row all.1 one)

-- a row of six columns
pub six : (r : Row) (id : ℕ) (name text : List ℕ) (amount moment : ℕ) → length r ≡ 6 → column r 0 ≡ Int (pos id) → column r 1 ≡ Null → column r 2 ≡ Text name → column r 3 ≡ Text text → column r 4 ≡ Int (pos amount) → column r 5 ≡ Int (pos moment)
    → r ≡ payment_line id name text amount moment
six (v0 ∷ v1 ∷ v2 ∷ v3 ∷ v4 ∷ v5 ∷ []) id name text amount moment len c0 c1 c2 c3 c4 c5 = rw (c0, c1, c2, c3, c4, c5) refl
six [] id name text amount moment len c0 c1 c2 c3 c4 c5 = absurd (omega arith)
six (v0 ∷ []) id name text amount moment len c0 c1 c2 c3 c4 c5 = absurd (omega arith)
six (v0 ∷ v1 ∷ []) id name text amount moment len c0 c1 c2 c3 c4 c5 = absurd (omega arith)
six (v0 ∷ v1 ∷ v2 ∷ []) id name text amount moment len c0 c1 c2 c3 c4 c5 = absurd (omega arith)
six (v0 ∷ v1 ∷ v2 ∷ v3 ∷ []) id name text amount moment len c0 c1 c2 c3 c4 c5 = absurd (omega arith)
six (v0 ∷ v1 ∷ v2 ∷ v3 ∷ v4 ∷ []) id name text amount moment len c0 c1 c2 c3 c4 c5 = absurd (omega arith)
six (v0 ∷ v1 ∷ v2 ∷ v3 ∷ v4 ∷ v5 ∷ v6 ∷ r) id name text amount moment len c0 c1 c2 c3 c4 c5 = absurd (omega arith)
