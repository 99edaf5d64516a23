-- The texts of expiries, both ways.
use Rattle.std.proofs.Common.{◌≡◌, ◌≢◌, ℕ, zero, suc, ◌+◌, ◌-◌, ◌*◌, ◌/◌, ◌%◌, ◌<◌, ◌≤◌, Bool, true, false, cond, eqb, refl, sym, ap, ◌∙◌, arith, List, [], ◌∷◌, length, get_or, drop, ℤ, pos, Result, Ok, Err}
use Rattle.std.specs.Prelude.{◌&&◌, nat_le, nat_lt}
use Rattle.std.specs.List.{list_all}
use Rattle.std.specs.Char.{is_ascii_digit}
use Rattle.std.proofs.lemmas.Bool.{eqb-true}
use Rattle.std.proofs.lemmas.Bool.Decides.{nat_tests}
use Rattle.std.proofs.lemmas.List.{drop_all, drop_more}
use Rattle.std.proofs.lemmas.List.Folds.{list_all_at}
use Rattle.jiff_core.specs.Calendar.{days_in_month}
use Rattle.st_ilp.specs.declared.error.IlpError.{IlpError}
use Rattle.st_ilp.specs.declared.error.IlpError.TheVariants.{Expiry}
use Rattle.st_ilp.specs.Calendar.{DateAndTime, Exists, is_date, is_time, exists, milliseconds, date_and_time}
use Rattle.st_ilp.specs.Expiry.{digit, digits_of, IsExpiry, is_expiry, expiry_text, written_expiry, numbers_in, is_expiry_text, expiry_at}
use Rattle.st_ilp.specs.Laws.{ExpiryReads}
use Rattle.st_ilp.proofs.DateLemmas.{most_days}
use Rattle.st_ilp.proofs.DateFinding.{date_and_time-milliseconds, milliseconds-is_expiry, date_and_time_found, two_parts, both}

-- ---- dates and times that exist, as a test

lt_is : (a b : ℕ) → nat_lt a b ≡ true → a < b
lt_is a b e = grind (arith, nat_tests)

le_is : (a b : ℕ) → nat_le a b ≡ true → a ≤ b
le_is a b e = grind (arith, nat_tests)

is_lt : (a b : ℕ) → a < b → nat_lt a b ≡ true
is_lt a b h = grind (arith, nat_tests)

is_le : (a b : ℕ) → a ≤ b → nat_le a b ≡ true
is_le a b h = grind (arith, nat_tests)

pub exists_is : (t : DateAndTime) → Exists t → exists t ≡ true
exists_is t h =
    rw (
      is_lt t.year 10000 h.year,
      is_le 1 t.month h.month.0,
      is_le t.month 12 h.month.1,
      is_le 1 t.day h.day.0,
      is_le t.day (days_in_month (pos t.year) t.month) h.day.1,
      is_lt t.hour 24 h.hour,
      is_lt t.minute 60 h.minute,
      is_lt t.second 60 h.second,
      is_lt t.milli 1000 h.milli,
    ) refl

pub is_exists : (t : DateAndTime) → exists t ≡ true → Exists t
is_exists t e =
    let p = two_parts (is_date t) (is_time t) e in
    let a = two_parts (nat_lt t.year 10000) (nat_le 1 t.month && (nat_le t.month 12 && (nat_le 1 t.day && nat_le t.day (days_in_month (pos t.year) t.month)))) p.0 in
    let b = two_parts (nat_le 1 t.month) (nat_le t.month 12 && (nat_le 1 t.day && nat_le t.day (days_in_month (pos t.year) t.month))) a.1 in
    let c = two_parts (nat_le t.month 12) (nat_le 1 t.day && nat_le t.day (days_in_month (pos t.year) t.month)) b.1 in
    let d = two_parts (nat_le 1 t.day) (nat_le t.day (days_in_month (pos t.year) t.month)) c.1 in
    let f = two_parts (nat_lt t.hour 24) (nat_lt t.minute 60 && (nat_lt t.second 60 && nat_lt t.milli 1000)) p.1 in
    let g = two_parts (nat_lt t.minute 60) (nat_lt t.second 60 && nat_lt t.milli 1000) f.1 in
    let h = two_parts (nat_lt t.second 60) (nat_lt t.milli 1000) g.1 in
    record {
      year = lt_is t.year 10000 a.0;
      month = (le_is 1 t.month b.0, le_is t.month 12 c.0);
      day = (le_is 1 t.day d.0, le_is t.day (days_in_month (pos t.year) t.month) d.1);
      hour = lt_is t.hour 24 f.0;
      minute = lt_is t.minute 60 g.0;
      second = lt_is t.second 60 h.0;
      milli = lt_is t.milli 1000 h.1;
    }

-- ---- digits and numbers

-- the digits of a date and time give it back
pub numbers_in_digits : (t : DateAndTime) → Exists t → numbers_in (digits_of t) ≡ t
numbers_in_digits t h =
    let year : (digit (t.year / 1000) - 48) * 10 + (digit (t.year / 100) - 48) * 1 ≡ t.year / 100 = omega (arith, h.year) in
    let low : (digit (t.year / 10) - 48) * 10 + (digit t.year - 48) ≡ t.year % 100 = omega (arith, h.year) in
    let y : ((digit (t.year / 1000) - 48) * 10 + (digit (t.year / 100) - 48)) * 100 + ((digit (t.year / 10) - 48) * 10 + (digit t.year - 48)) ≡ t.year = omega (arith, year, low) in
    let month : (digit (t.month / 10) - 48) * 10 + (digit t.month - 48) ≡ t.month = omega (arith, h.month) in
    let day : (digit (t.day / 10) - 48) * 10 + (digit t.day - 48) ≡ t.day = omega (arith, h.day, most_days (pos t.year) t.month) in
    let hour : (digit (t.hour / 10) - 48) * 10 + (digit t.hour - 48) ≡ t.hour = omega (arith, h.hour) in
    let minute : (digit (t.minute / 10) - 48) * 10 + (digit t.minute - 48) ≡ t.minute = omega (arith, h.minute) in
    let second : (digit (t.second / 10) - 48) * 10 + (digit t.second - 48) ≡ t.second = omega (arith, h.second) in
    let milli : ((digit (t.milli / 100) - 48) * 10 + (digit (t.milli / 10) - 48)) * 10 + (digit t.milli - 48) ≡ t.milli = omega (arith, h.milli) in
    rw (y, month, day, hour, minute, second, milli) refl

digit_is : (n : ℕ) → is_ascii_digit (digit n) ≡ true
digit_is n = grind (arith, nat_tests)

pub digits_all : (t : DateAndTime) → list_all is_ascii_digit (digits_of t) ≡ true
digits_all t =
    rw (
      digit_is (t.year / 1000),
      digit_is (t.year / 100),
      digit_is (t.year / 10),
      digit_is t.year,
      digit_is (t.month / 10),
      digit_is t.month,
      digit_is (t.day / 10),
      digit_is t.day,
      digit_is (t.hour / 10),
      digit_is t.hour,
      digit_is (t.minute / 10),
      digit_is t.minute,
      digit_is (t.second / 10),
      digit_is t.second,
      digit_is (t.milli / 100),
      digit_is (t.milli / 10),
      digit_is t.milli,
    ) refl

pub text_is : (t : DateAndTime) → Exists t → is_expiry_text (digits_of t) ≡ true
text_is t h =
    both (eqb (length (digits_of t)) 17) (list_all is_ascii_digit (digits_of t) && exists (numbers_in (digits_of t))) refl
    (both (list_all is_ascii_digit (digits_of t)) (exists (numbers_in (digits_of t))) (digits_all t) (ap exists (numbers_in_digits t h) ∙ exists_is t h))

-- n items from a place on
abbrev items : List ℕ → (i n : ℕ) → List ℕ
items text i zero = []
items text i (suc n) = get_or text i 0 ∷ items text (suc i) n

items_are : (text : List ℕ) (i n : ℕ) → length text ≡ i + n → items text i n ≡ drop i text
items_are text i zero e = sym (drop_all i text (omega arith))
items_are text i (suc n) e =
    let next : suc i ≡ i + 1 = omega arith in
    let more : drop (suc i) text ≡ drop (i + 1) text = ap (λ (k : ℕ). drop k text) next in
    ap (λ (xs : List ℕ). get_or text i 0 ∷ xs) (items_are text (suc i) n (omega (arith, e)) ∙ more) ∙ sym (drop_more text i 0 (omega (arith, e)))

is_digit : (c : ℕ) → is_ascii_digit c ≡ true → (48 ≤ c) × (c ≤ 57)
is_digit c e = grind (arith, nat_tests)

digit_in : (text : List ℕ) (i : ℕ) → list_all is_ascii_digit text ≡ true → i < length text → (48 ≤ get_or text i 0) × (get_or text i 0 ≤ 57)
digit_in text i all lt =
    let by : (b : Bool) → is_ascii_digit (get_or text i 0) ≡ b → (48 ≤ get_or text i 0) × (get_or text i 0 ≤ 57) = λ b. elim b as (λ b. is_ascii_digit (get_or text i 0) ≡ b → (48 ≤ get_or text i 0) × (get_or text i 0 ≤ 57)) [
      | true ↦ λ e. is_digit (get_or text i 0) e
      | false ↦ λ e. let bad = sym all ∙ list_all_at is_ascii_digit text i 0 lt e in absurd cc
    ] in
    by (is_ascii_digit (get_or text i 0)) refl

four_back : (a b c d : ℕ) → (48 ≤ a) × (a ≤ 57) → (48 ≤ b) × (b ≤ 57) → (48 ≤ c) × (c ≤ 57) → (48 ≤ d) × (d ≤ 57)
    → (let n : ℕ = ((a - 48) * 10 + (b - 48)) * 100 + ((c - 48) * 10 + (d - 48)) in (digit (n / 1000) ≡ a) × (digit (n / 100) ≡ b) × (digit (n / 10) ≡ c) × (digit n ≡ d))
four_back a b c d ha hb hc hd = (omega (arith, ha, hb, hc, hd), omega (arith, ha, hb, hc, hd), omega (arith, ha, hb, hc, hd), omega (arith, ha, hb, hc, hd))

two_back : (a b : ℕ) → (48 ≤ a) × (a ≤ 57) → (48 ≤ b) × (b ≤ 57) → (let n : ℕ = (a - 48) * 10 + (b - 48) in (digit (n / 10) ≡ a) × (digit n ≡ b))
two_back a b ha hb = (omega (arith, ha, hb), omega (arith, ha, hb))

three_back : (a b c : ℕ) → (48 ≤ a) × (a ≤ 57) → (48 ≤ b) × (b ≤ 57) → (48 ≤ c) × (c ≤ 57)
    → (let n : ℕ = ((a - 48) * 10 + (b - 48)) * 10 + (c - 48) in (digit (n / 100) ≡ a) × (digit (n / 10) ≡ b) × (digit n ≡ c))
three_back a b c ha hb hc = (omega (arith, ha, hb, hc), omega (arith, ha, hb, hc), omega (arith, ha, hb, hc))

-- 17 digits are the digits of the numbers that they give
pub digits_in_numbers : (text : List ℕ) → length text ≡ 17 → list_all is_ascii_digit text ≡ true → text ≡ digits_of (numbers_in text)
digits_in_numbers text long all =
    let at : (i : ℕ) → i < 17 → (48 ≤ get_or text i 0) × (get_or text i 0 ≤ 57) = λ i lt. digit_in text i all (omega (arith, long)) in
    let g : ℕ → ℕ = λ i. get_or text i 0 in
    let year = four_back (g 0) (g 1) (g 2) (g 3) (at 0 (omega arith)) (at 1 (omega arith)) (at 2 (omega arith)) (at 3 (omega arith)) in
    let month = two_back (g 4) (g 5) (at 4 (omega arith)) (at 5 (omega arith)) in
    let day = two_back (g 6) (g 7) (at 6 (omega arith)) (at 7 (omega arith)) in
    let hour = two_back (g 8) (g 9) (at 8 (omega arith)) (at 9 (omega arith)) in
    let minute = two_back (g 10) (g 11) (at 10 (omega arith)) (at 11 (omega arith)) in
    let second = two_back (g 12) (g 13) (at 12 (omega arith)) (at 13 (omega arith)) in
    let milli = three_back (g 14) (g 15) (g 16) (at 14 (omega arith)) (at 15 (omega arith)) (at 16 (omega arith)) in
    let same : items text 0 17 ≡ text = items_are text 0 17 (omega (arith, long)) in
    sym same ∙ sym (rw (
      year.0,
      year.1,
      year.2,
      year.3,
      month.0,
      month.1,
      day.0,
      day.1,
      hour.0,
      hour.1,
      minute.0,
      minute.1,
      second.0,
      second.1,
      milli.0,
      milli.1,
      milli.2,
    ) refl)

-- ---- the two directions

digits_again : (t : DateAndTime) → Exists t → expiry_at (digits_of t) ≡ Ok (milliseconds t)
unfolding expiry_at
digits_again t h = rw (text_is t h) (ap (λ (u : DateAndTime). let r : Result ℤ IlpError = Ok (milliseconds u) in r) (numbers_in_digits t h))

pub expiry_only : (text : List ℕ) (millis : ℤ) → IsExpiry text millis → expiry_at text ≡ Ok millis
expiry_only text millis e =
    ap expiry_at e.2 ∙ digits_again e.0 e.1 ∙ ap (λ (m : ℤ). let r : Result ℤ IlpError = Ok m in r) (sym e.3)

test_ok : {A : Type 0} (b : Bool) (x y : A) (e : IlpError) → cond b (let r : Result A IlpError = Ok x in r) (Err e) ≡ Ok y → (b ≡ true) × (x ≡ y)
test_ok true x y e h = (refl, cc)
test_ok false x y e h = absurd cc

pub expiry_found : (text : List ℕ) (millis : ℤ) → expiry_at text ≡ Ok millis → IsExpiry text millis
unfolding expiry_at
expiry_found text millis e =
    let t = test_ok (is_expiry_text text) (milliseconds (numbers_in text)) millis Expiry e in
    let p = two_parts (eqb (length text) 17) (list_all is_ascii_digit text && exists (numbers_in text)) t.0 in
    let q = two_parts (list_all is_ascii_digit text) (exists (numbers_in text)) p.1 in
    (numbers_in text, is_exists (numbers_in text) q.1, digits_in_numbers text (eqb-true _ _ p.0) q.0, sym t.1)

-- what is not the text of any value is refused
pub expiry_refused : (text : List ℕ) → ((millis : ℤ) → ¬ (IsExpiry text millis)) → expiry_at text ≡ Err Expiry
unfolding expiry_at
expiry_refused text none =
    let by : (b : Bool) → is_expiry_text text ≡ b → cond b (let r : Result ℤ IlpError = Ok (milliseconds (numbers_in text)) in r) (Err Expiry) ≡ Err Expiry = λ b. elim b as (λ b. is_expiry_text text ≡ b → cond b (let r : Result ℤ IlpError = Ok (milliseconds (numbers_in text)) in r) (Err Expiry) ≡ Err Expiry) [
      | true ↦ λ e. absurd (none (milliseconds (numbers_in text)) (expiry_found text (milliseconds (numbers_in text)) (rw e refl)))
      | false ↦ λ e. refl
    ] in
    by (is_expiry_text text) refl

pub one_text : (text : List ℕ) (millis : ℤ) → IsExpiry text millis → (is_expiry millis ≡ true) × (text ≡ expiry_text millis)
unfolding expiry_text
one_text text millis e =
    (ap is_expiry e.3 ∙ milliseconds-is_expiry e.0 e.1, e.2 ∙ sym (ap digits_of (ap date_and_time e.3 ∙ date_and_time-milliseconds e.0 e.1)))

pub has_text : (millis : ℤ) → is_expiry millis ≡ true → IsExpiry (expiry_text millis) millis
unfolding expiry_text
has_text millis h =
    let f = date_and_time_found millis h in
    (date_and_time millis, f.0, refl, sym f.1)

pub expiry_reads : ExpiryReads
expiry_reads = record { found = expiry_found; only = expiry_only; one_text = one_text; has_text = has_text }

-- a value of no date and time has no text
pub none_written : (millis : ℤ) → ((t : DateAndTime) → Exists t → millis ≢ milliseconds t) → written_expiry millis ≡ Err Expiry
none_written millis none =
    let by : (b : Bool) → is_expiry millis ≡ b → cond b (let r : Result (List ℕ) IlpError = Ok (expiry_text millis) in r) (Err Expiry) ≡ Err Expiry = λ b. elim b as (λ b. is_expiry millis ≡ b → cond b (let r : Result (List ℕ) IlpError = Ok (expiry_text millis) in r) (Err Expiry) ≡ Err Expiry) [
      | true ↦ λ e. let f = date_and_time_found millis e in absurd (none (date_and_time millis) f.0 (sym f.1))
      | false ↦ λ e. refl
    ] in
    by (is_expiry millis) refl
