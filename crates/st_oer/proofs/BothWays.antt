-- What is read is spelled so, and what is spelled so is read.
use Rattle.std.proofs.Common.{◌≡◌, ℕ, ◌+◌, ◌-◌, ◌^◌, ◌<◌, ◌≤◌, ◌≢◌, ◌⊎◌, ◌||◌, ◌&&◌, Bool, true, false, cond, ltb, eqb, List, [], ◌∷◌, ◌++◌, length, get_or, take, drop, Result, Ok, Err, refl, sym, ap, ◌∙◌, subst, arith, inl, inr, append_assoc}
use Rattle.std.proofs.lemmas.Bool.{or_parts, or_from, and_cases, and_left, and_right, cases_lt, lt-ltb, le-ltb, ltb-true, ltb-false, eqb-false, ne_eqb}
use Rattle.std.proofs.lemmas.List.{take_at, drop_at, take-append-drop, length-append, length-take, get_or-drop, get_or-take, get_or_past}
use Rattle.st_oer.specs.declared.error.OerError.{OerError}
use Rattle.st_oer.specs.declared.error.OerError.TheVariants.{Short, LongLength, LongNumber, TooBig}
use Rattle.st_oer.specs.Spelling.{number, byte_count, digits, length_bytes, octets, var_uint}
use Rattle.st_oer.specs.Reading.{◌>>=◌, fixed_at, length_at, long_length, octets_at, short_number, var_uint_at}
use Rattle.st_oer.specs.Laws.{VarUintReads, LengthReads, OctetsRead}
use Rattle.st_oer.proofs.Bytes.{IsBytes, IsBytes-rest}
use Rattle.st_oer.proofs.Digits.{counted, length-digits, number-digits, digits_first, digits-number, number_limit}

pub IsBytes-drop : (n : ℕ) (bytes : List ℕ) → IsBytes bytes → IsBytes (drop n bytes)
IsBytes-drop n bytes h i = rw get_or-drop (h (n + i))

pub IsBytes-take : (n : ℕ) (bytes : List ℕ) → IsBytes bytes → IsBytes (take n bytes)
IsBytes-take n bytes h i =
    elim (cases_lt i n) [
      | inl lt ↦ rw (get_or-take n bytes i 0 lt) (h i)
      | inr le ↦ rw (get_or_past (take n bytes) i 0 (omega (arith, length-take n bytes))) (omega arith)
    ]

pub bind_ok : {A B : Type 0} (r : Result A OerError) (f : A → Result B OerError) (y : B) → (r >>= f) ≡ Ok y → (x : A) × (r ≡ Ok x) × (f x ≡ Ok y)
bind_ok (Ok x) f y e = (x, refl, e)
bind_ok (Err d) f y e = absurd cc

-- a test that passed on
pub guard_ok : {A : Type 0} (b : Bool) (d : OerError) (x : Result A OerError) (y : A) → cond b (Err d) x ≡ Ok y → (b ≡ false) × (x ≡ Ok y)
guard_ok true d x y e = absurd cc
guard_ok false d x y e = (refl, e)

pub chosen : {A : Type 0} (b : Bool) (x y z : A) → cond b x y ≡ z → ((b ≡ true) × (x ≡ z)) ⊎ ((b ≡ false) × (y ≡ z))
chosen true x y z e = inl (refl, e)
chosen false x y z e = inr (refl, e)

pub ok_is : {A : Type 0} (x y : A) → (let l : Result A OerError = Ok x in let r : Result A OerError = Ok y in l ≡ r) → x ≡ y
ok_is x y e = cc

-- ---- n bytes

pub record TakesFixed (n : ℕ) (bytes text rest : List ℕ) : Type 0 where
  pub parts : bytes ≡ text ++ rest
  pub long : length text ≡ n
  pub text_fits : IsBytes text
  pub rest_fits : IsBytes rest

pub fixed_takes : (n : ℕ) (bytes : List ℕ) (x : List ℕ × List ℕ) → IsBytes bytes → fixed_at n bytes ≡ Ok x → TakesFixed n bytes x.0 x.1
fixed_takes n bytes x fits e =
    let g = guard_ok (ltb (length bytes) n) Short (Ok (take n bytes, drop n bytes)) x e in
    let is = ok_is (take n bytes, drop n bytes) x g.1 in
    let le : n ≤ length bytes = ltb-false _ _ g.0 in
    subst (λ (p : List ℕ × List ℕ). TakesFixed n bytes p.0 p.1) is
    (record { parts = sym (take-append-drop n bytes); long = omega (arith, length-take n bytes); text_fits = IsBytes-take n bytes fits; rest_fits = IsBytes-drop n bytes fits })

pub fixed_again : (n : ℕ) (text rest : List ℕ) → length text ≡ n → fixed_at n (text ++ rest) ≡ Ok (text, rest)
fixed_again n text rest e =
    let le : n ≤ length (text ++ rest) = omega (arith, length-append text rest) in
    rw (le-ltb (length (text ++ rest)) n le, take_at text rest n e, drop_at text rest n e) refl

-- ---- lengths

long_takes : (text : List ℕ) (n : ℕ) → IsBytes text → 0 < length text → length text ≤ 8 → long_length text ≡ Ok n → (digits n ≡ text) × (128 ≤ n) × (n < 2 ^ 64)
long_takes text n fits some few e =
    let g = guard_ok (eqb (get_or text 0 0) 0 || ltb (number text) 128) LongLength (Ok (number text)) n e in
    let tests = or_parts (eqb (get_or text 0 0) 0) (ltb (number text) 128) g.0 in
    let is = ok_is (number text) n g.1 in
    let le : 128 ≤ number text = ltb-false _ _ tests.1 in
    let P : ℕ → Type 0 = λ (m : ℕ). (digits m ≡ text) × (128 ≤ m) × (m < 2 ^ 64) in
    subst P is (digits-number text fits some few (inr (eqb-false _ _ tests.0)), le, number_limit text fits few)

single : (ds : List ℕ) → length ds ≡ 1 → number ds ≡ get_or ds 0 0
single [] e = absurd (omega arith)
single (d ∷ []) e = omega arith
single (d ∷ b ∷ ds) e = absurd (omega arith)

-- the digits of a number that is not 0 begin with another byte than 0
digits_not_zero : (n : ℕ) → n < 2 ^ 64 → 0 < n → get_or (digits n) 0 0 ≡ 0 → ⊥
digits_not_zero n lt some zero_first =
    let c = counted n lt in
    elim (cases_lt 1 (length (digits n))) [
      | inl many ↦ digits_first n lt many zero_first
      | inr one ↦ omega (arith, single (digits n) (omega (arith, length-digits n, c.some)), number-digits n lt)
    ]

long_again : (n : ℕ) → n < 2 ^ 64 → 128 ≤ n → long_length (digits n) ≡ Ok n
long_again n lt le =
    let first : (eqb (get_or (digits n) 0 0) 0 || ltb (number (digits n)) 128) ≡ false =
    or_from (eqb (get_or (digits n) 0 0) 0) (ltb (number (digits n)) 128)
    (ne_eqb _ _ (digits_not_zero n lt (omega arith)))
    (le-ltb _ _ (omega (arith, number-digits n lt))) in
    rw (first, number-digits n lt) refl

pub length_takes : (bytes rest : List ℕ) (n : ℕ) → IsBytes bytes → length_at bytes ≡ Ok (n, rest) → (bytes ≡ length_bytes n ++ rest) × (n < 2 ^ 64) × IsBytes rest
unfolding length_at length_bytes
length_takes [] rest n fits e = absurd cc
length_takes (b ∷ bytes) rest n fits e =
    let P : ℕ × List ℕ → Type 0 = λ (p : ℕ × List ℕ). (b ∷ bytes ≡ length_bytes p.0 ++ p.1) × (p.0 < 2 ^ 64) × IsBytes p.1 in
    let after : List ℕ × List ℕ → Result (ℕ × List ℕ) OerError = λ long. long_length long.0 >>= λ m. Ok (m, long.1) in
    let top : b < 256 = fits 0 in
    elim (chosen (ltb b 128) (Ok (b, bytes)) (cond (eqb b 128) (Err LongLength) (cond (ltb 136 b) (Err TooBig) (fixed_at (b - 128) bytes >>= after))) (Ok (n, rest)) e) [
      | inl low ↦
          let lt : b < 128 = ltb-true _ _ low.0 in
          subst P (ok_is (b, bytes) (n, rest) low.1) (rw low.0 refl, omega arith, IsBytes-rest b bytes fits)
      | inr high ↦
          let le : 128 ≤ b = ltb-false _ _ high.0 in
          let g1 = guard_ok (eqb b 128) LongLength (cond (ltb 136 b) (Err TooBig) (fixed_at (b - 128) bytes >>= after)) (n, rest) high.1 in
          let ne = eqb-false _ _ g1.0 in
          let g2 = guard_ok (ltb 136 b) TooBig (fixed_at (b - 128) bytes >>= after) (n, rest) g1.1 in
          let most : b ≤ 136 = ltb-false _ _ g2.0 in
          let f = bind_ok (fixed_at (b - 128) bytes) after (n, rest) g2.1 in
          let t = fixed_takes (b - 128) bytes f.0 (IsBytes-rest b bytes fits) f.1 in
          let l = bind_ok (long_length f.0.0) (λ m. Ok (m, f.0.1)) (n, rest) f.2 in
          let d = long_takes f.0.0 l.0 t.text_fits (omega (arith, t.long)) (omega (arith, t.long)) l.1 in
          let count : 128 + length f.0.0 ≡ b = omega (arith, t.long) in
          let front : b ∷ bytes ≡ length_bytes l.0 ++ f.0.1 = rw (le-ltb l.0 128 d.1, d.0, count) (ap (λ (x : List ℕ). b ∷ x) t.parts) in
          subst P (ok_is (l.0, f.0.1) (n, rest) l.2) (front, d.2, t.rest_fits)
    ]

pub length_again : (n : ℕ) (rest : List ℕ) → n < 2 ^ 64 → length_at (length_bytes n ++ rest) ≡ Ok (n, rest)
unfolding length_at length_bytes
length_again n rest lt =
    elim (cases_lt n 128) [
      | inl low ↦ rw (lt-ltb n 128 low) (rw (lt-ltb n 128 low) refl)
      | inr high ↦
          let c = counted n lt in
          let k : length (digits n) ≡ byte_count n = length-digits n in
          let few : length (digits n) ≤ 8 = omega (arith, c.few) in
          let some : 0 < length (digits n) = omega (arith, c.some) in
          let less : 128 + length (digits n) - 128 ≡ length (digits n) = omega arith in
          rw (
            le-ltb n 128 high,
            le-ltb (128 + length (digits n)) 128 (omega arith),
            ne_eqb (128 + length (digits n)) 128 (omega arith),
            le-ltb 136 (128 + length (digits n)) (omega arith),
            less,
            fixed_again (length (digits n)) (digits n) rest refl,
            long_again n lt high,
          ) refl
    ]

pub length_reads : LengthReads
length_reads = record {
  only = λ n rest lt. length_again n rest lt;
  found = λ bytes rest n fits e. let t = length_takes bytes rest n fits e in (t.0, t.1);
}

-- ---- octets

pub octets_takes : (bytes rest text : List ℕ) → IsBytes bytes → octets_at bytes ≡ Ok (text, rest) → (bytes ≡ octets text ++ rest) × (length text < 2 ^ 64) × IsBytes rest
unfolding octets_at
octets_takes bytes rest text fits e =
    let P : List ℕ × List ℕ → Type 0 = λ (p : List ℕ × List ℕ). (bytes ≡ octets p.0 ++ p.1) × (length p.0 < 2 ^ 64) × IsBytes p.1 in
    let l = bind_ok (length_at bytes) (λ n. fixed_at n.0 n.1) (text, rest) e in
    let a = length_takes bytes l.0.1 l.0.0 fits l.1 in
    let t = fixed_takes l.0.0 l.0.1 (text, rest) a.2 l.2 in
    let whole : bytes ≡ octets text ++ rest = rw t.long (a.0 ∙ ap (λ (x : List ℕ). length_bytes l.0.0 ++ x) t.parts ∙ sym (append_assoc (length_bytes l.0.0) text rest)) in
    (whole, omega (arith, t.long, a.1), t.rest_fits)

pub octets_again : (text rest : List ℕ) → length text < 2 ^ 64 → octets_at (octets text ++ rest) ≡ Ok (text, rest)
unfolding octets_at
octets_again text rest lt =
    let turned = append_assoc (length_bytes (length text)) text rest in
    rw (turned, length_again (length text) (text ++ rest) lt) (fixed_again (length text) text rest refl)

pub octets_reads : OctetsRead
octets_reads = record {
  only = λ text rest lt. octets_again text rest lt;
  found = λ bytes rest text fits e. let t = octets_takes bytes rest text fits e in (t.0, t.1);
}

-- ---- numbers

pub short_takes : (text : List ℕ) (n : ℕ) → IsBytes text → 0 < length text → length text ≤ 8 → short_number text ≡ Ok n → (digits n ≡ text) × (n < 2 ^ 64)
short_takes text n fits some few e =
    let g = guard_ok (eqb (get_or text 0 0) 0 && ltb 1 (length text)) LongNumber (Ok (number text)) n e in
    let is = ok_is (number text) n g.1 in
    let first : (length text ≡ 1) ⊎ (get_or text 0 0 ≢ 0) =
    elim (and_cases (eqb (get_or text 0 0) 0) (ltb 1 (length text)) g.0) [
      | inl other ↦ inr (eqb-false _ _ other)
      | inr one ↦ let le : length text ≤ 1 = ltb-false _ _ one in inl (omega arith)
    ] in
    let P : ℕ → Type 0 = λ (m : ℕ). (digits m ≡ text) × (m < 2 ^ 64) in
    subst P is (digits-number text fits some few first, number_limit text fits few)

pub short_again : (n : ℕ) → n < 2 ^ 64 → short_number (digits n) ≡ Ok n
short_again n lt =
    let test : (eqb (get_or (digits n) 0 0) 0 && ltb 1 (length (digits n))) ≡ false =
    elim (cases_lt 1 (length (digits n))) [
      | inl many ↦ and_left (eqb (get_or (digits n) 0 0) 0) (ltb 1 (length (digits n))) (ne_eqb _ _ (digits_first n lt many))
      | inr one ↦ and_right (eqb (get_or (digits n) 0 0) 0) (ltb 1 (length (digits n))) (le-ltb _ _ one)
    ] in
    rw (test, number-digits n lt) refl

pub var_uint_takes : (bytes rest : List ℕ) (n : ℕ) → IsBytes bytes → var_uint_at bytes ≡ Ok (n, rest) → (bytes ≡ var_uint n ++ rest) × (n < 2 ^ 64) × IsBytes rest
unfolding var_uint_at var_uint
var_uint_takes bytes rest n fits e =
    let P : ℕ × List ℕ → Type 0 = λ (p : ℕ × List ℕ). (bytes ≡ var_uint p.0 ++ p.1) × (p.0 < 2 ^ 64) × IsBytes p.1 in
    let last : List ℕ × List ℕ → Result (ℕ × List ℕ) OerError = λ text. short_number text.0 >>= λ x. Ok (x, text.1) in
    let after : ℕ × List ℕ → Result (ℕ × List ℕ) OerError = λ m. cond (eqb m.0 0) (Err LongNumber) (cond (ltb 8 m.0) (Err TooBig) (fixed_at m.0 m.1 >>= last)) in
    let l = bind_ok (length_at bytes) after (n, rest) e in
    let a = length_takes bytes l.0.1 l.0.0 fits l.1 in
    let g1 = guard_ok (eqb l.0.0 0) LongNumber (cond (ltb 8 l.0.0) (Err TooBig) (fixed_at l.0.0 l.0.1 >>= last)) (n, rest) l.2 in
    let some = eqb-false _ _ g1.0 in
    let g2 = guard_ok (ltb 8 l.0.0) TooBig (fixed_at l.0.0 l.0.1 >>= last) (n, rest) g1.1 in
    let few : l.0.0 ≤ 8 = ltb-false _ _ g2.0 in
    let f = bind_ok (fixed_at l.0.0 l.0.1) last (n, rest) g2.1 in
    let t = fixed_takes l.0.0 l.0.1 f.0 a.2 f.1 in
    let s = bind_ok (short_number f.0.0) (λ x. Ok (x, f.0.1)) (n, rest) f.2 in
    let d = short_takes f.0.0 s.0 t.text_fits (omega (arith, t.long)) (omega (arith, t.long)) s.1 in
    let whole : bytes ≡ length_bytes l.0.0 ++ f.0.0 ++ f.0.1 = a.0 ∙ ap (λ (x : List ℕ). length_bytes l.0.0 ++ x) t.parts ∙ sym (append_assoc (length_bytes l.0.0) f.0.0 f.0.1) in
    let front : bytes ≡ var_uint s.0 ++ f.0.1 = rw (d.0, t.long) whole in
    subst P (ok_is (s.0, f.0.1) (n, rest) s.2) (front, d.1, t.rest_fits)

pub var_uint_again : (n : ℕ) (rest : List ℕ) → n < 2 ^ 64 → var_uint_at (var_uint n ++ rest) ≡ Ok (n, rest)
unfolding var_uint_at var_uint
var_uint_again n rest lt =
    let c = counted n lt in
    let k : length (digits n) ≡ byte_count n = length-digits n in
    let few : length (digits n) ≤ 8 = omega (arith, c.few) in
    let some : 0 < length (digits n) = omega (arith, c.some) in
    rw (
      append_assoc (length_bytes (length (digits n))) (digits n) rest,
      length_again (length (digits n)) (digits n ++ rest) (omega arith),
      ne_eqb (length (digits n)) 0 (omega arith),
      le-ltb 8 (length (digits n)) few,
      fixed_again (length (digits n)) (digits n) rest refl,
      short_again n lt,
    ) refl

pub var_uint_reads : VarUintReads
var_uint_reads = record {
  only = λ n rest lt. var_uint_again n rest lt;
  found = λ bytes rest n fits e. let t = var_uint_takes bytes rest n fits e in (t.0, t.1);
}
