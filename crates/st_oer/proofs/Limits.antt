-- `limit`, both ways.
use Rattle.std.proofs.Common.{◌≡◌, ℕ, ◌-◌, ◌^◌, ◌<◌, ◌≤◌, ◌≢◌, ◌&&◌, cond, ltb, eqb, List, ◌++◌, length, get_or, Result, Ok, Err, refl, sym, ap, ◌∙◌, subst, arith, inl, inr, append_assoc}
use Rattle.std.proofs.lemmas.Bool.{and_cases, and_left, cases_lt, lt-ltb, le-ltb, ltb-false, eqb-false, ne_eqb}
use Rattle.st_oer.specs.declared.error.OerError.{OerError}
use Rattle.st_oer.specs.declared.error.OerError.TheVariants.{LongNumber}
use Rattle.st_oer.specs.Spelling.{number, byte_count, digits, length_bytes, octets, var_uint}
use Rattle.st_oer.specs.Reading.{◌>>=◌, fixed_at, length_at, short_number, limit_at}
use Rattle.st_oer.specs.Limit.{IsLimit, is_small, is_large}
use Rattle.st_oer.proofs.Bytes.{IsBytes}
use Rattle.st_oer.proofs.Digits.{counted, length-digits}
use Rattle.st_oer.proofs.BothWays.{bind_ok, guard_ok, ok_is, fixed_takes, fixed_again, length_takes, length_again, short_takes, short_again}

pub record TakesLimit (bytes : List ℕ) (x : ℕ × List ℕ) : Type 0 where
  pub text : List ℕ
  pub is : IsLimit x.0 text
  pub parts : bytes ≡ text ++ x.1
  pub rest_fits : IsBytes x.1

abbrev capped : ℕ → ℕ → ℕ
capped k x = cond (ltb 8 k) (2 ^ 64 - 1) x

abbrev last : ℕ → List ℕ × List ℕ → Result (ℕ × List ℕ) OerError
last k text = short_number text.0 >>= λ x. Ok (capped k x, text.1)

abbrev after : ℕ × List ℕ → Result (ℕ × List ℕ) OerError
after m = cond (eqb m.0 0) (Err LongNumber) (fixed_at m.0 m.1 >>= last m.0)

capped_many : (k x : ℕ) → 8 < k → capped k x ≡ 2 ^ 64 - 1
capped_many k x many = rw (lt-ltb 8 k many) refl

capped_few : (k x : ℕ) → k ≤ 8 → capped k x ≡ x
capped_few k x few = rw (le-ltb 8 k few) refl

pub limit_takes : (bytes : List ℕ) (x : ℕ × List ℕ) → IsBytes bytes → limit_at bytes ≡ Ok x → TakesLimit bytes x
unfolding limit_at var_uint
limit_takes bytes x fits e =
    let l = bind_ok (length_at bytes) after x e in
    let k = l.0.0 in
    let a = length_takes bytes l.0.1 k fits l.1 in
    let g = guard_ok (eqb k 0) LongNumber (fixed_at k l.0.1 >>= last k) x l.2 in
    let some = eqb-false _ _ g.0 in
    let f = bind_ok (fixed_at k l.0.1) (last k) x g.1 in
    let t = fixed_takes k l.0.1 f.0 a.2 f.1 in
    let s = bind_ok (short_number f.0.0) (λ y. Ok (capped k y, f.0.1)) x f.2 in
    let whole : bytes ≡ (length_bytes k ++ f.0.0) ++ f.0.1 = a.0 ∙ ap (λ (y : List ℕ). length_bytes k ++ y) t.parts ∙ sym (append_assoc (length_bytes k) f.0.0 f.0.1) in
    subst (TakesLimit bytes) (ok_is (capped k s.0, f.0.1) x s.2)
    (elim (cases_lt 8 k) [
      | inl many ↦
          let h = guard_ok (eqb (get_or f.0.0 0 0) 0 && ltb 1 (length f.0.0)) LongNumber (Ok (number f.0.0)) s.0 s.1 in
          let first : get_or f.0.0 0 0 ≢ 0 = elim (and_cases (eqb (get_or f.0.0 0 0) 0) (ltb 1 (length f.0.0)) h.0) [
            | inl other ↦ eqb-false _ _ other
            | inr one ↦ let le : length f.0.0 ≤ 1 = ltb-false _ _ one in absurd (omega (arith, t.long))
          ] in
          let is : capped k s.0 ≡ 2 ^ 64 - 1 = capped_many k s.0 many in
          let front : bytes ≡ octets f.0.0 ++ f.0.1 = rw t.long whole in
          subst (λ (n : ℕ). TakesLimit bytes (n, f.0.1)) (sym is)
          (record { text = octets f.0.0; is = is_large f.0.0 (omega (arith, t.long)) (omega (arith, t.long, a.1)) first; parts = front; rest_fits = t.rest_fits })
      | inr few ↦
          let d = short_takes f.0.0 s.0 t.text_fits (omega (arith, t.long)) (omega (arith, t.long)) s.1 in
          let is : capped k s.0 ≡ s.0 = capped_few k s.0 few in
          let front : bytes ≡ var_uint s.0 ++ f.0.1 = rw (d.0, t.long) whole in
          subst (λ (n : ℕ). TakesLimit bytes (n, f.0.1)) (sym is)
          (record { text = var_uint s.0; is = is_small s.0 d.1; parts = front; rest_fits = t.rest_fits })
    ])

pub limit_again : (n : ℕ) (text rest : List ℕ) → IsLimit n text → limit_at (text ++ rest) ≡ Ok (n, rest)
unfolding limit_at var_uint
limit_again n text rest (is_small m lt) =
    let c = counted m lt in
    let k : length (digits m) ≡ byte_count m = length-digits m in
    let few : length (digits m) ≤ 8 = omega (arith, c.few) in
    rw (
      append_assoc (length_bytes (length (digits m))) (digits m) rest,
      length_again (length (digits m)) (digits m ++ rest) (omega arith),
      ne_eqb (length (digits m)) 0 (omega (arith, c.some)),
      fixed_again (length (digits m)) (digits m) rest refl,
      short_again m lt,
      le-ltb 8 (length (digits m)) few,
    ) refl
limit_again n text rest (is_large ds many lt first) =
    let test = and_left (eqb (get_or ds 0 0) 0) (ltb 1 (length ds)) (ne_eqb _ _ first) in
    rw (
      append_assoc (length_bytes (length ds)) ds rest,
      length_again (length ds) (ds ++ rest) lt,
      ne_eqb (length ds) 0 (omega arith),
      fixed_again (length ds) ds rest refl,
      test,
      lt-ltb 8 (length ds) many,
    ) refl
