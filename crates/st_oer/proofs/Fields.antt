-- The laws of each kind of field.
use Rattle.std.proofs.Common.{◌≡◌, ℕ, ◌-◌, ◌^◌, ◌<◌, ltb, List, [], ◌∷◌, ◌++◌, length, take, drop, Result, Ok, refl, sym, ap, ◌∙◌, subst, arith, inl, inr, append-nil}
use Rattle.std.specs.Int.{w64, from_be_bytes}
use Rattle.std.proofs.Math.Nat.{pow-le-pow_right}
use Rattle.std.proofs.lemmas.Bool.{cases_lt, le-ltb, ltb-false}
use Rattle.std.proofs.lemmas.List.{take_at, drop_at, take-append-drop, length-append, length-take}
use Rattle.std.proofs.lemmas.Nat.{from_be_bytes-to_be_bytes_8, be_bytes_8}
use Rattle.st_oer.specs.declared.error.OerError.{OerError}
use Rattle.st_oer.specs.declared.error.OerError.TheVariants.{Short}
use Rattle.st_oer.specs.Spelling.{byte_count, uint64}
use Rattle.st_oer.specs.Limit.{IsLimit}
use Rattle.st_oer.specs.Reading.{byte_at, u64_at, limit_at}
use Rattle.st_oer.specs.Laws.{AreFewest, ByteReads, FixedReads, IsReading, IsSpelled, LimitReads, NoneBeginsAnother, U64Reads}
use Rattle.st_oer.proofs.Bytes.{IsBytes, number_below}
use Rattle.st_oer.proofs.Digits.{counted, length-digits, number-digits}
use Rattle.st_oer.proofs.BothWays.{IsBytes-take, guard_ok, ok_is, fixed_takes, fixed_again}
use Rattle.st_oer.proofs.Limits.{limit_takes, limit_again}

byte_found : (bytes rest : List ℕ) (b : ℕ) → IsBytes bytes → byte_at bytes ≡ Ok (b, rest) → (bytes ≡ b ∷ rest) × (b < 256)
byte_found [] rest b fits e = absurd cc
byte_found (a ∷ bytes) rest b fits e =
    let is = ok_is (a, bytes) (b, rest) e in
    subst (λ (p : ℕ × List ℕ). (a ∷ bytes ≡ p.0 ∷ p.1) × (p.0 < 256)) is (refl, fits 0)

pub byte_reads : ByteReads
byte_reads = record { only = λ x rest lt. refl; found = byte_found }

eight_again : (text rest : List ℕ) → length text ≡ 8 → u64_at (text ++ rest) ≡ Ok (from_be_bytes w64 text, rest)
unfolding u64_at
eight_again text rest e =
    rw (le-ltb (length (text ++ rest)) 8 (omega (arith, length-append text rest)), take_at text rest 8 e, drop_at text rest 8 e) refl

u64_again : (n : ℕ) (rest : List ℕ) → n < 2 ^ 64 → u64_at (uint64 n ++ rest) ≡ Ok (n, rest)
u64_again n rest lt = eight_again (uint64 n) rest refl ∙ ap (λ (x : ℕ). Ok (x, rest)) (from_be_bytes-to_be_bytes_8 n lt)

-- eight bytes are those of their number
eight_bytes : (text : List ℕ) → IsBytes text → length text ≡ 8 → uint64 (from_be_bytes w64 text) ≡ text
eight_bytes text fits e = be_bytes_8 text (from_be_bytes w64 text) e fits refl

eight_below : (text : List ℕ) → IsBytes text → from_be_bytes w64 text < 2 ^ 64
eight_below text fits = omega (arith, fits 0, fits 1, fits 2, fits 3, fits 4, fits 5, fits 6, fits 7)

u64_found : (bytes rest : List ℕ) (n : ℕ) → IsBytes bytes → u64_at bytes ≡ Ok (n, rest) → (bytes ≡ uint64 n ++ rest) × (n < 2 ^ 64)
unfolding u64_at
u64_found bytes rest n fits e =
    let text = take 8 bytes in
    let g = guard_ok (ltb (length bytes) 8) Short (Ok (from_be_bytes w64 text, drop 8 bytes)) (n, rest) e in
    let long : length text ≡ 8 = omega (arith, length-take 8 bytes, ltb-false _ _ g.0) in
    let fit = IsBytes-take 8 bytes fits in
    let whole : bytes ≡ uint64 (from_be_bytes w64 text) ++ drop 8 bytes = sym (take-append-drop 8 bytes) ∙ ap (λ (t : List ℕ). t ++ drop 8 bytes) (sym (eight_bytes text fit long)) in
    subst (λ (p : ℕ × List ℕ). (bytes ≡ uint64 p.0 ++ p.1) × (p.0 < 2 ^ 64)) (ok_is (from_be_bytes w64 text, drop 8 bytes) (n, rest) g.1) (whole, eight_below text fit)

pub u64_reads : U64Reads
u64_reads = record { only = u64_again; found = u64_found }

pub fixed_reads : FixedReads
fixed_reads n = record {
  only = λ text rest long. fixed_again n text rest long;
  found = λ bytes rest text fits e. let t = fixed_takes n bytes (text, rest) fits e in (t.parts, t.long);
}

pub limit_reads : LimitReads
limit_reads = record {
  only = limit_again;
  found = λ bytes rest n fits e. let t = limit_takes bytes (n, rest) fits e in (t.text, t.is, t.parts);
}

-- what is read before anything is read before more of it
same_read : {X : Type 0} (x y : X) (more : List ℕ) (r : Result (X × List ℕ) OerError) → r ≡ Ok (x, more) → r ≡ Ok (y, []) → (x ≡ y) × (more ≡ [])
same_read {X} x y more r a b =
    let is : (let p : X × List ℕ = (x, more) in let q : X × List ℕ = (y, []) in p ≡ q) = ok_is (x, more) (y, []) (sym a ∙ b) in
    (ap (λ (p : X × List ℕ). p.0) is, ap (λ (p : X × List ℕ). p.1) is)

pub none_begins : {X : Type 0} {read : List ℕ → Result (X × List ℕ) OerError} {spelling : X → List ℕ} {Fits : X → Type 0} → IsReading X read spelling Fits → NoneBeginsAnother (IsSpelled spelling Fits)
none_begins {X} {read} {spelling} {Fits} law x y text more a b =
    let whole : spelling y ++ [] ≡ spelling x ++ more = append-nil (spelling y) ∙ sym b.1 ∙ ap (λ (t : List ℕ). t ++ more) a.1 in
    same_read x y more (read (spelling y ++ [])) (ap read whole ∙ law.only x more a.0) (law.only y [] b.0)

pub no_limit_begins : NoneBeginsAnother IsLimit
no_limit_begins x y text more a b =
    same_read x y more (limit_at (text ++ more)) (limit_again x text more a) (ap limit_at (sym (append-nil (text ++ more))) ∙ limit_again y (text ++ more) [] b)

pub are_fewest : (n : ℕ) → n < 2 ^ 64 → AreFewest n
are_fewest n lt =
    let c = counted n lt in
    let k = length-digits n in
    record {
      same = number-digits n lt;
      some = omega (arith, k, c.some);
      fewest = λ bytes fits some e.
          elim c.above [
            | inl one ↦ omega (arith, k)
            | inr le ↦
                elim (cases_lt (length bytes) (byte_count n)) [
                  | inl less ↦
                      let below = number_below bytes fits in
                      let p = pow-le-pow_right {n = 256} (omega arith) {i = length bytes} {j = byte_count n - 1} (omega arith) in
                      absurd (omega (arith, below, p, le, e))
                  | inr enough ↦ omega (arith, k)
                ]
          ];
    }
