-- Each field is read exactly if it is spelled.
use Rattle.std.proofs.Common.{◌≡◌, ℕ, ℤ, ◌<◌, ◌^◌, Bool, true, false, eqb, List, [], ◌∷◌, ◌++◌, length, Result, Ok, Err, refl, sym, ap, ◌∙◌, subst, arith, append-nil}
use Rattle.std.proofs.lemmas.Bool.{eqb-true}
use Rattle.std.proofs.lemmas.List.{drop_at}
use Rattle.std.specs.Int.{w64, to_be_bytes}
use Rattle.st_oer.specs.declared.error.OerError.{OerError}
use Rattle.st_oer.specs.Spelling.{octets}
use Rattle.st_oer.specs.Reading.{fixed_at, octets_at}
use Rattle.st_oer.specs.Laws.{IsBytes, IsReading}
use Rattle.st_oer.proofs.BothWays.{IsBytes-drop, octets_reads}
use Rattle.st_oer.proofs.Fields.{u64_reads, fixed_reads}
use Rattle.st_ilp.specs.declared.error.IlpError.{IlpError}
use Rattle.st_ilp.specs.declared.error.IlpError.TheVariants.{Code, Trailing}
use Rattle.st_ilp.specs.Expiry.{is_expiry, expiry_text, expiry_at}
use Rattle.st_ilp.specs.Rules.{is_code}
use Rattle.st_ilp.specs.Reading.{◌>>=◌, spelled, provided, whole, amount_at, expires_at, hash_at, code_at, octets_with}
use Rattle.st_ilp.proofs.ExpiryTexts.{expiry_only, expiry_found, one_text, has_text}
use Rattle.st_ilp.proofs.Sizes.{length-expiry_text}

pub IsBytes-right : (a b : List ℕ) → IsBytes (a ++ b) → IsBytes b
IsBytes-right a b h = subst IsBytes (drop_at a b (length a) refl) (IsBytes-drop (length a) (a ++ b) h)

pub bind_ok : {A B : Type 0} (r : Result A IlpError) (f : A → Result B IlpError) (y : B) → (r >>= f) ≡ Ok y → (x : A) × (r ≡ Ok x) × (f x ≡ Ok y)
bind_ok (Ok x) f y e = (x, refl, e)
bind_ok (Err d) f y e = absurd cc

pub ok_is : {A : Type 0} (x y : A) → (let l : Result A IlpError = Ok x in let r : Result A IlpError = Ok y in l ≡ r) → x ≡ y
ok_is x y e = cc

spelled_ok : {A : Type 0} (r : Result A OerError) (x : A) → spelled r ≡ Ok x → r ≡ Ok x
spelled_ok {A} (Ok y) x e = ap (λ (z : A). let q : Result A OerError = Ok z in q) (ok_is y x e)
spelled_ok {A} (Err d) x e = absurd cc

pub provided_ok : {A : Type 0} (b : Bool) (e : IlpError) (x y : A) → provided b e x ≡ Ok y → (b ≡ true) × (x ≡ y)
provided_ok true e x y h = (refl, ok_is x y h)
provided_ok false e x y h = absurd cc

-- what is spelled is read, whatever follows, and what is read is spelled so
pub record Took (X : Type 0) (spelling : X → List ℕ) (Fits : X → Type 0) (bytes : List ℕ) (p : X × List ℕ) : Type 0 where
  pub parts : bytes ≡ spelling p.0 ++ p.1
  pub fits : Fits p.0

pub record IsField (X : Type 0) (read : List ℕ → Result (X × List ℕ) IlpError) (spelling : X → List ℕ) (Fits : X → Type 0) : Type 0 where
  pub only : (x : X) (rest : List ℕ) → Fits x → read (spelling x ++ rest) ≡ Ok (x, rest)
  pub found : (bytes : List ℕ) (p : X × List ℕ) → IsBytes bytes → read bytes ≡ Ok p → Took X spelling Fits bytes p

-- a kind of field of the encoding rules, whose faults are named otherwise
lifted : {X : Type 0} {read : List ℕ → Result (X × List ℕ) OerError} {spelling : X → List ℕ} {Fits : X → Type 0} → IsReading X read spelling Fits → IsField X (λ bytes. spelled (read bytes)) spelling Fits
lifted {X} {read} {spelling} {Fits} law = record {
  only = λ x rest fits. ap (λ (r : Result (X × List ℕ) OerError). spelled r) (law.only x rest fits);
  found = λ bytes p h e. let f = law.found bytes p.1 p.0 h (spelled_ok (read bytes) p e) in record { parts = f.0; fits = f.1 };
}

-- such a field with a rule
ruled : {X : Type 0} {read : List ℕ → Result (X × List ℕ) OerError} {spelling : X → List ℕ} {Fits : X → Type 0} (rule : X → Bool) (e : IlpError) → IsReading X read spelling Fits
    → IsField X (λ bytes. spelled (read bytes) >>= λ x. provided (rule x.0) e x) spelling (λ x. Fits x × (rule x ≡ true))
ruled {X} {read} {spelling} {Fits} rule e law = record {
  only = λ x rest fits. ap (λ (r : Result (X × List ℕ) OerError). spelled r >>= λ y. provided (rule y.0) e y) (law.only x rest fits.0) ∙ ap (λ (b : Bool). provided b e (x, rest)) fits.1;
  found = λ bytes p h g.
      let after : X × List ℕ → Result (X × List ℕ) IlpError = λ x. provided (rule x.0) e x in
      let b = bind_ok (spelled (read bytes)) after p g in
      let f = law.found bytes b.0.1 b.0.0 h (spelled_ok (read bytes) b.0 b.1) in
      let q = provided_ok (rule b.0.0) e b.0 p b.2 in
      subst (λ (z : X × List ℕ). Took X spelling (λ x. Fits x × (rule x ≡ true)) bytes z) q.1 (record { parts = f.0; fits = (f.1, q.0) });
}

pub octets_lifted : IsField (List ℕ) (λ bytes. spelled (octets_at bytes)) octets (λ text. length text < 2 ^ 64)
octets_lifted = lifted octets_reads

pub amount_field : IsField ℕ amount_at (λ n. to_be_bytes w64 n) (λ n. n < 2 ^ 64)
amount_field = lifted u64_reads

pub hash_field : IsField (List ℕ) hash_at (λ text. text) (λ text. length text ≡ 32)
unfolding hash_at
hash_field = lifted (fixed_reads 32)

pub code_field : IsField (List ℕ) code_at (λ text. text) (λ text. (length text ≡ 3) × (is_code text ≡ true))
unfolding code_at
code_field = ruled is_code Code (fixed_reads 3)

pub octets_field : (rule : List ℕ → Bool) (e : IlpError) → IsField (List ℕ) (octets_with rule e) octets (λ text. (length text < 2 ^ 64) × (rule text ≡ true))
unfolding octets_with
octets_field rule e = ruled rule e octets_reads

abbrev after_text : List ℕ × List ℕ → Result (ℤ × List ℕ) IlpError
after_text text = expiry_at text.0 >>= λ millis. Ok (millis, text.1)

expires_again : (millis : ℤ) (rest : List ℕ) → is_expiry millis ≡ true → expires_at (expiry_text millis ++ rest) ≡ Ok (millis, rest)
unfolding expires_at
expires_again millis rest h =
    ap (λ (r : Result (List ℕ × List ℕ) OerError). spelled r >>= after_text) ((fixed_reads 17).only (expiry_text millis) rest (length-expiry_text millis))
    ∙ ap (λ (r : Result ℤ IlpError). r >>= λ m. Ok (m, rest)) (expiry_only (expiry_text millis) millis (has_text millis h))

abbrev TookExpiry : List ℕ → ℤ × List ℕ → Type 0
TookExpiry = Took ℤ expiry_text (λ millis. is_expiry millis ≡ true)

expires_found : (bytes : List ℕ) (p : ℤ × List ℕ) → IsBytes bytes → expires_at bytes ≡ Ok p → TookExpiry bytes p
unfolding expires_at
expires_found bytes p h e =
    let b = bind_ok (spelled (fixed_at 17 bytes)) after_text p e in
    let f = (fixed_reads 17).found bytes b.0.1 b.0.0 h (spelled_ok (fixed_at 17 bytes) b.0 b.1) in
    let m = bind_ok (expiry_at b.0.0) (λ millis. Ok (millis, b.0.1)) p b.2 in
    let one = one_text b.0.0 m.0 (expiry_found b.0.0 m.0 m.1) in
    subst (λ (z : ℤ × List ℕ). TookExpiry bytes z) (ok_is (m.0, b.0.1) p m.2) (record { parts = f.0 ∙ ap (λ (t : List ℕ). t ++ b.0.1) one.1; fits = one.0 })

pub expires_field : IsField ℤ expires_at expiry_text (λ millis. is_expiry millis ≡ true)
expires_field = record { only = expires_again; found = expires_found }

-- ---- one field after another

pub record Step {X Y : Type 0} (spelling : X → List ℕ) (Fits : X → Type 0) (next : X × List ℕ → Result Y IlpError) (bytes : List ℕ) (y : Y) : Type 0 where
  pub x : X
  pub rest : List ℕ
  pub parts : bytes ≡ spelling x ++ rest
  pub fits : Fits x
  pub rest_fits : IsBytes rest
  pub went_on : next (x, rest) ≡ Ok y

pub field_step : {X Y : Type 0} {read : List ℕ → Result (X × List ℕ) IlpError} {spelling : X → List ℕ} {Fits : X → Type 0} → IsField X read spelling Fits
    → (next : X × List ℕ → Result Y IlpError) (bytes : List ℕ) (y : Y) → IsBytes bytes → (read bytes >>= next) ≡ Ok y → Step spelling Fits next bytes y
field_step {X} {Y} {read} {spelling} {Fits} law next bytes y h e =
    let b = bind_ok (read bytes) next y e in
    let t = law.found bytes b.0 h b.1 in
    record { x = b.0.0; rest = b.0.1; parts = t.parts; fits = t.fits; rest_fits = IsBytes-right (spelling b.0.0) b.0.1 (subst IsBytes t.parts h); went_on = b.2 }

pub field_again : {X Y : Type 0} {read : List ℕ → Result (X × List ℕ) IlpError} {spelling : X → List ℕ} {Fits : X → Type 0} → IsField X read spelling Fits
    → (next : X × List ℕ → Result Y IlpError) (x : X) (rest : List ℕ) → Fits x → (read (spelling x ++ rest) >>= next) ≡ next (x, rest)
field_again {X} {Y} {read} {spelling} {Fits} law next x rest fits = ap (λ (r : Result (X × List ℕ) IlpError). r >>= next) (law.only x rest fits)

-- the last field has nothing after it
pub last_again : {X Y : Type 0} {read : List ℕ → Result (X × List ℕ) IlpError} {spelling : X → List ℕ} {Fits : X → Type 0} → IsField X read spelling Fits
    → (next : X × List ℕ → Result Y IlpError) (x : X) → Fits x → (read (spelling x) >>= next) ≡ next (x, [])
last_again {X} {Y} {read} {spelling} {Fits} law next x fits =
    ap (λ (t : List ℕ). read t >>= next) (sym (append-nil (spelling x))) ∙ field_again law next x [] fits

nothing : (xs : List ℕ) → eqb (length xs) 0 ≡ true → xs ≡ []
nothing [] e = refl
nothing (x ∷ xs) e = absurd (omega (arith, eqb-true (length (x ∷ xs)) 0 e))

pub whole_ok : {X : Type 0} (x y : X) (rest : List ℕ) → whole (x, rest) ≡ Ok y → (rest ≡ []) × (x ≡ y)
whole_ok x y rest e =
    let p = provided_ok (eqb (length rest) 0) Trailing x y e in
    (nothing rest p.0, p.1)
