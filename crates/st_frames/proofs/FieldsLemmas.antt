-- Fields one after another, both ways.
use Rattle.std.proofs.Common.{◌≡◌, ℕ, ◌<◌, ◌&&◌, Bool, true, false, List, [], ◌∷◌, ◌++◌, Ok, refl, sym, ap, ◌∙◌, subst, append_assoc}
use Rattle.st_oer.specs.declared.error.OerError.{OerError}
use Rattle.st_oer.specs.Spelling.{octets, var_uint}
use Rattle.st_oer.specs.Text.{is_utf8}
use Rattle.st_oer.specs.Reading.{byte_at, octets_at, var_uint_at, limit_at}
use Rattle.st_oer.proofs.Bytes.{IsBytes, IsBytes-rest}
use Rattle.st_oer.proofs.BothWays.{var_uint_takes, var_uint_again, octets_takes, octets_again}
use Rattle.st_oer.proofs.Limits.{limit_takes, limit_again}
use Rattle.st_frames.specs.Table.{Field, Byte, Number, Limit, Octets, Text, Address, Item, Code, Num, Bytes, is_address_text}
use Rattle.st_frames.specs.Contents.{◌>>=◌, Contents, contents, tested, field_at, fields_at}
use Rattle.st_frames.specs.Relation.{IsField, is_byte, is_number, is_limit, is_octets, is_text, is_address, IsFields, no_field, next_field}
use Rattle.st_frames.proofs.Results.{bind_ok, refusing_ok, ok_is}

abbrev Fault : Type 0
Fault = Unit {0}

-- the front of the bytes is a spelling
pub record Takes (Is : List ℕ → Type 0) (bytes rest : List ℕ) : Type 0 where
  pub text : List ℕ
  pub is : Is text
  pub parts : bytes ≡ text ++ rest
  pub rest_fits : IsBytes rest

abbrev pub TakesItem : Field → List ℕ → Item × List ℕ → Type 0
TakesItem f bytes x = Takes (IsField f x.0) bytes x.1

pub record TakesByte (bytes : List ℕ) (x : ℕ × List ℕ) : Type 0 where
  pub parts : bytes ≡ x.0 ∷ x.1
  pub small : x.0 < 256
  pub rest_fits : IsBytes x.1

pub byte_takes : (bytes : List ℕ) (x : ℕ × List ℕ) → IsBytes bytes → byte_at bytes ≡ Ok x → TakesByte bytes x
byte_takes [] x fits e = absurd cc
byte_takes (b ∷ rest) x fits e = subst (TakesByte (b ∷ rest)) (ok_is {E = OerError} (b, rest) x e) (record { parts = refl; small = fits 0; rest_fits = IsBytes-rest b rest fits })

tested_ok : (passes : Bool) (x : List ℕ × List ℕ) (y : Item × List ℕ) → tested passes x ≡ Ok y → (passes ≡ true) × ((Bytes x.0, x.1) ≡ y)
tested_ok true x y e = (refl, ok_is {E = Fault} (Bytes x.0, x.1) y e)
tested_ok false x y e = absurd cc

abbrev coded : ℕ × List ℕ → Contents (Item × List ℕ)
coded x = Ok (Code x.0, x.1)

abbrev numbered : ℕ × List ℕ → Contents (Item × List ℕ)
numbered x = Ok (Num x.0, x.1)

abbrev lettered : List ℕ × List ℕ → Contents (Item × List ℕ)
lettered x = Ok (Bytes x.0, x.1)

abbrev texted : List ℕ × List ℕ → Contents (Item × List ℕ)
texted x = tested (is_utf8 x.0) x

abbrev addressed : List ℕ × List ℕ → Contents (Item × List ℕ)
addressed x = tested (is_utf8 x.0 && is_address_text x.0) x

both : (a b : Bool) → (a && b) ≡ true → (a ≡ true) × (b ≡ true)
both true b e = (refl, e)
both false b e = absurd cc

field_takes : (f : Field) (bytes : List ℕ) (x : Item × List ℕ) → IsBytes bytes → field_at f bytes ≡ Ok x → TakesItem f bytes x
field_takes Byte bytes x fits e =
    let b = bind_ok (contents (byte_at bytes)) coded x e in
    let t = byte_takes bytes b.0 fits (refusing_ok tt (byte_at bytes) b.0 b.1) in
    subst (TakesItem Byte bytes) (ok_is {E = Fault} (Code b.0.0, b.0.1) x b.2) (record { text = b.0.0 ∷ []; is = is_byte b.0.0 t.small; parts = t.parts; rest_fits = t.rest_fits })
field_takes Number bytes x fits e =
    let b = bind_ok (contents (var_uint_at bytes)) numbered x e in
    let t = var_uint_takes bytes b.0.1 b.0.0 fits (refusing_ok tt (var_uint_at bytes) b.0 b.1) in
    subst (TakesItem Number bytes) (ok_is {E = Fault} (Num b.0.0, b.0.1) x b.2) (record { text = var_uint b.0.0; is = is_number b.0.0 t.1; parts = t.0; rest_fits = t.2 })
field_takes Limit bytes x fits e =
    let b = bind_ok (contents (limit_at bytes)) numbered x e in
    let t = limit_takes bytes b.0 fits (refusing_ok tt (limit_at bytes) b.0 b.1) in
    subst (TakesItem Limit bytes) (ok_is {E = Fault} (Num b.0.0, b.0.1) x b.2) (record { text = t.text; is = is_limit b.0.0 t.text t.is; parts = t.parts; rest_fits = t.rest_fits })
field_takes Octets bytes x fits e =
    let b = bind_ok (contents (octets_at bytes)) lettered x e in
    let t = octets_takes bytes b.0.1 b.0.0 fits (refusing_ok tt (octets_at bytes) b.0 b.1) in
    subst (TakesItem Octets bytes) (ok_is {E = Fault} (Bytes b.0.0, b.0.1) x b.2) (record { text = octets b.0.0; is = is_octets b.0.0 t.1; parts = t.0; rest_fits = t.2 })
field_takes Text bytes x fits e =
    let b = bind_ok (contents (octets_at bytes)) texted x e in
    let t = octets_takes bytes b.0.1 b.0.0 fits (refusing_ok tt (octets_at bytes) b.0 b.1) in
    let g = tested_ok (is_utf8 b.0.0) b.0 x b.2 in
    subst (TakesItem Text bytes) g.1 (record { text = octets b.0.0; is = is_text b.0.0 t.1 g.0; parts = t.0; rest_fits = t.2 })
field_takes Address bytes x fits e =
    let b = bind_ok (contents (octets_at bytes)) addressed x e in
    let t = octets_takes bytes b.0.1 b.0.0 fits (refusing_ok tt (octets_at bytes) b.0 b.1) in
    let g = tested_ok (is_utf8 b.0.0 && is_address_text b.0.0) b.0 x b.2 in
    let passes = both (is_utf8 b.0.0) (is_address_text b.0.0) g.0 in
    subst (TakesItem Address bytes) g.1 (record { text = octets b.0.0; is = is_address b.0.0 t.1 passes.0 passes.1; parts = t.0; rest_fits = t.2 })

field_again : (f : Field) (x : Item) (text rest : List ℕ) → IsField f x text → field_at f (text ++ rest) ≡ Ok (x, rest)
field_again f x text rest (is_byte n lt) = refl
field_again f x text rest (is_number n lt) = rw (var_uint_again n rest lt) refl
field_again f x text rest (is_limit n t is) = rw (limit_again n t rest is) refl
field_again f x text rest (is_octets bytes lt) = rw (octets_again bytes rest lt) refl
field_again f x text rest (is_text bytes lt passes) = rw (octets_again bytes rest lt, passes) refl
field_again f x text rest (is_address bytes lt decodes passes) = rw (octets_again bytes rest lt, decodes, passes) refl

abbrev pub TakesItems : List Field → List ℕ → List Item × List ℕ → Type 0
TakesItems fs bytes x = Takes (IsFields fs x.0) bytes x.1

abbrev after_first : Item → List Item × List ℕ → Contents (List Item × List ℕ)
after_first y ys = Ok (y ∷ ys.0, ys.1)

pub fields_takes : (fs : List Field) (bytes : List ℕ) (x : List Item × List ℕ) → IsBytes bytes → fields_at fs bytes ≡ Ok x → TakesItems fs bytes x
fields_takes [] bytes x fits e = subst (TakesItems [] bytes) (ok_is {E = Fault} ([], bytes) x e) (record { text = []; is = no_field; parts = refl; rest_fits = fits })
fields_takes (f ∷ fs) bytes x fits e =
    let b = bind_ok (field_at f bytes) (λ y. fields_at fs y.1 >>= after_first y.0) x e in
    let t = field_takes f bytes b.0 fits b.1 in
    let bs = bind_ok (fields_at fs b.0.1) (after_first b.0.0) x b.2 in
    let ts = fields_takes fs b.0.1 bs.0 t.rest_fits bs.1 in
    subst (TakesItems (f ∷ fs) bytes) (ok_is {E = Fault} (b.0.0 ∷ bs.0.0, bs.0.1) x bs.2) (record {
      text = t.text ++ ts.text;
      is = next_field f fs b.0.0 bs.0.0 t.text ts.text t.is ts.is;
      parts = t.parts ∙ ap (λ (r : List ℕ). t.text ++ r) ts.parts ∙ sym (append_assoc t.text ts.text bs.0.1);
      rest_fits = ts.rest_fits;
    })

pub fields_again : (fs : List Field) (xs : List Item) (text rest : List ℕ) → IsFields fs xs text → fields_at fs (text ++ rest) ≡ Ok (xs, rest)
fields_again fs xs text rest no_field = refl
fields_again fs xs text rest (next_field f others x ys a b is are) =
    rw (append_assoc a b rest, field_again f x a (b ++ rest) is, fields_again others ys b rest are) refl
