-- The map of a head's fields: what it has under each name, and that it is never full.
use Rattle.std.proofs.Common.{◌≡◌, ◌≢◌, ◌≤◌, ◌<◌, ℕ, ◌+◌, suc, List, [], ◌∷◌, ◌++◌, length, take, get_or, ap, sym, ◌∙◌, refl, subst, inl, inr, arith, append_assoc, append-nil, length-append, true, false, Bool}
use Rattle.std.specs.Prelude.{map, bytes_eq, cond, All, IsTrue}
use Rattle.std.specs.List.{filter}
use Rattle.std.proofs.lemmas.Bool.{cases_Bool}
use Rattle.std.proofs.lemmas.List.{map-append, length-map, length-take, take_more, get_or-map}
use Rattle.std.proofs.lemmas.List.Sums.{sum_by-cons, fold-append}
use Rattle.std.proofs.lemmas.List.Elements.{All-cons}
use Rattle.std.proofs.lemmas.Slice.Eq.{bytes_eq-Decides}
use Rattle.http_header.specs.FieldName.{IsFieldName}
use Rattle.http_header.specs.FieldValue.{FieldValue, IsFieldValue, plain_value}
use Rattle.http_header.specs.HeaderMap.{Entries, get_all, append, append_all, value_count, RefusesAppend}
use Rattle.http_header.specs.Token.{lowercase}
use Rattle.http_header.specs.Token.{is_token_byte as is_name_byte}
use Rattle.http_header.proofs.HeaderMapLemmas.{get_all-append_same, get_all-append_other}
use Rattle.httparse.specs.Grammar.{Field, is_token_byte, is_value_byte, IsField, IsToken}
use Rattle.httparse.specs.Spans.{name_and_value, header_bytes, span_bytes, IsHeaderWithin}
use Rattle.httparse.specs.declared.spans.HeaderSpan.{HeaderSpan}
use Rattle.httparse.proofs.RunLemmas.{length-slice_range}
use Rattle.httparse.proofs.TrimLemmas.{AllPass-trim_ows}
use Rattle.st_http.specs.Fields.{Pair, is_named, values_of}
use Rattle.st_http.specs.Kept.{IsPair, map_of, under}

abbrev named_value : Pair → List ℕ × FieldValue
named_value p = (lowercase p.0, plain_value p.1)

differ : (a b : List ℕ) → bytes_eq a b ≡ false → a ≢ b
differ a b apart same = let yes = (bytes_eq-Decides a b).1 same in cc

-- one more field follows those of its name, and is under no other name
under-append : (m : Entries FieldValue) (p : Pair) (name : List ℕ) → under (append m (lowercase p.0) (plain_value p.1)) name ≡ under m name ++ values_of name (p ∷ [])
under-append m p name = elim (cases_Bool (bytes_eq (lowercase p.0) name)) [
  | inl same ↦
      (let is : lowercase p.0 ≡ name = (bytes_eq-Decides (lowercase p.0) name).0 same in
      let kept : get_all (append m (lowercase p.0) (plain_value p.1)) name ≡ get_all m name ++ plain_value p.1 ∷ [] =
      subst (λ n. get_all (append m (lowercase p.0) (plain_value p.1)) n ≡ get_all m n ++ plain_value p.1 ∷ []) is (get_all-append_same m (lowercase p.0) (plain_value p.1)) in
      rw same (ap (map (λ v. v.bytes)) kept ∙ map-append (λ v. v.bytes) (get_all m name) (plain_value p.1 ∷ [])))
  | inr other ↦
      rw other (ap (map (λ v. v.bytes)) (get_all-append_other m (lowercase p.0) name (plain_value p.1) (differ (lowercase p.0) name other)) ∙ sym (append-nil (under m name)))
]

values_of-cons : (name : List ℕ) (p : Pair) (fields : List Pair) → values_of name (p ∷ []) ++ values_of name fields ≡ values_of name (p ∷ fields)
values_of-cons name p fields = by (is_named name p)
  where
    by : (b : Bool) → map (λ (f : Pair). f.1) (cond b (p ∷ []) []) ++ values_of name fields ≡ map (λ (f : Pair). f.1) (cond b (p ∷ filter (is_named name) fields) (filter (is_named name) fields))
    by true = refl
    by false = refl

under-append_all : (m : Entries FieldValue) (fields : List Pair) (name : List ℕ) → under (append_all m (map named_value fields)) name ≡ under m name ++ values_of name fields
under-append_all m [] name = sym (append-nil (under m name))
under-append_all m (p ∷ fields) name =
    under-append_all (append m (lowercase p.0) (plain_value p.1)) fields name
    ∙ ap (λ l. l ++ values_of name fields) (under-append m p name)
    ∙ append_assoc (under m name) (values_of name (p ∷ [])) (values_of name fields)
    ∙ ap (λ l. under m name ++ l) (values_of-cons name p fields)

-- under each name are its values, in their order
pub under-map_of : (fields : List Pair) (name : List ℕ) → under (map_of fields) name ≡ values_of name fields
under-map_of fields name = under-append_all [] fields name

-- ---- the map is never full

length-append_one : (m : Entries FieldValue) (name : List ℕ) (v : FieldValue) → length (append m name v) ≤ length m + 1
length-append_one [] name v = omega arith
length-append_one (e ∷ m) name v = elim (cases_Bool (bytes_eq e.0 name)) [
  | inl same ↦ rw same (omega arith)
  | inr other ↦ rw other (omega (arith, length-append_one m name v))
]

count-append_one : (m : Entries FieldValue) (name : List ℕ) (v : FieldValue) → value_count (append m name v) ≤ value_count m + 1
count-append_one [] name v = omega arith
count-append_one (e ∷ m) name v = elim (cases_Bool (bytes_eq e.0 name)) [
  | inl same ↦
      rw same (omega (arith, sum_by-cons (λ (x : List ℕ × List FieldValue). length x.1) (e.0, e.1 ++ v ∷ []) m, sum_by-cons (λ (x : List ℕ × List FieldValue). length x.1) e m, length-append e.1 (v ∷ [])))
  | inr other ↦
      rw other (omega (arith, sum_by-cons (λ (x : List ℕ × List FieldValue). length x.1) e (append m name v), sum_by-cons (λ (x : List ℕ × List FieldValue). length x.1) e m, count-append_one m name v))
]

length-append_all : (m : Entries FieldValue) (fields : List Pair) → length (append_all m (map named_value fields)) ≤ length m + length fields
length-append_all m [] = omega arith
length-append_all m (p ∷ fields) =
    omega (arith, length-append_all (append m (lowercase p.0) (plain_value p.1)) fields, length-append_one m (lowercase p.0) (plain_value p.1))

count-append_all : (m : Entries FieldValue) (fields : List Pair) → value_count (append_all m (map named_value fields)) ≤ value_count m + length fields
count-append_all m [] = omega arith
count-append_all m (p ∷ fields) =
    omega (arith, count-append_all (append m (lowercase p.0) (plain_value p.1)) fields, count-append_one m (lowercase p.0) (plain_value p.1))

-- as many fields as a head may have leave room for one more
pub has_room : (fields : List Pair) (name : List ℕ) → length fields ≤ 64 → RefusesAppend (map_of fields) name → ⊥
has_room fields name few (inl full) = omega (arith, few, full, count-append_all [] fields)
has_room fields name few (inr refuses) = elim refuses.1 [
  | inl names ↦ omega (arith, few, names, length-append_all [] fields)
  | inr full ↦ omega (arith, few, full, count-append_all [] fields)
]

-- ---- the grammar's fields have names and values that the map accepts

name_bytes : (bytes : List ℕ) → IsToken bytes → (0 < length bytes) × All (λ b. IsTrue (is_name_byte b)) bytes
unfolding is_token_byte is_name_byte
name_bytes bytes is = is

field_pair : (f : Field) → IsField f → IsPair (name_and_value f)
field_pair f is = (name_bytes f.name is.name, AllPass-trim_ows is_value_byte f.raw is.raw)

-- the fields that spans cover are such
pub all_pairs : (pairs : List Pair) (fields : List Field) → pairs ≡ map name_and_value fields → All IsField fields → All IsPair pairs
all_pairs pairs fields same all = subst (All IsPair) (sym same) (mapped fields all)
  where
    mapped : (fs : List Field) → All IsField fs → All IsPair (map name_and_value fs)
    mapped [] all = λ i d within. absurd (omega (arith, within))
    mapped (f ∷ fs) all = All-cons IsPair (name_and_value f) (map name_and_value fs) (field_pair f (all 0 f (omega arith))) (mapped fs (λ i d within. all (suc i) d (omega (arith, within))))

-- the name and the value of a span are such
pub span_pair : (head : List ℕ) (spans : List HeaderSpan) (i : ℕ) (d : HeaderSpan) → All (IsHeaderWithin (length head)) spans → All IsPair (map (header_bytes head) spans) → length head ≤ 8192 → i < length spans
    → IsFieldName (span_bytes head (get_or spans i d).name) × IsFieldValue (span_bytes head (get_or spans i d).value)
span_pair head spans i d within pairs short inside =
    let mapped : i < length (map (header_bytes head) spans) = rw length-map inside in
    let pair = subst IsPair (get_or-map (header_bytes head) spans i d (header_bytes head d) inside) (pairs i (header_bytes head d) mapped) in
    let bounds = (within i d inside).0 in
    let long = length-slice_range head (get_or spans i d).name.start (get_or spans i d).name.end bounds.0 bounds.1 in
    ((pair.0, omega (arith, long, short, bounds.0, bounds.1)), pair.1)

-- the map with one field more
pub one_more : (head : List ℕ) (spans : List HeaderSpan) (i : ℕ) (d : HeaderSpan) → i < length spans
    → append (map_of (map (header_bytes head) (take i spans))) (lowercase (span_bytes head (get_or spans i d).name)) (plain_value (span_bytes head (get_or spans i d).value))
    ≡ map_of (map (header_bytes head) (take (i + 1) spans))
one_more head spans i d inside =
    let h : HeaderSpan → Pair = header_bytes head in
    let last : HeaderSpan = get_or spans i d in
    let split : map named_value (map h (take (i + 1) spans)) ≡ map named_value (map h (take i spans)) ++ named_value (h last) ∷ [] =
    ap (λ l. map named_value (map h l)) (take_more spans i d inside) ∙ ap (map named_value) (map-append h (take i spans) (last ∷ [])) ∙ map-append named_value (map h (take i spans)) (h last ∷ []) in
    sym (ap (append_all []) split ∙ fold-append (λ (n : Entries FieldValue) (item : List ℕ × FieldValue). append n item.0 item.1) [] (map named_value (map h (take i spans))) (named_value (h last) ∷ []))

pub has_room_for_span : (head : List ℕ) (spans : List HeaderSpan) (i : ℕ) (name : List ℕ) → length spans ≤ 64 → RefusesAppend (map_of (map (header_bytes head) (take i spans))) name → ⊥
has_room_for_span head spans i name few = has_room (map (header_bytes head) (take i spans)) name (omega (arith, few, length-map (take i spans) (header_bytes head), length-take i spans))
