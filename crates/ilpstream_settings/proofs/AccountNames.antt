-- The names of accounts, and which lists have a name twice.
use Rattle.std.proofs.Common.{◌≡◌, ◌≢◌, ℕ, zero, suc, ◌+◌, ◌<◌, Bool, true, false, ◌||◌, List, [], ◌∷◌, ◌++◌, Bor, length, map, take, drop, get_or, refl, sym, ap, ◌∙◌, arith, true≢false, take-append-drop, drop-cons, String}
use Rattle.std.specs.Prelude.{bytes_eq, string_bytes}
use Rattle.std.specs.List.{AllByRecursion, list_any}
use Rattle.std.proofs.lemmas.List.{map-append, take_more}
use Rattle.std.proofs.lemmas.Slice.Eq.{bytes_eq-Decides}
use Rattle.ilpstream_settings.specs.declared.line.AccountLine.{AccountLine}
use Rattle.ilpstream_settings.specs.Table.{AreDistinct, StandTwice, Text, name_of, names_from}

-- one account more, which has number n
names_more : (i : ℕ) (accounts : List AccountLine) (k n : ℕ) (d : AccountLine) → k < length accounts → n ≡ i + k
    → names_from i (take (suc k) accounts) ≡ names_from i (take k accounts) ++ name_of n (get_or accounts k d) ∷ []
unfolding names_from
names_more i [] k n d within number = absurd (omega arith)
names_more i (a ∷ rest) zero n d within number =
    let same : i ≡ n = omega arith in
    ap (λ (m : ℕ). name_of m a ∷ []) same
names_more i (a ∷ rest) (suc k) n d within number = ap (λ (names : List Text). name_of i a ∷ names) (names_more (suc i) rest k n d (omega arith) (omega arith))

-- a name that none has may be put at the end
pub distinct_push : (names : List Text) (name : Text) → AreDistinct names → AllByRecursion (λ other. other ≢ name) names → AreDistinct (names ++ name ∷ [])
distinct_push [] name apart none = (tt, tt)
distinct_push (n ∷ names) name apart none = (all_push names name n apart.0 (λ e. none.0 (sym e)), distinct_push names name apart.1 none.1)
  where
    all_push : (names : List Text) (name n : Text) → AllByRecursion (λ other. other ≢ n) names → name ≢ n → AllByRecursion (λ other. other ≢ n) (names ++ name ∷ [])
    all_push [] name n all unlike = (unlike, tt)
    all_push (m ∷ names) name n all unlike = (all.0, all_push names name n all.1 unlike)

unlike : (s t : Text) → bytes_eq s t ≡ false → t ≢ s
unlike s t differs e = absurd (true≢false (sym ((bytes_eq-Decides s t).1 (sym e)) ∙ differs))

-- no name is equal to this one
pub none_has : (names : List Text) (name : Text) → list_any (bytes_eq name) names ≡ false → AllByRecursion (λ other. other ≢ name) names
none_has [] name none = tt
none_has (n ∷ names) name none = by (bytes_eq name n) refl (none_has names name) none
  where
    by : (b : Bool) → bytes_eq name n ≡ b → (list_any (bytes_eq name) names ≡ false → AllByRecursion (λ other. other ≢ name) names)
        → (b || list_any (bytes_eq name) names) ≡ false → AllByRecursion (λ other. other ≢ name) (n ∷ names)
    by true e rest wrong = absurd (true≢false wrong)
    by false e rest later = (unlike name n e, rest later)

-- a name that is one of `names` is there twice once it is added
pub some_has : (names : List Text) (name : Text) (rest : List Text) → list_any (bytes_eq name) names ≡ true → StandTwice (names ++ name ∷ rest)
some_has [] name rest some = absurd (true≢false (sym some))
some_has (n ∷ names) name rest some = by (bytes_eq name n) refl (some_has names name rest) some
  where
    later_too : StandTwice (names ++ name ∷ rest) → StandTwice ((n ∷ names) ++ name ∷ rest)
    later_too found = record {
      before = n ∷ found.before;
      name = found.name;
      between = found.between;
      after = found.after;
      names_are = ap (λ (all : List Text). n ∷ all) found.names_are;
    }

    by : (b : Bool) → bytes_eq name n ≡ b → (list_any (bytes_eq name) names ≡ true → StandTwice (names ++ name ∷ rest))
        → (b || list_any (bytes_eq name) names) ≡ true → StandTwice ((n ∷ names) ++ name ∷ rest)
    by true e found _ = record {
      before = [];
      name = n;
      between = names;
      after = rest;
      names_are = ap (λ (m : Text). n ∷ (names ++ m ∷ rest)) ((bytes_eq-Decides name n).0 e);
    }
    by false e found later = later_too (found later)

pub any_now : (name : Text) (keys : List (Bor Text)) → list_any (λ k. bytes_eq name k.now) keys ≡ list_any (bytes_eq name) (map (λ k. k.now) keys)
any_now name [] = refl
any_now name (k ∷ keys) = ap (λ (b : Bool). bytes_eq name k.now || b) (any_now name keys)

-- the names before place i were seen: keys, and k is the name there
module _ {X : Type 0} (names : List (String X)) (i : ℕ) (d x : String X) (keys : List (Bor Text)) (k : Bor Text) (within : i < length names)
    (seen : map (λ key. key.now) keys ≡ map string_bytes (take i names)) (at : x ≡ get_or names i d) (bytes : k.now ≡ string_bytes x) where
  before : list_any (λ key. bytes_eq k.now key.now) keys ≡ list_any (bytes_eq (string_bytes x)) (map string_bytes (take i names))
  before =
      any_now k.now keys
      ∙ ap (λ (all : List Text). list_any (bytes_eq k.now) all) seen
      ∙ ap (λ (name : Text). list_any (bytes_eq name) (map string_bytes (take i names))) bytes

  whole : map string_bytes names ≡ map string_bytes (take i names) ++ string_bytes x ∷ map string_bytes (drop (suc i) names)
  whole =
      ap (map string_bytes) (sym (take-append-drop i names) ∙ ap (λ (rest : List (String X)). take i names ++ rest) (drop-cons names i d within))
      ∙ map-append string_bytes (take i names) (get_or names i d ∷ drop (suc i) names)
      ∙ ap (λ (y : String X). map string_bytes (take i names) ++ string_bytes y ∷ map string_bytes (drop (suc i) names)) (sym at)

  more : map string_bytes (take (i + 1) names) ≡ map string_bytes (take i names) ++ string_bytes x ∷ []
  more =
      ap (map string_bytes) (take_more names i d within)
      ∙ map-append string_bytes (take i names) (get_or names i d ∷ [])
      ∙ ap (λ (y : String X). map string_bytes (take i names) ++ string_bytes y ∷ []) (sym at)

  pub found_twice : list_any (λ key. bytes_eq k.now key.now) keys ≡ true → StandTwice (map string_bytes names)
  found_twice found = rw whole (some_has (map string_bytes (take i names)) (string_bytes x) (map string_bytes (drop (suc i) names)) (sym before ∙ found))

  pub once_more : list_any (λ key. bytes_eq k.now key.now) keys ≡ false → (new : List (Bor Text)) → new ≡ keys ++ k ∷ [] → AreDistinct (map string_bytes (take i names))
      → record { seen : map (λ key. key.now) new ≡ map string_bytes (take (i + 1) names); distinct : AreDistinct (map string_bytes (take (i + 1) names)) }
  once_more none new put apart = record {
    seen =
        ap (map (λ key. key.now)) put ∙ map-append (λ key. key.now) keys (k ∷ [])
        ∙ ap (λ (all : List Text). all ++ k.now ∷ []) seen
        ∙ ap (λ (name : Text). map string_bytes (take i names) ++ name ∷ []) bytes
        ∙ sym more;
    distinct = rw more (distinct_push (map string_bytes (take i names)) (string_bytes x) apart (none_has (map string_bytes (take i names)) (string_bytes x) (sym before ∙ none)));
  }

-- the names of the accounts before place k, and of the one there
pub names_said : {X : Type 0} (accounts : List AccountLine) (k : ℕ) (d : AccountLine) (names new : List (String X)) (name : String X) → k < length accounts
    → map string_bytes names ≡ names_from 0 (take k accounts) → string_bytes name ≡ name_of k (get_or accounts k d) → new ≡ names ++ name ∷ []
    → map string_bytes new ≡ names_from 0 (take (k + 1) accounts)
names_said accounts k d names new name within said is put =
    let next : suc k ≡ k + 1 = omega arith in
    ap (map string_bytes) put ∙ map-append string_bytes names (name ∷ [])
    ∙ ap (λ (all : List Text). all ++ string_bytes name ∷ []) said
    ∙ ap (λ (n : Text). names_from 0 (take k accounts) ++ n ∷ []) is
    ∙ sym (names_more 0 accounts k k d within (omega arith))
    ∙ ap (λ (n : ℕ). names_from 0 (take n accounts)) next
