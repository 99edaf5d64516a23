-- A head by the grammar ends at its first empty line: a walk over its bytes, line by line.
use Rattle.std.proofs.Common.{◌≡◌, ◌≤◌, ◌<◌, ◌⊎◌, ℕ, ◌-◌, suc, zero, List, [], ◌∷◌, ◌++◌, length, take, drop, ap, sym, ◌∙◌, refl, subst, inl, inr, arith, append_assoc, length-append, take-append-drop, Bool, true, false, ◌||◌, Option, Some, None}
use Rattle.std.specs.Prelude.{fold, if◌then◌else◌, ◌==◌, not, nat_eq, All}
use Rattle.std.specs.List.{list_any, list_all, ends_with, flat_map}
use Rattle.std.specs.Cmp.Lexicographic.{same_text}
use Rattle.std.specs.Char.{is_ascii_digit}
use Rattle.std.proofs.lemmas.Bool.{cases_Bool, eqb-true}
use Rattle.std.proofs.lemmas.List.{take-append-le}
use Rattle.std.proofs.lemmas.List.Sums.{fold-append}
use Rattle.std.proofs.lemmas.List.Folds.{list_any-append}
use Rattle.std.proofs.lemmas.Slice.Eq.{bytes_eq-Decides}
use Rattle.std.proofs.Math.Seq.{drop-append_seam}
use Rattle.httparse.specs.Grammar.{LineEnd, crlf, lf, print_end, print_blank, print_version, print_field, print_reason, reason_phrase, Field, IsField, RequestHead, ResponseHead, IsRequestHead, IsResponseHead, print_request, print_response, is_token_byte, is_uri_byte, is_value_byte, AllPass}
use Rattle.httparse.proofs.GrammarLemmas.{cons-append}
use Rattle.st_http.proofs.Walks.{both}
use Rattle.st_http.specs.Head.{ends_head, ends_line, is_text_byte}
use Rattle.st_http.specs.Phases.{IsEnded}

-- what the bytes so far are: empty lines alone, a line that has text or is malformed, the beginning of a line, a CR
-- there, or bytes that an empty line has ended
data Line : Type 0 where
  blank inside fresh cut ended : Line

abbrev step : Line → ℕ → Line
step blank b = if is_text_byte b then inside else blank
step inside b = if b == 10 then fresh else inside
step fresh b = if b == 10 then ended else (if b == 13 then cut else inside)
step cut b = if b == 10 then ended else inside
step ended b = ended

abbrev walk : Line → List ℕ → Line
walk s bytes = fold step s bytes

walk-append : (s t u : Line) (a b : List ℕ) → walk s a ≡ t → walk t b ≡ u → walk s (a ++ b) ≡ u
walk-append s t u a b first second = fold-append step s a b ∙ ap (λ x. walk x b) first ∙ second

stays_ended : (bytes : List ℕ) → walk ended bytes ≡ ended
stays_ended [] = refl
stays_ended (b ∷ bytes) = stays_ended bytes

-- there was text
abbrev has_begun : Line → Bool
has_begun blank = false
has_begun inside = true
has_begun fresh = true
has_begun cut = true
has_begun ended = true

begun_after : (s : Line) (b : ℕ) → has_begun (step s b) ≡ (has_begun s || is_text_byte b)
begun_after blank b = by (is_text_byte b)
  where
    by : (t : Bool) → has_begun (if t then inside else blank) ≡ t
    by true = refl
    by false = refl
begun_after inside b = by (b == 10)
  where
    by : (t : Bool) → has_begun (if t then fresh else inside) ≡ true
    by true = refl
    by false = refl
begun_after fresh b = by (b == 10) (b == 13)
  where
    by : (t r : Bool) → has_begun (if t then ended else (if r then cut else inside)) ≡ true
    by true r = refl
    by false true = refl
    by false false = refl
begun_after cut b = by (b == 10)
  where
    by : (t : Bool) → has_begun (if t then ended else inside) ≡ true
    by true = refl
    by false = refl
begun_after ended b = refl

or_assoc : (a b c : Bool) → ((a || b) || c) ≡ (a || (b || c))
or_assoc true b c = refl
or_assoc false b c = refl

or_false : (a : Bool) → (a || false) ≡ a
or_false true = refl
or_false false = refl

begun : (s : Line) (bytes : List ℕ) → has_begun (walk s bytes) ≡ (has_begun s || list_any is_text_byte bytes)
begun s [] = sym (or_false (has_begun s))
begun s (b ∷ bytes) =
    begun (step s b) bytes ∙ ap (λ x. x || list_any is_text_byte bytes) (begun_after s b) ∙ or_assoc (has_begun s) (is_text_byte b) (list_any is_text_byte bytes)

-- an empty line after text ends the walk
two_ends : (s : Line) → has_begun s ≡ true → walk s (10 ∷ 10 ∷ []) ≡ ended
two_ends blank is = absurd (no is)
  where
    no : false ≡ true → ⊥
    no e = cc
two_ends inside is = refl
two_ends fresh is = refl
two_ends cut is = refl
two_ends ended is = refl

three_ends : (s : Line) → has_begun s ≡ true → walk s (10 ∷ 13 ∷ 10 ∷ []) ≡ ended
three_ends blank is = absurd (no is)
  where
    no : false ≡ true → ⊥
    no e = cc
three_ends inside is = refl
three_ends fresh is = refl
three_ends cut is = refl
three_ends ended is = refl

-- the bytes before an end
before : (bytes needle : List ℕ) → ends_with nat_eq bytes needle ≡ true → bytes ≡ take (length bytes - length needle) bytes ++ needle
before bytes needle ends =
    let at : ℕ = length bytes - length needle in
    let tail : needle ≡ drop at bytes = same_text needle (drop at bytes) (sym ends) in
    sym (take-append-drop at bytes) ∙ ap (λ l. take at bytes ++ l) (sym tail)

-- if the tail has no text byte, those of the whole are in its front
text_before : (front tail : List ℕ) → list_any is_text_byte tail ≡ false → list_any is_text_byte (front ++ tail) ≡ true → list_any is_text_byte front ≡ true
text_before front tail none some =
    sym (or_false (list_any is_text_byte front)) ∙ ap (λ x. list_any is_text_byte front || x) (sym none) ∙ sym (list_any-append is_text_byte front tail) ∙ some

walk_of_end : (bytes needle : List ℕ) → list_any is_text_byte needle ≡ false → ((s : Line) → has_begun s ≡ true → walk s needle ≡ ended)
    → list_any is_text_byte bytes ≡ true → ends_with nat_eq bytes needle ≡ true → walk blank bytes ≡ ended
walk_of_end bytes needle none closes some ends =
    let front : List ℕ = take (length bytes - length needle) bytes in
    let parts : bytes ≡ front ++ needle = before bytes needle ends in
    let text : list_any is_text_byte front ≡ true = text_before front needle none (sym (ap (list_any is_text_byte) parts) ∙ some) in
    let started : has_begun (walk blank front) ≡ true = begun blank front ∙ text in
    ap (walk blank) parts ∙ fold-append step blank front needle ∙ closes (walk blank front) started

either : (a b : Bool) → (a || b) ≡ true → (a ≡ true) ⊎ (b ≡ true)
either true b e = inl refl
either false b e = inr e

-- if an empty line follows text, the walk has ended
walk_of_head : (bytes : List ℕ) → ends_head bytes ≡ true → walk blank bytes ≡ ended
unfolding ends_head
walk_of_head bytes ends =
    let parts = both (list_any is_text_byte bytes) (ends_line bytes) ends in
    elim (either (ends_with nat_eq bytes (10 ∷ 10 ∷ [])) (ends_with nat_eq bytes (10 ∷ 13 ∷ 10 ∷ [])) parts.1) [
      | inl two ↦ walk_of_end bytes (10 ∷ 10 ∷ []) refl two_ends parts.0 two
      | inr three ↦ walk_of_end bytes (10 ∷ 13 ∷ 10 ∷ []) refl three_ends parts.0 three
    ]

-- ---- the converse, where a line begins

-- a walk that reaches the beginning of a line has read an LF
fresh_by : (s : Line) (b : ℕ) → step s b ≡ fresh → b ≡ 10
fresh_by s b is = elim (cases_Bool (b == 10)) [ inl same ↦ eqb-true b 10 same | inr apart ↦ absurd (other s apart is) ]
  where
    other : (s : Line) → (b == 10) ≡ false → step s b ≡ fresh → ⊥
    other blank apart is = elim (cases_Bool (is_text_byte b)) [ inl t ↦ (let same = rw t at is in cc) | inr f ↦ (let same = rw f at is in cc) ]
    other inside apart is = let same = rw apart at is in cc
    other fresh apart is = elim (cases_Bool (b == 13)) [ inl t ↦ (let same = rw (apart, t) at is in cc) | inr f ↦ (let same = rw (apart, f) at is in cc) ]
    other cut apart is = let same = rw apart at is in cc
    other ended apart is = cc

ends_in_lf : (s : Line) (bytes : List ℕ) → walk s bytes ≡ fresh → ((bytes ≡ []) × (s ≡ fresh)) ⊎ ((front : List ℕ) × (bytes ≡ front ++ 10 ∷ []))
ends_in_lf s [] is = inl (refl, is)
ends_in_lf s (b ∷ bytes) is = elim (ends_in_lf (step s b) bytes is) [
  | inl none ↦ inr ([], ap (λ l. b ∷ l) none.0 ∙ ap (λ x. x ∷ []) (fresh_by s b none.1))
  | inr some ↦ inr (b ∷ some.0, ap (λ l. b ∷ l) some.1)
]

-- bytes end with their end
ends_with-append : (front needle : List ℕ) → ends_with nat_eq (front ++ needle) needle ≡ true
ends_with-append front needle =
    let at : length (front ++ needle) - length needle ≡ length front = omega (arith, length-append front needle) in
    rw (at, drop-append_seam front needle) ((bytes_eq-Decides needle needle).1 refl)

-- lines of which one has text, and an empty line
line_behind : (front needle : List ℕ) → list_any is_text_byte front ≡ true → ends_line (front ++ needle) ≡ true → ends_head (front ++ needle) ≡ true
unfolding ends_head
line_behind front needle some ends =
    let text : list_any is_text_byte (front ++ needle) ≡ true = list_any-append is_text_byte front needle ∙ ap (λ x. x || list_any is_text_byte needle) some in
    rw (text, ends) refl

or_true : (a : Bool) → (a || true) ≡ true
or_true true = refl
or_true false = refl

ends_line_of : (front : List ℕ) (last : LineEnd) → ends_line ((front ++ 10 ∷ []) ++ print_end last) ≡ true
ends_line_of front crlf =
    rw (append_assoc front (10 ∷ []) (13 ∷ 10 ∷ []), ends_with-append front (10 ∷ 13 ∷ 10 ∷ [])) (or_true (ends_with nat_eq (front ++ 10 ∷ 13 ∷ 10 ∷ []) (10 ∷ 10 ∷ [])))
ends_line_of front lf = rw (append_assoc front (10 ∷ []) (10 ∷ []), ends_with-append front (10 ∷ 10 ∷ [])) refl

-- ---- a head whose lines a walk passes through, and an empty line

-- the last line without its LF
abbrev opening : LineEnd → List ℕ
opening crlf = 13 ∷ []
opening lf = []

print_end-parts : (last : LineEnd) → print_end last ≡ opening last ++ 10 ∷ []
print_end-parts crlf = refl
print_end-parts lf = refl

not_ended : (front : List ℕ) (last : LineEnd) → walk blank front ≡ fresh → walk blank (front ++ opening last) ≡ ended → ⊥
not_ended front crlf is end = let other = walk-append blank fresh cut front (13 ∷ []) is refl in cc
not_ended front lf is end = let other = walk-append blank fresh fresh front [] is refl in cc

first_end : (front : List ℕ) (last : LineEnd) → walk blank front ≡ fresh → (k : ℕ) → k < length (front ++ print_end last) → ends_head (take k (front ++ print_end last)) ≡ true → ⊥
first_end front last is k within ends =
    let body : List ℕ = front ++ opening last in
    let parts : front ++ print_end last ≡ body ++ 10 ∷ [] = ap (λ l. front ++ l) (print_end-parts last) ∙ sym (append_assoc front (opening last) (10 ∷ [])) in
    let inside_ : k ≤ length body = omega (arith, within, ap length parts, length-append body (10 ∷ [])) in
    let same : take k (front ++ print_end last) ≡ take k body = ap (take k) parts ∙ take-append-le k body (10 ∷ []) inside_ in
    let early : walk blank (take k body) ≡ ended = sym (ap (walk blank) same) ∙ walk_of_head (take k (front ++ print_end last)) ends in
    let all : walk blank (take k body ++ drop k body) ≡ ended = walk-append blank ended ended (take k body) (drop k body) early (stays_ended (drop k body)) in
    not_ended front last is (sym (ap (walk blank) (take-append-drop k body)) ∙ all)

ended_by : (front : List ℕ) (last : LineEnd) → walk blank front ≡ fresh → IsEnded (front ++ print_end last)
ended_by front last is = record {
  ends = last_end (ends_in_lf blank front is);
  first = λ k within. elim (cases_Bool (ends_head (take k (front ++ print_end last)))) [ inl early ↦ absurd (first_end front last is k within early) | inr apart ↦ apart ];
}
  where
    text : list_any is_text_byte front ≡ true
    text = sym (begun blank front) ∙ ap has_begun is

    last_end : ((front ≡ []) × (blank ≡ fresh)) ⊎ ((lines : List ℕ) × (front ≡ lines ++ 10 ∷ [])) → ends_head (front ++ print_end last) ≡ true
    last_end (inl none) = let no = none.1 in cc
    last_end (inr some) = line_behind front (print_end last) text (ap (λ l. ends_line (l ++ print_end last)) some.1 ∙ ends_line_of some.0 last)

-- ---- the lines of a head

not_or : (a b : Bool) → not (a || b) ≡ true → (a ≡ false) × (b ≡ false)
not_or true b e = absurd (no e)
  where
    no : false ≡ true → ⊥
    no e = cc
not_or false true e = absurd (no e)
  where
    no : false ≡ true → ⊥
    no e = cc
not_or false false e = (refl, refl)

abbrev IsText : List ℕ → Type 0
IsText bytes = list_all is_text_byte bytes ≡ true

-- text inside a line
text_walk : (bytes : List ℕ) → IsText bytes → walk inside bytes ≡ inside
text_walk [] all = refl
text_walk (b ∷ bytes) all =
    let parts = both (is_text_byte b) (list_all is_text_byte bytes) all in
    let plain = not_or (b == 13) (b == 10) parts.0 in
    rw plain.1 (text_walk bytes parts.1)

-- text that begins a line
data MayBegin : Line → Type 0 where
  at_blank : MayBegin blank
  at_fresh : MayBegin fresh

text_begins : (s : Line) → MayBegin s → (bytes : List ℕ) → 0 < length bytes → IsText bytes → walk s bytes ≡ inside
text_begins s may [] some all = absurd (omega arith)
text_begins blank at_blank (b ∷ bytes) some all =
    let parts = both (is_text_byte b) (list_all is_text_byte bytes) all in
    rw parts.0 (text_walk bytes parts.1)
text_begins fresh at_fresh (b ∷ bytes) some all =
    let parts = both (is_text_byte b) (list_all is_text_byte bytes) all in
    let plain = not_or (b == 13) (b == 10) parts.0 in
    rw (plain.1, plain.0) (text_walk bytes parts.1)
text_begins inside may (b ∷ bytes) some all = elim may [ ]
text_begins cut may (b ∷ bytes) some all = elim may [ ]
text_begins ended may (b ∷ bytes) some all = elim may [ ]

-- bytes of a class in which there is neither CR nor LF
text_of : (test : ℕ → Bool) → test 13 ≡ false → test 10 ≡ false → (bytes : List ℕ) → AllPass test bytes → IsText bytes
text_of test no_cr no_lf [] all = refl
text_of test no_cr no_lf (b ∷ bytes) all =
    let first : is_text_byte b ≡ true = plain (cases_Bool (b == 13)) (cases_Bool (b == 10)) in
    rw first (text_of test no_cr no_lf bytes (λ i d within. all (suc i) d (omega (arith, within))))
  where
    passes : test b ≡ true
    passes = all 0 0 (omega arith)

    plain : ((b == 13) ≡ true) ⊎ ((b == 13) ≡ false) → ((b == 10) ≡ true) ⊎ ((b == 10) ≡ false) → is_text_byte b ≡ true
    plain (inl cr) other = absurd (let same = ap test (eqb-true b 13 cr) in let is = passes in cc)
    plain (inr other) (inl lf_) = absurd (let same = ap test (eqb-true b 10 lf_) in let is = passes in cc)
    plain (inr other) (inr none) = rw (other, none) refl

token_text : (bytes : List ℕ) → AllPass is_token_byte bytes → IsText bytes
unfolding is_token_byte
token_text bytes all = text_of is_token_byte refl refl bytes all

line_end : (e : LineEnd) → walk inside (print_end e) ≡ fresh
line_end crlf = refl
line_end lf = refl

blank_lines : (ends : List LineEnd) → walk blank (print_blank ends) ≡ blank
blank_lines [] = refl
blank_lines (crlf ∷ ends) = blank_lines ends
blank_lines (lf ∷ ends) = blank_lines ends

field_parts : (f : Field) → print_field f ≡ f.name ++ (58 ∷ (f.raw ++ print_end f.end))
field_parts f = regroup f.name f.raw (print_end f.end)
  where
    regroup : (a b c : List ℕ) → a ++ 58 ∷ b ++ c ≡ a ++ (58 ∷ (b ++ c))
    regroup a b c = simp (append_assoc, cons-append)

field_line : (f : Field) → IsField f → walk fresh (print_field f) ≡ fresh
field_line f is =
    ap (walk fresh) (field_parts f)
    ∙ walk-append fresh inside fresh f.name (58 ∷ (f.raw ++ print_end f.end)) (text_begins fresh at_fresh f.name is.name.0 (token_text f.name is.name.1))
    (walk-append inside inside fresh f.raw (print_end f.end) (text_walk f.raw (text_of is_value_byte refl refl f.raw is.raw)) (line_end f.end))

field_lines : (fields : List Field) → All IsField fields → walk fresh (flat_map print_field fields) ≡ fresh
field_lines [] all = refl
field_lines (f ∷ fields) all =
    walk-append fresh fresh fresh (print_field f) (flat_map print_field fields) (field_line f (all 0 f (omega arith)))
    (field_lines fields (λ i d within. all (suc i) d (omega (arith, within))))

version_text : (minor : ℕ) → minor ≤ 1 → IsText (print_version minor)
version_text zero few = refl
version_text (suc zero) few = refl
version_text (suc (suc n)) few = absurd (omega (arith, few))

-- ---- requests

abbrev request_front : RequestHead → List ℕ
request_front h =
    print_blank h.blank ++ (h.method ++ 32 ∷ (h.target ++ 32 ∷ (print_version h.minor ++ (print_end h.line_end ++ flat_map print_field h.fields))))

request_parts : (h : RequestHead) → print_request h ≡ request_front h ++ print_end h.last
unfolding print_request
request_parts h = regroup (print_blank h.blank) h.method h.target (print_version h.minor) (print_end h.line_end) (flat_map print_field h.fields) (print_end h.last)
  where
    regroup : (a b c d e f l : List ℕ)
        → a ++ b ++ 32 ∷ c ++ 32 ∷ d ++ e ++ (f ++ l) ≡ (a ++ (b ++ 32 ∷ (c ++ 32 ∷ (d ++ (e ++ f))))) ++ l
    regroup a b c d e f l = simp (append_assoc, cons-append)

request_walk : (h : RequestHead) → IsRequestHead h → walk blank (request_front h) ≡ fresh
request_walk h is =
    let lines = walk-append inside fresh fresh (print_end h.line_end) (flat_map print_field h.fields) (line_end h.line_end) (field_lines h.fields is.fields) in
    let version = walk-append inside inside fresh (print_version h.minor) (print_end h.line_end ++ flat_map print_field h.fields) (text_walk (print_version h.minor) (version_text h.minor is.minor)) lines in
    let target = walk-append inside inside fresh h.target (32 ∷ (print_version h.minor ++ (print_end h.line_end ++ flat_map print_field h.fields)))
    (text_walk h.target (text_of is_uri_byte refl refl h.target is.target.1)) version in
    let method = walk-append blank inside fresh h.method (32 ∷ (h.target ++ 32 ∷ (print_version h.minor ++ (print_end h.line_end ++ flat_map print_field h.fields))))
    (text_begins blank at_blank h.method is.method.0 (token_text h.method is.method.1)) target in
    walk-append blank blank fresh (print_blank h.blank) (h.method ++ 32 ∷ (h.target ++ 32 ∷ (print_version h.minor ++ (print_end h.line_end ++ flat_map print_field h.fields)))) (blank_lines h.blank) method

pub request_ends : (h : RequestHead) → IsRequestHead h → IsEnded (print_request h)
request_ends h is = subst IsEnded (sym (request_parts h)) (ended_by (request_front h) h.last (request_walk h is))

-- ---- responses

abbrev response_front : ResponseHead → List ℕ
response_front h =
    print_blank h.blank ++ (print_version h.minor ++ 32 ∷ (h.digits ++ (print_reason h.reason ++ (print_end h.line_end ++ flat_map print_field h.fields))))

response_parts : (h : ResponseHead) → print_response h ≡ response_front h ++ print_end h.last
unfolding print_response
response_parts h = regroup (print_blank h.blank) (print_version h.minor) h.digits (print_reason h.reason) (print_end h.line_end) (flat_map print_field h.fields) (print_end h.last)
  where
    regroup : (a b c d e f l : List ℕ)
        → a ++ b ++ 32 ∷ c ++ d ++ e ++ (f ++ l) ≡ (a ++ (b ++ 32 ∷ (c ++ (d ++ (e ++ f))))) ++ l
    regroup a b c d e f l = simp (append_assoc, cons-append)

reason_text : (reason : Option (List ℕ)) → AllPass is_value_byte (reason_phrase reason) → IsText (print_reason reason)
reason_text None all = refl
reason_text (Some phrase) all = text_of is_value_byte refl refl phrase all

version_is_some : (minor : ℕ) → 0 < length (print_version minor)
version_is_some minor = omega arith

response_walk : (h : ResponseHead) → IsResponseHead h → walk blank (response_front h) ≡ fresh
response_walk h is =
    let lines = walk-append inside fresh fresh (print_end h.line_end) (flat_map print_field h.fields) (line_end h.line_end) (field_lines h.fields is.fields) in
    let reason = walk-append inside inside fresh (print_reason h.reason) (print_end h.line_end ++ flat_map print_field h.fields) (text_walk (print_reason h.reason) (reason_text h.reason is.reason)) lines in
    let code = walk-append inside inside fresh h.digits (print_reason h.reason ++ (print_end h.line_end ++ flat_map print_field h.fields)) (text_walk h.digits (text_of is_ascii_digit refl refl h.digits is.digits.1)) reason in
    let version = walk-append blank inside fresh (print_version h.minor) (32 ∷ (h.digits ++ (print_reason h.reason ++ (print_end h.line_end ++ flat_map print_field h.fields))))
    (text_begins blank at_blank (print_version h.minor) (version_is_some h.minor) (version_text h.minor is.minor)) code in
    walk-append blank blank fresh (print_blank h.blank) (print_version h.minor ++ 32 ∷ (h.digits ++ (print_reason h.reason ++ (print_end h.line_end ++ flat_map print_field h.fields)))) (blank_lines h.blank) version

pub response_ends : (h : ResponseHead) → IsResponseHead h → IsEnded (print_response h)
response_ends h is = subst IsEnded (sym (response_parts h)) (ended_by (response_front h) h.last (response_walk h is))
