-- Texts that begin with a head by the grammar, and those that begin with none.
use Rattle.std.proofs.Common.{◌≡◌, ◌≤◌, ◌<◌, ℕ, ◌+◌, List, [], ◌∷◌, ◌++◌, length, take, drop, ap, sym, ◌∙◌, refl, subst, inl, inr, arith, append-nil, take-append-drop, length-append, Ok, Err, Result, true, false}
use Rattle.std.proofs.lemmas.List.{take-append-le, take_all}
use Rattle.std.proofs.lemmas.Bool.{cases_lt}
use Rattle.std.proofs.Math.Seq.{take-append_seam}
use Rattle.std.specs.Prelude.{map, IsTrue}
use Rattle.httparse.proofs.GrammarLemmas.{request_prefix_free, response_prefix_free, ReadsRequest-append, ReadsResponse-append}
use Rattle.httparse.specs.Grammar.{RequestHead, ResponseHead, print_request, print_response, status_code}
use Rattle.httparse.specs.Spans.{name_and_value}
use Rattle.st_http.specs.declared.error.HttpError.{HttpError}
use Rattle.st_http.specs.declared.verdict.Lawful.{Lawful}
use Rattle.st_http.specs.Head.{IsOpen, IsOver, ends_head, head_limit}
use Rattle.st_http.specs.Verdict.{Expected, request, response, Begins, IsRequest, IsResponse, request_verdict, response_verdict, no_head}
use Rattle.st_http.specs.Message.{IsNoHead, IsRefused}
use Rattle.st_http.specs.Phases.{IsEnded, IsVerdict, IsRequestHead, IsResponseHead}
use Rattle.st_http.proofs.Lines.{request_ends, response_ends}

-- one head, one verdict, and what follows
pub one_beginning : (expected : Expected) (text more : List ℕ) (a b : Result Lawful HttpError) (rest other : List ℕ)
    → Begins expected text a rest → Begins expected (text ++ more) b other → (a ≡ b) × (rest ++ more ≡ other)
one_beginning (request tokens) text more a b rest other x y =
    let same = request_prefix_free text more x.0 y.0 rest other x.1.reads y.1.reads in
    (x.2 ∙ ap (λ (h : RequestHead). request_verdict tokens h.target h.method (map name_and_value h.fields)) same.0 ∙ sym y.2, same.1)
one_beginning response text more a b rest other x y =
    let same = response_prefix_free text more x.0 y.0 rest other x.1.reads y.1.reads in
    (x.2 ∙ ap (λ (h : ResponseHead). response_verdict (status_code h) (map name_and_value h.fields)) same.0 ∙ sym y.2, same.1)

-- the same head in front of more
pub grown : (expected : Expected) (text more : List ℕ) (a : Result Lawful HttpError) (rest : List ℕ) → Begins expected text a rest → Begins expected (text ++ more) a (rest ++ more)
grown (request tokens) text more a rest x = (x.0, record { reads = ReadsRequest-append text x.0 rest more x.1.reads; short = x.1.short; few = x.1.few }, x.2)
grown response text more a rest x = (x.0, record { reads = ReadsResponse-append text x.0 rest more x.1.reads; short = x.1.short; few = x.1.few }, x.2)

-- the bytes of the head that a text begins with
pub record HasFront (text rest : List ℕ) : Type 0 where
  pub head : List ℕ
  pub parts : text ≡ head ++ rest
  pub ended : IsEnded head
  pub short : length head ≤ head_limit

pub front_of : (expected : Expected) (text : List ℕ) (a : Result Lawful HttpError) (rest : List ℕ) → Begins expected text a rest → HasFront text rest
front_of (request tokens) text a rest x = record {
  head = print_request x.0;
  parts = x.1.reads.1;
  ended = request_ends x.0 x.1.reads.0;
  short = x.1.short;
}
front_of response text a rest x = record {
  head = print_response x.0;
  parts = x.1.reads.1;
  ended = response_ends x.0 x.1.reads.0;
  short = x.1.short;
}

-- a head ends in a text that begins with one
pub not_open : (text rest : List ℕ) → HasFront text rest → IsOpen text → ⊥
not_open text rest x open_ =
    let whole_length : length text ≡ length x.head + length rest = ap length x.parts ∙ length-append x.head rest in
    let within : length x.head ≤ length text = omega (arith, whole_length) in
    let front : take (length x.head) text ≡ x.head = ap (take (length x.head)) x.parts ∙ take-append_seam x.head rest in
    let apart : ends_head x.head ≡ false = subst (λ t. ends_head t ≡ false) front (open_ (length x.head) within) in
    let yes = x.ended.ends in
    cc

-- a text that is over has the head in it that it begins with more
within_text : (text more rest head : List ℕ) → text ++ more ≡ head ++ rest → IsEnded head → length head ≤ head_limit → IsOver text → length head ≤ length text
within_text text more rest head same ended short over = elim (cases_lt (length text) (length head)) [
  | inl less ↦ absurd (no_end less over)
  | inr all ↦ omega (arith, all)
]
  where
    no_end : length text < length head → IsOver text → ⊥
    no_end less (inr long) = omega (arith, less, long, short)
    no_end less (inl found) =
        let k : ℕ = found.0 in
        let inside : k ≤ length head = omega (arith, found.1, less) in
        let early : k < length head = omega (arith, found.1, less) in
        let alike : take k text ≡ take k head = sym (take-append-le k text more found.1) ∙ ap (take k) same ∙ take-append-le k head rest inside in
        let apart : ends_head (take k text) ≡ false = subst (λ t. ends_head t ≡ false) (sym alike) (ended.first k early) in
        let yes : ends_head (take k text) ≡ true = found.2 in
        cc

text_parts : (text more rest head : List ℕ) → text ++ more ≡ head ++ rest → length head ≤ length text → text ≡ head ++ drop (length head) text
text_parts text more rest head same within =
    let front : take (length head) text ≡ head = sym (take-append-le (length head) text more within) ∙ ap (take (length head)) same ∙ take-append_seam head rest in
    sym (take-append-drop (length head) text) ∙ ap (λ l. l ++ drop (length head) text) front

-- a text that is over begins with the head that it begins with when more follows
pub shortened : (expected : Expected) (text more : List ℕ) (a : Result Lawful HttpError) (rest : List ℕ) → Begins expected (text ++ more) a rest → IsOver text
    → (part : List ℕ) × Begins expected text a part
shortened (request tokens) text more a rest x over =
    let head : List ℕ = print_request x.0 in
    let within = within_text text more rest head x.1.reads.1 (request_ends x.0 x.1.reads.0) x.1.short over in
    (drop (length head) text, (x.0, record { reads = (x.1.reads.0, text_parts text more rest head x.1.reads.1 within); short = x.1.short; few = x.1.few }, x.2))
shortened response text more a rest x over =
    let head : List ℕ = print_response x.0 in
    let within = within_text text more rest head x.1.reads.1 (response_ends x.0 x.1.reads.0) x.1.short over in
    (drop (length head) text, (x.0, record { reads = (x.1.reads.0, text_parts text more rest head x.1.reads.1 within); short = x.1.short; few = x.1.few }, x.2))

pub over_grows : (text more : List ℕ) → IsOver text → IsOver (text ++ more)
over_grows text more (inl found) =
    inl (found.0, omega (arith, found.1, length-append text more), subst (λ t. IsTrue (ends_head t)) (sym (take-append-le found.0 text more found.1)) found.2)
over_grows text more (inr long) = inr (omega (arith, long, length-append text more))

-- what is not a head does not become one
pub no_head_grows : (expected : Expected) (text more : List ℕ) → IsNoHead expected text → IsNoHead expected (text ++ more)
no_head_grows expected text more is =
    (over_grows text more is.0, λ a rest x. let early = shortened expected text more a rest x is.0 in is.1 a early.0 early.1)

-- ---- from what the code finds: the bytes up to an empty line are a head, or none

request_begins : (head rest : List ℕ) (h : RequestHead) → IsRequestHead head h → length head ≤ head_limit → IsRequest (head ++ rest) h rest
request_begins head rest h is short = record {
  reads = ReadsRequest-append head h [] rest is.0;
  short = omega (arith, short, ap length is.0.1, length-append (print_request h) []);
  few = is.1;
}

response_begins : (head rest : List ℕ) (h : ResponseHead) → IsResponseHead head h → length head ≤ head_limit → IsResponse (head ++ rest) h rest
response_begins head rest h is short = record {
  reads = ReadsResponse-append head h [] rest is.0;
  short = omega (arith, short, ap length is.0.1, length-append (print_response h) []);
  few = is.1;
}

-- a lawful head, and what follows
pub lawful_begins : (expected : Expected) (head rest : List ℕ) (l : Lawful) → IsVerdict expected head (Ok l) → length head ≤ head_limit → Begins expected (head ++ rest) (Ok l) rest
lawful_begins (request tokens) head rest l (inl found) short = (found.0, request_begins head rest found.0 found.1 short, found.2)
lawful_begins (request tokens) head rest l (inr none) short = absurd (let apart = none.1 in cc)
lawful_begins response head rest l (inl found) short = (found.0, response_begins head rest found.0 found.1 short, found.2)
lawful_begins response head rest l (inr none) short = absurd (let apart = none.1 in cc)

over_at_end : (head : List ℕ) → IsEnded head → IsOver head
over_at_end head ended = inl (length head, omega arith, subst (λ t. IsTrue (ends_head t)) (sym (take_all (length head) head (omega arith))) ended.ends)

empty : (l : List ℕ) → length l ≡ 0 → l ≡ []
empty [] none = refl
empty (a ∷ l) none = absurd (omega (arith, none))

-- no head ends inside bytes that end with the first
nothing_follows : (head front rest : List ℕ) → head ≡ front ++ rest → IsEnded head → IsEnded front → rest ≡ []
nothing_follows head front rest parts ended inner = elim (cases_lt (length front) (length head)) [
  | inl early ↦ absurd (
      let same : take (length front) head ≡ front = ap (take (length front)) parts ∙ take-append_seam front rest in
      let apart : ends_head front ≡ false = subst (λ t. ends_head t ≡ false) same (ended.first (length front) early) in
      let yes = inner.ends in
      cc)
  | inr all ↦ empty rest (omega (arith, all, ap length parts, length-append front rest))
]

request_head_of : (head rest : List ℕ) (h : RequestHead) → IsRequest head h rest → IsEnded head → IsRequestHead head h
request_head_of head rest h is ended =
    let none : rest ≡ [] = nothing_follows head (print_request h) rest is.reads.1 ended (request_ends h is.reads.0) in
    ((is.reads.0, is.reads.1 ∙ ap (λ l. print_request h ++ l) none), is.few)

response_head_of : (head rest : List ℕ) (h : ResponseHead) → IsResponse head h rest → IsEnded head → IsResponseHead head h
response_head_of head rest h is ended =
    let none : rest ≡ [] = nothing_follows head (print_response h) rest is.reads.1 ended (response_ends h is.reads.0) in
    ((is.reads.0, is.reads.1 ∙ ap (λ l. print_response h ++ l) none), is.few)

-- bytes up to an empty line that are refused
pub refused_at_end : (expected : Expected) (head : List ℕ) (e : HttpError) → IsVerdict expected head (Err e) → IsEnded head → length head ≤ head_limit → IsRefused expected head e
refused_at_end (request tokens) head e (inl found) ended short =
    inl ([], (found.0, subst (λ t. IsRequest t found.0 []) (append-nil head) (request_begins head [] found.0 found.1 short), found.2))
refused_at_end (request tokens) head e (inr none) ended short =
    inr ((over_at_end head ended, λ a rest x. none.0 x.0 (request_head_of head rest x.0 x.1 ended)), (let same = none.1 in cc))
refused_at_end response head e (inl found) ended short =
    inl ([], (found.0, subst (λ t. IsResponse t found.0 []) (append-nil head) (response_begins head [] found.0 found.1 short), found.2))
refused_at_end response head e (inr none) ended short =
    inr ((over_at_end head ended, λ a rest x. none.0 x.0 (response_head_of head rest x.0 x.1 ended)), (let same = none.1 in cc))

-- bytes up to the limit, without an empty line
pub refused_at_limit : (expected : Expected) (head : List ℕ) → IsOpen head → head_limit ≤ length head → IsRefused expected head (no_head expected)
refused_at_limit expected head open_ long = inr ((inr long, λ a rest x. not_open head rest (front_of expected head a rest x) open_), refl)
