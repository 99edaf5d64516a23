-- What the parser found in bytes up to an empty line is all of them, and the map accepts its fields.
use Rattle.std.proofs.Common.{◌≡◌, ◌≤◌, ℕ, List, ◌++◌, length, take, ap, ◌∙◌, inl, arith, Result, Ok, Err, IfOk}
use Rattle.std.specs.Prelude.{map, All}
use Rattle.std.proofs.lemmas.List.{length-map, length-take, drop_all}
use Rattle.httparse.specs.declared.spans.HeaderSpan.{HeaderSpan}
use Rattle.httparse.specs.declared.spans.RequestSpans.{RequestSpans}
use Rattle.httparse.specs.declared.spans.ResponseSpans.{ResponseSpans}
use Rattle.httparse.specs.Grammar.{RequestHead, ResponseHead, print_request, print_response, Field}
use Rattle.httparse.specs.Spans.{IsRequestAt, IsRequestOf, IsResponseAt, IsResponseOf, header_bytes, span_bytes, AreFieldsAt}
use Rattle.st_http.specs.declared.error.HttpError.{HttpError}
use Rattle.st_http.specs.declared.verdict.Lawful.{Lawful}
use Rattle.st_http.specs.Kept.{IsPair}
use Rattle.st_http.specs.Phases.{IsRequestHead, IsResponseHead, IsVerdict}
use Rattle.st_http.specs.Verdict.{request, response, request_verdict, response_verdict}
use Rattle.st_http.proofs.KeptFields.{all_pairs}

-- no more fields than spans
few_fields : (bytes : List ℕ) (spans : List HeaderSpan) (count : ℕ) (fields : List Field) → AreFieldsAt bytes spans count fields → length fields ≤ length spans
few_fields bytes spans count fields are =
    let same = simp (length-map, length-take) at (ap length are) in
    omega (arith, same)

request_is : (head : List ℕ) (spans : List HeaderSpan) (line : RequestSpans) (h : RequestHead) → IsRequestAt head spans line h → length spans ≡ 64 → length head ≤ line.len → IsRequestHead head h
request_is head spans line h is room all =
    ((is.reads.0, is.reads.1 ∙ ap (λ l. print_request h ++ l) (drop_all line.len head all)), omega (arith, few_fields head spans line.headers h.fields is.fields))

pub request_pairs : (head : List ℕ) (spans : List HeaderSpan) (line : RequestSpans) → IsRequestOf head spans line → All IsPair (map (header_bytes head) (take line.headers spans))
request_pairs head spans line found = all_pairs (map (header_bytes head) (take line.headers spans)) found.0.fields found.1.fields found.1.reads.0.fields

pub request_answered : (tokens : List (List ℕ)) (head : List ℕ) (spans : List HeaderSpan) (line : RequestSpans) (target method : List ℕ) {E : Type 0} (answer : Result (Result Lawful HttpError) E)
    → IsRequestOf head spans line → length spans ≡ 64 → length head ≤ line.len → target ≡ span_bytes head line.path → method ≡ span_bytes head line.method
    → IfOk answer (λ v. v ≡ request_verdict tokens target method (map (header_bytes head) (take line.headers spans)))
    → IfOk answer (IsVerdict (request tokens) head)
request_answered tokens head spans line target method (Ok verdict) found room all path verb is =
    inl (found.0, request_is head spans line found.0 found.1 room all, cc (is, path, verb, found.1.path, found.1.method, found.1.fields))
request_answered tokens head spans line target method (Err e) found room all path verb is = tt

response_is : (head : List ℕ) (spans : List HeaderSpan) (line : ResponseSpans) (h : ResponseHead) → IsResponseAt head spans line h → length spans ≡ 64 → length head ≤ line.len → IsResponseHead head h
response_is head spans line h is room all =
    ((is.reads.0, is.reads.1 ∙ ap (λ l. print_response h ++ l) (drop_all line.len head all)), omega (arith, few_fields head spans line.headers h.fields is.fields))

pub response_pairs : (head : List ℕ) (spans : List HeaderSpan) (line : ResponseSpans) → IsResponseOf head spans line → All IsPair (map (header_bytes head) (take line.headers spans))
response_pairs head spans line found = all_pairs (map (header_bytes head) (take line.headers spans)) found.0.fields found.1.fields found.1.reads.0.fields

pub response_answered : (head : List ℕ) (spans : List HeaderSpan) (line : ResponseSpans) {E : Type 0} (answer : Result (Result Lawful HttpError) E)
    → IsResponseOf head spans line → length spans ≡ 64 → length head ≤ line.len
    → IfOk answer (λ v. v ≡ response_verdict line.code (map (header_bytes head) (take line.headers spans)))
    → IfOk answer (IsVerdict response head)
response_answered head spans line (Ok verdict) found room all is =
    inl (found.0, response_is head spans line found.0 found.1 room all, cc (is, found.1.code, found.1.fields))
response_answered head spans line (Err e) found room all is = tt
