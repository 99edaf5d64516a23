-- What a text says is one thing, and stays.
use Rattle.std.proofs.Common.{◌≡◌, ◌≤◌, ◌<◌, ℕ, ◌+◌, ◌-◌, List, [], ◌∷◌, ◌++◌, length, take, ap, sym, ◌∙◌, refl, subst, inl, inr, arith, append-nil, length-append, Option, None, Ok, Err, Result, false}
use Rattle.std.proofs.lemmas.List.{take-append-le}
use Rattle.std.proofs.lemmas.Bool.{cases_lt}
use Rattle.st_http.specs.declared.error.HttpError.{HttpError}
use Rattle.st_http.specs.declared.verdict.Lawful.{Lawful}
use Rattle.st_http.specs.Head.{IsOpen, IsOver, ends_head, head_limit}
use Rattle.st_http.specs.Verdict.{Expected, Begins, no_head}
use Rattle.st_http.specs.Message.{Says, IsRefused, IsNoHead, Standing, unfinished, whole, refused}
use Rattle.st_http.proofs.Begins.{one_beginning, grown, front_of, not_open, no_head_grows, over_grows}

-- if a text has no empty line, neither has its front
open_in_front : (text more : List ℕ) → IsOpen (text ++ more) → IsOpen text
open_in_front text more open_ = λ k within.
    let inside : k ≤ length (text ++ more) = omega (arith, length-append text more) in
    let same : take k (text ++ more) ≡ take k text = take-append-le k text more within in
    subst (λ t. ends_head t ≡ false) same (open_ k inside)

begun_is_not_open : (expected : Expected) (text more : List ℕ) (a : Result Lawful HttpError) (rest : List ℕ) → Begins expected text a rest → IsOpen (text ++ more) → ⊥
begun_is_not_open expected text more a rest x open_ = not_open text rest (front_of expected text a rest x) (open_in_front text more open_)

over_is_not_open : (text : List ℕ) → IsOver text → IsOpen text → length text < head_limit → ⊥
over_is_not_open text (inl found) open_ short = let yes = found.2 in let apart = open_ found.0 found.1 in cc
over_is_not_open text (inr long) open_ short = omega (arith, long, short)

empty : (l : List ℕ) → length l ≡ 0 → l ≡ []
empty [] none = refl
empty (a ∷ l) none = absurd (omega (arith, none))

-- a refusal by the rules is all that is said, whatever follows
rules_once : (expected : Expected) (text more : List ℕ) (e : HttpError) (rest : List ℕ) (t : Standing) → Begins expected text (Err e) rest → Says expected (text ++ more) t → refused e ≡ t
rules_once expected text more e rest (refused f) x (inl y) = let same = (one_beginning expected text more (Err e) (Err f) rest y.0 x y.1).0 in cc
rules_once expected text more e rest (refused f) x (inr y) = absurd (y.0.1 (Err e) (rest ++ more) (grown expected text more (Err e) rest x))
rules_once expected text more e rest (whole account body) x y = let same = (one_beginning expected text more (Err e) (Ok (record { account = account; size = length body })) rest body x y).0 in cc
rules_once expected text more e rest (unfinished w) x (inl y) = absurd (begun_is_not_open expected text more (Err e) rest x y.0)
rules_once expected text more e rest (unfinished w) x (inr y) = let same = (one_beginning expected text more (Err e) (Ok y.1) rest y.0 x y.2).0 in cc

-- a text that is not a head has no other meaning, whatever follows
no_head_once : (expected : Expected) (text more : List ℕ) (e : HttpError) (t : Standing) → IsNoHead expected text → e ≡ no_head expected → Says expected (text ++ more) t → refused e ≡ t
no_head_once expected text more e (refused f) is by (inl y) = absurd ((no_head_grows expected text more is).1 (Err f) y.0 y.1)
no_head_once expected text more e (refused f) is by (inr y) = let other = y.1 in cc
no_head_once expected text more e (whole account body) is by y = absurd ((no_head_grows expected text more is).1 (Ok (record { account = account; size = length body })) body y)
no_head_once expected text more e (unfinished w) is by (inl y) = absurd (over_is_not_open (text ++ more) (over_grows text more is.0) y.0 y.1)
no_head_once expected text more e (unfinished w) is by (inr y) = absurd ((no_head_grows expected text more is).1 (Ok y.1) y.0 y.2)

-- a refusal is all that is said, whatever follows
pub refused_once : (expected : Expected) (text more : List ℕ) (e : HttpError) (t : Standing) → IsRefused expected text e → Says expected (text ++ more) t → refused e ≡ t
refused_once expected text more e t (inl x) says = rules_once expected text more e x.0 t x.1 says
refused_once expected text more e t (inr x) says = no_head_once expected text more e t x.0 x.1 says

-- the parts of a lawful answer
size_in : Result Lawful HttpError → ℕ
size_in (Ok l) = l.size
size_in (Err e) = 0

account_in : Result Lawful HttpError → Option ℕ
account_in (Ok l) = l.account
account_in (Err e) = None

-- a whole message is all that is said, and no byte follows that belongs to it
pub whole_once : (expected : Expected) (text more : List ℕ) (account : Option ℕ) (body : List ℕ) (t : Standing) → Says expected text (whole account body) → Says expected (text ++ more) t
    → (whole account body ≡ t) × (more ≡ [])
unfolding size_in account_in
whole_once expected text more account body (refused f) is (inl y) =
    let same = (one_beginning expected text more (Ok (record { account = account; size = length body })) (Err f) body y.0 is y.1).0 in absurd (let apart = same in cc)
whole_once expected text more account body (refused f) is (inr y) = absurd (y.0.1 (Ok (record { account = account; size = length body })) (body ++ more) (grown expected text more (Ok (record { account = account; size = length body })) body is))
whole_once expected text more account body (whole b other) is says =
    let one = one_beginning expected text more (Ok (record { account = account; size = length body })) (Ok (record { account = b; size = length other })) body other is says in
    let accounts : account ≡ b = ap account_in one.0 in
    let sizes : length body ≡ length other = ap size_in one.0 in
    let nothing : more ≡ [] = empty more (omega (arith, sizes, ap length one.1, length-append body more)) in
    let bodies : body ≡ other = sym (append-nil body) ∙ ap (λ l. body ++ l) (sym nothing) ∙ one.1 in
    (cc, nothing)
whole_once expected text more account body (unfinished w) is (inl y) = absurd (begun_is_not_open expected text more (Ok (record { account = account; size = length body })) body is y.0)
whole_once expected text more account body (unfinished w) is (inr y) =
    let one = one_beginning expected text more (Ok (record { account = account; size = length body })) (Ok y.1) body y.0 is y.2 in
    let sizes : length body ≡ y.1.size = ap size_in one.0 in
    absurd (omega (arith, sizes, y.3, ap length one.1, length-append body more))

-- an unfinished message wants a byte at least, and no more than it must still have
pub wants_enough : (expected : Expected) (text more : List ℕ) (wants : ℕ) (account : Option ℕ) (body : List ℕ) → Says expected text (unfinished wants) → Says expected (text ++ more) (whole account body)
    → (1 ≤ wants) × (wants ≤ length more)
unfolding size_in
wants_enough expected text more wants account body (inl open_) is = elim (cases_lt 0 (length more)) [
  | inl some ↦ (let one : wants ≡ 1 = open_.2 in (omega (arith, one), omega (arith, one, some)))
  | inr none ↦
      (let nothing : more ≡ [] = empty more (omega (arith, none)) in
      let lawful : Result Lawful HttpError = Ok (record { account = account; size = length body }) in
      absurd (not_open text body (front_of expected text lawful body (subst (λ t. Begins expected t lawful body) (ap (λ m. text ++ m) nothing ∙ append-nil text) is)) open_.0))
]
wants_enough expected text more wants account body (inr y) is =
    let one = one_beginning expected text more (Ok y.1) (Ok (record { account = account; size = length body })) y.0 body y.2 is in
    let sizes : y.1.size ≡ length body = ap size_in one.0 in
    let joined : length y.0 + length more ≡ length body = sym (length-append y.0 more) ∙ ap length one.1 in
    let short : length y.0 < y.1.size = y.3 in
    let is_ : wants ≡ y.1.size - length y.0 = y.4 in
    (omega arith, omega arith)
