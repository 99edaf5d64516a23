-- What a head and a body say together.
use Rattle.std.proofs.Common.{◌≡◌, ℕ, ◌+◌, suc, zero, List, [], ◌∷◌, ◌++◌, length, take, drop, ap, sym, ◌∙◌, refl, inr, arith, append-nil, append_assoc, Ok, Result, subst, inl}
use Rattle.std.proofs.Math.Seq.{take-nil}
use Rattle.std.proofs.Math.Nat.{zero-add, suc-add}
use Rattle.std.proofs.lemmas.Bool.{cases_lt, le-ltb, lt-ltb}
use Rattle.st_http.specs.declared.error.HttpError.{HttpError}
use Rattle.st_http.specs.declared.reading.Phase.{Phase}
use Rattle.st_http.specs.declared.reading.Phase.TheVariants.{Head, Body, Refused}
use Rattle.st_http.specs.declared.verdict.Lawful.{Lawful}
use Rattle.st_http.specs.Head.{IsOpen, ends_head}
use Rattle.st_http.specs.Verdict.{Expected, Begins}
use Rattle.st_http.specs.Message.{Says}
use Rattle.st_http.proofs.Begins.{lawful_begins}
use Rattle.st_http.specs.Phases.{IsInside, IsLawful, standing_of, standing_of_body}

pub open_nothing : IsOpen []
unfolding ends_head
open_nothing k within = rw (take-nil {A = ℕ} k) refl

pub take_sum : (s : List ℕ) (i n : ℕ) → take i s ++ take n (drop i s) ≡ take (i + n) s
take_sum s zero n = rw zero-add refl
take_sum [] (suc i) n = ap (λ l. l) (take-nil {A = ℕ} n) ∙ sym (take-nil {A = ℕ} (suc i + n))
take_sum (a ∷ s) (suc i) n = rw suc-add (ap (λ l. a ∷ l) (take_sum s i n))

-- two parts of one chunk, read one after the other
pub taken_in_two : (head body piece : List ℕ) (t m : ℕ) → body ≡ [] → (head ++ take t piece) ++ take m (drop t piece) ≡ (head ++ body) ++ take (t + m) piece
taken_in_two head body piece t m none =
    rw (none, append-nil head, append_assoc head (take t piece) (take m (drop t piece)), take_sum piece t m) refl

lawful_says : (expected : Expected) (l : Lawful) (head body : List ℕ) → IsLawful expected l head body → Says expected (head ++ body) (standing_of_body l body)
lawful_says expected l head body lawful =
    let begins : Begins expected (head ++ body) (Ok l) body = lawful_begins expected head body l lawful.verdict lawful.short in
    elim (cases_lt (length body) l.size) [
      | inl some ↦ rw (lt-ltb (length body) l.size some) (inr (body, l, begins, some, refl))
      | inr all ↦
          (let same : l.size ≡ length body = omega (arith, lawful.within) in
          let answer : Result Lawful HttpError → Type 0 = λ a. Begins expected (head ++ body) a body in
          rw (le-ltb (length body) l.size all) (subst answer (ap (λ n. Ok (record { account = l.account; size = n })) same) begins))
    ]

pub says : (expected : Expected) (phase : Phase) (head body : List ℕ) → IsInside expected phase head body → Says expected (head ++ body) (standing_of phase body)
says expected Head head body inside = inl (rw (inside.2, append-nil head) (inside.0, inside.1, refl))
says expected (Body l) head body inside = lawful_says expected l head body inside
says expected (Refused e) head body inside = rw (inside.1, append-nil head) inside.0
