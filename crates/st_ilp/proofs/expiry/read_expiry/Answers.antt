use Rattle.std.proofs.Common.{◌≡◌, refl, rules, sym, ◌∙◌, ap, to_z, of_z, w64}
use Rattle.std.specs.Prelude.{Bool, true, false, not, bytes_eq}
use Rattle.std.proofs.lemmas.Slice.Eq.{bytes_eq-Decides}
use Rattle.st_ilp.specs.Calendar.{Exists, milliseconds}
use Rattle.st_ilp.specs.Expiry.{digits_of}
use Rattle.st_ilp.specs.Dates.{seen}
use Rattle.st_ilp.specs.Inside.{named_by}
use Rattle.st_ilp.proofs.DateLemmas.{date_is}
use Rattle.st_ilp.proofs.ExpiryTexts.{expiry_only, expiry_refused}
use Rattle.st_ilp.proofs.expiry.read_expiry.Goals as goal

not_false : (b : Bool) → false ≡ not b → b ≡ true
not_false true e = refl
not_false false e = absurd (cc)

pub returns-in_default : goal.returns-in_default
returns-in_default c = expiry_refused c.args.text.now (λ millis e. search (rules, e.2))

pub returns-in_default-named : goal.returns-in_default-named
returns-in_default-named c = expiry_refused c.args.text.now (λ millis e.
    let copy : c.in-Ok.text ≡ c.args.text.now = c.in-Ok.ensures.1.same in
    let parts : named_by c.numbers_of.result ≡ e.0 = c.numbers_of.ensures e.0 e.1 (copy ∙ e.2) in
    let is : Exists (named_by c.numbers_of.result) = rw parts e.1 in
    search (rules, is))

pub returns-then-ne : goal.returns-then-ne
returns-then-ne c = expiry_refused c.args.text.now (λ millis e.
    let copy : c.in-Ok.text ≡ c.args.text.now = c.in-Ok.ensures.1.same in
    let parts : named_by c.numbers_of.result ≡ e.0 = c.numbers_of.ensures e.0 e.1 (copy ∙ e.2) in
    let is : Exists (named_by c.numbers_of.result) = rw parts e.1 in
    let at : seen c.in-Some.at ≡ e.0 = c.in-Some.ensures.found is ∙ parts in
    let same : c.datetime_text.result ≡ c.in-Ok.text = c.datetime_text.ensures ∙ ap digits_of at ∙ sym e.2 ∙ sym copy in
    let test : bytes_eq c.datetime_text.result c.in-Ok.text ≡ true = (bytes_eq-Decides c.datetime_text.result c.in-Ok.text).1 same in
    let no : true ≡ not (bytes_eq c.datetime_text.result c.in-Ok.text) = c.if-ne.ensures in
    let bad = rw test at no in
    absurd cc)

pub returns : goal.returns
returns c =
    let copy : c.in-Ok.text ≡ c.args.text.now = c.in-Ok.ensures.1.same in
    let same : c.datetime_text.result ≡ c.in-Ok.text = (bytes_eq-Decides c.datetime_text.result c.in-Ok.text).0 (not_false (bytes_eq c.datetime_text.result c.in-Ok.text) c.if-ne.ensures) in
    let value : to_z w64 (of_z w64 c.millis_of.result) ≡ milliseconds (seen c.in-Some.at) = search (rules, c.millis_of.ensures) in
    expiry_only c.args.text.now (to_z w64 (of_z w64 c.millis_of.result)) (seen c.in-Some.at, date_is c.in-Some.at c.in-Some.ensures.year, sym copy ∙ sym same ∙ c.datetime_text.ensures, value)
