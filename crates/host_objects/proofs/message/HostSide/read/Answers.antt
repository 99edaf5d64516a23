use Rattle.std.proofs.Common.{◌≡◌, ℕ, List, ap, sym, subst, ◌∙◌, Bor}
use Rattle.std.specs.Prelude.{map, string_bytes}
use Rattle.st_http.specs.Verdict.{Expected, request}
use Rattle.st_http.specs.Progress.{Progress}
use Rattle.host_objects.specs.Messages.{expected_of, FindsIn}
use Rattle.host_objects.proofs.message.HostSide.read.Goals as goal

pub returns-in_ok-texts-in-Request : goal.returns-in_ok-texts-in-Request
returns-in_ok-texts-in-Request c =
    let by_texts : c.request.result.expected ≡ request (map (λ (t : Bor (List ℕ)). t.now) c.deref-in-Request.result.now) = ap (λ (r : Progress). r.expected) c.request.ensures in
    let texts : c.request.result.expected ≡ expected_of c.args.self.now =
    by_texts ∙ (ap (λ (xs : List (Bor (List ℕ))). request (map (λ (t : Bor (List ℕ)). t.now) xs)) c.deref-in-Request.ensures.value
    ∙ (ap request c.in_ok-texts-in-Request.ensures ∙ (ap (λ ts. request (map string_bytes ts)) c.deref.ensures.value ∙ ap expected_of (sym c.in-Request.is)))) in
    subst (λ (x : Expected). FindsIn x c.args.given.now c.read_with.result) texts c.read_with.ensures

pub returns-in-Response : goal.returns-in-Response
returns-in-Response c =
    let is : c.response.result.expected ≡ expected_of c.args.self.now = ap (λ (r : Progress). r.expected) c.response.ensures ∙ ap expected_of (sym c.in-Response.is) in
    subst (λ (x : Expected). FindsIn x c.args.given.now c.read_with-in-Response.result) is c.read_with-in-Response.ensures
