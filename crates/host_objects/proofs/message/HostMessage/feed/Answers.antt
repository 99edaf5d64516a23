use Rattle.std.proofs.Common.{◌≡◌, ◌⊎◌, ◌++◌, ℕ, List, take, refl, ap, subst, ◌∙◌, arith, take_at}
use Rattle.st_http.specs.declared.error.HttpError.TheVariants.{NoMemory}
use Rattle.host_objects.specs.Messages.{expected_of, BeginRefused}
use Rattle.host_objects.proofs.message.HostMessage.feed.Goals as goal

pub returns-in-Err : goal.returns-in-Err
returns-in-Err c =
    let given = c.args.self.now.given in
    let all : c.deref.result.now ≡ given.items ++ c.args.bytes.now = c.deref.ensures.value ∙ c.in_ok-extend_from_slice.ensures.items in
    let cut : c.truncate.new.self.items ≡ given.items =
    c.truncate.ensures.items ∙ (ap (λ (xs : List ℕ). take c.len-before.result xs) c.in_ok-extend_from_slice.ensures.items ∙ take_at given.items c.args.bytes.now c.len-before.result (omega (arith, given.ok.0))) in
    (record { side_is = refl; given_are = cut; output_is = refl }, subst (λ (xs : List ℕ). (c.in-Err.error ≡ NoMemory) ⊎ BeginRefused (expected_of c.args.self.now.side) xs c.in-Err.error) all c.in-Err.ensures)
