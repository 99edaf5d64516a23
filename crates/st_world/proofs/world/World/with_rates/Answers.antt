use Rattle.std.proofs.Common.{◌≡◌, true, false, sym, ◌∙◌, refl, rules, arith}
use Rattle.std.proofs.lemmas.Grind.{common_steps}
use Rattle.st_world.specs.Runs.{is_chain}
use Rattle.st_world.specs.Chains.{chain_of}
use Rattle.st_world.proofs.Openings.{chain_lawful}
use Rattle.st_world.proofs.world.World.with_rates.Goals as goal

pub returns-then-not-are_lawful-clause-refused : goal.returns-then-not-are_lawful-clause-refused
returns-then-not-are_lawful-clause-refused g c =
    let no : c.are_lawful.result ≡ false = first_of (search rules, grind (arith, common_steps)) in
    let bad : is_chain (chain_of c.args.terms.now c.args.config) ≡ false = chain_lawful c.args.terms.now c.args.config ∙ sym c.are_lawful.ensures ∙ no in
    rw bad refl

pub returns-in_err-world-clause-refused : goal.returns-in_err-world-clause-refused
returns-in_err-world-clause-refused g c =
    let yes : c.are_lawful.result ≡ true = first_of (search rules, grind (arith, common_steps)) in
    let good : is_chain (chain_of c.args.terms.now c.args.config) ≡ true = chain_lawful c.args.terms.now c.args.config ∙ sym c.are_lawful.ensures ∙ yes in
    rw good (first_of (search rules, grind (arith, common_steps)))

pub returns-clause-refused : goal.returns-clause-refused
returns-clause-refused g c =
    let yes : c.are_lawful.result ≡ true = first_of (search rules, grind (arith, common_steps)) in
    let good : is_chain (chain_of c.args.terms.now c.args.config) ≡ true = chain_lawful c.args.terms.now c.args.config ∙ sym c.are_lawful.ensures ∙ yes in
    rw good tt
