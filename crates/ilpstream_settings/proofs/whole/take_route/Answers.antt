use Rattle.std.proofs.Common.{◌≡◌, true, false, sym, ◌∙◌, arith, rules}
use Rattle.std.specs.Prelude.{bytes_eq}
use Rattle.std.specs.List.{list_any}
use Rattle.std.proofs.lemmas.Grind.{common_steps}
use Rattle.st_oer.specs.Address.{is_address}
use Rattle.ilpstream_settings.proofs.AccountNames.{any_now}
use Rattle.ilpstream_settings.proofs.LawfulRoutes.{is_lawful, prefix_taken}
use Rattle.ilpstream_settings.proofs.whole.take_route.Goals as goal

pub returns-then-not-branch : goal.returns-then-not-branch
returns-then-not-branch g c =
    let there : list_any (λ key. bytes_eq c.args.route.now.prefix.now key.now) c.args.prefixes.now.keys ≡ true = first_of (search rules, grind (arith, common_steps)) in
    sym (any_now c.args.route.now.prefix.now c.args.prefixes.now.keys) ∙ there

pub returns : goal.returns
returns g c =
    let none : list_any (λ key. bytes_eq c.args.route.now.prefix.now key.now) c.args.prefixes.now.keys ≡ false = first_of (search rules, grind (arith, common_steps)) in
    let address : is_address c.args.route.now.prefix.now ≡ true = first_of (search rules, grind (arith, common_steps)) in
    let taken = prefix_taken c.args.prefixes.now.keys c.insert.new.self.keys c.args.route.now.prefix (rw none at c.in_ok-insert.ensures.keys) none in
    (is_lawful c.args.accounts c.args.route.now address (omega (arith, c.if-route-accounts.false)), taken.0, taken.1)
