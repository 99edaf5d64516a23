use Rattle.std.proofs.Common.{◌≡◌, ◌<◌, ◌∙◌, ℕ, List, length, map, take, false, refl, sym, ap, subst, arith}
use Rattle.std.specs.Prelude.{MatchBool, IfOk, IsOkUnless, IsErrOf}
use Rattle.std.proofs.lemmas.List.{length-map, take_all}
use Rattle.st_world_parts.specs.State.{World}
use Rattle.st_world.specs.Runs.{is_chain, opening}
use Rattle.st_world.specs.declared.fault.Fault.TheVariants.{NoMemory, BadChain}
use Rattle.st_world.specs.Chains.{Terms, chain_of, one_to_one}
use Rattle.st_world.proofs.Openings.{chain_too_long}
use Rattle.st_world.proofs.world.World.with_hops.Goals as goal

pub returns-then-accounts-gt-MAX_HOPS-clause-refused : goal.returns-then-accounts-gt-MAX_HOPS-clause-refused
returns-then-accounts-gt-MAX_HOPS-clause-refused g c =
    let long : 8 < length (map one_to_one c.args.accounts.now) = omega (arith, c.if-accounts-gt-MAX_HOPS.true, length-map c.args.accounts.now one_to_one) in
    let bad : is_chain (chain_of (map one_to_one c.args.accounts.now) c.args.config) ≡ false = chain_too_long (map one_to_one c.args.accounts.now) c.args.config long in
    rw bad refl

pub returns-clause-opening : goal.returns-clause-opening
returns-clause-opening g c =
    let at : c.loop-place.place ≡ length c.args.accounts.now = omega (arith, c.loop-place-test.false, c.loop-place.auto.place-end) in
    let same : take (length c.args.accounts.now) c.loop-place.terms ≡ map one_to_one c.args.accounts.now =
    ap (λ (n : ℕ). take n c.loop-place.terms) (sym at) ∙ c.loop-place.invariant.1 ∙ ap (map one_to_one) (take_all c.loop-place.place c.args.accounts.now (omega (arith, at))) in
    subst (λ (ts : List Terms). IfOk c.with_rates.result (λ (w : World). w ≡ opening (chain_of ts c.args.config))) same c.with_rates.ensures.opening

pub returns-clause-refused : goal.returns-clause-refused
returns-clause-refused g c =
    let at : c.loop-place.place ≡ length c.args.accounts.now = omega (arith, c.loop-place-test.false, c.loop-place.auto.place-end) in
    let same : take (length c.args.accounts.now) c.loop-place.terms ≡ map one_to_one c.args.accounts.now =
    ap (λ (n : ℕ). take n c.loop-place.terms) (sym at) ∙ c.loop-place.invariant.1 ∙ ap (map one_to_one) (take_all c.loop-place.place c.args.accounts.now (omega (arith, at))) in
    subst (λ (ts : List Terms). MatchBool (is_chain (chain_of ts c.args.config)) (IsOkUnless c.with_rates.result NoMemory) (IsErrOf c.with_rates.result BadChain)) same c.with_rates.ensures.refused
