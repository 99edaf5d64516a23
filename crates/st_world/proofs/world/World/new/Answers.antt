use Rattle.std.proofs.Common.{◌≡◌, ◌≤◌, List, map, replicate, true, nat_le, subst, arith}
use Rattle.std.specs.Prelude.{MatchBool, IfOk, IsOkUnless, IsErrOf}
use Rattle.std.proofs.lemmas.List.{take-replicate}
use Rattle.st_hop.specs.declared.account.Account.{Account}
use Rattle.st_world_parts.specs.State.{World}
use Rattle.st_world.specs.Runs.{is_chain, opening}
use Rattle.st_world.specs.declared.fault.Fault.TheVariants.{NoMemory, BadChain}
use Rattle.st_world.specs.Chains.{chain_of, one_to_one, free_account}
use Rattle.st_world.proofs.Openings.{is_few, free_lawful}
use Rattle.st_world.proofs.world.World.new.Goals as goal

pub returns-clause-opening : goal.returns-clause-opening
returns-clause-opening g c =
    let le : c.args.hops ≤ 8 = omega (arith, c.if-hops-gt-MAX_HOPS.false) in
    subst (λ (xs : List Account). IfOk c.with_hops.result (λ (w : World). w ≡ opening (chain_of (map one_to_one xs) c.args.config))) (take-replicate c.args.hops 8 free_account le) c.with_hops.ensures.opening

pub returns-clause-refused : goal.returns-clause-refused
returns-clause-refused g c =
    let le : c.args.hops ≤ 8 = omega (arith, c.if-hops-gt-MAX_HOPS.false) in
    let few : nat_le c.args.hops 8 ≡ true = is_few c.args.hops le in
    let good : is_chain (chain_of (map one_to_one (replicate c.args.hops free_account)) c.args.config) ≡ true = free_lawful c.args.hops c.args.config le in
    let met : MatchBool (is_chain (chain_of (map one_to_one (replicate c.args.hops free_account)) c.args.config)) (IsOkUnless c.with_hops.result NoMemory) (IsErrOf c.with_hops.result BadChain) =
    subst (λ (xs : List Account). MatchBool (is_chain (chain_of (map one_to_one xs) c.args.config)) (IsOkUnless c.with_hops.result NoMemory) (IsErrOf c.with_hops.result BadChain)) (take-replicate c.args.hops 8 free_account le) c.with_hops.ensures.refused in
    rw few (rw good at met)
