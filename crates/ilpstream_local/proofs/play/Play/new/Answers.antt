use Rattle.std.proofs.Common.{◌≡◌, ◌∙◌, ℕ, map, ap, arith, replicate}
use Rattle.st_sender.specs.Sending.{Config}
use Rattle.st_world.specs.Runs.{opening}
use Rattle.st_world.specs.Chains.{chain_of, one_to_one, free_account}
use Rattle.ilpstream_local.specs.Playing.{local_chain}
use Rattle.ilpstream_local.proofs.Plays.{opened_blank, plays_none}
use Rattle.ilpstream_local.proofs.play.Play.new.Goals as goal

pub invariant_of-result : goal.invariant_of-result
invariant_of-result g c =
    let opened : c.in-Ok.world ≡ opening (local_chain c.args.settings.now.hops) =
    c.in-Ok.ensures.opening
    ∙ (ap (λ (k : Config). opening (chain_of (map one_to_one (replicate c.from.result free_account)) k)) c.config.ensures ∙ ap (λ (n : ℕ). opening (local_chain n)) c.from.ensures) in
    (c.requires, omega arith, plays_none c.args.settings.now c.in-Ok.world opened)

pub returns-clause-blank : goal.returns-clause-blank
returns-clause-blank g c = λ k. opened_blank _ c.in-Ok.world k c.in-Ok.ensures.opening
