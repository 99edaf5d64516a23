use Rattle.std.proofs.Common.{◌∙◌, sym, arith}
use Rattle.std.proofs.lemmas.Grind.{common_steps}
use Rattle.st_world_parts.specs.Seen.{way_seen, told_seen}
use Rattle.st_world.specs.Left.{in_world}
use Rattle.st_world.proofs.Reached.{answers_back}
use Rattle.st_world.proofs.trace.Trace.answer.Goals as goal

pub same-self : goal.same-self
same-self g c = grind (arith, common_steps)

pub returns-in_err-answer-clause-met : goal.returns-in_err-answer-clause-met
returns-in_err-answer-clause-met g c = grind (arith, common_steps)

pub returns-in_err-answer-clause-same_self : goal.returns-in_err-answer-clause-same_self
returns-in_err-answer-clause-same_self g c = grind (arith, common_steps)

pub returns-in_err-answer-clause-same_links : goal.returns-in_err-answer-clause-same_links
returns-in_err-answer-clause-same_links g c = grind (arith, common_steps)

pub returns-in_err-answer-clause-nodes : goal.returns-in_err-answer-clause-nodes
returns-in_err-answer-clause-nodes g c = grind (arith, common_steps)

pub same-self-in_default : goal.same-self-in_default
same-self-in_default g c = grind (arith, common_steps)

pub returns-in_default-clause-met : goal.returns-in_default-clause-met
returns-in_default-clause-met g c = grind (arith, common_steps)

pub returns-in_default-clause-nodes : goal.returns-in_default-clause-nodes
returns-in_default-clause-nodes g c = grind (arith, common_steps)

pub same-self-2 : goal.same-self-2
same-self-2 g c = grind (arith, common_steps)

pub back-requires : goal.back-requires
back-requires g c = grind (arith, common_steps)

pub returns-clause-nodes : goal.returns-clause-nodes
returns-clause-nodes g c = grind (arith, common_steps)

pub returns-clause-met : goal.returns-clause-met
returns-clause-met g c =
    let w = in_world c.args.self.now c.args.links.now in
    answers_back c.back.result told_seen w (in_world c.back.new.self c.back.new.links) c.args.link (way_seen c.args.way) c.args.which c.args.now c.in-Some.answer _ _ c.which-put.ensures c.into_bytes.ensures (sym c.in_ok-answer.ensures ∙ c.in-Some.is) c.back.ensures.met
