use Rattle.std.proofs.Common.{subst, ◌∙◌}
use Rattle.std.specs.Prelude.{string_bytes}
use Rattle.st_ilp.specs.Seen.{prepare_seen}
use Rattle.st_frames.specs.Packets.{packet_of}
use Rattle.st_end.specs.Inside.{IsJudged}
use Rattle.st_end.specs.declared.receive.Judged.{Judged}
use Rattle.st_end.proofs.Judging.{taken_lawful}
use Rattle.st_end.proofs.end.EndState.receive_packet.Goals as goal

pub invariant_of-self-in-Taken : goal.invariant_of-self-in-Taken
invariant_of-self-in-Taken g c =
    let j = subst (λ (x : Judged g.row.A.Denot). IsJudged c.deref.result.now (prepare_seen c.args.prepare.now) (packet_of c.args.packet.now) c.self.inside.outbox c.self.inside.intake.state c.judge_packet.new.outbox c.judge_packet.new.intake.state x) c.in-Taken.is c.in_ok-judged.ensures.judged in
    (taken_lawful _ (packet_of c.args.packet.now) c.args.prepare.now.amount _ _ _ c.self.invariant.0 j.0 j.2 j.1 (c.take_peer.ensures ∙ j.4 (string_bytes c.self.inside.peer)), c.self.invariant.1)
