use Rattle.ilpstream_ends.proofs.Keeping.{opened_later}
use Rattle.ilpstream_ends.proofs.asked.OpenedBody.judged.Goals as goal

-- what was opened by the first keys of the end was opened by those that it has now
pub answer-requires : goal.answer-requires
answer-requires g c = opened_later g.N.ReceiverName.start c.args.receiver.now.end c.self.inside.opened c.requires c.self.invariant
