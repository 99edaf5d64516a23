use Rattle.st_hop.specs.Seen.{verdict_seen}
use Rattle.st_hop_desk.proofs.Fates.{heard, unheard}
use Rattle.st_hop_desk.proofs.serving.serve.Goals.{in-Ok+in_ok-answer_to-in-Ok, in-Err+in_ok-t00-in-Err}
use Rattle.st_hop_desk.proofs.serving.serve.Goals as goal

pub returns-clause-served : goal.returns-clause-served
returns-clause-served g c = elim c.match-arrive.branch [
  | in-Ok+in_ok-answer_to-in-Ok w ↦ rw (w.links-is, w.books-is, w.clock-is, w.account-is)
      (heard g.T.Links.exchanges g.B.Books.stores g.K.Clock.reads c.args.account w.in-Ok.arrived.account _ _ _ _ _ (verdict_seen w.in-Ok.arrived.verdict) _ w.in-Ok.ensures.account c.now-now.ensures w.in-Ok.ensures.verdict w.in_ok-answer_to-in-Ok.ensures)
  | in-Err+in_ok-t00-in-Err w ↦ rw (w.links-is, w.books-is, w.clock-is, w.account-is)
      (unheard g.T.Links.exchanges g.B.Books.stores g.K.Clock.reads c.args.account _ _ _ _ _ c.now-now.ensures w.in_ok-t00-in-Err.ensures.text)
]
