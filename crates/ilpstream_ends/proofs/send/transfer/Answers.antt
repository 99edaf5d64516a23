use Rattle.ilpstream_ends.proofs.Outcomes.{sent_whole}
use Rattle.ilpstream_ends.proofs.send.transfer.Goals as goal

pub returns-clause-whole : goal.returns-clause-whole
returns-clause-whole g c = sent_whole _ _ _ _ _ _ c.told-result.ensures c.feed_beside-fed.ensures
