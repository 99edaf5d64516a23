use Rattle.st_hop.specs.Seen.{verdict_seen}
use Rattle.st_hop_desk.proofs.Fates.{arrives, ok_two, verdict_of}
use Rattle.st_hop_desk.proofs.serving.arrive.Goals as goal

pub returns-clause-of : goal.returns-clause-of
returns-clause-of g c =
    ok_two c.arrive.result (λ a same found. arrives c.deref_mut.result.now.hop c.arrive.new.self.hop c.args.account a.account c.args.bytes.now c.args.now (verdict_seen a.verdict) same found) c.arrive.ensures.account c.arrive.ensures.arrived

pub returns-clause-verdict : goal.returns-clause-verdict
returns-clause-verdict g c =
    ok_two c.arrive.result (λ a same found. verdict_of c.deref_mut.result.now.hop c.arrive.new.self.hop c.args.account a.account c.args.bytes.now c.args.now (verdict_seen a.verdict) c.arrive.ensures.lawful same found) c.arrive.ensures.account c.arrive.ensures.arrived
