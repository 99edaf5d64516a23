use Rattle.st_frames.specs.Seen.{seen}
use Rattle.st_sender.proofs.Said.{marked_view}
use Rattle.st_sender.proofs.outbox.Outbox.mark.Goals as goal

pub returns : goal.returns
returns g c = marked_view _ _ (seen c.args.frame.now) c.mark.new.self c.self.view_is c.mark.ensures
