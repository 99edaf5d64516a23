use Rattle.std.proofs.Common.{◌∙◌, map, ap}
use Rattle.st_receiver.specs.Streams.{credited_of}
use Rattle.st_receiver.specs.Standing.{Standing}
use Rattle.st_receiver.proofs.Answering.{if_ok}
use Rattle.st_receiver.proofs.Rows.{told_limits}
use Rattle.st_receiver.proofs.intake.Intake.limits.Goals as goal

pub returns-clause-told : goal.returns-clause-told
returns-clause-told g c =
    let totals = c.all_credited.ensures ∙ ap (λ (t : Standing). map credited_of t.state.streams) c.self.view_is in
    if_ok c.told.result (λ frames e. e ∙ told_limits c.args.self.now.state c.connection_limit.result c.all_credited.result c.connection_limit.ensures totals) c.told.ensures.told
