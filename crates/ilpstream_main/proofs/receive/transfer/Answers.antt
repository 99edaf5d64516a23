use Rattle.st_devices.specs.Tallies.{device_of}
use Rattle.ilpstream_main.proofs.Transfers.{received}
use Rattle.ilpstream_main.proofs.receive.transfer.Goals as goal

pub returns-clause-made : goal.returns-clause-made
returns-clause-made g c =
    received c.args.settings.now c.args.credentials.now.secret (g.W.Write.contents (device_of c.args.writer.now)) (g.W.Write.contents (device_of c.receive_on-ended.new.writer))
    c.args.totals.now c.receive_on-ended.result.totals _ _ _ c.receive_on-ended.result.result c.is_stopped.result c.result_of.result
    c.in_ok-end.ensures.made c.terms_of-terms.ensures.terms.receive_max c.terms_of-terms.ensures.terms.patience c.receive_on-ended.ensures.told c.receive_on-ended.ensures.patient c.result_of.ensures.stopped
