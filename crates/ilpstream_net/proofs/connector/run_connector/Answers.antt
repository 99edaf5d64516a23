use Rattle.st_devices.specs.Tallies.{device_of, tally_of}
use Rattle.ilpstream_net.proofs.Totalled.{table_told}
use Rattle.ilpstream_net.proofs.connector.run_connector.Goals as goal

pub returns : goal.returns
returns g c = table_told c.args.settings.now.table c.args.settings.now.own.now c.args.settings.now.ledger (g.R.Read.remaining (device_of c.args.reader.now)) (tally_of c.args.reader.now) (tally_of c.serve_reporting-ended.new.reader) _ c.serve_reporting-ended.result c.tell_run.result c.serve_reporting-ended.ensures c.tell_run.ensures.told
