use Rattle.st_devices.specs.Tallies.{device_of, tally_of}
use Rattle.ilpstream_net.proofs.Totalled.{table_told}
use Rattle.ilpstream_net.proofs.connector.serve_reporting.Goals as goal

pub returns-in-Ok-place_for : goal.returns-in-Ok-place_for
returns-in-Ok-place_for g c = table_told c.args.settings.now.table c.args.settings.now.own.now c.args.settings.now.ledger (g.R.Read.remaining (device_of c.args.reader.now)) (tally_of c.args.reader.now) (tally_of c.serve_table-ended.new.reader) _ c.serve_table-ended.result c.tell_reports.result c.serve_table-ended.ensures c.tell_reports.ensures.told
