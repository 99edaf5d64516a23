use Rattle.ilpstream_settings.proofs.Placing.{name_taken}
use Rattle.ilpstream_settings.proofs.whole.take_name.Goals as goal

pub returns : goal.returns
returns g c =
    name_taken c.args.names.now.keys c.insert.new.self.keys c.in_ok-name.name _ c.in_ok-fresh.fresh
    (rw c.len.ensures.len at c.in_ok-name.ensures) c.in_ok-fresh.ensures.added c.in_ok-fresh.ensures.keys
