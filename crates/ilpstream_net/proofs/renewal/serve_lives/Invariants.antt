use Rattle.ilpstream_net.specs.Table.{Lives}
use Rattle.ilpstream_net.proofs.renewal.serve_lives.Given as goal

-- how it ended last is how it may end that began by its first table
abbrev pub invariant-loop : goal.invariant-loop
invariant-loop g l = Lives l.fn.settings.own.now l.fn.settings.ledger l.fn.first.items l.ended
