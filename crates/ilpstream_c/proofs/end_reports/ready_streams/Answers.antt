use Rattle.std.proofs.Common.{rules, tests, refl}
use Rattle.std.proofs.lemmas.Iterator.{YieldsList-from_range}
use Rattle.std.proofs.lemmas.Iterator.Adapters.{items_from_extend}
use Rattle.std.proofs.lemmas.Iterator.Consumers.{YieldsList-from_filter}
use Rattle.st_end.specs.Ready.{is_ready}
use Rattle.ilpstream_c.proofs.end_reports.ready_streams.Goals as goal

pub returns : goal.returns
returns c =
    let h = items_from_extend c.extend.result c.extend.ensures.ran (YieldsList-from_filter _ (is_ready c.args.state.now) (YieldsList-from_range 1 65 64 (cc) refl) c.filter.ensures.closure (λ x r q k. search (rules, tests))) in
    search rules
