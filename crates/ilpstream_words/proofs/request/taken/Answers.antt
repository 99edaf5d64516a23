use Rattle.std.proofs.Common.{List, map}
use Rattle.clap.specs.Words.{Text, fault_of}
use Rattle.ilpstream_words.specs.Pairs.{pairs_fault}
use Rattle.ilpstream_words.specs.Program.{program}
use Rattle.ilpstream_words.specs.Words.{command_of}
use Rattle.ilpstream_words.proofs.Answered.{refused_on}
use Rattle.ilpstream_words.proofs.request.taken.Goals as goal

pub returns-in_err-matches-clause-kinds : goal.returns-in_err-matches-clause-kinds
returns-in_err-matches-clause-kinds g c =
    let words : List Text = map g.S.AsStr.text c.args.words.now in
    refused_on (fault_of program words) (pairs_fault (command_of words)) c.from_residual.result c.in_err-matches.field-0.0 c.from_residual.ensures.1 c.in_err-matches.ensures.kinds
