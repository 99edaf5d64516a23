use Rattle.std.proofs.Common.{◌≡◌, ap, subst, ◌∙◌, map, rules}
use Rattle.std.proofs.lemmas.Result.{IfOk-weaker}
use Rattle.clap.specs.Words.{App, FailsBy, app_of, fault_of, subcommand_of}
use Rattle.clap.specs.Faults.{is_simple_and_free}
use Rattle.clap.specs.Simple.{is_simple}
use Rattle.ilpstream_words.specs.Program.{program}
use Rattle.ilpstream_words.proofs.Commands.{is_free_program, is_simple_program}
use Rattle.ilpstream_words.proofs.request.parse.Goals as goal

pub returns-clause-kinds : goal.returns-clause-kinds
returns-clause-kinds g c =
    let same : app_of c.in_ok-finish.field-0 ≡ program = search rules in
    subst (λ (a : App). FailsBy (fault_of a (map g.S.AsStr.text c.args.words.now)) c.try_get_matches_from.result) same
    (c.try_get_matches_from.ensures.kinds (ap is_simple_and_free same ∙ is_free_program))

pub returns-clause-command : goal.returns-clause-command
returns-clause-command g c =
    let same : app_of c.in_ok-finish.field-0 ≡ program = search rules in
    IfOk-weaker c.try_get_matches_from.result _ _
    (λ m h. (h (ap is_simple same ∙ is_simple_program)).1 ∙ ap (λ (a : App). subcommand_of a (map g.S.AsStr.text c.args.words.now)) same)
    c.try_get_matches_from.ensures.matches
