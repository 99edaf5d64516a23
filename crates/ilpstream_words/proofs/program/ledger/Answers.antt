use Rattle.std.proofs.Common.{◌≡◌, ◌∙◌, ap, codes, length, rules}
use Rattle.ilpstream_words.specs.Program.{last_rule, with_required}
use Rattle.ilpstream_words.proofs.program.ledger.Goals as goal

pub returns : goal.returns
returns c =
    let file = c.required-file.ensures.rule ∙ ap with_required c.placed.ensures.rule in
    let three : length c.as_slice.result.now ≡ 3 = search rules in
    let payment = c.last-payment.ensures.rule ∙ ap (last_rule (codes "payment")) three in
    let named = c.with_usage-command.ensures.shape _ c.named.ensures.shape in
    c.with.ensures _ payment _ (c.with-command.ensures _ file _ named)
