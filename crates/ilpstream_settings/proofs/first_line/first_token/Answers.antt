use Rattle.std.proofs.Common.{◌≡◌, true, false, sym, ap, ◌∙◌}
use Rattle.std.specs.Str.{is_utf8}
use Rattle.ilpstream_settings.specs.Sources.{first_line}
use Rattle.ilpstream_settings.proofs.Visible.{field_text_is_utf8}
use Rattle.ilpstream_settings.proofs.first_line.first_token.Goals as goal

pub returns-in_err-text : goal.returns-in_err-text
returns-in_err-text c =
    rw c.from_residual.ensures (λ t is.
    let text : is_utf8 (first_line c.args.bytes.now) ≡ true = field_text_is_utf8 (first_line c.args.bytes.now) is.1 in
    let wrong : true ≡ false = sym text ∙ sym (ap is_utf8 c.first_line.ensures) ∙ c.in_err-text.ensures in
    absurd (cc))
