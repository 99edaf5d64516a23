use Rattle.std.proofs.Common.{◌≡◌, ap, ◌∙◌, length, vec_len, rules}
use Rattle.st_end.specs.Unsealed.{Launched}
use Rattle.st_end.proofs.Plain.{as_long}
use Rattle.st_end.proofs.unsealed.Unsealed.size.Goals as goal

pub returns : goal.returns
returns g c =
    let u = c.self.inside in
    let counted : vec_len u.plain.bytes ≡ length u.plain.bytes.items = search rules in
    c.len.ensures ∙ counted ∙ as_long _ u.iv _ _ u.plain.bytes.items _ _ c.self.invariant.2 c.self.invariant.0 c.self.invariant.1 ∙ ap (λ (x : Launched). length x.bytes) c.self.view_is
