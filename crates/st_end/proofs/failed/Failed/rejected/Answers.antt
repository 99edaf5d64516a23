use Rattle.std.proofs.Common.{◌≡◌, List, ℕ, take, ap, ◌∙◌}
use Rattle.std.proofs.lemmas.List.{take_all}
use Rattle.st_end.specs.Failed.{Rejected}
use Rattle.st_end.proofs.failed.Failed.rejected.Goals as goal

pub returns : goal.returns
returns c =
    let by : c.first_of.result ≡ c.args.by.now = c.first_of.ensures ∙ ap (take 1023) c.as_bytes.ensures.value ∙ take_all 1023 c.args.by.now c.requires in
    let message : c.first_of-2.result ≡ take 255 c.args.message.now = c.first_of-2.ensures ∙ ap (take 255) c.as_bytes-2.ensures.value in
    ap (λ (x : List ℕ). Rejected c.args.code x c.first_of-2.result) by ∙ ap (λ (x : List ℕ). Rejected c.args.code c.args.by.now x) message
