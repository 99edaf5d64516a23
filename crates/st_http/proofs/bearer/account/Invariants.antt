use Rattle.std.proofs.Common.{◌≡◌}
use Rattle.std.specs.Prelude.{map, codes}
use Rattle.st_http.specs.Bearer.{account_said}
use Rattle.st_http.specs.Kept.{under}
use Rattle.st_http.proofs.bearer.account.Given as goal

abbrev pub invariant-loop-value : goal.invariant-loop-value
invariant-loop-value l =
    account_said (map (λ t. t.now) l.tokens) (map (λ v. v.bytes) l.value-iterator) ≡ account_said (map (λ t. t.now) l.tokens) (under l.fields (codes "authorization"))
