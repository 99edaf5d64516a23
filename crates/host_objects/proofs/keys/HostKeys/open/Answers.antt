use Rattle.std.proofs.Common.{ℕ, List, ap, sym, ◌∙◌}
use Rattle.st_keys.specs.Sealed.{unsealed}
use Rattle.host_objects.proofs.keys.HostKeys.open.Goals as goal

pub returns-clause-opened : goal.returns-clause-opened
returns-clause-opened c = ap (λ (xs : List ℕ). unsealed c.args.self.now.keys xs) (sym (c.deref_mut.ensures.value ∙ c.in_ok-copy.ensures.items)) ∙ c.in_ok-self.ensures
