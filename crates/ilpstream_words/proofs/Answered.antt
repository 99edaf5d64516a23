-- What is answered first, and what is answered then.
use Rattle.std.proofs.Common.{◌≡◌, [], ◌∷◌, sym, subst, inl, inr}
use Rattle.std.specs.Prelude.{Result, Ok, Err, IsErrAnd}
use Rattle.clap.specs.Kinds.{or_else}
use Rattle.clap.specs.Words.{FailsBy, HasKind, Kinds}
use Rattle.clap.specs.declared.error.Error.{Error}

-- what was refused at first stays refused so
pub refused_first : (first next : Kinds) (e : Error) → HasKind first e → HasKind (or_else first next) e
refused_first [] next e (inl memory) = inl memory
refused_first [] next e (inr none) = absurd none
refused_first (k ∷ ks) next e has = has

-- the same of a result that is that error
pub refused_on : {T : Type 0} (first next : Kinds) (r : Result T Error) (e : Error) → IsErrAnd r (λ x. x ≡ e) → HasKind first e → FailsBy (or_else first next) r
refused_on first next (Ok x) e is has = absurd is
refused_on first next (Err x) e is has = subst (λ (y : Error). HasKind (or_else first next) y) (sym is) (refused_first first next e has)
