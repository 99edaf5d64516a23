-- A hop that continues with what books say is owed.
use Rattle.std.proofs.Common.{◌≡◌, ℕ, List, length, refl, ap, suc, [], ◌∷◌}
use Rattle.ilpstream_settings.specs.declared.line.AccountLine.{AccountLine}
use Rattle.ilpstream_settings.specs.Table.{names_from}

-- a table has a name for each account
pub names_counted : (i : ℕ) (xs : List AccountLine) → length (names_from i xs) ≡ length xs
unfolding names_from
names_counted i [] = refl
names_counted i (x ∷ xs) = ap suc (names_counted (suc i) xs)
