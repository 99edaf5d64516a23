-- How a connector reaches the neighbours of the accounts in its table.
use Rattle.std.specs.Prelude.{ℕ, List, map, Option, Some, None}
use Rattle.st_http.specs.declared.neighbour.Neighbour.{Neighbour}
use Rattle.ilpstream_settings.specs.declared.line.AccountLine.{AccountLine}

-- HOST:PORT and the token there
pub record Way : Type 0 where
  pub host : List ℕ
  pub token : List ℕ

-- the way to a neighbour, if there is one
abbrev pub way_to : Option Neighbour → Option Way
way_to None = None
way_to (Some n) = Some (record { host = n.host.now; token = n.token.now })

-- those to the neighbours of the accounts' lines, in their order
abbrev pub these : List AccountLine → List (Option Way)
these xs = map (λ x. way_to x.neighbour) xs
