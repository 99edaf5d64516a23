-- Runs: the worlds that are reached from the opening one.
use Rattle.std.specs.Prelude.{◌≡◌, ℕ, ◌+◌, Bool, false, ◌&&◌, List, [], ◌∷◌, map, length, replicate, nat_le}
use Rattle.std.specs.List.{list_all}
use Rattle.std.specs.FinMap as fmap
use Rattle.st_hop.specs.declared.account.Account.{Account}
use Rattle.st_hop.specs.Hop.{Way}
use Rattle.st_hop.specs.Table.{is_table, new_hop}
use Rattle.st_keys.specs.Keys.{keys_of}
use Rattle.st_sender.specs.Sending.{Config}
use Rattle.st_end.specs.declared.role.Role as ends
use Rattle.st_end.specs.declared.role.Role.TheVariants as roles
use Rattle.st_end.specs.State.{EndState, new_end}
use Rattle.st_world_parts.specs.Sides.{Side, Client, Server}
use Rattle.st_world_parts.specs.State.{new_party, Party, Node, World, empty_link}
use Rattle.st_world_parts.specs.Events.{Event, Told}
use Rattle.st_world.specs.Steps.{Happens}

abbrev pub Run : World → List Event → World → Type 0
Run w [] after = after ≡ w
Run w (event ∷ events) after = (mid : World) × (told : Told) × Happens w event told mid × Run mid events after

-- what a hop of a chain is made of
pub record Table : Type 0 where
  pub own : List ℕ  -- its address
  pub client : Account  -- the terms of its account 0, towards the client
  pub server : Account  -- and of its account 1
  pub routes : List Way

abbrev pub accounts_of : Table → List Account
accounts_of t = t.client ∷ t.server ∷ []

abbrev pub new_node : Table → Node
new_node t = record { state = new_hop t.own (accounts_of t) t.routes; answered = [] }

pub record Chain : Type 0 where
  pub secret : List ℕ  -- of both ends
  pub client : List ℕ  -- the ends' addresses
  pub server : List ℕ
  pub hops : List Table  -- the first is the client's neighbour
  pub config : Config

-- a hop can be made of the table
abbrev pub is_lawful : Table → Bool
is_lawful t = is_table t.own (accounts_of t) t.routes

-- and a world of the chain: at most eight hops, each lawful
abbrev pub is_chain : Chain → Bool
is_chain c = nat_le (length c.hops) 8 && list_all is_lawful c.hops

abbrev pub role_of : Side → ends.Role
role_of Client = roles.Client
role_of Server = roles.Server

-- a world in which nothing has happened
abbrev pub opening : Chain → World
opening c = record {
  ends = record {
    client = new_party (new_end (role_of Client) (keys_of c.secret) c.client c.server c.config);
    server = new_party (new_end (role_of Server) (keys_of c.secret) c.server c.client c.config);
  };
  nodes = map new_node c.hops;
  links = replicate (length c.hops + 1) empty_link;
  ledgers = record { client = fmap.empty; server = fmap.empty };
  refused = false;
}
