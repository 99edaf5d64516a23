-- The two ends, and what there is one of at each. A way is named by the end that sends the Prepares.
use Rattle.std.specs.Prelude.{◌≡◌, ℕ, List, ◌++◌}

pub data Side : Type 0 where
  Client : Side
  Server : Side

abbrev pub other : Side → Side
other Client = Server
other Server = Client

pub record Both (A : Type 0) : Type 0 where
  pub client : A
  pub server : A

abbrev pub at : {A : Type 0} → Both A → Side → A
at b Client = b.client
at b Server = b.server

abbrev pub put : {A : Type 0} → Both A → Side → A → Both A
put b Client x = record { client = x; server = b.server }
put b Server x = record { client = b.client; server = x }

-- xs begin ys
abbrev pub IsPrefixOf : List ℕ → List ℕ → Type 0
IsPrefixOf xs ys = (rest : List ℕ) × (xs ++ rest ≡ ys)
