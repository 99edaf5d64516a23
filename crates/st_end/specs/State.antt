-- An end of a connection (RFC 0029): what it sends and what it receives, the keys, and the two addresses.
use Rattle.std.specs.Prelude.{ℕ, List}
use Rattle.std.specs.Ordering.{nat_cmp}
use Rattle.std.specs.FinMap.{FinMap, empty}
use Rattle.std.specs.declared.option.Option.{Option}
use Rattle.std.specs.declared.option.Option.TheVariants.{None}
use Rattle.st_keys.specs.Keys.{DerivedKeys}
use Rattle.st_sender.specs.Sending.{Config, Sending, new_sending}
use Rattle.st_receiver.specs.Streams.{Receiving, new_receiving}
use Rattle.st_end.specs.Failed.{Failed}
use Rattle.st_end.specs.declared.role.Role.{Role}
use Rattle.st_end.specs.declared.role.Role.TheVariants.{Client, Server}

pub record EndState : Type 0 where
  pub sending : Sending
  pub conditions : FinMap nat_cmp (List ℕ)  -- of each flight, by its sequence; in its place the IV, until the packet is sealed
  pub receiving : Receiving
  pub keys : DerivedKeys
  pub own : List ℕ  -- its address
  pub peer : List ℕ  -- and the peer's
  pub last : Option Failed  -- why its last failed flight failed

-- an end of these parts
abbrev pub end_of : Sending → (conditions : FinMap nat_cmp (List ℕ)) → Receiving → DerivedKeys → (own peer : List ℕ) → Option Failed → EndState
end_of sending conditions receiving keys own peer last = record {
  sending = sending;
  conditions = conditions;
  receiving = receiving;
  keys = keys;
  own = own;
  peer = peer;
  last = last;
}

-- a client opens odd stream numbers, a server even ones
abbrev pub parity : Role → ℕ
parity Client = 1
parity Server = 0

-- no stream is open, and nothing was sent or received
abbrev pub new_end : Role → DerivedKeys → (own peer : List ℕ) → Config → EndState
new_end role keys own peer config = record {
  sending = new_sending config;
  conditions = empty;
  receiving = new_receiving (parity role);
  keys = keys;
  own = own;
  peer = peer;
  last = None;
}
