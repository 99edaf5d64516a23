-- What follows from a connection's shared secret (RFC 0029).
use Rattle.std.specs.Prelude.{ℕ, List, codes}
use Rattle.sha2.specs.Sha256.{sha256}
use Rattle.st_keys.specs.Mac.{hmac}

-- the keys of a connection
pub record DerivedKeys : Type 0 where
  -- the key that packets are sealed with
  pub encryption_key : List ℕ
  -- the key that fulfillments are made with
  pub fulfillment_key : List ℕ

-- those that both ends derive from their secret
unfoldable pub keys_of : List ℕ → DerivedKeys
keys_of secret = record { encryption_key = hmac secret (codes "ilp_stream_encryption"); fulfillment_key = hmac secret (codes "ilp_stream_fulfillment") }

-- the fulfillment of a Prepare with this payload
abbrev pub fulfillment : DerivedKeys → List ℕ → List ℕ
fulfillment keys payload = hmac keys.fulfillment_key payload

-- the condition that a fulfillment fulfils
abbrev pub condition : List ℕ → List ℕ
condition fulfillment = sha256 fulfillment
