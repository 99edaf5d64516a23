-- What the keys alone make of bytes that arrived, before an end judges them (RFC 0029): the Prepare's payload is hashed and
-- opened.
use Rattle.std.specs.Prelude.{◌≡◌, ◌≤◌, ℕ, Bool, List, length, bytes_eq, Result, Ok, Err}
use Rattle.st_ilp.specs.Packets.{PreparePacket}
use Rattle.st_ilp.specs.Reading.{prepare_at}
use Rattle.st_ilp.specs.declared.error.IlpError.{IlpError}
use Rattle.st_keys.specs.Keys.{DerivedKeys, fulfillment, condition}
use Rattle.st_keys.specs.Sealed.{unsealed, ciphertext_of}
use Rattle.st_end.specs.declared.opened.Opened.{Opened}
use Rattle.st_end.specs.declared.opened.Payload.{Payload}
use Rattle.st_end.specs.declared.opened.Payload.TheVariants.{Closed, Unopened, Plain}

-- a payload that opens, with its plain text in the place of its ciphertext. The preimage is the fulfillment of the payload as it
-- was sent, and `fits` says whether its digest is the Prepare's condition
pub record IsPlain (keys : DerivedKeys) (q : PreparePacket) (text preimage : List ℕ) (fits : Bool) : Type 0 where
  pub long : 28 ≤ length q.payload
  pub room : 28 ≤ length text
  pub opens : unsealed keys q.payload ≡ Ok (ciphertext_of text)
  pub hashed : preimage ≡ fulfillment keys q.payload
  pub compared : fits ≡ bytes_eq (condition (fulfillment keys q.payload)) q.condition

-- the result of opening a Prepare's payload: nothing is known of a closed one, whose memory was refused
abbrev pub IsPayloadOf : {X : Type 0} → DerivedKeys → PreparePacket → Payload X → Type 0
IsPayloadOf keys q Closed = Unit {0}
IsPayloadOf keys q (Unopened fault) = unsealed keys q.payload ≡ Err fault
IsPayloadOf keys q (Plain text preimage fits) = IsPlain keys q text.items preimage fits

-- the payload of bytes that are not a Prepare is `Closed`
abbrev pub IsPayloadIn : {X : Type 0} → DerivedKeys → Result PreparePacket IlpError → Payload X → Type 0
IsPayloadIn keys (Ok q) payload = IsPayloadOf keys q payload
IsPayloadIn keys (Err fault) payload = payload ≡ Closed

-- these bytes, as these keys open them
abbrev pub IsOpenedBy : {X : Type 0} → DerivedKeys → (bytes : List ℕ) → Opened X → Type 0
IsOpenedBy keys bytes opened = (opened.bytes.items ≡ bytes) × IsPayloadIn keys (prepare_at bytes) opened.payload
