-- An object that is made in an empty handle.
use Rattle.std.proofs.Common.{◌≡◌, ◌⊎◌, ℕ, List, true, Option, Some, None, subst, inl, inr}
use Rattle.std.specs.Prelude.{is_none}
use Rattle.st_keys.specs.Keys.{keys_of}
use Rattle.st_frames.specs.Kinds.{is_kind}
use Rattle.st_http.specs.Verdict.{request, response}
use Rattle.host_objects.specs.Codes.{done}
use Rattle.host_objects.specs.KeyRings.{IsNewKeys}
use Rattle.host_objects.specs.Messages.{IsNewMessage}
use Rattle.host_objects.specs.Packets.{IsNewPacket, IsReadPacket}
use Rattle.host_objects.specs.declared.object.Object.{Object}
use Rattle.host_objects.specs.declared.object.Object.TheVariants.{Keys, Message, Packet}
use Rattle.host_objects.specs.declared.keys.HostKeys.{HostKeys}
use Rattle.host_objects.specs.declared.message.HostMessage.{HostMessage}
use Rattle.host_objects.specs.declared.packet.HostPacket.{HostPacket}
use Rattle.ilpstream_c.specs.Keys.{AreKeysMade}
use Rattle.ilpstream_c.specs.Http.{IsRequestMade, IsResponseMade, are_tokens, tokens_of}
use Rattle.ilpstream_c.specs.Packets.{IsPacketMade, IsPacketRead}

-- it is put in, or memory for it is refused
abbrev pub Put : (object : Object) (no_memory code : ℕ) (new : Option Object) → Type 0
Put object no_memory code new = ((code ≡ done) × (new ≡ Some object)) ⊎ ((code ≡ no_memory) × (new ≡ None))

pub keys_made : (secret : List ℕ) (old new : Option Object) (code : ℕ) (k : HostKeys) → old ≡ None → IsNewKeys (keys_of secret) k → Put (Keys k) 33 code new → AreKeysMade secret old new code
keys_made secret None new code k e is (inl h) = inl (h.0, (k, (h.1, is)))
keys_made secret None new code k e is (inr h) = inr h
keys_made secret (Some o) new code k e is h = absurd cc

pub response_made : (old new : Option Object) (code : ℕ) (m : HostMessage) → old ≡ None → IsNewMessage response m → Put (Message m) 87 code new → IsResponseMade old new code
response_made None new code m e is (inl h) = inl (h.0, (m, (h.1, is)))
response_made None new code m e is (inr h) = inr h
response_made (Some o) new code m e is h = absurd cc

pub request_made : (text lengths : List ℕ) (old new : Option Object) (code : ℕ) (m : HostMessage) → old ≡ None → are_tokens text lengths ≡ true → IsNewMessage (request (tokens_of text lengths)) m → Put (Message m) 87 code new → IsRequestMade text lengths old new code
request_made text lengths None new code m e fits is (inl h) = inl (h.0, (fits, (m, (h.1, is))))
request_made text lengths None new code m e fits is (inr h) = inr (inl h)
request_made text lengths (Some o) new code m e fits is h = absurd cc

pub packet_made : (kind sequence amount : ℕ) (old new : Option Object) (code : ℕ) (p : HostPacket) → old ≡ None → is_kind kind ≡ true → IsNewPacket kind sequence amount p → Put (Packet p) 25 code new → IsPacketMade kind sequence amount old new code
packet_made kind sequence amount None new code p e fits is (inl h) = inl (h.0, (fits, (p, (h.1, is))))
packet_made kind sequence amount None new code p e fits is (inr h) = inr (inl h)
packet_made kind sequence amount (Some o) new code p e fits is h = absurd cc

pub packet_read : (kind : ℕ) (bytes : List ℕ) (old new : Option Object) (code : ℕ) (p : HostPacket) → old ≡ None → is_kind kind ≡ true → IsReadPacket kind bytes p → Put (Packet p) 25 code new → IsPacketRead kind bytes old new code
packet_read kind bytes None new code p e fits is (inl h) = inl (h.0, (fits, (p, (h.1, is))))
packet_read kind bytes None new code p e fits is (inr h) = inr (inr (inl (h.0, fits)), h.1)
packet_read kind bytes (Some o) new code p e fits is h = absurd cc
