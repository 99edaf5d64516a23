-- The payload of a packet: an IV of twelve bytes, a tag of sixteen, and the ciphertext (RFC 0029, AES-256-GCM without
-- associated data).
use Rattle.std.specs.Prelude.{ℕ, List, ◌++◌, length, take, drop, nat_lt, nat_eq, if◌then◌else◌, Result, Ok, Err}
use Rattle.std.specs.Cmp.Lexicographic.{pointwise}
use Rattle.st_aes.specs.Gcm.{tag, counter_mode}
use Rattle.st_frames.specs.Frames.{Known, Packet}
use Rattle.st_frames.specs.Reading.{packet_at}
use Rattle.st_frames.specs.Written.{written}
use Rattle.st_frames.specs.declared.error.FrameError.{FrameError}
use Rattle.st_keys.specs.declared.error.KeyError.{KeyError}
use Rattle.st_keys.specs.declared.error.KeyError.TheVariants as refused
use Rattle.st_keys.specs.Keys.{DerivedKeys}

-- ---- from text to payload

-- the payload with this ciphertext
unfoldable pub payload_of : List ℕ → List ℕ → List ℕ → List ℕ
payload_of key iv ciphertext = iv ++ (tag key iv ciphertext ++ ciphertext)

-- the payload of a text
unfoldable pub sealed : DerivedKeys → List ℕ → List ℕ → List ℕ
sealed keys iv text = payload_of keys.encryption_key iv (counter_mode keys.encryption_key iv text)

-- the payload of a text that was written, or why none was
abbrev pub sealed_text : DerivedKeys → List ℕ → Result (List ℕ) FrameError → Result (List ℕ) KeyError
sealed_text keys iv (Ok text) = Ok (sealed keys iv text)
sealed_text keys iv (Err fault) = Err (refused.Packet fault)

-- the payload of a packet's one spelling
unfoldable pub sealed_packet : (keys : DerivedKeys) (iv : List ℕ) (kind sequence amount : ℕ) → List Known → Result (List ℕ) KeyError
sealed_packet keys iv kind sequence amount ks = sealed_text keys iv (written kind sequence amount ks)

-- ---- from payload to text

-- the parts of a payload
abbrev pub iv_of : List ℕ → List ℕ
iv_of payload = take 12 payload

abbrev pub tag_of : List ℕ → List ℕ
tag_of payload = take 16 (drop 12 payload)

abbrev pub ciphertext_of : List ℕ → List ℕ
ciphertext_of payload = drop 28 payload

-- the text of a payload: refused if it is too short for IV and tag, and then if its tag does not match the ciphertext
unfoldable pub unsealed : DerivedKeys → List ℕ → Result (List ℕ) KeyError
unsealed keys payload =
    if nat_lt (length payload) 28 then Err refused.Short
    else (if pointwise nat_eq (tag_of payload) (tag keys.encryption_key (iv_of payload) (ciphertext_of payload))
    then Ok (counter_mode keys.encryption_key (iv_of payload) (ciphertext_of payload))
    else Err refused.Tag)

-- a packet, or the fault that a text has
abbrev pub packet_or_fault : Result Packet FrameError → Result Packet KeyError
packet_or_fault (Ok packet) = Ok packet
packet_or_fault (Err fault) = Err (refused.Packet fault)

-- the packet of a text that was unsealed
abbrev pub packet_in : ℕ → Result (List ℕ) KeyError → Result Packet KeyError
packet_in kind (Ok text) = packet_or_fault (packet_at kind text)
packet_in kind (Err e) = Err e

-- the packet of a payload: the text's refusals precede the packet's
unfoldable pub opened : DerivedKeys → ℕ → List ℕ → Result Packet KeyError
opened keys kind payload = packet_in kind (unsealed keys payload)
