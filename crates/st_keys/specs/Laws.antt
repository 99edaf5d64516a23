-- What holds of the definitions themselves.
use Rattle.std.specs.Prelude.{ℕ, ◌≡◌, ◌+◌, ◌<◌, ◌≤◌, ◌^◌, List, length, Ok}
use Rattle.st_oer.specs.Laws.{IsBytes, Never}
use Rattle.st_frames.specs.Frames.{Known}
use Rattle.st_frames.specs.Written.{AllFit, packet_with}
use Rattle.st_frames.specs.declared.error.FrameError.TheVariants as frames
use Rattle.st_keys.specs.declared.error.KeyError.TheVariants.{Packet, NoMemory}
use Rattle.st_keys.specs.Keys.{DerivedKeys, fulfillment, condition}
use Rattle.st_keys.specs.Sealed.{sealed, sealed_packet, unsealed, opened}

-- what is sealed opens to itself: a text, and a packet
pub record SealedOpens : Type 0 where
  pub text : (keys : DerivedKeys) (iv text : List ℕ) → length iv ≡ 12 → unsealed keys (sealed keys iv text) ≡ Ok text
  pub packet : (keys : DerivedKeys) (iv payload : List ℕ) (kind sequence amount : ℕ) (ks : List Known) → length iv ≡ 12 → sequence < 2 ^ 64 → amount < 2 ^ 64 → AllFit ks
      → sealed_packet keys iv kind sequence amount ks ≡ Ok payload → opened keys kind payload ≡ Ok (packet_with kind sequence amount ks)

-- n bytes
pub record AreBytes (n : ℕ) (bytes : List ℕ) : Type 0 where
  pub count : length bytes ≡ n
  pub each : IsBytes bytes

-- a fulfillment has 32 bytes, and so has a condition
pub record HashesHave32 : Type 0 where
  pub fulfillment : (keys : DerivedKeys) (payload : List ℕ) → AreBytes 32 (fulfillment keys payload)
  pub condition : (bytes : List ℕ) → AreBytes 32 (condition bytes)

-- a payload has 28 bytes more than its text, whether it is sealed or opened, and that of a packet fits an ILP packet's data
pub record PayloadLengths : Type 0 where
  pub sealed : (keys : DerivedKeys) (iv text : List ℕ) → length iv ≡ 12 → length (sealed keys iv text) ≡ 28 + length text
  pub unsealed : (keys : DerivedKeys) (payload text : List ℕ) → unsealed keys payload ≡ Ok text → length payload ≡ 28 + length text
  pub packet : (keys : DerivedKeys) (iv payload : List ℕ) (kind sequence amount : ℕ) (ks : List Known) → length iv ≡ 12
      → sealed_packet keys iv kind sequence amount ks ≡ Ok payload → length payload ≤ 32767

-- opening does not allocate: it never fails for memory, neither for a payload nor for the packet in it
pub record OpensWithoutMemory : Type 0 where
  pub text : (keys : DerivedKeys) → Never NoMemory (unsealed keys)
  pub packet : (keys : DerivedKeys) (kind : ℕ) → Never NoMemory (opened keys kind)
  pub fault : (keys : DerivedKeys) (kind : ℕ) → Never (Packet frames.NoMemory) (opened keys kind)
