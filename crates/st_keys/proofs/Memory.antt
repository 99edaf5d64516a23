-- Which refusals opening knows.
use Rattle.std.proofs.Common.{ℕ, Bool, true, false, Result, Ok, Err, List, length, nat_lt, nat_eq}
use Rattle.std.specs.Prelude.{◌≢◌, IfErr}
use Rattle.std.specs.Cmp.Lexicographic.{pointwise}
use Rattle.st_oer.specs.Laws.{Never}
use Rattle.st_aes.specs.Gcm.{tag}
use Rattle.st_frames.specs.Frames.{Packet}
use Rattle.st_frames.specs.Reading.{packet_at}
use Rattle.st_frames.specs.declared.error.FrameError.{FrameError}
use Rattle.st_frames.specs.declared.error.FrameError.TheVariants as frames
use Rattle.st_frames.proofs.Memory.{reads_without_memory}
use Rattle.st_keys.specs.declared.error.KeyError.{KeyError}
use Rattle.st_keys.specs.declared.error.KeyError.TheVariants as refused
use Rattle.st_keys.specs.Keys.{DerivedKeys}
use Rattle.st_keys.specs.Sealed.{iv_of, tag_of, ciphertext_of, unsealed, packet_or_fault, packet_in, opened}
use Rattle.st_keys.specs.Laws.{OpensWithoutMemory}
use Rattle.st_keys.proofs.Lengths.{guarded}

-- a refusal that neither a text's tests nor a packet's reading gives
record IsStrange (d : KeyError) : Type 0 where
  short : refused.Short ≢ d
  tag : refused.Tag ≢ d
  packet : (fault : FrameError) → fault ≢ frames.NoMemory → refused.Packet fault ≢ d

guarded_never : (d : KeyError) → IsStrange d → (short right : Bool) (text : List ℕ) → IfErr (guarded short right text) (λ e. e ≢ d)
guarded_never d strange true right text = strange.short
guarded_never d strange false true text = tt
guarded_never d strange false false text = strange.tag

unsealed_never : (d : KeyError) → IsStrange d → (keys : DerivedKeys) → Never d (unsealed keys)
unfolding unsealed
unsealed_never d strange keys payload =
    guarded_never d strange (nat_lt (length payload) 28) (pointwise nat_eq (tag_of payload) (tag keys.encryption_key (iv_of payload) (ciphertext_of payload))) _

fault_never : (d : KeyError) → IsStrange d → (read : Result Packet FrameError) → IfErr read (λ e. e ≢ frames.NoMemory) → IfErr (packet_or_fault read) (λ e. e ≢ d)
fault_never d strange (Ok packet) other = tt
fault_never d strange (Err fault) other = strange.packet fault other

packet_never : (d : KeyError) → IsStrange d → (kind : ℕ) (text : Result (List ℕ) KeyError) → IfErr text (λ e. e ≢ d) → IfErr (packet_in kind text) (λ e. e ≢ d)
packet_never d strange kind (Ok text) other = fault_never d strange (packet_at kind text) (reads_without_memory kind text)
packet_never d strange kind (Err e) other = other

opened_never : (d : KeyError) → IsStrange d → (keys : DerivedKeys) (kind : ℕ) → Never d (opened keys kind)
unfolding opened
opened_never d strange keys kind payload = packet_never d strange kind (unsealed keys payload) (unsealed_never d strange keys payload)

memory_is_strange : IsStrange refused.NoMemory
memory_is_strange = record { short = λ is. cc; tag = λ is. cc; packet = λ fault other is. cc }

packet_memory_is_strange : IsStrange (refused.Packet frames.NoMemory)
packet_memory_is_strange = record { short = λ is. cc; tag = λ is. cc; packet = λ fault other is. other cc }

pub opens_without_memory : OpensWithoutMemory
opens_without_memory = record {
  text = unsealed_never refused.NoMemory memory_is_strange;
  packet = opened_never refused.NoMemory memory_is_strange;
  fault = opened_never (refused.Packet frames.NoMemory) packet_memory_is_strange;
}
