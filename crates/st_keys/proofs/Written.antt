-- What writing a packet gives, and what its size says of it.
use Rattle.std.proofs.Common.{◌≡◌, ℕ, ◌≤◌, Bool, true, false, cond, Option, Some, None, Result, Ok, Err, List, length, nat_lt, refl, arith, inr}
use Rattle.std.specs.Prelude.{◌≢◌, ◌⊎◌, IsOk}
use Rattle.std.specs.List.{position}
use Rattle.std.proofs.lemmas.Bool.{ltb-false}
use Rattle.st_frames.specs.Frames.{Known, max_packet}
use Rattle.st_frames.specs.Written.{judged, packet_text, is_unwritable, written, size_of}
use Rattle.st_frames.specs.declared.error.FrameError.{FrameError}
use Rattle.st_frames.specs.declared.error.FrameError.TheVariants.{NoMemory, TooLong}

-- a text that was written is no longer than a packet may be, and a packet that is refused is not refused for memory
abbrev pub IsWritable : Result (List ℕ) FrameError → Type 0
IsWritable (Ok text) = length text ≤ max_packet
IsWritable (Err fault) = fault ≢ NoMemory

writable_if : (b : Bool) (text : List ℕ) → nat_lt max_packet (length text) ≡ b → IsWritable (cond b (Err TooLong) (Ok text))
writable_if true text is = λ same. cc
writable_if false text is = ltb-false max_packet (length text) is

writable_judged : (first : Option ℕ) (text : List ℕ) → IsWritable (judged first text)
writable_judged (Some i) text = λ same. cc
writable_judged None text = writable_if (nat_lt max_packet (length text)) text refl

pub writable : (kind sequence amount : ℕ) (ks : List Known) → IsWritable (written kind sequence amount ks)
unfolding written
writable kind sequence amount ks = writable_judged (position is_unwritable ks) (packet_text kind sequence amount ks)

-- a size is that of a packet
pub size_below : (text : Result (List ℕ) FrameError) (n : ℕ) → IsWritable text → size_of text ≡ Ok n → n ≤ max_packet
size_below (Ok bytes) n short is = let same : length bytes ≡ n = cc in omega (arith, short, same)
size_below (Err e) n short is = absurd cc

pub size_found : (text : Result (List ℕ) FrameError) (n : ℕ) → size_of text ≡ Ok n → IsOk text
size_found (Ok bytes) n is = refl
size_found (Err e) n is = absurd cc

-- a size that is refused is refused as the packet is
pub size_refused : (text : Result (List ℕ) FrameError) (e : FrameError) → IsWritable text → size_of text ≡ Err e
    → ((e ≡ NoMemory) × IsOk text) ⊎ ((e ≢ NoMemory) × (text ≡ Err e))
size_refused (Ok bytes) e other is = absurd cc
size_refused (Err d) e other is = inr (λ none. other cc, cc)
