-- How many bytes hashes and payloads have.
use Rattle.std.proofs.Common.{◌≡◌, ℕ, zero, suc, ◌+◌, ◌≤◌, ◌<◌, Bool, true, false, cond, Result, Ok, Err, List, [], ◌∷◌, ◌++◌, length, nat_lt, nat_eq, refl, ap, arith}
use Rattle.std.specs.Cmp.Lexicographic.{pointwise}
use Rattle.std.specs.Int.{byte_at, bytes_high_first, to_be_bytes, w32}
use Rattle.std.specs.Prelude.{slice_index}
use Rattle.std.proofs.lemmas.Bool.{ltb-false}
use Rattle.std.proofs.lemmas.List.{length-append, length-drop}
use Rattle.sha2.specs.Sha256.{digest_bytes, sha256}
use Rattle.sha2.proofs.Facts256.{length-sha256}
use Rattle.st_oer.specs.Laws.{IsBytes}
use Rattle.st_aes.specs.Gcm.{tag, counter_mode}
use Rattle.st_aes.proofs.Streams.{counter_mode_length}
use Rattle.st_frames.specs.Frames.{Known}
use Rattle.st_frames.specs.Written.{written}
use Rattle.st_frames.specs.declared.error.FrameError.{FrameError}
use Rattle.st_keys.specs.declared.error.KeyError.{KeyError}
use Rattle.st_keys.specs.declared.error.KeyError.TheVariants as refused
use Rattle.st_keys.specs.Mac.{hmac}
use Rattle.st_keys.specs.Keys.{DerivedKeys, fulfillment, condition}
use Rattle.st_keys.specs.Sealed.{payload_of, sealed, sealed_text, sealed_packet, iv_of, tag_of, ciphertext_of, unsealed}
use Rattle.st_keys.specs.Laws.{AreBytes}
use Rattle.st_keys.proofs.Payloads.{tag_length}
use Rattle.st_keys.proofs.Written.{IsWritable, writable}

-- ---- hashes

one_more : (x : ℕ) (xs : List ℕ) → x < 256 → IsBytes xs → (i : ℕ) → slice_index (x ∷ xs) i < 256
one_more x xs first rest zero = first
one_more x xs first rest (suc i) = rest i

bytes_append : (xs ys : List ℕ) → IsBytes xs → IsBytes ys → IsBytes (xs ++ ys)
bytes_append [] ys first second = second
bytes_append (x ∷ xs) ys first second = one_more x (xs ++ ys) (first 0) (bytes_append xs ys (λ k. first (suc k)) second)

byte_below : (k n : ℕ) → byte_at k n < 256
byte_below zero n = omega arith
byte_below (suc k) n = omega arith

high_first : (k n : ℕ) → IsBytes (bytes_high_first k n)
high_first zero n = λ i. omega arith
high_first (suc k) n = one_more (byte_at k n) (bytes_high_first k n) (byte_below k n) (high_first k n)

words_are_bytes : (words : List ℕ) (n : ℕ) → IsBytes (digest_bytes words n)
unfolding digest_bytes
words_are_bytes words zero = λ i. omega arith
words_are_bytes words (suc n) =
    bytes_append (digest_bytes words n) (to_be_bytes w32 (slice_index words n)) (words_are_bytes words n) (high_first 4 (slice_index words n))

hash : (text : List ℕ) → AreBytes 32 (sha256 text)
unfolding sha256
hash text = record { count = length-sha256 text; each = words_are_bytes _ 8 }

pub fulfillment_is : (keys : DerivedKeys) (payload : List ℕ) → AreBytes 32 (fulfillment keys payload)
unfolding hmac
fulfillment_is keys payload = hash _

pub condition_is : (bytes : List ℕ) → AreBytes 32 (condition bytes)
condition_is bytes = hash bytes

-- ---- payloads

pub sealed_length : (keys : DerivedKeys) (iv text : List ℕ) → length iv ≡ 12 → length (sealed keys iv text) ≡ 28 + length text
unfolding sealed payload_of
sealed_length keys iv text long =
    let key = keys.encryption_key in
    let c = counter_mode key iv text in
    let whole = length-append iv (tag key iv c ++ c) in
    let behind = length-append (tag key iv c) c in
    omega (arith, long, whole, behind, tag_length key iv c, counter_mode_length key iv text)

-- the two tests of a payload
abbrev pub guarded : Bool → Bool → List ℕ → Result (List ℕ) KeyError
guarded short right text = cond short (Err refused.Short) (cond right (Ok text) (Err refused.Tag))

guarded_ok : (short right : Bool) (plain text : List ℕ) → guarded short right plain ≡ Ok text → (short ≡ false) × (plain ≡ text)
guarded_ok true right plain text is = absurd cc
guarded_ok false true plain text is = (refl, cc)
guarded_ok false false plain text is = absurd cc

pub unsealed_length : (keys : DerivedKeys) (payload text : List ℕ) → unsealed keys payload ≡ Ok text → length payload ≡ 28 + length text
unfolding unsealed
unsealed_length keys payload text is =
    let key = keys.encryption_key in
    let cipher = ciphertext_of payload in
    let plain = counter_mode key (iv_of payload) cipher in
    let ok = guarded_ok (nat_lt (length payload) 28) (pointwise nat_eq (tag_of payload) (tag key (iv_of payload) cipher)) plain text is in
    let long : 28 ≤ length payload = ltb-false (length payload) 28 ok.0 in
    let same : length plain ≡ length text = ap length ok.1 in
    omega (arith, long, same, counter_mode_length key (iv_of payload) cipher, length-drop 28 payload)

text_length : (keys : DerivedKeys) (iv payload : List ℕ) (text : Result (List ℕ) FrameError) → length iv ≡ 12 → IsWritable text → sealed_text keys iv text ≡ Ok payload → length payload ≤ 32767
text_length keys iv payload (Ok text) long short is =
    let same : sealed keys iv text ≡ payload = cc in
    omega (arith, short, sealed_length keys iv text long, ap length same)
text_length keys iv payload (Err fault) long short is = absurd cc

pub packet_length : (keys : DerivedKeys) (iv payload : List ℕ) (kind sequence amount : ℕ) (ks : List Known) → length iv ≡ 12
    → sealed_packet keys iv kind sequence amount ks ≡ Ok payload → length payload ≤ 32767
unfolding sealed_packet
packet_length keys iv payload kind sequence amount ks long is =
    text_length keys iv payload (written kind sequence amount ks) long (writable kind sequence amount ks) is
