-- The parts of a payload, and what its tag decides.
use Rattle.std.proofs.Common.{◌≡◌, ℕ, ◌+◌, ◌≤◌, ◌<◌, ◌^◌, Result, true, false, List, [], ◌++◌, length, take, drop, nat_eq, Ok, Err, refl, sym, ap, ◌∙◌, arith, inl, inr}
use Rattle.std.specs.Bool.{Decides}
use Rattle.std.specs.Cmp.Lexicographic.{pointwise}
use Rattle.std.proofs.lemmas.Bool.{le-ltb, cases_Bool}
use Rattle.std.proofs.lemmas.Bool.Decides.{Decides-eqb}
use Rattle.std.proofs.lemmas.List.{take_at, drop_at, drop-drop, length-append, length-take-le, take-append-drop, append-nil}
use Rattle.std.proofs.lemmas.Slice.Eq.{slice_eq-Decides}
use Rattle.st_aes.specs.Gcm.{tag, counter_mode}
use Rattle.st_aes.proofs.Streams.{counter_mode_twice}
use Rattle.st_frames.specs.Frames.{Known, Packet}
use Rattle.st_frames.specs.Reading.{packet_at}
use Rattle.st_frames.specs.Written.{AllFit, written, packet_with}
use Rattle.st_frames.specs.declared.error.FrameError.{FrameError}
use Rattle.st_frames.proofs.WrittenLaws.{packet_writes}
use Rattle.st_keys.specs.declared.error.KeyError.TheVariants as refused
use Rattle.st_keys.specs.Keys.{DerivedKeys}
use Rattle.st_keys.specs.Sealed.{payload_of, sealed, iv_of, tag_of, ciphertext_of, unsealed, packet_in, packet_or_fault, opened, sealed_text, sealed_packet}

-- ---- what the tag decides

same_bytes : (xs ys : List ℕ) → Decides (pointwise nat_eq xs ys) (xs ≡ ys)
same_bytes xs ys = slice_eq-Decides (λ a b. Decides-eqb a b) xs ys (pointwise nat_eq xs ys) refl

pub unsealed_wrong : (keys : DerivedKeys) (payload : List ℕ) → 28 ≤ length payload
    → (tag_of payload ≡ tag keys.encryption_key (iv_of payload) (ciphertext_of payload) → ⊥) → unsealed keys payload ≡ Err refused.Tag
unfolding unsealed
unsealed_wrong keys payload long other =
    let given = tag_of payload in
    let right = tag keys.encryption_key (iv_of payload) (ciphertext_of payload) in
    let test : pointwise nat_eq given right ≡ false =
    elim (cases_Bool (pointwise nat_eq given right)) [
      | inl same ↦ absurd (other ((same_bytes given right).0 same))
      | inr differ ↦ differ
    ] in
    rw (le-ltb (length payload) 28 long, test) refl

pub unsealed_right : (keys : DerivedKeys) (payload : List ℕ) → 28 ≤ length payload
    → tag_of payload ≡ tag keys.encryption_key (iv_of payload) (ciphertext_of payload)
    → unsealed keys payload ≡ Ok (counter_mode keys.encryption_key (iv_of payload) (ciphertext_of payload))
unfolding unsealed
unsealed_right keys payload long same =
    let given = tag_of payload in
    let right = tag keys.encryption_key (iv_of payload) (ciphertext_of payload) in
    let test : pointwise nat_eq given right ≡ true = (same_bytes given right).1 same in
    rw (le-ltb (length payload) 28 long, test) refl

-- ---- a payload whose text is written over

-- what a write to the bytes from 28 on leaves in front
pub kept_front : (payload text rest : List ℕ) → 28 ≤ length payload → take 28 (take 28 payload ++ (text ++ rest)) ≡ take 28 payload
kept_front payload text rest long = take_at (take 28 payload) (text ++ rest) 28 (length-take-le 28 payload long)

pub new_text : (payload text rest : List ℕ) → 28 ≤ length payload → rest ≡ [] → drop 28 (take 28 payload ++ (text ++ rest)) ≡ text
new_text payload text rest long none =
    drop_at (take 28 payload) (text ++ rest) 28 (length-take-le 28 payload long) ∙ ap (λ (z : List ℕ). text ++ z) none ∙ append-nil text

pub kept_all : (payload text : List ℕ) (n : ℕ) → text ≡ take n (drop 28 payload) → take 28 payload ++ (text ++ drop n (drop 28 payload)) ≡ payload
kept_all payload text n same =
    ap (λ (z : List ℕ). take 28 payload ++ (z ++ drop n (drop 28 payload))) same ∙ ap (λ (z : List ℕ). take 28 payload ++ z) (take-append-drop n (drop 28 payload)) ∙ take-append-drop 28 payload

-- ---- a sealed text

pub tag_length : (key iv text : List ℕ) → length (tag key iv text) ≡ 16
unfolding tag
tag_length key iv text = refl

-- the parts of a payload are those that it was made of
parts : (key iv ciphertext : List ℕ) → length iv ≡ 12
    → (iv_of (payload_of key iv ciphertext) ≡ iv) × (tag_of (payload_of key iv ciphertext) ≡ tag key iv ciphertext) × (ciphertext_of (payload_of key iv ciphertext) ≡ ciphertext) × (28 ≤ length (payload_of key iv ciphertext))
unfolding payload_of
parts key iv ciphertext long =
    let t = tag key iv ciphertext in
    let t_long : length t ≡ 16 = tag_length key iv ciphertext in
    let after_iv : drop 12 (iv ++ (t ++ ciphertext)) ≡ t ++ ciphertext = drop_at iv (t ++ ciphertext) 12 long in
    let joined : length (iv ++ (t ++ ciphertext)) ≡ length iv + (length t + length ciphertext) =
    length-append iv (t ++ ciphertext) ∙ ap (λ (n : ℕ). length iv + n) (length-append t ciphertext) in (
      take_at iv (t ++ ciphertext) 12 long,
      ap (take 16) after_iv ∙ take_at t ciphertext 16 t_long,
      sym (drop-drop 16 12 (iv ++ (t ++ ciphertext))) ∙ ap (drop 16) after_iv ∙ drop_at t ciphertext 16 t_long,
      omega (arith, long, t_long, joined),
    )

pub sealed_unseals : (keys : DerivedKeys) (iv text : List ℕ) → length iv ≡ 12 → unsealed keys (sealed keys iv text) ≡ Ok text
unfolding sealed
sealed_unseals keys iv text long =
    let key = keys.encryption_key in
    let ciphertext = counter_mode key iv text in
    let payload = payload_of key iv ciphertext in
    let p = parts key iv ciphertext long in
    let same : tag_of payload ≡ tag key (iv_of payload) (ciphertext_of payload) = rw (p.0, p.2) p.1 in
    let back : counter_mode key (iv_of payload) (ciphertext_of payload) ≡ text = rw (p.0, p.2) (counter_mode_twice key iv text) in
    unsealed_right keys payload p.3 same ∙ ap (λ (t : List ℕ). Ok t) back

-- ---- a sealed packet

-- a text that reads as a packet, sealed
pub sealed_opens : (keys : DerivedKeys) (iv text : List ℕ) (kind : ℕ) (packet : Packet) → length iv ≡ 12 → packet_at kind text ≡ Ok packet → opened keys kind (sealed keys iv text) ≡ Ok packet
unfolding opened
sealed_opens keys iv text kind packet long reads = ap (packet_in kind) (sealed_unseals keys iv text long) ∙ ap packet_or_fault reads

-- a packet's text and no fault was sealed
abbrev pub OpensTo : (keys : DerivedKeys) (iv : List ℕ) (kind : ℕ) (packet : Packet) → Result (List ℕ) FrameError → Type 0
OpensTo keys iv kind packet text = (payload : List ℕ) → sealed_text keys iv text ≡ Ok payload → opened keys kind payload ≡ Ok packet

text_opens : (keys : DerivedKeys) (iv : List ℕ) (kind : ℕ) (packet : Packet) (text : Result (List ℕ) FrameError) → length iv ≡ 12
    → ((bytes : List ℕ) → text ≡ Ok bytes → packet_at kind bytes ≡ Ok packet) → OpensTo keys iv kind packet text
text_opens keys iv kind packet (Ok bytes) long reads = λ payload is.
    let same : sealed keys iv bytes ≡ payload = cc in
    rw (← same) (sealed_opens keys iv bytes kind packet long (reads bytes refl))
text_opens keys iv kind packet (Err fault) long reads = λ payload is. absurd cc

pub packet_opens : (keys : DerivedKeys) (iv payload : List ℕ) (kind sequence amount : ℕ) (ks : List Known) → length iv ≡ 12 → sequence < 2 ^ 64 → amount < 2 ^ 64 → AllFit ks
    → sealed_packet keys iv kind sequence amount ks ≡ Ok payload → opened keys kind payload ≡ Ok (packet_with kind sequence amount ks)
unfolding sealed_packet
packet_opens keys iv payload kind sequence amount ks long s a fit is =
    text_opens keys iv kind (packet_with kind sequence amount ks) (written kind sequence amount ks) long
    (λ bytes w. packet_writes.itself kind sequence amount ks bytes s a fit w) payload is
