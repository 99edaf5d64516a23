use Rattle.std.proofs.Common.{◌≡◌, ◌++◌, List, ℕ, length, take, drop, map, Ok, sym, ap, ◌∙◌, arith}
use Rattle.std.proofs.lemmas.List.{take_at, length-drop}
use Rattle.st_frames.specs.Kinds.{kind_number}
use Rattle.st_frames.specs.Seen.{seen}
use Rattle.st_keys.specs.Sealed.{sealed, sealed_text, sealed_packet, ciphertext_of}
use Rattle.st_keys.proofs.Lengths.{sealed_length}
use Rattle.st_keys.proofs.Payloads.{packet_opens}
use Rattle.st_keys.proofs.keys.Keys.seal_packet.Goals as goal

pub returns-clause-opens : goal.returns-clause-opens
unfolding sealed_packet
returns-clause-opens g c =
    let a = c.args in
    let ks = map seen a.frames.now in
    let given = c.in_ok-payload.payload in
    let bytes = c.seal_payload.new.payload in
    let long : length a.iv ≡ 12 = omega arith in
    let same : bytes ≡ sealed a.self.now a.iv (ciphertext_of given.items) =
    c.seal_payload.ensures ∙ ap (λ (l : List ℕ). sealed a.self.now a.iv (drop 28 l)) c.deref_mut.ensures.value in
    let whole : length bytes ≡ given.len =
    omega (arith, ap length same, sealed_length a.self.now a.iv (ciphertext_of given.items) long, length-drop 28 given.items, c.in_ok-payload.ensures.long, ap length c.deref_mut.ensures.value, c.deref_mut.ensures.len) in
    let out : take given.len (bytes ++ drop (length bytes) given.items) ≡ bytes = take_at bytes (drop (length bytes) given.items) given.len whole in
    let is = ap (sealed_text a.self.now a.iv) c.in_ok-payload.ensures.written ∙ ap (λ (l : List ℕ). Ok l) (sym (out ∙ same)) in
    packet_opens a.self.now a.iv _ (kind_number a.kind) a.sequence a.amount ks long (omega arith) (omega arith) c.in_ok-payload.ensures.fits is
