use Rattle.std.proofs.Common.{◌≡◌, ◌-◌, ℕ, List, [], length, take, drop, Ok, refl, sym, ap, ◌∙◌, arith}
use Rattle.std.proofs.lemmas.List.{take_rest, drop_all, length-drop}
use Rattle.st_aes.specs.Gcm.{tag, counter_mode}
use Rattle.st_keys.specs.Sealed.{iv_of, tag_of, ciphertext_of}
use Rattle.st_keys.proofs.Payloads.{unsealed_wrong, unsealed_right, kept_front, new_text, kept_all}
use Rattle.st_keys.proofs.keys.Keys.unseal_payload.Goals as goal

pub returns-then-not-unseal_text-clause-exact : goal.returns-then-not-unseal_text-clause-exact
returns-then-not-unseal_text-clause-exact c =
    let p = c.args.payload.now in
    let text : take (length p - 28) (drop 28 p) ≡ drop 28 p = take_rest p 28 in
    unsealed_wrong c.args.self.now p (omega arith) (λ same.
    let wrong = c.if-not-unseal_text.ensures.exact.1 (rw (c.iv_of-iv.ensures, text) (c.tag_of-tag.ensures ∙ same)) in
    absurd cc)

pub returns-then-not-unseal_text-clause-unchanged : goal.returns-then-not-unseal_text-clause-unchanged
returns-then-not-unseal_text-clause-unchanged c =
    let p = c.args.payload.now in
    kept_all p c.unseal_text.new.text (length p - 28) c.if-not-unseal_text.ensures.unchanged

pub returns-clause-exact : goal.returns-clause-exact
returns-clause-exact c =
    let p = c.args.payload.now in
    let key = c.args.self.now.encryption_key in
    let text : take (length p - 28) (drop 28 p) ≡ drop 28 p = take_rest p 28 in
    let none : drop (length p - 28) (drop 28 p) ≡ [] = drop_all (length p - 28) (drop 28 p) (rw (length-drop 28 p) (omega arith)) in
    let same : tag_of p ≡ tag key (iv_of p) (ciphertext_of p) = sym c.tag_of-tag.ensures ∙ (rw (← c.iv_of-iv.ensures, ← text) (c.if-not-unseal_text.ensures.exact.0 refl)) in
    let plain : c.unseal_text.new.text ≡ counter_mode key (iv_of p) (ciphertext_of p) = c.if-not-unseal_text.ensures.opened ∙ (rw (c.iv_of-iv.ensures, text) refl) in
    unsealed_right c.args.self.now p (omega arith) same ∙ ap (λ (t : List ℕ). Ok t) (sym plain ∙ sym (new_text p c.unseal_text.new.text _ (omega arith) none))

pub returns-clause-front : goal.returns-clause-front
returns-clause-front c = kept_front c.args.payload.now c.unseal_text.new.text _ (omega arith)
