use Rattle.std.proofs.Common.{◌≡◌, drop, ap, sym, ◌∙◌, Ok}
use Rattle.std.proofs.lemmas.List.{take_rest}
use Rattle.st_keys.specs.Keys.{DerivedKeys}
use Rattle.st_keys.specs.Sealed.{unsealed}
use Rattle.host_objects.proofs.keys.Sealer.unseal_text.Goals as goal

pub returns : goal.returns
returns c =
    let text : unsealed c.args.self.now c.args.payload.now ≡ Ok (drop 28 c.unseal_payload.new.payload) =
    ap (λ (keys : DerivedKeys). unsealed keys c.args.payload.now) (sym c.self.view_is) ∙ c.in_ok-unseal_payload.ensures.exact in
    let copied : c.in_ok-from_slice.field-0.items ≡ drop 28 c.unseal_payload.new.payload = c.in_ok-from_slice.ensures.items ∙ take_rest c.unseal_payload.new.payload 28 in
    text ∙ ap Ok (sym copied)
