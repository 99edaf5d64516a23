use Rattle.std.proofs.Common.{◌≡◌, length, sym, ap, ◌∙◌}
use Rattle.std.specs.Prelude.{string_bytes}
use Rattle.std.proofs.lemmas.List.{length-map}
use Rattle.ilpstream_settings.specs.declared.line.AccountLine.{AccountLine}
use Rattle.ilpstream_net.proofs.Restoring.{names_counted}
use Rattle.ilpstream_net.proofs.hop.restored.Goals as goal

pub place-requires : goal.place-requires
place-requires g c =
    let accounts = c.args.table.now.accounts.items in
    let names = c.in_ok-names.names.items in
    let counted : length names ≡ length accounts = sym (length-map names string_bytes) ∙ ap length c.in_ok-names.ensures ∙ names_counted 0 accounts in
    rw (c.deref.ensures.value, c.deref-2.ensures.value, c.in_ok-terms.ensures) (counted ∙ sym (length-map accounts (λ (x : AccountLine). x.terms)))
