use Rattle.std.proofs.Common.{refl, ap, ◌∙◌}
use Rattle.ilpstream_settings.specs.Table.{name_of, names_from}
use Rattle.ilpstream_settings.proofs.AccountNames.{names_said}
use Rattle.ilpstream_settings.proofs.names.names_of.Goals as goal

pub loop-number-init : goal.loop-number-init
unfolding names_from
loop-number-init g c = rw c.new-names.ensures.items refl

pub loop-number-preserved : goal.loop-number-preserved
loop-number-preserved g c =
    let named = c.in_ok-name.ensures ∙ ap (name_of c.loop-number.number) c.index-accounts-number.is in
    names_said c.args.accounts.now c.loop-number.number c.index-accounts-number.result c.loop-number.names.items c.push.new.self.items c.in_ok-name.name c.loop-number-test.true c.loop-number.invariant named
    c.in_ok-push.ensures.items
