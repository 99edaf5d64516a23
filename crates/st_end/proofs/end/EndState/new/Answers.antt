use Rattle.std.proofs.Common.{ap, sym, ◌∙◌}
use Rattle.st_oer.specs.Address.{is_address}
use Rattle.st_end.proofs.Lawfulness.{lawful_when_new}
use Rattle.st_end.proofs.Numbered.{parity_low}
use Rattle.st_end.specs.Receiving.{t00_text}
use Rattle.st_end.proofs.end.EndState.new.Goals as goal

pub invariant_of-result : goal.invariant_of-result
invariant_of-result g c =
    (lawful_when_new _ c.args.config _ c.new-4.ensures (ap is_address c.in_ok-own.ensures.ok ∙ c.requires.own) (ap is_address c.in_ok-peer.ensures.ok ∙ c.requires.peer) c.in-Ok-new.ensures.opening c.in-Ok-new-2.ensures.empty (parity_low c.args.role c.parity.result c.parity.ensures), c.in_ok-t00.ensures.text ∙ ap t00_text (sym c.in_ok-own.ensures.ok))
