use Rattle.ilpstream_main.proofs.Transfers.{sent}
use Rattle.ilpstream_main.proofs.send.transfer.Goals as goal

pub returns-clause-made : goal.returns-clause-made
returns-clause-made g c =
    sent c.args.settings.now c.args.credentials.now.secret _ _ _ _ _ _ c.in_ok-end.ensures.made c.terms_of-terms.ensures.terms.money c.send_on-ended.ensures.told c.result_of.ensures
