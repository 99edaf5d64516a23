use Rattle.std.proofs.Common.{[], codes, inl, inr, refl, rules}
use Rattle.ilpstream_settings.proofs.Tables.{bad_account, bad_route, first_word}
use Rattle.ilpstream_settings.proofs.table.Table.take_line.Goals as goal

pub returns-in_default-account_of-clause-bad : goal.returns-in_default-account_of-clause-bad
returns-in_default-account_of-clause-bad g c _ =
    bad_account _ _ (first_word c.args.words.now (codes "account") (record { ref_ptr = (0, 0); now = [] }) c.in-len1-up.len_at_least c.if-eq.ensures) c.in_default-account_of.ensures

pub returns-in_default-route_of-clause-bad : goal.returns-in_default-route_of-clause-bad
returns-in_default-route_of-clause-bad g c _ =
    bad_route _ _ (first_word c.args.words.now (codes "route") (record { ref_ptr = (0, 0); now = [] }) c.in-len1-up.len_at_least c.if-eq-2.ensures) c.in_default-route_of.ensures

pub returns-in_ok-push-clause-taken : goal.returns-in_ok-push-clause-taken
returns-in_ok-push-clause-taken g c =
    let is = first_word c.args.words.now (codes "account") (record { ref_ptr = (0, 0); now = [] }) c.in-len1-up.len_at_least c.if-eq.ensures in
    inr (inl (c.in-Some.account, rw is c.in-Some.ensures, c.in_ok-push.ensures.items, refl))

pub returns-else-is_err-clause-taken : goal.returns-else-is_err-clause-taken
returns-else-is_err-clause-taken g c =
    let is = first_word c.args.words.now (codes "route") (record { ref_ptr = (0, 0); now = [] }) c.in-len1-up.len_at_least c.if-eq-2.ensures in
    inr (inr (c.in-Some-route_of.route, rw is c.in-Some-route_of.ensures, refl, search rules))
