use Rattle.std.proofs.Common.{[], codes, sym}
use Rattle.ilpstream_settings.proofs.LineFaults.{by_account, by_kind, by_route}
use Rattle.ilpstream_settings.proofs.Tables.{first_word}
use Rattle.ilpstream_settings.proofs.fault.line_fault.Goals as goal

pub returns-then-eq : goal.returns-then-eq
returns-then-eq c =
    by_account _ _ (first_word c.args.words.now (codes "account") (record { ref_ptr = (0, 0); now = [] }) c.in-len1-up.len_at_least c.if-eq.ensures) c.account_fault.result c.account_fault.ensures

pub returns-then-eq-2 : goal.returns-then-eq-2
returns-then-eq-2 c =
    by_route _ _ (first_word c.args.words.now (codes "route") (record { ref_ptr = (0, 0); now = [] }) c.in-len1-up.len_at_least c.if-eq-2.ensures) c.route_fault.result c.route_fault.ensures

pub returns : goal.returns
returns c = by_kind c.args.words.now (record { ref_ptr = (0, 0); now = [] }) c.in-len1-up.len_at_least (sym c.if-eq.ensures) (sym c.if-eq-2.ensures)
