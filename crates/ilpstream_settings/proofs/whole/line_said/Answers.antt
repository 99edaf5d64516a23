use Rattle.std.proofs.Common.{[], codes, sym}
use Rattle.ilpstream_settings.proofs.Tables.{bad_account, bad_route, bad_word, first_word}
use Rattle.ilpstream_settings.proofs.whole.line_said.Goals as goal

pub returns-in-Some : goal.returns-in-Some
returns-in-Some c =
    rw (first_word c.args.words.now (codes "account") (record { ref_ptr = (0, 0); now = [] }) c.in-len1-up.len_at_least c.if-eq.ensures) c.in-Some.ensures

pub returns-in-None : goal.returns-in-None
returns-in-None c =
    bad_account _ _ (first_word c.args.words.now (codes "account") (record { ref_ptr = (0, 0); now = [] }) c.in-len1-up.len_at_least c.if-eq.ensures) c.in-None.ensures

pub returns-in-Some-route_of : goal.returns-in-Some-route_of
returns-in-Some-route_of c =
    rw (first_word c.args.words.now (codes "route") (record { ref_ptr = (0, 0); now = [] }) c.in-len1-up.len_at_least c.if-eq-2.ensures) c.in-Some-route_of.ensures

pub returns-in-None-route_of : goal.returns-in-None-route_of
returns-in-None-route_of c =
    bad_route _ _ (first_word c.args.words.now (codes "route") (record { ref_ptr = (0, 0); now = [] }) c.in-len1-up.len_at_least c.if-eq-2.ensures) c.in-None-route_of.ensures

pub returns : goal.returns
returns c = bad_word c.args.words.now (record { ref_ptr = (0, 0); now = [] }) c.in-len1-up.len_at_least (sym c.if-eq.ensures) (sym c.if-eq-2.ensures)
