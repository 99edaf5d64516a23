use Rattle.std.proofs.Common.{[], Bor, List, ℕ, get_or, arith}
use Rattle.std.proofs.lemmas.List.{length-map}
use Rattle.ilpstream_settings.specs.Faults.{Breaks}
use Rattle.ilpstream_settings.proofs.Lines.{four_words}
use Rattle.ilpstream_settings.proofs.LineFaults.{plain_route, rated_route, two_words}
use Rattle.ilpstream_settings.proofs.fault.route_fault.Goals as goal

pub returns-in-Some : goal.returns-in-Some
returns-in-Some c =
    rw (two_words c.args.words.now (record { ref_ptr = (0, 0); now = [] }) c.in-len2.len_at_least c.in-len2.len_below)
    (plain_route (get_or c.args.words.now 0 (record { ref_ptr = (0, 0); now = [] })) _ c.in-Some._account (rw c.as_bytes.ensures.value at c.in-Some.ensures))

pub returns-in-None : goal.returns-in-None
returns-in-None c =
    rw (two_words c.args.words.now (record { ref_ptr = (0, 0); now = [] }) c.in-len2.len_at_least c.in-len2.len_below)
    (Breaks.route_account _ _ (rw c.as_bytes.ensures.value at c.in-None.ensures))

pub returns-in-len4 : goal.returns-in-len4
returns-in-len4 c =
    rw (four_words c.args.words.now (record { ref_ptr = (0, 0); now = [] }) c.in-len4.len_at_least c.in-len4.len_below)
    (rated_route (get_or c.args.words.now 0 (record { ref_ptr = (0, 0); now = [] })) _ _ _ c.rated_fault.result c.rated_fault.ensures)

pub returns-in_default : goal.returns-in_default
returns-in_default c =
    let size = length-map c.args.words.now (λ (w : Bor (List ℕ)). w.now) in
    Breaks.route_words _ (λ e. absurd (omega (arith, size, c.in_default.len_below, e))) (λ e. absurd (omega (arith, size, c.in_default.len_below, e)))

pub returns-in_default-2 : goal.returns-in_default-2
returns-in_default-2 c =
    let size = length-map c.args.words.now (λ (w : Bor (List ℕ)). w.now) in
    Breaks.route_words _ (λ e. absurd (omega (arith, size, c.in_default.len_at_least, e))) (λ e. absurd (omega (arith, size, c.in_default.len_below, e)))

pub returns-in_default-3 : goal.returns-in_default-3
returns-in_default-3 c =
    let size = length-map c.args.words.now (λ (w : Bor (List ℕ)). w.now) in
    Breaks.route_words _ (λ e. absurd (omega (arith, size, c.in_default.len_at_least, e))) (λ e. absurd (omega (arith, size, c.in_default.len_at_least, e)))
