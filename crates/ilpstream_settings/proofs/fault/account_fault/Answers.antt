use Rattle.std.proofs.Common.{[], Bor, List, ℕ, arith}
use Rattle.std.proofs.lemmas.List.{length-map}
use Rattle.ilpstream_settings.specs.Faults.{Breaks}
use Rattle.ilpstream_settings.proofs.Lines.{five_words, six_words}
use Rattle.ilpstream_settings.proofs.LineFaults.{named_fault, plain_fault}
use Rattle.ilpstream_settings.proofs.fault.account_fault.Goals as goal

pub returns-in-len5 : goal.returns-in-len5
returns-in-len5 c =
    rw (five_words c.args.words.now (record { ref_ptr = (0, 0); now = [] }) c.in-len5.len_at_least c.in-len5.len_below)
    (plain_fault _ _ _ _ _ c.terms_fault.result c.terms_fault.ensures)

pub returns-in-Some : goal.returns-in-Some
returns-in-Some c =
    rw (six_words c.args.words.now (record { ref_ptr = (0, 0); now = [] }) c.in-len6.len_at_least c.in-len6.len_below)
    (named_fault _ _ _ _ _ _ c.in-Some._name c.in-Some.ensures c.terms_fault-in-Some.result c.terms_fault-in-Some.ensures)

pub returns-in-None : goal.returns-in-None
returns-in-None c =
    rw (six_words c.args.words.now (record { ref_ptr = (0, 0); now = [] }) c.in-len6.len_at_least c.in-len6.len_below)
    (Breaks.name _ _ _ _ _ _ c.in-None.ensures)

pub returns-in_default : goal.returns-in_default
returns-in_default c =
    let size = length-map c.args.words.now (λ (w : Bor (List ℕ)). w.now) in
    Breaks.account_words _ (λ e. absurd (omega (arith, size, c.in_default.len_below, e))) (λ e. absurd (omega (arith, size, c.in_default.len_below, e)))

pub returns-in_default-2 : goal.returns-in_default-2
returns-in_default-2 c =
    let size = length-map c.args.words.now (λ (w : Bor (List ℕ)). w.now) in
    Breaks.account_words _ (λ e. absurd (omega (arith, size, c.in_default.len_at_least, e))) (λ e. absurd (omega (arith, size, c.in_default.len_at_least, e)))
