use Rattle.std.proofs.Common.{[], refl}
use Rattle.ilpstream_settings.proofs.FirstFaults.{first_at, good_more}
use Rattle.ilpstream_settings.proofs.Tables.{lines_whole}
use Rattle.ilpstream_settings.proofs.fault.first_fault.Goals as goal

pub returns-in-Some : goal.returns-in-Some
returns-in-Some g c =
    first_at _ c.args.lines.now c.loop-index.index (record { ref_ptr = (0, 0); now = [] }) c.in-Some.fault refl c.loop-index-test.true c.loop-index.invariant
    (rw (c.deref.ensures.value, c.in_ok-words.ensures) at c.in-Some.ensures)

pub loop-index-preserved : goal.loop-index-preserved
loop-index-preserved g c =
    good_more c.args.lines.now c.loop-index.index (record { ref_ptr = (0, 0); now = [] }) c.loop-index-test.true c.loop-index.invariant
    (rw (c.deref.ensures.value, c.in_ok-words.ensures) at c.in-None.ensures)

pub returns : goal.returns
returns g c = rw (lines_whole c.args.lines.now c.loop-index.index c.loop-index-test.false) at c.loop-index.invariant
