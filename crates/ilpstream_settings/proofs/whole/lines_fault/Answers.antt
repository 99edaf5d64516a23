use Rattle.std.proofs.Common.{◌≡◌, [], get_or, inl, map, refl}
use Rattle.ilpstream_settings.specs.Table.{words_of}
use Rattle.ilpstream_settings.proofs.Placing.{bad_here, found_here, name_again, read_more, read_none}
use Rattle.ilpstream_settings.proofs.whole.lines_fault.Goals as goal

pub loop-index-init : goal.loop-index-init
loop-index-init g c = rw (c.new-read.ensures.0, c.new-read.ensures.1) (read_none _)

pub returns-in-SameName : goal.returns-in-SameName
returns-in-SameName g c =
    inl (
      refl,
      name_again c.args.lines.now c.loop-index.index (record { ref_ptr = (0, 0); now = [] }) (words_of (get_or c.args.lines.now c.loop-index.index (record { ref_ptr = (0, 0); now = [] })).now) c.loop-index.read.names.keys
          c.loop-index.read.routes.items c.loop-index-test.true refl c.loop-index.invariant (rw c.in-SameName.is at c.in_ok-step.ensures),
    )

pub returns-in-Bad : goal.returns-in-Bad
returns-in-Bad g c = λ good.
    absurd (bad_here c.args.lines.now c.loop-index.index (record { ref_ptr = (0, 0); now = [] }) (words_of (get_or c.args.lines.now c.loop-index.index (record { ref_ptr = (0, 0); now = [] })).now) c.loop-index.read.names.keys
    c.loop-index.read.routes.items c.loop-index-test.true refl c.loop-index.invariant (rw c.in-Bad.is at c.in_ok-step.ensures) good)

pub loop-index-preserved : goal.loop-index-preserved
loop-index-preserved g c =
    read_more c.args.lines.now c.loop-index.index (record { ref_ptr = (0, 0); now = [] }) (words_of (get_or c.args.lines.now c.loop-index.index (record { ref_ptr = (0, 0); now = [] })).now) c.loop-index.read.names.keys
    c.loop-index.read.routes.items c.loop-index-test.true refl c.loop-index.invariant c.take_text.new.self.names.keys c.take_text.new.self.routes.items (rw c.in-Added.is at c.in_ok-step.ensures)

pub returns : goal.returns
returns g c =
    found_here c.args.lines.now c.loop-index.index c.loop-index.read.names.keys c.loop-index.read.routes.items c.loop-index-test.false c.loop-index.invariant c.len.result c.deref.result.now
    c.routes_fault.result c.len.ensures.len c.deref.ensures.value c.routes_fault.ensures
