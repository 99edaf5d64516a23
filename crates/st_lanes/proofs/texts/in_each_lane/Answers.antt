use Rattle.std.proofs.Common.{rules, sym}
use Rattle.st_lanes.proofs.Behind.{eight_words}
use Rattle.st_lanes.proofs.texts.in_each_lane.Goals as goal

pub returns : goal.returns
returns c = λ l lt.
    rw (
      c.all.ensures l lt,
      c.all-2.ensures l lt,
      c.all-3.ensures l lt,
      c.all-4.ensures l lt,
      c.all-5.ensures l lt,
      c.all-6.ensures l lt,
      c.all-7.ensures l lt,
      c.all-8.ensures l lt,
    )
    (sym (eight_words c.args.hash (search rules)))
