use Rattle.std.proofs.Common.{◌<◌, arith, sym, subst, ◌∙◌}
use Rattle.st_sender.proofs.Totals.{found_at}
use Rattle.st_sender.proofs.Changing.{same_lane, no_lane}
use Rattle.st_sender.proofs.Said.{one_more}
use Rattle.st_sender.proofs.Within.{up_to}
use Rattle.st_sender.proofs.blocked.first_blocked.Goals as goal
use Rattle.st_sender.proofs.blocked.first_blocked.Goals.{in-Some+in_default-blocked, in_default}

pub loop-number-preserved : goal.loop-number-preserved
loop-number-preserved g c =
    one_more c.args.streams.now c.args.flights.now c.args.least c.args.bounds c.loop-number.number c.loop-number.invariant
    (λ l e f h. elim c.match-streams-number.branch [
      | in-Some+in_default-blocked w ↦ (let same = same_lane c.args.streams.now c.loop-number.number c.index-streams-number.result w.in-Some.stream l (subst (λ n. c.loop-number.number < n) (sym c.requires) c.loop-number-test.true) c.index-streams-number.is w.in-Some.is e in w.in_default-blocked.ensures f (rw same h))
      | in_default w ↦ absurd (no_lane c.args.streams.now c.loop-number.number c.index-streams-number.result l (subst (λ n. c.loop-number.number < n) (sym c.requires) c.loop-number-test.true) c.index-streams-number.is w.in_default.is e)
    ])

pub returns : goal.returns
returns g c = λ k l h e f. c.loop-number.invariant k l (omega (arith, h, c.loop-number-test.false)) e f

pub returns-in-Some-blocked : goal.returns-in-Some-blocked
returns-in-Some-blocked g c = record {
  stream = c.loop-number.number;
  lane = c.in-Some.stream;
  is_open = found_at c.args.streams.now c.loop-number.number c.index-streams-number.result (subst (λ n. c.loop-number.number < n) (sym c.requires) c.loop-number-test.true) c.index-streams-number.is ∙ c.in-Some.is;
  is_own = c.loop-number-test.true;
  blocked = c.in-Some-blocked.ensures;
}

pub loop-number-init : goal.loop-number-init
loop-number-init g c = λ k l h e f b. absurd (omega (arith, h))

pub bounds-streams-number : goal.bounds-streams-number
bounds-streams-number g c = omega (arith, c.requires, c.loop-number-test.true)

pub offset_bounds-streams-number : goal.offset_bounds-streams-number
offset_bounds-streams-number g c = up_to 65 _ _ c.requires c.loop-number-test.true
