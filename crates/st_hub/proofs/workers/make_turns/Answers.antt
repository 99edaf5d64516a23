use Rattle.std.proofs.Common.{refl}
use Rattle.std.proofs.Math.Nat.{le_antisymm}
use Rattle.st_hub.specs.Working.{no_iv, all_turns}
use Rattle.st_hub.proofs.Working.{begun_ends, begun_idle, begun_sends, works_none, works_fill, works_use, works_keep, works_at}
use Rattle.st_hub.proofs.workers.make_turns.Goals as goal
use Rattle.st_hub.proofs.workers.make_turns.Goals.{in-Sends, in-Idle}

pub loop-init : goal.loop-init
loop-init g c = works_none g.I.Ivs.gives g.L.Link.exchanges g.K.Clock.reads g.W.Observer.hears _

-- no IV was given
pub returns-then-not-fill : goal.returns-then-not-fill
returns-then-not-fill g c =
    let none = rw c.if-not-fill.true at c.fill.ensures in
    record {
      made = c.loop.counter;
      few = c.loop.auto.counter-end;
      spare_iv = c.loop.spare_iv;
      last = _;
      works = c.loop.invariant;
      ends = no_iv refl none.0 refl;
    }

pub returns-in-Ends : goal.returns-in-Ends
returns-in-Ends g c = record {
  made = c.loop.counter;
  few = c.loop.auto.counter-end;
  spare_iv = c.fill.new.spare_iv;
  last = _;
  works = works_fill g.I.Ivs.gives g.L.Link.exchanges g.K.Clock.reads g.W.Observer.hears _ _ _ _ _ _ _ _ _ c.loop.invariant (rw c.if-not-fill.false at c.fill.ensures);
  ends = begun_ends {A = g.row.A.Denot} g.K.Clock.reads _ _ _ _ _ _ _ _ _ _ _ (rw c.in-Ends.is at c.begin.ensures);
}

pub loop-preserved : goal.loop-preserved
loop-preserved g c =
    let gives = g.I.Ivs.gives in
    let exchanges = g.L.Link.exchanges in
    let reads = g.K.Clock.reads in
    let hears = g.W.Observer.hears in
    let filled = works_fill gives exchanges reads hears _ _ _ _ _ _ _ _ _ c.loop.invariant (rw c.if-not-fill.false at c.fill.ensures) in
    elim c.match-begin.branch [
      | in-Sends w ↦ works_at gives exchanges reads hears _ _ _ _ _ _ _ _ _ w.link-is w.watch-is
          (works_use gives exchanges reads hears _ _ _ _ _ _ _ _ _ _ _ _ w.in-Sends.unsealed _ _ filled (begun_sends {A = g.row.A.Denot} reads _ _ _ _ _ _ (rw w.in-Sends.is at c.begin.ensures)) (rw w.seal-turn.ensures at w.exchange-outcome.ensures) (rw w.seal-turn.ensures at w.finish-cause.ensures) w.tell_limit.ensures w.tell.ensures)
      | in-Idle w ↦ works_at gives exchanges reads hears _ _ _ _ _ _ _ _ _ w.link-is w.watch-is
          (works_keep gives exchanges reads hears _ _ _ _ _ _ _ _ _ filled (begun_idle {A = g.row.A.Denot} reads _ _ _ _ _ (rw w.in-Idle.is at c.begin.ensures)))
    ]

-- all rounds were made
pub returns : goal.returns
returns g c = record {
  made = c.loop.counter;
  few = c.loop.auto.counter-end;
  spare_iv = c.loop.spare_iv;
  last = _;
  works = c.loop.invariant;
  ends = all_turns refl (le_antisymm c.loop.auto.counter-end c.loop-test.false) refl;
}
