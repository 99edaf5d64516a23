use Rattle.std.proofs.Common.{List, ◌∙◌, refl, sym, subst, arith}
use Rattle.st_sender.specs.Sending.{Flight}
use Rattle.st_sender.specs.ControlFrames.{IsHeldAt, NoneHeld}
use Rattle.st_sender.proofs.blocked.connection_blocked.Goals as goal

pub returns-then-is_any_held : goal.returns-then-is_any_held
returns-then-is_any_held g c = (
  refl,
  record {
    first = sym c.was_blocked.ensures ∙ c.if-was_blocked.false;
    waits = subst (λ (fs : List Flight). IsHeldAt c.args.streams.now fs c.args.bounds.spare) c.with.ensures (c.is_any_held.ensures.yes c.if-is_any_held.true);
    short = omega (arith, c.notice_size.ensures, c.if-notice_size-bounds.false);
  },
)

pub returns-else-is_any_held : goal.returns-else-is_any_held
returns-else-is_any_held g c = λ d.
    let w = d.waits in
    let h = w.held in
    let none = subst (λ (fs : List Flight). NoneHeld c.args.streams.now fs c.args.bounds.spare 65) c.with.ensures (c.is_any_held.ensures.no c.if-is_any_held.false) in
    let low = none w.stream w.lane w.is_own w.is_open h.0 h.1 h.2 in
    absurd (omega (arith, low, h.3))

pub returns-then-was_blocked : goal.returns-then-was_blocked
returns-then-was_blocked g c = λ d. let e = sym c.if-was_blocked.true ∙ c.was_blocked.ensures ∙ d.first in absurd cc

pub returns-then-notice_size-bounds : goal.returns-then-notice_size-bounds
returns-then-notice_size-bounds g c = λ d. absurd (omega (arith, c.notice_size.ensures, c.if-notice_size-bounds.true, d.short))

pub with-requires : goal.with-requires
with-requires g c = c.ends_of-ends.ensures

pub is_any_held-requires-clause-small : goal.is_any_held-requires-clause-small
is_any_held-requires-clause-small g c = c.requires.small

pub is_any_held-requires-clause-streams : goal.is_any_held-requires-clause-streams
is_any_held-requires-clause-streams g c = c.requires.streams
