use Rattle.std.proofs.lemmas.Result.{IfOk-from_err}
use Rattle.std.proofs.Common.{◌≡◌, ◌<◌, [], ◌∷◌, ◌++◌, List, Some, length, arith, sym, ap, subst, ◌∙◌, inr, inl}
use Rattle.st_streams.specs.Slots.{slot}
use Rattle.st_sender.specs.declared.bounds.Bounds.{Bounds}
use Rattle.st_sender.specs.declared.load.SentFrame as code
use Rattle.st_sender.specs.declared.load.SentFrame.TheVariants as held
use Rattle.st_sender.specs.Lanes.{SendStream}
use Rattle.st_sender.specs.Allowed.{left_beside, IsStopped, IsReady, in_round, start_of, AreServed, IsCutAt}
use Rattle.st_sender.proofs.Totals.{found_at}
use Rattle.st_sender.proofs.Changing.{same_lane, no_lane}
use Rattle.st_sender.proofs.Said.{alone_is}
use Rattle.st_sender.proofs.Planned.{no_frames, filled_is}
use Rattle.st_sender.proofs.Serving.{left_none, left_push, unable_stopped, served_none, served_push, served_skip}
use Rattle.st_sender.proofs.Within.{within, up_to, fits_below, at_most}
use Rattle.st_sender.proofs.choose.round.Goals as goal
use Rattle.st_sender.proofs.choose.round.Goals.{in-Some+in-Some-ready+in_ok-push, in-Some+in_default-ready+else-not-is_empty, else-not-is_empty-via-then-not-is_empty+else-may_fly, else-not-is_empty-via-else-not-is_empty, in_default}

pub loop-place-init : goal.loop-place-init
loop-place-init g c = (
  subst (λ (fs : List code.SentFrame). AreServed c.args.streams.now c.args.flights.now c.args.bounds c.args.turn 0 fs) (sym c.new-frames.ensures.items) (served_none c.args.streams.now c.args.flights.now c.args.bounds c.args.turn),
  sym (ap (left_beside c.args.streams.now c.args.flights.now c.args.bounds) c.new-frames.ensures.items ∙ left_none c.args.streams.now c.args.flights.now c.args.bounds),
)

pub returns-then-may_fly : goal.returns-then-may_fly
returns-then-may_fly g c =
    let lanes = c.args.streams.now in
    let flights = c.args.flights.now in
    let b = c.args.bounds in
    let turn = c.args.turn in
    let n = c.loop-place.place in
    let fs = c.loop-place.frames.items in
    let small = c.loop-place-test.true in
    let number = c.in_round-number.result in
    let lane = c.in-Some.stream in
    let start : c.min-start.result ≡ start_of turn = omega (arith, c.min-start.ensures, c.saturating_add.ensures, c.ranges.turn.fits) in
    let named : number ≡ in_round (start_of turn) n = c.in_round-number.ensures.stream ∙ ap (λ i. in_round i n) start in
    let at = found_at lanes number c.index-streams-number.result (omega (arith, c.requires.streams, c.in_round-number.ensures.within)) c.index-streams-number.is ∙ c.in-Some.is in
    let stopped = subst (λ (d : Bounds). IsStopped flights d number lane) c.loop-place.invariant.1 c.in_default-ready.ensures.ready in
    record {
      count = n;
      within = omega (arith, small);
      are = c.loop-place.invariant.0;
      ends = inr (
        small,
        λ e. absurd (omega (arith, ap length e, c.loop-place.frames.ok.0, filled_is _ _ c.is_empty.ensures c.if-not-is_empty.true)),
        subst (λ k. IsCutAt lanes flights b k fs) named (record { lane = lane; is_open = at; may = c.may_fly.ensures.yes c.if-may_fly.true; stopped = stopped }),
      );
    }

pub loop-place-preserved : goal.loop-place-preserved
loop-place-preserved g c =
    let lanes = c.args.streams.now in
    let flights = c.args.flights.now in
    let b = c.args.bounds in
    let turn = c.args.turn in
    let n = c.loop-place.place in
    let fs = c.loop-place.frames.items in
    let small = c.loop-place-test.true in
    let was = c.loop-place.invariant.0 in
    let left = c.loop-place.invariant.1 in
    let number = c.in_round-number.result in
    let own = c.in_round-number.ensures.within in
    let start : c.min-start.result ≡ start_of turn = omega (arith, c.min-start.ensures, c.saturating_add.ensures, c.ranges.turn.fits) in
    let named : number ≡ in_round (start_of turn) n = c.in_round-number.ensures.stream ∙ ap (λ i. in_round i n) start in
    let lt : number < length lanes = omega (arith, c.requires.streams, own) in
    elim c.match-streams-number.branch [
      | in-Some+in-Some-ready+in_ok-push w ↦
          (let lane = w.in-Some.stream in
          let o = w.in-Some-ready.row.offset in
          let count = w.in-Some-ready.row.count in
          let at : slot lanes number ≡ Some lane = found_at lanes number c.index-streams-number.result lt c.index-streams-number.is ∙ w.in-Some.is in
          let ready = subst (λ (d : Bounds). IsReady flights d number lane o count) left w.in-Some-ready.ensures.ready in
          let pushed = w.in_ok-push.ensures.items in
          rw (w.frames-is, w.left-is) (
            served_push lanes flights b turn n fs small was lane o count w.push.new.self.items (subst (λ k. slot lanes k ≡ Some lane) named at) (subst (λ k. k < 65) named own) (subst (λ k. IsReady flights (left_beside lanes flights b fs) k lane o count) named ready)
                (pushed ∙ ap (λ k. fs ++ held.Data k o count ∷ []) named),
            left_push lanes flights b c.loop-place.left w.beside-left.result number o count w.in-Some-ready.row.end lane fs w.push.new.self.items left at w.in-Some-ready.ensures.end w.beside-left.ensures pushed,
          ))
      | in-Some+in_default-ready+else-not-is_empty w ↦
          (let lane = w.in-Some.stream in
          let stopped : IsStopped flights b number lane = elim w.else-not-is_empty.branch [
            | else-not-is_empty-via-then-not-is_empty+else-may_fly v ↦ unable_stopped flights b number lane (v.may_fly.ensures.no v.if-may_fly.false)
            | else-not-is_empty-via-else-not-is_empty v ↦ (let empty = no_frames fs (omega (arith, c.loop-place.frames.ok.0, alone_is _ _ w.is_empty.ensures v.if-not-is_empty.false)) in
                subst (λ (d : Bounds). IsStopped flights d number lane) (left ∙ ap (left_beside lanes flights b) empty ∙ left_none lanes flights b) w.in_default-ready.ensures.ready)
          ] in
          rw (w.frames-is, w.left-is) (
            served_skip lanes flights b turn n fs small was
                (λ l e. let same = same_lane lanes number c.index-streams-number.result lane l lt c.index-streams-number.is w.in-Some.is (subst (λ k. slot lanes k ≡ Some l) (sym named) e) in
                subst (λ k. IsStopped flights b k l) named (subst (λ (x : SendStream). IsStopped flights b number x) same stopped)),
            left,
          ))
      | in_default w ↦
          rw (w.frames-is, w.left-is) (
            served_skip lanes flights b turn n fs small was (λ l e. absurd (no_lane lanes number c.index-streams-number.result l lt c.index-streams-number.is w.in_default.is (subst (λ k. slot lanes k ≡ Some l) (sym named) e))),
            left,
          )
    ]

pub returns-in_err-push : goal.returns-in_err-push
returns-in_err-push g c = IfOk-from_err c.from_residual.result _ c.from_residual.ensures.0

pub in_round-number-requires-clause-start : goal.in_round-number-requires-clause-start
in_round-number-requires-clause-start g c = at_most _ _ 65 c.min-start.ensures

pub in_round-number-requires-clause-place : goal.in_round-number-requires-clause-place
in_round-number-requires-clause-place g c = c.loop-place-test.true

pub overflow_cast-number : goal.overflow_cast-number
overflow_cast-number g c = fits_below _ c.in_round-number.ensures.within

pub offset_bounds-streams-number : goal.offset_bounds-streams-number
offset_bounds-streams-number g c = up_to 65 _ _ c.requires.streams c.in_round-number.ensures.within

pub bounds-streams-number : goal.bounds-streams-number
bounds-streams-number g c = within 65 _ _ c.requires.streams c.in_round-number.ensures.within

pub beside-left-requires : goal.beside-left-requires
beside-left-requires g c = c.in-Some-ready.ensures.ready.short

pub may_fly-requires : goal.may_fly-requires
may_fly-requires g c = c.requires.small

pub returns : goal.returns
returns g c = record { count = c.loop-place.place; within = c.loop-place.auto.place-end; are = c.loop-place.invariant.0; ends = inl (omega (arith, c.loop-place-test.false, c.loop-place.auto.place-end)) }
