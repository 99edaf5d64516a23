use Rattle.std.proofs.lemmas.Grind.{common_steps}
use Rattle.std.proofs.Common.{[], length, sym, append-nil, arith}
use Rattle.std.proofs.lemmas.List.{take_all}
use Rattle.ilpstream_frames.proofs.Newlines.{with_newline}
use Rattle.ilpstream_frames.proofs.frames.Reader.take_part.Goals as goal

pub returns-in_ok-end_with-in-Some-clause-answered : goal.returns-in_ok-end_with-in-Some-clause-answered
returns-in_ok-end_with-in-Some-clause-answered g c =
    let a = c.in_ok-end_with-in-Some.ensures.answered in
    (a.0, a.1, rw (with_newline c.args.bytes.now c.in-Some.place c.in-Some.ensures.0.high c.in-Some.ensures.1) a.2)

pub returns-in_ok-extend-in-None-clause-answered : goal.returns-in_ok-extend-in-None-clause-answered
returns-in_ok-extend-in-None-clause-answered g c =
    ([], sym (append-nil c.args.out.now.items), rw (take_all (length c.args.bytes.now) c.args.bytes.now (omega arith)) c.in_ok-extend-in-None.ensures.answered)

pub slice_bounds-end_with-end : goal.slice_bounds-end_with-end
slice_bounds-end_with-end g c = grind (arith, common_steps)

pub end_with-requires-clause-budget : goal.end_with-requires-clause-budget
end_with-requires-clause-budget g c = grind (arith, common_steps)

pub overflow_add-result : goal.overflow_add-result
overflow_add-result g c = grind (arith, common_steps)

pub extend-requires-clause-count : goal.extend-requires-clause-count
extend-requires-clause-count g c = grind (arith, common_steps)

pub returns-in_err-extend-in-None-clause-taken : goal.returns-in_err-extend-in-None-clause-taken
returns-in_err-extend-in-None-clause-taken g c = grind (arith, common_steps)

pub returns-in_ok-end_with-in-Some-clause-taken : goal.returns-in_ok-end_with-in-Some-clause-taken
returns-in_ok-end_with-in-Some-clause-taken g c = grind (arith, common_steps)

pub returns-in_ok-extend-in-None-clause-taken : goal.returns-in_ok-extend-in-None-clause-taken
returns-in_ok-extend-in-None-clause-taken g c = grind (arith, common_steps)

pub returns-in_ok-extend-in-None-clause-bounded : goal.returns-in_ok-extend-in-None-clause-bounded
returns-in_ok-extend-in-None-clause-bounded g c = grind (arith, common_steps)
