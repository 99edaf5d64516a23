use Rattle.std.proofs.Common.{map, arith}
use Rattle.std.proofs.lemmas.Result.{err_from_is_err_and}
use Rattle.st_frames.specs.Kinds.{kind_number}
use Rattle.st_frames.specs.Seen.{seen}
use Rattle.st_frames.specs.Written.{written}
use Rattle.st_keys.proofs.Written.{writable, size_below, size_refused}
use Rattle.st_keys.proofs.payload.plain_payload.Goals as goal

pub returns-in_err-length-clause-written : goal.returns-in_err-length-clause-written
returns-in_err-length-clause-written g c =
    let a = c.args in
    let kind = kind_number a.kind in
    let ks = map seen a.frames.now in
    let refused = size_refused (written kind a.sequence a.amount ks) _ (writable kind a.sequence a.amount ks) (c.in_err-length.ensures kind) in
    let same = err_from_is_err_and c.from_residual.result c.from_residual.ensures.1 in
    rw (same.1, same.2) refused

pub overflow_add-length : goal.overflow_add-length
overflow_add-length g c =
    let a = c.args in
    let kind = kind_number a.kind in
    let ks = map seen a.frames.now in
    let short = size_below (written kind a.sequence a.amount ks) c.in_ok-length.length (writable kind a.sequence a.amount ks) (c.in_ok-length.ensures kind) in
    omega (arith, short)
