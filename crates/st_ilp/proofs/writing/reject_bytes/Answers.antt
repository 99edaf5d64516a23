use Rattle.std.proofs.Common.{◌≡◌, length, rules, arith}
use Rattle.std.specs.Prelude.{None}
use Rattle.st_ilp.specs.Packets.{Rejected}
use Rattle.st_ilp.specs.Writing.{answer_refusal}
use Rattle.st_ilp.proofs.Sizes.{reject_fits, reject_text-size}
use Rattle.st_ilp.proofs.writing.reject_bytes.Goals as goal

pub append_reject-requires-clause-room : goal.append_reject-requires-clause-room
append_reject-requires-clause-room g c =
    let none : answer_refusal (Rejected c.text-code.result c.args.by.now c.args.message.now c.args.payload.now) ≡ None = search rules in
    let long : length c.text-code.result ≡ 3 = search rules in
    let same = c.reject_size-size.ensures.exact (reject_fits c.text-code.result c.args.by.now c.args.message.now c.args.payload.now none) in
    let text = reject_text-size c.text-code.result c.args.by.now c.args.message.now c.args.payload.now long in
    omega (arith, same, text, c.in_ok-out.ensures.capacity, c.in_ok-out.ensures.len)
