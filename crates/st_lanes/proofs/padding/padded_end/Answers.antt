use Rattle.std.proofs.Common.{◌≡◌, ◌+◌, ◌-◌, ◌*◌, ◌/◌, ◌%◌, length, arith}
use Rattle.std.proofs.lemmas.List.{take_rest}
use Rattle.st_lanes.proofs.Ends.{end_filled}
use Rattle.st_lanes.proofs.padding.padded_end.Goals as goal
use Rattle.st_lanes.proofs.padding.padded_end.Goals.{then-rest-lt56, else-rest-lt56}

pub returns : goal.returns
returns c =
    let text = c.args.text.now in
    let end : c.if-rest-lt56.end ≡ length text % 64 + 9 + (119 - length text % 64) % 64 = elim c.if-rest-lt56.branch [
      | then-rest-lt56 w ↦ omega arith
      | else-rest-lt56 w ↦ omega arith
    ] in
    end_filled c.args.before _ _ _ c.if-rest-lt56.end text _ _ _ _ _ c.requires (take_rest text (length text / 64 * 64)) c.to_be_bytes.ensures (omega arith)
    (omega arith) end (omega arith) c.put_at.ensures c.put_at-2.ensures c.put_at-3.ensures
