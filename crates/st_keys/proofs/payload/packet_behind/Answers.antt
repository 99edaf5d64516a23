use Rattle.std.proofs.Common.{◌≡◌, ◌-◌, length, take, drop, sym, ap, ◌∙◌}
use Rattle.std.proofs.lemmas.List.{take_rest}
use Rattle.st_frames.specs.Kinds.{kind_number}
use Rattle.st_frames.specs.Reading.{packet_at}
use Rattle.st_keys.specs.Sealed.{packet_or_fault}
use Rattle.st_keys.proofs.payload.packet_behind.Goals as goal

pub returns-in-Ok : goal.returns-in-Ok
returns-in-Ok c =
    let p = c.args.payload.now in
    let text : take (length p - 28) (drop 28 p) ≡ drop 28 p = take_rest p 28 in
    ap packet_or_fault (ap (packet_at (kind_number c.args.kind)) (sym text) ∙ c.in-Ok.ensures.exact)

pub returns-in-Err : goal.returns-in-Err
returns-in-Err c =
    let p = c.args.payload.now in
    let text : take (length p - 28) (drop 28 p) ≡ drop 28 p = take_rest p 28 in
    ap packet_or_fault (ap (packet_at (kind_number c.args.kind)) (sym text) ∙ c.in-Err.ensures.exact)
