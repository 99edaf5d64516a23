use Rattle.std.proofs.Common.{arith}
use Rattle.st_frames.specs.Kinds.{kind_number}
use Rattle.st_frames.specs.Written.{written}
use Rattle.st_frames.proofs.Puts.{sized_writable, sized_length, sized_short}
use Rattle.st_frames.proofs.writing.put_packet.Goals as goal

pub append_packet-requires : goal.append_packet-requires
unfolding written
append_packet-requires g c =
    let frames = c.args.frames.now in
    let kind = kind_number c.args.kind in
    let size = c.in_ok-packet_len.ensures kind in
    let same = sized_length frames kind c.args.sequence c.args.amount c.in_ok-packet_len.field-0 size in
    let short = sized_short frames kind c.args.sequence c.args.amount c.in_ok-packet_len.field-0 size in
    record {
      short = omega (arith, same, short);
      writable = sized_writable frames kind c.args.sequence c.args.amount c.in_ok-packet_len.field-0 size;
      room = omega (arith, same, c.in_ok-reserve.ensures.ok);
    }
