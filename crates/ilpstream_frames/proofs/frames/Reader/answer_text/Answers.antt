use Rattle.std.proofs.Common.{◌≡◌, ◌<◌, length, refl, arith}
use Rattle.std.specs.Prelude.{Ok}
use Rattle.std.proofs.lemmas.Bool.Decides.{nat_tests}
use Rattle.hex.specs.Hex.{decode_of}
use Rattle.ilpstream_frames.specs.declared.error.LineError.TheVariants.{NotHex}
use Rattle.ilpstream_frames.specs.Digits.{DoesNotDecode}
use Rattle.ilpstream_frames.proofs.LinesSoFar.{undecoded_is_no_packet}
use Rattle.ilpstream_frames.proofs.Progressing.{effect_of_packet, effect_of_no_packet}
use Rattle.ilpstream_frames.proofs.frames.Reader.answer_text.Goals as goal

pub returns-in-Some-clause-effect : goal.returns-in-Some-clause-effect
returns-in-Some-clause-effect g c =
    let some : 0 < length c.args.text.now = grind (arith, nat_tests, c.if-is_empty.ensures) in
    let spelled : decode_of c.args.text.now ≡ Ok c.in-Some.bytes.items = rw c.in-Some.is at c.in_ok-bytes.ensures in
    effect_of_packet c.args.self.now.inboxes c.take_packet.new.self.inboxes c.args.text.now c.in-Some.bytes.items c.take_packet.result some spelled (rw c.deref.ensures.value at c.take_packet.ensures.effect)

pub returns-in-None-clause-effect : goal.returns-in-None-clause-effect
returns-in-None-clause-effect g c =
    let some : 0 < length c.args.text.now = grind (arith, nat_tests, c.if-is_empty.ensures) in
    let none : DoesNotDecode (decode_of c.args.text.now) = rw c.in-None.is at c.in_ok-bytes.ensures in
    effect_of_no_packet c.args.self.now.inboxes c.args.self.now.inboxes c.args.text.now NotHex some (undecoded_is_no_packet c.args.text.now none) refl
