use Rattle.std.proofs.Common.{◌≡◌, true, false, ap, sym, subst, refl, inl}
use Rattle.std.specs.Prelude.{Ok}
use Rattle.hex.specs.Hex.{decode_of}
use Rattle.ilpstream_frames.specs.LineSoFar.{LineState, StandsFor, text_of_line}
use Rattle.ilpstream_frames.specs.Progress.{State}
use Rattle.ilpstream_frames.proofs.Progressing.{effect_of_packet, effect_of_no_packet, some_text}
use Rattle.ilpstream_frames.proofs.frames.Reader.answer.Goals as goal

pub returns-then-is_empty-clause-effect : goal.returns-then-is_empty-clause-effect
returns-then-is_empty-clause-effect g c = λ line stands.
    let here = subst (λ (x : LineState). StandsFor x line) (sym (ap (λ (s : State). s.line) c.self.view_is)) stands in
    inl ((c.if-is_empty.ensures line here).0 refl, refl)

pub returns-in-Ok-clause-effect : goal.returns-in-Ok-clause-effect
returns-in-Ok-clause-effect g c = λ line stands.
    let here = subst (λ (x : LineState). StandsFor x line) (sym (ap (λ (s : State). s.line) c.self.view_is)) stands in
    let some = some_text (text_of_line c.args.end line) (λ e. let wrong : false ≡ true = (c.if-is_empty.ensures line here).1 e in absurd (cc)) in
    let spelled : decode_of (text_of_line c.args.end line) ≡ Ok c.in-Ok.bytes.items = rw c.in-Ok.is at (c.in_ok-bytes.ensures line here) in
    effect_of_packet c.args.self.now.inboxes c.take_packet.new.self.inboxes (text_of_line c.args.end line) c.in-Ok.bytes.items c.take_packet.result some spelled (rw c.deref.ensures.value at c.take_packet.ensures.effect)

pub returns-in-Err-clause-effect : goal.returns-in-Err-clause-effect
returns-in-Err-clause-effect g c = λ line stands.
    let here = subst (λ (x : LineState). StandsFor x line) (sym (ap (λ (s : State). s.line) c.self.view_is)) stands in
    let some = some_text (text_of_line c.args.end line) (λ e. let wrong : false ≡ true = (c.if-is_empty.ensures line here).1 e in absurd (cc)) in
    effect_of_no_packet c.args.self.now.inboxes _ (text_of_line c.args.end line) c.in-Err.error some (rw c.in-Err.is at (c.in_ok-bytes.ensures line here)) refl
