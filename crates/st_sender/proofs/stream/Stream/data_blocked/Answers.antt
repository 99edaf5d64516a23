use Rattle.std.proofs.Common.{◌≤◌, ◌-◌, ◌∙◌, ℕ, [], ◌∷◌, sym, ap, subst, arith}
use Rattle.std.specs.Prelude.{IsSome}
use Rattle.st_frames.specs.Frames.{BlockedFrame, StreamDataBlocked}
use Rattle.st_frames.specs.Written.{packet_length}
use Rattle.st_sender.specs.declared.notice.Notice.TheVariants as said
use Rattle.st_sender.specs.Due.{was_blocked}
use Rattle.st_sender.specs.Lanes.{SendStream, due_in}
use Rattle.st_sender.proofs.Said.{byte_beyond}
use Rattle.st_sender.proofs.stream.Stream.data_blocked.Goals as goal

pub returns : goal.returns
returns g c =
    let told = c.self.inside.told in
    let end = c.past_due.result in
    let seen = c.self.view_is in (
      told,
      ap (λ i. said.StreamDataBlocked i told) c.from.ensures,
      record {
        told = ap (λ (l : SendStream). l.out.told) seen;
        first = ap (λ (l : SendStream). was_blocked l.out.blocked told) (sym seen) ∙ sym c.was_blocked.ensures ∙ c.if-was_blocked.false;
        waits = byte_beyond c.args.self.now end told (λ h. subst (λ (l : SendStream). IsSome (due_in l (end - 1))) seen (c.past_due.ensures.last h)) (omega (arith, c.if-past_due-self.false));
        short = subst (λ (i : ℕ). packet_length c.args.bounds.sequence 0 ((BlockedFrame (StreamDataBlocked i told)) ∷ []) ≤ c.args.bounds.room) c.from.ensures (omega (arith, c.notice_size.ensures, c.if-notice_size-bounds.false));
      },
    )
