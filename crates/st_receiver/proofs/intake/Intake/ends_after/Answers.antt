use Rattle.std.proofs.Common.{◌≡◌, ◌∙◌, map, length, Some, None, refl, sym, ap, subst}
use Rattle.st_frames.specs.Frames.{frame_of}
use Rattle.st_frames.specs.Seen.{seen, seen_at}
use Rattle.st_receiver.specs.Data.{frame_fault, after_frame, frames_fault, after_frames}
use Rattle.st_receiver.specs.Streams.{Receiving, received_of}
use Rattle.st_receiver.specs.Standing.{Standing}
use Rattle.st_receiver.specs.Inside.{Tracks, told_fault}
use Rattle.st_receiver.proofs.Tracking.{tracks-fault, tracks-next, tracks-itself, fault-nil, first_some, first_none}
use Rattle.st_receiver.proofs.Applying.{rest_after, none_after}
use Rattle.st_receiver.proofs.intake.Intake.ends_after.Goals as goal

pub loop-frame-init : goal.loop-frame-init
loop-frame-init g c =
    let r = c.args.self.now.state in
    let ends = c.all_received-ends.ensures ∙ ap (λ (t : Standing). map received_of t.state.streams) c.self.view_is in
    let len = ap (λ (t : Standing). length t.state.streams) (sym c.self.view_is) ∙ c.self.invariant.0 in
    (r, subst (Tracks r r) (sym ends) (tracks-itself r len), refl, refl)

pub returns-in-Some-frame_fault : goal.returns-in-Some-frame_fault
returns-in-Some-frame_fault g c =
    let i = c.loop-frame.invariant in
    let r = c.args.self.now.state in
    let f = seen c.in-Some.frame in
    let fault : Some c.in-Some-frame_fault.fault ≡ frame_fault i.0 f = sym c.in-Some-frame_fault.is ∙ c.frame_fault.ensures.fault ∙ tracks-fault r i.0 c.loop-frame.ends c.connection_limit-limit.result f c.connection_limit-limit.ensures i.1 in
    sym (first_some i.0 f (map frame_of c.next.new.self) (Some c.in-Some-frame_fault.fault) fault refl
    ∙ ap (λ fs. frames_fault i.0 (map frame_of fs)) (sym c.in-Some.ensures.steps) ∙ i.2)

pub loop-frame-preserved : goal.loop-frame-preserved
loop-frame-preserved g c =
    let i = c.loop-frame.invariant in
    let r = c.args.self.now.state in
    let x = seen_at (c.in-Some.field-0-0, c.in-Some.frame) in
    let f = seen c.in-Some.frame in
    let none : c.frame_fault.result ≡ None = c.in_default-frame_fault.is in
    let told : told_fault r c.loop-frame.ends c.connection_limit-limit.result f ≡ None = sym c.frame_fault.ensures.fault ∙ none in (
      after_frame i.0 f,
      subst (Tracks r (after_frame i.0 f)) (sym (c.frame_fault.ensures.next none)) (tracks-next r i.0 c.loop-frame.ends c.connection_limit-limit.result f told i.1),
      first_none i.0 f (map frame_of c.next.new.self) (sym (tracks-fault r i.0 c.loop-frame.ends c.connection_limit-limit.result f c.connection_limit-limit.ensures i.1) ∙ told) ∙ ap (λ fs. frames_fault i.0 (map frame_of fs)) (sym c.in-Some.ensures.steps) ∙ i.2,
      rest_after i.0 (after_frame i.0 f) c.loop-frame.frames c.next.new.self x c.in-Some.ensures.steps refl ∙ i.3,
    )

pub returns : goal.returns
returns g c =
    let i = c.loop-frame.invariant in
    let end = c.in_default.ensures.steps.0 in
    let same : i.0 ≡ after_frames c.args.self.now.state (map frame_of c.args.frames) = sym (none_after i.0 c.loop-frame.frames end) ∙ i.3 in
    (sym i.2 ∙ ap (λ fs. frames_fault i.0 (map frame_of fs)) end ∙ fault-nil i.0, i.1.highest ∙ ap (λ (t : Receiving). map received_of t.streams) same)
