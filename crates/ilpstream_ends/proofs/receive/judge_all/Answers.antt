use Rattle.std.proofs.Common.{◌∙◌, Option, inl, inr, refl, subst, sym}
use Rattle.std.proofs.KnownBytes.{Keeps-refl}
use Rattle.std.specs.Prelude.{IsSome}
use Rattle.std.specs.declared.time.Duration.{Duration}
use Rattle.st_devices.specs.Tallies.{device_of}
use Rattle.ilpstream_ends.specs.Replies.{IsLater}
use Rattle.ilpstream_ends.proofs.Keeping.{kept_answered, kept_later, kept_so_far}
use Rattle.ilpstream_ends.proofs.receive.judge_all.Goals as goal

-- no thread reads requests
pub returns-then-not-have_readers-clause-told : goal.returns-then-not-have_readers-clause-told
returns-then-not-have_readers-clause-told g c = (0, inl (refl, refl, Keeps-refl (g.W.Write.contents (device_of c.args.writer.now))))

pub requests-init : goal.requests-init
requests-init g c = record {
  kept = inl (refl, refl, Keeps-refl (g.W.Write.contents (device_of c.args.writer.now)));
  faults = refl;
  patient = c.new-patience.ensures.some;
}

pub returns-in-Err-Silent-clause-told : goal.returns-in-Err-Silent-clause-told
returns-in-Err-Silent-clause-told g c = (c.requests.written, c.requests.invariant.kept)

pub returns-in-Err-Turns-clause-told : goal.returns-in-Err-Turns-clause-told
returns-in-Err-Turns-clause-told g c = (c.requests.written, c.requests.invariant.kept)

pub returns-in-Err-Accept-clause-told : goal.returns-in-Err-Accept-clause-told
returns-in-Err-Accept-clause-told g c = (c.requests.written, c.requests.invariant.kept)

-- the end that judges is a later one of the end that began
pub answer-requires : goal.answer-requires
answer-requires g c =
    let before = g.W.Write.contents (device_of c.args.writer.now) in
    let after = g.W.Write.contents (device_of c.requests.writer) in
    subst (λ start. IsLater start c.requests.receiver.end) (sym c.requires)
    (kept_later c.args.receiver.now.end c.requests.receiver.end before after c.requests.written
    (kept_so_far c.args.receiver.now.end c.requests.receiver.end before after c.requests.written c.requests.invariant.kept))

pub returns-in-Ok-Whole-clause-told : goal.returns-in-Ok-Whole-clause-told
returns-in-Ok-Whole-clause-told g c =
    let before = g.W.Write.contents (device_of c.args.writer.now) in
    let after = g.W.Write.contents (device_of c.requests.writer) in
    let asked = kept_answered c.args.receiver.now.end c.requests.receiver.end c.answer.new.receiver.end before after c.requests.written c.answer.ensures.1.0 c.answer.ensures.0
    (kept_so_far c.args.receiver.now.end c.requests.receiver.end before after c.requests.written c.requests.invariant.kept) c.answer.ensures.1.2 in
    rw c.in-Ok-Whole.field-0-is at (c.in-Ok-Whole.ensures.kept c.args.receiver.now.end before asked)

pub returns-in-Err-deliver-clause-told : goal.returns-in-Err-deliver-clause-told
returns-in-Err-deliver-clause-told g c =
    let before = g.W.Write.contents (device_of c.args.writer.now) in
    let after = g.W.Write.contents (device_of c.requests.writer) in
    let asked = kept_answered c.args.receiver.now.end c.requests.receiver.end c.answer.new.receiver.end before after c.requests.written c.answer.ensures.1.0 c.answer.ensures.0
    (kept_so_far c.args.receiver.now.end c.requests.receiver.end before after c.requests.written c.requests.invariant.kept) c.answer.ensures.1.2 in
    c.in-Err-deliver.ensures.kept c.args.receiver.now.end before asked

pub requests-preserved : goal.requests-preserved
requests-preserved g c =
    let before = g.W.Write.contents (device_of c.args.writer.now) in
    let after = g.W.Write.contents (device_of c.requests.writer) in
    let asked = kept_answered c.args.receiver.now.end c.requests.receiver.end c.answer.new.receiver.end before after c.requests.written c.answer.ensures.1.0 c.answer.ensures.0
    (kept_so_far c.args.receiver.now.end c.requests.receiver.end before after c.requests.written c.requests.invariant.kept) c.answer.ensures.1.2 in
    record {
      kept = inr (rw c.in-Ok-More.field-0-is at (c.in-Ok-More.ensures.kept c.args.receiver.now.end before asked));
      faults = c.in-Ok-More.ensures.faults ∙ c.requests.invariant.faults;
      patient = λ some. c.requests.invariant.patient (subst (λ (o : Option Duration). IsSome o) c.renew.ensures some);
    }
