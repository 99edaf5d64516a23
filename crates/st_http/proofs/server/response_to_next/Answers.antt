use Rattle.std.proofs.Common.{◌∙◌, ap, sym, inr, refl, map, subst, ℕ, List}
use Rattle.st_devices.specs.Tallies.{device_of}
use Rattle.st_http.specs.Progress.{Progress}
use Rattle.st_http.specs.Reads.{Reads, ReadsRefusal}
use Rattle.st_http.specs.Serves.{IsDue}
use Rattle.st_http.specs.declared.error.HttpError.TheVariants.{Status}
use Rattle.st_http.proofs.Wholes.{called_is_due}
use Rattle.st_http.proofs.server.response_to_next.Goals as goal

pub returns-in-Ok-answered-clause-due : goal.returns-in-Ok-answered-clause-due
returns-in-Ok-answered-clause-due g c =
    let r : Reads = record { before = g.S.Read.remaining (device_of c.args.stream.now); after = g.S.Read.remaining (device_of c.read_message.new.stream) } in
    let tokens : List (List ℕ) = map (λ t. t.now) c.args.tokens.now in
    let called = c.in-Ok-answered.ensures.called in
    subst (λ t. IsDue g.T.Answerer.gives tokens r c.args.answerer.now c.answered.new.answerer t) (sym called.2)
    (called_is_due g.T.Answerer.gives tokens r c.read_message.new.reading c.args.answerer.now c.answered.new.answerer called.0
    (c.in-Ok.ensures.expected ∙ ap (λ (p : Progress). p.expected) c.request-reading.ensures) c.in-Ok.ensures.read c.in-Ok.ensures.says called.1)

pub returns-in-Ok-clause-why : goal.returns-in-Ok-clause-why
returns-in-Ok-clause-why g c =
    let r : Reads = record { before = g.S.Read.remaining (device_of c.args.stream.now); after = g.S.Read.remaining (device_of c.read_message.new.stream) } in
    let tokens : List (List ℕ) = map (λ t. t.now) c.args.tokens.now in
    let called = c.in-Err-answered.ensures.called in
    inr (
      called.0,
      called_is_due g.T.Answerer.gives tokens r c.read_message.new.reading c.args.answerer.now c.answered.new.answerer called.0
          (c.in-Ok.ensures.expected ∙ ap (λ (p : Progress). p.expected) c.request-reading.ensures) c.in-Ok.ensures.read c.in-Ok.ensures.says called.1,
      refl,
    )

pub returns-in-Ok-refusal_text-clause-due : goal.returns-in-Ok-refusal_text-clause-due
returns-in-Ok-refusal_text-clause-due g c =
    let r : Reads = record { before = g.S.Read.remaining (device_of c.args.stream.now); after = g.S.Read.remaining (device_of c.read_message.new.stream) } in
    inr (c.in-Err-Status.code, subst (λ x. ReadsRefusal x r (Status c.in-Err-Status.code)) (ap (λ (p : Progress). p.expected) c.request-reading.ensures) (rw c.in-Err-Status.field-0-is at c.in-Err-Status.ensures.why), refl, c.in-Ok-refusal_text.ensures)
