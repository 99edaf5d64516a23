use Rattle.std.proofs.Common.{◌≡◌, ◌-◌, ℕ, List, length, take, drop, sym, ap, ◌∙◌, arith}
use Rattle.std.proofs.lemmas.List.{take_all, length-drop}
use Rattle.st_ilp.specs.Spelling.{reject_kind}
use Rattle.st_keys.specs.Sealed.{opened}
use Rattle.st_sender.specs.Sending.{Sending}
use Rattle.st_sender.specs.Answering.{after_failed}
use Rattle.st_end.specs.Answers.{answered_by, failure_of, raised}
use Rattle.st_end.proofs.answer.take_answer.Goals as goal

last_ones : (n : ℕ) (xs : List ℕ) → take (length xs - n) (drop n xs) ≡ drop n xs
last_ones n xs = take_all (length xs - n) (drop n xs) (let l = length-drop n xs in omega (arith, l))

pub returns-in-Reject-clause-left : goal.returns-in-Reject-clause-left
returns-in-Reject-clause-left g c = λ p at.
    let bytes = c.args.bytes.now in
    let start = c.in-Reject.start in
    c.raise_from-in-Reject.ensures
    ∙ ap (λ (xs : List ℕ). raised c.take_reject.new.outbox c.args.flight.sequence (opened c.args.keys.now reject_kind xs)) (last_ones start bytes)
    ∙ ap (λ (s : Sending). raised s c.args.flight.sequence (opened c.args.keys.now reject_kind (drop start bytes)))
    (c.take_reject.ensures p at ∙ ap (λ (xs : List ℕ). after_failed c.args.outbox.now p (failure_of c.in-Reject.code xs)) (last_ones start bytes))
    ∙ sym (ap (answered_by c.args.keys.now c.args.outbox.now c.args.flight p) c.in-Reject.ensures.2)
