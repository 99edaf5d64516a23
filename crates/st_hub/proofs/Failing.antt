-- What is reported when a `Turn` ends.
use Rattle.std.proofs.Common.{◌≡◌, ℕ, true, false, cond, List, Option, Some, None, Result, Ok, Err, refl, sym, ap, ◌∙◌}
use Rattle.std.specs.Option.{option_or}
use Rattle.std.proofs.lemmas.Bool.{false≢true}
use Rattle.st_ilp.specs.Packets.{AnswerPacket, Fulfilled, Rejected}
use Rattle.st_ilp.specs.Reading.{answer_at}
use Rattle.st_ilp.specs.declared.error.IlpError.{IlpError}
use Rattle.st_end.specs.Failed.{Failed, Unfit}
use Rattle.st_end.specs.State.{EndState}
use Rattle.st_end.specs.Sending.{is_open}
use Rattle.st_end.specs.Answers.{failed_by, failure, ended, pays, pays_by}
use Rattle.st_end.specs.declared.flight.Open.{Open}
use Rattle.st_end.proofs.Lawfulness.{open_found, ended_is}
use Rattle.st_hub.specs.Causes.{Cause, cause_if, cause_of, cause_with}

-- a Fulfill that fits is not reported as a failure
paid_by : (f : Open) (a : Result AnswerPacket IlpError) → pays_by f a ≡ true → failed_by f a ≡ None
paid_by f (Ok (Fulfilled fulfillment payload)) h = ap (λ b. cond {A = Option Failed} b None (Some Unfit)) h
paid_by f (Ok (Rejected code by message payload)) h = absurd (false≢true h)
paid_by f (Err fault) h = absurd (false≢true h)

paid : (f : Open) (o : Option (List ℕ)) → pays f o ≡ true → failure f o ≡ None
paid f (Some bytes) h = paid_by f (answer_at bytes) h
paid f None h = absurd (false≢true h)

-- anything else takes the place of the cause before
unpaid_by : (f : Open) (a : Result AnswerPacket IlpError) (before : Option Failed) → pays_by f a ≡ false → option_or (failed_by f a) before ≡ failed_by f a
unpaid_by f (Ok (Fulfilled fulfillment payload)) before h =
    ap (λ b. option_or (cond {A = Option Failed} b None (Some Unfit)) before) h ∙ sym (ap (λ b. cond {A = Option Failed} b None (Some Unfit)) h)
unpaid_by f (Ok (Rejected code by message payload)) before h = refl
unpaid_by f (Err fault) before h = refl

unpaid : (f : Open) (o : Option (List ℕ)) (before : Option Failed) → pays f o ≡ false → option_or (failure f o) before ≡ failure f o
unpaid f (Some bytes) before h = unpaid_by f (answer_at bytes) before h
unpaid f None before h = refl

last_of_ended : (e : EndState) (f : Open) (o : Option (List ℕ)) → is_open e f ≡ true → (ended e f o).last ≡ option_or (failure f o) e.last
last_of_ended e f o h = let found = open_found e f h in ap (λ (x : EndState). x.last) (ended_is e f o found.carried found.is)

pub strange_tells_none : (e : EndState) (f : Open) (o : Option (List ℕ)) → is_open e f ≡ false → ◌≡◌ {A = Option Cause} None (cause_of e f o)
strange_tells_none e f o h = sym (ap (λ b. cause_if b e f o) h)

pub paid_tells_none : (e : EndState) (f : Open) (o : Option (List ℕ)) → is_open e f ≡ true → pays f o ≡ true → ◌≡◌ {A = Option Cause} None (cause_of e f o)
paid_tells_none e f o h p = sym (ap (λ b. cause_if b e f o) h ∙ ap (cause_with (ended e f o).sending.packet_limit) (paid f o p))

-- what fails leaves its own cause as the end's last
pub unpaid_tells : (e now : EndState) (f : Open) (o : Option (List ℕ)) → is_open e f ≡ true → pays f o ≡ false → now ≡ ended e f o → cause_of e f o ≡ cause_with now.sending.packet_limit now.last
unpaid_tells e now f o h p is =
    ap (λ b. cause_if b e f o) h
    ∙ ap (cause_with (ended e f o).sending.packet_limit) (sym (last_of_ended e f o h ∙ unpaid f o e.last p))
    ∙ ap (λ (x : EndState). cause_with x.sending.packet_limit x.last) (sym is)
