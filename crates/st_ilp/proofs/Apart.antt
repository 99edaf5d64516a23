-- Texts of one kind are not packets of another.
use Rattle.std.proofs.Common.{◌≡◌, ℕ, Bool, true, false, List, length, nat_eq, Result, Ok, Err, refl}
use Rattle.std.specs.Prelude.{◌==◌, if◌then◌else◌}
use Rattle.st_oer.specs.declared.error.OerError.{OerError}
use Rattle.st_oer.specs.Spelling.{octets}
use Rattle.st_oer.specs.Reading.{octets_at}
use Rattle.st_ilp.specs.declared.error.IlpError.{IlpError}
use Rattle.st_ilp.specs.declared.error.IlpError.TheVariants.{Kind, Trailing}
use Rattle.st_ilp.specs.Packets.{PreparePacket, AnswerPacket, Fulfilled, Rejected}
use Rattle.st_ilp.specs.Spelling.{prepare_text, answer_text, answer_contents}
use Rattle.st_ilp.specs.Reading.{◌>>=◌, spelled, provided, packet_at, hash_at, code_at, sender_at, message_at, data_at, fulfill_within, reject_within, prepare_at, answer_at, fulfills, rejects, is_fulfill_text, is_reject_text}
use Rattle.st_ilp.specs.Laws.{KindsApart}

prepare_apart : (p : PreparePacket) → answer_at (prepare_text p) ≡ Err Kind
unfolding prepare_text answer_at packet_at
prepare_apart p = refl

answer_apart : (a : AnswerPacket) → prepare_at (answer_text a) ≡ Err Kind
unfolding answer_text prepare_at packet_at
answer_apart (Fulfilled fulfillment payload) = refl
answer_apart (Rejected code by message payload) = refl

-- a test that no refusal passes, and what is read next does not
record Fails (test : Result AnswerPacket IlpError → Bool) : Type 0 where
  refused : (e : IlpError) → test (Err e) ≡ false

fulfill_fails : Fails rejects
fulfill_fails = record { refused = λ e. refl }

reject_fails : Fails fulfills
reject_fails = record { refused = λ e. refl }

then_fails : {A : Type 0} (test : Result AnswerPacket IlpError → Bool) → Fails test → (r : Result A IlpError) (f : A → Result AnswerPacket IlpError) → ((x : A) → test (f x) ≡ false)
    → test (r >>= f) ≡ false
then_fails test h (Ok x) f next = next x
then_fails test h (Err e) f next = h.refused e

provided_fails : (test : Result AnswerPacket IlpError → Bool) → Fails test → (b : Bool) (e : IlpError) (a : AnswerPacket) → test (Ok a) ≡ false → test (provided b e a) ≡ false
provided_fails test h true e a is = is
provided_fails test h false e a is = h.refused e

no_reject : (contents : List ℕ) → rejects (fulfill_within contents) ≡ false
unfolding fulfill_within
no_reject contents =
    then_fails rejects fulfill_fails (hash_at contents) _ (λ fulfillment. then_fails rejects fulfill_fails (data_at fulfillment.1) _ (λ payload.
    provided_fails rejects fulfill_fails (nat_eq (length payload.1) 0) _ (Fulfilled fulfillment.0 payload.0) refl))

no_fulfill : (contents : List ℕ) → fulfills (reject_within contents) ≡ false
unfolding reject_within
no_fulfill contents =
    then_fails fulfills reject_fails (code_at contents) _ (λ code. then_fails fulfills reject_fails (sender_at code.1) _ (λ by.
    then_fails fulfills reject_fails (message_at by.1) _ (λ message. then_fails fulfills reject_fails (data_at message.1) _ (λ payload.
    provided_fails fulfills reject_fails (nat_eq (length payload.1) 0) _ (Rejected code.0 by.0 message.0 payload.0) refl))))

-- contents after their kind
abbrev as_kind : ℕ → List ℕ → ℕ × List ℕ
as_kind kind contents = (kind, contents)

abbrev by_kind : ℕ × List ℕ → Result AnswerPacket IlpError
by_kind packet = if packet.0 == 13 then fulfill_within packet.1 else reject_within packet.1

whole_fails : (test : Result AnswerPacket IlpError → Bool) → Fails test → (kind : ℕ) → ((contents : List ℕ) → test (by_kind (as_kind kind contents)) ≡ false)
    → (b : Bool) (contents : List ℕ) → test (provided b Trailing (as_kind kind contents) >>= by_kind) ≡ false
whole_fails test h kind is true contents = is contents
whole_fails test h kind is false contents = h.refused Trailing

octets_fail : (test : Result AnswerPacket IlpError → Bool) → Fails test → (kind : ℕ) → ((contents : List ℕ) → test (by_kind (as_kind kind contents)) ≡ false)
    → (r : Result (List ℕ × List ℕ) OerError) → test ((spelled r >>= λ contents. provided (length contents.1 == 0) Trailing (as_kind kind contents.0)) >>= by_kind) ≡ false
octets_fail test h kind is (Ok x) = whole_fails test h kind is (length x.1 == 0) x.0
octets_fail test h kind is (Err e) = h.refused _

fulfill_apart : (fulfillment payload : List ℕ) → is_reject_text (answer_text (Fulfilled fulfillment payload)) ≡ false
unfolding answer_text answer_at packet_at
fulfill_apart fulfillment payload = octets_fail rejects fulfill_fails 13 no_reject (octets_at (octets (answer_contents (Fulfilled fulfillment payload))))

reject_apart : (code by message payload : List ℕ) → is_fulfill_text (answer_text (Rejected code by message payload)) ≡ false
unfolding answer_text answer_at packet_at
reject_apart code by message payload = octets_fail fulfills reject_fails 14 no_fulfill (octets_at (octets (answer_contents (Rejected code by message payload))))

pub kinds_apart : KindsApart
kinds_apart = record { prepare = prepare_apart; answer = answer_apart; fulfill = fulfill_apart; reject = reject_apart }
