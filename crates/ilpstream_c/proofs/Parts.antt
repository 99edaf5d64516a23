-- The places of the texts of an ILP packet in its bytes.
use Rattle.std.proofs.Common.{◌≡◌, ℕ, ◌+◌, ◌-◌, ◌≤◌, List, [], ◌∷◌, ◌++◌, length, take, drop, Ok, refl, sym, ap, ◌∙◌, subst, arith, append_assoc, append-nil, length-append}
use Rattle.std.proofs.lemmas.List.{take_at, drop_at}
use Rattle.std.specs.Int.{w64, to_be_bytes}
use Rattle.st_oer.specs.Laws.{IsBytes}
use Rattle.st_oer.specs.Spelling.{length_bytes, octets}
use Rattle.st_ilp.specs.Packets.{PreparePacket, AnswerPacket, Fulfilled, Rejected}
use Rattle.st_ilp.specs.Expiry.{expiry_text}
use Rattle.st_ilp.specs.Reading.{prepare_at}
use Rattle.st_ilp.specs.Spelling.{prepare_kind, prepare_contents, prepare_text, answer_kind, answer_contents, answer_text}
use Rattle.st_ilp.specs.Laws.{PrepareReads}
use Rattle.ilpstream_c.specs.Ilp.{IsPart}

-- a part between a front and a rest, given its end
between : (bytes front part rest : List ℕ) (start : ℕ) → bytes ≡ front ++ (part ++ rest) → start ≡ length bytes - length rest - length part → IsPart bytes start (length part) part
between bytes front part rest start is begins =
    let l : length bytes ≡ length front + (length part + length rest) = ap length is ∙ length-append front (part ++ rest) ∙ ap (λ n. length front + n) (length-append part rest) in
    let here : length front ≡ start = omega arith in
    record {
      within = omega arith;
      same = ap (λ xs. take (length part) (drop start xs)) is ∙ ap (take (length part)) (drop_at front (part ++ rest) start here) ∙ take_at part rest (length part) refl;
    }

-- the last octets of a text, and those before them
pub last_part : (bytes front part : List ℕ) → bytes ≡ front ++ octets part → IsPart bytes (length bytes - length part) (length part) part
last_part bytes front part is =
    between bytes (front ++ length_bytes (length part)) part [] (length bytes - length part)
    (is ∙ sym (append_assoc front (length_bytes (length part)) part) ∙ ap (λ xs. (front ++ length_bytes (length part)) ++ xs) (sym (append-nil part))) (omega arith)

pub part_before : (bytes front part rest : List ℕ) (start : ℕ) → bytes ≡ front ++ (octets part ++ rest) → start ≡ length bytes - length rest - length part → IsPart bytes start (length part) part
part_before bytes front part rest start is begins =
    between bytes (front ++ length_bytes (length part)) part rest start
    (is ∙ ap (λ xs. front ++ xs) (append_assoc (length_bytes (length part)) part rest) ∙ sym (append_assoc front (length_bytes (length part)) (part ++ rest))) begins

-- ---- Prepare

pub record PrepareParts (bytes : List ℕ) (p : PreparePacket) : Type 0 where
  pub destination : IsPart bytes (length bytes - length p.payload - length (length_bytes (length p.payload)) - length p.destination) (length p.destination) p.destination
  pub payload : IsPart bytes (length bytes - length p.payload) (length p.payload) p.payload

prepare_front : PreparePacket → List ℕ
prepare_front p = prepare_kind ∷ (length_bytes (length (prepare_contents p)) ++ (to_be_bytes w64 p.amount ++ (expiry_text p.expiry ++ p.condition)))

prepare_split : (p : PreparePacket) → prepare_text p ≡ prepare_front p ++ (octets p.destination ++ octets p.payload)
unfolding prepare_text prepare_contents prepare_front
prepare_split p = ap (λ xs. prepare_kind ∷ xs) (simp append_assoc)

pub prepare_parts : (bytes : List ℕ) (p : PreparePacket) → PrepareReads → IsBytes bytes → prepare_at bytes ≡ Ok p → PrepareParts bytes p
prepare_parts bytes p reads fits e =
    let is : bytes ≡ prepare_front p ++ (octets p.destination ++ octets p.payload) = (reads.found bytes p fits e).0 ∙ prepare_split p in
    let l = length-append (length_bytes (length p.payload)) p.payload in record {
      destination = part_before bytes (prepare_front p) p.destination (octets p.payload) _ is (omega arith);
      payload = last_part bytes (prepare_front p ++ octets p.destination) p.payload (is ∙ sym (append_assoc (prepare_front p) (octets p.destination) (octets p.payload)));
    }

-- ---- Fulfill and Reject

pub fulfill_part : (bytes fulfillment payload : List ℕ) → bytes ≡ answer_text (Fulfilled fulfillment payload) → IsPart bytes (length bytes - length payload) (length payload) payload
unfolding answer_text answer_contents
fulfill_part bytes fulfillment payload is =
    let head : List ℕ = answer_kind (Fulfilled fulfillment payload) ∷ length_bytes (length (fulfillment ++ octets payload)) in
    last_part bytes (head ++ fulfillment) payload (is ∙ sym (append_assoc head fulfillment (octets payload)))

pub record RejectParts (bytes by message payload : List ℕ) : Type 0 where
  pub by_part : (start : ℕ) → start ≡ length bytes - length payload - length (length_bytes (length payload)) - length message - length (length_bytes (length message)) - length by → IsPart bytes start (length by) by
  pub message_part : (start : ℕ) → start ≡ length bytes - length payload - length (length_bytes (length payload)) - length message → IsPart bytes start (length message) message
  pub payload_part : IsPart bytes (length bytes - length payload) (length payload) payload

reject_front : (code by message payload : List ℕ) → List ℕ
reject_front code by message payload = answer_kind (Rejected code by message payload) ∷ (length_bytes (length (answer_contents (Rejected code by message payload))) ++ code)

reject_split : (code by message payload : List ℕ) → answer_text (Rejected code by message payload) ≡ reject_front code by message payload ++ (octets by ++ (octets message ++ octets payload))
unfolding answer_text answer_contents reject_front
reject_split code by message payload = ap (λ xs. answer_kind (Rejected code by message payload) ∷ xs) (sym (append_assoc (length_bytes (length (code ++ (octets by ++ (octets message ++ octets payload))))) code (octets by ++ (octets message ++ octets payload))))

pub reject_parts : (bytes code by message payload : List ℕ) → bytes ≡ answer_text (Rejected code by message payload) → RejectParts bytes by message payload
reject_parts bytes code by message payload told =
    let f : List ℕ = reject_front code by message payload in
    let is : bytes ≡ f ++ (octets by ++ (octets message ++ octets payload)) = told ∙ reject_split code by message payload in
    let lp = length-append (length_bytes (length payload)) payload in
    let lm = length-append (length_bytes (length message)) message in
    let both = length-append (octets message) (octets payload) in record {
      by_part = λ start e. part_before bytes f by (octets message ++ octets payload) start is (omega arith);
      message_part = λ start e. part_before bytes (f ++ octets by) message (octets payload) start (is ∙ sym (append_assoc f (octets by) (octets message ++ octets payload))) (omega arith);
      payload_part = last_part bytes ((f ++ octets by) ++ octets message) payload (is ∙ sym (append_assoc f (octets by) (octets message ++ octets payload)) ∙ sym (append_assoc (f ++ octets by) (octets message) (octets payload)));
    }
