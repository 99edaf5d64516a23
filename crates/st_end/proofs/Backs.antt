-- The data of an answer are the last of its bytes, and its sender is short.
use Rattle.std.proofs.Common.{◌≡◌, ℕ, ◌-◌, ◌≤◌, List, [], ◌∷◌, ◌++◌, length, drop, refl, sym, ap, subst, ◌∙◌, arith, append_assoc, length-append, Ok}
use Rattle.st_oer.specs.Laws.{IsBytes}
use Rattle.st_oer.specs.Spelling.{length_bytes, octets}
use Rattle.st_ilp.specs.Packets.{Fulfilled, Rejected}
use Rattle.st_ilp.specs.Reading.{answer_at}
use Rattle.st_ilp.specs.Spelling.{answer_kind, answer_contents, answer_text}
use Rattle.st_ilp.specs.Laws.{AnswerReads, IsAnswer, is_reject}
use Rattle.st_ilp.proofs.AddressTexts.{sender_is_short}

past_front : (front payload : List ℕ) → drop (length front) (front ++ payload) ≡ payload
past_front [] payload = refl
past_front (b ∷ front) payload = past_front front payload

-- bytes end with these
pub record EndsWith (bytes payload : List ℕ) : Type 0 where
  pub front : List ℕ
  pub is : bytes ≡ front ++ payload

last_bytes : (bytes payload : List ℕ) → EndsWith bytes payload → payload ≡ drop (length bytes - length payload) bytes
last_bytes bytes payload w =
    let count : length bytes - length payload ≡ length w.front = (let l = ap length w.is ∙ length-append w.front payload in omega (arith, l)) in
    sym (ap (λ n. drop n bytes) count ∙ ap (drop (length w.front)) w.is ∙ past_front w.front payload)

octets_end : (payload : List ℕ) → EndsWith (octets payload) payload
octets_end payload = record { front = length_bytes (length payload); is = refl }

behind : (front bytes payload : List ℕ) → EndsWith bytes payload → EndsWith (front ++ bytes) payload
behind front bytes payload w = record { front = front ++ w.front; is = ap (λ x. front ++ x) w.is ∙ sym (append_assoc front w.front payload) }

fulfill_ends : (fulfillment payload : List ℕ) → EndsWith (answer_text (Fulfilled fulfillment payload)) payload
unfolding answer_text answer_contents
fulfill_ends fulfillment payload = behind (answer_kind (Fulfilled fulfillment payload) ∷ length_bytes (length (fulfillment ++ octets payload))) (fulfillment ++ octets payload) payload (behind fulfillment (octets payload) payload (octets_end payload))

reject_ends : (code by message payload : List ℕ) → EndsWith (answer_text (Rejected code by message payload)) payload
unfolding answer_text answer_contents
reject_ends code by message payload =
    behind (answer_kind (Rejected code by message payload) ∷ length_bytes (length (code ++ (octets by ++ (octets message ++ octets payload))))) (code ++ (octets by ++ (octets message ++ octets payload))) payload
    (behind code _ payload (behind (octets by) _ payload (behind (octets message) _ payload (octets_end payload))))

pub fulfill_data : (bytes fulfillment payload : List ℕ) → AnswerReads → IsBytes bytes → answer_at bytes ≡ Ok (Fulfilled fulfillment payload) → answer_at bytes ≡ Ok (Fulfilled fulfillment (drop (length bytes - length payload) bytes))
fulfill_data bytes fulfillment payload reads fits e =
    e ∙ ap (λ x. Ok (Fulfilled fulfillment x)) (last_bytes bytes payload (subst (λ x. EndsWith x payload) (sym (reads.found bytes (Fulfilled fulfillment payload) fits e).0) (fulfill_ends fulfillment payload)))

pub reject_data : (bytes code by message payload : List ℕ) → AnswerReads → IsBytes bytes → answer_at bytes ≡ Ok (Rejected code by message payload) → answer_at bytes ≡ Ok (Rejected code by message (drop (length bytes - length payload) bytes))
reject_data bytes code by message payload reads fits e =
    e ∙ ap (λ x. Ok (Rejected code by message x)) (last_bytes bytes payload (subst (λ x. EndsWith x payload) (sym (reads.found bytes (Rejected code by message payload) fits e).0) (reject_ends code by message payload)))

-- ---- how long a sender may be

by_short : (code by message payload : List ℕ) → IsAnswer (Rejected code by message payload) → length by ≤ 1023
by_short code by message payload (is_reject _ _ _ _ three lawful sender text few whole) = sender_is_short by sender

pub reject_short : (bytes code by message payload : List ℕ) → AnswerReads → IsBytes bytes → answer_at bytes ≡ Ok (Rejected code by message payload) → length by ≤ 1023
reject_short bytes code by message payload reads fits e = by_short code by message payload (reads.found bytes (Rejected code by message payload) fits e).1
