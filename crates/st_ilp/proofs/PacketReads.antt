-- Whole packets are read exactly if they are spelled.
use Rattle.std.proofs.Common.{◌≡◌, ℕ, ℤ, ◌<◌, ◌≤◌, ◌^◌, Bool, true, cond, ◌&&◌, eqb, List, [], ◌∷◌, ◌++◌, length, drop, Option, Some, None, Result, Ok, refl, sym, ap, ◌∙◌, subst, arith, inl, inr, append-nil}
use Rattle.std.specs.Prelude.{not, nat_le}
use Rattle.std.specs.Int.{w64, to_be_bytes}
use Rattle.std.proofs.lemmas.Bool.{eq-eqb, ne_eqb, cases_eq}
use Rattle.std.proofs.lemmas.Bool.Decides.{nat_tests}
use Rattle.st_oer.specs.Address.{is_address}
use Rattle.st_oer.specs.Text.{is_utf8}
use Rattle.st_oer.specs.Spelling.{octets, length_bytes}
use Rattle.st_oer.specs.Reading.{octets_at}
use Rattle.st_oer.specs.Laws.{IsBytes}
use Rattle.st_oer.specs.declared.error.OerError.{OerError}
use Rattle.st_oer.proofs.BothWays.{octets_reads, ok_is as pair_is}
use Rattle.st_oer.proofs.Bytes.{IsBytes-rest}
use Rattle.st_ilp.specs.declared.error.IlpError.{IlpError}
use Rattle.st_ilp.specs.declared.error.IlpError.TheVariants.{Address, DataTooLong, NotUtf8, Code, Kind, Expiry}
use Rattle.st_ilp.specs.Packets.{PreparePacket, AnswerPacket, Fulfilled, Rejected}
use Rattle.st_ilp.specs.Expiry.{is_expiry, expiry_text}
use Rattle.st_ilp.specs.Rules.{max_data, max_message, is_data, is_sender, is_code}
use Rattle.st_ilp.specs.Spelling.{prepare_contents, prepare_text, answer_contents, answer_kind, answer_text}
use Rattle.st_ilp.specs.Reading.{◌>>=◌, spelled, provided, whole, expires_at, hash_at, destination_at, sender_at, message_at, data_at, packet_at, prepare_within, fulfill_within, reject_within, prepare_at, answer_at}
use Rattle.st_ilp.specs.Writing.{prepare_refusal, answer_refusal}
use Rattle.st_ilp.specs.Laws.{IsPrepare, IsAnswer, is_fulfill, is_reject, IsAnswerTyped, PrepareReads, AnswerReads, IsSpelling, NoneBeginsAnother}
use Rattle.st_ilp.proofs.DateFinding.{two_parts}
use Rattle.st_ilp.proofs.AddressTexts.{address_is_short, sender_is_short}
use Rattle.st_ilp.proofs.Sizes.{le_is, passed, size_few, prepare_size, reject_contents-size, fulfill_contents-size}
use Rattle.st_ilp.proofs.FieldLaws.{IsBytes-right, bind_ok, provided_ok, amount_field, hash_field, code_field, octets_field, octets_lifted, expires_field, field_step, field_again, last_again, whole_ok}

-- ---- kind and contents

abbrev after_contents : ℕ → List ℕ × List ℕ → Result (ℕ × List ℕ) IlpError
after_contents kind contents = whole ((kind, contents.0), contents.1)

abbrev after_lawful : ℕ × List ℕ → Result (ℕ × List ℕ) IlpError
after_lawful lawful = spelled (octets_at lawful.1) >>= after_contents lawful.0

pub record IsPacket (first last : ℕ) (bytes : List ℕ) (p : ℕ × List ℕ) : Type 0 where
  pub low : first ≤ p.0
  pub high : p.0 ≤ last
  pub parts : bytes ≡ p.0 ∷ octets p.1
  pub short : length p.1 < 2 ^ 64
  pub fit : IsBytes p.1

pub packet_found : (first last : ℕ) (bytes : List ℕ) (p : ℕ × List ℕ) → IsBytes bytes → packet_at first last bytes ≡ Ok p → IsPacket first last bytes p
unfolding packet_at
packet_found first last [] p h e = absurd cc
packet_found first last (kind ∷ bytes) p h e =
    let l = bind_ok (provided (nat_le first kind && nat_le kind last) Kind (kind, bytes)) after_lawful p e in
    let g = provided_ok (nat_le first kind && nat_le kind last) Kind (kind, bytes) l.0 l.1 in
    let t = two_parts (nat_le first kind) (nat_le kind last) g.0 in
    let next : after_lawful (kind, bytes) ≡ Ok p = ap after_lawful g.1 ∙ l.2 in
    let s = field_step octets_lifted (after_contents kind) bytes p (IsBytes-rest kind bytes h) next in
    let w = whole_ok (kind, s.x) p s.rest s.went_on in
    let parts : bytes ≡ octets s.x = s.parts ∙ ap (λ (r : List ℕ). octets s.x ++ r) w.0 ∙ append-nil (octets s.x) in
    subst (λ (q : ℕ × List ℕ). IsPacket first last (kind ∷ bytes) q) w.1 (record {
      low = le_is first kind t.0;
      high = le_is kind last t.1;
      parts = ap (λ (r : List ℕ). kind ∷ r) parts;
      short = s.fits;
      fit = IsBytes-right (length_bytes (length s.x)) s.x (subst IsBytes parts (IsBytes-rest kind bytes h));
    })

is_le : (a b : ℕ) → a ≤ b → nat_le a b ≡ true
is_le a b h = grind (arith, nat_tests)

pub packet_again : (first last kind : ℕ) (contents : List ℕ) → first ≤ kind → kind ≤ last → length contents < 2 ^ 64 → packet_at first last (kind ∷ octets contents) ≡ Ok (kind, contents)
unfolding packet_at
packet_again first last kind contents low high short =
    rw (is_le first kind low, is_le kind last high) (last_again octets_lifted (after_contents kind) contents short)

-- ---- Prepare

abbrev after_payload : ℕ → ℤ → List ℕ → List ℕ → List ℕ × List ℕ → Result PreparePacket IlpError
after_payload n m c d payload = whole (record { amount = n; expiry = m; condition = c; destination = d; payload = payload.0 }, payload.1)

abbrev after_destination : ℕ → ℤ → List ℕ → List ℕ × List ℕ → Result PreparePacket IlpError
after_destination n m c destination = data_at destination.1 >>= after_payload n m c destination.0

abbrev after_condition : ℕ → ℤ → List ℕ × List ℕ → Result PreparePacket IlpError
after_condition n m condition = destination_at condition.1 >>= after_destination n m condition.0

abbrev after_expiry : ℕ → ℤ × List ℕ → Result PreparePacket IlpError
after_expiry n expiry = hash_at expiry.1 >>= after_condition n expiry.0

abbrev after_amount : ℕ × List ℕ → Result PreparePacket IlpError
after_amount amount = expires_at amount.1 >>= after_expiry amount.0

last_parts : (bytes text rest : List ℕ) → bytes ≡ text ++ rest → rest ≡ [] → bytes ≡ text
last_parts bytes text rest a b = a ∙ ap (λ (r : List ℕ). text ++ r) b ∙ append-nil text

record IsPrepareOf (contents : List ℕ) (p : PreparePacket) : Type 0 where
  is : IsPrepare p
  parts : contents ≡ prepare_contents p

prepare_within_found : (contents : List ℕ) (p : PreparePacket) → IsBytes contents → prepare_within contents ≡ Ok p → IsPrepareOf contents p
unfolding prepare_within prepare_contents
prepare_within_found contents p h e =
    let a = field_step amount_field after_amount contents p h e in
    let b = field_step expires_field (after_expiry a.x) a.rest p a.rest_fits a.went_on in
    let c = field_step hash_field (after_condition a.x b.x) b.rest p b.rest_fits b.went_on in
    let d = field_step (octets_field is_address Address) (after_destination a.x b.x c.x) c.rest p c.rest_fits c.went_on in
    let f = field_step (octets_field is_data DataTooLong) (after_payload a.x b.x c.x d.x) d.rest p d.rest_fits d.went_on in
    let q : PreparePacket = record { amount = a.x; expiry = b.x; condition = c.x; destination = d.x; payload = f.x } in
    let w = whole_ok q p f.rest f.went_on in
    subst (IsPrepareOf contents) w.1 (record {
      is = record { amount = a.fits; expiry = b.fits; condition = c.fits; destination = d.fits.1; payload = f.fits.1 };
      parts = a.parts ∙ ap (λ (r : List ℕ). to_be_bytes w64 a.x ++ r) (b.parts ∙ ap (λ (r : List ℕ). expiry_text b.x ++ r) (c.parts ∙ ap (λ (r : List ℕ). c.x ++ r)
          (d.parts ∙ ap (λ (r : List ℕ). octets d.x ++ r) (last_parts d.rest (octets f.x) f.rest f.parts w.0))));
    })

prepare_within_again : (p : PreparePacket) → IsPrepare p → prepare_within (prepare_contents p) ≡ Ok p
unfolding prepare_within prepare_contents
prepare_within_again p h =
    let e4 = octets p.payload in
    let e3 = octets p.destination ++ e4 in
    let e2 = p.condition ++ e3 in
    let e1 = expiry_text p.expiry ++ e2 in
    let d = address_is_short p.destination h.destination in
    let l = le_is (length p.payload) max_data h.payload in
    field_again amount_field after_amount p.amount e1 h.amount
    ∙ field_again expires_field (after_expiry p.amount) p.expiry e2 h.expiry
    ∙ field_again hash_field (after_condition p.amount p.expiry) p.condition e3 h.condition
    ∙ field_again (octets_field is_address Address) (after_destination p.amount p.expiry p.condition) p.destination e4 (omega (arith, d), h.destination)
    ∙ last_again (octets_field is_data DataTooLong) (after_payload p.amount p.expiry p.condition p.destination) p.payload (omega (arith, l), h.payload)

abbrev after_prepare : ℕ × List ℕ → Result PreparePacket IlpError
after_prepare packet = prepare_within packet.1

prepare_found : (bytes : List ℕ) (p : PreparePacket) → IsBytes bytes → prepare_at bytes ≡ Ok p → (bytes ≡ prepare_text p) × IsPrepare p
unfolding prepare_at prepare_text
prepare_found bytes p h e =
    let b = bind_ok (packet_at 12 12 bytes) after_prepare p e in
    let k = packet_found 12 12 bytes b.0 h b.1 in
    let w = prepare_within_found b.0.1 p k.fit b.2 in
    let kind : b.0.0 ≡ 12 = omega (arith, k.low, k.high) in
    (k.parts ∙ ap (λ (n : ℕ). n ∷ octets b.0.1) kind ∙ ap (λ (c : List ℕ). 12 ∷ octets c) w.parts, w.is)

pub prepare_is_short : (p : PreparePacket) → IsPrepare p → length (prepare_contents p) < 2 ^ 64
prepare_is_short p h =
    omega (arith, prepare_size p h.condition, address_is_short p.destination h.destination, le_is (length p.payload) max_data h.payload, size_few (length p.destination), size_few (length p.payload))

prepare_again : (p : PreparePacket) → IsPrepare p → prepare_at (prepare_text p) ≡ Ok p
unfolding prepare_at prepare_text
prepare_again p h =
    ap (λ (r : Result (ℕ × List ℕ) IlpError). r >>= after_prepare) (packet_again 12 12 12 (prepare_contents p) (omega arith) (omega arith) (prepare_is_short p h))
    ∙ prepare_within_again p h

-- a Prepare that is written keeps the rules
pub written_is_prepare : (p : PreparePacket) → p.amount < 2 ^ 64 → length p.condition ≡ 32 → prepare_refusal p ≡ None → IsPrepare p
unfolding prepare_refusal
written_is_prepare p n l e =
    let last : Option IlpError = cond (not (is_data p.payload)) (Some DataTooLong) None in
    let address : Option IlpError = cond (not (is_address p.destination)) (Some Address) last in
    let a = passed (is_expiry p.expiry) Expiry address e in
    let b = passed (is_address p.destination) Address last a.1 in
    let c = passed (is_data p.payload) DataTooLong None b.1 in
    record { amount = n; expiry = a.0; condition = l; destination = b.0; payload = c.0 }

pub prepare_reads : PrepareReads
prepare_reads = record {
  found = prepare_found;
  only = prepare_again;
  written = λ p n l e. prepare_again p (written_is_prepare p n l e);
}

-- ---- Fulfill and Reject

abbrev after_fulfill_data : List ℕ → List ℕ × List ℕ → Result AnswerPacket IlpError
after_fulfill_data f payload = whole (Fulfilled f payload.0, payload.1)

abbrev after_fulfillment : List ℕ × List ℕ → Result AnswerPacket IlpError
after_fulfillment fulfillment = data_at fulfillment.1 >>= after_fulfill_data fulfillment.0

abbrev after_reject_data : List ℕ → List ℕ → List ℕ → List ℕ × List ℕ → Result AnswerPacket IlpError
after_reject_data c b m payload = whole (Rejected c b m payload.0, payload.1)

abbrev after_message : List ℕ → List ℕ → List ℕ × List ℕ → Result AnswerPacket IlpError
after_message c b message = data_at message.1 >>= after_reject_data c b message.0

abbrev after_sender : List ℕ → List ℕ × List ℕ → Result AnswerPacket IlpError
after_sender c by = message_at by.1 >>= after_message c by.0

abbrev after_code : List ℕ × List ℕ → Result AnswerPacket IlpError
after_code code = sender_at code.1 >>= after_sender code.0

record IsAnswerOf (kind : ℕ) (contents : List ℕ) (a : AnswerPacket) : Type 0 where
  is : IsAnswer a
  kind_is : kind ≡ answer_kind a
  parts : contents ≡ answer_contents a

fulfill_within_found : (contents : List ℕ) (a : AnswerPacket) → IsBytes contents → fulfill_within contents ≡ Ok a → IsAnswerOf 13 contents a
unfolding fulfill_within answer_contents
fulfill_within_found contents a h e =
    let f = field_step hash_field after_fulfillment contents a h e in
    let l = field_step (octets_field is_data DataTooLong) (after_fulfill_data f.x) f.rest a f.rest_fits f.went_on in
    let w = whole_ok (Fulfilled f.x l.x) a l.rest l.went_on in
    subst (IsAnswerOf 13 contents) w.1 (record {
      is = is_fulfill f.x l.x f.fits l.fits.1;
      kind_is = refl;
      parts = f.parts ∙ ap (λ (r : List ℕ). f.x ++ r) (last_parts f.rest (octets l.x) l.rest l.parts w.0);
    })

reject_within_found : (contents : List ℕ) (a : AnswerPacket) → IsBytes contents → length contents < 2 ^ 64 → reject_within contents ≡ Ok a → IsAnswerOf 14 contents a
unfolding reject_within answer_contents
reject_within_found contents a h short e =
    let c = field_step code_field after_code contents a h e in
    let b = field_step (octets_field is_sender Address) (after_sender c.x) c.rest a c.rest_fits c.went_on in
    let m = field_step (octets_field is_utf8 NotUtf8) (after_message c.x b.x) b.rest a b.rest_fits b.went_on in
    let l = field_step (octets_field is_data DataTooLong) (after_reject_data c.x b.x m.x) m.rest a m.rest_fits m.went_on in
    let w = whole_ok (Rejected c.x b.x m.x l.x) a l.rest l.went_on in
    let parts : contents ≡ c.x ++ (octets b.x ++ (octets m.x ++ octets l.x)) = c.parts ∙ ap (λ (r : List ℕ). c.x ++ r) (b.parts ∙ ap (λ (r : List ℕ). octets b.x ++ r)
    (m.parts ∙ ap (λ (r : List ℕ). octets m.x ++ r) (last_parts m.rest (octets l.x) l.rest l.parts w.0))) in
    subst (IsAnswerOf 14 contents) w.1 (record {
      is = is_reject c.x b.x m.x l.x c.fits.0 c.fits.1 b.fits.1 m.fits.1 l.fits.1 (subst (λ (t : List ℕ). length t < 2 ^ 64) parts short);
      kind_is = refl;
      parts = parts;
    })

abbrev after_answer : ℕ × List ℕ → Result AnswerPacket IlpError
after_answer packet = cond (eqb packet.0 13) (fulfill_within packet.1) (reject_within packet.1)

answer_found : (bytes : List ℕ) (a : AnswerPacket) → IsBytes bytes → answer_at bytes ≡ Ok a → (bytes ≡ answer_text a) × IsAnswer a
unfolding answer_at answer_text
answer_found bytes a h e =
    let b = bind_ok (packet_at 13 14 bytes) after_answer a e in
    let k = packet_found 13 14 bytes b.0 h b.1 in
    let w : IsAnswerOf b.0.0 b.0.1 a = elim (cases_eq b.0.0 13) [
      | inl same ↦
          let g : fulfill_within b.0.1 ≡ Ok a = sym (ap (λ (t : Bool). cond t (fulfill_within b.0.1) (reject_within b.0.1)) (eq-eqb b.0.0 13 same)) ∙ b.2 in
          subst (λ (n : ℕ). IsAnswerOf n b.0.1 a) (sym same) (fulfill_within_found b.0.1 a k.fit g)
      | inr other ↦
          let g : reject_within b.0.1 ≡ Ok a = sym (ap (λ (t : Bool). cond t (fulfill_within b.0.1) (reject_within b.0.1)) (ne_eqb b.0.0 13 other)) ∙ b.2 in
          let is : 14 ≡ b.0.0 = omega (arith, k.low, k.high, other) in
          subst (λ (n : ℕ). IsAnswerOf n b.0.1 a) is (reject_within_found b.0.1 a k.fit k.short g)
    ] in
    (k.parts ∙ ap (λ (n : ℕ). n ∷ octets b.0.1) w.kind_is ∙ ap (λ (c : List ℕ). answer_kind a ∷ octets c) w.parts, w.is)

fulfill_within_again : (f payload : List ℕ) → length f ≡ 32 → is_data payload ≡ true → fulfill_within (answer_contents (Fulfilled f payload)) ≡ Ok (Fulfilled f payload)
unfolding fulfill_within answer_contents
fulfill_within_again f payload hf hp =
    let l = le_is (length payload) max_data hp in
    field_again hash_field after_fulfillment f (octets payload) hf
    ∙ last_again (octets_field is_data DataTooLong) (after_fulfill_data f) payload (omega (arith, l), hp)

reject_within_again : (c b m payload : List ℕ) → length c ≡ 3 → is_code c ≡ true → is_sender b ≡ true → is_utf8 m ≡ true → is_data payload ≡ true → length (answer_contents (Rejected c b m payload)) < 2 ^ 64
    → reject_within (answer_contents (Rejected c b m payload)) ≡ Ok (Rejected c b m payload)
unfolding reject_within answer_contents
reject_within_again c b m payload hc code hb hm hp short =
    let l = le_is (length payload) max_data hp in
    let s = sender_is_short b hb in
    let e3 = octets payload in
    let e2 = octets m ++ e3 in
    let e1 = octets b ++ e2 in
    let size = reject_contents-size c b m payload hc in
    field_again code_field after_code c e1 (hc, code)
    ∙ field_again (octets_field is_sender Address) (after_sender c) b e2 (omega (arith, s), hb)
    ∙ field_again (octets_field is_utf8 NotUtf8) (after_message c b) m e3 (omega (arith, size, short), hm)
    ∙ last_again (octets_field is_data DataTooLong) (after_reject_data c b m) payload (omega (arith, l), hp)

pub answer_is_short : (a : AnswerPacket) → IsAnswer a → length (answer_contents a) < 2 ^ 64
answer_is_short a (is_fulfill f payload hf hp) =
    omega (arith, fulfill_contents-size f payload hf, le_is (length payload) max_data hp, size_few (length payload))
answer_is_short a (is_reject c b m payload hc code hb hm hp short) = short

again_of : (kind : ℕ) (contents : List ℕ) → 13 ≤ kind → kind ≤ 14 → length contents < 2 ^ 64 → answer_at (kind ∷ octets contents) ≡ after_answer (kind, contents)
unfolding answer_at
again_of kind contents low high short = ap (λ (r : Result (ℕ × List ℕ) IlpError). r >>= after_answer) (packet_again 13 14 kind contents low high short)

answer_again : (a : AnswerPacket) → IsAnswer a → answer_at (answer_text a) ≡ Ok a
unfolding answer_text
answer_again a (is_fulfill f payload hf hp) =
    again_of 13 (answer_contents (Fulfilled f payload)) (omega arith) (omega arith) (answer_is_short (Fulfilled f payload) (is_fulfill f payload hf hp))
    ∙ fulfill_within_again f payload hf hp
answer_again a (is_reject c b m payload hc code hb hm hp short) =
    again_of 14 (answer_contents (Rejected c b m payload)) (omega arith) (omega arith) short
    ∙ reject_within_again c b m payload hc code hb hm hp short

pub written_is_answer : (a : AnswerPacket) → IsAnswerTyped a → answer_refusal a ≡ None → IsAnswer a
unfolding answer_refusal
written_is_answer (Fulfilled f payload) t e =
    let p = passed (is_data payload) DataTooLong None e in
    is_fulfill f payload t p.0
written_is_answer (Rejected c b m payload) t e =
    let last : Option IlpError = cond (not (is_data payload)) (Some DataTooLong) None in
    let text : Option IlpError = cond (not (nat_le (length m) max_message)) (Some DataTooLong) last in
    let sender : Option IlpError = cond (not (is_sender b)) (Some Address) text in
    let p = passed (is_code c) Code sender e in
    let q = passed (is_sender b) Address text p.1 in
    let r = passed (nat_le (length m) max_message) DataTooLong last q.1 in
    let s = passed (is_data payload) DataTooLong None r.1 in
    is_reject c b m payload t.0 p.0 q.0 t.1 s.0
    (omega (arith, reject_contents-size c b m payload t.0, sender_is_short b q.0, le_is (length m) max_message r.0, le_is (length payload) max_data s.0, size_few (length b), size_few (length m), size_few (length payload)))

pub answer_reads : AnswerReads
answer_reads = record {
  found = answer_found;
  only = answer_again;
  written = λ a t e. answer_again a (written_is_answer a t e);
}

-- ---- no spelling begins another

record IsWhole (text : List ℕ) : Type 0 where
  kind : ℕ
  contents : List ℕ
  short : length contents < 2 ^ 64
  parts : text ≡ kind ∷ octets contents

spelling_is_whole : (text : List ℕ) → IsSpelling text → IsWhole text
unfolding prepare_text answer_text
spelling_is_whole text (inl p) = record { kind = 12; contents = prepare_contents p.0; short = prepare_is_short p.0 p.1; parts = p.2 }
spelling_is_whole text (inr a) = record { kind = answer_kind a.0; contents = answer_contents a.0; short = answer_is_short a.0 a.1; parts = a.2 }

pair_rest : (a b x y : List ℕ) → (let l : Result (List ℕ × List ℕ) OerError = Ok (a, x) in let r : Result (List ℕ × List ℕ) OerError = Ok (b, y) in l ≡ r) → x ≡ y
pair_rest a b x y e = ap (λ (p : List ℕ × List ℕ). p.1) (pair_is (a, x) (b, y) e)

octets_end : (a b rest : List ℕ) → length a < 2 ^ 64 → length b < 2 ^ 64 → octets a ++ rest ≡ octets b → rest ≡ []
octets_end a b rest ha hb e =
    let one = octets_reads.only a rest ha in
    let two = octets_reads.only b [] hb in
    let same : octets_at (octets a ++ rest) ≡ octets_at (octets b ++ []) = ap octets_at (e ∙ sym (append-nil (octets b))) in
    pair_rest a b rest [] (sym one ∙ same ∙ two)

pub none_begins : NoneBeginsAnother
none_begins text rest a b =
    let x = spelling_is_whole text a in
    let y = spelling_is_whole (text ++ rest) b in
    let e : x.kind ∷ (octets x.contents ++ rest) ≡ y.kind ∷ octets y.contents = sym (ap (λ (t : List ℕ). t ++ rest) x.parts) ∙ y.parts in
    octets_end x.contents y.contents rest x.short y.short (ap (drop 1) e)
