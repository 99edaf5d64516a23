-- The bytes of a Prepare around its condition and its payload, and what sealing makes of them.
use Rattle.std.proofs.Common.{◌≡◌, ℕ, ◌+◌, ◌≤◌, Bool, true, false, List, ◌∷◌, ◌++◌, length, take, drop, refl, sym, ap, ◌∙◌, subst, arith, append_assoc, ℤ, ◌+ℤ◌, Some, Ok}
use Rattle.std.specs.Prelude.{bytes_eq}
use Rattle.std.specs.Int.{w64, to_be_bytes}
use Rattle.std.specs.Ordering.{nat_cmp}
use Rattle.std.specs.FinMap as map
use Rattle.std.proofs.lemmas.Bool.{le-leb}
use Rattle.std.proofs.lemmas.Grind.{common_steps}
use Rattle.std.proofs.lemmas.List.{length-append, length-take, length-drop, take_at, drop_at}
use Rattle.std.proofs.lemmas.Slice.Eq.{bytes_eq-Decides}
use Rattle.st_oer.specs.Spelling.{length_bytes, octets}
use Rattle.st_ilp.specs.Expiry.{expiry_text}
use Rattle.st_ilp.specs.Packets.{PreparePacket}
use Rattle.st_ilp.specs.Laws.{IsPrepare}
use Rattle.st_ilp.specs.Spelling.{prepare_kind, prepare_contents, prepare_text}
use Rattle.st_ilp.specs.Writing.{octets_size}
use Rattle.st_ilp.proofs.Sizes.{prepare_size}
use Rattle.st_frames.specs.Written.{written}
use Rattle.st_keys.specs.Keys.{DerivedKeys, fulfillment, condition}
use Rattle.st_keys.specs.Sealed.{sealed, sealed_text, sealed_packet}
use Rattle.st_keys.proofs.Lengths.{condition_is, sealed_length}
use Rattle.st_sender.specs.Sending.{Load}
use Rattle.st_end.specs.declared.flight.Open.{Open}
use Rattle.st_end.specs.State.{EndState}
use Rattle.st_end.specs.Sending.{Goes, Spells, is_kept, answer_time}
use Rattle.st_end.specs.Unsealed.{launched, GoesUnsealed, known_if, known}
use Rattle.st_end.specs.Inside.{prepare_as, front_of, middle_of, IsPlain, IsSpelled}

-- ---- the parts of a Prepare

pub parts : (q : PreparePacket) → prepare_text q ≡ front_of q ++ (q.condition ++ (middle_of q ++ q.payload))
unfolding prepare_text prepare_contents
parts q =
    let whole = length_bytes (length (prepare_contents q)) in
    let amount = to_be_bytes w64 q.amount in
    let expiry = expiry_text q.expiry in
    ap (λ xs. prepare_kind ∷ (whole ++ (amount ++ (expiry ++ (q.condition ++ xs))))) (sym (append_assoc (octets q.destination) (length_bytes (length q.payload)) q.payload))
    ∙ ap (λ xs. prepare_kind ∷ (whole ++ xs)) (sym (append_assoc amount expiry (q.condition ++ (middle_of q ++ q.payload))))
    ∙ ap (λ xs. prepare_kind ∷ xs) (sym (append_assoc whole (amount ++ expiry) (q.condition ++ (middle_of q ++ q.payload))))

pub length_parts : (q : PreparePacket) → length (prepare_text q) ≡ length (front_of q) + (length q.condition + (length (middle_of q) + length q.payload))
length_parts q =
    ap length (parts q)
    ∙ length-append (front_of q) (q.condition ++ (middle_of q ++ q.payload))
    ∙ ap (λ n. length (front_of q) + n) (length-append q.condition (middle_of q ++ q.payload) ∙ ap (λ n. length q.condition + n) (length-append (middle_of q) q.payload))

pub length_middle : (q : PreparePacket) → length (middle_of q) ≡ length (length_bytes (length q.destination)) + length q.destination + length (length_bytes (length q.payload))
length_middle q =
    length-append (octets q.destination) (length_bytes (length q.payload))
    ∙ ap (λ n. n + length (length_bytes (length q.payload))) (length-append (length_bytes (length q.destination)) q.destination)

-- a text in four parts, cut at the places of the second and of the last
pub record Cut (bytes front middle payload : List ℕ) (c p : ℕ) : Type 0 where
  pub first : take c bytes ≡ front
  pub between : drop (c + 32) (take p bytes) ≡ middle
  pub last : drop p bytes ≡ payload

cut : (bytes front condition middle payload : List ℕ) (c p : ℕ) → bytes ≡ front ++ (condition ++ (middle ++ payload)) → length condition ≡ 32 → c ≡ length front → p ≡ c + 32 + length middle → Cut bytes front middle payload c p
cut bytes front condition middle payload c p is long at behind =
    let head = front ++ condition in
    let before = head ++ middle in
    let short : length head ≡ c + 32 = omega (arith, length-append front condition, long, at) in
    let whole : length before ≡ p = omega (arith, length-append head middle, short, behind) in
    let again : bytes ≡ before ++ payload =
    is ∙ sym (append_assoc front condition (middle ++ payload)) ∙ sym (append_assoc head middle payload) in
    record {
      first = ap (take c) is ∙ take_at front (condition ++ (middle ++ payload)) c (sym at);
      between = ap (λ xs. drop (c + 32) (take p xs)) again ∙ ap (drop (c + 32)) (take_at before payload p whole) ∙ drop_at head middle (c + 32) short;
      last = ap (drop p) again ∙ drop_at before payload p whole;
    }

-- what is in front of the condition, and in front of the payload, does not depend on these beyond the payload's length
module _ (peer : List ℕ) (now : ℤ) (amount : ℕ) where
  abbrev Q : (condition payload : List ℕ) → PreparePacket
  Q condition payload = prepare_as peer now amount condition payload

  fronts : (c d p r : List ℕ) → length c ≡ 32 → length d ≡ 32 → length p ≡ length r → front_of (Q c p) ≡ front_of (Q d r)
  fronts c d p r one other same =
      ap (λ n. prepare_kind ∷ (length_bytes n ++ (to_be_bytes w64 amount ++ expiry_text (now +ℤ answer_time))))
      (prepare_size (Q c p) one ∙ ap (λ n. 57 + (octets_size (length peer) + octets_size n)) same ∙ sym (prepare_size (Q d r) other))

  middles : (c d p r : List ℕ) → length p ≡ length r → middle_of (Q c p) ≡ middle_of (Q d r)
  middles c d p r same = ap (λ n. octets peer ++ length_bytes n) same

-- the bytes of a Prepare with a plain payload and any condition
plain_is : (peer : List ℕ) (now : ℤ) (p : Load) (zeros payload bytes : List ℕ) (c at : ℕ) → (let q = prepare_as peer now p.amount zeros payload in IsPrepare q → Spells p
    → written prepare_kind p.sequence p.least p.frames ≡ Ok (drop 28 payload) → 28 ≤ length payload → length payload ≤ 32767
    → bytes ≡ prepare_text q → c ≡ length (front_of q) → at ≡ c + 32 + length (middle_of q)
    → IsPlain peer now p bytes c at)
plain_is peer now p zeros payload bytes c at l spells writes long short is front behind =
    let q = prepare_as peer now p.amount zeros payload in
    let cuts = cut bytes (front_of q) zeros (middle_of q) payload c at (is ∙ parts q) l.condition front behind in
    record {
      text = drop 28 payload;
      spells = spells;
      writes = writes;
      front = omega (arith, behind);
      back = omega (arith, ap length is, length_parts q, l.condition, front, behind, long);
      plain = ap (drop 28) cuts.last;
      lawful = λ condition sealed sized same. record {
        amount = l.amount;
        expiry = l.expiry;
        condition = sized;
        destination = l.destination;
        payload = le-leb (length sealed) 32767 (omega (arith, same, short, long, length-drop 28 payload));
      };
      whole = λ condition sealed sized same.
          let alike : length payload ≡ length sealed = omega (arith, same, long, length-drop 28 payload) in
          ap (λ xs. xs ++ (condition ++ (drop (c + 32) (take at bytes) ++ sealed))) (cuts.first ∙ fronts peer now p.amount zeros condition payload sealed l.condition sized alike)
          ∙ ap (λ xs. front_of (prepare_as peer now p.amount condition sealed) ++ (condition ++ (xs ++ sealed))) (cuts.between ∙ middles peer now p.amount zeros condition payload sealed alike)
          ∙ sym (parts (prepare_as peer now p.amount condition sealed));
    }

-- the same for the Prepare that was written, by its fields
pub plain_of : (peer : List ℕ) (now : ℤ) (p : Load) (q : PreparePacket) (payload bytes : List ℕ) (c at : ℕ) → IsPrepare q → q.amount ≡ p.amount → q.expiry ≡ now +ℤ answer_time → q.destination ≡ peer → q.payload ≡ payload
    → Spells p → written prepare_kind p.sequence p.least p.frames ≡ Ok (drop 28 payload) → 28 ≤ length payload → length payload ≤ 32767
    → bytes ≡ prepare_text q → c ≡ length (front_of q) → at ≡ c + 32 + length (middle_of q)
    → IsPlain peer now p bytes c at
plain_of peer now p q payload bytes c at l amount expiry destination same spells writes long short is front behind =
    let named : q ≡ prepare_as peer now p.amount q.condition payload =
    ap (λ n. record q { amount = n }) amount
    ∙ ap (λ n. record q { amount = p.amount; expiry = n }) expiry
    ∙ ap (λ xs. record q { amount = p.amount; expiry = now +ℤ answer_time; destination = xs }) destination
    ∙ ap (λ xs. record q { amount = p.amount; expiry = now +ℤ answer_time; destination = peer; payload = xs }) same in
    plain_is peer now p q.condition payload bytes c at (subst IsPrepare named l) spells writes long short (is ∙ ap prepare_text named)
    (front ∙ ap (λ x. length (front_of x)) named) (behind ∙ ap (λ x. c + 32 + length (middle_of x)) named)

-- what sealing makes of it is a flight and the bytes of its Prepare
pub spelled : (keys : DerivedKeys) (peer iv : List ℕ) (now : ℤ) (p : Load) (bytes : List ℕ) (c at : ℕ) → length iv ≡ 12 → IsPlain peer now p bytes c at
    → (let x = launched keys iv p.sequence p.amount bytes c at in IsSpelled keys peer iv now p x.flight x.bytes)
unfolding launched sealed_packet
spelled keys peer iv now p bytes c at long h =
    let payload = sealed keys iv (drop 28 (drop at bytes)) in
    let sized : length payload ≡ 28 + length h.text = sealed_length keys iv (drop 28 (drop at bytes)) long ∙ ap (λ xs. 28 + length xs) h.plain in
    let hash : length (condition (fulfillment keys payload)) ≡ 32 = (condition_is (fulfillment keys payload)).count in
    record {
      payload = payload;
      spells = h.spells;
      sealed = ap (sealed_text keys iv) h.writes ∙ ap (λ xs. Ok (sealed keys iv xs)) (sym h.plain);
      lawful = h.lawful (condition (fulfillment keys payload)) payload hash sized;
      flight_is = refl;
      bytes_are = h.whole (condition (fulfillment keys payload)) payload hash sized;
    }

-- they are as long as what is not sealed
pub as_long : (keys : DerivedKeys) (iv : List ℕ) (sequence amount : ℕ) (bytes : List ℕ) (c p : ℕ) → length iv ≡ 12 → c + 32 ≤ p → p + 28 ≤ length bytes → length bytes ≡ length (launched keys iv sequence amount bytes c p).bytes
unfolding launched
as_long keys iv sequence amount bytes c p long front back =
    let plain = drop 28 (drop p bytes) in
    let payload = sealed keys iv plain in
    let hash = condition (fulfillment keys payload) in
    let middle = drop (c + 32) (take p bytes) in
    omega (
      arith,
      front,
      back,
      (condition_is (fulfillment keys payload)).count,
      sealed_length keys iv plain long,
      length-append (take c bytes) (hash ++ (middle ++ payload)),
      length-append hash (middle ++ payload),
      length-append middle payload,
      length-take c bytes,
      length-take p bytes,
      length-drop (c + 32) (take p bytes),
      length-drop 28 (drop p bytes),
      length-drop p bytes,
    )

-- ---- once the condition is known

bytes_same : (xs : List ℕ) → bytes_eq xs xs ≡ true
bytes_same xs = (bytes_eq-Decides xs xs).1 refl

kept_here : (m : map.FinMap nat_cmp (List ℕ)) (k : ℕ) (c : List ℕ) → map.get (map.insert m k c) k ≡ Some c
kept_here m k c = grind (arith, common_steps, map.gets)

-- a flight that was booked waits for its condition
pub waits : (e a : EndState) (iv : List ℕ) (now : ℤ) (flight : Open) (bytes : List ℕ) → GoesUnsealed e iv now flight bytes a → is_kept iv (map.get a.conditions flight.sequence) ≡ true
waits e a iv now flight bytes g =
    ap (λ (x : EndState). is_kept iv (map.get x.conditions flight.sequence)) g.booked ∙ ap (is_kept iv) (kept_here e.conditions flight.sequence iv) ∙ bytes_same iv

-- the three parts of a Send
pub sealed_goes : (e a b : EndState) (iv : List ℕ) (now : ℤ) (flight : Open) (bytes : List ℕ) → GoesUnsealed e iv now flight bytes a → b ≡ known a iv flight → Goes e iv now flight bytes b
sealed_goes e a b iv now flight bytes g is =
    subst (λ (x : EndState). Goes e iv now flight bytes x) (sym (is ∙ ap (λ t. known_if t a flight) (waits e a iv now flight bytes g))) g.goes

-- the same with other names for the flight and the bytes
pub sent_goes : (e a b : EndState) (iv : List ℕ) (now : ℤ) (flight read : Open) (bytes out : List ℕ) → GoesUnsealed e iv now flight bytes a → read ≡ flight → out ≡ bytes → b ≡ known a iv read → Goes e iv now read out b
sent_goes e a b iv now flight read bytes out g named written is =
    subst (λ (f : Open). Goes e iv now f out b) (sym named)
    (subst (λ (xs : List ℕ). Goes e iv now flight xs b) (sym written)
    (sealed_goes e a b iv now flight bytes g (is ∙ ap (λ (f : Open). known a iv f) named)))

-- nothing else changes of an end
pub known_same : (t : Bool) (e : EndState) (flight : Open) → ((known_if t e flight).sending ≡ e.sending) × ((known_if t e flight).receiving ≡ e.receiving)
known_same true e flight = (refl, refl)
known_same false e flight = (refl, refl)
