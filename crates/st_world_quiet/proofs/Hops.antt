-- One calm hop: it forwards a Prepare as it arrived, but for its time. It returns the Fulfill that fits as it arrived, and
-- books it.
use Rattle.std.proofs.Common.{◌≡◌, ℕ, ◌+◌, ◌^◌, ◌<◌, ◌≤◌, ◌++◌, true, false, List, [], ◌∷◌, length-set, refl, ap, ◌∙◌, arith, ℤ, Some, Ok, nat_eq, nat_lt, nat_le}
use Rattle.std.specs.Prelude.{int_le, int_lt, pos, neg_ℤ, ◌+ℤ◌, ◌-ℤ◌, ◌≤ℤ◌, ◌||◌, sum, slice_index}
use Rattle.std.proofs.lemmas.Int.{ints}
use Rattle.std.proofs.lemmas.Bool.Decides.{nat_tests}
use Rattle.st_ilp.specs.Packets.{Fulfilled, PreparePacket}
use Rattle.st_ilp.specs.Spelling.{prepare_text}
use Rattle.st_ilp.specs.Reading.{answer_at}
use Rattle.st_ilp.specs.Laws.{IsPrepare}
use Rattle.st_ilp.proofs.DateFinding.{is_le, le_is, not_le_is, is_not_le, two_parts}
use Rattle.st_ilp.proofs.PacketReads.{prepare_reads}
use Rattle.st_hop.specs.declared.ticket.Open.{Open}
use Rattle.st_hop.specs.declared.settling.Closing.TheVariants.{Booked}
use Rattle.st_hop.specs.Hop.{Hop, account_at, all_claimed, all_due, booked, held_of, holding, is_over_limit, last_next, raised}
use Rattle.st_hop.specs.Tickets.{without}
use Rattle.st_hop.specs.Routing.{route_to}
use Rattle.st_hop.specs.Ways.{next_hop}
use Rattle.st_hop.specs.Arriving.{Arrival, Forwards, arrived, at_packet, hop_time, judged, onward, sent_on, ticket_for}
use Rattle.st_hop.specs.Settling.{closed, closing, fits, settled}
use Rattle.st_hop.proofs.Sums.{raised_same, same_test, sum_raised}
use Rattle.st_world_quiet.proofs.Money.{whole_arrives}
use Rattle.st_world_quiet.specs.Calm.{HasRoom, IsCalm, after_one, earlier, ticket_of}

-- ---- tests

is_not_lt : (a b : ℕ) → b ≤ a → nat_lt a b ≡ false
is_not_lt a b h = grind (arith, nat_tests)

is_not_at_most : (a b : ℕ) → b < a → nat_le a b ≡ false
is_not_at_most a b h = grind (arith, nat_tests)

within_limits : (limit claims held claimed due received sent : ℕ) → claims + held + received ≤ limit → claimed + received < 2 ^ 63 → due + sent < 2 ^ 63
    → (nat_lt limit (claims + held + received) || nat_le (2 ^ 63) (claimed + received) || nat_le (2 ^ 63) (due + sent)) ≡ false
within_limits limit claims held claimed due received sent a b c =
    let first = is_not_lt limit (claims + held + received) a in
    let second = is_not_at_most (2 ^ 63) (claimed + received) b in
    let third = is_not_at_most (2 ^ 63) (due + sent) c in
    rw (first, second, third) refl

-- ---- a Prepare is forwarded

pub has_time : (expiry now : ℤ) → int_le (expiry -ℤ hop_time) now ≡ false → int_le expiry (now +ℤ hop_time) ≡ false
has_time expiry now late = let l = not_le_is (expiry -ℤ hop_time) now late in is_not_le expiry (now +ℤ hop_time) (omega (arith, ints, l))

pub is_in_time : (expiry now : ℤ) → int_le expiry now ≡ false → int_lt now expiry ≡ true
is_in_time expiry now late = grind (arith, ints)

pub earlier_lawful : (p : PreparePacket) (now : ℤ) → IsPrepare p → pos 0 ≤ℤ now → int_le (p.expiry -ℤ hop_time) now ≡ false → IsPrepare (earlier p)
earlier_lawful p now is from late =
    let bounds = two_parts (int_le (neg_ℤ (pos 62_167_219_200_000)) p.expiry) (int_le p.expiry (pos 253_402_300_799_999)) is.expiry in
    let last = le_is p.expiry (pos 253_402_300_799_999) bounds.1 in
    let left = not_le_is (p.expiry -ℤ hop_time) now late in
    let low = is_le (neg_ℤ (pos 62_167_219_200_000)) (p.expiry -ℤ hop_time) (omega (arith, ints, from, left)) in
    let high = is_le (p.expiry -ℤ hop_time) (pos 253_402_300_799_999) (omega (arith, ints, last)) in
    record { amount = is.amount; expiry = rw (low, high) refl; condition = is.condition; destination = is.destination; payload = is.payload }

not_over : (destination : List ℕ) (sent most left amount out : ℕ) (h : Hop) → IsCalm destination sent most left h → amount ≤ left → out ≡ amount → is_over_limit h 0 amount out ≡ false
not_over destination sent most left amount out h calm few same =
    let none : held_of h 0 ≡ 0 = ap (λ ts. held_of (record h { tickets = ts }) 0) calm.alone in
    let claimed : all_claimed h ≡ sum h.claims = ap (λ ts. all_claimed (record h { tickets = ts })) calm.alone ∙ omega arith in
    let due : all_due h ≡ sum h.dues = ap (λ ts. all_due (record h { tickets = ts })) calm.alone ∙ omega arith in
    let limit = calm.limit in
    let all_claims = calm.claimed in
    let all_dues = calm.due in
    within_limits ((account_at h 0).limit + slice_index h.dues 0) (slice_index h.claims 0) (held_of h 0) (all_claimed h) (all_due h) amount out
    (omega (arith, none, limit, few)) (omega (arith, claimed, all_claims, few)) (omega (arith, due, all_dues, few, same))

goes_next : (destination : List ℕ) (sent most left : ℕ) (h : Hop) (p : PreparePacket) (now : ℤ) → (calm : IsCalm destination sent most left h) → p.destination ≡ destination → p.amount ≤ most → p.amount ≤ left → sent + 1 < 2 ^ 64
    → int_le (p.expiry -ℤ hop_time) now ≡ false → judged h 0 p now ≡ Ok (next_hop calm.leads.way)
goes_next destination sent most left h p now calm there small few numbers late =
    let fits_packet = is_not_lt (account_at h 0).max_packet p.amount (let m = calm.max_packet in omega (arith, m, small)) in
    let early = has_time p.expiry now late in
    let route = ap (route_to h.routes) there ∙ calm.leads.route in
    let apart : nat_eq calm.leads.way.account 0 ≡ false = ap (λ n. nat_eq n 0) calm.leads.account in
    let out = whole_arrives calm.leads.way.rate p.amount calm.leads.rate in
    let within = not_over destination sent most left p.amount (onward calm.leads.way.rate p).amount h calm few out in
    let numbered = is_not_at_most last_next h.next (let n = calm.numbers in omega (arith, n, numbers)) in
    rw (fits_packet, early, route, apart, within, numbered) refl

-- what a hop does with a Prepare that it forwards as q
abbrev gone_on : Hop → PreparePacket → (account : ℕ) → (q : PreparePacket) → Arrival × Hop
gone_on h p account q = (Forwards (ticket_for h.next 0 account p q) account (prepare_text q), holding h (ticket_for h.next 0 account p q))

pub goes_on : (destination : List ℕ) (sent most left after : ℕ) (h : Hop) (p : PreparePacket) (now : ℤ) → IsCalm destination sent most left h → IsPrepare p → HasRoom destination sent most left after p → int_le (p.expiry -ℤ hop_time) now ≡ false
    → arrived h 0 (prepare_text p) now ≡ (Forwards (ticket_of h p) 1 (prepare_text (earlier p)), holding h (ticket_of h p))
goes_on destination sent most left after h p now calm is room late =
    ap (λ r. at_packet h 0 r now) (prepare_reads.only p is)
    ∙ ap (sent_on h 0 p) (goes_next destination sent most left h p now calm room.there room.small (let spends = room.spends in omega (arith, spends)) room.numbers late)
    ∙ ap (λ account. gone_on h p account (onward calm.leads.way.rate p)) calm.leads.account
    ∙ ap (λ amount. gone_on h p 1 (record p { amount = amount; expiry = p.expiry -ℤ hop_time })) (whole_arrives calm.leads.way.rate p.amount calm.leads.rate)

-- ---- its answer

pub goes_back : (h : Hop) (t : Open) (bytes text payload : List ℕ) (now : ℤ) → answer_at bytes ≡ Ok (Fulfilled text payload) → fits text t.condition ≡ true → int_lt now t.expiry ≡ true → settled h t (Some bytes) now ≡ (bytes, booked h t)
goes_back h t bytes text payload now reads fitting early = ap (closed h t (Some bytes)) ends
  where
    ends : closing t (Some bytes) now ≡ Ok Booked
    ends = rw (reads, fitting, early) refl

-- ---- what it leaves

pub spent : (ts : List Open) (t : Open) → ts ≡ [] → without (ts ++ t ∷ []) t.number ≡ []
spent ts t e = ap (λ xs. without (xs ++ t ∷ []) t.number) e ∙ same_test t.number t.number [] (t ∷ []) refl

pub calm_still : (destination : List ℕ) (sent most left after : ℕ) (h : Hop) (p : PreparePacket) → IsCalm destination sent most left h → after + p.amount ≡ left → IsCalm destination (sent + 1) most after (after_one h p)
calm_still destination sent most left after h p calm spends =
    let a = calm.claims_kept in
    let d = calm.dues_kept in
    let here : slice_index (raised h.claims 0 p.amount) 0 ≡ slice_index h.claims 0 + p.amount = raised_same h.claims 0 p.amount 0 (omega (arith, a)) in
    let there : slice_index (raised h.dues 1 p.amount) 0 ≡ slice_index h.dues 0 + 0 = raised_same h.dues 1 p.amount 0 (omega (arith, d)) in
    let claims = sum_raised h.claims 0 p.amount (omega (arith, a)) in
    let dues = sum_raised h.dues 1 p.amount (omega (arith, d)) in
    let limit = calm.limit in
    let claimed = calm.claimed in
    let due = calm.due in
    let numbers = calm.numbers in
    record {
      alone = spent h.tickets (ticket_of h p) calm.alone;
      leads = record { way = calm.leads.way; route = calm.leads.route; account = calm.leads.account; rate = calm.leads.rate };
      claims_kept = length-set h.claims 0 _ ∙ a;
      dues_kept = length-set h.dues 1 _ ∙ d;
      numbers = omega (arith, numbers);
      max_packet = calm.max_packet;
      limit = omega (arith, here, there, limit, spends);
      claimed = omega (arith, claims, claimed, spends);
      due = omega (arith, dues, due, spends);
    }
