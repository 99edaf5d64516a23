-- A chain of calm hops: to both ends it is as if nothing were between them.
use Rattle.std.proofs.Common.{◌≡◌, ℕ, ◌+◌, true, false, List, [], ◌∷◌, length, refl, sym, ap, subst, ◌∙◌, arith, ℤ, Ok}
use Rattle.std.specs.Prelude.{int_le, pos, ◌-ℤ◌, ◌≤ℤ◌}
use Rattle.std.specs.List.{AllByRecursion}
use Rattle.std.proofs.lemmas.Int.{ints}
use Rattle.st_ilp.specs.Packets.{Fulfilled, PreparePacket}
use Rattle.st_ilp.specs.Spelling.{prepare_text}
use Rattle.st_ilp.specs.Reading.{answer_at}
use Rattle.st_ilp.specs.Laws.{IsPrepare}
use Rattle.st_ilp.specs.Expiry.{is_expiry}
use Rattle.st_ilp.proofs.DateFinding.{is_not_le, not_le_is}
use Rattle.st_hop.specs.Hop.{Hop, holding}
use Rattle.st_hop.specs.Arriving.{arrived, hop_time}
use Rattle.st_hop.specs.Settling.{fits}
use Rattle.st_end.specs.State.{EndState}
use Rattle.st_end.specs.Receiving.{Received, received}
use Rattle.st_world_quiet.specs.Crossing.{Crossed, crossed, less_time, over_one}
use Rattle.st_world_quiet.specs.Calm.{HasRoom, IsCalm, after_one, earlier, ticket_of}
use Rattle.st_world_quiet.proofs.Hops.{calm_still, earlier_lawful, goes_back, goes_on, is_in_time}

time_falls : (hops : List Hop) (expiry : ℤ) → less_time hops expiry ≤ℤ expiry
time_falls [] expiry = omega (arith, ints)
time_falls (h ∷ others) expiry = let l = time_falls others (expiry -ℤ hop_time) in omega (arith, ints, l)

pub still_time : (hops : List Hop) (expiry now : ℤ) → int_le (less_time hops expiry) now ≡ false → int_le expiry now ≡ false
still_time hops expiry now late = let l = not_le_is (less_time hops expiry) now late in let f = time_falls hops expiry in is_not_le expiry now (omega (arith, ints, l, f))

-- an end gives this answer to a Prepare whatever expiry it comes with, in time
abbrev pub Gives : EndState → PreparePacket → (now : ℤ) → Received × EndState → Type 0
Gives f p now r = (expiry : ℤ) → is_expiry expiry ≡ true → int_le expiry now ≡ false → received f (prepare_text (record p { expiry = expiry })) now ≡ r

-- what crossed the hops and returned over them
pub record Comes (destination : List ℕ) (sent most left : ℕ) (hops : List Hop) (r : Received × EndState) (c : Crossed) : Type 0 where
  pub answer : c.answer ≡ r.0.bytes
  pub end : c.end ≡ r.1
  pub calm : AllByRecursion (IsCalm destination sent most left) c.hops
  pub count : length c.hops ≡ length hops

pub crosses : (destination : List ℕ) (sent most left after : ℕ) (hops : List Hop) (f : EndState) (p : PreparePacket) (now : ℤ) (text payload : List ℕ) (r : Received × EndState) → AllByRecursion (IsCalm destination sent most left) hops → IsPrepare p
    → HasRoom destination sent most left after p → pos 0 ≤ℤ now → int_le (less_time hops p.expiry) now ≡ false → Gives f p now r → answer_at r.0.bytes ≡ Ok (Fulfilled text payload) → fits text p.condition ≡ true
    → Comes destination (sent + 1) most after hops r (crossed hops f (prepare_text p) now)
unfolding crossed
crosses destination sent most left after [] f p now text payload r calm is room from late gives reads fitting =
    let same = gives p.expiry is.expiry late in
    record { answer = ap (λ z. z.0.bytes) same; end = ap (λ z. z.1) same; calm = tt; count = refl }
crosses destination sent most left after (h ∷ others) f p now text payload r calm is room from late gives reads fitting =
    let early = still_time others (p.expiry -ℤ hop_time) now late in
    let c = crossed others f (prepare_text (earlier p)) now in
    let rest = crosses destination sent most left after others f (earlier p) now text payload r calm.1 (earlier_lawful p now is from early)
    (record { there = room.there; small = room.small; spends = room.spends; numbers = room.numbers }) from late gives reads fitting in
    let goes = goes_on destination sent most left after h p now calm.0 is room early in
    let went = ap (over_one (λ bytes. crossed others f bytes now) others f now) goes in
    let back = goes_back (holding h (ticket_of h p)) (ticket_of h p) c.answer text payload now (ap answer_at rest.answer ∙ reads) fitting (is_in_time (p.expiry -ℤ hop_time) now early) in
    let all : over_one (λ bytes. crossed others f bytes now) others f now (arrived h 0 (prepare_text p) now) ≡ record { answer = c.answer; hops = after_one h p ∷ c.hops; end = c.end } =
    went ∙ ap (λ s. record { answer = s.0; hops = s.1 ∷ c.hops; end = c.end }) back in
    record {
      answer = ap (λ z. z.answer) all ∙ rest.answer;
      end = ap (λ z. z.end) all ∙ rest.end;
      calm = subst (λ z. AllByRecursion (IsCalm destination (sent + 1) most after) z.hops) (sym all) (calm_still destination sent most left after h p calm.0 room.spends, rest.calm);
      count = ap (λ z. length z.hops) all ∙ (let n = rest.count in omega (arith, n));
    }
