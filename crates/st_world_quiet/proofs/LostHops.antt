-- What a Prepare leaves of calm hops that is lost on its way, or whose answer is: they are calm again.
use Rattle.std.proofs.Common.{◌≡◌, ℕ, zero, suc, ◌+◌, ◌≤◌, false, true, List, [], ◌∷◌, sym, ap, subst, ◌∙◌, arith, ℤ, Ok}
use Rattle.std.specs.Prelude.{int_le, pos, ◌-ℤ◌, ◌≤ℤ◌}
use Rattle.std.specs.List.{AllByRecursion}
use Rattle.st_ilp.specs.Packets.{Fulfilled, PreparePacket}
use Rattle.st_ilp.specs.Spelling.{prepare_text}
use Rattle.st_ilp.specs.Reading.{answer_at}
use Rattle.st_ilp.specs.Laws.{IsPrepare}
use Rattle.st_hop.specs.Hop.{Hop, holding}
use Rattle.st_hop.specs.Arriving.{hop_time}
use Rattle.st_hop.specs.Settling.{fits}
use Rattle.st_end.specs.State.{EndState}
use Rattle.st_end.specs.Receiving.{Received}
use Rattle.st_world_quiet.specs.Crossing.{less_time}
use Rattle.st_world_quiet.specs.Calm.{HasRoom, IsCalm, earlier, ticket_of}
use Rattle.st_world_quiet.specs.LostCrossings.{Beyond, faulted, lost_one, lost_past, unanswered_one, unanswered_past}
use Rattle.st_world_quiet.proofs.Hops.{earlier_lawful, goes_on, spent}
use Rattle.st_world_quiet.proofs.Chains.{Gives, crosses, still_time}

-- ---- a calm hop

pub calm_later : (destination : List ℕ) (sent now most left after : ℕ) (h : Hop) → sent ≤ now → after ≤ left → IsCalm destination sent most left h → IsCalm destination now most after h
calm_later destination sent now most left after h s l calm = record {
  alone = calm.alone;
  leads = calm.leads;
  claims_kept = calm.claims_kept;
  dues_kept = calm.dues_kept;
  numbers = (let a = calm.numbers in omega (arith, a, s));
  max_packet = calm.max_packet;
  limit = (let a = calm.limit in omega (arith, a, l));
  claimed = (let a = calm.claimed in omega (arith, a, l));
  due = (let a = calm.due in omega (arith, a, l));
}

pub all_calm_later : (destination : List ℕ) (sent now most left after : ℕ) (hops : List Hop) → sent ≤ now → after ≤ left → AllByRecursion (IsCalm destination sent most left) hops → AllByRecursion (IsCalm destination now most after) hops
all_calm_later destination sent now most left after [] s l calm = tt
all_calm_later destination sent now most left after (h ∷ hops) s l calm = (calm_later destination sent now most left after h s l calm.0, all_calm_later destination sent now most left after hops s l calm.1)

-- a fault books nothing
calm_faulted : (destination : List ℕ) (sent most left : ℕ) (h : Hop) (p : PreparePacket) (now : ℤ) → IsCalm destination sent most left h → IsCalm destination (sent + 1) most left (faulted (holding h (ticket_of h p)) (ticket_of h p) now)
calm_faulted destination sent most left h p now calm = record {
  alone = spent h.tickets (ticket_of h p) calm.alone;
  leads = record { way = calm.leads.way; route = calm.leads.route; account = calm.leads.account; rate = calm.leads.rate };
  claims_kept = calm.claims_kept;
  dues_kept = calm.dues_kept;
  numbers = (let a = calm.numbers in omega (arith, a));
  max_packet = calm.max_packet;
  limit = calm.limit;
  claimed = calm.claimed;
  due = calm.due;
}

-- ---- a chain of them

pub lost_calm : (destination : List ℕ) (sent most left after past : ℕ) (hops : List Hop) (p : PreparePacket) (now : ℤ) → AllByRecursion (IsCalm destination sent most left) hops → IsPrepare p → HasRoom destination sent most left after p → pos 0 ≤ℤ now
    → int_le (less_time hops p.expiry) now ≡ false → AllByRecursion (IsCalm destination (sent + 1) most left) (lost_past past hops (prepare_text p) now)
unfolding lost_past
lost_calm destination sent most left after zero hops p now calm is room from late = all_calm_later destination sent (sent + 1) most left left hops (omega arith) (omega arith) calm
lost_calm destination sent most left after (suc m) [] p now calm is room from late = tt
lost_calm destination sent most left after (suc m) (h ∷ others) p now calm is room from late =
    let early = still_time others (p.expiry -ℤ hop_time) now late in
    let rest = lost_calm destination sent most left after m others (earlier p) now calm.1 (earlier_lawful p now is from early) (record { there = room.there; small = room.small; spends = room.spends; numbers = room.numbers }) from late in
    let went = ap (lost_one (λ text. lost_past m others text now) others now) (goes_on destination sent most left after h p now calm.0 is room early) in
    subst (AllByRecursion (IsCalm destination (sent + 1) most left)) (sym went) (calm_faulted destination sent most left h p now calm.0, rest)

-- the far end is as it is once the Prepare arrived there
pub record Strands (destination : List ℕ) (sent most left : ℕ) (r : Received × EndState) (c : Beyond) : Type 0 where
  pub end : c.end ≡ r.1
  pub calm : AllByRecursion (IsCalm destination sent most left) c.hops

pub strands : (destination : List ℕ) (sent most left after past : ℕ) (hops : List Hop) (f : EndState) (p : PreparePacket) (now : ℤ) (text payload : List ℕ) (r : Received × EndState) → AllByRecursion (IsCalm destination sent most left) hops → IsPrepare p
    → HasRoom destination sent most left after p → pos 0 ≤ℤ now → int_le (less_time hops p.expiry) now ≡ false → Gives f p now r → answer_at r.0.bytes ≡ Ok (Fulfilled text payload) → fits text p.condition ≡ true
    → Strands destination (sent + 1) most after r (unanswered_past past hops f (prepare_text p) now)
unfolding unanswered_past
strands destination sent most left after zero hops f p now text payload r calm is room from late gives reads fitting =
    let c = crosses destination sent most left after hops f p now text payload r calm is room from late gives reads fitting in record { end = c.end; calm = c.calm }
strands destination sent most left after (suc m) [] f p now text payload r calm is room from late gives reads fitting =
    let c = crosses destination sent most left after [] f p now text payload r calm is room from late gives reads fitting in record { end = c.end; calm = c.calm }
strands destination sent most left after (suc m) (h ∷ others) f p now text payload r calm is room from late gives reads fitting =
    let early = still_time others (p.expiry -ℤ hop_time) now late in
    let rest = strands destination sent most left after m others f (earlier p) now text payload r calm.1 (earlier_lawful p now is from early)
    (record { there = room.there; small = room.small; spends = room.spends; numbers = room.numbers }) from late gives reads fitting in
    let went = ap (unanswered_one (λ bytes. unanswered_past m others f bytes now) others f now) (goes_on destination sent most left after h p now calm.0 is room early) in
    let less : after ≤ left = (let s = room.spends in omega (arith, s)) in
    record {
      end = ap (λ (z : Beyond). z.end) went ∙ rest.end;
      calm = subst (λ (z : Beyond). AllByRecursion (IsCalm destination (sent + 1) most after) z.hops) (sym went)
          (calm_later destination (sent + 1) (sent + 1) most left after _ (omega arith) less (calm_faulted destination sent most left h p now calm.0), rest.calm);
    }
