-- What follows from a run that is played to its end, from a world in which nothing has happened.
use Rattle.std.proofs.Common.{◌≡◌, ℕ, ◌+◌, ◌<◌, ◌≤◌, Bool, true, false, ◌&&◌, List, length, sym, ap, subst, ◌∙◌, arith, Result, Ok, Err, is_ok, nat_eq, nat_le}
use Rattle.std.specs.Prelude.{IfErr, OnOk}
use Rattle.std.proofs.lemmas.Bool.{and_parts}
use Rattle.std.proofs.lemmas.Bool.Decides.{nat_tests}
use Rattle.std.proofs.lemmas.List.{length-map}
use Rattle.st_end.specs.Calls.{open_stream}
use Rattle.st_world_parts.specs.Sides.{Client}
use Rattle.st_world_parts.specs.State.{World, end_at}
use Rattle.st_world.specs.Runs.{Chain, new_node, opening}
use Rattle.st_world.specs.Left.{Left, left_of}
use Rattle.st_world_quiet.specs.Worlds.{Met}
use Rattle.st_world_quiet.specs.HopRounds.{BeginsEach, QuietRun, Rounds, allows, reads}
use Rattle.st_world_quiet.specs.Plays.{MayPlay, are_lawful, input_of, money_of, most_sends, sends_needed}
use Rattle.st_world_quiet.proofs.Plays.{played_bounded, played_credits, played_delivers, played_opens, played_sends, played_sharper}
use Rattle.st_world_quiet.specs.declared.stop.Stop.{Stop}
use Rattle.st_world_quiet.specs.declared.stop.Stop.TheVariants.{NoMemory, Refused, NoStream, Endless}
use Rattle.st_world_quiet.specs.Playing.{Continues, IsEndless, IsEndlessAfter, IsPlayed, IsStuck, IsStuckAfter, NumberedRounds, SendsNone, Stops, read_limit}
use Rattle.st_world_quiet.specs.Promised.{Delivers, is_unrecorded}
use Rattle.st_world_quiet.proofs.Joins.{rounds_of}
use Rattle.st_world_quiet.proofs.PlayedRuns.{begins_on, met_on, rounds_on, then}

-- ---- the parts of a run

pub played_by : (input : ℕ → List ℕ) (money : ℕ → ℕ) (count hops nodes sends : ℕ) (w a b e v : World) → hops ≡ nodes → Met w (allows money 0 65) a → BeginsEach input money count a b → NumberedRounds input hops 0 sends b e → SendsNone e e → Met e (reads read_limit 0 65) v
    → IsPlayed input money count nodes sends w v
played_by input money count hops nodes sends w a b e v same allows_run begins rounds none reads_run = record {
  allowed = a;
  begun = b;
  ended = e;
  allows_each = allows_run;
  begins_each = begins;
  rounds = subst (λ n. NumberedRounds input n 0 sends b e) same rounds;
  none = none.none;
  reads_each = reads_run;
}

pub stuck_after : (input : ℕ → List ℕ) (money : ℕ → ℕ) (count : ℕ) (w a : World) → Met w (allows money 0 65) a → IsStuck input money count a → IsStuckAfter input money count w
stuck_after input money count w a allows_run stuck = record { allowed = a; allows_each = allows_run; stuck = stuck }

pub endless_after : (input : ℕ → List ℕ) (money : ℕ → ℕ) (count hops nodes most : ℕ) (w a b : World) → hops ≡ nodes → Met w (allows money 0 65) a → BeginsEach input money count a b → IsEndless input hops most b → IsEndlessAfter input money count nodes most w
endless_after input money count hops nodes most w a b same allows_run begins endless = record {
  allowed = a;
  begun = b;
  allows_each = allows_run;
  begins_each = begins;
  endless = subst (λ n. IsEndless input n most b) same endless;
}

pub played_on : (input : ℕ → List ℕ) (money : ℕ → ℕ) (count nodes sends : ℕ) (w v : World) → IsPlayed input money count nodes sends w v → Continues w v
played_on input money count nodes sends w v p =
    then w p.allowed v (met_on (allows money 0 65) w p.allowed p.allows_each)
    (then p.allowed p.begun v (begins_on input money count p.allowed p.begun p.begins_each)
    (then p.begun p.ended v (rounds_on input nodes 0 sends p.begun p.ended p.rounds) (met_on (reads read_limit 0 65) p.ended v p.reads_each)))

-- ---- how it ended

-- what is known of a run that was played
pub record Ends {X : Type 0} (input : ℕ → List ℕ) (money : ℕ → ℕ) (count nodes most sends : ℕ) (r : Result X Stop) (w v : World) : Type 0 where
  pub played : OnOk r (IsPlayed input money count nodes sends w v)
  pub stops : IfErr r (λ e. Stops (IsStuckAfter input money count w) (IsEndlessAfter input money count nodes most w) e w v)

pub ends_on : {X : Type 0} (input : ℕ → List ℕ) (money : ℕ → ℕ) (count nodes most sends : ℕ) (r : Result X Stop) (w v : World) → Ends input money count nodes most sends r w v → Continues w v
ends_on input money count nodes most sends (Ok x) w v e = played_on input money count nodes sends w v e.played
ends_on input money count nodes most sends (Err why) w v e = e.stops.goes_on

-- neither lack of memory nor anything else ended it
to_its_end : {X : Type 0} (input : ℕ → List ℕ) (money : ℕ → ℕ) (count nodes most sends : ℕ) (r : Result X Stop) (w v : World) → (IsStuckAfter input money count w → ⊥) → (IsEndlessAfter input money count nodes most w → ⊥) → is_unrecorded r ≡ false → v.refused ≡ false
    → Ends input money count nodes most sends r w v → IsPlayed input money count nodes sends w v
to_its_end input money count nodes most sends (Ok x) w v free short told calm e = e.played
to_its_end input money count nodes most sends (Err NoMemory) w v free short told calm e = absurd (let clash : ◌≡◌ {A = Bool} true false = told in cc)
to_its_end input money count nodes most sends (Err Refused) w v free short told calm e = absurd (let with_refusal : v.refused ≡ true = e.stops.why in let clash : ◌≡◌ {A = Bool} true false = sym with_refusal ∙ calm in cc)
to_its_end input money count nodes most sends (Err NoStream) w v free short told calm e = absurd (free e.stops.why)
to_its_end input money count nodes most sends (Err Endless) w v free short told calm e = absurd (short e.stops.why)

-- ---- from a world in which nothing has happened

few_of : (n m : ℕ) → (nat_eq n m && nat_le 1 n && nat_le n 32) ≡ true → n ≤ 32
few_of n m e = let all = and_parts (nat_eq n m && nat_le 1 n) (nat_le n 32) e in let c : nat_le n 32 ≡ true = all.1 in grind (arith, nat_tests)

pub lawful_few : (xs : List (List ℕ)) (ms : List ℕ) → are_lawful xs ms ≡ true → length xs ≤ 32
lawful_few xs ms e = few_of (length xs) (length ms) e

pub nodes_are : (c : Chain) (w : World) → w ≡ opening c → length w.nodes ≡ length c.hops
nodes_are c w first = ap (λ (z : World). length z.nodes) first ∙ length-map c.hops new_node

pub roomy : 32739 ≤ read_limit
roomy = omega arith

module _ (c : Chain) (xs : List (List ℕ)) (ms : List ℕ) (lawful : are_lawful xs ms ≡ true) (may : MayPlay c xs ms) (w : World) (first : w ≡ opening c) (count : ℕ) (counted : count ≡ length xs) where
  quiet_by : (sends : ℕ) (a b e : World) → Met w (allows (money_of ms) 0 65) a → BeginsEach (input_of xs) (money_of ms) count a b → NumberedRounds (input_of xs) (length w.nodes) 0 sends b e → QuietRun c (input_of xs) (money_of ms) (length xs) read_limit sends e
  quiet_by sends a b e allows_run begins rounds = record {
    allowed = a;
    begun = b;
    allows_each = subst (λ z. Met z (allows (money_of ms) 0 65) a) first allows_run;
    begins_each = subst (λ n. BeginsEach (input_of xs) (money_of ms) n a b) counted begins;
    rounds = subst (λ n. Rounds (input_of xs) read_limit n 0 sends b e) (nodes_are c w first) (rounds_of (input_of xs) (length w.nodes) 0 sends b e rounds);
  }

  free : IsStuckAfter (input_of xs) (money_of ms) count w → ⊥
  free s =
      let stuck = s.stuck in
      let opens : is_ok (open_stream (end_at stuck.begun Client)).0 ≡ true =
      played_opens c xs ms lawful may stuck.opened s.allowed stuck.begun (subst (λ z. Met z (allows (money_of ms) 0 65) s.allowed) first s.allows_each) stuck.begins_each (subst (λ n. stuck.opened < n) counted stuck.fewer) in
      let clash : ◌≡◌ {A = Bool} true false = sym opens ∙ stuck.none in absurd cc

  short : (most : ℕ) → sends_needed c.config.packet_limit xs ms < most → IsEndlessAfter (input_of xs) (money_of ms) count (length w.nodes) most w → ⊥
  short most fewer s =
      let ended = s.endless in
      let sharper = played_sharper c xs ms read_limit most ended.ended lawful may roomy (quiet_by most s.allowed s.begun ended.ended s.allows_each s.begins_each ended.rounds) in
      absurd (above _ _ sharper fewer)
    where
      above : (n m : ℕ) → m ≤ n → n < m → ⊥
      above n m a b = omega (arith, a, b)

  whole : {X : Type 0} (most sends : ℕ) (r : Result X Stop) (v : World) → sends_needed c.config.packet_limit xs ms < most → is_unrecorded r ≡ false → v.refused ≡ false → Ends (input_of xs) (money_of ms) count (length w.nodes) most sends r w v
      → IsPlayed (input_of xs) (money_of ms) count (length w.nodes) sends w v
  whole most sends r v fewer told calm e = to_its_end (input_of xs) (money_of ms) count (length w.nodes) most sends r w v free (short most fewer) told calm e

  calm_of : (t : Left) (v : World) → t ≡ left_of v → t.refused ≡ false → v.refused ≡ false
  calm_of t v is calm = sym (ap (λ (z : Left). z.refused) is) ∙ calm

  pub run_bounded : {X : Type 0} (most sends : ℕ) (r : Result X Stop) (v : World) (t : Left) → t ≡ left_of v → t.refused ≡ false → sends_needed c.config.packet_limit xs ms < most → is_unrecorded r ≡ false → Ends (input_of xs) (money_of ms) count (length w.nodes) most sends r w v
      → sends + 1 ≤ most_sends c.config.packet_limit xs ms
  run_bounded most sends r v t is calm fewer told e =
      let p = whole most sends r v fewer told (calm_of t v is calm) e in
      played_bounded c xs ms read_limit sends p.ended lawful may roomy (quiet_by sends p.allowed p.begun p.ended p.allows_each p.begins_each p.rounds)

  pub run_sharp : {X : Type 0} (most sends : ℕ) (r : Result X Stop) (v : World) (t : Left) → t ≡ left_of v → t.refused ≡ false → sends_needed c.config.packet_limit xs ms < most → is_unrecorded r ≡ false → Ends (input_of xs) (money_of ms) count (length w.nodes) most sends r w v
      → sends ≤ sends_needed c.config.packet_limit xs ms
  run_sharp most sends r v t is calm fewer told e =
      let p = whole most sends r v fewer told (calm_of t v is calm) e in
      played_sharper c xs ms read_limit sends p.ended lawful may roomy (quiet_by sends p.allowed p.begun p.ended p.allows_each p.begins_each p.rounds)

  pub run_delivers : {X : Type 0} (most sends : ℕ) (r : Result X Stop) (v : World) (t : Left) → t ≡ left_of v → t.refused ≡ false → sends_needed c.config.packet_limit xs ms < most → is_unrecorded r ≡ false → Ends (input_of xs) (money_of ms) count (length w.nodes) most sends r w v
      → Delivers xs ms w (record { trace = t; sends = sends })
  run_delivers most sends r v t is calm fewer told e =
      let p = whole most sends r v fewer told (calm_of t v is calm) e in
      let run = quiet_by sends p.allowed p.begun p.ended p.allows_each p.begins_each p.rounds in
      record {
        world = v;
        left = is;
        played = subst (λ n. IsPlayed (input_of xs) (money_of ms) n (length w.nodes) sends w v) counted p;
        delivered = played_delivers c xs ms read_limit sends p.ended lawful may roomy run v p.none p.reads_each;
        credit = played_credits c xs ms read_limit sends p.ended lawful may roomy run v p.none p.reads_each;
        sends = played_sends c xs ms read_limit sends p.ended lawful may roomy run v p.reads_each;
      }
