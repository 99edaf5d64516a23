-- What follows from a run that is played to its end by a list of fates, from a world in which nothing has happened.
use Rattle.std.proofs.Common.{◌≡◌, ℕ, ◌+◌, ◌<◌, ◌≤◌, ◌^◌, Bool, true, false, List, length, sym, ap, subst, ◌∙◌, arith, Result, Ok, Err, is_ok}
use Rattle.std.specs.Prelude.{IfErr, OnOk}
use Rattle.st_end.specs.Calls.{open_stream}
use Rattle.st_world_parts.specs.Sides.{Client}
use Rattle.st_world_parts.specs.State.{World, end_at}
use Rattle.st_world.specs.Runs.{Chain, opening}
use Rattle.st_world.specs.Left.{Left, left_of}
use Rattle.st_world_quiet.specs.Losses as losses
use Rattle.st_world_quiet.specs.Worlds.{Met}
use Rattle.st_world_quiet.specs.HopRounds.{BeginsEach, allows, reads}
use Rattle.st_world_quiet.specs.Plays.{input_of, money_of, most_sends, sends_needed}
use Rattle.st_world_quiet.specs.LostWorlds.{Course, LossyRun, MayPlayLossy, are_lawful_lossy, course_at}
use Rattle.st_world_quiet.proofs.LostPlays.{lawful_parts, lossy_stream_opens, played_lossy_bounded, played_lossy_credits, played_lossy_delivers, played_lossy_sends, played_lossy_sharper, played_lossy_small}
use Rattle.st_world_quiet.specs.declared.fate.Fate.{Fate}
use Rattle.st_world_quiet.specs.declared.stop.Stop.{Stop}
use Rattle.st_world_quiet.specs.declared.stop.Stop.TheVariants.{NoMemory, Refused, NoStream, Endless}
use Rattle.st_world_quiet.specs.Playing.{Continues, IsStuck, SendsNone, Stops, read_limit}
use Rattle.st_world_quiet.specs.Promised.{is_unrecorded}
use Rattle.st_world_quiet.specs.Fates.{DeliversFated, HasPlayed, IsEndlessAfterFated, IsEndlessFated, IsPlayedFated, IsStuckFated, NumberedFates, courses_of, kinds_of}
use Rattle.st_world_quiet.proofs.PlayedRuns.{begins_on, met_on, then}
use Rattle.st_world_quiet.proofs.Fates.{fates_carried, fates_on, fates_rounds}
use Rattle.st_world_quiet.proofs.Wholes.{nodes_are, roomy}

-- ---- the parts of a run

pub played_fated : (input : ℕ → List ℕ) (money most : ℕ → ℕ) (course : ℕ → Course) (count hops nodes sends told : ℕ) (w a b e v : World) → hops ≡ nodes → Met w (allows most 0 65) a → BeginsEach input money count a b → HasPlayed course hops sends told b e → SendsNone e e → Met e (reads read_limit 0 65) v
    → IsPlayedFated input money most course count nodes sends told w v
played_fated input money most course count hops nodes sends told w a b e v same allows_run begins played none reads_run = record {
  allowed = a;
  begun = b;
  ended = e;
  allows_each = allows_run;
  begins_each = begins;
  played = subst (λ n. HasPlayed course n sends told b e) same played;
  none = none.none;
  reads_each = reads_run;
}

pub stuck_fated : (input : ℕ → List ℕ) (money most : ℕ → ℕ) (count : ℕ) (w a : World) → Met w (allows most 0 65) a → IsStuck input money count a → IsStuckFated input money most count w
stuck_fated input money most count w a allows_run stuck = record { allowed = a; allows_each = allows_run; stuck = stuck }

pub endless_fated : (input : ℕ → List ℕ) (money most : ℕ → ℕ) (course : ℕ → Course) (count hops nodes sends : ℕ) (w a b : World) → hops ≡ nodes → Met w (allows most 0 65) a → BeginsEach input money count a b → IsEndlessFated course hops sends b → IsEndlessAfterFated input money most course count nodes sends w
endless_fated input money most course count hops nodes sends w a b same allows_run begins endless = record {
  allowed = a;
  begun = b;
  allows_each = allows_run;
  begins_each = begins;
  endless = subst (λ n. IsEndlessFated course n sends b) same endless;
}

pub played_fated_on : (input : ℕ → List ℕ) (money most : ℕ → ℕ) (course : ℕ → Course) (count nodes sends told : ℕ) (w v : World) → IsPlayedFated input money most course count nodes sends told w v → Continues w v
played_fated_on input money most course count nodes sends told w v p =
    then w p.allowed v (met_on (allows most 0 65) w p.allowed p.allows_each)
    (then p.allowed p.begun v (begins_on input money count p.allowed p.begun p.begins_each)
    (then p.begun p.ended v (fates_on course nodes 0 sends p.played.carried p.begun p.ended p.played.rounds) (met_on (reads read_limit 0 65) p.ended v p.reads_each)))

-- ---- how it ended

pub record EndsFated {X : Type 0} (input : ℕ → List ℕ) (money most : ℕ → ℕ) (course : ℕ → Course) (count nodes many sends told : ℕ) (r : Result X Stop) (w v : World) : Type 0 where
  pub played : OnOk r (IsPlayedFated input money most course count nodes sends told w v)
  pub stops : IfErr r (λ e. Stops (IsStuckFated input money most count w) (IsEndlessAfterFated input money most course count nodes many w) e w v)

pub ends_fated_on : {X : Type 0} (input : ℕ → List ℕ) (money most : ℕ → ℕ) (course : ℕ → Course) (count nodes many sends told : ℕ) (r : Result X Stop) (w v : World) → EndsFated input money most course count nodes many sends told r w v → Continues w v
ends_fated_on input money most course count nodes many sends told (Ok x) w v e = played_fated_on input money most course count nodes sends told w v e.played
ends_fated_on input money most course count nodes many sends told (Err why) w v e = e.stops.goes_on

to_its_end : {X : Type 0} (input : ℕ → List ℕ) (money most : ℕ → ℕ) (course : ℕ → Course) (count nodes many sends told : ℕ) (r : Result X Stop) (w v : World) → (IsStuckFated input money most count w → ⊥) → (IsEndlessAfterFated input money most course count nodes many w → ⊥) → is_unrecorded r ≡ false → v.refused ≡ false
    → EndsFated input money most course count nodes many sends told r w v → IsPlayedFated input money most course count nodes sends told w v
to_its_end input money most course count nodes many sends told (Ok x) w v free short recorded calm e = e.played
to_its_end input money most course count nodes many sends told (Err NoMemory) w v free short recorded calm e = absurd (let clash : ◌≡◌ {A = Bool} true false = recorded in cc)
to_its_end input money most course count nodes many sends told (Err Refused) w v free short recorded calm e = absurd (let with_refusal : v.refused ≡ true = e.stops.why in let clash : ◌≡◌ {A = Bool} true false = sym with_refusal ∙ calm in cc)
to_its_end input money most course count nodes many sends told (Err NoStream) w v free short recorded calm e = absurd (free e.stops.why)
to_its_end input money most course count nodes many sends told (Err Endless) w v free short recorded calm e = absurd (short e.stops.why)

-- ---- from a world in which nothing has happened

above : (n m : ℕ) → m ≤ n → n < m → ⊥
above n m a b = omega (arith, a, b)

module _ (c : Chain) (xs : List (List ℕ)) (ms rs : List ℕ) (fates : List Fate) (lawful : are_lawful_lossy xs ms rs ≡ true) (may : MayPlayLossy c xs ms rs (kinds_of fates)) (w : World) (first : w ≡ opening c) (count : ℕ) (counted : count ≡ length xs) where
  abbrev course : ℕ → Course
  course = course_at (courses_of fates)

  abbrev lossy_by : (sends carried : ℕ) (a b e : World) → Met w (allows (money_of rs) 0 65) a → BeginsEach (input_of xs) (money_of ms) count a b → NumberedFates course (length c.hops) 0 sends carried b e → LossyRun c (input_of xs) (money_of ms) (money_of rs) (length xs) read_limit course sends e
  lossy_by sends carried a b e allows_run begins rounds = record {
    allowed = a;
    begun = b;
    allows_each = subst (λ z. Met z (allows (money_of rs) 0 65) a) first allows_run;
    begins_each = subst (λ n. BeginsEach (input_of xs) (money_of ms) n a b) counted begins;
    rounds = fates_rounds course (length c.hops) 0 sends carried b e rounds;
  }

  over_chain : (sends carried : ℕ) (b e : World) → NumberedFates course (length w.nodes) 0 sends carried b e → NumberedFates course (length c.hops) 0 sends carried b e
  over_chain sends carried b e rounds = subst (λ n. NumberedFates course n 0 sends carried b e) (nodes_are c w first) rounds

  free : IsStuckFated (input_of xs) (money_of ms) (money_of rs) count w → ⊥
  free s =
      let stuck = s.stuck in
      let parts = lawful_parts xs ms rs lawful in
      let opens : is_ok (open_stream (end_at stuck.begun Client)).0 ≡ true =
      lossy_stream_opens c xs ms rs parts.0 parts.1 (kinds_of fates) may stuck.opened s.allowed stuck.begun (subst (λ z. Met z (allows (money_of rs) 0 65) s.allowed) first s.allows_each) stuck.begins_each (subst (λ n. stuck.opened < n) counted stuck.fewer) in
      let clash : ◌≡◌ {A = Bool} true false = sym opens ∙ stuck.none in absurd cc

  short : (many : ℕ) → sends_needed c.config.packet_limit xs ms + losses.losses (kinds_of fates) < many → IsEndlessAfterFated (input_of xs) (money_of ms) (money_of rs) course count (length w.nodes) many w → ⊥
  short many fewer s =
      let ended = s.endless in
      let parts = lawful_parts xs ms rs lawful in
      let run = lossy_by many ended.carried s.allowed s.begun ended.ended s.allows_each s.begins_each (over_chain many ended.carried s.begun ended.ended ended.rounds) in
      let sharper = played_lossy_sharper c xs ms rs (courses_of fates) read_limit many ended.ended parts.0 parts.1 may roomy run in
      absurd (above _ _ sharper fewer)

  whole : {X : Type 0} (many sends told : ℕ) (r : Result X Stop) (v : World) → sends_needed c.config.packet_limit xs ms + losses.losses (kinds_of fates) < many → is_unrecorded r ≡ false → v.refused ≡ false → EndsFated (input_of xs) (money_of ms) (money_of rs) course count (length w.nodes) many sends told r w v
      → IsPlayedFated (input_of xs) (money_of ms) (money_of rs) course count (length w.nodes) sends told w v
  whole many sends told r v fewer recorded calm e = to_its_end (input_of xs) (money_of ms) (money_of rs) course count (length w.nodes) many sends told r w v free (short many fewer) recorded calm e

  calm_of : (t : Left) (v : World) → t ≡ left_of v → t.refused ≡ false → v.refused ≡ false
  calm_of t v is calm = sym (ap (λ (z : Left). z.refused) is) ∙ calm

  pub fated_bounded : {X : Type 0} (many sends told : ℕ) (r : Result X Stop) (v : World) (t : Left) → t ≡ left_of v → t.refused ≡ false → sends_needed c.config.packet_limit xs ms + losses.losses (kinds_of fates) < many → is_unrecorded r ≡ false → EndsFated (input_of xs) (money_of ms) (money_of rs) course count (length w.nodes) many sends told r w v
      → sends + 1 ≤ most_sends c.config.packet_limit xs ms + losses.losses (kinds_of fates)
  fated_bounded many sends told r v t is calm fewer recorded e =
      let p = whole many sends told r v fewer recorded (calm_of t v is calm) e in
      let parts = lawful_parts xs ms rs lawful in
      played_lossy_bounded c xs ms rs (courses_of fates) read_limit sends p.ended parts.0 parts.1 may roomy (lossy_by sends p.played.carried p.allowed p.begun p.ended p.allows_each p.begins_each (over_chain sends p.played.carried p.begun p.ended p.played.rounds))

  pub fated_sharp : {X : Type 0} (many sends told : ℕ) (r : Result X Stop) (v : World) (t : Left) → t ≡ left_of v → t.refused ≡ false → sends_needed c.config.packet_limit xs ms + losses.losses (kinds_of fates) < many → is_unrecorded r ≡ false → EndsFated (input_of xs) (money_of ms) (money_of rs) course count (length w.nodes) many sends told r w v
      → sends ≤ sends_needed c.config.packet_limit xs ms + losses.losses (kinds_of fates)
  fated_sharp many sends told r v t is calm fewer recorded e =
      let p = whole many sends told r v fewer recorded (calm_of t v is calm) e in
      let parts = lawful_parts xs ms rs lawful in
      played_lossy_sharper c xs ms rs (courses_of fates) read_limit sends p.ended parts.0 parts.1 may roomy (lossy_by sends p.played.carried p.allowed p.begun p.ended p.allows_each p.begins_each (over_chain sends p.played.carried p.begun p.ended p.played.rounds))

  pub fated_delivers : {X : Type 0} (many sends told : ℕ) (r : Result X Stop) (v : World) (t : Left) → t ≡ left_of v → t.refused ≡ false → sends_needed c.config.packet_limit xs ms + losses.losses (kinds_of fates) < many → is_unrecorded r ≡ false → EndsFated (input_of xs) (money_of ms) (money_of rs) course count (length w.nodes) many sends told r w v
      → DeliversFated c.config.packet_limit xs ms rs fates w (record { trace = t; sends = sends; carried = told })
  fated_delivers many sends told r v t is calm fewer recorded e =
      let p = whole many sends told r v fewer recorded (calm_of t v is calm) e in
      let parts = lawful_parts xs ms rs lawful in
      let rounds = over_chain sends p.played.carried p.begun p.ended p.played.rounds in
      let run = lossy_by sends p.played.carried p.allowed p.begun p.ended p.allows_each p.begins_each rounds in
      let credits = played_lossy_credits c xs ms rs (courses_of fates) read_limit sends p.ended parts.0 parts.1 may roomy run v p.none p.reads_each in
      let small = played_lossy_small c xs ms rs (courses_of fates) read_limit sends p.ended parts.0 parts.1 may roomy run v p.none p.reads_each in
      let carried = fates_carried course (length c.hops) 0 sends p.played.carried p.begun p.ended rounds in
      record {
        world = v;
        left = is;
        played = subst (λ n. IsPlayedFated (input_of xs) (money_of ms) (money_of rs) course n (length w.nodes) sends told w v) counted p;
        delivered = played_lossy_delivers c xs ms rs (courses_of fates) read_limit sends p.ended parts.0 parts.1 may roomy run v p.none p.reads_each;
        credit = paid _ _ _ _ _ credits carried small p.played.is_told;
        sends = played_lossy_sends c xs ms rs (courses_of fates) read_limit sends p.ended parts.0 parts.1 may roomy run v p.reads_each;
      }
    where
      paid : (credit all by carried told : ℕ) → credit ≡ all + by → by ≡ carried → credit < 2 ^ 63 → (carried < 18446744073709551616 → told ≡ carried) → credit ≡ all + told
      paid credit all by carried told a b small is = let same = is (omega (arith, a, b, small)) in omega (arith, a, b, same)
