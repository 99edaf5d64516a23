-- A played run is a lossless run, so it has the same bound, and delivers the same.
use Rattle.std.proofs.Common.{◌≡◌, ℕ, ◌+◌, ◌-◌, ◌*◌, ◌/◌, ◌^◌, ◌<◌, ◌≤◌, true, ◌&&◌, List, [], length, is_ok, max, sum, refl, sym, ap, subst, ◌∙◌, arith, nat_eq, nat_le}
use Rattle.std.specs.List.{AllByRecursion}
use Rattle.std.proofs.lemmas.Bool.{and_parts}
use Rattle.std.proofs.lemmas.Bool.Decides.{nat_tests}
use Rattle.st_keys.specs.Keys.{keys_of}
use Rattle.st_sender.specs.Sending.{Sending}
use Rattle.st_end.specs.declared.role.Role.TheVariants as roles
use Rattle.st_end.specs.State.{EndState}
use Rattle.st_end.specs.Calls.{open_stream}
use Rattle.st_end.specs.Sending.{GoesNone}
use Rattle.st_world_parts.specs.Sides.{Client, Server}
use Rattle.st_world_parts.specs.State.{World, end_at, direction_at}
use Rattle.st_world.specs.Runs.{Chain, opening}
use Rattle.st_world_quiet.specs.Left.{all_money_left, bound, prepares_left, work_left}
use Rattle.st_world_quiet.specs.Exchanges.{IsModest}
use Rattle.st_world_quiet.specs.Calls.{lengths}
use Rattle.st_world_quiet.proofs.Beginning.{IsBegun, calls_begun}
use Rattle.st_world_quiet.specs.Worlds.{Met}
use Rattle.st_world_quiet.specs.HopRounds.{BeginsEach, HasRoomFor, MayRun, QuietRun, all_of, allows, opening_client, reads}
use Rattle.st_world_quiet.specs.Plays.{IsDelivered, MayPlay, are_lawful, input_of, money_of, most_sends, prepares_for, sends_needed}
use Rattle.st_world_quiet.proofs.Streams.{all_amounts, all_streams, at_odd}
use Rattle.st_world_quiet.proofs.Opened.{OpenTo}
use Rattle.st_world_quiet.proofs.Begun.{all_frames_most, closes_most, money_is, opens_all, opens_here, opens_most}
use Rattle.st_world_quiet.proofs.HopTelling.{TellsEnd, reads_leave, reads_leave_links}
use Rattle.st_world_quiet.proofs.WorldRuns.{begun_rests, run_credits, run_delivers, run_ends, run_is_bounded, run_money, run_opens, run_puts, run_reads_whole, run_sharper}

pub record Counts (xs : List (List ℕ)) (ms : List ℕ) : Type 0 where
  pub as_many : length ms ≡ length xs
  pub some : 1 ≤ length xs
  pub few : length xs ≤ 32

counts_of : (n m : ℕ) → (nat_eq n m && nat_le 1 n && nat_le n 32) ≡ true → (m ≡ n) × (1 ≤ n) × (n ≤ 32)
counts_of n m e =
    let most = and_parts (nat_eq n m && nat_le 1 n) (nat_le n 32) e in
    let rest = and_parts (nat_eq n m) (nat_le 1 n) most.0 in
    let a : nat_eq n m ≡ true = rest.0 in
    let b : nat_le 1 n ≡ true = rest.1 in
    let c : nat_le n 32 ≡ true = most.1 in
    (grind (arith, nat_tests), grind (arith, nat_tests), grind (arith, nat_tests))

pub counted : (xs : List (List ℕ)) (ms : List ℕ) → are_lawful xs ms ≡ true → Counts xs ms
counted xs ms e = let all = counts_of (length xs) (length ms) e in record { as_many = all.0; some = all.1; few = all.2 }

module _ (c : Chain) (xs : List (List ℕ)) (ms : List ℕ) (lawful : are_lawful xs ms ≡ true) (may : MayPlay c xs ms) where
  counts : Counts xs ms
  counts = counted xs ms lawful

  abbrev first : EndState
  first = opening_client c (input_of xs) (money_of ms) (length xs)

  pub modest : IsModest (lengths (input_of xs))
  modest = let all = all_streams length xs [] refl counts.few in let few = may.input_fits in subst (λ n. n < 2 ^ 63) (sym all) few

  all_offered : all_of (money_of ms) ≡ sum ms
  all_offered = all_amounts ms (let few = counts.few in let many = counts.as_many in omega (arith, few, many))

  modest_money : IsModest (money_of ms)
  modest_money = subst (λ n. n < 2 ^ 63) (sym all_offered) may.money_fits

  begun_is : IsBegun 1 (lengths (input_of xs)) (money_of ms) c.config first
  begun_is = calls_begun roles.Client (keys_of c.secret) c.client c.server c.config (input_of xs) (money_of ms) (length xs) modest modest_money

  opened : OpenTo (length xs) first
  opened = opens_all (keys_of c.secret) c.client c.server c.config (input_of xs) (money_of ms) (length xs) counts.few modest modest_money

  pub offered_is : all_money_left first.sending ≡ sum ms
  offered_is = money_is xs ms c.config first counts.few counts.as_many begun_is opened

  prepares_are : prepares_left first.sending ≡ prepares_for c.config.packet_limit (sum ms)
  prepares_are = by first.sending.packet_limit c.config.packet_limit (all_money_left first.sending) (sum ms) (ap (λ (z : Sending). z.packet_limit) begun_is.rest) offered_is
    where
      by : (p q m n : ℕ) → p ≡ q → m ≡ n → (m + p - 1) / p ≡ (n + q - 1) / q
      by p q m n a b = rw (a, b) refl

  pub needed_most : work_left (lengths (input_of xs)) first.sending ≤ sends_needed c.config.packet_limit xs ms
  needed_most = most _ _ _ _ _ _ (all_frames_most xs ms c.config first counts.few counts.as_many begun_is opened) prepares_are (closes_most xs ms c.config first counts.few counts.as_many begun_is opened)
    where
      most : (a b c d e f : ℕ) → a ≤ b → c ≡ d → e ≤ f → max a c + e ≤ max b d + f
      most a b c d e f x y z = omega arith

  pub bound_most : bound (lengths (input_of xs)) first.sending ≤ most_sends c.config.packet_limit xs ms
  bound_most = most _ _ _ _ _ _ (all_frames_most xs ms c.config first counts.few counts.as_many begun_is opened) prepares_are (opens_most xs ms c.config first counts.few counts.as_many begun_is opened)
    where
      most : (a b c d e f : ℕ) → a ≤ b → c ≡ d → e ≤ f → a + c + 2 * e + 2 ≤ b + d + 2 * f + 2
      most a b c d e f x y z = omega arith

  pub may_run : (limit : ℕ) → 32739 ≤ limit → MayRun c (input_of xs) (money_of ms) (length xs) limit
  may_run limit room = record {
    may_send = may.may_send;
    input_fits = modest;
    money_fits = modest_money;
    few_hops = may.few_hops;
    room = subst (λ n. AllByRecursion (HasRoomFor c.server c.config.packet_limit n) c.hops) (sym all_offered) may.room;
    packets = below _ _ _ needed_most may.packets;
    reads = room;
  }
    where
      below : (a b d : ℕ) → a ≤ b → b < d → a < d
      below a b d l m = omega arith

  -- a stream opens if fewer than these are open
  pub played_opens : (opened : ℕ) (allowed begun : World) → Met (opening c) (allows (money_of ms) 0 65) allowed → BeginsEach (input_of xs) (money_of ms) opened allowed begun → opened < length xs → is_ok (open_stream (end_at begun Client)).0 ≡ true
  played_opens opened allowed begun allows_each begins_each fewer =
      let e = opening_client c (input_of xs) (money_of ms) opened in
      let rests = begun_rests c (input_of xs) (money_of ms) opened allowed begun may.may_send modest modest_money allows_each begins_each in
      let is = calls_begun roles.Client (keys_of c.secret) c.client c.server c.config (input_of xs) (money_of ms) opened modest modest_money in
      let low : opened < 32 = (let few = counts.few in omega (arith, few, fewer)) in
      ap (λ z. is_ok (open_stream z).0) rests.0.client ∙ ap is_ok (opens_here c.config (input_of xs) (money_of ms) opened e low is (opens_all (keys_of c.secret) c.client c.server c.config (input_of xs) (money_of ms) opened (omega (arith, low)) modest modest_money))

-- ---- a run of it

module _ (c : Chain) (xs : List (List ℕ)) (ms : List ℕ) (limit m : ℕ) (v : World) (lawful : are_lawful xs ms ≡ true) (may : MayPlay c xs ms) (room : 32739 ≤ limit) (run : QuietRun c (input_of xs) (money_of ms) (length xs) limit m v) where
  may_go : MayRun c (input_of xs) (money_of ms) (length xs) limit
  may_go = may_run c xs ms lawful may limit room

  pub played_bounded : m + 1 ≤ most_sends c.config.packet_limit xs ms
  played_bounded = within _ _ _ (run_is_bounded c (input_of xs) (money_of ms) (length xs) limit m v may_go run) (bound_most c xs ms lawful may)
    where
      within : (a b d : ℕ) → a ≤ b → b ≤ d → a ≤ d
      within a b d x y = omega arith

  pub played_sharper : m ≤ sends_needed c.config.packet_limit xs ms
  played_sharper = within _ _ _ _ (run_sharper c (input_of xs) (money_of ms) (length xs) limit m v may_go run) (needed_most c xs ms lawful may)
    where
      within : (a left b d : ℕ) → a + left ≤ b → b ≤ d → a ≤ d
      within a left b d x y = omega arith

  -- reads put nothing on a link
  pub played_sends : (w : World) → Met v (reads limit 0 65) w → length (direction_at w 0 Client).prepares ≡ m
  played_sends w each = ap (λ links. length (direction_at (record v { links = links }) 0 Client).prepares) (reads_leave_links limit 0 65 v w each) ∙ run_puts c (input_of xs) (money_of ms) (length xs) limit m v may_go run

  ends_at : GoesNone (end_at v Client) → (i : ℕ) → i < length xs → TellsEnd (2 * i + 1) v
  ends_at none i low most = let x = run_opens c (input_of xs) (money_of ms) (length xs) limit m v may_go run i low in run_ends c (input_of xs) (money_of ms) (length xs) limit m v may_go run (2 * i + 1) most x.0 none x.1

  pub played_delivers : (w : World) → GoesNone (end_at v Client) → Met v (reads limit 0 65) w → IsDelivered xs ms w
  played_delivers w none each i low =
      let k = 2 * i + 1 in
      let x = run_opens c (input_of xs) (money_of ms) (length xs) limit m v may_go run i low in
      let whole = run_reads_whole c (input_of xs) (money_of ms) (length xs) limit m v may_go run k x.0 none x.1 in
      let paid = (run_delivers c (input_of xs) (money_of ms) (length xs) limit m v may_go run k x.0 none x.1).1 ∙ run_money c (input_of xs) (money_of ms) (length xs) limit m v may_go run k x.0 x.1 in
      let few = (counted xs ms lawful).few in
      let left = reads_leave limit 0 65 v w k (omega (arith, room)) (ends_at none i low) each in
      record {
        written = left.0.written ∙ whole.1 ∙ at_odd xs [] i;
        read = left.0.read ∙ whole.0 ∙ at_odd xs [] i;
        saw_end = left.1 (omega arith) (omega (arith, few, low));
        credited = ap (λ y. y.credited) left.0.incoming ∙ paid ∙ at_odd ms 0 i;
      }

  pub played_credits : (w : World) → GoesNone (end_at v Client) → Met v (reads limit 0 65) w → (end_at w Server).receiving.credit ≡ sum ms
  played_credits w none each =
      let some = (counted xs ms lawful).some in
      let left = reads_leave limit 0 65 v w 1 (omega (arith, room)) (ends_at none 0 (omega (arith, some))) each in
      left.0.credit ∙ run_credits c (input_of xs) (money_of ms) (length xs) limit m v may_go run none ∙ offered_is c xs ms lawful may
