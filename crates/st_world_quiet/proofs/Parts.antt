-- The parts of a round and of an opening, by the calls that play them.
use Rattle.std.proofs.Common.{◌≡◌, ◌≢◌, ℕ, suc, ◌+◌, ◌-◌, true, false, List, [], ◌∷◌, length, take, drop, refl, sym, ap, subst, ◌∙◌, arith, ℤ, pos, nat_eq, Ok}
use Rattle.std.proofs.lemmas.Bool.Decides.{nat_tests}
use Rattle.st_world_parts.specs.Sides.{Client}
use Rattle.st_world_parts.specs.State.{World, log_at}
use Rattle.st_world_parts.specs.StreamLogs.{StreamLog}
use Rattle.st_world_parts.specs.Events.{Close, Offer, OpenStream, Opened, Send, Sent, Write}
use Rattle.st_world.specs.Steps.{Step}
use Rattle.st_world_quiet.specs.Worlds.{Met, passing}
use Rattle.st_world_quiet.specs.HopRounds.{Begins, Writes, close_if, fits, reads, writes}
use Rattle.st_world_quiet.specs.Playing.{Continues, GoesOn, Sends, WritesAll, iv_of, read_limit}
use Rattle.st_world_quiet.proofs.Joins.{met_join}
use Rattle.st_world_quiet.proofs.PlayedRuns.{met_on}

-- ---- writes

fits_are : (xs : List ℕ) (l : StreamLog) (written read : ℕ) (piece : List ℕ) → written ≡ length l.written → read ≡ length l.read → piece ≡ take (read + 262144 - written) (drop written xs) → piece ≡ fits xs l
fits_are xs l written read piece wrote had is = is ∙ (rw (wrote, had) refl)

pub wrote_part : (xs : List ℕ) (k : ℕ) (w v : World) (written read : ℕ) (piece : List ℕ) → let l = log_at w Client k in
    written ≡ length l.written → read ≡ length l.read → piece ≡ take (read + 262144 - written) (drop written xs) → written + length piece ≢ length xs → Met w (Write Client k piece ∷ []) v → Met w (writes xs k l) v
wrote_part xs k w v written read piece wrote had is apart one =
    let l = log_at w Client k in
    let same : piece ≡ fits xs l = fits_are xs l written read piece wrote had is in
    let long : length piece ≡ length (fits xs l) = ap length same in
    let no : nat_eq (length l.written + length (fits xs l)) (length xs) ≡ false = unequal _ _ (λ e. apart (omega (arith, e, long, wrote))) in
    subst (λ b. Met w (Write Client k (fits xs l) ∷ close_if b k) v) (sym no) (subst (λ ys. Met w (Write Client k ys ∷ []) v) same one)
  where
    unequal : (n m : ℕ) → n ≢ m → nat_eq n m ≡ false
    unequal n m apart = grind (arith, nat_tests)

pub wrote_all : (xs : List ℕ) (k : ℕ) (w a v : World) (written read : ℕ) (piece : List ℕ) → let l = log_at w Client k in
    written ≡ length l.written → read ≡ length l.read → piece ≡ take (read + 262144 - written) (drop written xs) → written + length piece ≡ length xs → Met w (Write Client k piece ∷ []) a → Met a (Close Client k ∷ []) v → Met w (writes xs k l) v
wrote_all xs k w a v written read piece wrote had is at one close =
    let l = log_at w Client k in
    let same : piece ≡ fits xs l = fits_are xs l written read piece wrote had is in
    let long : length piece ≡ length (fits xs l) = ap length same in
    let yes : nat_eq (length l.written + length (fits xs l)) (length xs) ≡ true = equal _ _ (let e : length l.written + length (fits xs l) ≡ length xs = omega (arith, at, long, wrote) in e) in
    let both : Met w (Write Client k piece ∷ Close Client k ∷ []) v = met_join (Write Client k piece ∷ []) (Close Client k ∷ []) w a v one close in
    subst (λ b. Met w (Write Client k (fits xs l) ∷ close_if b k) v) (sym yes) (subst (λ ys. Met w (Write Client k ys ∷ Close Client k ∷ []) v) same both)
  where
    equal : (n m : ℕ) → n ≡ m → nat_eq n m ≡ true
    equal n m at = grind (arith, nat_tests)

pub writes_all : (input : ℕ → List ℕ) (k : ℕ) (w v : World) → k ≡ 65 → Writes input 0 k w v → WritesAll input w v
unfolding WritesAll
writes_all input k w v all run = subst (λ n. Writes input 0 n w v) all run

pub writes_each : (input : ℕ → List ℕ) (w v : World) → WritesAll input w v → Writes input 0 65 w v
unfolding WritesAll
writes_each input w v run = run

-- ---- the opening

pub open_on : (k : ℕ) (w a : World) → Step w (OpenStream Client) (Opened (Ok k)) a → Continues w a
open_on k w a opens = met_on (OpenStream Client ∷ []) w a (a, Opened (Ok k), tt, opens, refl)

pub begins_by : (input : ℕ → List ℕ) (money : ℕ → ℕ) (k amount : ℕ) (bytes : List ℕ) (w a b v : World) → amount ≡ money k → bytes ≡ input k → Step w (OpenStream Client) (Opened (Ok k)) a → Met a (Offer Client k amount ∷ []) b
    → Met b (writes bytes k (log_at b Client k)) v → Begins input money w v
begins_by input money k amount bytes w a b v paid given opens offers wrote = record {
  stream = k;
  opened = a;
  offered = b;
  opens = opens;
  offers = subst (λ n. Met a (Offer Client k n ∷ []) b) paid offers;
  writes_first = subst (λ ys. Met b (writes ys k (log_at b Client k)) v) given wrote;
}

-- ---- a round

pub goes_on : (input : ℕ → List ℕ) (hops before number which : ℕ) (now : ℤ) (w a b c v : World) → number ≡ before + 1 → which ≡ number → now ≡ pos 0 → Sends number now w a → Met a (passing hops which now) b → Met b (reads read_limit 0 65) c → WritesAll input c v → GoesOn input hops before number w v
goes_on input hops before number which now w a b c v next same start sends passes reads_run writes_run =
    let counts : number ≡ suc before = omega (arith, next) in
    let first : which ≡ suc before = omega (arith, next, same) in
    record {
      counted = counts;
      round = record {
        round = record {
          iv = iv_of number;
          now = now;
          sent = a;
          passed = b;
          read = c;
          lawful = sends.lawful;
          goes = sends.goes;
          passes = subst (λ n. Met a (passing hops n now) b) first passes;
          reads_each = reads_run;
          writes_each = writes_each input c v writes_run;
        };
        numbered = ap iv_of counts;
        at_start = start;
      };
    }

pub sends_on : (number : ℕ) (now : ℤ) (w a : World) → Sends number now w a → Continues w a
sends_on number now w a s = met_on (Send Client (iv_of number) now ∷ []) w a (a, Sent, s.lawful, s.goes, refl)
