-- What each event of a play leaves.
use Rattle.std.proofs.Common.{◌≡◌, ℕ, ◌+◌, ◌-◌, ◌*◌, ◌<◌, ◌≤◌, true, Bool, List, [], ◌∷◌, ◌++◌, length, take, drop, refl, sym, ap, subst, ◌∙◌, inl, inr, arith, length-append, Option, Some, None, Ok, Err, is_ok}
use Rattle.std.specs.Prelude.{MatchBool}
use Rattle.std.specs.Ordering.{nat_cmp}
use Rattle.std.specs.FinMap as fmap
use Rattle.std.proofs.lemmas.Bool.{cases_eq}
use Rattle.std.proofs.lemmas.List.Elements.{All-nil, All-push}
use Rattle.ilpstream_settings.specs.declared.settings.LocalSettings.{LocalSettings}
use Rattle.st_end.specs.Calls.{Answer}
use Rattle.st_world_parts.specs.Sides.{Client, Both, at}
use Rattle.st_world_parts.specs.StreamLogs.{StreamLog, ledger_or}
use Rattle.st_world_parts.specs.State.{World}
use Rattle.st_world_parts.specs.Events.{Event, Write, Told, Call}
use Rattle.st_world.specs.Steps.{Happens}
use Rattle.st_world.specs.Runs.{Chain, opening}
use Rattle.st_world.specs.Holds.{Holds}
use Rattle.st_world.specs.Left.{Left, left_of}
use Rattle.st_world.proofs.Reached.{run_more}
use Rattle.ilpstream_local.specs.Parts.{part_at, sent_of, stream_at}
use Rattle.ilpstream_local.specs.Playing.{Continues, Fits, HasSent, IsAllRead, Played, Plays, Sends, Writes, local_chain, read_on, written_on}
use Rattle.ilpstream_local.proofs.Asides.{write_called}
use Rattle.ilpstream_local.proofs.Cuts.{all_sent, nothing_sent, sent_apart, sent_more}

-- if nothing has happened nothing is written
pub opened_blank : (c : Chain) (w : World) (k : ℕ) → w ≡ opening c → written_on w k ≡ []
opened_blank c w k is =
    let none : fmap.get {X = StreamLog} {R = nat_cmp} fmap.empty k ≡ None = fmap.get-empty nat_cmp k in
    ap (λ (x : World). written_on x k) is ∙ ap (λ (o : Option StreamLog). (ledger_or o).written) none

-- no event yet
pub plays_none : (asked : LocalSettings) (w : World) → w ≡ opening (local_chain asked.hops) → Plays asked 0 w
plays_none asked w is = record { list = []; count = refl; losses = All-nil (Fits asked.lose); run = is }

-- one event more
pub plays_next : (asked : LocalSettings) (n : ℕ) (w v : World) (event : Event) (told : Told) → Plays asked n w → Fits asked.lose event → Happens w event told v → Plays asked (n + 1) v
plays_next asked n w v event told p fits next = record {
  list = p.list ++ event ∷ [];
  count = length-append p.list (event ∷ []) ∙ omega (arith, p.count);
  losses = All-push (Fits asked.lose) p.list event p.losses fits;
  run = run_more p.list (opening (local_chain asked.hops)) w event told v p.run next;
}

-- the law of every run, if the reader of a stream has read its end
pub ended_whole : (t : Left) (w : World) (k : ℕ) (l : StreamLog) (told : Bool) → t ≡ left_of w → Holds w → fmap.get (at t.ledgers Client) k ≡ Some l → told ≡ l.saw_end → told ≡ true → read_on w k ≡ written_on w k
ended_whole t w k l told is holds found same ended =
    let kept : t.ledgers ≡ w.ledgers = ap (λ (x : Left). x.ledgers) is in
    let end : (ledger_or (fmap.get t.ledgers.client k)).saw_end ≡ true = ap (λ (o : Option StreamLog). (ledger_or o).saw_end) found ∙ (sym same ∙ ended) in
    (holds.ends_are_complete Client k (subst (λ (m : Both (fmap.FinMap nat_cmp StreamLog)). (ledger_or (fmap.get m.client k)).saw_end ≡ true) kept end)).1

-- a write at the client was accepted, or changed nothing
pub writes_called : (p q : Played) (k : ℕ) (xs : List ℕ) (a : Answer) → q.asked ≡ p.asked → q.events ≡ p.events + 1 → Happens p.world (Write Client k xs) (Call a) q.world → MatchBool (is_ok a) (Writes k xs p q) (Continues p q)
writes_called p q k xs (Ok done) asked one h = let w = write_called p.world q.world k xs (Ok done) h in record { asked = asked; events = omega (arith, one); here = w.0; apart = w.1 }
writes_called p q k xs (Err why) asked one h = record { asked = asked; events = omega (arith, one); written = write_called p.world q.world k xs (Err why) h }

pub continues_then : (p q r : Played) → Continues p q → Continues q r → Continues p r
continues_then p q r a b = record { asked = b.asked ∙ a.asked; events = omega (arith, a.events, b.events); written = λ k. b.written k ∙ a.written k }

-- ---- what of the input is written

pub has_none : (size : ℕ) (input : List ℕ) (p q : Played) → ((k : ℕ) → written_on p.world k ≡ []) → Continues p q → HasSent size input 0 q.world
has_none size input p q blank c = record {
  parts = λ place. c.written (stream_at place) ∙ (blank (stream_at place) ∙ sym (nothing_sent size input place));
  apart = λ k none. c.written k ∙ blank k;
}

-- a chunk of one part, which leaves each other part
part_sent : (size : ℕ) (input : List ℕ) (sent to place other : ℕ) (piece : List ℕ) (p q : Played) → place * size ≤ sent → sent ≤ to → to ≤ place * size + size → piece ≡ take (to - sent) (drop sent input)
    → Writes (stream_at place) piece p q → HasSent size input sent p.world → written_on q.world (stream_at other) ≡ sent_of size input to other
part_sent size input sent to place other piece p q from up within is wrote had = elim (cases_eq other place) [
  | inl same ↦ subst (λ (i : ℕ). written_on q.world (stream_at i) ≡ sent_of size input to i) (sym same)
      (wrote.here ∙ (ap (λ xs. xs ++ piece) (had.parts place) ∙ (ap (λ xs. sent_of size input sent place ++ xs) is ∙ sym (sent_more size input sent to place from up within))))
  | inr apart ↦ wrote.apart (stream_at other) (λ e. apart (omega (arith, e))) ∙ (had.parts other ∙ sym (sent_apart size input sent to place other from up within apart))
]

pub sends_piece : (size : ℕ) (input : List ℕ) (sent to place : ℕ) (piece : List ℕ) (p q : Played) → place * size ≤ sent → sent ≤ to → to ≤ place * size + size → piece ≡ take (to - sent) (drop sent input)
    → Writes (stream_at place) piece p q → Sends size input sent to p q
sends_piece size input sent to place piece p q from up within is wrote = record {
  asked = wrote.asked;
  events = wrote.events;
  sent = λ had. record {
    parts = λ other. part_sent size input sent to place other piece p q from up within is wrote had;
    apart = λ k none. wrote.apart k (none place) ∙ had.apart k none;
  };
}

-- events by which nothing is written
pub sends_none : (size : ℕ) (input : List ℕ) (sent : ℕ) (p q : Played) → Continues p q → Sends size input sent sent p q
sends_none size input sent p q c = record {
  asked = c.asked;
  events = c.events;
  sent = λ had. record { parts = λ place. c.written (stream_at place) ∙ had.parts place; apart = λ k none. c.written k ∙ had.apart k none };
}

pub sends_then : (size : ℕ) (input : List ℕ) (a b c : ℕ) (p q r : Played) → Sends size input a b p q → Sends size input b c q r → Sends size input a c p r
sends_then size input a b c p q r s t = record { asked = t.asked ∙ s.asked; events = omega (arith, s.events, t.events); sent = λ had. t.sent (s.sent had) }

pub sends_on : (size : ℕ) (input : List ℕ) (a b : ℕ) (p q r : Played) → Sends size input a b p q → Continues q r → Sends size input a b p r
sends_on size input a b p q r s c = sends_then size input a b b p q r s (sends_none size input b q r c)

-- all of it, and read
pub parts_read : (size streams : ℕ) (input : List ℕ) (sent : ℕ) (w : World) → sent ≡ length input → HasSent size input sent w → IsAllRead streams w
    → (place : ℕ) → place < streams → read_on w (stream_at place) ≡ part_at size input place
parts_read size streams input sent w all had read =
    λ place l. read place l ∙ (had.parts place ∙ (ap (λ n. sent_of size input n place) all ∙ all_sent size input place))
