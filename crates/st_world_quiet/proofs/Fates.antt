-- The parts of a run that is played by a list of fates, by the calls that play them.
use Rattle.std.proofs.Common.{◌≡◌, ◌≢◌, ℕ, zero, suc, ◌+◌, ◌-◌, ◌^◌, ◌<◌, ◌≤◌, inl, inr, List, [], ◌∷◌, ◌++◌, map, sum, refl, sym, ap, subst, ◌∙◌, arith, ℤ, pos}
use Rattle.std.proofs.lemmas.List.Sums.{sum_by-cons}
use Rattle.std.proofs.lemmas.Bool.{cases_lt}
use Rattle.st_world_parts.specs.Sides.{Client, Server}
use Rattle.st_world_parts.specs.State.{World, end_at}
use Rattle.st_world_parts.specs.Events.{AnswerArrives, Arrive, Fault, Send, Sent}
use Rattle.st_world_quiet.specs.Losses as losses
use Rattle.st_world_quiet.specs.Worlds.{Met}
use Rattle.st_world_quiet.specs.HopRounds.{reads}
use Rattle.st_world_quiet.specs.LostWorlds as worlds
use Rattle.st_world_quiet.specs.LostWorlds.{Course, FatedRounds, carried_by, carried_in, following, gives_by, going_by, losing_by, puts_by, stranding_by}
use Rattle.st_world_quiet.specs.declared.fate.Fate.{Fate}
use Rattle.st_world_quiet.specs.declared.fate.Fate.TheVariants.{Delivered, PrepareLost, AnswerLost}
use Rattle.st_world_quiet.specs.Playing.{Continues, Sends, iv_of, read_limit}
use Rattle.st_world_quiet.specs.Fates.{GoesOnFated, HasPlayed, NumberedFate, NumberedFates, all_lost, carried_with, course_of, kinds_of, lost_by}
use Rattle.st_world_quiet.proofs.Joins.{met_join}
use Rattle.st_world_quiet.proofs.PlayedRuns.{met_on, still, then}

-- ---- a list of fates

lost_one : (f : Fate) (fs : List Fate) → losses.losses (kinds_of (f ∷ fs)) ≡ lost_by f + losses.losses (kinds_of fs)
lost_one Delivered fs = omega arith
lost_one (PrepareLost link) fs = omega arith
lost_one (AnswerLost link) fs = omega arith

pub lost_all : (fates : List Fate) → losses.losses (kinds_of fates) ≡ all_lost fates
lost_all [] = refl
lost_all (f ∷ fs) = let one = lost_one f fs in let rest = lost_all fs in let is : all_lost (f ∷ fs) ≡ lost_by f + all_lost fs = sum_by-cons (λ n. n) (lost_by f) (map lost_by fs) in omega (arith, one, rest, is)

pub carried_is : (fate : Fate) (course : Course) (w v : World) (told before after : ℕ) → course_of fate ≡ course → told ≡ carried_with fate before after → before ≡ (end_at w Server).receiving.credit → after ≡ (end_at v Server).receiving.credit → told ≡ carried_in course w v
carried_is fate course w v told before after same is a b = subst (λ c. told ≡ carried_in c w v) same (by fate is)
  where
    by : (fate : Fate) → told ≡ carried_with fate before after → told ≡ carried_in (course_of fate) w v
    by Delivered is = is
    by (PrepareLost link) is = is
    by (AnswerLost link) is = omega (arith, is, a, b)

-- ---- events

some_more : (n : ℕ) → n ≢ 0 → n ≡ suc (n - 1)
some_more n some = omega (arith, some)

next_is : (n : ℕ) → n + 1 ≡ suc n
next_is n = omega arith

pub going_last : (p g : ℕ → ℕ) (link hops which : ℕ) (now : ℤ) (w v : World) → hops ≡ 0 → which ≡ suc (p link) → Met w (Arrive link Client which now ∷ []) v → Met w (going_by p g link hops now) v
unfolding going_by
going_last p g link hops which now w v none is run = subst (λ n. Met w (going_by p g link n now) v) (sym none) (subst (λ k. Met w (Arrive link Client k now ∷ []) v) is run)

pub going_more : (p g : ℕ → ℕ) (link hops which place : ℕ) (now : ℤ) (w a b v : World) → hops ≢ 0 → which ≡ suc (p link) → place ≡ suc (g (link + 1)) → Met w (Arrive link Client which now ∷ []) a → Met a (going_by p g (link + 1) (hops - 1) now) b → Met b (AnswerArrives (link + 1) Client place now ∷ []) v
    → Met w (going_by p g link hops now) v
unfolding going_by
going_more p g link hops which place now w a b v some is there first rest last =
    let P : ℕ → Type 0 = λ l. Met w (Arrive link Client (suc (p link)) now ∷ going_by p g l (hops - 1) now ++ AnswerArrives l Client (suc (g l)) now ∷ []) v in
    let one : Met w (Arrive link Client (suc (p link)) now ∷ []) a = subst (λ k. Met w (Arrive link Client k now ∷ []) a) is first in
    let end : Met b (AnswerArrives (link + 1) Client (suc (g (link + 1))) now ∷ []) v = subst (λ k. Met b (AnswerArrives (link + 1) Client k now ∷ []) v) there last in
    let all : P (link + 1) = met_join (Arrive link Client (suc (p link)) now ∷ []) (going_by p g (link + 1) (hops - 1) now ++ AnswerArrives (link + 1) Client (suc (g (link + 1))) now ∷ []) w a v one
    (met_join (going_by p g (link + 1) (hops - 1) now) (AnswerArrives (link + 1) Client (suc (g (link + 1))) now ∷ []) a b v rest end) in
    subst (λ n. Met w (going_by p g link n now) v) (sym (some_more hops some)) (subst P (next_is link) all)

pub losing_none : (p : ℕ → ℕ) (link past hops : ℕ) (now : ℤ) (w : World) → past ≡ 0 → Met w (losing_by p link past hops now) w
unfolding losing_by
losing_none p link past hops now w none = subst (λ n. Met w (losing_by p link n hops now) w) (sym none) refl

pub losing_last : (p : ℕ → ℕ) (link past hops : ℕ) (now : ℤ) (w : World) → past ≢ 0 → hops ≡ 0 → Met w (losing_by p link past hops now) w
unfolding losing_by
losing_last p link past hops now w some none = subst (λ n. Met w (losing_by p link n hops now) w) (sym (some_more past some)) (subst (λ n. Met w (losing_by p link (suc (past - 1)) n now) w) (sym none) refl)

pub losing_more : (p : ℕ → ℕ) (link past hops which next : ℕ) (now : ℤ) (w a b v : World) → past ≢ 0 → hops ≢ 0 → which ≡ suc (p link) → next ≡ suc (p (link + 1)) → Met w (Arrive link Client which now ∷ []) a → Met a (losing_by p (link + 1) (past - 1) (hops - 1) now) b → Met b (Fault (link + 1) Client next now ∷ []) v
    → Met w (losing_by p link past hops now) v
unfolding losing_by
losing_more p link past hops which next now w a b v some more is there first rest last =
    let P : ℕ → Type 0 = λ l. Met w (Arrive link Client (suc (p link)) now ∷ losing_by p l (past - 1) (hops - 1) now ++ Fault l Client (suc (p l)) now ∷ []) v in
    let one : Met w (Arrive link Client (suc (p link)) now ∷ []) a = subst (λ k. Met w (Arrive link Client k now ∷ []) a) is first in
    let end : Met b (Fault (link + 1) Client (suc (p (link + 1))) now ∷ []) v = subst (λ k. Met b (Fault (link + 1) Client k now ∷ []) v) there last in
    let all : P (link + 1) = met_join (Arrive link Client (suc (p link)) now ∷ []) (losing_by p (link + 1) (past - 1) (hops - 1) now ++ Fault (link + 1) Client (suc (p (link + 1))) now ∷ []) w a v one
    (met_join (losing_by p (link + 1) (past - 1) (hops - 1) now) (Fault (link + 1) Client (suc (p (link + 1))) now ∷ []) a b v rest end) in
    subst (λ n. Met w (losing_by p link n hops now) v) (sym (some_more past some)) (subst (λ n. Met w (losing_by p link (suc (past - 1)) n now) v) (sym (some_more hops more)) (subst P (next_is link) all))

pub stranding_none : (p g : ℕ → ℕ) (link past hops : ℕ) (now : ℤ) (w v : World) → past ≡ 0 → Met w (going_by p g link hops now) v → Met w (stranding_by p g link past hops now) v
unfolding stranding_by
stranding_none p g link past hops now w v none run = subst (λ n. Met w (stranding_by p g link n hops now) v) (sym none) run

pub stranding_last : (p g : ℕ → ℕ) (link past hops which : ℕ) (now : ℤ) (w v : World) → past ≢ 0 → hops ≡ 0 → which ≡ suc (p link) → Met w (Arrive link Client which now ∷ []) v → Met w (stranding_by p g link past hops now) v
unfolding stranding_by
stranding_last p g link past hops which now w v some none is run =
    subst (λ n. Met w (stranding_by p g link n hops now) v) (sym (some_more past some)) (subst (λ n. Met w (stranding_by p g link (suc (past - 1)) n now) v) (sym none) (subst (λ k. Met w (Arrive link Client k now ∷ []) v) is run))

pub stranding_more : (p g : ℕ → ℕ) (link past hops which next : ℕ) (now : ℤ) (w a b v : World) → past ≢ 0 → hops ≢ 0 → which ≡ suc (p link) → next ≡ suc (p (link + 1)) → Met w (Arrive link Client which now ∷ []) a → Met a (stranding_by p g (link + 1) (past - 1) (hops - 1) now) b
    → Met b (Fault (link + 1) Client next now ∷ []) v → Met w (stranding_by p g link past hops now) v
unfolding stranding_by
stranding_more p g link past hops which next now w a b v some more is there first rest last =
    let P : ℕ → Type 0 = λ l. Met w (Arrive link Client (suc (p link)) now ∷ stranding_by p g l (past - 1) (hops - 1) now ++ Fault l Client (suc (p l)) now ∷ []) v in
    let one : Met w (Arrive link Client (suc (p link)) now ∷ []) a = subst (λ k. Met w (Arrive link Client k now ∷ []) a) is first in
    let end : Met b (Fault (link + 1) Client (suc (p (link + 1))) now ∷ []) v = subst (λ k. Met b (Fault (link + 1) Client k now ∷ []) v) there last in
    let all : P (link + 1) = met_join (Arrive link Client (suc (p link)) now ∷ []) (stranding_by p g (link + 1) (past - 1) (hops - 1) now ++ Fault (link + 1) Client (suc (p (link + 1))) now ∷ []) w a v one
    (met_join (stranding_by p g (link + 1) (past - 1) (hops - 1) now) (Fault (link + 1) Client (suc (p (link + 1))) now ∷ []) a b v rest end) in
    subst (λ n. Met w (stranding_by p g link n hops now) v) (sym (some_more past some)) (subst (λ n. Met w (stranding_by p g link (suc (past - 1)) n now) v) (sym (some_more hops more)) (subst P (next_is link) all))

-- the last outcome, at the client
pub arrives_then : (p g : ℕ → ℕ) (all place : ℕ) (now : ℤ) (w a v : World) → place ≡ suc (g 0) → Met w (going_by p g 0 all now) a → Met a (AnswerArrives 0 Client place now ∷ []) v → Met w (following worlds.Arrives p g all now) v
arrives_then p g all place now w a v is run last = met_join (going_by p g 0 all now) (AnswerArrives 0 Client (suc (g 0)) now ∷ []) w a v run (subst (λ k. Met a (AnswerArrives 0 Client k now ∷ []) v) is last)

pub loses_then : (p g : ℕ → ℕ) (all at which : ℕ) (now : ℤ) (w a v : World) → which ≡ suc (p 0) → Met w (losing_by p 0 at all now) a → Met a (Fault 0 Client which now ∷ []) v → Met w (following (worlds.PrepareLost at) p g all now) v
loses_then p g all at which now w a v is run last = met_join (losing_by p 0 at all now) (Fault 0 Client (suc (p 0)) now ∷ []) w a v run (subst (λ k. Met a (Fault 0 Client k now ∷ []) v) is last)

pub strands_then : (p g : ℕ → ℕ) (all at which : ℕ) (now : ℤ) (w a v : World) → which ≡ suc (p 0) → Met w (stranding_by p g 0 at all now) a → Met a (Fault 0 Client which now ∷ []) v → Met w (following (worlds.AnswerLost at) p g all now) v
strands_then p g all at which now w a v is run last = met_join (stranding_by p g 0 at all now) (Fault 0 Client (suc (p 0)) now ∷ []) w a v run (subst (λ k. Met a (Fault 0 Client k now ∷ []) v) is last)

-- ---- a round

pub fated_on : (course : ℕ → Course) (hops before number place told : ℕ) (now : ℤ) (w a b v : World) → number ≡ before + 1 → place ≡ before → now ≡ pos 0 → told ≡ carried_in (course before) w v → Sends number now w a
    → Met a (following (course place) (puts_by course place) (gives_by hops course place) hops now) b → Met b (reads read_limit 0 65) v → GoesOnFated course hops before number told w v
fated_on course hops before number place told now w a b v next same start paid sends passes reads_run =
    let counts : number ≡ suc before = omega (arith, next) in
    record {
      counted = counts;
      round = record {
        round = record {
          iv = iv_of number;
          now = now;
          sent = a;
          passed = b;
          lawful = sends.lawful;
          goes = sends.goes;
          passes = subst (λ k. Met a (following (course k) (puts_by course k) (gives_by hops course k) hops now) b) same passes;
          reads_each = reads_run;
        };
        numbered = ap iv_of counts;
        at_start = start;
      };
      carried_is = paid;
    }

pub fate_on : (course : ℕ → Course) (hops before : ℕ) (w v : World) → NumberedFate course hops before w v → Continues w v
fate_on course hops before w v x =
    let r = x.round in
    then w r.sent v (met_on (Send Client r.iv r.now ∷ []) w r.sent (r.sent, Sent, r.lawful, r.goes, refl))
    (then r.sent r.passed v (met_on (following (course before) (puts_by course before) (gives_by hops course before) hops r.now) r.sent r.passed r.passes) (met_on (reads read_limit 0 65) r.passed v r.reads_each))

-- ---- a number of Sends

pub fates_on : (course : ℕ → Course) (hops first count carried : ℕ) (w v : World) → NumberedFates course hops first count carried w v → Continues w v
fates_on course hops first zero carried w v run = still w v run.1
fates_on course hops first (suc m) carried w v run = then w run.0 v (fate_on course hops first w run.0 run.2) (fates_on course hops (suc first) m run.1 run.0 v run.4)

fates_push : (course : ℕ → Course) (hops first count k carried more : ℕ) (w a v : World) → k ≡ first + count → more ≡ carried_in (course k) a v → NumberedFates course hops first count carried w a → NumberedFate course hops k a v → NumberedFates course hops first (suc count) (carried + more) w v
fates_push course hops first zero k carried more w a v at is run one =
    let here : k ≡ first = omega (arith, at) in
    let nothing = run.0 in
    let same : more ≡ carried_in (course first) w v = is ∙ ap (λ z. carried_in (course k) z v) run.1 ∙ ap (λ j. carried_in (course j) w v) here in
    (v, 0, subst (λ j. NumberedFate course hops j w v) here (subst (λ z. NumberedFate course hops k z v) run.1 one), omega (arith, nothing, same), (refl, refl))
fates_push course hops first (suc m) k carried more w a v at is run one =
    let paid = run.3 in
    (run.0, run.1 + more, run.2, omega (arith, paid), fates_push course hops (suc first) m k run.1 more run.0 a v (omega (arith, at)) is run.4 one)

pub fates_more : (course : ℕ → Course) (hops before after told more sum : ℕ) (w a v : World) → after ≡ suc before → (told + more < 18446744073709551616 → sum ≡ told + more) → HasPlayed course hops before told w a → GoesOnFated course hops before after more a v → HasPlayed course hops after sum w v
fates_more course hops before after told more sum w a v next adds old one =
    let paid = one.carried_is in
    let is = old.is_told in
    record {
      carried = old.carried + more;
      rounds = subst (λ n. NumberedFates course hops 0 n (old.carried + more) w v) (sym next) (fates_push course hops 0 before before old.carried more w a v (omega arith) paid old.rounds one.round);
      is_told = λ few. added _ _ _ few is adds;
    }
  where
    added : (told carried sum : ℕ) → carried + more < 18446744073709551616 → (carried < 18446744073709551616 → told ≡ carried) → (told + more < 18446744073709551616 → sum ≡ told + more) → sum ≡ carried + more
    added told carried sum few is adds = let same = is (omega (arith, few)) in let all = adds (omega (arith, few, same)) in omega (arith, same, all)

pub fates_none : (course : ℕ → Course) (hops sends told : ℕ) (w : World) → sends ≡ 0 → told ≡ 0 → HasPlayed course hops sends told w w
fates_none course hops sends told w none nothing = record {
  carried = 0;
  rounds = subst (λ n. NumberedFates course hops 0 n 0 w w) (sym none) (refl, refl);
  is_told = λ few. nothing;
}

-- fewer of the same
pub fates_front : (course : ℕ → Course) (hops first few count carried : ℕ) (w v : World) → few ≤ count → NumberedFates course hops first count carried w v → (mid : World) × ((part : ℕ) × NumberedFates course hops first few part w mid)
fates_front course hops first zero count carried w v below run = (w, (0, (refl, refl)))
fates_front course hops first (suc k) zero carried w v below run = absurd (omega (arith, below))
fates_front course hops first (suc k) (suc m) carried w v below run =
    let rest = fates_front course hops (suc first) k m run.1 run.0 v (omega (arith, below)) run.4 in
    (rest.0, (carried_in (course first) w run.0 + rest.1.0, (run.0, rest.1.0, run.2, refl, rest.1.1)))

-- the rounds alone, and what they carried
unfoldable pub fates_rounds : (course : ℕ → Course) (hops first count carried : ℕ) (w v : World) → NumberedFates course hops first count carried w v → FatedRounds read_limit hops course first count w v
fates_rounds course hops first zero carried w v run = run.1
fates_rounds course hops first (suc m) carried w v run = (run.0, run.2.round, fates_rounds course hops (suc first) m run.1 run.0 v run.4)

pub fates_carried : (course : ℕ → Course) (hops first count carried : ℕ) (w v : World) (run : NumberedFates course hops first count carried w v) → carried_by read_limit hops course first count w v (fates_rounds course hops first count carried w v run) ≡ carried
unfolding fates_rounds
fates_carried course hops first zero carried w v run = sym run.0
fates_carried course hops first (suc m) carried w v run = let rest = fates_carried course hops (suc first) m run.1 run.0 v run.4 in let is = run.3 in omega (arith, rest, is)

-- ---- more Sends than there are

pub enough : (needed most lost told all : ℕ) → needed < most → needed + lost < 2 ^ 64 - 1 → (lost < 2 ^ 64 → told ≡ lost) → (most + told < 2 ^ 64 → all ≡ most + told) → (2 ^ 64 ≤ most + told → all ≡ 2 ^ 64 - 1) → needed + lost < all
enough needed most lost told all below few is small large =
    let same : told ≡ lost = is (omega (arith, few)) in
    elim (cases_lt (most + told) (2 ^ 64)) [
      | inl under ↦ (let e = small under in omega (arith, e, same, below))
      | inr over ↦ (let e = large over in omega (arith, e, few))
    ]

pub more_than : (needed lost told most packets : ℕ) → lost ≡ told → needed + lost < packets → packets < 2 ^ 64 → (needed + told < 2 ^ 64 - 1 → needed + told < most) → needed + lost < most
more_than needed lost told most packets same few small is = let l = is (omega (arith, same, few, small)) in omega (arith, same, l)

pub less_sum : (a b : ℕ) → a + b < 2 ^ 63 → a < 2 ^ 63
less_sum a b l = omega (arith, l)
