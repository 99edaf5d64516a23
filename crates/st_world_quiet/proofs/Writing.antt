-- How much of the input is written on.
use Rattle.std.proofs.Common.{◌≡◌, ℕ, zero, suc, ◌+◌, ◌-◌, ◌^◌, ◌<◌, ◌≤◌, Bool, true, false, ◌||◌, cond, List, length, refl, sym, ap, ◌∙◌, arith, Option, None, Some, inl, inr, nat_le, nat_lt}
use Rattle.std.specs.Prelude.{is_some}
use Rattle.std.specs.FinMap as fmap
use Rattle.std.proofs.lemmas.Bool.{cases_lt}
use Rattle.std.proofs.lemmas.Bool.Decides.{nat_tests}
use Rattle.st_streams.specs.Table.{is_between, table}
use Rattle.st_streams.proofs.Tables.{table_is}
use Rattle.st_unacked.specs.Runs.{counted}
use Rattle.st_unacked.proofs.Counts.{len-table}
use Rattle.st_sender.specs.declared.error.OutboxError.{OutboxError}
use Rattle.st_sender.specs.declared.error.OutboxError.TheVariants.{Closed, Full}
use Rattle.st_sender.specs.Sending.{Outgoing, Sending, outgoing_at}
use Rattle.st_sender.specs.Accepting.{after_clean, after_write}
use Rattle.st_sender.specs.Refusals.{all_accepted, full, is_closed, refusal_at, write_refusal}
use Rattle.st_world_quiet.specs.Quiet.{IsRow}
use Rattle.st_world_quiet.specs.Rounds.{IsRefilled}

all_counted : (passes : ℕ → Bool) (first n : ℕ) → ((q : ℕ) → first ≤ q → q < first + n → passes q ≡ true) → counted passes first n ≡ n
unfolding counted
all_counted passes first zero h = refl
all_counted passes first (suc n) h =
    let rest = all_counted passes first n (λ q from till. h q from (omega (arith, till))) in
    let one : ◌≡◌ {A = ℕ} (cond (passes (first + n)) 1 0) 1 = ap {B = ℕ} (λ b. cond b 1 0) (h (first + n) (omega arith) (omega arith)) in
    omega (arith, rest, one)

-- a row is as long as its ends are apart
row_long : (x : Outgoing) → IsRow x → fmap.len x.unacked ≡ x.accepted - x.acked_end
row_long x r =
    let n = x.accepted - x.acked_end in
    let within = r.within in
    let end : x.acked_end + n ≡ x.accepted = omega (arith, within) in
    let is : table (fmap.get x.unacked) x.acked_end n ≡ x.unacked = table_is (fmap.get x.unacked) x.acked_end n x.unacked (λ q. at q n end) in
    let all = all_counted (λ q. is_some (fmap.get x.unacked q)) x.acked_end n (λ q from till. let got = r.row q from (omega (arith, till, end)) in ap is_some got.1) in
    ap fmap.len (sym is) ∙ len-table (fmap.get x.unacked) x.acked_end n ∙ all
  where
    between : (low high q : ℕ) → low ≤ q → q < high → is_between low high q ≡ true
    between low high q a b = grind (arith, nat_tests)

    below : (low high q : ℕ) → q < low → is_between low high q ≡ false
    below low high q a = grind (arith, nat_tests)

    above : (low high q : ℕ) → low ≤ q → high ≤ q → is_between low high q ≡ false
    above low high q a b = grind (arith, nat_tests)

    at : (q n : ℕ) → x.acked_end + n ≡ x.accepted → cond (is_between x.acked_end (x.acked_end + n) q) (fmap.get x.unacked q) None ≡ fmap.get x.unacked q
    at q n end = elim (cases_lt q x.acked_end) [
      | inl low ↦ (let b = below x.acked_end (x.acked_end + n) q low in rw b (sym (r.front q low)))
      | inr from ↦ elim (cases_lt q (x.acked_end + n)) [
        | inl till ↦ (let b = between x.acked_end (x.acked_end + n) q from till in rw b refl)
        | inr past ↦ (let b = above x.acked_end (x.acked_end + n) q from past in rw b (sym (r.past q (omega (arith, past, end)))))
      ]
    ]

asked : (s : Sending) (k count : ℕ) (x : Outgoing) → outgoing_at s k ≡ Some x → is_closed x ≡ false → write_refusal s k count ≡ full (all_accepted s.streams) count x
asked s k count x e still =
    ap (λ o. refusal_at o is_closed (full (all_accepted s.streams) count)) e ∙ ap {B = Option OutboxError} (λ b. cond b (Some Closed) (full (all_accepted s.streams) count x)) still

pub write_fits : (s : Sending) (k count : ℕ) (x : Outgoing) → outgoing_at s k ≡ Some x → IsRow x → is_closed x ≡ false → all_accepted s.streams + count < 2 ^ 63 → x.accepted + count ≤ x.acked_end + 262144 → write_refusal s k count ≡ None
write_fits s k count x e row still few fits = asked s k count x e still ∙ room (fmap.len x.unacked) (all_accepted s.streams) (let long = row_long x row in let within = row.within in omega (arith, long, within, fits)) few
  where
    room : (len all : ℕ) → len + count ≤ 262144 → all + count < 2 ^ 63 → cond (nat_lt 262144 (len + count) || nat_le (2 ^ 63) (all + count)) (Some Full) None ≡ None
    room len all a b =
        let c : nat_lt 262144 (len + count) ≡ false = grind (arith, nat_tests) in
        let d : nat_le (2 ^ 63) (all + count) ≡ false = grind (arith, nat_tests) in
        rw (c, d) refl

pub write_full : (s : Sending) (k count : ℕ) (x : Outgoing) → outgoing_at s k ≡ Some x → IsRow x → is_closed x ≡ false → x.acked_end + 262144 < x.accepted + count → write_refusal s k count ≡ Some Full
write_full s k count x e row still past = asked s k count x e still ∙ no_room (fmap.len x.unacked) (all_accepted s.streams) (let long = row_long x row in let within = row.within in omega (arith, long, within, past))
  where
    no_room : (len all : ℕ) → 262144 < len + count → cond (nat_lt 262144 (len + count) || nat_le (2 ^ 63) (all + count)) (Some Full) None ≡ Some Full
    no_room len all a = let c : nat_lt 262144 (len + count) ≡ true = grind (arith, nat_tests) in rw c refl

-- ---- what a write and a close leave

pub refilled_more : (n : ℕ) (x : Outgoing) (more : List ℕ) → x.accepted + length more < n → x.acked_end + 262144 ≤ x.accepted + length more → IsRefilled n x (after_write more x)
refilled_more n x more short far = record {
  more = more;
  clean = x.clean;
  is = refl;
  total = omega (arith, short);
  full = inr far;
  closed = λ e. absurd (omega (arith, e, short));
}

pub refilled_clean : (n : ℕ) (x : Outgoing) (more : List ℕ) → x.accepted + length more ≡ n → IsRefilled n x (after_clean (after_write more x))
refilled_clean n x more all = record {
  more = more;
  clean = true;
  is = refl;
  total = omega (arith, all);
  full = inl all;
  closed = λ e. refl;
}
