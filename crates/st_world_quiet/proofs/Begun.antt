-- How many streams are open once a client opened `count` streams, and what is left on them.
use Rattle.std.proofs.Common.{◌≡◌, ℕ, zero, suc, ◌+◌, ◌-◌, ◌*◌, ◌<◌, ◌≤◌, Bool, true, false, cond, List, [], length, map, sum, is_some, refl, sym, ap, subst, ◌∙◌, arith, Option, None, Some, Ok, inl, inr}
use Rattle.std.specs.List.{range_with_len}
use Rattle.std.proofs.lemmas.Bool.{cases_lt}
use Rattle.st_keys.specs.Keys.{DerivedKeys}
use Rattle.st_sender.specs.Sending.{Config, Outgoing, Sending, outgoing_at}
use Rattle.st_end.specs.declared.role.Role.TheVariants as roles
use Rattle.st_end.specs.State.{EndState, new_end}
use Rattle.st_end.specs.Calls.{connection_refusal, open_stream, opened_unless, opening_as}
use Rattle.st_world_quiet.specs.Left.{all_closes_left, all_frames_left, all_money_left, all_open, closes_left, frames_left, money_left, one_open}
use Rattle.st_world_quiet.specs.Exchanges.{IsModest}
use Rattle.st_world_quiet.specs.Calls.{begin_each, begun, lengths}
use Rattle.st_world_quiet.proofs.Sums.{sum_below, sum_same}
use Rattle.st_world_quiet.proofs.Money.{div_rises}
use Rattle.st_world_quiet.proofs.Beginning.{IsBegun, calls_begun}
use Rattle.st_world_quiet.specs.Plays.{all_frames, at_stream, frames_for, input_of, money_of}
use Rattle.st_world_quiet.proofs.Opened.{OpenTo, number_next, opens_next, place_of}
use Rattle.st_world_quiet.proofs.WorldRuns.{nothing_open}
use Rattle.st_world_quiet.proofs.Streams.{all_amounts, all_ones, all_streams, at_even, at_odd, halves, one_of, ones, past_all}

-- ---- each opening succeeds

begin_last : (input : ℕ → List ℕ) (money : ℕ → ℕ) (j : ℕ) (e : EndState) → begin_each input money (suc j) e ≡ begun input money (open_stream (begin_each input money j e))
unfolding begin_each
begin_last input money zero e = refl
begin_last input money (suc j) e = begin_last input money j (begun input money (open_stream e))

opens_as : (j : ℕ) (e : EndState) → OpenTo j e → j < 32 → connection_refusal e ≡ None → (open_stream e).0 ≡ Ok (place_of j)
opens_as j e opened low fine = ap (λ o. (opening_as e o).0) (number_next j e opened low) ∙ ap (λ why. (opened_unless e (place_of j) why).0) fine

pub opens_here : (config : Config) (input : ℕ → List ℕ) (money : ℕ → ℕ) (j : ℕ) (e : EndState) → j < 32 → IsBegun 1 (lengths input) money config e → OpenTo j e → (open_stream e).0 ≡ Ok (place_of j)
opens_here config input money j e low is opened = opens_as j e opened low fine
  where
    fine : connection_refusal e ≡ None
    fine = let alive : e.sending.failed ≡ false = ap (λ (z : Sending). z.failed) is.rest in let unclosed : e.receiving.closed ≡ false = is.unclosed in rw (alive, unclosed) refl

one_opens : (config : Config) (input : ℕ → List ℕ) (money : ℕ → ℕ) (j : ℕ) (e : EndState) → j < 32 → IsBegun 1 (lengths input) money config e → OpenTo j e → OpenTo (j + 1) (begun input money (open_stream e))
one_opens config input money j e low is opened = opens_next input money j (place_of j) e opened (opens_here config input money j e low is opened)

pub opens_all : (keys : DerivedKeys) (own peer : List ℕ) (config : Config) (input : ℕ → List ℕ) (money : ℕ → ℕ) (j : ℕ) → j ≤ 32 → IsModest (lengths input) → IsModest money → OpenTo j (begin_each input money j (new_end roles.Client keys own peer config))
unfolding begin_each
opens_all keys own peer config input money zero few modest modest_money = nothing_open config keys own peer
opens_all keys own peer config input money (suc j) few modest modest_money =
    let e = begin_each input money j (new_end roles.Client keys own peer config) in
    let is = calls_begun roles.Client keys own peer config input money j modest modest_money in
    let next = one_opens config input money j e (omega (arith, few)) is (opens_all keys own peer config input money j (omega (arith, few)) modest modest_money) in
    subst (OpenTo (suc j)) (sym (begin_last input money j (new_end roles.Client keys own peer config)))
    (subst (λ n. OpenTo n (begun input money (open_stream e))) (let same : j + 1 ≡ suc j = omega arith in same) next)

-- ---- what is left, of inputs and amounts in lists

close_most : (b : Bool) → cond b 0 1 ≤ 1
close_most true = omega arith
close_most false = omega arith

frames_most : (xs : List ℕ) (o : Option Outgoing) → frames_left (length xs) o ≤ frames_for xs
frames_most xs None = omega arith
frames_most xs (Some x) = div_rises (length xs - x.acked_end + 15999) (length xs + 15999) 16000 (omega arith) (omega arith)

module _ (xs : List (List ℕ)) (ms : List ℕ) (config : Config) (e : EndState) (few : length xs ≤ 32) (as_many : length ms ≡ length xs) (begun_is : IsBegun 1 (lengths (input_of xs)) (money_of ms) config e) (opened : OpenTo (length xs) e) where
  -- what is at most one of each stream
  one_at : (g : Option Outgoing → ℕ) → g None ≡ 0 → ((x : Outgoing) → g (Some x) ≤ 1) → (k : ℕ) → g (outgoing_at e.sending k) ≤ at_stream (ones (length xs)) 0 k
  one_at g none some k = by (outgoing_at e.sending k) refl
    where
      by : (o : Option Outgoing) → outgoing_at e.sending k ≡ o → g o ≤ at_stream (ones (length xs)) 0 k
      by None at = omega (arith, none)
      by (Some x) at =
          let own = begun_is.own k x at in
          elim (cases_lt own.0 (length xs)) [
            | inl low ↦ (let one : at_stream (ones (length xs)) 0 k ≡ 1 = ap (at_stream (ones (length xs)) 0) own.2 ∙ one_of (length xs) own.0 low in let most = some x in omega (arith, one, most))
            | inr past ↦ absurd (let shut = opened.left own.0 past own.1 in let clash : ◌≡◌ {A = Bool} true false = ap is_some (sym at ∙ ap (outgoing_at e.sending) own.2) ∙ shut in cc)
          ]

  pub opens_most : all_open e.sending ≤ length xs
  opens_most = let below = sum_below (λ k. one_open (outgoing_at e.sending k)) (λ k. at_stream (ones (length xs)) 0 k) (one_at one_open refl (λ x. omega arith)) 0 65 in omega (arith, below, all_ones (length xs) few)

  pub closes_most : all_closes_left e.sending ≤ length xs
  closes_most = let below = sum_below (λ k. closes_left (outgoing_at e.sending k)) (λ k. at_stream (ones (length xs)) 0 k) (one_at closes_left refl (λ x. close_most x.clean_settled)) 0 65 in omega (arith, below, all_ones (length xs) few)

  pub all_frames_most : all_frames_left (lengths (input_of xs)) e.sending ≤ all_frames xs
  all_frames_most =
      let below = sum_below (λ k. frames_left (lengths (input_of xs) k) (outgoing_at e.sending k)) (λ k. frames_for (input_of xs k)) (λ k. frames_most (input_of xs k) (outgoing_at e.sending k)) 0 65 in
      let all : sum (map (λ k. frames_for (input_of xs k)) (range_with_len 0 65)) ≡ all_frames xs = all_streams frames_for xs [] refl few in
      omega (arith, below, all)

  money_at : (k : ℕ) → money_left (outgoing_at e.sending k) ≡ money_of ms k
  money_at k = by (outgoing_at e.sending k) refl
    where
      closed : (i : ℕ) → outgoing_at e.sending k ≡ None → k ≡ 2 * i + 1 → length xs ≤ i
      closed i at is = elim (cases_lt i (length xs)) [
        | inl low ↦ absurd (let there = opened.opened i low in let clash : ◌≡◌ {A = Bool} true false = sym there ∙ ap is_some (ap (outgoing_at e.sending) (sym is) ∙ at) in cc)
        | inr past ↦ past
      ]

      by : (o : Option Outgoing) → outgoing_at e.sending k ≡ o → money_left o ≡ money_of ms k
      by None at = (let half = halves k in elim half.1 [
        | inl even ↦ sym (ap (money_of ms) even ∙ at_even ms 0 half.0)
        | inr odd ↦ sym (ap (money_of ms) odd ∙ at_odd ms 0 half.0 ∙ past_all ms half.0 (let past = closed half.0 at odd in omega (arith, past, as_many)))
      ])
      by (Some x) at =
          let is = (begun_is.streams k x at).is in
          let offered : x.offered ≡ 0 + money_of ms k = ap (λ (z : Outgoing). z.offered) is in
          let fulfilled : x.fulfilled ≡ 0 = ap (λ (z : Outgoing). z.fulfilled) is in
          omega (arith, offered, fulfilled)

  pub money_is : all_money_left e.sending ≡ sum ms
  money_is = sum_same (λ k. money_left (outgoing_at e.sending k)) (λ k. money_of ms k) money_at 0 65 ∙ all_amounts ms (omega (arith, few, as_many))
