-- A receiver at which nothing arrived is abreast of a sender that sent nothing.
use Rattle.std.proofs.Common.{◌≡◌, ℕ, ◌+◌, ◌^◌, ◌<◌, ◌≤◌, true, List, map, sum, refl, sym, ap, ◌∙◌, arith, Option, None, Some, slice_index}
use Rattle.std.specs.List.{range_with_len}
use Rattle.std.specs.FinMap as fmap
use Rattle.std.specs.FinSet as fset
use Rattle.std.specs.Ordering.{nat_cmp}
use Rattle.st_streams.specs.Slots.{slot}
use Rattle.st_sender.specs.Sending.{Config, Outgoing, Sending, outgoing_at}
use Rattle.st_sender.specs.Flights.{sent_end}
use Rattle.st_receiver.specs.Streams.{Incoming, fresh_incoming, incoming_at, incoming_or, may_name, received_of}
use Rattle.st_world_quiet.specs.Left.{all_money_left}
use Rattle.st_world_quiet.specs.Rounds.{IsOpening}
use Rattle.st_world_quiet.specs.Mirrored.{IsAbreast, IsAhead}
use Rattle.st_world_quiet.specs.Exchanges.{AllowsAll, IsModest, opened_receiving}
use Rattle.st_world_quiet.proofs.Lowering.{no_slot}
use Rattle.st_world_quiet.proofs.Bound.{nothing_sent}

fresh_at : (parity : ℕ) (kept : List ℕ) (k : ℕ) → incoming_at (opened_receiving parity kept) k ≡ fresh_incoming (slice_index kept k)
fresh_at parity kept k = ap (incoming_or (fresh_incoming (slice_index kept k))) (no_slot k)

none_sent : (n : ℕ → ℕ) (config : Config) (s : Sending) (k : ℕ) → IsOpening n config s → sent_end s k (outgoing_at s k) ≡ 0
none_sent n config s k opening =
    let none = nothing_sent n config s k (outgoing_at s k) opening refl (ap (λ (z : Sending). z.flights) opening.rest) in
    omega (arith, none)

none_read : (n : ℕ → ℕ) (config : Config) (s : Sending) (parity : ℕ) (kept : List ℕ) (k : ℕ) → IsOpening n config s → (incoming_at (opened_receiving parity kept) k).held.read ≡ sent_end s k (outgoing_at s k)
none_read n config s parity kept k opening = ap (λ (y : Incoming). y.held.read) (fresh_at parity kept k) ∙ sym (none_sent n config s k opening)

-- receive maxes have room for `spare`: what lost answers may carry
pub opening_ahead : (n : ℕ → ℕ) (config : Config) (s : Sending) (parity : ℕ) (kept : List ℕ) (spare : ℕ → ℕ) (spare_all : ℕ) → sum (map n (range_with_len 0 65)) < 2 ^ 63 → IsOpening n config s
    → ((k : ℕ) (x : Outgoing) → outgoing_at s k ≡ Some x → may_name (opened_receiving parity kept) k ≡ true)
    → ((k : ℕ) (x : Outgoing) → outgoing_at s k ≡ Some x → x.offered + spare k ≤ slice_index kept k) → all_money_left s + spare_all < 2 ^ 63
    → IsAhead n (record { missed = 0; lost = λ k. 0; spare = spare; spare_all = spare_all }) s (opened_receiving parity kept)
opening_ahead n config s parity kept spare spare_all modest opening named most few = record {
  mirrored = record {
    slots = refl;
    alive = λ k. ap (λ (y : Incoming). y.held.aborted) (fresh_at parity kept k);
    below = λ k. (let none : received_of (slot (opened_receiving parity kept).streams k) ≡ 0 = ap received_of (no_slot k) in omega (arith, none));
    named = named;
    windows = λ k x e. (let told : x.told ≡ 16384 = ap (λ (z : Outgoing). z.told) (opening.streams k x e).1.is in omega (arith, told));
  };
  modest = modest;
  unclosed = refl;
  later = λ m l. fset.contains-empty nat_cmp m;
  read = λ k. (let is = none_read n config s parity kept k opening in omega (arith, is));
  input = λ k. (let is = none_read n config s parity kept k opening in let none = none_sent n config s k opening in omega (arith, is, none));
  level = λ none k. none_read n config s parity kept k opening;
  credited = λ k x e. (let now : (incoming_at (opened_receiving parity kept) k).credited ≡ 0 = ap (λ (y : Incoming). y.credited) (fresh_at parity kept k) in
      let none : x.fulfilled ≡ 0 = ap (λ (z : Outgoing). z.fulfilled) (opening.streams k x e).1.is in
      omega (arith, now, none));
  most = λ k x e. (let l = most k x e in let is : (incoming_at (opened_receiving parity kept) k).receive_max ≡ slice_index kept k = ap (λ (y : Incoming). y.receive_max) (fresh_at parity kept k) in omega (arith, l, is));
  within = λ k l. (let none : (incoming_at (opened_receiving parity kept) k).credited ≡ 0 = ap (λ (y : Incoming). y.credited) (fresh_at parity kept k) in omega (arith, none));
  credit = omega (arith, few);
  stops = λ k m is. absurd (let none = ap (λ (y : Incoming). y.held.end) (fresh_at parity kept k) in let clash : ◌≡◌ {A = Option ℕ} None (Some m) = sym none ∙ is in cc);
  emptied = λ k q l. ap (λ (y : Incoming). fmap.get y.held.bytes q) (fresh_at parity kept k) ∙ fmap.get-empty nat_cmp q;
  going = λ k x e left. ap (λ (y : Incoming). y.held.end) (fresh_at parity kept k);
}

pub opening_abreast : (n : ℕ → ℕ) (config : Config) (s : Sending) (parity : ℕ) (kept : List ℕ) → IsModest n → IsOpening n config s → AllowsAll s (opened_receiving parity kept) → IsAbreast n s (opened_receiving parity kept)
opening_abreast n config s parity kept modest opening allows =
    opening_ahead n config s parity kept (λ k. 0) 0 modest opening allows.named (λ k x e. let l = allows.most k x e in omega (arith, l)) (let few = allows.credit in omega (arith, few))
