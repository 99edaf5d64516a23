-- While something is left a Send goes.
use Rattle.std.proofs.Common.{◌≡◌, ℕ, zero, suc, ◌+◌, ◌-◌, ◌<◌, ◌≤◌, Bool, true, false, cond, List, [], ◌∷◌, length, max, slice_get, refl, sym, ap, subst, ◌∙◌, arith, Option, None, Some, inl, inr, nat_eq}
use Rattle.std.specs.FinMap as fmap
use Rattle.std.specs.List.{sum_by}
use Rattle.std.specs.Ordering.{nat_cmp}
use Rattle.std.specs.Cmp.{nat_cmp_total}
use Rattle.std.proofs.lemmas.List.Sums.{sum_by-cons}
use Rattle.st_frames.specs.Frames.{Known, CloseFrame, StreamClose, StreamData, StreamMoney, max_packet}
use Rattle.st_frames.specs.Told.{money_in, money_of, shares_of}
use Rattle.st_frames.specs.Written.{frame_text}
use Rattle.st_sender.specs.Sending.{Outgoing, Sending, outgoing_at}
use Rattle.st_sender.specs.Flights.{all_ends, any_frame, closes, due_at, end_of, flown, flying_least, highest_end, room_for, sent_end}
use Rattle.st_sender.specs.Due.{IsDue}
use Rattle.st_sender.specs.Loads.{Fits, IsIdle, MoneyFits, least_of, load_with}
use Rattle.st_world_quiet.specs.Quiet.{IsQuiet}
use Rattle.st_world_quiet.proofs.Sums.{sum_below}
use Rattle.st_world_quiet.proofs.Acknowledging.{is_other}
use Rattle.st_world_quiet.proofs.Lengths.{byte_short, close_short, money_short, one_has_room}
use Rattle.st_world_quiet.proofs.Ends.{end_apart, end_here, ends_more}
use Rattle.st_world_quiet.proofs.Data.{due_is}
use Rattle.st_world_quiet.proofs.Money.{due_is_left, least_flies_none, whole_needs}
use Rattle.std.proofs.lemmas.Bool.{cases_eq, cases_lt}

nothing_fits : (o : Option (ℕ × ℕ)) (flying : ℕ) → MoneyFits o flying 0
nothing_fits None flying = tt
nothing_fits (Some told) flying = omega arith

none_fits : (n : ℕ → ℕ) (s : Sending) (k : ℕ) (o : Option (ℕ × ℕ)) → IsQuiet n s → MoneyFits o (flying_least s k) (room_for s.config.least 0)
none_fits n s k o quiet = subst (λ (m : ℕ). MoneyFits o (flying_least s k) m) (sym (whole_needs s.config.least 0 quiet.whole)) (nothing_fits o (flying_least s k))

-- an outgoing packet of one frame that carries one byte
byte_fits : (n : ℕ → ℕ) (s : Sending) (k o b : ℕ) (x : Outgoing) → IsQuiet n s → outgoing_at s k ≡ Some x → x.acked_end ≤ o → o < x.acked_end + 16000
    → Fits s max_packet (load_with s (StreamData k o (b ∷ []) ∷ []))
byte_fits n s k o b x quiet e from near =
    let f = StreamData k o (b ∷ []) in
    record {
      alive = quiet.alive;
      flights = (let none : length s.flights ≡ 0 = ap length quiet.alone in let some = quiet.in_flight in omega (arith, none, some));
      packets = quiet.packets;
      amount = omega arith;
      streams = λ j y open_at. elim (cases_eq j k) [
        | inl same ↦ (let here : outgoing_at s k ≡ Some y = rw same at open_at in
            let both : ◌≡◌ {A = Option Outgoing} (Some x) (Some y) = sym e ∙ here in
            let is : x ≡ y = cc in
            let told : x.told ≡ y.told = ap (λ (z : Outgoing). z.told) is in
            let w = (quiet.streams k x e).window in
            rw same (let a = end_here k o (b ∷ []) in omega (arith, a, told, w)))
        | inr apart ↦ (let a = end_apart j k o (b ∷ []) apart in omega (arith, a))
      ];
      connection = (let m = ends_more s k o (b ∷ []) x e in let c = quiet.connection in omega (arith, m, c));
      money = λ j y open_at. none_fits n s j y.advertised_money quiet;
      room_left = one_has_room (s.last + 1) (least_of s 0) f (byte_short k o b);
    }

-- bytes that wait go
pub bytes_go : (n : ℕ → ℕ) (s : Sending) (limits : List Known) (k : ℕ) (x : Outgoing) → IsQuiet n s → outgoing_at s k ≡ Some x → x.acked_end < x.accepted → ¬ IsIdle s limits max_packet
bytes_go n s limits k x quiet e waits idle =
    let got = (quiet.streams k x e).row x.acked_end (omega arith) waits in
    idle (StreamData k x.acked_end (got.0 ∷ []))
    (record { stream = x; is_open = e; some = omega arith; short = omega arith; bytes = each got.0 got.1 })
    (byte_fits n s k x.acked_end got.0 x quiet e (omega arith) (omega arith))
  where
    each : (b : ℕ) → fmap.get x.unacked x.acked_end ≡ Some b → (i byte : ℕ) → slice_get (b ∷ []) i ≡ Some byte → due_at s k x (x.acked_end + i) ≡ Some byte
    each b g zero byte h = let place : x.acked_end + 0 ≡ x.acked_end = omega arith in rw place (due_is s k x x.acked_end quiet.alone ∙ g ∙ h)
    each b g (suc i) byte h = absurd (cc)

-- ---- money and closes

no_ends_more : (s : Sending) (f : Known) → ((j : ℕ) → end_of j (flown f) ≡ 0) → all_ends s (flown f ∷ []) ≤ all_ends s []
unfolding all_ends
no_ends_more s f none =
    sum_below
    (λ j. max (sent_end s j (outgoing_at s j)) (highest_end j (flown f ∷ [])))
    (λ j. max (sent_end s j (outgoing_at s j)) (highest_end j []))
    (λ j. let z = none j in omega (arith, z))
    0 65

-- an outgoing packet of one frame without data
one_fits : (n : ℕ → ℕ) (s : Sending) (f : Known) → IsQuiet n s → ((j : ℕ) → end_of j (flown f) ≡ 0) → length (frame_text f) ≤ 40 → shares_of f ≤ s.packet_limit
    → ((j : ℕ) (y : Outgoing) → outgoing_at s j ≡ Some y → MoneyFits y.advertised_money (flying_least s j) (room_for s.config.least (money_in j (f ∷ []))))
    → Fits s max_packet (load_with s (f ∷ []))
one_fits n s f quiet none short cheap money = record {
  alive = quiet.alive;
  flights = (let none_flies : length s.flights ≡ 0 = ap length quiet.alone in let some = quiet.in_flight in omega (arith, none_flies, some));
  packets = quiet.packets;
  amount = (let c = sum_by-cons shares_of f [] in omega (arith, c, cheap));
  streams = λ j y open_at. let z = none j in omega (arith, z);
  connection = (let m = no_ends_more s f none in let c = quiet.connection in omega (arith, m, c));
  money = money;
  room_left = one_has_room (s.last + 1) (least_of s (sum_by shares_of (f ∷ []))) f short;
}

pub close_fits : (n : ℕ → ℕ) (s : Sending) (k : ℕ) → IsQuiet n s → Fits s max_packet (load_with s ((CloseFrame (StreamClose k 1 [])) ∷ []))
close_fits n s k quiet = one_fits n s (CloseFrame (StreamClose k 1 [])) quiet (λ j. refl) (close_short k 1) (omega arith) (λ j y open_at. none_fits n s j y.advertised_money quiet)

-- every look-up finds nothing
pub all_gone : (m : fmap.FinMap nat_cmp ℕ) → ((q : ℕ) → fmap.get m q ≡ None) → m ≡ fmap.empty
all_gone m none = fmap.same_map nat_cmp_total fmap.nat_cmp-IsAntisymmetric m fmap.empty (λ q. none q ∙ sym (fmap.get-empty nat_cmp q))

-- a clean close is due once all is fulfilled
pub close_due : (n : ℕ → ℕ) (s : Sending) (limits : List Known) (k : ℕ) (x : Outgoing) → IsQuiet n s → outgoing_at s k ≡ Some x → n k ≤ x.acked_end → x.offered - x.fulfilled ≡ 0 → x.clean_settled ≡ false
    → IsDue s limits (CloseFrame (StreamClose k 1 []))
close_due n s limits k x quiet e acked paid unsettled =
    let w = quiet.streams k x e in
    let within = w.within in
    let total = w.total in
    let most = w.paid in (
      record {
        stream = x;
        is_open = e;
        idle = ap (λ ps. any_frame (closes k 1) ps) quiet.alone;
        asked = inr (record {
          asked = w.closed (omega (arith, acked, within, total));
          alive = w.alive;
          unsettled = unsettled;
          code_is = refl;
          acknowledged = all_gone x.unacked (λ q. elim (cases_lt q x.acked_end) [ inl low ↦ w.front q low | inr high ↦ w.past q (omega (arith, high, acked, within, total)) ]);
          fulfilled = omega (arith, paid, most);
        });
      },
      refl,
    )

some_fits : (o : Option (ℕ × ℕ)) (flying more due : ℕ) → flying ≡ 0 → more ≤ 1 → 0 < due → ((told : ℕ × ℕ) → o ≡ Some told → due ≤ told.0 - told.1) → MoneyFits o flying more
some_fits None flying more due z one some h = tt
some_fits (Some told) flying more due z one some h = let l = h told refl in omega (arith, z, one, some, l)

pub money_goes : (n : ℕ → ℕ) (s : Sending) (limits : List Known) (k : ℕ) (x : Outgoing) → IsQuiet n s → outgoing_at s k ≡ Some x → 0 < x.offered - x.fulfilled → ¬ IsIdle s limits max_packet
money_goes n s limits k x quiet e left idle =
    let w = quiet.streams k x e in
    let due = due_is_left s k x quiet.alone w.alive in
    idle (StreamMoney k 1) (record { stream = x; is_open = e; some = omega arith; due = omega (arith, due, left) })
    (one_fits n s (StreamMoney k 1) quiet (λ j. refl) (money_short k 1) (let p = quiet.pays in omega (arith, p)) fits)
  where
    fits : (j : ℕ) (y : Outgoing) → outgoing_at s j ≡ Some y → MoneyFits y.advertised_money (flying_least s j) (room_for s.config.least (money_in j (StreamMoney k 1 ∷ [])))
    fits j y open_at = elim (cases_eq j k) [
      | inl same ↦ (let here : outgoing_at s k ≡ Some y = rw same at open_at in
          let both : ◌≡◌ {A = Option Outgoing} (Some x) (Some y) = sym e ∙ here in
          let is : x ≡ y = cc in
          let left_too : 0 < y.offered - y.fulfilled = subst (λ (z : Outgoing). 0 < z.offered - z.fulfilled) is left in
          let c = sum_by-cons (money_of j) (StreamMoney k 1) [] in
          let one : money_of j (StreamMoney k 1) ≤ 1 = at_most (nat_eq k j) in
          let needs = whole_needs s.config.least (money_in j (StreamMoney k 1 ∷ [])) quiet.whole in
          some_fits y.advertised_money (flying_least s j) (room_for s.config.least (money_in j (StreamMoney k 1 ∷ []))) (y.offered - y.fulfilled) (least_flies_none s j quiet.alone) (omega (arith, needs, c, one)) left_too (λ told e. let h = (quiet.streams j y open_at).may_pay told e in omega (arith, h)))
      | inr apart ↦ (let b = is_other k j (λ z. apart (sym z)) in let zero_is : money_in j (StreamMoney k 1 ∷ []) ≡ 0 = rw b refl in subst (λ (m : ℕ). MoneyFits y.advertised_money (flying_least s j) (room_for s.config.least m)) (sym zero_is) (none_fits n s j y.advertised_money quiet))
    ]
      where
        at_most : (b : Bool) → cond b 1 0 ≤ 1
        at_most true = omega arith
        at_most false = omega arith
