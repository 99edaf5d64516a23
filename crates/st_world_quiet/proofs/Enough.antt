-- If the receiver had read all earlier bytes, the limits that it advertises are enough for the next Send.
use Rattle.std.proofs.Common.{◌≡◌, ℕ, ◌+◌, ◌^◌, ◌<◌, ◌≤◌, List, [], max, refl, sym, ap, ◌∙◌, arith, Option, None, Some, ◌⊎◌, inl, inr, map}
use Rattle.std.specs.Prelude.{Contains}
use Rattle.std.proofs.lemmas.Bool.{cases_lt}
use Rattle.st_frames.specs.Frames.{Known, LimitFrame, StreamMaxData, StreamMaxMoney, max_packet}
use Rattle.st_frames.specs.Told.{money_in}
use Rattle.st_sender.specs.Sending.{Load, Outgoing, Sending, outgoing_at}
use Rattle.st_sender.specs.Flights.{all_ends, flight_of, flown, flying_end, highest_end, sent_end}
use Rattle.st_sender.specs.Loads.{Sends, with_flight}
use Rattle.st_sender.specs.Filling.{Fills}
use Rattle.st_sender.specs.Answering.{after_fulfilled, landed}
use Rattle.st_receiver.specs.Limits.{capped}
use Rattle.st_world_quiet.specs.Quiet.{IsQuiet}
use Rattle.st_world_quiet.specs.Rounds.{IsSmall, PeerTells, TellsEnough}
use Rattle.st_world_quiet.proofs.Sums.{sum_below}
use Rattle.st_world_quiet.proofs.Acknowledging.{all_acked_at, all_acked_end, all_kept, all_own_acked, none_stays}
use Rattle.st_world_quiet.proofs.Money.{all_acked_paid}
use Rattle.st_world_quiet.proofs.Telling.{rest_all_acked}
use Rattle.st_world_quiet.proofs.EndRounds.{none_flies}
use Rattle.st_world_quiet.proofs.Counting.{data_within, end_moves, ends_move}

-- what was in flight is acknowledged
end_after : (s v : Sending) (fs : List Known) (k : ℕ) (o : Option Outgoing) → v.flights ≡ [] → outgoing_at s k ≡ o → (o ≡ None → outgoing_at v k ≡ None) → ((x : Outgoing) → o ≡ Some x → outgoing_at v k ≡ Some (all_own_acked k fs x))
    → max (sent_end v k (outgoing_at v k)) 0 ≤ max (sent_end s k o) (highest_end k (map flown fs))
end_after s v fs k None none e gone stays = let is = ap (sent_end v k) (gone refl) in omega (arith, is)
end_after s v fs k (Some x) none e gone stays =
    let is : sent_end v k (outgoing_at v k) ≡ max (all_own_acked k fs x).acked_end (flying_end k v.flights) = ap (sent_end v k) (stays x refl) in
    let flying : flying_end k v.flights ≡ 0 = ap (flying_end k) none in
    let end = all_acked_end k fs x in
    omega (arith, is, flying, end)

ends_after : (n : ℕ → ℕ) (s : Sending) (limits : List Known) (p : Load) → IsQuiet n s → Sends s limits max_packet p (with_flight s p) → all_ends (after_fulfilled (with_flight s p) (flight_of p)) [] ≤ all_ends s (map flown p.frames)
unfolding all_ends
ends_after n s limits p quiet sends =
    let u = landed (with_flight s p) p.sequence in
    let v = after_fulfilled (with_flight s p) (flight_of p) in
    let none : v.flights ≡ [] = (rest_all_acked n s u limits p.frames quiet sends.due).flights ∙ none_flies s p quiet.alone in
    sum_below
    (λ k. max (sent_end v k (outgoing_at v k)) (highest_end k []))
    (λ k. max (sent_end s k (outgoing_at s k)) (highest_end k (map flown p.frames)))
    (λ k. end_after s v p.frames k (outgoing_at s k) none refl (λ e. none_stays u k p.frames e) (λ x e. all_acked_at u k p.frames x e))
    0 65

window_after : (n : ℕ → ℕ) (s : Sending) (limits : List Known) (p : Load) (told : List Known) (k : ℕ) (y : Outgoing) (o : Option Outgoing) → IsQuiet n s → Sends s limits max_packet p (with_flight s p) → Fills s limits max_packet p → IsSmall s → PeerTells s p told
    → outgoing_at s k ≡ o → outgoing_at (after_fulfilled (with_flight s p) (flight_of p)) k ≡ Some y → (y.acked_end + 16000 ≤ y.told) ⊎ ((v : ℕ) × Contains told (LimitFrame (StreamMaxData k v)) × (y.acked_end + 16000 ≤ v))
window_after n s limits p told k y None quiet sends fills small tells e here =
    absurd (let gone = none_stays (landed (with_flight s p) p.sequence) k p.frames e in let clash : ◌≡◌ {A = Option Outgoing} None (Some y) = sym gone ∙ here in cc)
window_after n s limits p told k y (Some x) quiet sends fills small tells e here =
    let at = all_acked_at (landed (with_flight s p) p.sequence) k p.frames x e in
    let both : ◌≡◌ {A = Option Outgoing} (Some (all_own_acked k p.frames x)) (Some y) = sym at ∙ here in
    let is : all_own_acked k p.frames x ≡ y = cc in
    let end : y.acked_end ≡ max x.acked_end (highest_end k (map flown p.frames)) = sym (ap (λ (z : Outgoing). z.acked_end) is) ∙ all_acked_end k p.frames x in
    let window : y.told ≡ x.told = sym (ap (λ (z : Outgoing). z.told) is) ∙ (all_kept k p.frames x).told in
    let w = quiet.streams k x e in
    elim (cases_lt 0 (highest_end k (map flown p.frames))) [
      | inl named ↦ (let moves = end_moves n s limits p k x quiet sends fills e in
          let most = data_within k p.frames in
          let room = sends.fits.room_left in
          let within = w.within in
          let few = small.each k x e in
          let said = tells.windows k x e named in
          let above = said.2 in
          inr (said.0, said.1, capped_enough y.acked_end x.acked_end said.0 (omega (arith, end, moves, most, room)) (omega (arith, within, few)) above))
      | inr none ↦ (let had = w.window in inl (omega (arith, end, window, had, none)))
    ]
  where
    capped_enough : (new old v : ℕ) → new ≤ old + 32739 → old < 2 ^ 63 → capped (old + 65536) ≤ v → new + 16000 ≤ v
    capped_enough new old v a b c = omega arith

money_after : (n : ℕ → ℕ) (s : Sending) (p : Load) (told : List Known) (k receive_max total : ℕ) (y : Outgoing) (o : Option Outgoing) → PeerTells s p told → outgoing_at s k ≡ o → outgoing_at (after_fulfilled (with_flight s p) (flight_of p)) k ≡ Some y
    → Contains told (LimitFrame (StreamMaxMoney k receive_max total)) → total + y.offered ≤ receive_max + y.fulfilled
money_after n s p told k receive_max total y None tells e here c =
    absurd (let gone = none_stays (landed (with_flight s p) p.sequence) k p.frames e in let clash : ◌≡◌ {A = Option Outgoing} None (Some y) = sym gone ∙ here in cc)
money_after n s p told k receive_max total y (Some x) tells e here c =
    let at = all_acked_at (landed (with_flight s p) p.sequence) k p.frames x e in
    let both : ◌≡◌ {A = Option Outgoing} (Some (all_own_acked k p.frames x)) (Some y) = sym at ∙ here in
    let is : all_own_acked k p.frames x ≡ y = cc in
    let offered : y.offered ≡ x.offered = sym (ap (λ (z : Outgoing). z.offered) is) ∙ (all_kept k p.frames x).offered in
    let fulfilled : y.fulfilled ≡ x.fulfilled + money_in k p.frames = sym (ap (λ (z : Outgoing). z.fulfilled) is) ∙ all_acked_paid k p.frames x in
    let m = tells.money k receive_max total x e c in
    omega (arith, m, offered, fulfilled)

pub tells_enough : (n : ℕ → ℕ) (s : Sending) (limits : List Known) (p : Load) (told : List Known) → IsQuiet n s → Sends s limits max_packet p (with_flight s p) → Fills s limits max_packet p → IsSmall s → PeerTells s p told
    → TellsEnough (after_fulfilled (with_flight s p) (flight_of p)) told
tells_enough n s limits p told quiet sends fills small tells = record {
  connection = (
    tells.connection.0,
    tells.connection.1,
    (let after = ends_after n s limits p quiet sends in let moves = ends_move n s limits p quiet sends fills in let few = small.ends in let above = tells.connection.2 in capped_enough _ _ _ after moves few above),
  );
  windows = λ k y here. window_after n s limits p told k y (outgoing_at s k) quiet sends fills small tells refl here;
  money = λ k receive_max total y here c. money_after n s p told k receive_max total y (outgoing_at s k) tells refl here c;
}
  where
    capped_enough : {middle : ℕ} (new old v : ℕ) → new ≤ middle → middle ≤ old + 32739 → old < 2 ^ 63 → capped (old + 1048576) ≤ v → new + 16000 ≤ v
    capped_enough new old v a b c d = omega arith
