-- Once all bytes and money are fulfilled a close by itself is a filled load: what a Send promises can be kept.
use Rattle.std.proofs.Common.{◌≡◌, ℕ, true, false, List, [], ◌∷◌, refl, arith, Some}
use Rattle.st_frames.specs.Frames.{Known, CloseFrame, StreamClose, max_packet}
use Rattle.st_sender.specs.Sending.{Outgoing, Sending, outgoing_at}
use Rattle.st_sender.specs.Flights.{due_at}
use Rattle.st_sender.specs.Loads.{Sends, load_with, with_flight}
use Rattle.st_sender.specs.Filling.{Fills}
use Rattle.st_world_quiet.specs.Quiet.{IsQuiet}
use Rattle.st_world_quiet.specs.Left.{all_frames_left, all_money_left}
use Rattle.st_world_quiet.proofs.Money.{all_free}
use Rattle.st_world_quiet.proofs.Going.{close_due, close_fits}
use Rattle.st_world_quiet.proofs.Lowering.{data_needs_bytes, no_bytes, no_money}

no_byte_due : (n : ℕ → ℕ) (s : Sending) (k o b : ℕ) (x : Outgoing) → IsQuiet n s → all_frames_left n s ≡ 0 → outgoing_at s k ≡ Some x → due_at s k x o ≡ Some b → ⊥
no_byte_due n s k o b x quiet none e due =
    let at = data_needs_bytes n s k o x b quiet e due in
    let acked = no_bytes n s k x quiet.slots none e in
    let w = (quiet.streams k x e).total in
    let from = at.0 in let till = at.1 in
    omega (arith, from, till, acked, w)

pub close_goes : (n : ℕ → ℕ) (s : Sending) (limits : List Known) (k : ℕ) (x : Outgoing) → IsQuiet n s → all_frames_left n s ≡ 0 → all_money_left s ≡ 0 → outgoing_at s k ≡ Some x → x.clean_settled ≡ false
    → Sends s limits max_packet (load_with s ((CloseFrame (StreamClose k 1 [])) ∷ [])) (with_flight s (load_with s ((CloseFrame (StreamClose k 1 [])) ∷ []))) × Fills s limits max_packet (load_with s ((CloseFrame (StreamClose k 1 [])) ∷ []))
close_goes n s limits k x quiet none poor e unsettled = (
  record {
    load = refl;
    some = λ z. absurd (cc);
    due = (close_due n s limits k x quiet e (no_bytes n s k x quiet.slots none e) (no_money s k x quiet.slots poor e) unsettled, tt);
    apart = (tt, tt);
    money = λ j y open_at. omega arith;
    fits = close_fits n s k quiet;
    after = refl;
  },
  record {
    bytes = λ j o fly. absurd (no_byte_due n s j o fly.byte fly.stream quiet none fly.is_open fly.due);
    gapless = λ j q b y open_at due low. absurd (no_byte_due n s j q b y quiet none open_at due);
    money = (let free = all_free n s quiet in omega (arith, free, poor));
    worded = λ silent f work due fits. (let clash : true ≡ false = silent in cc);
  },
)
