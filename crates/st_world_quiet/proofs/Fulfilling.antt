-- A receiver that is abreast, or ahead, fulfills each outgoing packet.
use Rattle.std.proofs.Common.{◌≡◌, ℕ, ◌+◌, ◌-◌, ◌^◌, ◌≤◌, Bool, false, cond, List, min, refl, sym, ap, subst, ◌∙◌, arith, Option, None, Some, nat_lt}
use Rattle.std.specs.Option.{option_or}
use Rattle.std.specs.FinSet.{contains}
use Rattle.std.specs.List.{sum_by}
use Rattle.std.proofs.lemmas.Bool.Decides.{nat_tests}
use Rattle.st_oer.specs.Ratios.{exchanged}
use Rattle.st_frames.specs.Frames.{Known, Packet, max_packet}
use Rattle.st_frames.specs.Told.{shares_of}
use Rattle.st_sender.specs.Sending.{Load, Sending}
use Rattle.st_sender.specs.Loads.{Sends, least_of, with_flight}
use Rattle.st_sender.specs.Filling.{Fills}
use Rattle.st_receiver.specs.declared.reason.Reason.{Reason}
use Rattle.st_receiver.specs.declared.reason.Reason.TheVariants.{Repeated, AmountTooSmall, ConnectionClosed}
use Rattle.st_receiver.specs.Streams.{Receiving}
use Rattle.st_receiver.specs.Data.{after_frames, frames_fault}
use Rattle.st_receiver.specs.Money.{money_fault}
use Rattle.st_receiver.specs.Judged.{fault_of}
use Rattle.st_world_quiet.specs.Quiet.{IsQuiet}
use Rattle.st_world_quiet.specs.Mirrored.{IsAhead, IsPacketOf, Tally}
use Rattle.st_world_quiet.proofs.Money.{whole_arrives}
use Rattle.st_world_quiet.proofs.Credited.{load_money}
use Rattle.st_world_quiet.proofs.Taken.{load_taken}

no_rule_broken : (closed seen small : Bool) (a b : Option Reason) → closed ≡ false → seen ≡ false → small ≡ false → a ≡ None → b ≡ None
    → cond closed (Some ConnectionClosed) (cond seen (Some Repeated) (cond small (Some AmountTooSmall) (option_or a b))) ≡ None
no_rule_broken closed seen small a b c d e f g = rw (c, d, e, f, g) refl

least_most : (n : ℕ → ℕ) (s : Sending) (limits : List Known) (p : Load) → IsQuiet n s → Sends s limits max_packet p (with_flight s p) → p.least ≤ p.amount
least_most n s limits p quiet sends =
    let amount : p.amount ≡ sum_by shares_of p.frames = ap (λ (z : Load). z.amount) sends.load in
    let least : p.least ≡ least_of s (sum_by shares_of p.frames) = ap (λ (z : Load). z.least) sends.load in
    at_most p.least p.amount (sum_by shares_of p.frames) (exchanged s.config.least (sum_by shares_of p.frames)) amount least (whole_arrives s.config.least (sum_by shares_of p.frames) quiet.whole)
  where
    at_most : (least amount all arrives : ℕ) → amount ≡ all → least ≡ min (2 ^ 64 - 1) arrives → arrives ≡ all → least ≤ amount
    at_most least amount all arrives a b c = omega (arith, a, b, c)

pub load_fulfilled : {c : Tally} (n : ℕ → ℕ) (s : Sending) (limits : List Known) (p : Load) (q : Packet) (r : Receiving) → IsQuiet n s → Sends s limits max_packet p (with_flight s p) → Fills s limits max_packet p → IsAhead n c s r → IsPacketOf p q → fault_of r q p.amount ≡ None
load_fulfilled n s limits p q r quiet sends fills abreast is =
    let next : q.sequence ≡ s.last + 1 = is.sequence ∙ ap (λ (z : Load). z.sequence) sends.load in
    let few = least_most n s limits p quiet sends in
    let least = is.amount in
    no_rule_broken r.closed (contains r.fulfilled q.sequence) (nat_lt p.amount q.amount) _ _
    abreast.unclosed
    (abreast.later q.sequence (omega (arith, next)))
    (not_small p.amount q.amount (omega (arith, few, least)))
    (subst (λ fs. frames_fault r fs ≡ None) (sym is.frames) (load_taken n s limits p r quiet sends fills abreast))
    (subst (λ fs. money_fault (after_frames r fs) p.amount fs ≡ None) (sym is.frames) (load_money n s limits p r quiet sends abreast))
  where
    not_small : (amount least : ℕ) → least ≤ amount → nat_lt amount least ≡ false
    not_small amount least l = grind (arith, nat_tests)
