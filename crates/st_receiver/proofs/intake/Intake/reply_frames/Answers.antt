use Rattle.std.proofs.Common.{◌≡◌, ◌<◌, ◌∙◌, ℕ, length, map, false, get_or, sym, ap, subst}
use Rattle.std.specs.Prelude.{IfSome}
use Rattle.std.specs.List.{list_any}
use Rattle.std.specs.Option.{option_copied}
use Rattle.st_frames.specs.Frames.{frame_of, frames_of}
use Rattle.st_frames.specs.Packets.{packet_of}
use Rattle.st_frames.specs.Told.{names}
use Rattle.st_receiver.specs.Streams.{incoming_at, credited_of}
use Rattle.st_receiver.specs.Data.{after_frames}
use Rattle.st_receiver.specs.Money.{after_money}
use Rattle.st_receiver.specs.Judged.{after_all}
use Rattle.st_receiver.specs.Standing.{Standing}
use Rattle.st_receiver.specs.Decided.{IsPlanFor, state_by}
use Rattle.st_receiver.specs.Limits.{connection_limit, reply_frames}
use Rattle.st_receiver.proofs.Answering.{if_ok}
use Rattle.st_receiver.proofs.Crediting.{lawful_of}
use Rattle.st_receiver.proofs.Rows.{told_reply, told_effect}
use Rattle.st_receiver.proofs.intake.Intake.reply_frames.Goals as goal

pub returns-in-Some-clause-told : goal.returns-in-Some-clause-told
returns-in-Some-clause-told g c =
    let p = packet_of c.args.packet.now in
    let r = c.args.self.now.state in
    let amount = c.in-Some.plan.now.amount in
    let len : length r.streams ≡ 65 = ap (λ (t : Standing). length t.state.streams) (sym c.self.view_is) ∙ c.self.invariant.0 in
    let plan = subst (λ o. IfSome (option_copied o) (IsPlanFor c.args.self.now p)) c.in-Some.is c.requires.plan in
    let limit = c.limit_after-limit.ensures amount ∙ ap (λ fs. connection_limit (after_all r amount (map frame_of fs))) c.again-in-Some.ensures in
    let totals : (k : ℕ) → k < 65 → get_or c.totals_after-totals.result k 0 ≡ (incoming_at (after_money (after_frames r (frames_of p)) amount (frames_of p)) k).credited =
    λ k l. c.totals_after-totals.ensures k l ∙ ap (λ fs. (incoming_at (after_money (after_frames r (map frame_of fs)) amount (map frame_of fs)) k).credited) c.again-in-Some-2.ensures in
    let named : (k : ℕ) → k < 65 → get_or c.named_in-named.result k false ≡ list_any (names k) (frames_of p) = λ k l. c.named_in-named.ensures k l ∙ ap (λ fs. list_any (names k) (map frame_of fs)) c.again.ensures in
    let told = told_effect r p amount c.limit_after-limit.result c.named_in-named.result c.totals_after-totals.result len (lawful_of r p amount plan.lawful).0 limit totals named in
    let then = ap (λ o. reply_frames (state_by r p (option_copied o)) (frames_of p)) (sym c.in-Some.is) in
    if_ok c.told.result (λ frames e. e ∙ told ∙ then) c.told.ensures.told

pub returns-in-None-clause-told : goal.returns-in-None-clause-told
returns-in-None-clause-told g c =
    let p = packet_of c.args.packet.now in
    let r = c.args.self.now.state in
    let totals = c.all_credited.ensures ∙ ap (λ (t : Standing). map credited_of t.state.streams) c.self.view_is in
    let named : (k : ℕ) → k < 65 → get_or c.named_in-named.result k false ≡ list_any (names k) (frames_of p) = λ k l. c.named_in-named.ensures k l ∙ ap (λ fs. list_any (names k) (map frame_of fs)) c.again.ensures in
    let now = ap (λ o. reply_frames (state_by r p (option_copied o)) (frames_of p)) (sym c.in-None.is) in
    if_ok c.told-in-None.result (λ frames e. e ∙ told_reply r c.connection_limit.result c.named_in-named.result c.all_credited.result (frames_of p) c.connection_limit.ensures totals named ∙ now) c.told-in-None.ensures.told
