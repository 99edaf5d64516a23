-- What a round takes of the money that is left is credited.
use Rattle.std.proofs.Common.{◌≡◌, ℕ, zero, suc, ◌+◌, List, sym, ap, subst, ◌∙◌, arith}
use Rattle.st_frames.specs.Frames.{Known, Packet, frames_of, max_packet}
use Rattle.st_sender.specs.Sending.{Load, Sending}
use Rattle.st_sender.specs.Loads.{Sends, with_flight}
use Rattle.st_receiver.specs.Streams.{Receiving}
use Rattle.st_receiver.specs.Judged.{after_all, effect}
use Rattle.st_receiver.specs.Limits.{reply_frames}
use Rattle.st_end.specs.State.{EndState}
use Rattle.st_world_quiet.specs.Quiet.{IsQuiet}
use Rattle.st_world_quiet.specs.Left.{all_money_left}
use Rattle.st_world_quiet.specs.Mirrored.{IsPacketOf}
use Rattle.st_world_quiet.specs.Exchanges.{Exchange, IsModest}
use Rattle.st_world_quiet.specs.Calls.{lengths}
use Rattle.st_world_quiet.specs.Trips.{Turns}
use Rattle.st_world_quiet.proofs.EndRounds.{round_spends}
use Rattle.st_world_quiet.proofs.Staying.{effect_credit}
use Rattle.st_world_quiet.specs.Chains.{Stands}
use Rattle.st_world_quiet.proofs.HopRuns.{turn_exchange, turn_stands}

pub load_credited : (s : Sending) (limits : List Known) (p : Load) (q : Packet) (r : Receiving) → Sends s limits max_packet p (with_flight s p) → IsPacketOf p q → (effect r q p.amount).credit ≡ r.credit + p.amount
load_credited s limits p q r sends is = subst (λ fs. (after_all r p.amount fs).credit ≡ r.credit + p.amount) (sym is.frames) (effect_credit s limits r p.amount p.frames sends.due)

pub exchange_credits : (n : ℕ → ℕ) (s : Sending) (r : Receiving) (t : Sending) (u : Receiving) → IsQuiet n s → Exchange n s r t u → u.credit + all_money_left t ≡ r.credit + all_money_left s
exchange_credits n s r t u quiet x =
    let spends = round_spends n s t x.limits x.load (reply_frames (effect r x.packet x.load.amount) (frames_of x.packet)) quiet x.sends x.writes in
    adds _ _ _ _ _ (x.reads.credit ∙ load_credited s x.limits x.load x.packet r x.sends x.carries) spends.money
  where
    adds : (now had amount left before : ℕ) → now ≡ had + amount → left + amount ≡ before → now + left ≡ had + before
    adds now had amount left before a b = omega arith

pub turns_credit : (input : ℕ → List ℕ) (limit m : ℕ) (e f g h : EndState) → IsModest (lengths input) → Stands input e f → Turns input limit m e f g h → h.receiving.credit + all_money_left g.sending ≡ f.receiving.credit + all_money_left e.sending
turns_credit input limit zero e f g h modest s run =
    let credit : h.receiving.credit ≡ f.receiving.credit = ap (λ (z : EndState). z.receiving.credit) run.1 in
    let left : all_money_left g.sending ≡ all_money_left e.sending = ap (λ (z : EndState). all_money_left z.sending) run.0 in
    omega (arith, credit, left)
turns_credit input limit (suc m) e f g h modest s run =
    turns_credit input limit m run.0 run.1 g h modest (turn_stands input limit e f run.0 run.1 modest s run.2) run.3
    ∙ exchange_credits (lengths input) e.sending f.receiving run.0.sending run.1.receiving s.quiet (turn_exchange input limit e f run.0 run.1 modest s run.2)
