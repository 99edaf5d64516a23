use Rattle.std.proofs.Common.{◌≡◌, ◌+◌, ℕ, false, sym, subst, ◌∙◌, arith}
use Rattle.st_world_parts.specs.Sides.{Client}
use Rattle.ilpstream_local.specs.Playing.{is_lost}
use Rattle.ilpstream_local.specs.Schedule.{arrived}
use Rattle.ilpstream_local.proofs.Rounds.{arrived_few, arrived_more, begins_on, goes_on}
use Rattle.ilpstream_local.proofs.Stops.{on_err, on_ok}
use Rattle.ilpstream_local.proofs.chain.follow.Goals as goal

pub returns-clause-counted : goal.returns-clause-counted
returns-clause-counted g c =
    let lose = c.args.play.now.asked.lose in
    let sent = c.args.counts.now.sent in
    let stays : is_lost Client lose (sent + 1) ≡ false = subst (λ (n : ℕ). is_lost Client n (sent + 1) ≡ false) c.lose.ensures (sym c.is_lost.ensures ∙ c.if-is_lost.false) in
    let more = arrived_more Client lose sent stays in
    let few = arrived_few Client lose sent in
    let counted : c.saturating_add-counts.result ≡ arrived Client lose (sent + 1) = omega (arith, c.saturating_add-counts.ensures, c.requires.counted, c.requires.few, more, few) in
    counted

pub returns-clause-goes : goal.returns-clause-goes
returns-clause-goes g c =
    let lose = c.args.play.now.asked.lose in
    let sent = c.args.counts.now.sent in
    let stays : is_lost Client lose (sent + 1) ≡ false = subst (λ (n : ℕ). is_lost Client n (sent + 1) ≡ false) c.lose.ensures (sym c.is_lost.ensures ∙ c.if-is_lost.false) in
    let more = arrived_more Client lose sent stays in
    let few = arrived_few Client lose sent in
    let counted : c.saturating_add-counts.result ≡ arrived Client lose (sent + 1) = omega (arith, c.saturating_add-counts.ensures, c.requires.counted, c.requires.few, more, few) in
    on_ok c.cross.result _ _ (goes_on Client (sent + 1) c.saturating_add-counts.result c.args.play.now c.cross.new.play stays counted) c.cross.ensures.crosses

pub returns-clause-begun : goal.returns-clause-begun
returns-clause-begun g c =
    let lose = c.args.play.now.asked.lose in
    let sent = c.args.counts.now.sent in
    let stays : is_lost Client lose (sent + 1) ≡ false = subst (λ (n : ℕ). is_lost Client n (sent + 1) ≡ false) c.lose.ensures (sym c.is_lost.ensures ∙ c.if-is_lost.false) in
    let more = arrived_more Client lose sent stays in
    let few = arrived_few Client lose sent in
    let counted : c.saturating_add-counts.result ≡ arrived Client lose (sent + 1) = omega (arith, c.saturating_add-counts.ensures, c.requires.counted, c.requires.few, more, few) in
    on_err c.cross.result _ _ (begins_on Client (sent + 1) c.saturating_add-counts.result c.args.play.now c.cross.new.play stays counted) c.cross.ensures.begun
