use Rattle.std.proofs.Common.{◌≡◌, ℕ, ◌<◌, Bool, true, false, sym, arith}
use Rattle.std.specs.Prelude.{MatchBool}
use Rattle.st_end.specs.State.{EndState}
use Rattle.st_end.specs.Calls.{has_stream}
use Rattle.st_hub.specs.Handing.{IsStream}
use Rattle.st_hub.proofs.adding.is_stream.Goals as goal

matches : (b : Bool) (e : EndState) (k : ℕ) → 0 < k → k < 65 → b ≡ has_stream e k → MatchBool b (IsStream e k) (¬ (IsStream e k))
matches true e k above below is = (above, below, sym is)
matches false e k above below is = λ h. absurd (let f : has_stream e k ≡ true = h.2 in cc)

pub returns : goal.returns
returns g c =
    let n = c.number.ensures in
    matches c.has_stream.result c.args.core.now c.args.stream (omega (arith, n.number, n.bounds.0)) (omega (arith, n.number, n.bounds.1)) c.has_stream.ensures
