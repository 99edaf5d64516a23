use Rattle.std.proofs.Common.{◌<◌, ◌≤◌, ◌+◌, ◌^◌, ◌∙◌, List, ℕ, map, set, get_or, refl, sym, ap, subst, arith}
use Rattle.std.specs.Prelude.{sum}
use Rattle.std.proofs.lemmas.List.{length-set}
use Rattle.st_frames.specs.Frames.{frame_of}
use Rattle.st_frames.specs.Seen.{seen_at}
use Rattle.st_frames.specs.Told.{shares}
use Rattle.st_receiver.specs.Inside.{with_all_shares}
use Rattle.st_receiver.proofs.Splits.{sum-set, all_grow, shares-nil, shares_are, shares_step}
use Rattle.st_receiver.proofs.money.shares_in.Goals as goal

pub loop-frame-init : goal.loop-frame-init
loop-frame-init c = record { size = refl; total = refl; fits = omega arith; same = shares_are (map frame_of c.args.frames) }

pub returns-in_default-checked_add : goal.returns-in_default-checked_add
returns-in_default-checked_add c =
    let i = c.loop-frame.invariant in
    let ms = c.loop-frame.all in
    let k = c.in-Some-shares_of.k in
    let n = c.in-Some-shares_of.shares in
    let after = set ms k (get_or ms k 0 + n) in
    let e = shares_step ms after c.loop-frame.frames c.next.new.self (seen_at (c.in-Some.field-0-0, c.in-Some.frame)) (map frame_of c.args.frames) c.in-Some.ensures.steps (c.in-Some-shares_of.ensures.shares ms i.size) i.same in
    let a = sum-set ms k n (let w = c.in-Some-shares_of.ensures.within in omega (arith, w, i.size)) in
    let b : sum after ≤ sum (shares (map frame_of c.args.frames)) = subst (λ (xs : List ℕ). sum after ≤ sum xs) e (all_grow after (map frame_of c.next.new.self)) in
    let past = c.in_default-checked_add.ensures in
    omega (arith, a, b, i.total, past)

pub loop-frame-preserved-in-Some-shares_of : goal.loop-frame-preserved-in-Some-shares_of
loop-frame-preserved-in-Some-shares_of c =
    let i = c.loop-frame.invariant in
    let ms = c.loop-frame.all in
    let k = c.in-Some-shares_of.k in
    let n = c.in-Some-shares_of.shares in
    let after = set ms k (get_or ms k 0 + n) in
    let a = sum-set ms k n (let w = c.in-Some-shares_of.ensures.within in omega (arith, w, i.size)) in
    let more = c.in-Some-checked_add.ensures in
    record {
      size = length-set ms k (get_or ms k 0 + n) ∙ i.size;
      total = omega (arith, a, more.1, i.total);
      fits = omega (arith, more.0, more.1);
      same = shares_step ms after c.loop-frame.frames c.next.new.self (seen_at (c.in-Some.field-0-0, c.in-Some.frame)) (map frame_of c.args.frames) c.in-Some.ensures.steps (c.in-Some-shares_of.ensures.shares ms i.size) i.same;
    }

pub loop-frame-preserved : goal.loop-frame-preserved
loop-frame-preserved c =
    let i = c.loop-frame.invariant in
    record {
      size = i.size;
      total = i.total;
      fits = i.fits;
      same = shares_step c.loop-frame.all c.loop-frame.all c.loop-frame.frames c.next.new.self (seen_at (c.in-Some.field-0-0, c.in-Some.frame)) (map frame_of c.args.frames) c.in-Some.ensures.steps (c.in_default-shares_of.ensures.shares c.loop-frame.all i.size) i.same;
    }

pub returns : goal.returns
returns c =
    let i = c.loop-frame.invariant in
    (sym (shares-nil c.loop-frame.all) ∙ ap (λ fs. with_all_shares c.loop-frame.all (map frame_of fs)) (sym c.in_default.ensures.steps.0) ∙ i.same, subst (λ n. n < 2 ^ 64) i.total i.fits)
