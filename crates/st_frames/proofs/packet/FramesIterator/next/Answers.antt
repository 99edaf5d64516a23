use Rattle.std.proofs.Common.{◌≡◌, ◌-◌, ◌+◌, [], Option, Some, None, Ok, option_map, sym, ap, ◌∙◌, arith, rules}
use Rattle.st_frames.specs.declared.frame.Frame.{Frame}
use Rattle.st_frames.specs.Seen.{seen}
use Rattle.st_frames.specs.Reading.{frame_at, frames_at, all_of}
use Rattle.st_frames.proofs.FramesLemmas.{frames_next, frames_none, no_fault, with_first_some, with_first_none}
use Rattle.st_frames.proofs.packet.FramesIterator.next.Goals as goal

pub invariant_of-self-in_default : goal.invariant_of-self-in_default
invariant_of-self-in_default c =
    let i = c.loop-self.self-inside in
    absurd (no_fault i.left i.index i.bytes.now _ _ (omega arith) c.loop-self.invariant.same c.in_default.ensures)

pub returns-in_default-clause-steps : goal.returns-in_default-clause-steps
returns-in_default-clause-steps c =
    let i = c.loop-self.self-inside in
    absurd (no_fault i.left i.index i.bytes.now _ _ (omega arith) c.loop-self.invariant.same c.in_default.ensures)

pub invariant_of-self-in-Some : goal.invariant_of-self-in-Some
invariant_of-self-in-Some c =
    let i = c.loop-self.self-inside in
    let h : frame_at i.index i.bytes.now ≡ Ok (Some (seen c.in-Some.frame), c.in-Ok.rest.now) = c.in-Ok.ensures ∙ ap (λ (k : Option Frame). Ok (option_map seen k, c.in-Ok.rest.now)) c.in-Some.is in
    let n = frames_next i.left i.index i.bytes.now c.in-Ok.rest.now (Some (seen c.in-Some.frame)) (omega arith) h in
    let s = with_first_some i.index (seen c.in-Some.frame) (frames_at (i.left - 1) (i.index + 1) c.in-Ok.rest.now) _ (sym n ∙ c.loop-self.invariant.same) in
    (s.0, omega (arith, c.loop-self.invariant.below))

pub returns-in-Some-clause-steps : goal.returns-in-Some-clause-steps
returns-in-Some-clause-steps c =
    let i = c.loop-self.self-inside in
    let h : frame_at i.index i.bytes.now ≡ Ok (Some (seen c.in-Some.frame), c.in-Ok.rest.now) = c.in-Ok.ensures ∙ ap (λ (k : Option Frame). Ok (option_map seen k, c.in-Ok.rest.now)) c.in-Some.is in
    let n = frames_next i.left i.index i.bytes.now c.in-Ok.rest.now (Some (seen c.in-Some.frame)) (omega arith) h in
    let s = with_first_some i.index (seen c.in-Some.frame) (frames_at (i.left - 1) (i.index + 1) c.in-Ok.rest.now) _ (sym n ∙ c.loop-self.invariant.same) in
    s.1

pub returns-in-Some-clause-goes : goal.returns-in-Some-clause-goes
returns-in-Some-clause-goes c =
    let i = c.loop-self.self-inside in
    let h : frame_at i.index i.bytes.now ≡ Ok (Some (seen c.in-Some.frame), c.in-Ok.rest.now) = c.in-Ok.ensures ∙ ap (λ (k : Option Frame). Ok (option_map seen k, c.in-Ok.rest.now)) c.in-Some.is in
    let n = frames_next i.left i.index i.bytes.now c.in-Ok.rest.now (Some (seen c.in-Some.frame)) (omega arith) h in
    let s = with_first_some i.index (seen c.in-Some.frame) (frames_at (i.left - 1) (i.index + 1) c.in-Ok.rest.now) _ (sym n ∙ c.loop-self.invariant.same) in
    rw s.1 (search rules)

pub loop-self-preserved : goal.loop-self-preserved
loop-self-preserved c =
    let i = c.loop-self.self-inside in
    let h : frame_at i.index i.bytes.now ≡ Ok (None, c.in-Ok.rest.now) = c.in-Ok.ensures ∙ ap (λ (k : Option Frame). Ok (option_map seen k, c.in-Ok.rest.now)) c.in_default-known.is in
    let n = frames_next i.left i.index i.bytes.now c.in-Ok.rest.now None (omega arith) h in
    let skip = with_first_none i.index (frames_at (i.left - 1) (i.index + 1) c.in-Ok.rest.now) in
    record { same = sym (n ∙ skip) ∙ c.loop-self.invariant.same; below = omega (arith, c.loop-self.invariant.below) }

pub returns-clause-steps : goal.returns-clause-steps
returns-clause-steps c =
    let i = c.loop-self.self-inside in
    let n = frames_none i.left i.index i.bytes.now (omega arith) in
    let same = c.loop-self.invariant.same in
    let empty : c.args.self.now ≡ [] = cc in
    (empty, ap all_of n)
