use Rattle.std.proofs.Common.{◌≤◌, vec_capacity, ◌++◌, ◌+◌, List, ℕ, map, drop, length, sym, ap, ◌∙◌, arith, append_assoc}
use Rattle.st_frames.specs.Seen.{seen}
use Rattle.st_frames.specs.Written.{frames_text}
use Rattle.st_frames.proofs.Puts.{writable_at, frames_text-next, fits-next, contents_short, room_next, room_left}
use Rattle.st_frames.proofs.writing.append_frames.Goals as goal

pub append_frame-requires : goal.append_frame-requires
append_frame-requires g c =
    let l = c.loop-frame in
    record {
      short = contents_short c.args.frames.now l.frame-index _ (omega arith) c.requires.short;
      room = room_next c.args.frames.now l.frame-index _ _ _ (omega arith) l.invariant.room;
    }

pub loop-frame-preserved : goal.loop-frame-preserved
loop-frame-preserved g c =
    let l = c.loop-frame in
    let rest : List ℕ = frames_text (map seen (drop (l.frame-index + 1) c.args.frames.now)) in
    let next = frames_text-next c.args.frames.now l.frame-index _ (omega arith) in
    record {
      so_far = ap (λ (x : List ℕ). x ++ rest) c.append_frame.ensures.text ∙ append_assoc _ _ rest ∙ ap (λ (x : List ℕ). l.out.items ++ x) (sym next) ∙ l.invariant.so_far;
      room =
          let before : length l.out.items + length (frames_text (map seen (drop l.frame-index c.args.frames.now))) ≤ vec_capacity l.out = omega (arith, l.out.ok.0, l.invariant.room) in
          let after = room_left c.args.frames.now l.frame-index _ l.out.items _ _ _ (omega arith) before c.append_frame.ensures.text c.append_frame.ensures.capacity in
          omega (arith, after, c.append_frame.new.out.ok.0);
      capacity = omega (arith, l.invariant.capacity, c.append_frame.ensures.capacity);
      fits = λ others. l.invariant.fits (fits-next c.args.frames.now l.frame-index _ (omega arith) (c.append_frame.ensures.fits (writable_at c.args.frames.now l.frame-index _ (omega arith) c.requires.writable)) others);
    }
