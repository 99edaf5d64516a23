use Rattle.std.proofs.Common.{◌≡◌, ◌+◌, ◌≤◌, ◌++◌, map, drop, length, vec_len, vec_capacity}
use Rattle.st_frames.specs.Seen.{seen}
use Rattle.st_frames.specs.Written.{frames_text, AllFit}
use Rattle.st_frames.proofs.writing.append_frames.Given as goal

abbrev pub invariant-loop-frame : goal.invariant-loop-frame
invariant-loop-frame g l = record {
  so_far : l.out.items ++ frames_text (map seen (drop l.frame-index l.frames)) ≡ l.initial.out.items ++ frames_text (map seen l.frames);
  room : vec_len l.out + length (frames_text (map seen (drop l.frame-index l.frames))) ≤ vec_capacity l.out;
  capacity : vec_capacity l.initial.out ≤ vec_capacity l.out;
  fits : AllFit (map seen (drop l.frame-index l.frames)) → AllFit (map seen l.frames);
}
