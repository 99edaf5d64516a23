use Rattle.std.proofs.Common.{◌≡◌, ◌+◌, ◌≤◌, map, drop, length}
use Rattle.st_frames.specs.Seen.{seen}
use Rattle.st_frames.specs.Written.{frames_text, packet_length}
use Rattle.st_frames.proofs.length.length_within.Given as goal

abbrev pub invariant-loop-frame : goal.invariant-loop-frame
invariant-loop-frame l = record {
  so_far : l.total + length (frames_text (map seen (drop l.frame-index l.frames))) ≡ packet_length l.sequence l.amount (map seen l.frames);
  short : l.total ≤ 32739;
}
