use Rattle.std.proofs.Common.{◌≡◌, ◌≤◌, ◌*◌}
use Rattle.ilpstream_local.specs.Sends.{all_frames}
use Rattle.ilpstream_local.proofs.sends.all_frames.Given as goal

abbrev pub invariant-loop-place : goal.invariant-loop-place
invariant-loop-place l = record {
  count : l.frames ≡ all_frames l.size l.bytes l.place;
  few : l.frames ≤ l.place * 1152921504606847;
}
