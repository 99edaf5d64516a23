use Rattle.std.proofs.Common.{◌≡◌, ◌<◌, ◌^◌, length, map}
use Rattle.std.specs.Prelude.{sum}
use Rattle.st_frames.specs.Frames.{frame_of}
use Rattle.st_frames.specs.Told.{shares}
use Rattle.st_receiver.specs.Inside.{with_all_shares}
use Rattle.st_receiver.proofs.money.shares_in.Given as goal

abbrev pub invariant-loop-frame : goal.invariant-loop-frame
invariant-loop-frame l = record {
  size : length l.all ≡ 65;
  total : l.total ≡ sum l.all;
  fits : l.total < 2 ^ 64;
  same : with_all_shares l.all (map frame_of l.frames) ≡ shares (map frame_of l.fn.frames);
}
