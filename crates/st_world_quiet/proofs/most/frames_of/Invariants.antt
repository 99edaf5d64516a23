use Rattle.std.proofs.Common.{◌≡◌, ◌<◌, ◌^◌, take}
use Rattle.st_world_quiet.specs.Plays.{all_frames}
use Rattle.st_world_quiet.specs.Playing.{bytes_of}
use Rattle.st_world_quiet.proofs.most.frames_of.Given as goal

abbrev pub invariant-loop-bytes : goal.invariant-loop-bytes
invariant-loop-bytes l = all_frames (bytes_of (take l.bytes-index l.input)) < 2 ^ 64 → l.frames ≡ all_frames (bytes_of (take l.bytes-index l.input))
