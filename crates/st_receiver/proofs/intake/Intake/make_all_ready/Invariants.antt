use Rattle.std.proofs.Common.{◌≡◌, ◌||◌, ◌<◌, ℕ, map, true}
use Rattle.std.specs.List.{list_any}
use Rattle.st_frames.specs.Frames.{frame_of}
use Rattle.st_receiver.specs.Standing.{is_ready, opens}
use Rattle.st_receiver.proofs.intake.Intake.make_all_ready.Given as goal

abbrev pub invariant-loop-frame : goal.invariant-loop-frame
invariant-loop-frame g l = record {
  state : l.self.state ≡ l.fn.self.state;
  left : (k : ℕ) → list_any (opens k) (map frame_of l.fn.frames) ≡ true → (is_ready l.self k || list_any (opens k) (map frame_of l.frames)) ≡ true;
  within : (k : ℕ) → list_any (opens k) (map frame_of l.frames) ≡ true → k < 65;
}
