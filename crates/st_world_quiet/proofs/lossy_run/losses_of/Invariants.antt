use Rattle.std.proofs.Common.{◌≡◌, ◌<◌, ◌^◌, take}
use Rattle.st_world_quiet.specs.Fates.{all_lost}
use Rattle.st_world_quiet.proofs.lossy_run.losses_of.Given as goal

abbrev pub invariant-loop-fate : goal.invariant-loop-fate
invariant-loop-fate l = all_lost (take l.fate-index l.fates) < 2 ^ 64 → l.lost ≡ all_lost (take l.fate-index l.fates)
