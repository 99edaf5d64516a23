use Rattle.std.proofs.Common.{map, take}
use Rattle.std.specs.List.{AllByRecursion}
use Rattle.ilpstream_settings.specs.Faults.{IsGood}
use Rattle.ilpstream_settings.specs.Table.{words_of}
use Rattle.ilpstream_settings.proofs.fault.first_fault.Given as goal

abbrev pub invariant-loop-index : goal.invariant-loop-index
invariant-loop-index g l = AllByRecursion (λ w. IsGood (words_of w)) (map (λ w. w.now) (take l.index l.lines))
