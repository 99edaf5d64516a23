use Rattle.std.proofs.Common.{◌≡◌}
use Rattle.std.specs.Prelude.{map}
use Rattle.std.specs.List.{list_all}
use Rattle.st_http.specs.Length.{number, is_number_of}
use Rattle.st_http.proofs.length.all_write.Given as goal

abbrev pub invariant-loop-value : goal.invariant-loop-value
invariant-loop-value l =
    list_all (is_number_of (number l.digits)) (map (λ v. v.bytes) l.value-iterator) ≡ list_all (is_number_of (number l.digits)) (map (λ v. v.bytes) l.fn.values)
