use Rattle.std.proofs.Common.{◌≡◌, map, take, true}
use Rattle.ilpstream_settings.specs.Whole.{are_routes, prefixes_of, routes_of}
use Rattle.ilpstream_settings.proofs.whole.routes_fault.Given as goal

abbrev pub invariant-loop-index : goal.invariant-loop-index
invariant-loop-index g l = record {
  prefixes : map (λ k. k.now) l.prefixes.keys ≡ prefixes_of (routes_of (take l.index l.routes));
  good : are_routes l.accounts (routes_of (take l.index l.routes)) ≡ true;
}
