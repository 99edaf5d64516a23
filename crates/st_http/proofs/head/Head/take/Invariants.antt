use Rattle.std.proofs.Common.{◌≡◌, ◌<◌, ◌++◌, length, take}
use Rattle.st_http.specs.Head.{IsOpen, head_limit}
use Rattle.st_http.proofs.head.Head.take.Given as goal

abbrev pub invariant-loop-byte : goal.invariant-loop-byte
invariant-loop-byte g l = record {
  taken : l.taken ≡ l.byte-index;
  bytes : l.self ≡ l.fn.self ++ take l.byte-index l.piece;
  open_ : IsOpen l.self;
  short : length l.self < head_limit;
}
