use Rattle.std.proofs.Common.{List, ℕ, sym, subst, arith}
use Rattle.st_aes.specs.Planes.{HasPads}
use Rattle.st_aes.proofs.Streams.{fewer_pads, pads_in_front}
use Rattle.st_aes.proofs.gcm.last_pads.Goals as goal

pub returns-then-count-gt128 : goal.returns-then-count-gt128
returns-then-count-gt128 c = fewer_pads c.args.key.now c.args.iv c.wide_pads.result c.args.first 256 c.args.count (omega arith) c.wide_pads.ensures

pub returns : goal.returns
returns c =
    let key = c.args.key.now in
    let iv = c.args.iv in
    let first = c.args.first in
    let front = c.copy_from_slice.new.self in
    let copied = subst (λ (p : List ℕ). HasPads p key iv first 128) (sym c.copy_from_slice.ensures.after) c.pads.ensures in
    pads_in_front key iv front _ first c.args.count (fewer_pads key iv front first 128 c.args.count (omega arith) copied)
