use Rattle.std.proofs.Common.{◌≡◌, ◌++◌, map, drop}
use Rattle.st_frames.specs.Seen.{seen}
use Rattle.host_objects.specs.Packets.{kept}
use Rattle.host_objects.proofs.packet.HostPacket.lent.Given as goal

-- the frames that are lent so far and those to come are all
abbrev pub invariant-loop-placed : goal.invariant-loop-placed
invariant-loop-placed l = map seen l.frames.items ++ map (λ p. kept p.frame) (drop l.placed-index l.placed-items) ≡ map (λ p. kept p.frame) l.placed-items
