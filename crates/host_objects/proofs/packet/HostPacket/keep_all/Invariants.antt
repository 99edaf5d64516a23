use Rattle.std.proofs.Common.{◌≡◌, ◌++◌, map}
use Rattle.host_objects.specs.Packets.{placed, AreKept}
use Rattle.host_objects.proofs.packet.HostPacket.keep_all.Given as goal

-- the frames that are kept so far and those to come are all; nothing else changes
abbrev pub invariant-loop-index : goal.invariant-loop-index
invariant-loop-index l = record {
  all : map placed l.self.frames.items ++ l.frames ≡ map placed l.fn.self.frames.items ++ l.fn.frames;
  kind : l.self.kind ≡ l.fn.self.kind;
  sequence : l.self.sequence ≡ l.fn.self.sequence;
  amount : l.self.amount ≡ l.fn.self.amount;
  output : l.self.output ≡ l.fn.self.output;
}
