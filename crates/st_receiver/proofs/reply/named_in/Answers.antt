use Rattle.std.proofs.Common.{◌||◌, map, false, ap}
use Rattle.std.specs.List.{list_any}
use Rattle.std.proofs.lemmas.List.{get_or-replicate}
use Rattle.st_frames.specs.Frames.{frame_of}
use Rattle.st_frames.specs.Told.{names}
use Rattle.st_receiver.proofs.reply.named_in.Goals as goal

pub loop-frame-init : goal.loop-frame-init
loop-frame-init c k l = ap (λ b. b || list_any (names k) (map frame_of c.args.frames)) (get_or-replicate 65 k false false l)
