use Rattle.ilpstream_frames.proofs.PiecesTold.{stand_for_more}
use Rattle.ilpstream_frames.proofs.streams.with_piece.Goals as goal

pub returns-in_default : goal.returns-in_default
returns-in_default c = stand_for_more c.args.pieces c.args.frame c.in_default.not-StreamData
