use Rattle.std.proofs.Common.{inl}
use Rattle.ilpstream_frames.proofs.Overs.{piece_put, piece_refused}
use Rattle.ilpstream_frames.proofs.streams.Streams.put_piece.Goals as goal

pub returns-in-Err-clause-refused : goal.returns-in-Err-clause-refused
returns-in-Err-clause-refused g c =
    inl (piece_refused c.args.drafts.now.items c.args.self.now c.args.stream c.in-Some.place c.args.offset c.args.bytes.now c.in_ok-inbox.inbox c.in-Err.error c.requires c.place_of.ensures.all
    c.in-Some.ensures.place.0 c.in-Some.ensures.place.1 c.in_ok-inbox.ensures.draft c.in-Err.ensures.answer.1)

pub returns-in-Ok-clause-put : goal.returns-in-Ok-clause-put
returns-in-Ok-clause-put g c =
    rw c.take_draft.ensures.taken
    (piece_put c.args.drafts.now.items c.args.self.now c.args.stream c.in-Some.place c.args.offset c.args.bytes.now c.in_ok-inbox.inbox c.insert.new.self c.requires c.place_of.ensures.all
    c.in-Some.ensures.place.0 c.in-Some.ensures.place.1 c.in_ok-inbox.ensures.draft c.in-Ok.ensures.answer)
