use Rattle.std.proofs.Common.{◌≡◌, ◌<◌, ℕ, length, get_or, None}
use Rattle.ilpstream_frames.specs.Drafts.{over}
use Rattle.ilpstream_frames.proofs.streams.Streams.adopt.Given as goal

abbrev pub invariant-loop-place : goal.invariant-loop-place
invariant-loop-place g l = record {
  drafted : length l.drafts.items ≡ 64;
  standing : length l.self ≡ 64;
  moved : (k : ℕ) → k < l.place → get_or l.drafts.items k None ≡ None;
  same : over l.drafts.items l.self ≡ over l.fn.drafts.items l.fn.self;
}
