use Rattle.std.proofs.Common.{◌≡◌, ◌<◌, length, sym, ◌∙◌, arith, get_or}
use Rattle.std.proofs.lemmas.List.{length-set}
use Rattle.ilpstream_frames.proofs.Overs.{over-adopt, over-moved, moved_more}
use Rattle.ilpstream_frames.proofs.streams.Streams.adopt.Goals as goal

pub loop-place-preserved : goal.loop-place-preserved
loop-place-preserved g c =
    let draft : c.take-draft.result ≡ get_or c.loop-place.drafts.items c.loop-place.place c.take-draft.result = rw c.take-draft.ensures.value c.index_mut.ensures.value in
    let all : length c.self.inside.inboxes.items ≡ 64 = c.self.invariant in
    let here : c.loop-place.place < length c.loop-place.drafts.items = omega (arith, c.loop-place-test.true, c.len-place-end.ensures, all, c.self.inside.inboxes.ok, c.loop-place.invariant.drafted) in
    let same = over-adopt c.loop-place.drafts.items c.loop-place.self c.loop-place.place c.take-draft.result (c.loop-place.invariant.drafted ∙ sym c.loop-place.invariant.standing) here draft in
    record {
      drafted = length-set c.loop-place.drafts.items c.loop-place.place c.take-draft.new.self ∙ c.loop-place.invariant.drafted;
      standing = rw c.adopt_one.ensures (length-set c.loop-place.self c.loop-place.place _ ∙ c.loop-place.invariant.standing);
      moved = rw c.take-draft.ensures.after (moved_more c.loop-place.drafts.items c.loop-place.place here c.loop-place.invariant.moved);
      same = rw (c.take-draft.ensures.after, c.adopt_one.ensures) (same ∙ c.loop-place.invariant.same);
    }

pub returns : goal.returns
returns g c =
    let places : length c.self.inside.inboxes.items ≡ 64 = c.self.invariant in
    let all : c.loop-place.place ≡ 64 = omega (arith, c.loop-place-test.false, c.len-place-end.ensures, places, c.self.inside.inboxes.ok, c.loop-place.auto.place-end) in
    sym (over-moved c.loop-place.place c.loop-place.drafts.items c.loop-place.self c.loop-place.invariant.drafted c.loop-place.invariant.standing all c.loop-place.invariant.moved)
    ∙ c.loop-place.invariant.same
