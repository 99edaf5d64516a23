use Rattle.std.proofs.Common.{◌≡◌, ◌<◌, length, set, Option, Some, sym, ap, ◌∙◌, arith}
use Rattle.std.specs.Prelude.{Ok}
use Rattle.std.specs.Option.{unwrap_or}
use Rattle.std.proofs.lemmas.List.{length-set, set-set}
use Rattle.st_reassembly.specs.Held.{Held, nothing_held}
use Rattle.ilpstream_frames.specs.Inboxes.{Inboxes}
use Rattle.ilpstream_frames.proofs.OnePiece.{if_err, not_ok, no_room, put_back, put_there, refused_there, set_there}
use Rattle.ilpstream_frames.proofs.Progressing.{on_err}
use Rattle.ilpstream_frames.proofs.streams.Streams.put_one.Goals as goal

pub index_mut-requires : goal.index_mut-requires
index_mut-requires g c =
    let all : length c.self.inside.inboxes.items ≡ 64 = c.self.invariant in
    omega (arith, c.in-Some.ensures.place.2, all, c.self.inside.inboxes.ok)

pub index_mut-requires-2 : goal.index_mut-requires-2
index_mut-requires-2 g c =
    let all : length c.self.inside.inboxes.items ≡ 64 = c.self.invariant in
    omega (arith, c.in-Some.ensures.place.2, all, c.self.inside.inboxes.ok)

pub invariant_of-self : goal.invariant_of-self
invariant_of-self g c = length-set c.self.inside.inboxes.items c.in-Some.place (Some c.insert.new.self) ∙ c.self.invariant

pub invariant_of-self-in-Some-index_mut : goal.invariant_of-self-in-Some-index_mut
invariant_of-self-in-Some-index_mut g c = length-set c.self.inside.inboxes.items c.in-Some.place (Some c.insert.new.self) ∙ c.self.invariant

pub invariant_of-self-in_err-inbox : goal.invariant_of-self-in_err-inbox
invariant_of-self-in_err-inbox g c = length-set c.self.inside.inboxes.items c.in-Some.place c.index_mut.result.now ∙ c.self.invariant

pub invariant_of-self-in_err-insert-2 : goal.invariant_of-self-in_err-insert-2
invariant_of-self-in_err-insert-2 g c = length-set c.self.inside.inboxes.items c.in-Some.place c.index_mut.result.now ∙ c.self.invariant

pub invariant_of-self-2 : goal.invariant_of-self-2
invariant_of-self-2 g c =
    length-set (set c.self.inside.inboxes.items c.in-Some.place c.index_mut.result.now) c.in-Some.place (Some c.insert-2.new.self)
    ∙ length-set c.self.inside.inboxes.items c.in-Some.place c.index_mut.result.now ∙ c.self.invariant

pub returns-in_err-insert-clause-put : goal.returns-in_err-insert-clause-put
returns-in_err-insert-clause-put g c = not_ok c.from_residual.result _ c.from_residual.ensures.0

pub returns-in_err-inbox-clause-put : goal.returns-in_err-inbox-clause-put
returns-in_err-inbox-clause-put g c = not_ok c.from_residual-in_err-inbox.result _ c.from_residual-in_err-inbox.ensures.0

pub returns-in_err-insert-2-clause-put : goal.returns-in_err-insert-2-clause-put
returns-in_err-insert-2-clause-put g c = not_ok c.from_residual-in_err-insert-2.result _ c.from_residual-in_err-insert-2.ensures.0

pub returns-in_err-insert-clause-refused : goal.returns-in_err-insert-clause-refused
returns-in_err-insert-clause-refused g c =
    let all : length c.self.inside.inboxes.items ≡ 64 = c.self.invariant in
    let here : c.in-Some.place < length c.self.inside.inboxes.items = omega (arith, c.in-Some.ensures.place.2, all) in
    if_err c.from_residual.result _ _ c.from_residual.ensures.1
    (refused_there c.self.inside.inboxes.items c.args.self.now c.args.stream c.in-Some.place c.args.offset c.args.bytes.now c.index_mut.result.now c.in-Some-index_mut.inbox c.in_err-insert.field-0.0 c.self.view_is here c.in-Some.ensures.place.0 c.in-Some.ensures.place.1 c.index_mut.ensures.value (ap (λ (o : Option Held). unwrap_or o nothing_held) (sym c.in-Some-index_mut.is)) c.in_err-insert.ensures.answer.1)

pub returns-in_err-insert-2-clause-refused : goal.returns-in_err-insert-2-clause-refused
returns-in_err-insert-2-clause-refused g c =
    let all : length c.self.inside.inboxes.items ≡ 64 = c.self.invariant in
    let here : c.in-Some.place < length c.self.inside.inboxes.items = omega (arith, c.in-Some.ensures.place.2, all) in
    if_err c.from_residual-in_err-insert-2.result _ _ c.from_residual-in_err-insert-2.ensures.1
    (refused_there c.self.inside.inboxes.items c.args.self.now c.args.stream c.in-Some.place c.args.offset c.args.bytes.now c.index_mut.result.now c.in_ok-inbox.inbox c.in_err-insert-2.field-0.0 c.self.view_is here c.in-Some.ensures.place.0 c.in-Some.ensures.place.1 c.index_mut.ensures.value (c.in_ok-inbox.ensures.empty ∙ ap (λ (o : Option Held). unwrap_or o nothing_held) (sym c.in_default-index_mut.is)) c.in_err-insert-2.ensures.answer.1)

pub returns-in_err-inbox-clause-refused : goal.returns-in_err-inbox-clause-refused
returns-in_err-inbox-clause-refused g c = if_err c.from_residual-in_err-inbox.result _ _ c.from_residual-in_err-inbox.ensures.1 (no_room _ c.in_err-inbox.field-0.0 c.in_err-inbox.ensures.only_memory)

pub returns-in_err-insert-clause-unchanged : goal.returns-in_err-insert-clause-unchanged
returns-in_err-insert-clause-unchanged g c = on_err c.from_residual.result _ (put_back c.self.inside.inboxes.items c.args.self.now c.in-Some.place c.index_mut.result.now c.in-Some-index_mut.inbox c.insert.new.self c.self.view_is c.index_mut.ensures.value c.in-Some-index_mut.is c.in_err-insert.ensures.answer.0)

pub returns-in_err-inbox-clause-unchanged : goal.returns-in_err-inbox-clause-unchanged
returns-in_err-inbox-clause-unchanged g c = on_err c.from_residual-in_err-inbox.result _ (set_there c.self.inside.inboxes.items c.in-Some.place c.index_mut.result.now c.index_mut.ensures.value ∙ c.self.view_is)

pub returns-in_err-insert-2-clause-unchanged : goal.returns-in_err-insert-2-clause-unchanged
returns-in_err-insert-2-clause-unchanged g c = on_err c.from_residual-in_err-insert-2.result _ (set_there c.self.inside.inboxes.items c.in-Some.place c.index_mut.result.now c.index_mut.ensures.value ∙ c.self.view_is)

pub returns-in-Some-index_mut-clause-put : goal.returns-in-Some-index_mut-clause-put
returns-in-Some-index_mut-clause-put g c =
    let all : length c.self.inside.inboxes.items ≡ 64 = c.self.invariant in
    let here : c.in-Some.place < length c.self.inside.inboxes.items = omega (arith, c.in-Some.ensures.place.2, all) in
    put_there c.self.inside.inboxes.items c.args.self.now c.args.stream c.in-Some.place c.args.offset c.args.bytes.now c.index_mut.result.now c.in-Some-index_mut.inbox c.insert.new.self c.self.view_is here c.in-Some.ensures.place.0 c.in-Some.ensures.place.1 c.index_mut.ensures.value (ap (λ (o : Option Held). unwrap_or o nothing_held) (sym c.in-Some-index_mut.is)) c.in_ok-insert.ensures.answer

pub returns-clause-put : goal.returns-clause-put
returns-clause-put g c =
    let all : length c.self.inside.inboxes.items ≡ 64 = c.self.invariant in
    let here : c.in-Some.place < length c.self.inside.inboxes.items = omega (arith, c.in-Some.ensures.place.2, all) in
    put_there c.self.inside.inboxes.items c.args.self.now c.args.stream c.in-Some.place c.args.offset c.args.bytes.now c.index_mut.result.now c.in_ok-inbox.inbox c.insert-2.new.self c.self.view_is here c.in-Some.ensures.place.0 c.in-Some.ensures.place.1 c.index_mut.ensures.value (c.in_ok-inbox.ensures.empty ∙ ap (λ (o : Option Held). unwrap_or o nothing_held) (sym c.in_default-index_mut.is)) c.in_ok-insert-2.ensures.answer
    ∙ ap (λ (xs : Inboxes). Ok xs) (sym (set-set c.self.inside.inboxes.items c.in-Some.place c.index_mut.result.now (Some c.insert-2.new.self)))
