use Rattle.std.proofs.Common.{◌≡◌, ◌<◌, List, ℕ, length, set, take, Option, Some, None, sym, ap, ◌∙◌, arith}
use Rattle.std.specs.Option.{option_map}
use Rattle.std.proofs.lemmas.List.{length-set}
use Rattle.std.proofs.Math.Seq.{take-length}
use Rattle.st_reassembly.specs.Held.{Held}
use Rattle.st_reassembly.specs.Run.{run}
use Rattle.ilpstream_frames.specs.Inboxes.{Inboxes}
use Rattle.ilpstream_frames.proofs.OnePiece.{stood_there}
use Rattle.ilpstream_frames.proofs.streams.Streams.take_run.Goals as goal

pub index_mut-requires : goal.index_mut-requires
index_mut-requires g c =
    let all : length c.self.inside.inboxes.items ≡ 64 = c.self.invariant in
    omega (arith, c.requires, all, c.self.inside.inboxes.ok)

pub invariant_of-self : goal.invariant_of-self
invariant_of-self g c = length-set c.self.inside.inboxes.items c.args.place c.take.new.self ∙ c.self.invariant

pub invariant_of-self-in-Ok : goal.invariant_of-self-in-Ok
invariant_of-self-in-Ok g c = length-set c.self.inside.inboxes.items c.args.place c.take.new.self ∙ c.self.invariant

pub invariant_of-self-2 : goal.invariant_of-self-2
invariant_of-self-2 g c = length-set c.self.inside.inboxes.items c.args.place c.take.new.self ∙ c.self.invariant

pub returns-in_default-clause-others : goal.returns-in_default-clause-others
returns-in_default-clause-others g c = ap (λ (o : Option Held). set c.self.inside.inboxes.items c.args.place o) c.take.ensures.after ∙ ap (λ (s : Inboxes). set s c.args.place None) c.self.view_is

pub returns-in-Ok-clause-others : goal.returns-in-Ok-clause-others
returns-in-Ok-clause-others g c = ap (λ (o : Option Held). set c.self.inside.inboxes.items c.args.place o) c.take.ensures.after ∙ ap (λ (s : Inboxes). set s c.args.place None) c.self.view_is

pub returns-clause-others : goal.returns-clause-others
returns-clause-others g c = ap (λ (o : Option Held). set c.self.inside.inboxes.items c.args.place o) c.take.ensures.after ∙ ap (λ (s : Inboxes). set s c.args.place None) c.self.view_is

pub returns-in_default-clause-run : goal.returns-in_default-clause-run
returns-in_default-clause-run g c =
    let all : length c.self.inside.inboxes.items ≡ 64 = c.self.invariant in
    let here : c.args.place < length c.self.inside.inboxes.items = omega (arith, c.requires, all) in
    ap (λ (o : Option Held). option_map run o) (sym (stood_there c.self.inside.inboxes.items c.args.self.now c.args.place c.index_mut.result.now None c.self.view_is here c.index_mut.ensures.value (sym c.take.ensures.value ∙ c.in_default.is)))

pub returns-in-Ok-clause-run : goal.returns-in-Ok-clause-run
returns-in-Ok-clause-run g c =
    let all : length c.self.inside.inboxes.items ≡ 64 = c.self.invariant in
    let here : c.args.place < length c.self.inside.inboxes.items = omega (arith, c.requires, all) in
    ap (λ (bytes : List ℕ). Some bytes) (c.in-Ok.ensures.taken ∙ ap (λ n. take n (run c.in-Some.inbox)) c.run_length-length.ensures.length ∙ take-length (run c.in-Some.inbox))
    ∙ ap (λ (o : Option Held). option_map run o) (sym (stood_there c.self.inside.inboxes.items c.args.self.now c.args.place c.index_mut.result.now (Some c.in-Some.inbox) c.self.view_is here c.index_mut.ensures.value (sym c.take.ensures.value ∙ c.in-Some.is)))
