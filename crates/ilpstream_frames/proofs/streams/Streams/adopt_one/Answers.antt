use Rattle.std.proofs.Common.{◌≡◌, length, set, get_or, Option, Some, None, sym, ap, ◌∙◌, arith}
use Rattle.std.specs.Option.{option_or}
use Rattle.std.proofs.lemmas.List.{length-set}
use Rattle.st_reassembly.specs.Held.{Held}
use Rattle.ilpstream_frames.specs.Inboxes.{Inboxes}
use Rattle.ilpstream_frames.proofs.OnePiece.{set_same}
use Rattle.ilpstream_frames.proofs.streams.Streams.adopt_one.Goals.{in-Some-1, in-None-1}
use Rattle.ilpstream_frames.proofs.streams.Streams.adopt_one.Goals as goal

pub index_mut-requires : goal.index_mut-requires
index_mut-requires g c =
    let all : length c.self.inside.inboxes.items ≡ 64 = c.self.invariant in
    omega (arith, c.requires, all, c.self.inside.inboxes.ok)

pub invariant_of-self : goal.invariant_of-self
invariant_of-self g c = length-set c.self.inside.inboxes.items c.args.place (Some c.in-Some.inbox) ∙ c.self.invariant

pub invariant_of-self-in-Some-2 : goal.invariant_of-self-in-Some-2
invariant_of-self-in-Some-2 g c = length-set c.self.inside.inboxes.items c.args.place (Some c.in-Some.inbox) ∙ c.self.invariant

pub returns-in-Some : goal.returns-in-Some
returns-in-Some g c =
    let moved : set c.self.inside.inboxes.items c.args.place (Some c.in-Some.inbox) ≡ set c.args.self.now c.args.place (option_or c.args.draft (get_or c.args.self.now c.args.place None)) = ap (λ (s : Inboxes). set s c.args.place (Some c.in-Some.inbox)) c.self.view_is ∙ ap (λ (o : Option Held). set c.args.self.now c.args.place (option_or o (get_or c.args.self.now c.args.place None))) (sym c.in-Some.is) in
    elim c.match-index_mut.branch [ in-Some-1 w ↦ w.self-is ∙ moved | in-None-1 w ↦ w.self-is ∙ moved ]

pub returns-in_default : goal.returns-in_default
returns-in_default g c = sym (set_same c.args.self.now c.args.place None) ∙ ap (λ (o : Option Held). set c.args.self.now c.args.place (option_or o (get_or c.args.self.now c.args.place None))) (sym c.in_default.is)
