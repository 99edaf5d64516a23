use Rattle.std.proofs.Common.{◌≡◌, ◌<◌, ◌∙◌, length, sym, ap, subst, arith, false}
use Rattle.std.specs.declared.option.Option.{Option}
use Rattle.std.specs.declared.option.Option.TheVariants.{None}
use Rattle.std.specs.Prelude.{is_err}
use Rattle.std.proofs.lemmas.List.{length-set}
use Rattle.st_reassembly.specs.Inserting.{inserted}
use Rattle.st_receiver.specs.Streams.{Incoming}
use Rattle.st_receiver.specs.Data.{with_data}
use Rattle.st_receiver.specs.Standing.{Standing, is_ready}
use Rattle.st_receiver.proofs.Applying.{changed, changed_keeps, drawn_is, ready_within}
use Rattle.st_receiver.proofs.intake.Intake.take_data.Goals as goal

pub put-requires : goal.put-requires
put-requires g c =
    subst (λ (x : Incoming). is_err (inserted c.args.offset c.args.bytes.now x.held) ≡ false)
    (sym (drawn_is c.args.self.now c.self.inside.parity c.self.inside.slots.items c.self.inside.kept c.self.inside.fulfilled.set c.self.inside.credit c.self.inside.closed c.self.inside.fulfilled.room c.self.inside.windows.items
    c.args.stream c.drawn-incoming.result c.self.view_is c.drawn-incoming.ensures.stream))
    c.requires.lawful

pub index_mut-requires : goal.index_mut-requires
index_mut-requires g c =
    let none : Option Incoming = None in
    let l = length-set c.self.inside.slots.items c.args.stream none in
    let e = ap length c.drawn-incoming.ensures.left in
    let b = ready_within c.self.inside.slots.items c.self.inside.windows.items c.args.stream c.self.invariant.0 c.self.invariant.1 (ap (λ (t : Standing). is_ready t c.args.stream) c.self.view_is ∙ c.requires.ready) in
    omega (arith, l, e, b, c.self.invariant, c.drawn-incoming.new.slots.ok)

pub invariant_of-self : goal.invariant_of-self
invariant_of-self g c = (length-set _ _ _ ∙ ap length c.drawn-incoming.ensures.left ∙ length-set _ _ _ ∙ c.self.invariant.0, c.drawn-incoming.ensures.windows)

pub returns-clause-state : goal.returns-clause-state
returns-clause-state g c =
    changed c.args.self.now c.self.inside.parity c.self.inside.slots.items c.drawn-incoming.new.slots.items c.self.inside.kept c.self.inside.fulfilled.set c.self.inside.credit c.self.inside.closed c.self.inside.fulfilled.room c.self.inside.windows.items
    c.args.stream (with_data c.args.offset c.args.bytes.now) c.drawn-incoming.result c.put.new.self c.self.view_is c.drawn-incoming.ensures.left c.drawn-incoming.ensures.stream c.put.ensures

pub returns-clause-keeps : goal.returns-clause-keeps
returns-clause-keeps g c =
    changed_keeps c.args.self.now c.self.inside.parity c.self.inside.slots.items c.drawn-incoming.new.slots.items c.self.inside.kept c.self.inside.fulfilled.set c.self.inside.credit c.self.inside.closed c.self.inside.fulfilled.room c.self.inside.windows.items c.drawn-incoming.new.windows.items
    c.args.stream c.put.new.self c.self.view_is c.drawn-incoming.ensures.left
    (subst (λ n. c.args.stream < n) (sym c.self.invariant.0) (ready_within c.self.inside.slots.items c.self.inside.windows.items c.args.stream c.self.invariant.0 c.self.invariant.1 (ap (λ (t : Standing). is_ready t c.args.stream) c.self.view_is ∙ c.requires.ready)))
    c.drawn-incoming.ensures.others

pub drawn-incoming-requires-clause-within : goal.drawn-incoming-requires-clause-within
drawn-incoming-requires-clause-within g c = ready_within c.self.inside.slots.items c.self.inside.windows.items c.args.stream c.self.invariant.0 c.self.invariant.1 (ap (λ (t : Standing). is_ready t c.args.stream) c.self.view_is ∙ c.requires.ready)

pub drawn-incoming-requires-clause-ready : goal.drawn-incoming-requires-clause-ready
drawn-incoming-requires-clause-ready g c = ap (λ (t : Standing). is_ready t c.args.stream) c.self.view_is ∙ c.requires.ready
