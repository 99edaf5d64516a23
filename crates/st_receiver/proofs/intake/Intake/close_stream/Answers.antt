use Rattle.std.proofs.Common.{◌<◌, ◌∙◌, Some, sym, ap, subst, length, arith}
use Rattle.std.specs.declared.option.Option.{Option}
use Rattle.std.specs.declared.option.Option.TheVariants.{None}
use Rattle.std.proofs.lemmas.List.{length-set}
use Rattle.st_receiver.specs.Closes.{with_close}
use Rattle.st_receiver.specs.Standing.{Standing, is_ready}
use Rattle.st_receiver.specs.Streams.{Incoming}
use Rattle.st_receiver.proofs.Applying.{changed, changed_keeps, drawn_length, ready_within}
use Rattle.st_receiver.proofs.intake.Intake.close_stream.Goals as goal

pub returns-clause-state : goal.returns-clause-state
returns-clause-state g c =
    changed c.args.self.now c.self.inside.parity c.self.inside.slots.items c.drawn-incoming.new.slots.items c.self.inside.kept c.self.inside.fulfilled.set c.self.inside.credit c.self.inside.closed c.self.inside.fulfilled.room c.self.inside.windows.items
    c.args.stream (with_close c.args.code) c.drawn-incoming.result c.close.new.self c.self.view_is c.drawn-incoming.ensures.left c.drawn-incoming.ensures.stream c.close.ensures

pub returns-clause-keeps : goal.returns-clause-keeps
returns-clause-keeps g c =
    changed_keeps c.args.self.now c.self.inside.parity c.self.inside.slots.items c.drawn-incoming.new.slots.items c.self.inside.kept c.self.inside.fulfilled.set c.self.inside.credit c.self.inside.closed c.self.inside.fulfilled.room c.self.inside.windows.items c.drawn-incoming.new.windows.items
    c.args.stream c.close.new.self c.self.view_is c.drawn-incoming.ensures.left
    (subst (λ n. c.args.stream < n) (sym c.self.invariant.0) (ready_within c.self.inside.slots.items c.self.inside.windows.items c.args.stream c.self.invariant.0 c.self.invariant.1 (ap (λ (t : Standing). is_ready t c.args.stream) c.self.view_is ∙ c.requires.ready)))
    c.drawn-incoming.ensures.others

pub index_mut-requires : goal.index_mut-requires
index_mut-requires g c =
    let none : Option Incoming = None in
    let l = length-set c.self.inside.slots.items c.args.stream none in
    let e = ap length c.drawn-incoming.ensures.left in
    let b = ready_within c.self.inside.slots.items c.self.inside.windows.items c.args.stream c.self.invariant.0 c.self.invariant.1 (ap (λ (t : Standing). is_ready t c.args.stream) c.self.view_is ∙ c.requires.ready) in
    omega (arith, l, e, b, c.self.invariant, c.drawn-incoming.new.slots.ok)

pub drawn-incoming-requires-clause-within : goal.drawn-incoming-requires-clause-within
drawn-incoming-requires-clause-within g c = ready_within c.self.inside.slots.items c.self.inside.windows.items c.args.stream c.self.invariant.0 c.self.invariant.1 (ap (λ (t : Standing). is_ready t c.args.stream) c.self.view_is ∙ c.requires.ready)

pub drawn-incoming-requires-clause-ready : goal.drawn-incoming-requires-clause-ready
drawn-incoming-requires-clause-ready g c = ap (λ (t : Standing). is_ready t c.args.stream) c.self.view_is ∙ c.requires.ready

pub invariant_of-self : goal.invariant_of-self
invariant_of-self g c = (
  length-set c.drawn-incoming.new.slots.items c.args.stream (Some c.close.new.self)
      ∙ drawn_length c.self.inside.slots.items c.drawn-incoming.new.slots.items c.args.stream c.drawn-incoming.ensures.left c.self.invariant.0,
  c.drawn-incoming.ensures.windows,
)
