use Rattle.std.proofs.Common.{◌∙◌, ◌||◌, Some, ap, length, arith}
use Rattle.std.specs.declared.option.Option.{Option}
use Rattle.std.specs.declared.option.Option.TheVariants.{None}
use Rattle.std.proofs.lemmas.List.{length-set}
use Rattle.std.specs.Prelude.{is_some}
use Rattle.st_streams.specs.Slots.{slot}
use Rattle.st_receiver.specs.Standing.{Standing}
use Rattle.st_receiver.specs.Streams.{Incoming, is_open, with_max}
use Rattle.st_receiver.proofs.Applying.{changed, drawn_length, open_within}
use Rattle.st_receiver.proofs.intake.Intake.raise_open.Goals as goal

pub returns : goal.returns
returns g c =
    changed c.args.self.now c.self.inside.parity c.self.inside.slots.items c.drawn-incoming.new.slots.items c.self.inside.kept c.self.inside.fulfilled.set c.self.inside.credit c.self.inside.closed c.self.inside.fulfilled.room c.self.inside.windows.items
    c.args.stream (with_max c.args.amount) c.drawn-incoming.result c.raise_receive_max.new.self c.self.view_is c.drawn-incoming.ensures.left c.drawn-incoming.ensures.stream c.raise_receive_max.ensures

pub index_mut-requires : goal.index_mut-requires
index_mut-requires g c =
    let none : Option Incoming = None in
    let l = length-set c.self.inside.slots.items c.args.stream none in
    let e = ap length c.drawn-incoming.ensures.left in
    let b = open_within c.self.inside.slots.items c.args.stream c.self.invariant.0 (ap (λ (t : Standing). is_open t.state c.args.stream) c.self.view_is ∙ c.requires) in
    omega (arith, l, e, b, c.self.invariant, c.drawn-incoming.new.slots.ok)

pub drawn-incoming-requires-clause-within : goal.drawn-incoming-requires-clause-within
drawn-incoming-requires-clause-within g c = open_within c.self.inside.slots.items c.args.stream c.self.invariant.0 (ap (λ (t : Standing). is_open t.state c.args.stream) c.self.view_is ∙ c.requires)

pub drawn-incoming-requires-clause-ready : goal.drawn-incoming-requires-clause-ready
drawn-incoming-requires-clause-ready g c = ap (λ b. b || is_some (slot c.self.inside.windows.items c.args.stream)) (ap (λ (t : Standing). is_open t.state c.args.stream) c.self.view_is ∙ c.requires)

pub invariant_of-self : goal.invariant_of-self
invariant_of-self g c = (
  length-set c.drawn-incoming.new.slots.items c.args.stream (Some c.raise_receive_max.new.self)
      ∙ drawn_length c.self.inside.slots.items c.drawn-incoming.new.slots.items c.args.stream c.drawn-incoming.ensures.left c.self.invariant.0,
  c.drawn-incoming.ensures.windows,
)
