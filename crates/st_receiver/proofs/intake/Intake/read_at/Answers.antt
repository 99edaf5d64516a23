use Rattle.std.proofs.Common.{◌∙◌, ◌||◌, Some, ap, length, arith}
use Rattle.std.specs.declared.option.Option.{Option}
use Rattle.std.specs.declared.option.Option.TheVariants.{None}
use Rattle.std.proofs.lemmas.List.{length-set}
use Rattle.std.specs.Prelude.{is_some}
use Rattle.st_streams.specs.Slots.{slot}
use Rattle.st_receiver.specs.Standing.{Standing}
use Rattle.st_receiver.specs.Streams.{Incoming, is_open}
use Rattle.st_receiver.specs.Reading.{got, after_get}
use Rattle.st_receiver.proofs.Applying.{changed, drawn_is, drawn_length, open_within}
use Rattle.st_receiver.proofs.Answering.{if_ok, on_ok, on_err, opened_same}
use Rattle.st_receiver.proofs.intake.Intake.read_at.Goals as goal

pub returns-clause-got : goal.returns-clause-got
returns-clause-got g c =
    let here = drawn_is c.args.self.now c.self.inside.parity c.self.inside.slots.items c.self.inside.kept c.self.inside.fulfilled.set c.self.inside.credit c.self.inside.closed c.self.inside.fulfilled.room c.self.inside.windows.items
    c.args.k c.drawn-incoming.result c.self.view_is c.drawn-incoming.ensures.stream in
    if_ok c.get-got.result (λ x h. h ∙ ap (λ (i : Incoming). got c.args.max i.held) here) c.get-got.ensures.got

pub returns-clause-left : goal.returns-clause-left
returns-clause-left g c = on_ok c.get-got.result
    (λ h. changed c.args.self.now c.self.inside.parity c.self.inside.slots.items c.drawn-incoming.new.slots.items c.self.inside.kept c.self.inside.fulfilled.set c.self.inside.credit c.self.inside.closed c.self.inside.fulfilled.room c.self.inside.windows.items
    c.args.k (after_get c.args.max) c.drawn-incoming.result c.get-got.new.self c.self.view_is c.drawn-incoming.ensures.left c.drawn-incoming.ensures.stream h)
    c.get-got.ensures.left

pub returns-clause-unchanged : goal.returns-clause-unchanged
returns-clause-unchanged g c = on_err c.get-got.result
    (λ h. changed c.args.self.now c.self.inside.parity c.self.inside.slots.items c.drawn-incoming.new.slots.items c.self.inside.kept c.self.inside.fulfilled.set c.self.inside.credit c.self.inside.closed c.self.inside.fulfilled.room c.self.inside.windows.items
    c.args.k (λ x. x) c.drawn-incoming.result c.get-got.new.self c.self.view_is c.drawn-incoming.ensures.left c.drawn-incoming.ensures.stream h
    ∙ opened_same c.args.self.now.state c.args.k c.requires)
    c.get-got.ensures.unchanged

pub drawn-incoming-requires-clause-within : goal.drawn-incoming-requires-clause-within
drawn-incoming-requires-clause-within g c = open_within c.self.inside.slots.items c.args.k c.self.invariant.0 (ap (λ (t : Standing). is_open t.state c.args.k) c.self.view_is ∙ c.requires)

pub drawn-incoming-requires-clause-ready : goal.drawn-incoming-requires-clause-ready
drawn-incoming-requires-clause-ready g c = ap (λ b. b || is_some (slot c.self.inside.windows.items c.args.k)) (ap (λ (t : Standing). is_open t.state c.args.k) c.self.view_is ∙ c.requires)

pub index_mut-requires : goal.index_mut-requires
index_mut-requires g c =
    let none : Option Incoming = None in
    let l = length-set c.self.inside.slots.items c.args.k none in
    let e = ap length c.drawn-incoming.ensures.left in
    let b = open_within c.self.inside.slots.items c.args.k c.self.invariant.0 (ap (λ (t : Standing). is_open t.state c.args.k) c.self.view_is ∙ c.requires) in
    omega (arith, l, e, b, c.self.invariant, c.drawn-incoming.new.slots.ok)

pub invariant_of-self : goal.invariant_of-self
invariant_of-self g c = (
  length-set c.drawn-incoming.new.slots.items c.args.k (Some c.get-got.new.self)
      ∙ drawn_length c.self.inside.slots.items c.drawn-incoming.new.slots.items c.args.k c.drawn-incoming.ensures.left c.self.invariant.0,
  c.drawn-incoming.ensures.windows,
)
