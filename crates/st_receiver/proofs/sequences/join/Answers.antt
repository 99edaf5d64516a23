use Rattle.std.proofs.Common.{◌≡◌, ◌↔◌, ◌-◌, ◌∙◌, true, false, List, set, get_or, insert, cond, is_ok, sym, ap, subst, refl}
use Rattle.st_receiver.specs.declared.sequences.Run.{Run}
use Rattle.st_receiver.specs.Sequences.{IsMore}
use Rattle.st_receiver.proofs.Seating.{more_behind, more_front, more_alone, more_both}
use Rattle.st_receiver.proofs.sequences.join.Goals as goal

never : {X : Type 0} → ((false ≡ true) ↔ X) → X → ⊥
never e x = let z : false ≡ true = e.1 x in cc

pub returns-then-behind : goal.returns-then-behind
returns-then-behind g c =
    let r = c.index_mut.result.now in
    let next = c.remove-next.result in
    let b = c.if-joins_before.ensures.0 refl in
    let h = c.if-behind.ensures.0 refl in
    let items = c.remove-next.ensures.items in
    subst (λ (ts : List Run). IsMore c.args.runs.now.items c.args.sequence (set ts (c.args.place - 1) (record { first = r.first; last = next.last }))) (sym items)
    (more_both c.args.runs.now.items c.args.place c.args.sequence r next c.requires.place b.0 b.1 h.0 h.1 (subst (λ (ts : List Run). r ≡ get_or ts (c.args.place - 1) r) items c.index_mut.ensures.value) c.remove-next.ensures.value)

pub returns-else-behind : goal.returns-else-behind
returns-else-behind g c =
    let b = c.if-joins_before.ensures.0 refl in
    more_behind c.args.runs.now.items c.args.place c.args.sequence c.index_mut-else-behind.result.now c.requires.place c.requires.fresh b.0 b.1
    (λ some e. never c.if-behind.ensures (some, e)) c.index_mut-else-behind.ensures.value

pub returns-then-behind-2 : goal.returns-then-behind-2
returns-then-behind-2 g c =
    let h = c.if-behind-2.ensures.0 refl in
    more_front c.args.runs.now.items c.args.place c.args.sequence c.index_mut-then-behind-2.result.now c.requires.place h.0 h.1
    (λ some e. never c.if-joins_before.ensures (some, e)) c.index_mut-then-behind-2.ensures.value

pub returns-else-behind-2 : goal.returns-else-behind-2
returns-else-behind-2 g c =
    let alone : Run = record { first = c.args.sequence; last = c.args.sequence } in
    subst (IsMore c.args.runs.now.items c.args.sequence)
    (sym (c.insert.ensures.items ∙ ap (λ b. cond b (insert c.args.runs.now.items c.args.place alone) c.args.runs.now.items) (ap is_ok c.unwrap.ensures)))
    (more_alone c.args.runs.now.items c.args.place c.args.sequence c.requires.place c.requires.fresh (λ some e. never c.if-joins_before.ensures (some, e)) (λ some e. never c.if-behind-2.ensures (some, e)))
