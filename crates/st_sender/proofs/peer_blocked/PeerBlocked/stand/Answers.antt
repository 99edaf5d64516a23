use Rattle.std.proofs.Common.{◌≡◌, ℕ, Option, false, sym, ap, subst, ◌∙◌, is_some}
use Rattle.std.specs.List.{list_any}
use Rattle.st_streams.specs.Slots.{Slots}
use Rattle.st_sender.specs.Sending as sending
use Rattle.st_sender.specs.Unmarked.{NoneStands}
use Rattle.st_sender.proofs.Unmarked.{some_stands}
use Rattle.st_sender.proofs.peer_blocked.PeerBlocked.stand.Goals as goal
use Rattle.st_sender.proofs.peer_blocked.PeerBlocked.stand.Goals.{then-is_some, else-is_some}

pub returns-then-any_set-clause-yes : goal.returns-then-any_set-clause-yes
returns-then-any_set-clause-yes g c = λ t n.
    let none = subst (λ (m : sending.PeerBlocked). NoneStands m) (sym c.self.view_is) n in
    elim c.if-is_some.branch [
      | then-is_some w ↦ (let f : is_some c.self.inside.connection ≡ false = ap (λ (o : Option ℕ). is_some o) none.0 in let a = w.if-is_some.true in let b = c.is_some.ensures in absurd cc)
      | else-is_some w ↦ some_stands c.self.inside.offsets.items w.any_set.result (w.any_set.ensures ∙ ap (λ (xs : Slots ℕ). list_any is_some xs) w.deref.ensures.value) (sym w.value-is ∙ t) none.1
    ]

pub returns-else-any_set-clause-yes : goal.returns-else-any_set-clause-yes
returns-else-any_set-clause-yes g c = λ t n.
    let none = subst (λ (m : sending.PeerBlocked). NoneStands m) (sym c.self.view_is) n in
    some_stands c.self.inside.money.items c.any_set-else-any_set.result (c.any_set-else-any_set.ensures ∙ ap (λ (xs : Slots ℕ). list_any is_some xs) c.deref-else-any_set.ensures.value) t none.2
