use Rattle.std.proofs.Common.{◌≡◌, ◌∙◌, ◌+◌, ◌&&◌, ◌||◌, is_some, true, false, ap, sym, refl, subst, length, max, min, Ok, arith}
use Rattle.std.specs.Prelude.{not, nat_lt}
use Rattle.std.specs.Option.{unwrap_or}
use Rattle.st_reassembly.specs.Held.{Held, is_over}
use Rattle.st_reassembly.specs.Closing.{is_at_end, is_spent}
use Rattle.st_reassembly.specs.Ring.{cell}
use Rattle.st_reassembly.proofs.Insertions.{inserted-overflow, inserted-past_window, inserted-ok}
use Rattle.st_reassembly.proofs.Views.{inserted_held, inserted_nowhere, not_aborted}
use Rattle.st_reassembly.proofs.inbox.Inbox.insert.Goals as goal

pub returns-in_default-clause-answer : goal.returns-in_default-clause-answer
returns-in_default-clause-answer g c = (refl, inserted-overflow c.args.offset c.args.bytes.now c.args.self.now (omega (arith, c.in_default.ensures)))

pub returns-then-is_past_window-clause-answer : goal.returns-then-is_past_window-clause-answer
returns-then-is_past_window-clause-answer g c = (
  refl,
  inserted-past_window c.args.offset c.args.bytes.now c.args.self.now (omega (arith, c.in-Some.ensures))
      (subst (λ n. (not (is_over c.args.self.now) && nat_lt (c.args.self.now.read + 65536) n) ≡ true) c.in-Some.ensures.1 (sym c.is_past_window.ensures ∙ c.if-is_past_window.true)),
)

pub returns-then-is_spent_at-clause-joins : goal.returns-then-is_spent_at-clause-joins
returns-then-is_spent_at-clause-joins g c =
    inserted_nowhere c.args.self.now c.args.offset c.args.bytes.now (subst (λ (s : Held). is_spent s ≡ true) c.self.view_is (subst (λ (s : Held). (is_some s.aborted || is_at_end c.self.inside.read s.end) ≡ true) (sym c.self.view_is) (sym c.is_spent_at.ensures ∙ c.if-is_spent_at.true)))

pub returns-then-is_spent_at-clause-answer : goal.returns-then-is_spent_at-clause-answer
returns-then-is_spent_at-clause-answer g c =
    inserted-ok c.args.offset c.args.bytes.now c.args.self.now (omega (arith, c.in-Some.ensures))
    (subst (λ n. (not (is_over c.args.self.now) && nat_lt (c.args.self.now.read + 65536) n) ≡ false) c.in-Some.ensures.1 (sym c.is_past_window.ensures ∙ c.if-is_past_window.false))
    ∙ ap (λ (s : Held). Ok s) (sym (returns-then-is_spent_at-clause-joins g c))

pub returns-clause-joins : goal.returns-clause-joins
returns-clause-joins g c =
    let fits : c.in-Some.end ≡ c.args.offset + length c.args.bytes.now = c.in-Some.ensures.1 in
    rw c.max-self-inside.ensures (inserted_held c.args.self.now (cell c.self.inside.ring.bytes.items c.self.inside.ring.marks.items) (cell c.join-past.new.ring.bytes.items c.join-past.new.ring.marks.items)
    c.self.inside.finished (nat_lt (max c.args.offset c.self.inside.read) (min c.unwrap_or-high.result (c.args.offset + length c.args.bytes.now)))
    c.self.inside.read c.self.inside.top c.args.offset c.unwrap_or-high.result c.join-past.result c.self.inside.aborted c.args.bytes.now
    c.self.view_is (not_aborted c.self.inside.aborted _ (subst (λ (s : Held). (is_some s.aborted || is_at_end c.self.inside.read s.end) ≡ false) (sym c.self.view_is) (sym c.is_spent_at.ensures ∙ c.if-is_spent_at.false))) c.self.invariant.near
    (subst (λ n. (not (is_over c.args.self.now) && nat_lt (c.args.self.now.read + 65536) n) ≡ false) fits (sym c.is_past_window.ensures ∙ c.if-is_past_window.false))
    (c.unwrap_or-high.ensures ∙ ap (λ o. unwrap_or o c.in-Some.end) c.end_at.ensures ∙ ap (λ n. unwrap_or c.args.self.now.end n) fits) c.join-past.ensures.joins c.join-past.ensures.past)

pub returns-clause-answer : goal.returns-clause-answer
returns-clause-answer g c =
    inserted-ok c.args.offset c.args.bytes.now c.args.self.now (omega (arith, c.in-Some.ensures))
    (subst (λ n. (not (is_over c.args.self.now) && nat_lt (c.args.self.now.read + 65536) n) ≡ false) c.in-Some.ensures.1 (sym c.is_past_window.ensures ∙ c.if-is_past_window.false))
    ∙ ap (λ (s : Held). Ok s) (sym (returns-clause-joins g c))
