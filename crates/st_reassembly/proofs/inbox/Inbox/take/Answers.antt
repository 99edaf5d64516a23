use Rattle.std.proofs.Common.{◌≡◌, ◌∙◌, ◌+◌, ◌≤◌, ◌%◌, ◌||◌, true, false, is_some, ap, sym, length, take, arith, subst, []}
use Rattle.std.specs.Prelude.{slice_index}
use Rattle.st_reassembly.specs.Held.{Held, after_read}
use Rattle.st_reassembly.specs.Closing.{is_at_end, is_spent}
use Rattle.st_reassembly.specs.Ring.{cell, is_marked}
use Rattle.st_reassembly.specs.Run.{run}
use Rattle.st_reassembly.proofs.Views.{end_shown, taken_view, left_view, kept_of, kept_after_read, reached, drawn_at, nothing_taken, nothing_left, at_top, none_left, contrary}
use Rattle.st_reassembly.proofs.inbox.Inbox.take.Goals as goal

pub returns-then-is_spent-clause-taken : goal.returns-then-is_spent-clause-taken
returns-then-is_spent-clause-taken g c =
    c.new.ensures.items ∙ subst (λ (s : Held). [] ≡ take c.args.max (run s)) c.self.view_is
    (nothing_taken (cell c.self.inside.ring.bytes.items c.self.inside.ring.marks.items) c.self.inside.read c.self.inside.top c.args.max (end_shown c.self.inside.finished c.self.inside.top) c.self.inside.aborted (kept_of c.self.invariant) (c.self.invariant.ended (subst (λ (s : Held). is_spent s ≡ true) (sym c.self.view_is) (sym c.is_spent.ensures ∙ c.if-is_spent.true))))

pub returns-then-is_spent-clause-left : goal.returns-then-is_spent-clause-left
returns-then-is_spent-clause-left g c =
    subst (λ (s : Held). s ≡ after_read 0 s) c.self.view_is (nothing_left (cell c.self.inside.ring.bytes.items c.self.inside.ring.marks.items) c.self.inside.read (end_shown c.self.inside.finished c.self.inside.top) c.self.inside.aborted)
    ∙ ap (λ xs. after_read (length xs) c.args.self.now) (sym c.new.ensures.items ∙ returns-then-is_spent-clause-taken g c)

pub overflow_add-self-inside : goal.overflow_add-self-inside
overflow_add-self-inside g c = omega (arith, reached (cell c.self.inside.ring.bytes.items c.self.inside.ring.marks.items) c.self.inside.read c.self.inside.top c.row_length.result (kept_of c.self.invariant) c.row_length.ensures.few c.row_length.ensures.held, c.min-count.ensures)

pub overflow_add-self-2 : goal.overflow_add-self-2
overflow_add-self-2 g c = omega (arith, reached (cell c.self.inside.ring.bytes.items c.self.inside.ring.marks.items) c.self.inside.read c.self.inside.top c.row_length.result (kept_of c.self.invariant) c.row_length.ensures.few c.row_length.ensures.held, c.min-count.ensures)

pub returns-then-is_spent_at-clause-taken : goal.returns-then-is_spent_at-clause-taken
returns-then-is_spent_at-clause-taken g c =
    subst (λ (s : Held). c.in_ok-row.row.items ≡ take c.args.max (run s)) c.self.view_is
    (taken_view (cell c.self.inside.ring.bytes.items c.self.inside.ring.marks.items) c.self.inside.read c.args.max c.row_length.result (end_shown c.self.inside.finished c.self.inside.top) c.self.inside.aborted c.in_ok-row.row.items
    c.row_length.ensures.few (c.in_ok-row.ensures.len ∙ c.min-count.ensures) c.row_length.ensures.held
    (λ k l. drawn_at (is_marked c.self.inside.ring.marks.items ((c.self.inside.read + k) % 65536)) (slice_index c.self.inside.ring.bytes.items ((c.self.inside.read + k) % 65536)) (slice_index c.in_ok-row.row.items k)
    (c.row_length.ensures.held k (omega (arith, c.in_ok-row.ensures.len, c.min-count.ensures))) (c.in_ok-row.ensures.bytes k (omega (arith, c.in_ok-row.ensures.len))))
    c.row_length.ensures.longest)

pub returns-then-is_spent_at-clause-left : goal.returns-then-is_spent_at-clause-left
returns-then-is_spent_at-clause-left g c =
    let few : c.min-count.result ≤ 65536 = omega (arith, c.min-count.ensures, c.row_length.ensures.few) in
    left_view (cell c.self.inside.ring.bytes.items c.self.inside.ring.marks.items) (cell c.none.result.bytes.items c.none.result.marks.items) c.self.inside.read c.min-count.result few (none_left (cell c.self.inside.ring.bytes.items c.self.inside.ring.marks.items) (cell c.none.result.bytes.items c.none.result.marks.items) c.self.inside.read c.self.inside.top c.min-count.result (kept_of c.self.invariant) (at_top c.self.inside.finished c.self.inside.top c.self.inside.read (c.self.inside.read + c.min-count.result) c.self.inside.aborted (subst (λ (s : Held). is_spent s ≡ false) (sym c.self.view_is) (sym c.is_spent.ensures ∙ c.if-is_spent.false)) (subst (λ (s : Held). (is_some s.aborted || is_at_end (c.self.inside.read + c.min-count.result) s.end) ≡ true) (sym c.self.view_is) (sym c.is_spent_at.ensures ∙ c.if-is_spent_at.true))) c.none.ensures.empty) (end_shown c.self.inside.finished c.self.inside.top) c.self.inside.aborted
    ∙ ap (λ (s : Held). after_read c.min-count.result s) c.self.view_is
    ∙ ap (λ n. after_read n c.args.self.now) (sym c.in_ok-row.ensures.len)
    ∙ ap (λ xs. after_read (length xs) c.args.self.now) (returns-then-is_spent_at-clause-taken g c)

pub invariant_of-self-2 : goal.invariant_of-self-2
invariant_of-self-2 g c =
    let few : c.min-count.result ≤ 65536 = omega (arith, c.min-count.ensures, c.row_length.ensures.few) in
    let kept = kept_after_read (cell c.self.inside.ring.bytes.items c.self.inside.ring.marks.items) (cell c.forget.new.ring.bytes.items c.forget.new.ring.marks.items) c.self.inside.read c.min-count.result few c.forget.ensures.left
    c.self.inside.top (kept_of c.self.invariant) (λ k l. c.row_length.ensures.held k (omega (arith, c.min-count.ensures))) in
    record {
      size = λ e. ap length c.forget.ensures.bytes ∙ c.self.invariant.size (subst (λ (s : Held). is_spent s ≡ false) (sym c.self.view_is) (sym c.is_spent.ensures ∙ c.if-is_spent.false));
      words = λ e. c.forget.ensures.words;
      freed = λ e. contrary _ e (subst (λ (s : Held). (is_some s.aborted || is_at_end (c.self.inside.read + c.min-count.result) s.end) ≡ false) (sym c.self.view_is) (sym c.is_spent_at.ensures ∙ c.if-is_spent_at.false));
      ended = λ e. contrary _ e (subst (λ (s : Held). (is_some s.aborted || is_at_end (c.self.inside.read + c.min-count.result) s.end) ≡ false) (sym c.self.view_is) (sym c.is_spent_at.ensures ∙ c.if-is_spent_at.false));
      from = kept.from;
      near = kept.near;
      below = kept.below;
      least = kept.least;
    }

pub returns-clause-taken : goal.returns-clause-taken
returns-clause-taken g c =
    subst (λ (s : Held). c.in_ok-row.row.items ≡ take c.args.max (run s)) c.self.view_is
    (taken_view (cell c.self.inside.ring.bytes.items c.self.inside.ring.marks.items) c.self.inside.read c.args.max c.row_length.result (end_shown c.self.inside.finished c.self.inside.top) c.self.inside.aborted c.in_ok-row.row.items
    c.row_length.ensures.few (c.in_ok-row.ensures.len ∙ c.min-count.ensures) c.row_length.ensures.held
    (λ k l. drawn_at (is_marked c.self.inside.ring.marks.items ((c.self.inside.read + k) % 65536)) (slice_index c.self.inside.ring.bytes.items ((c.self.inside.read + k) % 65536)) (slice_index c.in_ok-row.row.items k)
    (c.row_length.ensures.held k (omega (arith, c.in_ok-row.ensures.len, c.min-count.ensures))) (c.in_ok-row.ensures.bytes k (omega (arith, c.in_ok-row.ensures.len))))
    c.row_length.ensures.longest)

pub returns-clause-left : goal.returns-clause-left
returns-clause-left g c =
    let few : c.min-count.result ≤ 65536 = omega (arith, c.min-count.ensures, c.row_length.ensures.few) in
    left_view (cell c.self.inside.ring.bytes.items c.self.inside.ring.marks.items) (cell c.forget.new.ring.bytes.items c.forget.new.ring.marks.items) c.self.inside.read c.min-count.result few c.forget.ensures.left (end_shown c.self.inside.finished c.self.inside.top) c.self.inside.aborted
    ∙ ap (λ (s : Held). after_read c.min-count.result s) c.self.view_is
    ∙ ap (λ n. after_read n c.args.self.now) (sym c.in_ok-row.ensures.len)
    ∙ ap (λ xs. after_read (length xs) c.args.self.now) (returns-clause-taken g c)
