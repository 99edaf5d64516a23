use Rattle.std.proofs.Common.{◌≡◌, false, true, IfSome, arith, sym, ap, subst, ◌∙◌}
use Rattle.sqlite_trees.specs.Tree.{Trees}
use Rattle.sqlite_trees.specs.View.{View, IsClean}
use Rattle.sqlite_trees.specs.Objects.{catalog_tree}
use Rattle.sqlite_trees.specs.Sound.{is_sound_list}
use Rattle.st_hop_books.specs.declared.balance.Tally.{Tally}
use Rattle.st_hop_books.specs.Payments.{ArePayments}
use Rattle.st_hop_books.specs.Fulfillments.{proof_tree, AreProofs, last_id}
use Rattle.st_hop_books.specs.Trail.{paid_alone, tally_of}
use Rattle.st_hop_books.specs.Table.{payment_tree, ListsTables, IsOf}
use Rattle.st_hop_books.specs.Standing.{Kept, Takes, trail_of}
use Rattle.st_hop_books.proofs.Steps.{clean_open, open_sound, ready_holds, read_ready, reads_then, found_ready}
use Rattle.st_hop_books.proofs.Calls.{remains}
use Rattle.st_hop_books.proofs.opening.books_in.Goals as goal

pub over-requires-clause-holds : goal.over-requires-clause-holds
over-requires-clause-holds g c =
    let was = g.S.Store.view c.args.store in
    let mid = g.S.Store.view c.read_lines.new.store in
    let late = g.S.Store.view c.count_payments.new.store in
    let new = g.S.Store.view c.last_proof.new.store in
    let told = c.in_ok-names.ensures in
    let paid = c.in_ok-paid.ensures in
    let filed = c.in_ok-filed.ensures in
    let laid = c.in_ok-lists_books.ensures in
    let third = λ (now : IsClean new). let e : IsClean late = omega (arith, c.last_proof.ensures.quiet.clean, now) in e in
    let middle = λ (now : IsClean new). let e : IsClean mid = omega (arith, c.count_payments.ensures.quiet.clean, third now) in e in
    let early = λ (now : IsClean new). let e : IsClean was = omega (arith, told.quiet.clean, middle now) in e in
    let sound = λ (now : IsClean new). let e : was.is_broken ≡ false = sym (c.is_broken.ensures (early now)) ∙ c.if-is_broken.false in e in
    let was_open = λ (now : IsClean new). open_sound was (g.met.S.Store.broken_if_shut c.args.store) (sound now) in
    let before = λ (now : IsClean new). c.requires (early now) (was_open now) (laid.table c.if-not-branch.false) (laid.audit c.if-not-branch.false) (laid.filed c.if-not-branch.false) in
    let reads = λ (now : IsClean new). reads_then was mid new (told.same (middle now)) (reads_then mid late new (paid.same (third now)) (filed.same now)) in
    let same = λ (now : IsClean new). ap (λ (v : View). v.trees payment_tree) (told.same (middle now)) in
    let first = λ (now : IsClean new). reads_then was mid late (told.same (middle now)) (paid.same (third now)) in
    let proofs = λ (now : IsClean new). ap (λ (v : View). v.trees proof_tree) (first now) in
    let more = λ (now : IsClean new). ap (λ (v : View). v.trees) (reads_then mid late new (paid.same (third now)) (filed.same now)) in
    let last = λ (now : IsClean new). ap (λ (v : View). v.trees proof_tree) (filed.same now) in
    let tally : Tally = record { lines = c.in_ok-paid.paid.lines; latest = c.in_ok-paid.paid.latest; filed = c.in_ok-filed.filed } in
    let counted : IsClean new → tally_of (trail_of new.trees) ≡ tally = λ now.
    let one : tally_of (paid_alone (new.trees payment_tree)) ≡ c.in_ok-paid.paid = ap (λ (db : Trees). tally_of (paid_alone (db payment_tree))) (more now) ∙ paid.counted (third now) in
    let two : last_id (new.trees proof_tree) ≡ c.in_ok-filed.filed = ap last_id (last now) ∙ filed.last now in
    λ i. record { lines = (one i).lines; latest = (one i).latest; filed = two i } in
    ready_holds new c.version-starts.result c.in_ok-names.field-0.names.items c.in_ok-names.field-0.amounts.items tally (λ now. read_ready was new (reads now) (before now))
    (clean_open new (g.met.S.Store.shut_if_dirty c.last_proof.new.store))
    (λ now. found_ready was new c.version-starts.result c.in_ok-names.field-0.names.items c.in_ok-names.field-0.amounts.items (reads now)
    (laid.listed c.if-not-branch.false (early now) (sound now) (subst (λ (db : Trees). is_sound_list (db catalog_tree) ≡ true) (sym (before now).settled) (before now).loads)) (told.found (middle now)) told.named (c.version-starts.ensures (early now) (was_open now)) (subst ArePayments (same now) (paid.lawful (third now))) (subst AreProofs (proofs now) (filed.lawful now)))
    counted

pub returns-clause-taken : goal.returns-clause-taken
returns-clause-taken g c =
    let was = g.S.Store.view c.args.store in
    let mid = g.S.Store.view c.read_lines.new.store in
    let late = g.S.Store.view c.count_payments.new.store in
    let new = g.S.Store.view c.last_proof.new.store in
    let told = c.in_ok-names.ensures in
    let paid = c.in_ok-paid.ensures in
    let filed = c.in_ok-filed.ensures in
    let laid = c.in_ok-lists_books.ensures in
    let third = λ (now : IsClean new). let e : IsClean late = omega (arith, c.last_proof.ensures.quiet.clean, now) in e in
    let middle = λ (now : IsClean new). let e : IsClean mid = omega (arith, c.count_payments.ensures.quiet.clean, third now) in e in
    let early = λ (now : IsClean new). let e : IsClean was = omega (arith, told.quiet.clean, middle now) in e in
    let sound = λ (now : IsClean new). let e : was.is_broken ≡ false = sym (c.is_broken.ensures (early now)) ∙ c.if-is_broken.false in e in
    let was_open = λ (now : IsClean new). open_sound was (g.met.S.Store.broken_if_shut c.args.store) (sound now) in
    let before = λ (now : IsClean new). c.requires (early now) (was_open now) (laid.table c.if-not-branch.false) (laid.audit c.if-not-branch.false) (laid.filed c.if-not-branch.false) in
    let reads = λ (now : IsClean new). reads_then was mid new (told.same (middle now)) (reads_then mid late new (paid.same (third now)) (filed.same now)) in
    let same = λ (now : IsClean new). ap (λ (v : View). v.trees payment_tree) (told.same (middle now)) in
    let first = λ (now : IsClean new). reads_then was mid late (told.same (middle now)) (paid.same (third now)) in
    let proofs = λ (now : IsClean new). ap (λ (v : View). v.trees proof_tree) (first now) in
    let more = λ (now : IsClean new). ap (λ (v : View). v.trees) (reads_then mid late new (paid.same (third now)) (filed.same now)) in
    let last = λ (now : IsClean new). ap (λ (v : View). v.trees proof_tree) (filed.same now) in
    let tally : Tally = record { lines = c.in_ok-paid.paid.lines; latest = c.in_ok-paid.paid.latest; filed = c.in_ok-filed.filed } in
    let counted : IsClean new → tally_of (trail_of new.trees) ≡ tally = λ now.
    let one : tally_of (paid_alone (new.trees payment_tree)) ≡ c.in_ok-paid.paid = ap (λ (db : Trees). tally_of (paid_alone (db payment_tree))) (more now) ∙ paid.counted (third now) in
    let two : last_id (new.trees proof_tree) ≡ c.in_ok-filed.filed = ap last_id (last now) ∙ filed.last now in
    λ i. record { lines = (one i).lines; latest = (one i).latest; filed = two i } in
    let held =
    ready_holds new c.version-starts.result c.in_ok-names.field-0.names.items c.in_ok-names.field-0.amounts.items tally (λ now. read_ready was new (reads now) (before now))
    (clean_open new (g.met.S.Store.shut_if_dirty c.last_proof.new.store))
    (λ now. found_ready was new c.version-starts.result c.in_ok-names.field-0.names.items c.in_ok-names.field-0.amounts.items (reads now)
    (laid.listed c.if-not-branch.false (early now) (sound now) (subst (λ (db : Trees). is_sound_list (db catalog_tree) ≡ true) (sym (before now).settled) (before now).loads)) (told.found (middle now)) told.named (c.version-starts.ensures (early now) (was_open now)) (subst ArePayments (same now) (paid.lawful (third now))) (subst AreProofs (proofs now) (filed.lawful now)))
    counted in
    let k : Kept g.row.S.Denot = record { store = c.last_proof.new.store; starts = c.version-starts.result; names = c.in_ok-names.field-0.names.items; amounts = c.in_ok-names.field-0.amounts.items } in
    subst (λ (b : Kept g.row.S.Denot). IsClean (g.S.Store.view b.store) → Takes g.S.Store was.trees b) (sym c.over.ensures) (λ now.
    let ready = read_ready was new (reads now) (before now) in
    record {
      rows = told.found (middle now);
      named = told.named;
      audit = sym (ap (λ (v : View). trail_of v.trees) (reads now)) ∙ ap trail_of ready.settled;
      starts = c.version-starts.ensures (early now) (was_open now);
      remains = remains g.S.Store g.met.S.Store.settled k tally ready held (open_sound new (g.met.S.Store.broken_if_shut c.last_proof.new.store) ready.sound);
    })

pub returns-clause-listed : goal.returns-clause-listed
returns-clause-listed g c =
    let was = g.S.Store.view c.args.store in
    let mid = g.S.Store.view c.read_lines.new.store in
    let late = g.S.Store.view c.count_payments.new.store in
    let new = g.S.Store.view c.last_proof.new.store in
    let told = c.in_ok-names.ensures in
    let paid = c.in_ok-paid.ensures in
    let filed = c.in_ok-filed.ensures in
    let laid = c.in_ok-lists_books.ensures in
    let third = λ (now : IsClean new). let e : IsClean late = omega (arith, c.last_proof.ensures.quiet.clean, now) in e in
    let middle = λ (now : IsClean new). let e : IsClean mid = omega (arith, c.count_payments.ensures.quiet.clean, third now) in e in
    let early = λ (now : IsClean new). let e : IsClean was = omega (arith, told.quiet.clean, middle now) in e in
    let sound = λ (now : IsClean new). let e : was.is_broken ≡ false = sym (c.is_broken.ensures (early now)) ∙ c.if-is_broken.false in e in
    let was_open = λ (now : IsClean new). open_sound was (g.met.S.Store.broken_if_shut c.args.store) (sound now) in
    let before = λ (now : IsClean new). c.requires (early now) (was_open now) (laid.table c.if-not-branch.false) (laid.audit c.if-not-branch.false) (laid.filed c.if-not-branch.false) in
    subst (λ (b : Kept g.row.S.Denot). IsClean (g.S.Store.view b.store) → ListsTables (was.trees catalog_tree)) (sym c.over.ensures) (λ now.
    laid.listed c.if-not-branch.false (early now) (sound now) (subst (λ (db : Trees). is_sound_list (db catalog_tree) ≡ true) (sym (before now).settled) (before now).loads))

pub returns-clause-own : goal.returns-clause-own
returns-clause-own g c =
    let was = g.S.Store.view c.args.store in
    let mid = g.S.Store.view c.read_lines.new.store in
    let late = g.S.Store.view c.count_payments.new.store in
    let new = g.S.Store.view c.last_proof.new.store in
    let told = c.in_ok-names.ensures in
    let paid = c.in_ok-paid.ensures in
    let filed = c.in_ok-filed.ensures in
    let laid = c.in_ok-lists_books.ensures in
    let third = λ (now : IsClean new). let e : IsClean late = omega (arith, c.last_proof.ensures.quiet.clean, now) in e in
    let middle = λ (now : IsClean new). let e : IsClean mid = omega (arith, c.count_payments.ensures.quiet.clean, third now) in e in
    let early = λ (now : IsClean new). let e : IsClean was = omega (arith, told.quiet.clean, middle now) in e in
    let sound = λ (now : IsClean new). let e : was.is_broken ≡ false = sym (c.is_broken.ensures (early now)) ∙ c.if-is_broken.false in e in
    let was_open = λ (now : IsClean new). open_sound was (g.met.S.Store.broken_if_shut c.args.store) (sound now) in
    let before = λ (now : IsClean new). c.requires (early now) (was_open now) (laid.table c.if-not-branch.false) (laid.audit c.if-not-branch.false) (laid.filed c.if-not-branch.false) in
    let reads = λ (now : IsClean new). reads_then was mid new (told.same (middle now)) (reads_then mid late new (paid.same (third now)) (filed.same now)) in
    subst (λ (b : Kept g.row.S.Denot). IsClean (g.S.Store.view b.store) → IfSome c.args.own (λ a. IsOf a.now ((g.S.Store.view b.store).committed catalog_tree))) (sym c.over.ensures) (λ now.
    let ready = read_ready was new (reads now) (before now) in
    let same : was.trees ≡ new.committed = sym (ap (λ (v : View). v.trees) (reads now)) ∙ ready.settled in
    subst (λ (db : Trees). IfSome c.args.own (λ a. IsOf a.now (db catalog_tree))) same
    (laid.own c.if-not-branch.false (early now) (sound now) (subst (λ (db : Trees). is_sound_list (db catalog_tree) ≡ true) (sym (before now).settled) (before now).loads)))
