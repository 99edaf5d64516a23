use Rattle.std.proofs.Common.{◌≡◌, ◌+◌, ◌++◌, ◌∷◌, [], map, take, slice_get, Some, ap, sym, ◌∙◌}
use Rattle.std.specs.Prelude.{string_bytes}
use Rattle.std.proofs.lemmas.List.{map_more}
use Rattle.ilpstream_ledger.specs.Names.{Names}
use Rattle.ilpstream_ledger.proofs.Growing.{grows_then, one_placed}
use Rattle.ilpstream_ledger.proofs.placing.place_all.Goals as goal

pub returns-in_err-place_or_add-clause-grows : goal.returns-in_err-place_or_add-clause-grows
returns-in_err-place_or_add-clause-grows g c = grows_then c.args.books.now c.loop-name.books c.place_or_add.new.books c.loop-name.invariant.1 c.place_or_add.ensures.grows

pub returns-in_err-push-clause-grows : goal.returns-in_err-push-clause-grows
returns-in_err-push-clause-grows g c = grows_then c.args.books.now c.loop-name.books c.place_or_add.new.books c.loop-name.invariant.1 c.place_or_add.ensures.grows

pub loop-name-preserved : goal.loop-name-preserved
loop-name-preserved g c =
    let old = c.loop-name.books in
    let new = c.place_or_add.new.books in
    let table = c.args.table.now in
    let i = c.loop-name.name-index in
    let before = map string_bytes (take i table) in
    let name = c.as_str.result.now in
    let placed = one_placed old new before name c.loop-name.places.items c.in_ok-place_or_add.field-0 c.loop-name.invariant.0 c.place_or_add.ensures.grows c.in_ok-place_or_add.ensures.placed in
    let after : map string_bytes (take (i + 1) table) ≡ before ++ name ∷ [] =
    let more = map_more string_bytes table i c.name-item.result c.loop-name-test.true in
    let text = c.as_str.ensures.value in
    let item = c.name-item.is in
    cc in (
      ap (map (slice_get new.names)) c.in_ok-push.ensures.items ∙ placed ∙ ap (λ (l : Names). map Some l) (sym after),
      grows_then c.args.books.now old new c.loop-name.invariant.1 c.place_or_add.ensures.grows,
      c.place_or_add.ensures.starts ∙ c.loop-name.invariant.2,
    )
