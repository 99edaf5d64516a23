use Rattle.std.proofs.Common.{◌≡◌, inl, map, refl, sym, subst, ◌∙◌}
use Rattle.std.proofs.lemmas.Result.{IfErr-weaker}
use Rattle.st_hop_books.specs.Commits.{KeepsFor}
use Rattle.ilpstream_ledger.specs.Placed.{Placing, KeepsPlaced, in_books}
use Rattle.ilpstream_ledger.proofs.placed.PlacedKeeper.commit.Goals as goal

pub returns-in-Ok-clause-kept : goal.returns-in-Ok-clause-kept
returns-in-Ok-clause-kept g c =
    let old : Placing g.row.S.Denot = record { books = c.self.inside.books; places = c.self.inside.places.items; keeps = c.self.inside.keeps } in
    let new : Placing g.row.S.Denot = record { books = c.commit.new.self; places = c.self.inside.places.items; keeps = c.self.inside.keeps } in
    let all = c.args.bookings.now in
    let asked = subst (λ (k : Placing g.row.S.Denot). c.as_slice.result.now ≡ map (in_books k) all) (sym c.self.view_is) (c.as_slice.ensures.value ∙ c.in-Ok.ensures) in
    IfErr-weaker c.commit.result _ _ (λ n kept.
    subst (λ (k : Placing g.row.S.Denot). KeepsPlaced g.S.Store k all new n) c.self.view_is
    (inl (subst (λ bs. KeepsFor g.S.Store old.books bs new.books n) asked kept, refl))) c.commit.ensures.kept
