use Rattle.st_hop_books.proofs.Steps.{undone_ready}
use Rattle.st_hop_books.proofs.opening.let_go.Goals as goal

pub returns-clause-ready : goal.returns-clause-ready
returns-clause-ready g c clean is_open table audit filed =
    let store = c.into_store.result in
    undone_ready _ _ c.into_store.ensures.undone clean is_open (c.into_store.ensures.numbered clean) (c.into_store.ensures.sound clean _ (g.met.S.Store.stays store is_open)).1.lists.listed.loads table audit filed
