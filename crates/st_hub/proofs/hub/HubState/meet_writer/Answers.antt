use Rattle.st_hub.proofs.hub.HubState.meet_writer.Goals as goal

pub returns-clause-merged : goal.returns-clause-merged
returns-clause-merged g c = rw (← c.self.view_is) c.meet_writer.ensures.merged
