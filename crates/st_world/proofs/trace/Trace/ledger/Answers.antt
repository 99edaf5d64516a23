use Rattle.st_world.proofs.trace.Trace.ledger.Goals as goal

pub returns-in-Client : goal.returns-in-Client
returns-in-Client g c = rw (c.in-Client.is, ← c.self.view_is) c.get.ensures

pub returns-in-Server : goal.returns-in-Server
returns-in-Server g c = rw (c.in-Server.is, ← c.self.view_is) c.get-in-Server.ensures
