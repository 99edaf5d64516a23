use Rattle.st_keys.proofs.Payloads.{sealed_unseals, packet_opens}
use Rattle.st_keys.proofs.laws.sealed_opens.Goals as goal

pub returns : goal.returns
returns c = record { text = sealed_unseals; packet = packet_opens }
