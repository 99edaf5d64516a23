use Rattle.st_keys.proofs.Lengths.{sealed_length, unsealed_length, packet_length}
use Rattle.st_keys.proofs.laws.payload_lengths.Goals as goal

pub returns : goal.returns
returns c = record { sealed = sealed_length; unsealed = unsealed_length; packet = packet_length }
