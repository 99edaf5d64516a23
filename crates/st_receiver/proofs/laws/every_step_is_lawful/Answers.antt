use Rattle.st_receiver.proofs.LawfulSteps.{new_lawful, packet_lawful, read_lawful, open_lawful, max_lawful}
use Rattle.st_receiver.proofs.laws.every_step_is_lawful.Goals as goal

pub returns : goal.returns
returns c = record { new = new_lawful; packets = packet_lawful; reads = read_lawful; opens = open_lawful; limits = max_lawful }
