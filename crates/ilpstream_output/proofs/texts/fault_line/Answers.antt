use Rattle.std.proofs.Common.{sym, ap}
use Rattle.std.specs.Fmt.{digits}
use Rattle.ilpstream_output.specs.declared.error.Fault.{Fault}
use Rattle.ilpstream_output.specs.Errors.{fault_number}
use Rattle.ilpstream_output.specs.Texts.{fault_text}
use Rattle.ilpstream_output.proofs.texts.fault_line.Goals as goal

pub returns-in-Input : goal.returns-in-Input
unfolding digits
returns-in-Input c = sym (ap (λ (f : Fault). fault_text (fault_number f)) c.in-Input.is)

pub returns-in-Output : goal.returns-in-Output
unfolding digits
returns-in-Output c = sym (ap (λ (f : Fault). fault_text (fault_number f)) c.in-Output.is)

pub returns-in-Turns : goal.returns-in-Turns
unfolding digits
returns-in-Turns c = sym (ap (λ (f : Fault). fault_text (fault_number f)) c.in-Turns.is)

pub returns-in-NoMemory : goal.returns-in-NoMemory
unfolding digits
returns-in-NoMemory c = sym (ap (λ (f : Fault). fault_text (fault_number f)) c.in-NoMemory.is)
