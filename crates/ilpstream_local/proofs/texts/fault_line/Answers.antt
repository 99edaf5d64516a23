use Rattle.std.proofs.Common.{sym, ap}
use Rattle.std.specs.Fmt.{digits}
use Rattle.ilpstream_local.specs.declared.fault.LocalFault.{LocalFault}
use Rattle.ilpstream_local.specs.Errors.{fault_number}
use Rattle.ilpstream_output.specs.Texts.{fault_text}
use Rattle.ilpstream_local.proofs.texts.fault_line.Goals as goal

pub returns-in-Failed : goal.returns-in-Failed
unfolding digits
returns-in-Failed c = sym (ap (λ (f : LocalFault). fault_text (fault_number f)) c.in-Failed.is)

pub returns-in-TooLong : goal.returns-in-TooLong
unfolding digits
returns-in-TooLong c = sym (ap (λ (f : LocalFault). fault_text (fault_number f)) c.in-TooLong.is)

pub returns-in-Input : goal.returns-in-Input
unfolding digits
returns-in-Input c = sym (ap (λ (f : LocalFault). fault_text (fault_number f)) c.in-Input.is)

pub returns-in-Output : goal.returns-in-Output
unfolding digits
returns-in-Output c = sym (ap (λ (f : LocalFault). fault_text (fault_number f)) c.in-Output.is)

pub returns-in-Turns : goal.returns-in-Turns
unfolding digits
returns-in-Turns c = sym (ap (λ (f : LocalFault). fault_text (fault_number f)) c.in-Turns.is)

pub returns-in-Events : goal.returns-in-Events
unfolding digits
returns-in-Events c = sym (ap (λ (f : LocalFault). fault_text (fault_number f)) c.in-Events.is)

pub returns-in-NoMemory : goal.returns-in-NoMemory
unfolding digits
returns-in-NoMemory c = sym (ap (λ (f : LocalFault). fault_text (fault_number f)) c.in-NoMemory.is)
