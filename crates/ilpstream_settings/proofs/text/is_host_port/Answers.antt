use Rattle.std.proofs.Common.{◌<◌, length, arith}
use Rattle.std.proofs.lemmas.Bool.Decides.{nat_tests}
use Rattle.ilpstream_settings.proofs.Colons.{has_colon, host_port_parts}
use Rattle.ilpstream_settings.proofs.text.is_host_port.Goals as goal

pub returns-in_default : goal.returns-in_default
returns-in_default c has = has_colon c.args.text.now has.host has.port has.parts c.in_default.ensures

pub returns-then-is_empty : goal.returns-then-is_empty
returns-then-is_empty c has =
    let named : 0 < length c.in-Some.host.now = (host_port_parts c.args.text.now c.in-Some.host.now c.in-Some.port.now c.in-Some.ensures.0 c.in-Some.ensures.1 has).0 in
    grind (arith, nat_tests, named)

pub returns-in-None : goal.returns-in-None
returns-in-None c has =
    let parts = host_port_parts c.args.text.now c.in-Some.host.now c.in-Some.port.now c.in-Some.ensures.0 c.in-Some.ensures.1 has in
    c.in-None.ensures parts.1.0 parts.1.1
