use Rattle.std.proofs.Common.{◌≡◌, true, None, arith, rules}
use Rattle.std.proofs.lemmas.Grind.{common_steps}
use Rattle.st_http.specs.Texts.{is_field_text}
use Rattle.ilpstream_settings.proofs.LineFaults.{sound_terms, unseen_there}
use Rattle.ilpstream_settings.proofs.fault.terms_fault.Goals as goal

pub returns-in-Some-leads_to : goal.returns-in-Some-leads_to
returns-in-Some-leads_to c =
    let visible : is_field_text c.args.token.now ≡ true = first_of (search rules, grind (arith, common_steps)) in
    sound_terms c.args.limit.now c.args.max_packet.now c.args.token c.args.host c.args.out c.in-Some._limit c.in-Some-read_number._max_packet c.in-Some-leads_to._neighbour
    (rw c.as_bytes.ensures.value at c.in-Some.ensures) (rw c.as_bytes-2.ensures.value at c.in-Some-read_number.ensures) visible c.in-Some-leads_to.ensures

pub returns-in-None : goal.returns-in-None
returns-in-None c = unseen_there c.args.host c.args.out c.in-None.ensures c.if-is_host_port.ensures

pub returns-in-None-2 : goal.returns-in-None-2
returns-in-None-2 c = (c.if-is_host_port.ensures, λ is. c.in-None-2.ensures None is)
