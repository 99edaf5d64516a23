-- Bytes that are not UTF-8 are not an address.
use Rattle.st_ilp.proofs.AddressTexts.{no_utf8_no_address}

pub ruleset addresses = (no_utf8_no_address)
