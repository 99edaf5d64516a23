use Rattle.std.proofs.Common.{length, refl, sym, subst}
use Rattle.ilpstream_c.specs.Ilp.{IsPart}
use Rattle.ilpstream_c.proofs.Parts.{fulfill_part}
use Rattle.ilpstream_c.proofs.ilp.fulfill_told.Goals as goal

pub returns : goal.returns
returns c = record {
  kind = refl;
  fulfillment_is = refl;
  code = refl;
  by = (refl, refl);
  message = (refl, refl);
  payload_is = subst (λ n. IsPart c.args.bytes.now n (length c.args.payload.now) c.args.payload.now) (sym c.octets_before-payload_at.ensures.start) (fulfill_part c.args.bytes.now c.args.fulfillment c.args.payload.now c.requires);
}
