use Rattle.std.proofs.Common.{length, refl, sym, subst, arith}
use Rattle.ilpstream_c.specs.Ilp.{IsPart}
use Rattle.ilpstream_c.proofs.Parts.{reject_parts}
use Rattle.ilpstream_c.proofs.ilp.reject_told.Goals as goal

pub returns : goal.returns
returns c =
    let parts = reject_parts c.args.bytes.now c.args.code c.args.by.now c.args.message.now c.args.payload.now c.requires in record {
      kind = refl;
      fulfillment = refl;
      code_is = refl;
      by_is = parts.by_part c.octets_before-by_at.result.0 (omega arith);
      message_is = parts.message_part c.octets_before-message_at.result.0 (omega arith);
      payload_is = subst (λ n. IsPart c.args.bytes.now n (length c.args.payload.now) c.args.payload.now) (sym c.octets_before-payload_at.ensures.start) parts.payload_part;
    }
