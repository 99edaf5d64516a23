use Rattle.std.proofs.Common.{◌≡◌, length, Ok, refl, sym, subst, arith, rules}
use Rattle.std.proofs.lemmas.Int.{ints, to_z-of_z}
use Rattle.st_ilp.specs.Packets.{PreparePacket}
use Rattle.st_ilp.specs.Reading.{prepare_at}
use Rattle.ilpstream_c.specs.Ilp.{IsPart}
use Rattle.ilpstream_c.proofs.Parts.{prepare_parts}
use Rattle.ilpstream_c.proofs.ilp.prepare_in.Goals as goal

pub returns : goal.returns
returns c =
    let f = c.in_ok-amount.field-0 in
    let p : PreparePacket = record { amount = f.amount; expiry = f.expiry; condition = f.condition; destination = f.destination.now; payload = f.payload.now } in
    let read : prepare_at c.args.bytes.now ≡ Ok p = search rules in
    let parts = prepare_parts c.args.bytes.now p c.prepare_law.ensures (λ i. omega (arith, c.type_inv.bytes i)) read in (
      p,
      (
        read,
        record {
          amount = refl;
          expiry = grind (arith, ints, to_z-of_z);
          condition = refl;
          destination = subst (λ n. IsPart c.args.bytes.now n (length p.destination) p.destination) (omega arith) parts.destination;
          payload = subst (λ n. IsPart c.args.bytes.now n (length p.payload) p.payload) (sym c.octets_before-payload_at.ensures.start) parts.payload;
        },
      ),
    )
