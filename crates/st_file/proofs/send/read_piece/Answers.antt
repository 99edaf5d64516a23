use Rattle.std.proofs.Common.{◌≡◌, ◌∙◌, ◌++◌, [], List, Option, ℕ, ap, arith, drop, length, refl, take}
use Rattle.std.proofs.KnownBytes.{Consumes-kept, Consumes-nil, Consumes-trans, Keeps-refl, Keeps-trans}
use Rattle.std.proofs.Math.Seq.{take-append_seam}
use Rattle.std.proofs.lemmas.List.{length-take-le}
use Rattle.std.specs.Io.KnownBytes.{Consumes, Keeps}
use Rattle.st_devices.specs.Tallies.{device_of}
use Rattle.st_file.proofs.send.read_piece.Goals as goal

-- what was written over a whole vector is all that it holds
written_over : (len : ℕ) (buf rest : List ℕ) → len ≡ length buf → take len (buf ++ rest) ≡ buf
written_over len buf rest h = ap (λ n. take n (buf ++ rest)) h ∙ take-append_seam buf rest

kept_then : (a b c : Option (List ℕ)) (piece : List ℕ) → Keeps a b → Consumes b c piece → Consumes a c piece
kept_then a b c piece kept read = Consumes-trans a b c [] piece (Consumes-kept a a b [] (Consumes-nil a) kept) read

pub loop-turns-init : goal.loop-turns-init
loop-turns-init g c = record {
  room = omega (arith, c.in-Ok.ensures.len, c.in-Ok.piece.ok.0);
  bytes = Keeps-refl (g.R.Read.remaining (device_of c.args.reader.now));
  faults = refl;
  spent = record { fewer = omega arith; calls = omega arith };
}

pub returns-in-Bytes-clause-read : goal.returns-in-Bytes-clause-read
returns-in-Bytes-clause-read g c =
    let whole : c.loop-turns.piece.len ≡ length c.read_turn.new.buf = omega (arith, c.read_turn.auto.buf, c.deref_mut.ensures.len) in
    let long : length c.read_turn.new.buf ≡ 4096 = omega (arith, whole, c.loop-turns.piece.ok.0, c.loop-turns.invariant.room) in
    let items : c.truncate.new.self.items ≡ take c.in-Bytes.n c.read_turn.new.buf =
    c.truncate.ensures.items ∙ ap (λ l. take c.in-Bytes.n l) (written_over c.loop-turns.piece.len c.read_turn.new.buf (drop (length c.read_turn.new.buf) c.loop-turns.piece.items) whole) in
    let taken = length-take-le c.in-Bytes.n c.read_turn.new.buf c.in-Bytes.ensures.0 in
    rw items (
      kept_then (g.R.Read.remaining (device_of c.args.reader.now)) (g.R.Read.remaining (device_of c.loop-turns.reader)) (g.R.Read.remaining (device_of c.read_turn.new.reader)) (take c.in-Bytes.n c.read_turn.new.buf)
          c.loop-turns.invariant.bytes c.in-Bytes.ensures.1,
      omega (arith, taken, c.in-Bytes.ensures.0, long),
      λ none. absurd (omega (arith, taken, ap length none, c.in-Bytes.ensures.2 (omega (arith, long)))),
    )

pub returns-in-End-clause-read : goal.returns-in-End-clause-read
returns-in-End-clause-read g c = rw c.clear.ensures.items (
  kept_then (g.R.Read.remaining (device_of c.args.reader.now)) (g.R.Read.remaining (device_of c.loop-turns.reader)) (g.R.Read.remaining (device_of c.read_turn.new.reader)) []
      c.loop-turns.invariant.bytes c.in-End.ensures.1,
  omega arith,
  λ none. c.in-End.ensures.2,
)

pub loop-turns-preserved : goal.loop-turns-preserved
loop-turns-preserved g c =
    let whole : c.loop-turns.piece.len ≡ length c.read_turn.new.buf = omega (arith, c.read_turn.auto.buf, c.deref_mut.ensures.len) in
    record {
      room = rw (written_over c.loop-turns.piece.len c.read_turn.new.buf (drop (length c.read_turn.new.buf) c.loop-turns.piece.items) whole)
          (omega (arith, whole, c.loop-turns.piece.ok.0, c.loop-turns.invariant.room));
      bytes = Keeps-trans (g.R.Read.remaining (device_of c.args.reader.now)) (g.R.Read.remaining (device_of c.loop-turns.reader)) (g.R.Read.remaining (device_of c.read_turn.new.reader)) c.loop-turns.invariant.bytes c.in-Again.ensures.0;
      faults = c.in-Again.ensures.1.faults ∙ c.loop-turns.invariant.faults;
      spent = record {
        fewer = omega (arith, c.loop-turns.invariant.spent.fewer);
        calls = omega (arith, c.in-Again.ensures.1.calls, c.loop-turns.invariant.spent.calls, c.loop-turns.invariant.spent.fewer, c.loop-turns-test.true);
      };
    }

pub returns-in-Fault-clause-read : goal.returns-in-Fault-clause-read
returns-in-Fault-clause-read g c = (refl, Keeps-trans (g.R.Read.remaining (device_of c.args.reader.now)) (g.R.Read.remaining (device_of c.loop-turns.reader)) (g.R.Read.remaining (device_of c.read_turn.new.reader)) c.loop-turns.invariant.bytes c.in-Fault.ensures.0)
