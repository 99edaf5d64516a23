-- Reading never answers that memory is refused.
use Rattle.std.proofs.Common.{◌≡◌, ℕ, zero, suc, ◌+◌, nat_lt, List, [], ◌∷◌, length, Result, Ok, Err, refl}
use Rattle.std.specs.Prelude.{◌≢◌, ◌==◌, IfErr}
use Rattle.st_oer.specs.declared.error.OerError.{OerError}
use Rattle.st_oer.specs.declared.error.OerError.TheVariants as fault
use Rattle.st_oer.specs.Reading.{byte_at, octets_at, var_uint_at}
use Rattle.st_oer.proofs.Memory.{IsOther, given, refused, if_other, reads_without_memory as fields}
use Rattle.st_frames.specs.declared.error.FrameError.{FrameError}
use Rattle.st_frames.specs.declared.error.FrameError.TheVariants.{Version, Kind, FrameFormat, TooLong, NoMemory}
use Rattle.st_frames.specs.Errors.{wrapped}
use Rattle.st_frames.specs.Frames.{max_packet}
use Rattle.st_frames.specs.Contents.{◌>>=◌, refusing, contents_at}
use Rattle.st_frames.specs.Reading.{Raw, raw_at, raws_at, known_at, outer, frames_at, wants, packet_at}
use Rattle.st_frames.specs.Laws.{ReadsWithoutMemory}

then_other : {A B E : Type 0} (refusal : E) (r : Result A E) (f : A → Result B E) → IsOther refusal r → ((x : A) → IsOther refusal (f x)) → IsOther refusal (r >>= f)
then_other refusal (Ok x) f first next = next x
then_other refusal (Err e) f first next = record { other = first.other }

as_read : {X : Type 0} (r : Result X OerError) → IfErr r (λ e. e ≢ fault.NoMemory) → IsOther fault.NoMemory r
as_read r other = record { other = other }

raw : (bytes : List ℕ) → IsOther fault.NoMemory (raw_at bytes)
unfolding raw_at
raw bytes =
    then_other fault.NoMemory (byte_at bytes) _ (as_read (byte_at bytes) (fields.byte bytes)) (λ type. then_other fault.NoMemory (octets_at type.1) _ (as_read (octets_at type.1) (fields.octets type.1)) (λ contents. given fault.NoMemory _))

raws : (n : ℕ) (bytes : List ℕ) → IsOther fault.NoMemory (raws_at n bytes)
unfolding raws_at
raws zero bytes = given fault.NoMemory []
raws (suc n) bytes =
    then_other fault.NoMemory (raw_at bytes) _ (raw bytes) (λ first. then_other fault.NoMemory (raws_at n first.1) _ (raws n first.1) (λ others. given fault.NoMemory _))

wrapped_other : (e : OerError) → e ≢ fault.NoMemory → wrapped e ≢ NoMemory
wrapped_other fault.NoMemory other = λ h. other refl
wrapped_other e other = λ h. cc

outer_other : {A : Type 0} (r : Result A OerError) → IsOther fault.NoMemory r → IsOther NoMemory (outer r)
outer_other (Ok x) other = given NoMemory x
outer_other (Err e) other = refused NoMemory (wrapped e) (wrapped_other e other.other)

refusing_other : {A D : Type 0} (e : FrameError) (r : Result A D) → e ≢ NoMemory → IsOther NoMemory (refusing e r)
refusing_other e (Ok x) other = given NoMemory x
refusing_other e (Err d) other = refused NoMemory e other

known : (i : ℕ) (rs : List Raw) → IsOther NoMemory (known_at i rs)
unfolding known_at
known i [] = given NoMemory []
known i (r ∷ rs) =
    then_other NoMemory (refusing (FrameFormat i) (contents_at r.type r.contents)) _ (refusing_other (FrameFormat i) (contents_at r.type r.contents) (λ h. cc)) (λ first.
    then_other NoMemory (known_at (i + 1) rs) _ (known (i + 1) rs) (λ others. given NoMemory _))

frames : (n i : ℕ) (bytes : List ℕ) → IsOther NoMemory (frames_at n i bytes)
frames n i bytes = then_other NoMemory (outer (raws_at n bytes)) _ (outer_other (raws_at n bytes) (raws n bytes)) (λ rs. known i rs)

wants_other : (e : FrameError) (value : ℕ) (x : ℕ × List ℕ) → e ≢ NoMemory → IsOther NoMemory (wants e value x)
wants_other e value x other = if_other NoMemory (x.0 == value) _ _ (given NoMemory x.1) (refused NoMemory e other)

packet : (kind : ℕ) (bytes : List ℕ) → IsOther NoMemory (packet_at kind bytes)
unfolding packet_at
packet kind bytes =
    if_other NoMemory (nat_lt max_packet (length bytes)) _ _ (refused NoMemory TooLong (λ h. cc)) (
    then_other NoMemory (outer (byte_at bytes)) _ (outer_other (byte_at bytes) (as_read (byte_at bytes) (fields.byte bytes))) (λ version.
    then_other NoMemory (wants Version 1 version) _ (wants_other Version 1 version (λ h. cc)) (λ rest.
    then_other NoMemory (outer (byte_at rest)) _ (outer_other (byte_at rest) (as_read (byte_at rest) (fields.byte rest))) (λ own.
    then_other NoMemory (wants Kind kind own) _ (wants_other Kind kind own (λ h. cc)) (λ more.
    then_other NoMemory (outer (var_uint_at more)) _ (outer_other (var_uint_at more) (as_read (var_uint_at more) (fields.var_uint more))) (λ sequence.
    then_other NoMemory (outer (var_uint_at sequence.1)) _ (outer_other (var_uint_at sequence.1) (as_read (var_uint_at sequence.1) (fields.var_uint sequence.1))) (λ amount.
    then_other NoMemory (outer (var_uint_at amount.1)) _ (outer_other (var_uint_at amount.1) (as_read (var_uint_at amount.1) (fields.var_uint amount.1))) (λ count.
    then_other NoMemory (frames_at count.0 0 count.1) _ (frames count.0 0 count.1) (λ found. given NoMemory _)))))))))

pub reads_without_memory : ReadsWithoutMemory
reads_without_memory kind bytes = (packet kind bytes).other
