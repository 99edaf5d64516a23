-- Reading never answers that memory is refused.
use Rattle.std.proofs.Common.{ℕ, Bool, true, false, List, length, Result, Ok, Err, refl}
use Rattle.std.specs.Prelude.{◌≢◌, nat_le, ◌==◌, ◌&&◌, IfErr}
use Rattle.st_oer.specs.declared.error.OerError.{OerError}
use Rattle.st_oer.specs.declared.error.OerError.TheVariants as fault
use Rattle.st_oer.specs.Address.{is_address}
use Rattle.st_oer.specs.Text.{is_utf8}
use Rattle.st_oer.specs.Reading.{byte_at, fixed_at, octets_at, u64_at}
use Rattle.st_oer.proofs.Memory.{IsOther, given, refused, if_other, reads_without_memory as fields}
use Rattle.st_ilp.specs.declared.error.IlpError.{IlpError}
use Rattle.st_ilp.specs.declared.error.IlpError.TheVariants.{NoMemory, Kind, Expiry, Address, DataTooLong, NotUtf8, Code, Trailing}
use Rattle.st_ilp.specs.Errors.{wrapped}
use Rattle.st_ilp.specs.Expiry.{is_expiry_text, expiry_at}
use Rattle.st_ilp.specs.Rules.{is_data, is_sender, is_code}
use Rattle.st_ilp.specs.Reading.{◌>>=◌, spelled, provided, whole, expires_at, hash_at, code_at, octets_with, destination_at, sender_at, message_at, data_at, packet_at, prepare_within, fulfill_within, reject_within, prepare_at, answer_at}
use Rattle.st_ilp.specs.Laws.{ReadsWithoutMemory}

then_other : {A B : Type 0} (r : Result A IlpError) (f : A → Result B IlpError) → IsOther NoMemory r → ((x : A) → IsOther NoMemory (f x)) → IsOther NoMemory (r >>= f)
then_other (Ok x) f first next = next x
then_other (Err e) f first next = record { other = first.other }

provided_other : {A : Type 0} (b : Bool) (e : IlpError) (x : A) → e ≢ NoMemory → IsOther NoMemory (provided b e x)
provided_other true e x other = given NoMemory x
provided_other false e x other = refused NoMemory e other

whole_other : {A : Type 0} (x : A × List ℕ) → IsOther NoMemory (whole x)
whole_other x = provided_other (length x.1 == 0) Trailing x.0 (λ h. cc)

wrapped_other : (e : OerError) → e ≢ fault.NoMemory → wrapped e ≢ NoMemory
wrapped_other fault.NoMemory other = λ h. other refl
wrapped_other e other = λ h. cc

spelled_other : {A : Type 0} (r : Result A OerError) → IfErr r (λ e. e ≢ fault.NoMemory) → IsOther NoMemory (spelled r)
spelled_other (Ok x) other = given NoMemory x
spelled_other (Err e) other = refused NoMemory (wrapped e) (wrapped_other e other)

expiry : (text : List ℕ) → IsOther NoMemory (expiry_at text)
unfolding expiry_at
expiry text = if_other NoMemory (is_expiry_text text) _ _ (given NoMemory _) (refused NoMemory Expiry (λ h. cc))

expires : (bytes : List ℕ) → IsOther NoMemory (expires_at bytes)
unfolding expires_at
expires bytes =
    then_other (spelled (fixed_at 17 bytes)) _ (spelled_other (fixed_at 17 bytes) (fields.fixed 17 bytes)) (λ text.
    then_other (expiry_at text.0) _ (expiry text.0) (λ millis. given NoMemory (millis, text.1)))

hash : (bytes : List ℕ) → IsOther NoMemory (hash_at bytes)
unfolding hash_at
hash bytes = spelled_other (fixed_at 32 bytes) (fields.fixed 32 bytes)

code : (bytes : List ℕ) → IsOther NoMemory (code_at bytes)
unfolding code_at
code bytes =
    then_other (spelled (fixed_at 3 bytes)) _ (spelled_other (fixed_at 3 bytes) (fields.fixed 3 bytes)) (λ text. provided_other (is_code text.0) Code text (λ h. cc))

octets : (rule : List ℕ → Bool) (e : IlpError) (bytes : List ℕ) → e ≢ NoMemory → IsOther NoMemory (octets_with rule e bytes)
unfolding octets_with
octets rule e bytes other =
    then_other (spelled (octets_at bytes)) _ (spelled_other (octets_at bytes) (fields.octets bytes)) (λ text. provided_other (rule text.0) e text other)

packet : (first last : ℕ) (bytes : List ℕ) → IsOther NoMemory (packet_at first last bytes)
unfolding packet_at
packet first last bytes =
    then_other (spelled (byte_at bytes)) _ (spelled_other (byte_at bytes) (fields.byte bytes)) (λ kind.
    then_other (provided (nat_le first kind.0 && nat_le kind.0 last) Kind kind) _ (provided_other (nat_le first kind.0 && nat_le kind.0 last) Kind kind (λ h. cc)) (λ lawful.
    then_other (spelled (octets_at lawful.1)) _ (spelled_other (octets_at lawful.1) (fields.octets lawful.1)) (λ contents. whole_other ((lawful.0, contents.0), contents.1))))

prepare_in : (contents : List ℕ) → IsOther NoMemory (prepare_within contents)
unfolding prepare_within
prepare_in contents =
    then_other (spelled (u64_at contents)) _ (spelled_other (u64_at contents) (fields.u64 contents)) (λ amount.
    then_other (expires_at amount.1) _ (expires amount.1) (λ time.
    then_other (hash_at time.1) _ (hash time.1) (λ condition.
    then_other (destination_at condition.1) _ (octets is_address Address condition.1 (λ h. cc)) (λ destination.
    then_other (data_at destination.1) _ (octets is_data DataTooLong destination.1 (λ h. cc)) (λ payload. whole_other (_, payload.1))))))

fulfill_in : (contents : List ℕ) → IsOther NoMemory (fulfill_within contents)
unfolding fulfill_within
fulfill_in contents =
    then_other (hash_at contents) _ (hash contents) (λ fulfillment.
    then_other (data_at fulfillment.1) _ (octets is_data DataTooLong fulfillment.1 (λ h. cc)) (λ payload. whole_other (_, payload.1)))

reject_in : (contents : List ℕ) → IsOther NoMemory (reject_within contents)
unfolding reject_within
reject_in contents =
    then_other (code_at contents) _ (code contents) (λ three.
    then_other (sender_at three.1) _ (octets is_sender Address three.1 (λ h. cc)) (λ by.
    then_other (message_at by.1) _ (octets is_utf8 NotUtf8 by.1 (λ h. cc)) (λ message.
    then_other (data_at message.1) _ (octets is_data DataTooLong message.1 (λ h. cc)) (λ payload. whole_other (_, payload.1)))))

prepare : (bytes : List ℕ) → IsOther NoMemory (prepare_at bytes)
unfolding prepare_at
prepare bytes = then_other (packet_at 12 12 bytes) _ (packet 12 12 bytes) (λ p. prepare_in p.1)

answer : (bytes : List ℕ) → IsOther NoMemory (answer_at bytes)
unfolding answer_at
answer bytes = then_other (packet_at 13 14 bytes) _ (packet 13 14 bytes) (λ p. if_other NoMemory (p.0 == 13) _ _ (fulfill_in p.1) (reject_in p.1))

pub reads_without_memory : ReadsWithoutMemory
reads_without_memory = record { expiry = λ text. (expiry text).other; prepare = λ bytes. (prepare bytes).other; answer = λ bytes. (answer bytes).other }
