-- Reading never answers that memory is refused.
use Rattle.std.proofs.Common.{ℕ, ◌-◌, nat_lt, Bool, true, false, cond, ◌&&◌, List, [], ◌∷◌, length, Result, Ok, Err}
use Rattle.std.specs.Prelude.{◌≢◌, ◌==◌, ◌||◌, slice_index, IfErr}
use Rattle.st_oer.specs.declared.error.OerError.{OerError}
use Rattle.st_oer.specs.declared.error.OerError.TheVariants.{Short, LongLength, LongNumber, TooBig, NoMemory}
use Rattle.st_oer.specs.Spelling.{number}
use Rattle.st_oer.specs.Reading.{◌>>=◌, fixed_at, byte_at, u64_at, long_length, length_at, octets_at, short_number, var_uint_at, limit_at}
use Rattle.st_oer.specs.Laws.{ReadsWithoutMemory}

-- a value, or another refusal than this one
pub record IsOther {X E : Type 0} (refusal : E) (r : Result X E) : Type 0 where
  pub other : IfErr r (λ e. e ≢ refusal)

pub given : {X E : Type 0} (refusal : E) (x : X) → IsOther refusal (Ok x)
given refusal x = record { other = tt }

pub refused : {X E : Type 0} (refusal e : E) → e ≢ refusal → IsOther {X = X} refusal (Err e)
refused refusal e other = record { other = other }

pub if_other : {X E : Type 0} (refusal : E) (b : Bool) (x y : Result X E) → IsOther refusal x → IsOther refusal y → IsOther refusal (cond b x y)
if_other refusal true x y a b = a
if_other refusal false x y a b = b

then_other : {A B : Type 0} (r : Result A OerError) (f : A → Result B OerError) → IsOther NoMemory r → ((x : A) → IsOther NoMemory (f x)) → IsOther NoMemory (r >>= f)
then_other (Ok x) f first next = next x
then_other (Err e) f first next = record { other = first.other }

byte : (bytes : List ℕ) → IsOther NoMemory (byte_at bytes)
byte [] = refused NoMemory Short (λ h. cc)
byte (b ∷ rest) = given NoMemory (b, rest)

fixed : (n : ℕ) (bytes : List ℕ) → IsOther NoMemory (fixed_at n bytes)
fixed n bytes = if_other NoMemory (nat_lt (length bytes) n) _ _ (refused NoMemory Short (λ h. cc)) (given NoMemory _)

u64 : (bytes : List ℕ) → IsOther NoMemory (u64_at bytes)
unfolding u64_at
u64 bytes = if_other NoMemory (nat_lt (length bytes) 8) _ _ (refused NoMemory Short (λ h. cc)) (given NoMemory _)

long : (bytes : List ℕ) → IsOther NoMemory (long_length bytes)
long bytes = if_other NoMemory ((slice_index bytes 0 == 0) || nat_lt (number bytes) 128) _ _ (refused NoMemory LongLength (λ h. cc)) (given NoMemory _)

short : (bytes : List ℕ) → IsOther NoMemory (short_number bytes)
short bytes = if_other NoMemory ((slice_index bytes 0 == 0) && nat_lt 1 (length bytes)) _ _ (refused NoMemory LongNumber (λ h. cc)) (given NoMemory _)

length_other : (bytes : List ℕ) → IsOther NoMemory (length_at bytes)
unfolding length_at
length_other bytes =
    then_other (byte_at bytes) _ (byte bytes) (λ first.
    if_other NoMemory (nat_lt first.0 128) _ _ (given NoMemory _) (
    if_other NoMemory (first.0 == 128) _ _ (refused NoMemory LongLength (λ h. cc)) (
    if_other NoMemory (nat_lt 136 first.0) _ _ (refused NoMemory TooBig (λ h. cc)) (
    then_other (fixed_at (first.0 - 128) first.1) _ (fixed (first.0 - 128) first.1) (λ digits.
    then_other (long_length digits.0) _ (long digits.0) (λ n. given NoMemory (n, digits.1)))))))

octets : (bytes : List ℕ) → IsOther NoMemory (octets_at bytes)
unfolding octets_at
octets bytes = then_other (length_at bytes) _ (length_other bytes) (λ n. fixed n.0 n.1)

var_uint : (bytes : List ℕ) → IsOther NoMemory (var_uint_at bytes)
unfolding var_uint_at
var_uint bytes =
    then_other (length_at bytes) _ (length_other bytes) (λ n.
    if_other NoMemory (n.0 == 0) _ _ (refused NoMemory LongNumber (λ h. cc)) (
    if_other NoMemory (nat_lt 8 n.0) _ _ (refused NoMemory TooBig (λ h. cc)) (
    then_other (fixed_at n.0 n.1) _ (fixed n.0 n.1) (λ text. then_other (short_number text.0) _ (short text.0) (λ x. given NoMemory (x, text.1))))))

limit : (bytes : List ℕ) → IsOther NoMemory (limit_at bytes)
unfolding limit_at
limit bytes =
    then_other (length_at bytes) _ (length_other bytes) (λ n.
    if_other NoMemory (n.0 == 0) _ _ (refused NoMemory LongNumber (λ h. cc)) (
    then_other (fixed_at n.0 n.1) _ (fixed n.0 n.1) (λ text. then_other (short_number text.0) _ (short text.0) (λ x. given NoMemory _))))

pub reads_without_memory : ReadsWithoutMemory
reads_without_memory = record {
  byte = λ bytes. (byte bytes).other;
  u64 = λ bytes. (u64 bytes).other;
  fixed = λ n bytes. (fixed n bytes).other;
  length = λ bytes. (length_other bytes).other;
  octets = λ bytes. (octets bytes).other;
  var_uint = λ bytes. (var_uint bytes).other;
  limit = λ bytes. (limit bytes).other;
}
