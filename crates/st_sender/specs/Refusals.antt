-- Why a call on a stream is refused: the first rule that applies. The call is out of memory only if no rule applies.
use Rattle.std.specs.Prelude.{◌≡◌, ◌⊎◌, ℕ, ◌+◌, ◌^◌, Bool, ◌||◌, [], ◌∷◌, is_some, nat_lt, nat_le, if◌then◌else◌, Result, Ok, Err}
use Rattle.std.specs.declared.option.Option.{Option}
use Rattle.std.specs.declared.option.Option.TheVariants.{None, Some}
use Rattle.std.specs.FinMap.{len}
use Rattle.st_streams.specs.Slots.{Slots}
use Rattle.st_sender.specs.declared.error.OutboxError.{OutboxError}
use Rattle.st_sender.specs.declared.error.OutboxError.TheVariants.{NoStream, Closed, Full, AmountTooLarge, NoMemory}
use Rattle.st_sender.specs.Sending.{Outgoing, Sending, outgoing_at}

abbrev pub accepted_of : Option Outgoing → ℕ
accepted_of None = 0
accepted_of (Some x) = x.accepted

abbrev pub offered_of : Option Outgoing → ℕ
offered_of None = 0
offered_of (Some x) = x.offered

-- bytes accepted on all streams
abbrev pub all_accepted : Slots Outgoing → ℕ
all_accepted [] = 0
all_accepted (x ∷ xs) = accepted_of x + all_accepted xs

-- all offers that were ever accepted, also those that an abort dropped
abbrev pub all_offered : Slots Outgoing → ℕ
all_offered [] = 0
all_offered (x ∷ xs) = offered_of x + all_offered xs

abbrev pub is_aborted : Outgoing → Bool
is_aborted x = is_some x.abort

-- nothing more is accepted but an abort
abbrev pub is_closed : Outgoing → Bool
is_closed x = is_some x.abort || x.clean

-- a call that a stream must be open for, and not closed; a rule of the call's own comes last
abbrev pub refusal_at : Option Outgoing → (closed : Outgoing → Bool) → (own : Outgoing → Option OutboxError) → Option OutboxError
refusal_at None closed own = Some NoStream
refusal_at (Some x) closed own = if closed x then Some Closed else own x

abbrev pub no_more : Outgoing → Option OutboxError
no_more x = None

-- 262,144 bytes of a stream are kept until they are acknowledged, and fewer than 2^63 are ever accepted on all
abbrev pub full : (all n : ℕ) → Outgoing → Option OutboxError
full all n x = if nat_lt 262144 (len x.unacked + n) || nat_le (2 ^ 63) (all + n) then Some Full else None

-- all offers stay below 2^63
abbrev pub too_much : (all amount : ℕ) → Outgoing → Option OutboxError
too_much all amount x = if nat_le (2 ^ 63) (all + amount) then Some AmountTooLarge else None

-- of a write of n bytes, a close, an abort, an offer
abbrev pub write_refusal : Sending → (stream n : ℕ) → Option OutboxError
write_refusal s k n = refusal_at (outgoing_at s k) is_closed (full (all_accepted s.streams) n)

abbrev pub close_refusal : Sending → (stream : ℕ) → Option OutboxError
close_refusal s k = refusal_at (outgoing_at s k) is_closed no_more

abbrev pub abort_refusal : Sending → (stream : ℕ) → Option OutboxError
abort_refusal s k = refusal_at (outgoing_at s k) is_aborted no_more

abbrev pub offer_refusal : Sending → (stream amount : ℕ) → Option OutboxError
offer_refusal s k amount = refusal_at (outgoing_at s k) is_closed (too_much (all_offered s.streams) amount)

-- the answer is this refusal, if there is one, and otherwise success
abbrev pub Answers : Option OutboxError → Result (Unit {0}) OutboxError → Type 0
Answers None r = r ≡ Ok tt
Answers (Some e) r = r ≡ Err e

-- or, if there is none, also out of memory
abbrev pub AnswersOrWants : Option OutboxError → Result (Unit {0}) OutboxError → Type 0
AnswersOrWants None r = (r ≡ Ok tt) ⊎ (r ≡ Err NoMemory)
AnswersOrWants (Some e) r = r ≡ Err e
