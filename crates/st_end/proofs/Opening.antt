-- Streams that open for sending, one after another.
use Rattle.std.proofs.Common.{◌≡◌, ℕ, suc, ◌+◌, ◌-◌, ◌<◌, ◌≤◌, ap, refl, arith}
use Rattle.std.specs.List.{fold, range_with_len}
use Rattle.st_sender.specs.Sending.{Sending}
use Rattle.st_receiver.specs.Streams.{Receiving}
use Rattle.st_end.specs.Receiving.{opened_at, opened_too}

-- those from a place on
unfoldable pub opened_from : Receiving → Sending → (i : ℕ) → Sending
opened_from r s i = fold (opened_at r) s (range_with_len (i + 1) (64 - i))

pub from_first : (r : Receiving) (s : Sending) → opened_too r s ≡ opened_from r s 0
unfolding opened_too opened_from
from_first r s = refl

one_of : (f : Sending → ℕ → Sending) (s : Sending) (i n m : ℕ) → n ≡ suc m → fold f s (range_with_len (i + 1) n) ≡ fold f (f s (i + 1)) (range_with_len (i + 1 + 1) m)
one_of f s i n m e = ap (λ n. fold f s (range_with_len (i + 1) n)) e

pub next_opened : (r : Receiving) (s : Sending) (i : ℕ) → i < 64 → opened_from r s i ≡ opened_from r (opened_at r s (i + 1)) (i + 1)
unfolding opened_from
next_opened r s i l = one_of (opened_at r) s i (64 - i) (64 - (i + 1)) (omega arith)

none_of : (f : Sending → ℕ → Sending) (s : Sending) (i n : ℕ) → n ≡ 0 → fold f s (range_with_len (i + 1) n) ≡ s
none_of f s i n e = ap (λ n. fold f s (range_with_len (i + 1) n)) e

pub all_opened : (r : Receiving) (s : Sending) (i : ℕ) → 64 ≤ i → opened_from r s i ≡ s
unfolding opened_from
all_opened r s i l = none_of (opened_at r) s i (64 - i) (omega arith)
