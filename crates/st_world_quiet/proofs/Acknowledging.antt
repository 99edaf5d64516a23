-- What a Fulfill leaves of one stream: the frames of a `Load`, as that stream sees them.
use Rattle.std.proofs.Common.{◌≡◌, ◌≢◌, ℕ, ◌+◌, Bool, true, false, cond, List, [], ◌∷◌, length, max, refl, sym, ◌∙◌, arith, Option, None, Some, inl, inr, nat_eq, map}
use Rattle.std.proofs.lemmas.Bool.{cases_eq}
use Rattle.std.proofs.lemmas.Bool.Decides.{nat_tests}
use Rattle.st_frames.specs.Frames.{CloseFrame, ConnectionClose, BlockedFrame, ConnectionDataBlocked, LimitFrame, OtherFrame, Known, StreamClose, StreamData, StreamDataBlocked, StreamMoney, StreamMoneyBlocked, ConnectionMaxData, StreamMaxData, StreamMaxMoney}
use Rattle.st_sender.specs.Sending.{Outgoing, Sending, changed, changed_at, outgoing_at}
use Rattle.st_sender.specs.Flights.{end_of, flown, highest_end}
use Rattle.st_sender.specs.Answering.{acked_blocked, acked_close, acked_data, acked_money, acked_money_blocked, after_acked, after_all_acked}
use Rattle.st_streams.proofs.SlotLemmas.{slot_apart, slot_here, slot_within}

pub is_same : (j k : ℕ) → j ≡ k → nat_eq j k ≡ true
is_same j k e = grind (arith, nat_tests)

pub is_other : (j k : ℕ) → j ≢ k → nat_eq j k ≡ false
is_other j k n = grind (arith, nat_tests)

pub change_apart : (s : Sending) (j k : ℕ) (f : Outgoing → Outgoing) (y : Option Outgoing) → k ≢ j → outgoing_at (changed_at s j f y) k ≡ outgoing_at s k
change_apart s j k f None n = refl
change_apart s j k f (Some y) n = slot_apart s.streams j (f y) k n

-- a change of one stream, as any stream sees it
pub own_change : (s : Sending) (j k : ℕ) (f : Outgoing → Outgoing) (x : Outgoing) → outgoing_at s k ≡ Some x → outgoing_at (changed s j f) k ≡ Some (cond (nat_eq j k) (f x) x)
own_change s j k f x e = elim (cases_eq j k) [
  | inl same ↦ (let b = is_same j k same in let here : outgoing_at s j ≡ Some x = rw same e in
      rw (b, here, same) (slot_here s.streams k (f x) (slot_within s.streams k x e)))
  | inr apart ↦ (let b = is_other j k apart in rw b (change_apart s j k f (outgoing_at s j) (λ z. apart (sym z)) ∙ e))
]

abbrev pub own_acked : ℕ → Known → Outgoing → Outgoing
own_acked k (StreamData j o xs) x = cond (nat_eq j k) (acked_data o (length xs) x) x
own_acked k (StreamMoney j n) x = cond (nat_eq j k) (acked_money n x) x
own_acked k (CloseFrame (StreamClose j code message)) x = cond (nat_eq j k) (acked_close code x) x
own_acked k (BlockedFrame (StreamDataBlocked j n)) x = cond (nat_eq j k) (acked_blocked n x) x
own_acked k (BlockedFrame (StreamMoneyBlocked j n t)) x = cond (nat_eq j k) (acked_money_blocked n x) x
own_acked k f x = x

abbrev pub all_own_acked : ℕ → List Known → Outgoing → Outgoing
all_own_acked k [] x = x
all_own_acked k (f ∷ fs) x = all_own_acked k fs (own_acked k f x)

pub acked_at : (s : Sending) (k : ℕ) (f : Known) (x : Outgoing) → outgoing_at s k ≡ Some x → outgoing_at (after_acked s (flown f)) k ≡ Some (own_acked k f x)
acked_at s k (StreamData j o xs) x e = own_change s j k (acked_data o (length xs)) x e
acked_at s k (StreamMoney j n) x e = own_change s j k (acked_money n) x e
acked_at s k (CloseFrame (StreamClose j code message)) x e = own_change s j k (acked_close code) x e
acked_at s k (BlockedFrame (StreamDataBlocked j n)) x e = own_change s j k (acked_blocked n) x e
acked_at s k (BlockedFrame (StreamMoneyBlocked j n t)) x e = own_change s j k (acked_money_blocked n) x e
acked_at s k (BlockedFrame (ConnectionDataBlocked n)) x e = e
acked_at s k (LimitFrame (ConnectionMaxData n)) x e = e
acked_at s k (LimitFrame (StreamMaxData j n)) x e = e
acked_at s k (LimitFrame (StreamMaxMoney j n u)) x e = e
acked_at s k (CloseFrame (ConnectionClose code message)) x e = e
acked_at s k (OtherFrame o) x e = e

pub all_acked_at : (s : Sending) (k : ℕ) (fs : List Known) (x : Outgoing) → outgoing_at s k ≡ Some x → outgoing_at (after_all_acked s (map flown fs)) k ≡ Some (all_own_acked k fs x)
all_acked_at s k [] x e = e
all_acked_at s k (f ∷ fs) x e = all_acked_at (after_acked s (flown f)) k fs (own_acked k f x) (acked_at s k f x e)

-- ---- what the frames change, and what they do not

-- all that a Fulfill leaves as it is
pub record IsKept (x y : Outgoing) : Type 0 where
  pub accepted : y.accepted ≡ x.accepted
  pub offered : y.offered ≡ x.offered
  pub clean : y.clean ≡ x.clean
  pub abort : y.abort ≡ x.abort
  pub told : y.told ≡ x.told
  pub advertised_money : y.advertised_money ≡ x.advertised_money

kept : (x : Outgoing) → IsKept x x
kept x = record { accepted = refl; offered = refl; clean = refl; abort = refl; told = refl; advertised_money = refl }

kept_then : (x y z : Outgoing) → IsKept x y → IsKept y z → IsKept x z
kept_then x y z a b = record {
  accepted = b.accepted ∙ a.accepted;
  offered = b.offered ∙ a.offered;
  clean = b.clean ∙ a.clean;
  abort = b.abort ∙ a.abort;
  told = b.told ∙ a.told;
  advertised_money = b.advertised_money ∙ a.advertised_money;
}

kept_if : (b : Bool) (x y : Outgoing) → IsKept x y → IsKept x (cond b y x)
kept_if true x y h = h
kept_if false x y h = kept x

kept_close : (b : Bool) (x : Outgoing) → IsKept x (cond b (record x { clean_settled = true }) (record x { abort_settled = true }))
kept_close true x = record { accepted = refl; offered = refl; clean = refl; abort = refl; told = refl; advertised_money = refl }
kept_close false x = record { accepted = refl; offered = refl; clean = refl; abort = refl; told = refl; advertised_money = refl }

acked_kept : (k : ℕ) (f : Known) (x : Outgoing) → IsKept x (own_acked k f x)
acked_kept k (StreamData j o xs) x = kept_if (nat_eq j k) x (acked_data o (length xs) x) (record { accepted = refl; offered = refl; clean = refl; abort = refl; told = refl; advertised_money = refl })
acked_kept k (StreamMoney j n) x = kept_if (nat_eq j k) x (acked_money n x) (record { accepted = refl; offered = refl; clean = refl; abort = refl; told = refl; advertised_money = refl })
acked_kept k (CloseFrame (StreamClose j code message)) x = kept_if (nat_eq j k) x (acked_close code x) (kept_close (nat_eq code 1) x)
acked_kept k (BlockedFrame (StreamDataBlocked j n)) x = kept_if (nat_eq j k) x (acked_blocked n x) (record { accepted = refl; offered = refl; clean = refl; abort = refl; told = refl; advertised_money = refl })
acked_kept k (BlockedFrame (StreamMoneyBlocked j n t)) x = kept_if (nat_eq j k) x (acked_money_blocked n x) (record { accepted = refl; offered = refl; clean = refl; abort = refl; told = refl; advertised_money = refl })
acked_kept k (BlockedFrame (ConnectionDataBlocked n)) x = kept x
acked_kept k (LimitFrame l) x = kept x
acked_kept k (CloseFrame (ConnectionClose code message)) x = kept x
acked_kept k (OtherFrame o) x = kept x

pub all_kept : (k : ℕ) (fs : List Known) (x : Outgoing) → IsKept x (all_own_acked k fs x)
all_kept k [] x = kept x
all_kept k (f ∷ fs) x = kept_then x (own_acked k f x) (all_own_acked k fs (own_acked k f x)) (acked_kept k f x) (all_kept k fs (own_acked k f x))

-- the acknowledged end
end_if : (b : Bool) (x : Outgoing) (o : ℕ) (xs : List ℕ) → (cond b (acked_data o (length xs) x) x).acked_end ≡ max x.acked_end (cond b (o + length xs) 0)
end_if true x o xs = refl
end_if false x o xs = omega arith

same_end_if : (b : Bool) (x y : Outgoing) → y.acked_end ≡ x.acked_end → (cond b y x).acked_end ≡ max x.acked_end 0
same_end_if true x y e = e ∙ omega arith
same_end_if false x y e = omega arith

close_end : (b : Bool) (x : Outgoing) → (cond b (record x { clean_settled = true }) (record x { abort_settled = true })).acked_end ≡ x.acked_end
close_end true x = refl
close_end false x = refl

no_end : (x : Outgoing) → x.acked_end ≡ max x.acked_end 0
no_end x = omega arith

acked_end_at : (k : ℕ) (f : Known) (x : Outgoing) → (own_acked k f x).acked_end ≡ max x.acked_end (end_of k (flown f))
acked_end_at k (StreamData j o xs) x = end_if (nat_eq j k) x o xs
acked_end_at k (StreamMoney j n) x = same_end_if (nat_eq j k) x (acked_money n x) refl
acked_end_at k (CloseFrame (StreamClose j code message)) x = same_end_if (nat_eq j k) x (acked_close code x) (close_end (nat_eq code 1) x)
acked_end_at k (BlockedFrame (StreamDataBlocked j n)) x = same_end_if (nat_eq j k) x (acked_blocked n x) refl
acked_end_at k (BlockedFrame (StreamMoneyBlocked j n t)) x = same_end_if (nat_eq j k) x (acked_money_blocked n x) refl
acked_end_at k (BlockedFrame (ConnectionDataBlocked n)) x = no_end x
acked_end_at k (LimitFrame l) x = no_end x
acked_end_at k (CloseFrame (ConnectionClose code message)) x = no_end x
acked_end_at k (OtherFrame o) x = no_end x

pub all_acked_end : (k : ℕ) (fs : List Known) (x : Outgoing) → (all_own_acked k fs x).acked_end ≡ max x.acked_end (highest_end k (map flown fs))
all_acked_end k [] x = no_end x
all_acked_end k (f ∷ fs) x = let a = all_acked_end k fs (own_acked k f x) in let b = acked_end_at k f x in omega (arith, a, b)

-- a stream that is not open stays so
pub none_changed : (s : Sending) (j k : ℕ) (f : Outgoing → Outgoing) → outgoing_at s k ≡ None → outgoing_at (changed s j f) k ≡ None
none_changed s j k f e = elim (cases_eq j k) [
  | inl same ↦ (let here : outgoing_at s j ≡ None = rw same e in rw here e)
  | inr apart ↦ change_apart s j k f (outgoing_at s j) (λ z. apart (sym z)) ∙ e
]

none_acked : (s : Sending) (k : ℕ) (f : Known) → outgoing_at s k ≡ None → outgoing_at (after_acked s (flown f)) k ≡ None
none_acked s k (StreamData j o xs) e = none_changed s j k (acked_data o (length xs)) e
none_acked s k (StreamMoney j n) e = none_changed s j k (acked_money n) e
none_acked s k (CloseFrame (StreamClose j code message)) e = none_changed s j k (acked_close code) e
none_acked s k (BlockedFrame (StreamDataBlocked j n)) e = none_changed s j k (acked_blocked n) e
none_acked s k (BlockedFrame (StreamMoneyBlocked j n t)) e = none_changed s j k (acked_money_blocked n) e
none_acked s k (BlockedFrame (ConnectionDataBlocked n)) e = e
none_acked s k (LimitFrame (ConnectionMaxData n)) e = e
none_acked s k (LimitFrame (StreamMaxData j n)) e = e
none_acked s k (LimitFrame (StreamMaxMoney j n u)) e = e
none_acked s k (CloseFrame (ConnectionClose code message)) e = e
none_acked s k (OtherFrame o) e = e

pub none_stays : (s : Sending) (k : ℕ) (fs : List Known) → outgoing_at s k ≡ None → outgoing_at (after_all_acked s (map flown fs)) k ≡ None
none_stays s k [] e = e
none_stays s k (f ∷ fs) e = none_stays (after_acked s (flown f)) k fs (none_acked s k f e)
