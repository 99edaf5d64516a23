-- An answer by the status at each offset, and as a function: one and the same.
use Rattle.std.proofs.Common.{◌≡◌, ℕ, Bool, true, false, cond, Option, None, refl, ◌∙◌, sym, subst}
use Rattle.std.specs.Prelude.{not}
use Rattle.std.specs.Ordering.{nat_cmp}
use Rattle.std.specs.Cmp.{nat_cmp_total}
use Rattle.std.specs.FinMap as fmap
use Rattle.st_streams.proofs.Tables.{get-kept}
use Rattle.st_unacked.specs.Sent.{Sent, is_by, without_flight, after_acknowledged, after_failed}
use Rattle.st_unacked.specs.Laws.{Answers, AcknowledgedIsPointwise, FailedIsPointwise}
use Rattle.st_unacked.proofs.Views.{same_sent}

turned : (b : Bool) (g : Option ℕ) → cond (not b) g None ≡ cond b None g
turned true g = refl
turned false g = refl

-- what is left of a map at an offset
left : (sequence : ℕ) (s : Sent) (m : fmap.FinMap nat_cmp ℕ) (q : ℕ) → fmap.get (without_flight sequence s m) q ≡ cond (is_by sequence (fmap.get s.flying q)) None (fmap.get m q)
left sequence s m q = get-kept m (λ p. not (is_by sequence (fmap.get s.flying p))) q ∙ turned (is_by sequence (fmap.get s.flying q)) (fmap.get m q)

same_map : (m n : fmap.FinMap nat_cmp ℕ) → ((q : ℕ) → fmap.get m q ≡ fmap.get n q) → m ≡ n
same_map m n e = fmap.same_map nat_cmp_total fmap.nat_cmp-IsAntisymmetric m n e

acked : (sequence : ℕ) (s : Sent) → Answers sequence true s (after_acknowledged sequence s)
acked sequence s = record { unacked = left sequence s s.unacked; flying = left sequence s s.flying; accepted = refl }

one_acked : (sequence : ℕ) (s t : Sent) → Answers sequence true s t → t ≡ after_acknowledged sequence s
one_acked sequence s t a =
    same_sent t (after_acknowledged sequence s)
    (same_map t.unacked (without_flight sequence s s.unacked) (λ q. a.unacked q ∙ sym (left sequence s s.unacked q)))
    (same_map t.flying (without_flight sequence s s.flying) (λ q. a.flying q ∙ sym (left sequence s s.flying q)))
    a.accepted

pub acked_pointwise : AcknowledgedIsPointwise
acked_pointwise sequence s t = (one_acked sequence s t, λ e. subst (Answers sequence true s) (sym e) (acked sequence s))

failed : (sequence : ℕ) (s : Sent) → Answers sequence false s (after_failed sequence s)
failed sequence s = record { unacked = λ q. refl; flying = left sequence s s.flying; accepted = refl }

one_failed : (sequence : ℕ) (s t : Sent) → Answers sequence false s t → t ≡ after_failed sequence s
one_failed sequence s t a =
    same_sent t (after_failed sequence s) (same_map t.unacked s.unacked a.unacked)
    (same_map t.flying (without_flight sequence s s.flying) (λ q. a.flying q ∙ sym (left sequence s s.flying q)))
    a.accepted

pub failed_pointwise : FailedIsPointwise
failed_pointwise sequence s t = (one_failed sequence s t, λ e. subst (Answers sequence false s) (sym e) (failed sequence s))
