-- What a packet that opened is answered, from what became of it.
use Rattle.std.proofs.Common.{◌≡◌, ℕ, None, ap, ◌∙◌, sym, subst, List}
use Rattle.st_frames.specs.Frames.{Packet, frames_of}
use Rattle.st_sender.specs.Sending.{Sending}
use Rattle.st_receiver.specs.Streams.{Receiving}
use Rattle.st_receiver.specs.Judged.{fault_of, effect}
use Rattle.st_end.specs.State.{EndState}
use Rattle.st_end.specs.Lawful.{IsLawful}
use Rattle.st_end.specs.Receiving.{Received, new_peer, fulfilled}
use Rattle.st_end.specs.Inside.{taken_by}
use Rattle.st_end.proofs.Streams.{sends, receives}
use Rattle.st_end.proofs.Lawfulness.{both_open, lawful_as}
use Rattle.st_end.proofs.Numbered.{numbered_as}
use Rattle.st_end.proofs.Taking.{fulfilled_lawful}

-- ---- the rule that applies

-- ---- what is left

pub fulfilled_from : (e : EndState) (p : Packet) (r t : Receiving) (s : Sending) (peer : List ℕ) → s ≡ taken_by e.sending r p → t ≡ r → peer ≡ new_peer e.peer (frames_of p)
    → ◌≡◌ {A = EndState} (record e { sending = s; receiving = t; peer = peer }) (fulfilled e p r)
fulfilled_from e p r t s peer a b c =
    ap (λ (x : Sending). record e { sending = x; receiving = t; peer = peer }) a
    ∙ ap (λ (x : Receiving). record e { sending = taken_by e.sending r p; receiving = x; peer = peer }) b
    ∙ ap (λ (x : List ℕ). record e { sending = taken_by e.sending r p; receiving = r; peer = x }) c

pub taken_lawful : (e : EndState) (p : Packet) (amount : ℕ) (t : Receiving) (s : Sending) (peer : List ℕ) → IsLawful e → fault_of e.receiving p amount ≡ None
    → s ≡ taken_by e.sending (effect e.receiving p amount) p → t ≡ effect e.receiving p amount → peer ≡ new_peer e.peer (frames_of p) → IsLawful (record e { sending = s; receiving = t; peer = peer })
taken_lawful e p amount t s peer l none a b c =
    subst IsLawful (sym (fulfilled_from e p (effect e.receiving p amount) t s peer a b c)) (fulfilled_lawful e p amount none l)

abbrev both : Received → EndState → Received × EndState
both r e = (r, e)

pub same_lawful : (e : EndState) (t : Receiving) (s : Sending) → IsLawful e → s ≡ e.sending → t ≡ e.receiving → IsLawful (record e { sending = s; receiving = t })
same_lawful e t s l a b = lawful_as e s t (ap (λ (x : Sending). x.flights) a) (ap receives b ∙ both_open e l ∙ sym (ap sends a)) (numbered_as e.sending s (ap sends a) l.numbers) (ap (λ (x : Receiving). x.parity) b) l

-- ---- a decision
