-- What a Prepare that arrives leaves of an end's bytes, and what it credits.
use Rattle.std.proofs.Common.{◌≡◌, ℕ, ℤ, Bool, true, false, not, cond, List, refl, sym, subst, Option, None, Some, nat_eq, Result, Ok, Err}
use Rattle.std.specs.Prelude.{int_le}
use Rattle.st_oer.specs.Address.{is_within}
use Rattle.st_ilp.specs.Packets.{PreparePacket}
use Rattle.st_ilp.specs.Reading.{prepare_at}
use Rattle.st_ilp.specs.Errors as ilp
use Rattle.st_ilp.specs.declared.error.IlpError.{IlpError}
use Rattle.st_ilp.specs.declared.error.IlpError.TheVariants as ilp_faults
use Rattle.st_frames.specs.Frames.{Packet, frames_of}
use Rattle.st_keys.specs.Sealed.{opened}
use Rattle.st_keys.specs.Errors as payloads
use Rattle.st_keys.specs.declared.error.KeyError.{KeyError}
use Rattle.st_keys.specs.declared.error.KeyError.TheVariants as key_faults
use Rattle.st_sender.specs.Answering.{after_all_told}
use Rattle.st_receiver.specs.declared.reason.Reason.{Reason}
use Rattle.st_receiver.specs.declared.reason.Reason.TheVariants.{Repeated, AmountTooSmall, FlowControl, StreamId, NoShares, OverReceiveMax, ConnectionClosed, NoMemory}
use Rattle.st_receiver.specs.Reasons as reasons
use Rattle.st_receiver.specs.Streams.{Receiving}
use Rattle.st_receiver.specs.Judged.{fault_of, effect}
use Rattle.st_receiver.specs.Limits.{reply_frames}
use Rattle.st_end.specs.State.{EndState}
use Rattle.st_end.specs.Receiving.{Verdict, Unread, Rejects, Fulfills, f02, r00, judged_as, is_own_condition, opened_as, verdict_on, opened_too, told, fulfilled, after_verdict, reason_of, prepare_or_none, received}
use Rattle.st_hub.specs.Turns.{credited_by}
use Rattle.st_hub.specs.Keeping.{KeepsRead, Keeps}
use Rattle.st_hub.proofs.SentKeeping.{sent_same, sent_join, all_told, opened_too_keeps, all_marked_keeps}
use Rattle.st_hub.proofs.ReadKeeping.{read_same, effect_read}
use Rattle.st_hub.proofs.EndEvents.{keeps_same}

-- what a verdict says of a Prepare: a Fulfill leaves the effect of its amount, and broke no rule; every other reason is
-- above 0
abbrev pub Tells : EndState → PreparePacket → Verdict → Type 0
Tells e q (Unread code reason) = nat_eq reason 0 ≡ false
Tells e q (Rejects p reason) = nat_eq reason 0 ≡ false
Tells e q (Fulfills p r) = (r ≡ effect e.receiving p q.amount) × (fault_of e.receiving p q.amount ≡ None)

reason_number : (why : Reason) → nat_eq (reasons.number why) 0 ≡ false
reason_number Repeated = refl
reason_number AmountTooSmall = refl
reason_number FlowControl = refl
reason_number StreamId = refl
reason_number NoShares = refl
reason_number OverReceiveMax = refl
reason_number ConnectionClosed = refl
reason_number NoMemory = refl

ilp_number : (fault : IlpError) → nat_eq (ilp.number fault) 0 ≡ false
ilp_number (ilp_faults.Oer e) = refl
ilp_number ilp_faults.Kind = refl
ilp_number ilp_faults.Expiry = refl
ilp_number ilp_faults.Address = refl
ilp_number ilp_faults.DataTooLong = refl
ilp_number ilp_faults.NotUtf8 = refl
ilp_number ilp_faults.Code = refl
ilp_number ilp_faults.Trailing = refl
ilp_number ilp_faults.NoMemory = refl

key_number : (fault : KeyError) → nat_eq (payloads.number fault) 0 ≡ false
key_number key_faults.Short = refl
key_number key_faults.Tag = refl
key_number (key_faults.Packet e) = refl
key_number key_faults.NoMemory = refl

tells_judged : (e : EndState) (q : PreparePacket) (p : Packet) (o : Option Reason) → fault_of e.receiving p q.amount ≡ o → Tells e q (judged_as p (effect e.receiving p q.amount) o)
tells_judged e q p None is = (refl, is)
tells_judged e q p (Some why) is = reason_number why

tells_if : (b : Bool) (e : EndState) (q : PreparePacket) (v w : Verdict) → Tells e q v → Tells e q w → Tells e q (cond b v w)
tells_if true e q v w f g = f
tells_if false e q v w f g = g

tells_opened : (e : EndState) (q : PreparePacket) (r : Result Packet KeyError) → Tells e q (opened_as e q r)
tells_opened e q (Err fault) = key_number fault
tells_opened e q (Ok p) = tells_if (is_own_condition e q) e q (judged_as p (effect e.receiving p q.amount) (fault_of e.receiving p q.amount)) (Rejects p 55) (tells_judged e q p (fault_of e.receiving p q.amount) refl) refl

pub tells_verdict : (e : EndState) (now : ℤ) (r : Result PreparePacket IlpError) → Tells e (prepare_or_none r) (verdict_on e now r)
tells_verdict e now (Err fault) = ilp_number fault
tells_verdict e now (Ok q) =
    let last = opened_as e q (opened e.keys 12 q.payload) in
    let then = cond (int_le q.expiry now) (Unread r00 57) last in
    tells_if (not (is_within e.own q.destination)) e q (Unread f02 56) then refl (tells_if (int_le q.expiry now) e q (Unread r00 57) last refl (tells_opened e q (opened e.keys 12 q.payload)))

none_by : (b : Bool) (n : ℕ) → b ≡ false → 0 ≡ cond b n 0
none_by true n e = absurd (cc)
none_by false n e = refl

told_keeps : (n : ℕ) (b : Bool) (e : EndState) (p : Packet) → b ≡ false → Keeps (cond b n 0) e (told e p)
told_keeps n b e p off = subst (λ m. Keeps m e (told e p)) (none_by b n off) (record { sent = all_told (frames_of p) e.sending; read = read_same e.receiving })

fulfilled_keeps : (n : ℕ) (e : EndState) (p : Packet) (r : Receiving) → r ≡ effect e.receiving p n → Keeps n e (fulfilled e p r)
fulfilled_keeps n e p r is =
    let s = opened_too r e.sending in
    let told = after_all_told s (frames_of p) in
    record {
      sent = all_marked_keeps (reply_frames r (frames_of p)) (frames_of p) e.sending told (sent_join e.sending s told (opened_too_keeps r e.sending e.sending (sent_same e.sending)) (all_told (frames_of p) s));
      read = subst (KeepsRead n e.receiving) (sym is) (effect_read e.receiving p n);
    }

verdict_keeps : (e : EndState) (q : PreparePacket) (v : Verdict) → Tells e q v → Keeps (cond (nat_eq (reason_of v) 0) q.amount 0) e (after_verdict e v)
verdict_keeps e q (Unread code reason) t = subst (λ n. Keeps n e e) (none_by (nat_eq reason 0) q.amount t) (keeps_same e)
verdict_keeps e q (Rejects p reason) t = told_keeps q.amount (nat_eq reason 0) e p t
verdict_keeps e q (Fulfills p r) t = fulfilled_keeps q.amount e p r t.0

pub received_keeps : (e : EndState) (bytes : List ℕ) (now : ℤ) → Keeps (credited_by (received e bytes now).0) e (received e bytes now).1
received_keeps e bytes now = verdict_keeps e (prepare_or_none (prepare_at bytes)) (verdict_on e now (prepare_at bytes)) (tells_verdict e now (prepare_at bytes))
