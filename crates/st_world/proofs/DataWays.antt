-- The data of one direction: what was written, what is kept of it, what flies, and what was read.
use Rattle.std.proofs.Common.{◌≡◌, ◌≢◌, ℕ, ◌+◌, ◌<◌, Ok, List, [], ◌∷◌, ◌++◌, length, take, slice_get, sym, ap, subst, ◌∙◌, Option, Some, inl, inr}
use Rattle.std.specs.Ordering.{nat_cmp}
use Rattle.std.specs.FinMap as fmap
use Rattle.std.proofs.lemmas.Bool.{cases_eq}
use Rattle.st_frames.specs.Frames.{Known, CloseFrame, OtherFrame, LimitFrame, BlockedFrame, StreamMoney, StreamData, Packet, frames_of}
use Rattle.st_keys.specs.Sealed.{opened}
use Rattle.st_reassembly.specs.Held.{Held, after_read}
use Rattle.st_reassembly.specs.Run.{IsRun}
use Rattle.st_sender.specs.Sending.{Sending, Outgoing, outgoing_at, with_outgoing}
use Rattle.st_sender.specs.Accepting.{after_write}
use Rattle.st_receiver.specs.Streams.{Receiving, incoming_at, with_incoming}
use Rattle.st_end.specs.State.{EndState}
use Rattle.st_end.specs.Receiving.{prepare_in}
use Rattle.st_world_parts.specs.Sides.{Side, Client, Server, other}
use Rattle.st_world_parts.specs.State.{World, log_at, with_ledger, SentPrepare, direction_at, end_at, with_end}
use Rattle.st_world_parts.specs.StreamLogs.{StreamLog, ledger_or}
use Rattle.st_world.proofs.Maps.{get_here, get_apart, Within, got_append}
use Rattle.st_streams.proofs.SlotLemmas.{slot_here, slot_apart, slot_within}
use Rattle.st_keys.specs.Keys.{DerivedKeys}
use Rattle.st_world.proofs.DataReceived.{StreamFine, RecvFine, recv-read, FrameFine, FramesFine}
use Rattle.st_world.proofs.DataSent.{OutFine, SendFine, out-write, stream-write, stream-read}

-- a Prepare whose payload carries what was written
abbrev pub PutFine : DerivedKeys → (ℕ → List ℕ) → SentPrepare → Type 0
PutFine keys w p = (q : Packet) → opened keys 12 (prepare_in p.bytes).payload ≡ Ok q → FramesFine w (frames_of q)

abbrev pub PutsFine : DerivedKeys → (ℕ → List ℕ) → List SentPrepare → Type 0
PutsFine keys w ps = (i : ℕ) (p : SentPrepare) → slice_get ps i ≡ Some p → PutFine keys w p

-- one direction: the writer's state, the reader's, and the lists of the links
pub record WayFine (keys : DerivedKeys) (w r : ℕ → List ℕ) (s : Sending) (v : Receiving) (prepares : ℕ → List SentPrepare) : Type 0 where
  pub send : SendFine w s
  pub recv : RecvFine w r v
  pub lanes : (link : ℕ) → PutsFine keys w (prepares link)

abbrev pub written_of : World → Side → ℕ → List ℕ
written_of w side k = (log_at w side k).written

abbrev pub read_of : World → Side → ℕ → List ℕ
read_of w side k = (log_at w side k).read

abbrev pub puts_of : World → Side → ℕ → List SentPrepare
puts_of w side link = (direction_at w link side).prepares

pub record DataFine (keys : DerivedKeys) (w : World) : Type 0 where
  pub own_keys : (side : Side) → (end_at w side).keys ≡ keys
  pub ways : (side : Side) → WayFine keys (written_of w side) (read_of w side) (end_at w side).sending (end_at w (other side)).receiving (puts_of w side)

-- frames stay right while the lists grow
abbrev pub Grows : (v w : ℕ → List ℕ) → Type 0
Grows v w = (k i b : ℕ) → slice_get (v k) i ≡ Some b → slice_get (w k) i ≡ Some b

data_grow : (v w : ℕ → List ℕ) (k o : ℕ) (xs : List ℕ) → Grows v w → Within (v k) o xs → Within (w k) o xs
data_grow v w k o xs grow fine i b e = grow k (o + i) b (fine i b e)

frame_grow : (v w : ℕ → List ℕ) (f : Known) → Grows v w → FrameFine v f → FrameFine w f
frame_grow v w (StreamData k o xs) grow fine = data_grow v w k o xs grow fine
frame_grow v w (StreamMoney k n) grow fine = tt
frame_grow v w (CloseFrame c) grow fine = tt
frame_grow v w (BlockedFrame b) grow fine = tt
frame_grow v w (LimitFrame l) grow fine = tt
frame_grow v w (OtherFrame o) grow fine = tt

frames_grow : (v w : ℕ → List ℕ) (fs : List Known) → Grows v w → FramesFine v fs → FramesFine w fs
frames_grow v w [] grow fine = tt
frames_grow v w (f ∷ fs) grow fine = (frame_grow v w f grow fine.0, frames_grow v w fs grow fine.1)

pub puts_grow : (keys : DerivedKeys) (v w : ℕ → List ℕ) (ps : List SentPrepare) → Grows v w → PutsFine keys v ps → PutsFine keys w ps
puts_grow keys v w ps grow fine i p e q o = frames_grow v w (frames_of q) grow (fine i p e q o)

same_grows : (v w : ℕ → List ℕ) → ((k : ℕ) → w k ≡ v k) → Grows v w
same_grows v w same k i b e = ap (λ l. slice_get l i) (same k) ∙ e

-- lists that are the same
same_send : (v w : ℕ → List ℕ) (s : Sending) → ((k : ℕ) → w k ≡ v k) → SendFine v s → SendFine w s
same_send v w s same fine k = let P : List ℕ → Type 0 = λ l. OutFine l (outgoing_at s k) in subst P (sym (same k)) (fine k)

same_stream : (v w r u : List ℕ) (h : Held) → w ≡ v → u ≡ r → StreamFine v r h → StreamFine w u h
same_stream v w r u h e f fine = rw (e, f) fine

same_recv : (v w r u : ℕ → List ℕ) (s : Receiving) → ((k : ℕ) → w k ≡ v k) → ((k : ℕ) → u k ≡ r k) → RecvFine v r s → RecvFine w u s
same_recv v w r u s same alike fine k = same_stream (v k) (w k) (r k) (u k) (incoming_at s k).held (same k) (alike k) (fine k)

pub same_way : (keys : DerivedKeys) (v w r u : ℕ → List ℕ) (s : Sending) (t : Receiving) (prepares : ℕ → List SentPrepare) → ((k : ℕ) → w k ≡ v k) → ((k : ℕ) → u k ≡ r k)
    → WayFine keys v r s t prepares → WayFine keys w u s t prepares
same_way keys v w r u s t prepares same alike fine = record {
  send = same_send v w s same fine.send;
  recv = same_recv v w r u t same alike fine.recv;
  lanes = λ link. puts_grow keys v w (prepares link) (same_grows v w same) (fine.lanes link);
}

-- a write
write_grows : (v w : ℕ → List ℕ) (k : ℕ) (xs : List ℕ) → w k ≡ v k ++ xs → ((j : ℕ) → j ≢ k → w j ≡ v j) → Grows v w
write_grows v w k xs here apart j i b e =
    elim (cases_eq j k) [
      | inl p ↦ rw (p, here) (got_append (v k) xs i b (rw p at e))
      | inr n ↦ ap (λ l. slice_get l i) (apart j n) ∙ e
    ]

write_recv : (v w r u : ℕ → List ℕ) (s : Receiving) (k : ℕ) (xs : List ℕ) → w k ≡ v k ++ xs → ((j : ℕ) → j ≢ k → w j ≡ v j) → ((j : ℕ) → u j ≡ r j) → RecvFine v r s → RecvFine w u s
write_recv v w r u s k xs here apart alike fine j =
    elim (cases_eq j k) [
      | inl p ↦ rw p (same_stream (v k ++ xs) (w k) (r k) (u k) (incoming_at s k).held here (alike k) (stream-write (v k) xs (r k) (incoming_at s k).held (fine k)))
      | inr n ↦ same_stream (v j) (w j) (r j) (u j) (incoming_at s j).held (apart j n) (alike j) (fine j)
    ]

write_send : (v w : ℕ → List ℕ) (s : Sending) (k : ℕ) (xs : List ℕ) (x : Outgoing) → outgoing_at s k ≡ Some x → w k ≡ v k ++ xs → ((j : ℕ) → j ≢ k → w j ≡ v j) → SendFine v s → SendFine w (with_outgoing s k (after_write xs x))
write_send v w s k xs x is here apart fine j =
    let P : Option Outgoing → Type 0 = λ y. OutFine (v k) y in
    let Q : List ℕ → Type 0 = λ l. OutFine l (Some (after_write xs x)) in
    elim (cases_eq j k) [
      | inl e ↦ rw e (let S : Option Outgoing → Type 0 = λ y. OutFine (w k) y in subst S (sym (slot_here s.streams k (after_write xs x) (slot_within s.streams k x is))) (subst Q (sym here) (out-write (v k) xs x (subst P is (fine k)))))
      | inr n ↦ (let R : List ℕ → Type 0 = λ l. OutFine l (outgoing_at s j) in let S : Option Outgoing → Type 0 = λ y. OutFine (w j) y in subst S (sym (slot_apart s.streams k (after_write xs x) j n)) (subst R (sym (apart j n)) (fine j)))
    ]

pub write_way : (keys : DerivedKeys) (v w r u : ℕ → List ℕ) (s : Sending) (t : Receiving) (prepares : ℕ → List SentPrepare) (k : ℕ) (xs : List ℕ) (x : Outgoing) → outgoing_at s k ≡ Some x
    → w k ≡ v k ++ xs → ((j : ℕ) → j ≢ k → w j ≡ v j) → ((j : ℕ) → u j ≡ r j)
    → WayFine keys v r s t prepares → WayFine keys w u (with_outgoing s k (after_write xs x)) t prepares
write_way keys v w r u s t prepares k xs x is here apart alike fine = record {
  send = write_send v w s k xs x is here apart fine.send;
  recv = write_recv v w r u t k xs here apart alike fine.recv;
  lanes = λ link. puts_grow keys v w (prepares link) (write_grows v w k xs here apart) (fine.lanes link);
}

-- a read of the run
pub read_recv : (v w r u : ℕ → List ℕ) (s : Receiving) (k n : ℕ) (run : List ℕ) → k < length s.streams → IsRun (incoming_at s k).held run → ((j : ℕ) → w j ≡ v j) → u k ≡ r k ++ take n run → ((j : ℕ) → j ≢ k → u j ≡ r j)
    → RecvFine v r s → RecvFine w u (with_incoming s k (record (incoming_at s k) { held = after_read (length (take n run)) (incoming_at s k).held }))
read_recv v w r u s k n run l is_run same here apart fine =
    recv-read w u s k (record (incoming_at s k) { held = after_read (length (take n run)) (incoming_at s k).held }) l
    (λ j n. same_stream (v j) (w j) (r j) (u j) (incoming_at s j).held (same j) (apart j n) (fine j))
    (same_stream (v k) (w k) (r k ++ take n run) (u k) _ (same k) here (stream-read (v k) (r k) run (incoming_at s k).held n (fine k) is_run))

-- an end by itself: what it sends is in one list, what it buffers and what was read of it in another
pub record EndFine (keys : DerivedKeys) (w v r : ℕ → List ℕ) (e : EndState) : Type 0 where
  pub send : SendFine w e.sending
  pub recv : RecvFine v r e.receiving
  pub same_keys : e.keys ≡ keys

pub end_fine : (keys : DerivedKeys) (w : World) (a : Side) → DataFine keys w → EndFine keys (written_of w a) (written_of w (other a)) (read_of w (other a)) (end_at w a)
end_fine keys w Client h = record { send = (h.ways Client).send; recv = (h.ways Server).recv; same_keys = h.own_keys Client }
end_fine keys w Server h = record { send = (h.ways Server).send; recv = (h.ways Client).recv; same_keys = h.own_keys Server }

-- by what holds at one end and at the other
abbrev pub by_side : (P : Side → Type 0) (a : Side) → P a → P (other a) → (side : Side) → P side
by_side P Client x y Client = x
by_side P Client x y Server = y
by_side P Server x y Client = y
by_side P Server x y Server = x

pub with_end-fine : (keys : DerivedKeys) (w : World) (a : Side) (e : EndState) → DataFine keys w → EndFine keys (written_of w a) (written_of w (other a)) (read_of w (other a)) e → DataFine keys (with_end w a e)
with_end-fine keys w Client e h f = record {
  own_keys = by_side (λ side. (end_at (with_end w Client e) side).keys ≡ keys) Client f.same_keys (h.own_keys Server);
  ways = by_side (λ side. WayFine keys (written_of w side) (read_of w side) (end_at (with_end w Client e) side).sending (end_at (with_end w Client e) (other side)).receiving (puts_of w side)) Client
      (record { send = f.send; recv = (h.ways Client).recv; lanes = (h.ways Client).lanes })
      (record { send = (h.ways Server).send; recv = f.recv; lanes = (h.ways Server).lanes });
}
with_end-fine keys w Server e h f = record {
  own_keys = by_side (λ side. (end_at (with_end w Server e) side).keys ≡ keys) Server f.same_keys (h.own_keys Client);
  ways = by_side (λ side. WayFine keys (written_of w side) (read_of w side) (end_at (with_end w Server e) side).sending (end_at (with_end w Server e) (other side)).receiving (puts_of w side)) Server
      (record { send = f.send; recv = (h.ways Server).recv; lanes = (h.ways Server).lanes })
      (record { send = (h.ways Client).send; recv = f.recv; lanes = (h.ways Client).lanes });
}

pub moved : (keys : DerivedKeys) (w v : World) → v ≡ w → DataFine keys w → DataFine keys v
moved keys w v e h = let P : World → Type 0 = λ z. DataFine keys z in subst P (sym e) h

-- the ledger of one stream
pub ledger_here : (m : fmap.FinMap nat_cmp StreamLog) (k : ℕ) (x : StreamLog) → ledger_or (fmap.get (fmap.insert m k x) k) ≡ x
ledger_here m k x = ap ledger_or (get_here m k x)

pub ledger_apart : (m : fmap.FinMap nat_cmp StreamLog) (k : ℕ) (x : StreamLog) (j : ℕ) → j ≢ k → ledger_or (fmap.get (fmap.insert m k x) j) ≡ ledger_or (fmap.get m j)
ledger_apart m k x j n = ap ledger_or (get_apart m k x j n)

pub ledger_same : (m : fmap.FinMap nat_cmp StreamLog) (k : ℕ) (x : StreamLog) (f : StreamLog → List ℕ) → f x ≡ f (ledger_or (fmap.get m k)) → (j : ℕ) → f (ledger_or (fmap.get (fmap.insert m k x) j)) ≡ f (ledger_or (fmap.get m j))
ledger_same m k x f e j =
    elim (cases_eq j k) [
      | inl p ↦ rw p (ap f (ledger_here m k x) ∙ e)
      | inr n ↦ ap f (ledger_apart m k x j n)
    ]

abbrev pub written_in : StreamLog → List ℕ
written_in x = x.written

abbrev pub read_in : StreamLog → List ℕ
read_in x = x.read

-- a ledger whose lists stay
pub with_ledger-fine : (keys : DerivedKeys) (w : World) (a : Side) (k : ℕ) (x : StreamLog) → x.written ≡ (log_at w a k).written → x.read ≡ (log_at w a k).read → DataFine keys w → DataFine keys (with_ledger w a k x)
with_ledger-fine keys w Client k x same alike h = record {
  own_keys = h.own_keys;
  ways = by_side (λ side. WayFine keys (written_of (with_ledger w Client k x) side) (read_of (with_ledger w Client k x) side) (end_at w side).sending (end_at w (other side)).receiving (puts_of w side)) Client
      (same_way keys (written_of w Client) (written_of (with_ledger w Client k x) Client) (read_of w Client) (read_of (with_ledger w Client k x) Client) (end_at w Client).sending (end_at w Server).receiving (puts_of w Client)
      (ledger_same w.ledgers.client k x written_in same) (ledger_same w.ledgers.client k x read_in alike) (h.ways Client))
      (h.ways Server);
}
with_ledger-fine keys w Server k x same alike h = record {
  own_keys = h.own_keys;
  ways = by_side (λ side. WayFine keys (written_of (with_ledger w Server k x) side) (read_of (with_ledger w Server k x) side) (end_at w side).sending (end_at w (other side)).receiving (puts_of w side)) Server
      (same_way keys (written_of w Server) (written_of (with_ledger w Server k x) Server) (read_of w Server) (read_of (with_ledger w Server k x) Server) (end_at w Server).sending (end_at w Client).receiving (puts_of w Server)
      (ledger_same w.ledgers.server k x written_in same) (ledger_same w.ledgers.server k x read_in alike) (h.ways Server))
      (h.ways Client);
}
