-- If a read of a stream returns `End`, so do reads of all streams for that stream. They leave its bytes and all money
-- as they were.
use Rattle.std.proofs.Common.{◌≡◌, ◌≢◌, ℕ, zero, suc, ◌+◌, ◌<◌, ◌≤◌, Bool, true, false, List, [], ◌∷◌, take, is_some, refl, sym, ap, subst, ◌∙◌, arith, cond, Option, None, Some, Result, Ok, Err, inl, inr}
use Rattle.std.proofs.lemmas.Bool.{cases_eq}
use Rattle.st_reassembly.specs.Held.{Held, nothing_held}
use Rattle.st_reassembly.specs.Run.{run}
use Rattle.st_receiver.specs.Streams.{Incoming, Receiving, fresh_incoming, incoming_at, incoming_or, is_open}
use Rattle.st_receiver.specs.Reading.{Bytes, End, Got, Nothing, after_bytes, after_get, after_got, after_got_by, got, got_by, got_bytes}
use Rattle.st_streams.specs.declared.end_error.EndError.{EndError}
use Rattle.st_streams.specs.declared.end_error.EndError.TheVariants.{NoStream}
use Rattle.st_end.specs.State.{EndState}
use Rattle.st_end.specs.Reading.{read}
use Rattle.st_world_parts.specs.Sides.{Client, Server}
use Rattle.st_world_parts.specs.State.{World, end_at, log_at, with_end}
use Rattle.st_world_parts.specs.StreamLogs as ledgers
use Rattle.st_world_parts.specs.Events.{Read, Told}
use Rattle.st_world_parts.specs.Ends.{read_at}
use Rattle.st_world.specs.Steps.{Step}
use Rattle.st_world.proofs.Maps.{get_apart, get_here}
use Rattle.st_world_quiet.proofs.Receiving.{replaced_here}
use Rattle.st_world_quiet.specs.Worlds.{Met}
use Rattle.st_world_quiet.specs.HopRounds.{reads}

-- a read of it returns `End`
abbrev pub TellsEnd : (stream : ℕ) → World → Type 0
TellsEnd k w = (most : ℕ) → got most (incoming_at (end_at w Server).receiving k).held ≡ End

-- ---- the stream is open, and a read that returns `End` removes nothing

nothing_ends : (xs : List ℕ) (b : Bool) → got_bytes nothing_held xs ≡ End → b ≡ true
nothing_ends [] b e = absurd (let no : ◌≡◌ {A = Got} Nothing End = e in cc)
nothing_ends (x ∷ xs) b e = absurd (let no : ◌≡◌ {A = Got} (Bytes (x ∷ xs)) End = e in cc)

is_there : (m : ℕ) (o : Option Incoming) → got 1 (incoming_or (fresh_incoming m) o).held ≡ End → is_some o ≡ true
is_there m (Some x) e = refl
is_there m None e = nothing_ends (take 1 (run nothing_held)) false e

held_by : (limit : ℕ) (h : Held) (o : Option ℕ) → got_by o limit h ≡ End → after_got_by o limit h ≡ h
held_by limit h (Some code) e = refl
held_by limit h None e = bytes (take limit (run h)) e
  where
    bytes : (xs : List ℕ) → got_bytes h xs ≡ End → after_bytes limit h xs ≡ h
    bytes [] e = refl
    bytes (x ∷ xs) e = absurd (let no : ◌≡◌ {A = Got} (Bytes (x ∷ xs)) End = e in cc)

stream_stays : (r : Receiving) (j limit k : ℕ) → got limit (incoming_at r k).held ≡ End → incoming_at (after_got r j limit) k ≡ incoming_at r k
stream_stays r j limit k e = elim (replaced_here r j (after_get limit (incoming_at r j)) k) [
  | inl here ↦ here.1 ∙ subst (λ i. after_get limit (incoming_at r i) ≡ incoming_at r k) here.0 (ap (λ h. record (incoming_at r k) { held = h }) (held_by limit (incoming_at r k).held (incoming_at r k).held.aborted e))
  | inr apart ↦ apart
]

-- ---- what reads leave of it

pub record Leaves (k : ℕ) (w v : World) : Type 0 where
  pub incoming : incoming_at (end_at v Server).receiving k ≡ incoming_at (end_at w Server).receiving k
  pub credit : (end_at v Server).receiving.credit ≡ (end_at w Server).receiving.credit
  pub written : (log_at v Client k).written ≡ (log_at w Client k).written
  pub read : (log_at v Client k).read ≡ (log_at w Client k).read
  pub told : (log_at w Client k).saw_end ≡ true → (log_at v Client k).saw_end ≡ true

leaves_same : (k : ℕ) (w : World) → Leaves k w w
leaves_same k w = record { incoming = refl; credit = refl; written = refl; read = refl; told = λ e. e }

leaves_then : (k : ℕ) (w mid v : World) → Leaves k w mid → Leaves k mid v → Leaves k w v
leaves_then k w mid v a b = record {
  incoming = b.incoming ∙ a.incoming;
  credit = b.credit ∙ a.credit;
  written = b.written ∙ a.written;
  read = b.read ∙ a.read;
  told = λ e. b.told (a.told e);
}

-- ---- one read

abbrev Tells : (k j : ℕ) → World → Type 0
Tells k j v = j ≡ k → (log_at v Client k).saw_end ≡ true

-- as a read goes by whether the stream is open
abbrev read_if : Bool → EndState → (stream limit : ℕ) → Result Got EndError × EndState
read_if b e k limit = cond b (Ok (got limit (incoming_at e.receiving k).held), record e { receiving = after_got e.receiving k limit }) (Err NoStream, e)

abbrev once_read : World → (stream limit : ℕ) → Bool → World
once_read w j limit b = read_at (read_if b (end_at w Server) j limit).0 (with_end w Server (read_if b (end_at w Server) j limit).1) Client j

none_read : (w v : World) (j limit k : ℕ) → is_open (end_at w Server).receiving j ≡ false → TellsEnd k w → v ≡ once_read w j limit false → Leaves k w v × Tells k j v
none_read w v j limit k shut tells is = (
  record {
    incoming = ap (λ (z : World). incoming_at (end_at z Server).receiving k) is;
    credit = ap (λ (z : World). (end_at z Server).receiving.credit) is;
    written = ap (λ (z : World). (log_at z Client k).written) is;
    read = ap (λ (z : World). (log_at z Client k).read) is;
    told = λ e. ap (λ (z : World). (log_at z Client k).saw_end) is ∙ e;
  },
  λ same. absurd (let there : is_open (end_at w Server).receiving k ≡ true = is_there _ _ (tells 1) in
      let clash : ◌≡◌ {A = Bool} true false = sym there ∙ ap (is_open (end_at w Server).receiving) (sym same) ∙ shut in cc),
)

end_read : (w v : World) (limit k : ℕ) → TellsEnd k w → v ≡ once_read w k limit true → Leaves k w v × ((log_at v Client k).saw_end ≡ true)
end_read w v limit k tells is =
    let r = (end_at w Server).receiving in
    let l = log_at w Client k in
    let now : log_at v Client k ≡ ledgers.got End l = ap (λ (z : World). log_at z Client k) is ∙ ap ledgers.ledger_or (get_here _ k _) ∙ ap (λ g. ledgers.got g l) (tells limit) in (
      record {
        incoming = ap (λ (z : World). incoming_at (end_at z Server).receiving k) is ∙ stream_stays r k limit k (tells limit);
        credit = ap (λ (z : World). (end_at z Server).receiving.credit) is;
        written = ap (λ (z : ledgers.StreamLog). z.written) now;
        read = ap (λ (z : ledgers.StreamLog). z.read) now;
        told = λ e. ap (λ (z : ledgers.StreamLog). z.saw_end) now;
      },
      ap (λ (z : ledgers.StreamLog). z.saw_end) now,
    )

other_read : (w v : World) (j limit k : ℕ) → k ≢ j → TellsEnd k w → v ≡ once_read w j limit true → Leaves k w v
other_read w v j limit k apart tells is =
    let now : log_at v Client k ≡ log_at w Client k = ap (λ (z : World). log_at z Client k) is ∙ ap ledgers.ledger_or (get_apart _ j _ k apart) in
    record {
      incoming = ap (λ (z : World). incoming_at (end_at z Server).receiving k) is ∙ stream_stays (end_at w Server).receiving j limit k (tells limit);
      credit = ap (λ (z : World). (end_at z Server).receiving.credit) is;
      written = ap (λ (z : ledgers.StreamLog). z.written) now;
      read = ap (λ (z : ledgers.StreamLog). z.read) now;
      told = λ e. ap (λ (z : ledgers.StreamLog). z.saw_end) now ∙ e;
    }

one_read : (b : Bool) (w v : World) (j limit k : ℕ) → is_open (end_at w Server).receiving j ≡ b → TellsEnd k w → v ≡ once_read w j limit b → Leaves k w v × Tells k j v
one_read false w v j limit k opened tells is = none_read w v j limit k opened tells is
one_read true w v j limit k opened tells is = elim (cases_eq k j) [
  | inl same ↦ (let both = end_read w v limit k tells (subst (λ i. v ≡ once_read w i limit true) (sym same) is) in (both.0, λ e. both.1))
  | inr apart ↦ (other_read w v j limit k apart tells is, λ e. absurd (apart (sym e)))
]

-- ---- a read of each

pub reads_leave : (limit first count : ℕ) (w v : World) (k : ℕ) → 1 ≤ limit → TellsEnd k w → Met w (reads limit first count) v → Leaves k w v × (first ≤ k → k < first + count → (log_at v Client k).saw_end ≡ true)
unfolding reads
reads_leave limit first zero w v k some tells run = (subst (Leaves k w) (sym run) (leaves_same k w), λ from till. absurd (omega (arith, from, till)))
reads_leave zero first (suc m) w v k some tells run = absurd (omega (arith, some))
reads_leave (suc l) first (suc m) w v k some tells run =
    let mid = run.0 in
    let one = one_read (is_open (end_at w Server).receiving first) w mid first (suc l) k refl tells run.3.1 in
    let rest = reads_leave (suc l) (first + 1) m mid v k some (λ most. ap (λ (x : Incoming). got most x.held) one.0.incoming ∙ tells most) run.4 in (
      leaves_then k w mid v one.0 rest.0,
      λ from till. elim (cases_eq first k) [
        | inl same ↦ rest.0.told (one.1 same)
        | inr apart ↦ rest.1 (omega (arith, from, apart)) (omega (arith, till))
      ],
    )

-- ---- and they leave the links, whatever is read

told_leaves : (r : Result Got EndError) (w : World) (k : ℕ) → (read_at r w Client k).links ≡ w.links
told_leaves (Ok g) w k = refl
told_leaves (Err why) w k = refl

one_leaves : (limit first : ℕ) (w v : World) (told : Told) → Step w (Read Server first limit) told v → v.links ≡ w.links
one_leaves zero first w v told step = ap (λ (z : World). z.links) step.1
one_leaves (suc l) first w v told step =
    let r = read (end_at w Server) first (suc l) in
    ap (λ (z : World). z.links) step.1 ∙ told_leaves r.0 (with_end w Server r.1) first

pub reads_leave_links : (limit first count : ℕ) (w v : World) → Met w (reads limit first count) v → v.links ≡ w.links
unfolding reads
reads_leave_links limit first zero w v run = ap (λ (z : World). z.links) run
reads_leave_links limit first (suc m) w v run = reads_leave_links limit (first + 1) m run.0 v run.4 ∙ one_leaves limit first w run.0 run.1 run.3
