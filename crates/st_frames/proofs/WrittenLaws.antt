-- What is written is a spelling of its packet.
use Rattle.std.proofs.Common.{◌≡◌, ℕ, ◌+◌, ◌<◌, ◌≤◌, ◌^◌, List, [], ◌∷◌, ◌++◌, length, map, Option, Some, None, Ok, refl, sym, ap, ◌∙◌, subst, ltb, arith}
use Rattle.std.proofs.lemmas.Bool.{ltb-false}
use Rattle.std.specs.List.{position}
use Rattle.std.proofs.lemmas.List.{append-nil, length-append}
use Rattle.st_oer.specs.Spelling.{length_bytes, octets, var_uint}
use Rattle.st_oer.specs.Limit.{is_small}
use Rattle.st_frames.specs.declared.error.FrameError.{FrameError}
use Rattle.st_frames.specs.declared.error.FrameError.TheVariants.{TooLong}
use Rattle.st_frames.specs.Frames.{Known, frame_of, CloseFrame, ConnectionClose, StreamClose, OtherFrame, ConnectionNewAddress, LimitFrame, ConnectionMaxData, StreamMaxData, StreamMaxMoney, BlockedFrame, ConnectionDataBlocked, StreamDataBlocked, StreamMoneyBlocked, StreamMoney, StreamData}
use Rattle.st_frames.specs.Table.{Field, Byte, Number, Limit, Octets, Text, Address, Item, Code, Num, Bytes, Row, row_of, layout}
use Rattle.st_frames.specs.Reading.{Raw, packet_at}
use Rattle.st_frames.specs.Relation.{IsField, is_byte, is_number, is_limit, is_octets, is_text, is_address, IsFields, no_field, next_field, AreFrames, no_frame, next_frame, AreKnown, no_more, known}
use Rattle.st_frames.specs.Written.{item_text, items_text, contents_text, frame_text, frames_text, packet_text, packet_length, is_unwritable, judged, written, indexed, ItemFits, ItemsFit, fields_of, KnownFits, AllFit, packet_with}
use Rattle.st_frames.specs.Laws.{IsWhole, PacketWrites, KeepsFrames}
use Rattle.st_frames.proofs.Results.{guard_ok, ok_is}
use Rattle.st_frames.proofs.Puts.{length-packet_text, contents_below}
use Rattle.st_frames.proofs.PacketLaws.{packet_only}

-- the table and the layout are inverse
record Agrees (k : Known) : Type 0 where
  row : Row
  row_is : row_of (layout k).0 ≡ Some row
  made : row.make (layout k).1 ≡ k
  small : (layout k).0 < 256

agrees : (k : Known) → Agrees k
unfolding row_of
agrees (CloseFrame (ConnectionClose code message)) = record { row = _; row_is = refl; made = refl; small = omega arith }
agrees (CloseFrame (StreamClose stream code message)) = record { row = _; row_is = refl; made = refl; small = omega arith }
agrees (OtherFrame (ConnectionNewAddress address)) = record { row = _; row_is = refl; made = refl; small = omega arith }
agrees (LimitFrame (ConnectionMaxData max_offset)) = record { row = _; row_is = refl; made = refl; small = omega arith }
agrees (LimitFrame (StreamMaxData stream max_offset)) = record { row = _; row_is = refl; made = refl; small = omega arith }
agrees (LimitFrame (StreamMaxMoney stream receive_max total_received)) = record { row = _; row_is = refl; made = refl; small = omega arith }
agrees (BlockedFrame (ConnectionDataBlocked max_offset)) = record { row = _; row_is = refl; made = refl; small = omega arith }
agrees (BlockedFrame (StreamDataBlocked stream max_offset)) = record { row = _; row_is = refl; made = refl; small = omega arith }
agrees (BlockedFrame (StreamMoneyBlocked stream send_max total_sent)) = record { row = _; row_is = refl; made = refl; small = omega arith }
agrees (StreamMoney stream shares) = record { row = _; row_is = refl; made = refl; small = omega arith }
agrees (StreamData stream offset bytes) = record { row = _; row_is = refl; made = refl; small = omega arith }

octets_below : (bytes : List ℕ) → length bytes ≤ length (octets bytes)
octets_below bytes = omega (arith, length-append (length_bytes (length bytes)) bytes)

field_spelled : (f : Field) (x : Item) → ItemFits f x → length (item_text x) < 2 ^ 64 → IsField f x (item_text x)
field_spelled Byte (Code n) fits short = is_byte n fits
field_spelled Number (Num n) fits short = is_number n fits
field_spelled Limit (Num n) fits short = is_limit n (var_uint n) (is_small n fits)
field_spelled Octets (Bytes bytes) fits short = is_octets bytes (omega (arith, octets_below bytes))
field_spelled Text (Bytes bytes) fits short = is_text bytes (omega (arith, octets_below bytes)) fits
field_spelled Address (Bytes bytes) fits short = is_address bytes (omega (arith, octets_below bytes)) fits.0 fits.1
field_spelled f x fits short = absurd fits

items_spelled : (fs : List Field) (xs : List Item) → ItemsFit fs xs → length (items_text xs) < 2 ^ 64 → IsFields fs xs (items_text xs)
items_spelled [] [] fits short = no_field
items_spelled (f ∷ fs) (x ∷ xs) fits short =
    let e = length-append (item_text x) (items_text xs) in
    next_field f fs x xs (item_text x) (items_text xs) (field_spelled f x fits.0 (omega (arith, e))) (items_spelled fs xs fits.1 (omega (arith, e)))
items_spelled fs xs fits short = absurd fits

contents_spelled : (k : Known) (row : Row) → row_of (layout k).0 ≡ Some row → KnownFits k → length (contents_text k) < 2 ^ 64 → IsFields row.fields (layout k).1 (contents_text k)
unfolding contents_text KnownFits
contents_spelled k row e fits short = items_spelled row.fields (layout k).1 (subst (λ (o : Option Row). ItemsFit (fields_of o) (layout k).1) e fits) short

raw_of : Known → Raw
raw_of k = record { type = (layout k).0; contents = contents_text k }

first_short : (k : Known) (ks : List Known) → length (frames_text (k ∷ ks)) < 2 ^ 64 → (length (contents_text k) < 2 ^ 64) × (length (frames_text ks) < 2 ^ 64)
first_short k ks short =
    let e = length-append (frame_text k) (frames_text ks) in
    let b = contents_below k in
    (omega arith, omega arith)

frames_spelled : (ks : List Known) → length (frames_text ks) < 2 ^ 64 → AreFrames (map raw_of ks) (frames_text ks)
unfolding raw_of frame_text
frames_spelled [] short = no_frame
frames_spelled (k ∷ ks) short =
    let s = first_short k ks short in
    next_frame (raw_of k) (map raw_of ks) (frames_text ks) (agrees k).small s.0 (frames_spelled ks s.1)

known_spelled : (i : ℕ) (ks : List Known) → AllFit ks → length (frames_text ks) < 2 ^ 64 → AreKnown i (map raw_of ks) (indexed i ks)
unfolding raw_of
known_spelled i [] fits short = no_more i
known_spelled i (k ∷ ks) fits short =
    let s = first_short k ks short in
    let a = agrees k in
    subst (λ (y : Known). AreKnown i (raw_of k ∷ map raw_of ks) ((i, y) ∷ indexed (i + 1) ks)) a.made
    (known i (raw_of k) (map raw_of ks) (indexed (i + 1) ks) a.row (layout k).1 (contents_text k) [] a.row_is
    (contents_spelled k a.row a.row_is fits.0 s.0) (sym (append-nil (contents_text k))) (known_spelled (i + 1) ks fits.1 s.1))

length_raws : (ks : List Known) → length (map raw_of ks) ≡ length ks
length_raws [] = refl
length_raws (k ∷ ks) = omega (arith, length_raws ks)

one_each : (ks : List Known) → length ks ≤ length (frames_text ks)
unfolding frame_text
one_each [] = omega arith
one_each (k ∷ ks) = omega (arith, one_each ks, length-append (octets (contents_text k)) (frames_text ks))

written_is : (kind s a : ℕ) (ks : List Known) → s < 2 ^ 64 → a < 2 ^ 64 → AllFit ks → length (packet_text kind s a ks) ≤ 32739 → IsWhole (packet_text kind s a ks) (packet_with kind s a ks)
unfolding packet_text
written_is kind s a ks s_fits a_fits fits short =
    let e = length_raws ks in
    let long : packet_length s a ks ≤ 32739 = omega (arith, length-packet_text kind s a ks) in
    let below : length (frames_text ks) < 2 ^ 64 = omega arith in
    let whole : (z : List ℕ) → 1 ∷ kind ∷ (var_uint s ++ (var_uint a ++ (var_uint (length ks) ++ z))) ≡ 1 ∷ kind ∷ (var_uint s ++ (var_uint a ++ (var_uint (length (map raw_of ks)) ++ z)))
    = λ z. ap (λ (n : ℕ). 1 ∷ kind ∷ (var_uint s ++ (var_uint a ++ (var_uint n ++ z)))) (sym e) in (
      record {
        frames = map raw_of ks;
        text = frames_text ks;
        after = [];
        sequence_fits = s_fits;
        amount_fits = a_fits;
        count_fits = omega (arith, e, one_each ks);
        frames_are = frames_spelled ks below;
        known_are = known_spelled 0 ks fits below;
        parts = whole (frames_text ks) ∙ ap (λ (z : List ℕ). 1 ∷ kind ∷ (var_uint s ++ (var_uint a ++ (var_uint (length (map raw_of ks)) ++ z)))) (sym (append-nil (frames_text ks)));
      },
      refl,
    )

record Judged (t text : List ℕ) : Type 0 where
  short : length t ≤ 32739
  same : t ≡ text

judged_ok : (o : Option ℕ) (t text : List ℕ) → judged o t ≡ Ok text → Judged t text
judged_ok (Some i) t text h = absurd cc
judged_ok None t text h =
    let g = guard_ok (ltb 32739 (length t)) TooLong (Ok t) text h in
    record { short = ltb-false _ _ g.0; same = ok_is {E = FrameError} t text g.1 }

whole_of : (kind s a : ℕ) (ks : List Known) (text : List ℕ) → s < 2 ^ 64 → a < 2 ^ 64 → AllFit ks → written kind s a ks ≡ Ok text → IsWhole text (packet_with kind s a ks)
unfolding written
whole_of kind s a ks text s_fits a_fits fits h =
    let j = judged_ok (position is_unwritable ks) (packet_text kind s a ks) text h in
    subst (λ (t : List ℕ). IsWhole t (packet_with kind s a ks)) j.same (written_is kind s a ks s_fits a_fits fits j.short)

itself_of : (kind s a : ℕ) (ks : List Known) (text : List ℕ) → s < 2 ^ 64 → a < 2 ^ 64 → AllFit ks → written kind s a ks ≡ Ok text → packet_at kind text ≡ Ok (packet_with kind s a ks)
unfolding written
itself_of kind s a ks text s_fits a_fits fits h =
    let j = judged_ok (position is_unwritable ks) (packet_text kind s a ks) text h in
    let w = whole_of kind s a ks text s_fits a_fits fits h in
    packet_only text (packet_with kind s a ks) (subst (λ (t : List ℕ). length t ≤ 32739) j.same j.short) w.0

pub packet_writes : PacketWrites
packet_writes = record { whole = whole_of; itself = itself_of }

indexed_again : (i : ℕ) (ks : List Known) → map frame_of (indexed i ks) ≡ ks
indexed_again i [] = refl
indexed_again i (k ∷ ks) = ap (λ (l : List Known). k ∷ l) (indexed_again (i + 1) ks)

pub keeps_frames : KeepsFrames
keeps_frames kind s a ks = indexed_again 0 ks
