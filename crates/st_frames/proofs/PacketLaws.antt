-- Whole packets, both ways.
use Rattle.std.proofs.Common.{◌≡◌, ℕ, zero, suc, ◌+◌, ◌<◌, ◌≤◌, ◌^◌, Bool, true, false, cond, eqb, ltb, List, [], ◌∷◌, ◌++◌, length, Option, Some, None, Result, Ok, Err, refl, sym, ap, ◌∙◌, subst, arith, append_assoc}
use Rattle.std.proofs.lemmas.Bool.{le-ltb, ltb-false, eqb-true, eq-eqb}
use Rattle.std.proofs.lemmas.List.{take_at, drop_at}
use Rattle.st_oer.specs.declared.error.OerError.{OerError}
use Rattle.st_oer.specs.Spelling.{octets, length_bytes, var_uint}
use Rattle.st_oer.specs.Reading.{byte_at, octets_at, var_uint_at}
use Rattle.st_oer.proofs.Bytes.{IsBytes}
use Rattle.st_oer.proofs.BothWays.{IsBytes-drop, IsBytes-take, var_uint_takes, var_uint_again, octets_takes, octets_again}
use Rattle.st_frames.specs.declared.error.FrameError.{FrameError}
use Rattle.st_frames.specs.declared.error.FrameError.TheVariants.{Version, Kind, FrameFormat, TooLong}
use Rattle.st_frames.specs.Frames.{Known, Packet}
use Rattle.st_frames.specs.Table.{Item, Row, row_of}
use Rattle.st_frames.specs.Contents.{◌>>=◌, refusing, Contents, fields_at, row_at, contents_at}
use Rattle.st_frames.specs.Reading.{Raw, raw_at, raws_at, with_known, known_at, outer, frames_at, wants, packet_at}
use Rattle.st_frames.specs.Relation.{AreFrames, no_frame, next_frame, AreKnown, no_more, skipped, known, IsPacket}
use Rattle.st_frames.proofs.Results.{bind_ok, refusing_ok, outer_ok, ok_is, guard_ok}
use Rattle.st_frames.proofs.FieldsLemmas.{byte_takes, fields_takes, fields_again}

IsBytes-left : (a b : List ℕ) → IsBytes (a ++ b) → IsBytes a
IsBytes-left a b h = subst IsBytes (take_at a b (length a) refl) (IsBytes-take (length a) (a ++ b) h)

IsBytes-right : (a b : List ℕ) → IsBytes (a ++ b) → IsBytes b
IsBytes-right a b h = subst IsBytes (drop_at a b (length a) refl) (IsBytes-drop (length a) (a ++ b) h)

-- ---- the skeleton

record TakesRaw (bytes : List ℕ) (x : Raw × List ℕ) : Type 0 where
  small : x.0.type < 256
  short : length x.0.contents < 2 ^ 64
  parts : bytes ≡ x.0.type ∷ (octets x.0.contents ++ x.1)
  contents_fit : IsBytes x.0.contents
  rest_fits : IsBytes x.1

abbrev raw_with : ℕ → List ℕ × List ℕ → Result (Raw × List ℕ) OerError
raw_with t contents = Ok (record { type = t; contents = contents.0 }, contents.1)

raw_takes : (bytes : List ℕ) (x : Raw × List ℕ) → IsBytes bytes → raw_at bytes ≡ Ok x → TakesRaw bytes x
unfolding raw_at
raw_takes bytes x fits e =
    let t = bind_ok (byte_at bytes) (λ t. octets_at t.1 >>= raw_with t.0) x e in
    let tt = byte_takes bytes t.0 fits t.1 in
    let c = bind_ok (octets_at t.0.1) (raw_with t.0.0) x t.2 in
    let ct = octets_takes t.0.1 c.0.1 c.0.0 tt.rest_fits c.1 in
    let whole : IsBytes (octets c.0.0 ++ c.0.1) = subst IsBytes ct.0 tt.rest_fits in
    subst (TakesRaw bytes) (ok_is {E = OerError} (record { type = t.0.0; contents = c.0.0 }, c.0.1) x c.2) (record {
      small = tt.small;
      short = ct.1;
      parts = tt.parts ∙ ap (λ (r : List ℕ). t.0.0 ∷ r) ct.0;
      contents_fit = IsBytes-right (length_bytes (length c.0.0)) c.0.0 (IsBytes-left (octets c.0.0) c.0.1 whole);
      rest_fits = ct.2;
    })

raw_again : (r : Raw) (rest : List ℕ) → length r.contents < 2 ^ 64 → raw_at (r.type ∷ (octets r.contents ++ rest)) ≡ Ok (r, rest)
unfolding raw_at
raw_again r rest lt = rw (octets_again r.contents rest lt) refl

-- the contents of each are bytes
abbrev RawsFit : List Raw → Type 0
RawsFit [] = Unit {0}
RawsFit (r ∷ rs) = IsBytes r.contents × RawsFit rs

record TakesRaws (n : ℕ) (bytes : List ℕ) (raws : List Raw) : Type 0 where
  text : List ℕ
  after : List ℕ
  are : AreFrames raws text
  many : length raws ≡ n
  fit : RawsFit raws
  parts : bytes ≡ text ++ after

abbrev raws_with : Raw → List Raw → Result (List Raw) OerError
raws_with first others = Ok (first ∷ others)

raws_take : (n : ℕ) (bytes : List ℕ) (raws : List Raw) → IsBytes bytes → raws_at n bytes ≡ Ok raws → TakesRaws n bytes raws
unfolding raws_at
raws_take zero bytes raws fits e =
    subst (TakesRaws zero bytes) (ok_is {E = OerError} [] raws e) (record { text = []; after = bytes; are = no_frame; many = refl; fit = tt; parts = refl })
raws_take (suc n) bytes raws fits e =
    let b = bind_ok (raw_at bytes) (λ first. raws_at n first.1 >>= raws_with first.0) raws e in
    let t = raw_takes bytes b.0 fits b.1 in
    let o = bind_ok (raws_at n b.0.1) (raws_with b.0.0) raws b.2 in
    let r = raws_take n b.0.1 o.0 t.rest_fits o.1 in
    subst (TakesRaws (suc n) bytes) (ok_is {E = OerError} (b.0.0 ∷ o.0) raws o.2) (record {
      text = b.0.0.type ∷ (octets b.0.0.contents ++ r.text);
      after = r.after;
      are = next_frame b.0.0 o.0 r.text t.small t.short r.are;
      many = omega (arith, r.many);
      fit = (t.contents_fit, r.fit);
      parts = t.parts ∙ ap (λ (z : List ℕ). b.0.0.type ∷ (octets b.0.0.contents ++ z)) r.parts ∙ ap (λ (z : List ℕ). b.0.0.type ∷ z) (sym (append_assoc (octets b.0.0.contents) r.text r.after));
    })

pub raws_again : (raws : List Raw) (text rest : List ℕ) → AreFrames raws text → raws_at (length raws) (text ++ rest) ≡ Ok raws
unfolding raws_at
raws_again raws text rest no_frame = refl
raws_again raws text rest (next_frame r rs more small lt are) =
    rw (append_assoc (octets r.contents) more rest, raw_again r (more ++ rest) lt, raws_again rs more rest are) refl

-- ---- the known frames

abbrev Fault : Type 0
Fault = Unit {0}

abbrev made : Row → List Item × List ℕ → Contents (Option Known)
made row items = Ok (Some (row.make items.0))

abbrev known_with : ℕ → Option Known → List (ℕ × Known) → Result (List (ℕ × Known)) FrameError
known_with i first others = Ok (with_known i first others)

known_first : (i : ℕ) (r : Raw) (rs : List Raw) (others : List (ℕ × Known)) (o : Option Row) (k : Option Known) → row_of r.type ≡ o → IsBytes r.contents → row_at o r.contents ≡ Ok k
    → AreKnown (i + 1) rs others → AreKnown i (r ∷ rs) (with_known i k others)
known_first i r rs others None k is fits e are =
    subst (λ (x : Option Known). AreKnown i (r ∷ rs) (with_known i x others)) (ok_is {E = Fault} None k e) (skipped i r rs others is are)
known_first i r rs others (Some row) k is fits e are =
    let b = bind_ok (fields_at row.fields r.contents) (made row) k e in
    let t = fields_takes row.fields r.contents b.0 fits b.1 in
    subst (λ (x : Option Known). AreKnown i (r ∷ rs) (with_known i x others)) (ok_is {E = Fault} (Some (row.make b.0.0)) k b.2)
    (known i r rs others row b.0.0 t.text b.0.1 is t.is t.parts are)

known_takes : (i : ℕ) (raws : List Raw) (xs : List (ℕ × Known)) → RawsFit raws → known_at i raws ≡ Ok xs → AreKnown i raws xs
unfolding known_at contents_at
known_takes i [] xs fits e = subst (AreKnown i []) (ok_is {E = FrameError} [] xs e) (no_more i)
known_takes i (r ∷ rs) xs fits e =
    let b = bind_ok (refusing (FrameFormat i) (contents_at r.type r.contents)) (λ first. known_at (i + 1) rs >>= known_with i first) xs e in
    let o = bind_ok (known_at (i + 1) rs) (known_with i b.0) xs b.2 in
    let first = refusing_ok (FrameFormat i) (contents_at r.type r.contents) b.0 b.1 in
    subst (AreKnown i (r ∷ rs)) (ok_is {E = FrameError} (with_known i b.0 o.0) xs o.2)
    (known_first i r rs o.0 (row_of r.type) b.0 refl fits.0 first (known_takes (i + 1) rs o.0 fits.1 o.1))

known_again : (i : ℕ) (raws : List Raw) (xs : List (ℕ × Known)) → AreKnown i raws xs → known_at i raws ≡ Ok xs
unfolding known_at contents_at
known_again i raws xs (no_more j) = refl
known_again i raws xs (skipped j r rs others is are) = rw (is, known_again (j + 1) rs others are) refl
known_again i raws xs (known j r rs others row ys text left is fields parts are) =
    rw (is, parts, fields_again row.fields ys text left fields, known_again (j + 1) rs others are) refl

record TakesFrames (n : ℕ) (bytes : List ℕ) (xs : List (ℕ × Known)) : Type 0 where
  raws : List Raw
  text : List ℕ
  after : List ℕ
  are : AreFrames raws text
  many : length raws ≡ n
  known_are : AreKnown 0 raws xs
  parts : bytes ≡ text ++ after

frames_take : (n : ℕ) (bytes : List ℕ) (xs : List (ℕ × Known)) → IsBytes bytes → frames_at n 0 bytes ≡ Ok xs → TakesFrames n bytes xs
frames_take n bytes xs fits e =
    let b = bind_ok (outer (raws_at n bytes)) (known_at 0) xs e in
    let t = raws_take n bytes b.0 fits (outer_ok (raws_at n bytes) b.0 b.1) in
    record { raws = b.0; text = t.text; after = t.after; are = t.are; many = t.many; known_are = known_takes 0 b.0 xs t.fit b.2; parts = t.parts }

-- ---- the packet

wants_ok : (e : FrameError) (value : ℕ) (x : ℕ × List ℕ) (y : List ℕ) → wants e value x ≡ Ok y → (x.0 ≡ value) × (x.1 ≡ y)
wants_ok e value x y h =
    let go : (b : Bool) → cond b (let r : Result (List ℕ) FrameError = Ok x.1 in r) (Err e) ≡ Ok y → (b ≡ true) × (x.1 ≡ y) = λ b. elim b as (λ b. cond b (let r : Result (List ℕ) FrameError = Ok x.1 in r) (Err e) ≡ Ok y → (b ≡ true) × (x.1 ≡ y)) [
      | true ↦ λ g. (refl, ok_is {E = FrameError} x.1 y g)
      | false ↦ λ g. absurd cc
    ] in
    let g = go (eqb x.0 value) h in
    (eqb-true _ _ g.0, g.1)

abbrev packet_from : (kind s a : ℕ) → List (ℕ × Known) → Packet
packet_from kind s a frames = record { kind = kind; sequence = s; amount = a; frames = frames }

abbrev after_count : (kind s a : ℕ) → ℕ × List ℕ → Result Packet FrameError
after_count kind s a count = frames_at count.0 0 count.1 >>= λ frames. Ok (packet_from kind s a frames)

abbrev after_amount : (kind s : ℕ) → ℕ × List ℕ → Result Packet FrameError
after_amount kind s amount = outer (var_uint_at amount.1) >>= after_count kind s amount.0

abbrev after_sequence : ℕ → ℕ × List ℕ → Result Packet FrameError
after_sequence kind sequence = outer (var_uint_at sequence.1) >>= after_amount kind sequence.0

abbrev after_kind : ℕ → List ℕ → Result Packet FrameError
after_kind kind rest = outer (var_uint_at rest) >>= after_sequence kind

abbrev after_own : ℕ → ℕ × List ℕ → Result Packet FrameError
after_own kind own = wants Kind kind own >>= after_kind kind

abbrev after_version : ℕ → List ℕ → Result Packet FrameError
after_version kind rest = outer (byte_at rest) >>= after_own kind

abbrev after_byte : ℕ → ℕ × List ℕ → Result Packet FrameError
after_byte kind version = wants Version 1 version >>= after_version kind

abbrev in_order : ℕ → List ℕ → Result Packet FrameError
in_order kind bytes = outer (byte_at bytes) >>= after_byte kind

pub record TakesPacket (kind : ℕ) (bytes : List ℕ) (p : Packet) : Type 0 where
  pub short : length bytes ≤ 32739
  pub own : p.kind ≡ kind
  pub is : IsPacket bytes p

-- one number more
record Step (f : ℕ × List ℕ → Result Packet FrameError) (bytes : List ℕ) (p : Packet) : Type 0 where
  n : ℕ
  rest : List ℕ
  fits : n < 2 ^ 64
  parts : bytes ≡ var_uint n ++ rest
  rest_fits : IsBytes rest
  goes : f (n, rest) ≡ Ok p

step : (f : ℕ × List ℕ → Result Packet FrameError) (bytes : List ℕ) (p : Packet) → IsBytes bytes → (outer (var_uint_at bytes) >>= f) ≡ Ok p → Step f bytes p
step f bytes p fits e =
    let b = bind_ok (outer (var_uint_at bytes)) f p e in
    let t = var_uint_takes bytes b.0.1 b.0.0 fits (outer_ok _ b.0 b.1) in
    record { n = b.0.0; rest = b.0.1; fits = t.1; parts = t.0; rest_fits = t.2; goes = b.2 }

-- a first byte of this value, and the rest
record Told (value : ℕ) (f : List ℕ → Result Packet FrameError) (bytes : List ℕ) (p : Packet) : Type 0 where
  rest : List ℕ
  parts : bytes ≡ value ∷ rest
  rest_fits : IsBytes rest
  goes : f rest ≡ Ok p

told : (d : FrameError) (value : ℕ) (f : List ℕ → Result Packet FrameError) (bytes : List ℕ) (p : Packet) → IsBytes bytes
    → (outer (byte_at bytes) >>= λ x. wants d value x >>= f) ≡ Ok p → Told value f bytes p
told d value f bytes p fits e =
    let b = bind_ok (outer (byte_at bytes)) (λ x. wants d value x >>= f) p e in
    let t = byte_takes bytes b.0 fits (outer_ok _ b.0 b.1) in
    let w = bind_ok (wants d value b.0) f p b.2 in
    let o = wants_ok d value b.0 w.0 w.1 in
    record {
      rest = w.0;
      parts = t.parts ∙ ap (λ (k : ℕ). k ∷ b.0.1) o.0 ∙ ap (λ (z : List ℕ). value ∷ z) o.1;
      rest_fits = subst IsBytes o.1 t.rest_fits;
      goes = w.2;
    }

record TakesCount (kind s a : ℕ) (bytes : List ℕ) (p : Packet) : Type 0 where
  frames : List Raw
  text : List ℕ
  after : List ℕ
  fits : length frames < 2 ^ 64
  are : AreFrames frames text
  known_are : AreKnown 0 frames p.frames
  kind_is : p.kind ≡ kind
  sequence_is : p.sequence ≡ s
  amount_is : p.amount ≡ a
  parts : bytes ≡ var_uint (length frames) ++ (text ++ after)

count_found : (kind s a : ℕ) (bytes : List ℕ) (p : Packet) → IsBytes bytes → (outer (var_uint_at bytes) >>= after_count kind s a) ≡ Ok p → TakesCount kind s a bytes p
count_found kind s a bytes p fits e =
    let c = step (after_count kind s a) bytes p fits e in
    let f = bind_ok (frames_at c.n 0 c.rest) (λ frames. Ok (packet_from kind s a frames)) p c.goes in
    let t = frames_take c.n c.rest f.0 c.rest_fits f.1 in
    subst (TakesCount kind s a bytes) (ok_is {E = FrameError} (packet_from kind s a f.0) p f.2) (record {
      frames = t.raws;
      text = t.text;
      after = t.after;
      fits = omega (arith, c.fits, t.many);
      are = t.are;
      known_are = t.known_are;
      kind_is = refl;
      sequence_is = refl;
      amount_is = refl;
      parts = c.parts ∙ ap (λ (n : ℕ). var_uint n ++ c.rest) (sym t.many) ∙ ap (λ (z : List ℕ). var_uint (length t.raws) ++ z) t.parts;
    })

record TakesNumbers (kind : ℕ) (bytes : List ℕ) (p : Packet) : Type 0 where
  s : Step (after_sequence kind) bytes p
  a : Step (after_amount kind s.n) s.rest p
  c : TakesCount kind s.n a.n a.rest p

numbers_found : (kind : ℕ) (bytes : List ℕ) (p : Packet) → IsBytes bytes → after_kind kind bytes ≡ Ok p → TakesNumbers kind bytes p
numbers_found kind bytes p fits e =
    let s = step (after_sequence kind) bytes p fits e in
    let a = step (after_amount kind s.n) s.rest p s.rest_fits s.goes in
    record { s = s; a = a; c = count_found kind s.n a.n a.rest p a.rest_fits a.goes }

is_packet : (kind : ℕ) (bytes rest : List ℕ) (p : Packet) → bytes ≡ 1 ∷ kind ∷ rest → TakesNumbers kind rest p → IsPacket bytes p
is_packet kind bytes rest p front t =
    let tail : List ℕ = var_uint (length t.c.frames) ++ (t.c.text ++ t.c.after) in
    let two : t.s.rest ≡ var_uint p.amount ++ tail = t.a.parts ∙ ap (λ (z : List ℕ). var_uint t.a.n ++ z) t.c.parts ∙ ap (λ (n : ℕ). var_uint n ++ tail) (sym t.c.amount_is) in
    let one : rest ≡ var_uint p.sequence ++ (var_uint p.amount ++ tail) = t.s.parts ∙ ap (λ (z : List ℕ). var_uint t.s.n ++ z) two ∙ ap (λ (n : ℕ). var_uint n ++ (var_uint p.amount ++ tail)) (sym t.c.sequence_is) in
    record {
      frames = t.c.frames;
      text = t.c.text;
      after = t.c.after;
      sequence_fits = omega (arith, t.s.fits, t.c.sequence_is);
      amount_fits = omega (arith, t.a.fits, t.c.amount_is);
      count_fits = t.c.fits;
      frames_are = t.c.are;
      known_are = t.c.known_are;
      parts = front ∙ ap (λ (z : List ℕ). 1 ∷ kind ∷ z) one ∙ ap (λ (k : ℕ). 1 ∷ k ∷ (var_uint p.sequence ++ (var_uint p.amount ++ tail))) (sym t.c.kind_is);
    }

pub packet_found : (kind : ℕ) (bytes : List ℕ) (p : Packet) → IsBytes bytes → packet_at kind bytes ≡ Ok p → TakesPacket kind bytes p
unfolding packet_at
packet_found kind bytes p fits e =
    let g = guard_ok (ltb 32739 (length bytes)) TooLong (in_order kind bytes) p e in
    let v = told Version 1 (after_version kind) bytes p fits g.1 in
    let k = told Kind kind (after_kind kind) v.rest p v.rest_fits v.goes in
    let t = numbers_found kind k.rest p k.rest_fits k.goes in
    record { short = ltb-false _ _ g.0; own = t.c.kind_is; is = is_packet kind bytes k.rest p (v.parts ∙ ap (λ (z : List ℕ). 1 ∷ z) k.parts) t }

ordered : (p : Packet) (frames : List Raw) (text after : List ℕ) → p.sequence < 2 ^ 64 → p.amount < 2 ^ 64 → length frames < 2 ^ 64 → AreFrames frames text → AreKnown 0 frames p.frames
    → in_order p.kind (1 ∷ p.kind ∷ (var_uint p.sequence ++ (var_uint p.amount ++ (var_uint (length frames) ++ (text ++ after))))) ≡ Ok (packet_from p.kind p.sequence p.amount p.frames)
ordered p frames text after s a c are known_are =
    rw (
      eq-eqb p.kind p.kind refl,
      var_uint_again p.sequence (var_uint p.amount ++ (var_uint (length frames) ++ (text ++ after))) s,
      var_uint_again p.amount (var_uint (length frames) ++ (text ++ after)) a,
      var_uint_again (length frames) (text ++ after) c,
      raws_again frames text after are,
      known_again 0 frames p.frames known_are,
    ) refl

pub packet_only : (bytes : List ℕ) (p : Packet) → length bytes ≤ 32739 → IsPacket bytes p → packet_at p.kind bytes ≡ Ok p
unfolding packet_at
packet_only bytes p short q =
    rw (le-ltb 32739 (length bytes) short)
    (ap (in_order p.kind) q.parts ∙ ordered p q.frames q.text q.after q.sequence_fits q.amount_fits q.count_fits q.frames_are q.known_are)
