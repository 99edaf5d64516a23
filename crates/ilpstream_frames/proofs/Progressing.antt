-- Lines one after another, answered as they stream past.
use Rattle.std.proofs.Common.{◌≡◌, ◌<◌, ◌≤◌, ℕ, suc, ◌+◌, ◌==◌, Bool, true, false, ◌||◌, List, [], ◌∷◌, ◌++◌, length, take, drop, get_or, set, add-one, Option, Some, None, Ok, Err, refl, sym, ap, subst, ◌∙◌, inl, inr, arith, append_assoc, append-nil}
use Rattle.std.specs.Prelude.{is_some, IsErrAnd, IsOk, IfSome, OnErr, Result}
use Rattle.std.specs.List.{All, slice_split}
use Rattle.std.specs.Str.Lines.{lines, lines_of_parts, strip_carriage_return}
use Rattle.std.specs.Io.KnownBytes.{Appends, Consumes, IsAtEnd, Keeps}
use Rattle.std.proofs.KnownBytes.{Appends-trans, Appends-nil}
use Rattle.std.proofs.lemmas.List.Splits.{slice_split_at, slice_split_none, length-slice_split}
use Rattle.std.proofs.lemmas.List.{take-append-drop, take_all, drop_all, drop-set-lt}
use Rattle.std.proofs.Math.Seq.{drop-cons, take-add, take-append_seam}
use Rattle.std.proofs.lemmas.Grind.{common_steps}
use Rattle.hex.specs.Hex.{decode_of}
use Rattle.st_frames.specs.Reading.{packet_at}
use Rattle.ilpstream_frames.specs.declared.error.LineError.{LineError}
use Rattle.ilpstream_frames.specs.declared.line.LineEnd.{LineEnd}
use Rattle.ilpstream_frames.specs.Answers.{Answered, ended, skipped, taken, refused, no_memory, IsAnswer, after_line, packet_of_line, by_packet, prepare}
use Rattle.ilpstream_frames.specs.Drafts as drafts
use Rattle.ilpstream_frames.specs.Inboxes.{Inboxes, opening, run_line, runs_from, runs_text}
use Rattle.ilpstream_frames.specs.Texts.{line_text}
use Rattle.ilpstream_frames.specs.LineSoFar.{StandsFor, no_line, text_of_line}
use Rattle.ilpstream_frames.specs.Progress.{State, at_start, told, HasPacketEffect, HasEffect, AnswersLine, MayBegin, MayFollow, AnswersPiece, Covers, CoversLines}
use Rattle.ilpstream_frames.specs.Endings.{BeginsAnswer, WritesAnswer}
use Rattle.ilpstream_output.specs.Endings.{WritesPart}
use Rattle.ilpstream_frames.proofs.LinesSoFar.{stands_empty}

first_part : (x : List ℕ) (parts : List (List ℕ)) → 0 < length parts → lines_of_parts (x ∷ parts) ≡ strip_carriage_return x ∷ lines_of_parts parts
first_part x [] h = absurd (omega arith)
first_part x (y ∷ more) h = refl

-- the first line of a text
lines-newline : (line left : List ℕ) → All (λ b. (b == 10) ≡ false) line → lines (line ++ 10 ∷ left) ≡ strip_carriage_return line ∷ lines left
lines-newline line left h =
    let parts : slice_split (λ b. b == 10) (line ++ 10 ∷ left) ≡ line ∷ slice_split (λ b. b == 10) left = slice_split_at (λ b. b == 10) line 10 left h refl in
    ap lines_of_parts parts ∙ first_part line (slice_split (λ b. b == 10) left) (omega (arith, length-slice_split (λ (b : ℕ). b == 10) left))

one_part : (x : List ℕ) → 0 < length x → lines_of_parts (x ∷ []) ≡ x ∷ []
one_part x some = grind (arith, common_steps)

-- the last line of a text
lines-last : (line : List ℕ) → 0 < length line → All (λ b. (b == 10) ≡ false) line → lines line ≡ line ∷ []
lines-last [] some h = absurd (omega arith)
lines-last (b ∷ line) some h = ap lines_of_parts (slice_split_none (λ b. b == 10) (b ∷ line) h) ∙ one_part (b ∷ line) some

or-true : (x : Bool) → (x || true) ≡ true
or-true true = refl
or-true false = refl

or-false : (x : Bool) → (x || false) ≡ x
or-false true = refl
or-false false = refl

answers_empty : (s t : State) (l : List ℕ) → length l ≡ 0 → t.inboxes ≡ s.inboxes → t.index ≡ s.index + 1 → t.refused ≡ (s.refused || false) → AnswersLine s l [] t
answers_empty s t [] e same next noted = λ ls text later a. (later, skipped s.index s.inboxes ls text later (rw (next, same) at a), rw (noted, or-false) refl)
answers_empty s t (b ∷ l) e same next noted = absurd (omega arith)

answers_taken : (s t : State) (l : List ℕ) → 0 < length l → after_line s.inboxes l ≡ Ok t.inboxes → t.index ≡ s.index + 1 → t.refused ≡ (s.refused || false) → AnswersLine s l [] t
answers_taken s t l some effect next noted = λ ls text later a. (later, taken s.index s.inboxes t.inboxes l ls text later some effect (rw next at a), rw (noted, or-false) refl)

answers_refused : (s t : State) (l : List ℕ) (e : LineError) → t.inboxes ≡ s.inboxes → 0 < length l → after_line s.inboxes l ≡ Err e → t.index ≡ s.index + 1 → t.refused ≡ (s.refused || true)
    → AnswersLine s l (line_text s.index e) t
answers_refused s t l e same some meant next noted = λ ls text later a.
    (true, refused s.index s.inboxes l e ls text later some meant (rw (next, same) at a), rw (noted, or-true) refl)

answers_no_memory : (s t : State) (l : List ℕ) → t.inboxes ≡ s.inboxes → 0 < length l → IsOk (packet_of_line l) → t.index ≡ s.index + 1 → t.refused ≡ (s.refused || true)
    → AnswersLine s l (line_text s.index drafts.no_memory) t
answers_no_memory s t l same some ok next noted = λ ls text later a.
    (true, no_memory s.index s.inboxes l ls text later some ok (rw (next, same) at a), rw (noted, or-true) refl)

-- a line is answered
pub answers_line : (s t : State) (l : List ℕ) (refusal : Option LineError) → HasEffect s.inboxes l refusal t.inboxes → t.index ≡ s.index + 1 → t.refused ≡ (s.refused || is_some refusal)
    → AnswersLine s l (told s.index refusal) t
answers_line s t l None effect next noted = elim effect [
  | inl none ↦ answers_empty s t l none.0 none.1 next noted
  | inr some ↦ answers_taken s t l some.0 some.1 next noted
]
answers_line s t l (Some e) effect next noted = elim effect.2 [
  | inl meant ↦ answers_refused s t l e effect.0 effect.1 meant next noted
  | inr wanting ↦ subst (λ (x : LineError). AnswersLine s l (line_text s.index x) t) (sym wanting.1) (answers_no_memory s t l effect.0 effect.1 wanting.0 next noted)
]

-- a newline
pub answers_newline : (s t : State) (said : List ℕ) → t.line ≡ no_line → ((line : List ℕ) → StandsFor s.line line → AnswersLine s (strip_carriage_return line) said t) → AnswersPiece s (10 ∷ []) said t
answers_newline s t said fresh answers = λ line stands. (
  [],
  stands_empty t.line fresh,
  λ left text any f.
      let a = answers line stands (lines left) text f.0 f.1 in
      let first : lines (line ++ 10 ∷ left) ≡ strip_carriage_return line ∷ lines left = lines-newline line left stands.one_line in
      (a.0, rw first a.1, a.2 ∙ f.2),
)

-- a line of which nothing was read before, and its newline
pub answers_whole : (s t : State) (bytes said : List ℕ) → t.line ≡ no_line → ((line : List ℕ) → StandsFor s.line line → line ≡ []) → All (λ b. (b == 10) ≡ false) bytes
    → AnswersLine s (strip_carriage_return bytes) said t → AnswersPiece s (bytes ++ 10 ∷ []) said t
answers_whole s t bytes said fresh none one answers = λ line stands. (
  [],
  stands_empty t.line fresh,
  λ left text any f.
      let a = answers (lines left) text f.0 f.1 in
      let all : line ++ ((bytes ++ 10 ∷ []) ++ left) ≡ bytes ++ 10 ∷ left = ap (λ (l : List ℕ). l ++ ((bytes ++ 10 ∷ []) ++ left)) (none line stands) ∙ append_assoc bytes (10 ∷ []) left in
      let first : lines (bytes ++ 10 ∷ left) ≡ strip_carriage_return bytes ∷ lines left = lines-newline bytes left one in
      (a.0, rw (all, first) a.1, a.2 ∙ f.2),
)

-- two chunks of the input, one after the other
pub answers_more : (s t r : State) (piece more said also : List ℕ) → AnswersPiece s piece said t → AnswersPiece t more also r → AnswersPiece s (piece ++ more) (said ++ also) r
answers_more s t r piece more said also first second = λ line stands.
    let one = first line stands in
    let two = second one.0 one.1 in
    (two.0, two.1, λ left text any follows. rw (append_assoc piece more left, append_assoc said also text) (one.2 (more ++ left) (also ++ text) any (two.2 left text any follows)))

pub answers_nothing : (s : State) → AnswersPiece s [] [] s
answers_nothing s = λ line stands. (line, stands, λ left text any follows. follows)

-- each line may be answered
some_answer : (i : ℕ) (s : Inboxes) (ls : List (List ℕ)) → (text : List ℕ) × (any : Bool) × Answered i s ls text any
some_answer i s [] = (runs_text s, false, ended i s)
some_answer i s ([] ∷ ls) =
    let later = some_answer (i + 1) s ls in
    (later.0, later.1, skipped i s ls later.0 later.1 later.2)
some_answer i s ((b ∷ l) ∷ ls) = by_effect (λ t. some_answer (i + 1) t ls) (after_line s (b ∷ l)) refl
  where
    by_effect : ((t : Inboxes) → (text : List ℕ) × (any : Bool) × Answered (i + 1) t ls text any) → (r : Result Inboxes LineError) → after_line s (b ∷ l) ≡ r
        → (text : List ℕ) × (any : Bool) × Answered i s ((b ∷ l) ∷ ls) text any
    by_effect later (Ok t) e = ((later t).0, (later t).1, taken i s t (b ∷ l) ls (later t).0 (later t).1 (omega arith) e (later t).2)
    by_effect later (Err error) e = (line_text i error ++ (later s).0, true, refused i s (b ∷ l) error ls (later s).0 (later s).1 (omega arith) e (later s).2)

-- some text may follow
some_follows : (s : State) (line left : List ℕ) → (text : List ℕ) × (any : Bool) × MayFollow s line left text any
some_follows s line left =
    let a = some_answer s.index s.inboxes (lines (line ++ left)) in
    (a.0, s.refused || a.1, (a.1, a.2, refl))

pub begins_nothing : (s : State) (left : List ℕ) → MayBegin s left []
begins_nothing s left = λ line stands. some_follows s line left

pub begins_piece : (s t : State) (piece said left : List ℕ) → AnswersPiece s piece said t → MayBegin s (piece ++ left) said
begins_piece s t piece said left answers = λ line stands.
    let a = answers line stands in
    let f = some_follows t a.0 left in
    (f.0, f.1, a.2 left f.0 f.1 f.2)

-- after what ended the input, the runs follow
pub begins_ended : (s t : State) (said : List ℕ) → ((line : List ℕ) → StandsFor s.line line → MayFollow s line [] (said ++ runs_text t.inboxes) t.refused) → MayBegin s [] said
begins_ended s t said follows = λ line stands. (runs_text t.inboxes, t.refused, follows line stands)

-- the input's end, with no line before it
pub ends_empty : (s : State) → ((line : List ℕ) → StandsFor s.line line → length line ≡ 0) → (line : List ℕ) → StandsFor s.line line → MayFollow s line [] (runs_text s.inboxes) s.refused
ends_empty s empty line stands = at_end line (empty line stands)
  where
    at_end : (l : List ℕ) → length l ≡ 0 → (later : Bool) × Answered s.index s.inboxes (lines (l ++ [])) (runs_text s.inboxes) later × ((s.refused || later) ≡ s.refused)
    at_end [] e = (false, ended s.index s.inboxes, or-false s.refused)
    at_end (b ∷ l) e = absurd (omega arith)

-- the input's end, after a line
pub ends_line : (s t : State) (said : List ℕ) → ((line : List ℕ) → StandsFor s.line line → 0 < length line) → ((line : List ℕ) → StandsFor s.line line → AnswersLine s line said t)
    → (line : List ℕ) → StandsFor s.line line → MayFollow s line [] (said ++ runs_text t.inboxes) t.refused
ends_line s t said some answers line stands =
    let a = answers line stands [] (runs_text t.inboxes) false (ended t.index t.inboxes) in
    let whole : lines (line ++ []) ≡ line ∷ [] = ap lines (append-nil line) ∙ lines-last line (some line stands) stands.one_line in
    (a.0, rw whole a.1, a.2 ∙ or-false t.refused)

-- before the first byte
pub covers_start : (input before : Option (List ℕ)) (s : State) → s ≡ at_start → Covers input input before before s
covers_start None before s e = tt
covers_start (Some input) before s e = ([], stands_empty s.line (ap (λ (x : State). x.line) e), ([], Appends-nil before, rw e starts))
  where
    starts : (text : List ℕ) (any : Bool) → MayFollow at_start [] input text any → IsAnswer input ([] ++ text) any
    starts text any f = subst (λ (x : Bool). Answered 1 opening (lines input) text x) f.2 f.1

-- after a chunk of the input
pub covers_piece : (input left rest before now after : Option (List ℕ)) (s t : State) (piece said : List ℕ) → Covers input left before now s → Consumes left rest piece → Appends now after said
    → AnswersPiece s piece said t → Covers input rest before after t
covers_piece None left rest before now after s t piece said h took put answers = tt
covers_piece (Some input) None rest before now after s t piece said h took put answers = absurd h
covers_piece (Some input) (Some left) None before now after s t piece said h took put answers = absurd took
covers_piece (Some input) (Some left) (Some rest) before now after s t piece said h took put answers =
    let a = answers h.0 h.1 in
    let d = h.2 in (
      a.0,
      a.1,
      (
        d.0 ++ said,
        Appends-trans before now after d.0 said d.1 put,
        λ text any follows. rw (append_assoc d.0 said text) (d.2 (said ++ text) any (rw took (a.2 rest text any follows))),
      ),
    )

-- after a call that moved nothing
pub covers_same : (input left rest before now : Option (List ℕ)) (s : State) → Covers input left before now s → Keeps left rest → Covers input rest before now s
covers_same None left rest before now s h kept = tt
covers_same (Some input) None rest before now s h kept = absurd h
covers_same (Some input) (Some left) None before now s h kept = absurd kept
covers_same (Some input) (Some left) (Some rest) before now s h kept = rw kept h

-- at the end
pub covers_end : (input left before now after : Option (List ℕ)) (s t : State) (said : List ℕ) → Covers input left before now s → IsAtEnd left → Appends now after said
    → ((line : List ℕ) → StandsFor s.line line → MayFollow s line [] (said ++ runs_text t.inboxes) t.refused) → CoversLines input before after t
covers_end None left before now after s t said h end put follows = tt
covers_end (Some input) None before now after s t said h end put follows = absurd h
covers_end (Some input) (Some left) before now after s t said h end put follows =
    let d = h.2 in (
      d.0 ++ said,
      Appends-trans before now after d.0 said d.1 put,
      rw (append_assoc d.0 said (runs_text t.inboxes)) (d.2 (said ++ runs_text t.inboxes) t.refused (rw end (follows h.0 h.1))),
    )

-- at the end, which an empty read showed
pub covers_ended : (input left rest before now after : Option (List ℕ)) (s t : State) (said piece : List ℕ) → piece ≡ [] → Covers input left before now s → Consumes left rest piece → IsAtEnd rest
    → Appends now after said → ((line : List ℕ) → StandsFor s.line line → MayFollow s line [] (said ++ runs_text t.inboxes) t.refused) → CoversLines input before after t
covers_ended input left rest before now after s t said piece none h took end put follows =
    let nothing = subst (λ (p : List ℕ). AnswersPiece s p [] s) (sym none) (answers_nothing s) in
    covers_end input rest before now after s t said (covers_piece input left rest before now now s s piece [] h took (Appends-nil now) nothing) end put follows

pub on_err : {T E : Type 0} (r : Result T E) (P : Type 0) → P → OnErr r P
on_err (Ok x) P p = tt
on_err (Err e) P p = p

-- what holds of an error's result
pub err_as : {T E : Type 0} (P : Result T E → Type 0) (r : Result T E) (e : E) → IsErrAnd r (λ x. x ≡ e) → P (Err e) → P r
err_as P (Ok x) e is h = absurd is
err_as P (Err x) e is h = subst (λ y. P (Err y)) (sym is) h

-- the first bytes of a text, of which some were written before and the rest is cut off
writes_part : (before now after : Option (List ℕ)) (all done said rest : List ℕ) → all ≡ done ++ (said ++ rest) → Appends before now done → WritesPart said now after → WritesPart all before after
writes_part before now after all done said rest whole first part =
    let cut : all ≡ (done ++ take part.0 said) ++ (drop part.0 said ++ rest) =
    whole ∙ (ap (λ (x : List ℕ). done ++ (x ++ rest)) (sym (take-append-drop part.0 said)) ∙ (ap (λ (x : List ℕ). done ++ x) (append_assoc (take part.0 said) (drop part.0 said) rest)
    ∙ sym (append_assoc done (take part.0 said) (drop part.0 said ++ rest)))) in
    let front : take (length (done ++ take part.0 said)) all ≡ done ++ take part.0 said =
    ap (take (length (done ++ take part.0 said))) cut ∙ take-append_seam (done ++ take part.0 said) (drop part.0 said ++ rest) in
    (length (done ++ take part.0 said), rw front (Appends-trans before now after done (take part.0 said) first part.1))

-- a call ended in the middle of what it wrote
pub begins_part : (input left before now after : Option (List ℕ)) (s : State) (said : List ℕ) → Covers input left before now s → IfSome left (λ bytes. MayBegin s bytes said) → WritesPart said now after
    → IfSome input (λ bytes. BeginsAnswer bytes before after)
begins_part None left before now after s said h begins part = tt
begins_part (Some input) None before now after s said h begins part = absurd h
begins_part (Some input) (Some left) before now after s said h begins part =
    let f = begins h.0 h.1 in
    let d = h.2 in
    (d.0 ++ (said ++ f.0), f.1, d.2 (said ++ f.0) f.1 f.2, writes_part before now after (d.0 ++ (said ++ f.0)) d.0 said f.0 refl d.1 part)

-- what was written so far is the beginning of an answer
pub begins : (input left before now : Option (List ℕ)) (s : State) → Covers input left before now s → IfSome input (λ bytes. BeginsAnswer bytes before now)
begins input left before now s h = begins_part input left before now now s [] h (nothing left) (0, Appends-nil now)
  where
    nothing : (x : Option (List ℕ)) → IfSome x (λ bytes. MayBegin s bytes [])
    nothing None = tt
    nothing (Some bytes) = begins_nothing s bytes

-- a chunk was read, and the first bytes of what it made known were written
pub begins_in_piece : (input left rest before now after : Option (List ℕ)) (s : State) (piece said : List ℕ) → Covers input left before now s → Consumes left rest piece
    → ((more : List ℕ) → MayBegin s (piece ++ more) said) → WritesPart said now after → IfSome input (λ bytes. BeginsAnswer bytes before after)
begins_in_piece input left rest before now after s piece said h took begins part = begins_part input left before now after s said h (at left rest took) part
  where
    at : (x y : Option (List ℕ)) → Consumes x y piece → IfSome x (λ bytes. MayBegin s bytes said)
    at None y e = tt
    at (Some bytes) None e = absurd e
    at (Some bytes) (Some more) e = rw e (begins more)

-- the same at the end, which an empty read showed
pub begins_at_end : (input left rest before now after : Option (List ℕ)) (s : State) (piece said : List ℕ) → piece ≡ [] → Covers input left before now s → Consumes left rest piece → IsAtEnd rest
    → MayBegin s [] said → WritesPart said now after → IfSome input (λ bytes. BeginsAnswer bytes before after)
begins_at_end input left rest before now after s piece said none h took end begins part = begins_part input left before now after s said h (at left rest took end) part
  where
    at : (x y : Option (List ℕ)) → Consumes x y piece → IsAtEnd y → IfSome x (λ bytes. MayBegin s bytes said)
    at None y e last = tt
    at (Some bytes) None e last = absurd e
    at (Some bytes) (Some more) e last = rw (e, none, last) begins

-- the lines were answered, and the first bytes of the runs were written
pub begins_runs : (input before now after : Option (List ℕ)) (s : State) (streams : Inboxes) → s.inboxes ≡ streams → CoversLines input before now s → WritesPart (runs_text streams) now after
    → IfSome input (λ bytes. BeginsAnswer bytes before after)
begins_runs None before now after s streams same h part = tt
begins_runs (Some input) before now after s streams same h part =
    let runs : runs_text s.inboxes ≡ runs_text streams ++ [] = ap runs_text same ∙ sym (append-nil (runs_text streams)) in
    (h.0 ++ runs_text s.inboxes, s.refused, h.2, writes_part before now after (h.0 ++ runs_text s.inboxes) h.0 (runs_text streams) [] (ap (λ (x : List ℕ). h.0 ++ x) runs) h.1 part)

-- with the runs
pub answers_all : (input before now after : Option (List ℕ)) (s : State) → CoversLines input before now s → Appends now after (runs_text s.inboxes)
    → IfSome input (λ bytes. WritesAnswer bytes s.refused before after)
answers_all None before now after s h put = tt
answers_all (Some input) before now after s h put = (h.0 ++ runs_text s.inboxes, h.2, Appends-trans before now after h.0 (runs_text s.inboxes) h.1 put)

-- what a packet does is what its line does
pub effect_of_packet : (s t : Inboxes) (l bytes : List ℕ) (refusal : Option LineError) → 0 < length l → decode_of l ≡ Ok bytes → HasPacketEffect s (by_packet (packet_at prepare bytes)) refusal t → HasEffect s l refusal t
unfolding after_line packet_of_line
effect_of_packet s t l bytes None some is effect = inr (some, rw is effect)
effect_of_packet s t l bytes (Some e) some is effect = (effect.0, some, rw is effect.1)

pub effect_of_no_packet : (s t : Inboxes) (l : List ℕ) (e : LineError) → 0 < length l → packet_of_line l ≡ Err e → t ≡ s → HasEffect s l (Some e) t
unfolding after_line
effect_of_no_packet s t l e some is same = (same, some, inl (rw is refl))

pub some_text : (l : List ℕ) → (length l ≡ 0 → ⊥) → 0 < length l
some_text [] h = absurd (h refl)
some_text (b ∷ l) h = omega arith

-- a text was answered in steps: a after its packet, n after it was reported, t with the next line
text_answered : (s a n t : State) (text : List ℕ) (refusal : Option LineError) → a.index ≡ s.index → a.refused ≡ s.refused → n ≡ record a { refused = a.refused || is_some refusal }
    → t ≡ record n { line = no_line; index = n.index + 1 } → HasEffect s.inboxes text refusal a.inboxes → AnswersLine s text (told s.index refusal) t
text_answered s a n t text refusal index flag noted next effect =
    let inboxes : t.inboxes ≡ a.inboxes = ap (λ (x : State). x.inboxes) next ∙ ap (λ (x : State). x.inboxes) noted in
    let refused : t.refused ≡ (s.refused || is_some refusal) =
    ap (λ (x : State). x.refused) next ∙ (ap (λ (x : State). x.refused) noted ∙ ap (λ (x : Bool). x || is_some refusal) flag) in
    let later : t.index ≡ s.index + 1 = ap (λ (x : State). x.index) next ∙ (ap (λ (x : State). x.index + 1) noted ∙ ap (λ (i : ℕ). i + 1) index) in
    answers_line s t text refusal (subst (λ (x : Inboxes). HasEffect s.inboxes text refusal x) (sym inboxes) effect) later refused

-- the same, with what was written for it
pub text_ended : (s a n t : State) (text before after : List ℕ) (refusal : Option LineError) → a.index ≡ s.index → a.refused ≡ s.refused
    → n ≡ record a { refused = a.refused || is_some refusal } → t ≡ record n { line = no_line; index = n.index + 1 } → after ≡ before ++ told a.index refusal
    → HasEffect s.inboxes text refusal a.inboxes → (said : List ℕ) × (after ≡ before ++ said) × AnswersLine s text said t
text_ended s a n t text before after refusal index flag noted next put effect =
    (told s.index refusal, put ∙ ap (λ (i : ℕ). before ++ told i refusal) index, text_answered s a n t text refusal index flag noted next effect)

-- the same of each line that the state may mean
pub line_ended : (s a n t : State) (end : LineEnd) (before after : List ℕ) (refusal : Option LineError) → a.index ≡ s.index → a.refused ≡ s.refused
    → n ≡ record a { refused = a.refused || is_some refusal } → t ≡ record n { line = no_line; index = n.index + 1 } → after ≡ before ++ told a.index refusal
    → ((line : List ℕ) → StandsFor s.line line → HasEffect s.inboxes (text_of_line end line) refusal a.inboxes)
    → (said : List ℕ) × (after ≡ before ++ said) × ((line : List ℕ) → StandsFor s.line line → AnswersLine s (text_of_line end line) said t)
line_ended s a n t end before after refusal index flag noted next put effect = (
  told s.index refusal,
  put ∙ ap (λ (i : ℕ). before ++ told i refusal) index,
  λ line stands. text_answered s a n t (text_of_line end line) refusal index flag noted next (effect line stands),
)

-- the chunk was processed so far
abbrev pub TakesTo : State → List ℕ → List ℕ → List ℕ → State → Type 0
TakesTo s piece before after t = (said : List ℕ) × (after ≡ before ++ said) × AnswersPiece s piece said t

-- a chunk of which the first i bytes were processed before a call that wrote nothing
pub begins_taken : (s t : State) (piece : List ℕ) (i : ℕ) (before now after : List ℕ) → TakesTo s (take i piece) before now t → after ≡ now
    → (said : List ℕ) × (after ≡ before ++ said) × ((left : List ℕ) → MayBegin s (piece ++ left) said)
begins_taken s t piece i before now after h same = (
  h.0,
  same ∙ h.1,
  λ left.
      let whole : take i piece ++ (drop i piece ++ left) ≡ piece ++ left = sym (append_assoc (take i piece) (drop i piece) left) ∙ ap (λ (x : List ℕ). x ++ left) (take-append-drop i piece) in
      subst (λ (x : List ℕ). MayBegin s x h.0) whole (begins_piece s t (take i piece) h.0 (drop i piece ++ left) h.2),
)

pub takes_part : (s t r : State) (piece : List ℕ) (i n : ℕ) (out next last : List ℕ) → TakesTo s (take i piece) out next t → TakesTo t (take n (drop i piece)) next last r
    → TakesTo s (take (i + n) piece) out last r
takes_part s t r piece i n out next last first second =
    let one : take (i + n) piece ≡ take i piece ++ take n (drop i piece) = take-add i n piece in (
      first.0 ++ second.0,
      second.1 ∙ (ap (λ (l : List ℕ). l ++ second.0) first.1 ∙ append_assoc out first.0 second.0),
      rw one (answers_more s t r (take i piece) (take n (drop i piece)) first.0 second.0 first.2 second.2),
    )

-- the runs were written up to place i, and those from there on are left
abbrev pub WritesRuns : Option (List ℕ) → Option (List ℕ) → List ℕ → ℕ → Inboxes → Type 0
WritesRuns before now all i s = (done : List ℕ) × Appends before now done × (done ++ runs_from (i + 1) (drop i s) ≡ all)

pub writes_run : (before now after : Option (List ℕ)) (all : List ℕ) (i : ℕ) (s t : Inboxes) → i < length s → t ≡ set s i None → WritesRuns before now all i s
    → Appends now after (run_line (i + 1) (get_or s i None)) → WritesRuns before after all (i + 1) t
writes_run before now after all i s t lt made h put =
    let said : List ℕ = run_line (i + 1) (get_or s i None) in
    let step : runs_from (i + 1) (drop i s) ≡ said ++ runs_from (i + 1 + 1) (drop (suc i) s) = ap (runs_from (i + 1)) (drop-cons s i None lt) in
    let same : drop (i + 1) t ≡ drop (suc i) s = ap (drop (i + 1)) made ∙ (drop-set-lt (i + 1) s i None (omega arith) ∙ ap (λ (k : ℕ). drop k s) (add-one i)) in (
      h.0 ++ said,
      Appends-trans before now after h.0 said h.1 put,
      append_assoc h.0 said (runs_from (i + 1 + 1) (drop (i + 1) t)) ∙ (ap (λ (l : Inboxes). h.0 ++ (said ++ runs_from (i + 1 + 1) l)) same ∙ (ap (λ (l : List ℕ). h.0 ++ l) (sym step) ∙ h.2)),
    )

-- the run at place i ended in the middle
pub writes_runs_part : (before now after : Option (List ℕ)) (all : List ℕ) (i : ℕ) (s : Inboxes) → i < length s → WritesRuns before now all i s
    → WritesPart (run_line (i + 1) (get_or s i None)) now after → WritesPart all before after
writes_runs_part before now after all i s lt h part =
    let said : List ℕ = run_line (i + 1) (get_or s i None) in
    let step : runs_from (i + 1) (drop i s) ≡ said ++ runs_from (i + 1 + 1) (drop (suc i) s) = ap (runs_from (i + 1)) (drop-cons s i None lt) in
    writes_part before now after all h.0 said (runs_from (i + 1 + 1) (drop (suc i) s)) (sym h.2 ∙ ap (λ (l : List ℕ). h.0 ++ l) step) h.1 part

pub writes_whole : (before now : Option (List ℕ)) (text : List ℕ) → Appends before now text → WritesPart text before now
writes_whole before now text whole = writes_part before before now text [] text [] (sym (append-nil text)) (Appends-nil before) (length text, rw (take_all (length text) text (omega arith)) whole)

pub writes_all : (before now : Option (List ℕ)) (all : List ℕ) (i : ℕ) (s : Inboxes) → length s ≤ i → WritesRuns before now all i s → Appends before now all
writes_all before now all i s past h =
    let none : drop i s ≡ [] = drop_all i s past in
    let whole : h.0 ≡ all = sym (append-nil h.0) ∙ (ap (λ (l : Inboxes). h.0 ++ runs_from (i + 1) l) (sym none) ∙ h.2) in
    subst (Appends before now) whole h.1

-- the same with other names for the streams and the flag
pub answers_all_as : (input before now after : Option (List ℕ)) (s : State) (streams : Inboxes) (flag : Bool) → s.inboxes ≡ streams → s.refused ≡ flag → CoversLines input before now s
    → Appends now after (runs_text streams) → IfSome input (λ bytes. WritesAnswer bytes flag before after)
answers_all_as input before now after s streams flag same is h put =
    let all = answers_all input before now after s h (subst (λ (x : Inboxes). Appends now after (runs_text x)) (sym same) put) in
    rw is at all

take-zero : (xs : List ℕ) → take 0 xs ≡ []
take-zero [] = refl
take-zero (x ∷ xs) = refl
