-- A chunk that is put into its stream's inbox, without a draft.
use Rattle.std.proofs.Common.{◌≡◌, ◌<◌, ℕ, zero, suc, List, [], ◌∷◌, length, get_or, set, Option, Some, None, inl, inr, refl, sym, ap, ◌∙◌}
use Rattle.std.specs.Prelude.{true, Result, Ok, Err, IfErr, OnOk, ◌-◌}
use Rattle.std.specs.Option.{unwrap_or}
use Rattle.std.specs.Result.{IsErr, IsErrAnd}
use Rattle.std.proofs.lemmas.List.{get_or_read}
use Rattle.st_reassembly.specs.Held.{Held, nothing_held}
use Rattle.st_reassembly.specs.Inserting.{inserted}
use Rattle.st_reassembly.specs.declared.error.InboxError.{InboxError}
use Rattle.st_reassembly.specs.declared.error.InboxError.TheVariants as inbox
use Rattle.ilpstream_frames.specs.Inboxes.{Inboxes, is_stream, after_piece, with_answer}
use Rattle.ilpstream_frames.specs.Drafts.{IsPieceError}
use Rattle.ilpstream_frames.specs.declared.error.LineError.{LineError}
use Rattle.ilpstream_frames.specs.declared.error.LineError.TheVariants.{Inbox}

-- what the inbox at a place answers
answered : (xs ss : Inboxes) (stream place offset : ℕ) (bytes : List ℕ) (here : Option Held) (held : Held) (answer : Result Held InboxError) → xs ≡ ss → place < length xs → is_stream stream ≡ true → place ≡ stream - 1
    → here ≡ get_or xs place here → held ≡ unwrap_or here nothing_held → inserted offset bytes held ≡ answer → after_piece ss stream offset bytes ≡ with_answer ss stream answer
answered xs ss stream place offset bytes here held answer same l known at is stands e = rw (← same, known, ← at, ← get_or_read xs place here l is None, ← stands, e) refl

pub put_there : (xs ss : Inboxes) (stream place offset : ℕ) (bytes : List ℕ) (here : Option Held) (held next : Held) → xs ≡ ss → place < length xs → is_stream stream ≡ true → place ≡ stream - 1
    → here ≡ get_or xs place here → held ≡ unwrap_or here nothing_held → inserted offset bytes held ≡ Ok next → after_piece ss stream offset bytes ≡ Ok (set xs place (Some next))
put_there xs ss stream place offset bytes here held next same l known at is stands e =
    answered xs ss stream place offset bytes here held (Ok next) same l known at is stands e ∙ rw (same, at) refl

pub refused_there : (xs ss : Inboxes) (stream place offset : ℕ) (bytes : List ℕ) (here : Option Held) (held : Held) (error : InboxError) → xs ≡ ss → place < length xs → is_stream stream ≡ true → place ≡ stream - 1
    → here ≡ get_or xs place here → held ≡ unwrap_or here nothing_held → inserted offset bytes held ≡ Err error → (e : LineError) → e ≡ Inbox error → IsPieceError (after_piece ss stream offset bytes) e
refused_there xs ss stream place offset bytes here held error same l known at is stands e told named =
    inl (answered xs ss stream place offset bytes here held (Err error) same l known at is stands e ∙ ap (λ (x : LineError). Err x) (sym named))

pub no_room : (meant : Result Inboxes LineError) (error : InboxError) → error ≡ inbox.NoMemory → (e : LineError) → e ≡ Inbox error → IsPieceError meant e
no_room meant error is e named = inr (named ∙ ap Inbox is)

-- putting a value back at its place changes nothing
pub set_there : {X : Type 0} (xs : List X) (place : ℕ) (x : X) → x ≡ get_or xs place x → set xs place x ≡ xs
set_there [] place x is = refl
set_there (y ∷ ys) zero x is = ap (λ z. z ∷ ys) is
set_there (y ∷ ys) (suc place) x is = ap (λ zs. y ∷ zs) (set_there ys place x is)

pub put_back : (xs ss : Inboxes) (place : ℕ) (here : Option Held) (held next : Held) → xs ≡ ss → here ≡ get_or xs place here → here ≡ Some held → next ≡ held → set xs place (Some next) ≡ ss
put_back xs ss place here held next same is stands kept = ap (λ o. set xs place o) (ap (λ (h : Held). Some h) kept ∙ sym stands) ∙ set_there xs place here is ∙ same

-- what a call that failed answers
pub if_err : {T E : Type 0} (r : Result T E) (P Q : E → Type 0) → IsErrAnd r P → ((e : E) → P e → Q e) → IfErr r Q
if_err (Ok x) P Q h f = tt
if_err (Err e) P Q h f = f e h

pub not_ok : {T E : Type 0} (r : Result T E) (P : Type 0) → IsErr r → OnOk r P
not_ok (Ok x) P h = absurd cc
not_ok (Err e) P h = tt

pub set_same : {X : Type 0} (xs : List X) (place : ℕ) (d : X) → set xs place (get_or xs place d) ≡ xs
set_same [] place d = refl
set_same (y ∷ ys) zero d = refl
set_same (y ∷ ys) (suc place) d = ap (λ zs. y ∷ zs) (set_same ys place d)

pub stood_there : (xs ss : Inboxes) (place : ℕ) (here what : Option Held) → xs ≡ ss → place < length xs → here ≡ get_or xs place here → here ≡ what → get_or ss place None ≡ what
stood_there xs ss place here what same l is e = ap (λ (s : Inboxes). get_or s place None) (sym same) ∙ sym (get_or_read xs place here l is None) ∙ e
