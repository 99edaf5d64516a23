-- Frames that bring no chunk change nothing.
use Rattle.std.proofs.Common.{◌≡◌, ℕ, List, [], ◌∷◌, refl, ap, ◌∙◌}
use Rattle.std.specs.Prelude.{Result, Ok, Err}
use Rattle.st_frames.specs.declared.frame.Frame.{Frame}
use Rattle.st_frames.specs.declared.frame.Frame.TheVariants as code
use Rattle.st_frames.specs.Frames.{Known}
use Rattle.st_frames.specs.Seen.{seen}
use Rattle.ilpstream_frames.specs.declared.error.LineError.{LineError}
use Rattle.ilpstream_frames.specs.declared.streams.Pieces.{Pieces}
use Rattle.ilpstream_frames.specs.declared.streams.Pieces.TheVariants.{None, One, Several}
use Rattle.ilpstream_frames.specs.Inboxes.{Inboxes, after_frame, after_piece, frames_from}
use Rattle.ilpstream_frames.specs.Drafts.{StandFor}

no_change : (frame : Frame) → ((stream offset : ℕ) (bytes : _) → frame ≡ code.StreamData stream offset bytes → ⊥) → (s : Inboxes) → after_frame s (seen frame) ≡ Ok s
no_change (code.StreamData stream offset bytes) other s = absurd (other stream offset bytes refl)
no_change frame other s = refl

passed_over : (frame : Known) (index : ℕ) (rest : List (ℕ × Known)) (r : Result Inboxes LineError) → ((s : Inboxes) → after_frame s frame ≡ Ok s) → frames_from r ((index, frame) ∷ rest) ≡ frames_from r rest
passed_over frame index rest (Ok s) same = ap (λ r. frames_from r rest) (same s)
passed_over frame index rest (Err e) same = refl

pub stand_for_more : (pieces : Pieces) (frame : Frame) → ((stream offset : ℕ) (bytes : _) → frame ≡ code.StreamData stream offset bytes → ⊥)
    → (index : ℕ) (rest all : List (ℕ × Known)) → StandFor pieces ((index, seen frame) ∷ rest) all → StandFor pieces rest all
stand_for_more None frame other index rest all h = λ s. h s ∙ passed_over (seen frame) index rest (Ok s) (no_change frame other)
stand_for_more (One stream offset bytes) frame other index rest all h = λ s. h s ∙ passed_over (seen frame) index rest (after_piece s stream offset bytes.now) (no_change frame other)
stand_for_more Several frame other index rest all h = tt

-- with no frame left there is what the chunks do
pub none_left : (r : Result Inboxes LineError) → frames_from r [] ≡ r
none_left (Ok s) = refl
none_left (Err e) = refl
