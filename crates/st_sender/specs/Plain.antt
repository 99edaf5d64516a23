-- That none of one kind of frames may go.
use Rattle.std.specs.Prelude.{◌≡◌, ℕ, Bool, List, [], ◌∷◌}
use Rattle.st_frames.specs.Frames.{Known}
use Rattle.st_sender.specs.Sending.{Sending}
use Rattle.st_sender.specs.Due.{IsDue}
use Rattle.st_sender.specs.Filling.{is_work}
use Rattle.st_sender.specs.Loads.{Fits, load_with}

-- each due frame of one kind is stopped by a current limit: bytes, money and closes are work, the others report limits
abbrev pub IsIdleOf : (work : Bool) → Sending → (limits : List Known) → (room : ℕ) → Type 0
IsIdleOf work s limits room = (f : Known) → is_work f ≡ work → IsDue s limits f → ¬ Fits s room (load_with s (f ∷ []))
