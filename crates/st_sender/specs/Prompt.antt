-- What is sent with any packet if the room is large enough: own rules of this profile. Neither a close nor a raised limit
-- waits for the bytes of streams.
use Rattle.std.specs.Prelude.{◌≡◌, ℕ, Bool, true, false, List, [], ◌∷◌}
use Rattle.std.specs.List.{list_any, Contains}
use Rattle.st_frames.specs.Frames.{Known, BlockedFrame}
use Rattle.st_sender.specs.Sending.{Load, Sending}
use Rattle.st_sender.specs.Flights.{is_close, same_limit}
use Rattle.st_sender.specs.Due.{IsDue, IsDueClose}
use Rattle.st_sender.specs.ControlFrames.{is_limit}

abbrev pub is_blocked : Known → Bool
is_blocked (BlockedFrame b) = true
is_blocked f = false

-- each due close and each due limit of this end's own is in the packet, and a Blocked frame is in a packet of its own
pub record IsPrompt (s : Sending) (own : List Known) (p : Load) : Type 0 where
  pub closes : (k code : ℕ) → IsDueClose s k code → list_any (is_close k code) p.frames ≡ true
  pub limits : (f : Known) → is_limit f ≡ true → IsDue s own f → list_any (same_limit f) p.frames ≡ true
  pub alone : (f : Known) → Contains p.frames f → is_blocked f ≡ true → p.frames ≡ f ∷ []
