-- Which arguments clap accepts for `frames`, and which it answers with help or the version.
use Rattle.std.proofs.Common.{◌≡◌, ◌≢◌, ◌⊎◌, List, [], ◌∷◌, Option, codes, refl, sym, ap, subst, ◌∙◌, inl, inr}
use Rattle.clap.specs.Words.{Kinds, Row, Text}
use Rattle.clap.specs.Faults.{built_fault}
use Rattle.clap.specs.Kinds.{or_else}
use Rattle.clap.specs.Simple.{built, entered, names_of}
use Rattle.clap.specs.Walk.{nothing_held, stop_after}
use Rattle.clap.specs.declared.error.kind.ErrorKind.TheVariants as kind
use Rattle.clap.proofs.OnLiterals.{clap_on_literals}
use Rattle.ilpstream_words.specs.Pairs.{pairs_fault}
use Rattle.ilpstream_words.specs.Program.{program}
use Rattle.ilpstream_words.specs.declared.request.Request.TheVariants as request
use Rattle.ilpstream_words.specs.Words.{AsksBy, refusals}
use Rattle.ilpstream_main.specs.Words.{AsksFrames, AsksToShow, MayRefuse, NamesFrames, after_name}

-- the command that the arguments after the program's name ask for
abbrev command : List Text → Option (Text × List Row)
command words = entered (built program) (stop_after (built program).top.rules (names_of (built program)) words)

-- the errors of these arguments
abbrev faults : List Text → Kinds
faults words = or_else (built_fault (built program) nothing_held words) (pairs_fault (command words))

abbrev Takes : List Text → Type 0
Takes words = (faults words ≡ []) × AsksBy (command words) request.Frames

takes_nothing : Takes []
unfolding clap_on_literals
takes_nothing = (refl, refl)

takes_frames : Takes (codes "frames" ∷ [])
unfolding clap_on_literals
takes_frames = (refl, refl)

takes_end : Takes (codes "--" ∷ [])
unfolding clap_on_literals
takes_end = (refl, refl)

takes_frames_end : Takes (codes "frames" ∷ codes "--" ∷ [])
unfolding clap_on_literals
takes_frames_end = (refl, refl)

by_words : (ws : List Text) → NamesFrames ws → Takes ws
by_words ws (inl e) = subst Takes (sym e) takes_nothing
by_words ws (inr (inl e)) = subst Takes (sym e) takes_frames
by_words ws (inr (inr (inl e))) = subst Takes (sym e) takes_end
by_words ws (inr (inr (inr e))) = subst Takes (sym e) takes_frames_end

pub takes : (words : List Text) → NamesFrames (after_name words) → AsksFrames words
takes words h = by_words (after_name words) h

abbrev IsShown : Kinds → Type 0
IsShown kinds = (kinds ≡ kind.DisplayHelp ∷ []) ⊎ (kinds ≡ kind.DisplayVersion ∷ [])

shows_help : faults (codes "--help" ∷ []) ≡ kind.DisplayHelp ∷ []
unfolding clap_on_literals
shows_help = refl

shows_short_help : faults (codes "-h" ∷ []) ≡ kind.DisplayHelp ∷ []
unfolding clap_on_literals
shows_short_help = refl

shows_help_of_frames : faults (codes "frames" ∷ codes "--help" ∷ []) ≡ kind.DisplayHelp ∷ []
unfolding clap_on_literals
shows_help_of_frames = refl

shows_short_help_of_frames : faults (codes "frames" ∷ codes "-h" ∷ []) ≡ kind.DisplayHelp ∷ []
unfolding clap_on_literals
shows_short_help_of_frames = refl

shows_version : faults (codes "--version" ∷ []) ≡ kind.DisplayVersion ∷ []
unfolding clap_on_literals
shows_version = refl

shows_short_version : faults (codes "-V" ∷ []) ≡ kind.DisplayVersion ∷ []
unfolding clap_on_literals
shows_short_version = refl

shows : (ws : List Text) → AsksToShow ws → IsShown (faults ws)
shows ws (inl e) = inl (ap faults e ∙ shows_help)
shows ws (inr (inl e)) = inl (ap faults e ∙ shows_short_help)
shows ws (inr (inr (inl e))) = inl (ap faults e ∙ shows_help_of_frames)
shows ws (inr (inr (inr (inl e)))) = inl (ap faults e ∙ shows_short_help_of_frames)
shows ws (inr (inr (inr (inr (inl e))))) = inr (ap faults e ∙ shows_version)
shows ws (inr (inr (inr (inr (inr e))))) = inr (ap faults e ∙ shows_short_version)

only_shown : (kinds : Kinds) → IsShown kinds → ¬ (MayRefuse kinds)
only_shown kinds (inl e) may = elim (rw e at may.1) [
  | inl is ↦ may.2 is
  | inr none ↦ none
]
only_shown kinds (inr e) may = elim (rw e at may.1) [
  | inl is ↦ may.3 is
  | inr none ↦ none
]

pub shown_is_no_mistake : (words : List Text) → AsksToShow (after_name words) → ¬ (MayRefuse (refusals words))
shown_is_no_mistake words h = only_shown (refusals words) (shows (after_name words) h)

pub shown_is_not_taken : (words : List Text) → AsksToShow (after_name words) → refusals words ≢ []
shown_is_not_taken words h e = elim (shows (after_name words) h) [
  | inl help ↦ let wrong : [] ≡ kind.DisplayHelp ∷ [] = sym e ∙ help in absurd (cc)
  | inr version ↦ let wrong : [] ≡ kind.DisplayVersion ∷ [] = sym e ∙ version in absurd (cc)
]
