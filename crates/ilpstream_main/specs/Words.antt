-- What the arguments of the command line ask for.
use Rattle.std.specs.Prelude.{◌≡◌, ◌≢◌, ◌⊎◌, List, [], ◌∷◌, codes, drop}
use Rattle.clap.specs.Words.{IsAmong, Kinds, Text}
use Rattle.clap.specs.declared.error.kind.ErrorKind.{ErrorKind}
use Rattle.clap.specs.declared.error.kind.ErrorKind.TheVariants.{DisplayHelp, DisplayVersion}
use Rattle.ilpstream_words.specs.declared.request.Request.{Request}
use Rattle.ilpstream_words.specs.declared.request.Request.TheVariants as request
use Rattle.ilpstream_words.specs.Words.{AsksBy, command_of, refusals}

-- clap accepts the arguments, and they ask for this
abbrev pub AsksFor : List Text → Request → Type 0
AsksFor words q = (refusals words ≡ []) × AsksBy (command_of words) q

-- they ask for `frames`, by that command or by none
abbrev pub AsksFrames : List Text → Type 0
AsksFrames words = AsksFor words request.Frames

-- clap accepts the arguments, and the text of an option is bad
abbrev pub HasBadOption : List Text → Type 0
HasBadOption words = (refusals words ≡ []) × ((q : Request) → ¬ (AsksBy (command_of words) q))

-- the arguments after the first one, which is the program's name
abbrev pub after_name : List Text → List Text
after_name words = drop 1 words

-- what follows the program's name asks for help or the version
abbrev pub AsksToShow : List Text → Type 0
AsksToShow words = (words ≡ codes "--help" ∷ []) ⊎ (words ≡ codes "-h" ∷ [])
    ⊎ (words ≡ codes "frames" ∷ codes "--help" ∷ []) ⊎ (words ≡ codes "frames" ∷ codes "-h" ∷ [])
    ⊎ (words ≡ codes "--version" ∷ []) ⊎ (words ≡ codes "-V" ∷ [])

-- nothing follows the program's name, or `frames`, and `--`, which ends options, may end it
abbrev pub NamesFrames : List Text → Type 0
NamesFrames words = (words ≡ []) ⊎ (words ≡ codes "frames" ∷ [])
    ⊎ (words ≡ codes "--" ∷ []) ⊎ (words ≡ codes "frames" ∷ codes "--" ∷ [])

-- help or the version may be the answer
abbrev pub MayShow : Kinds → Type 0
MayShow kinds = IsAmong DisplayHelp kinds ⊎ IsAmong DisplayVersion kinds

-- a mistake in the arguments may be the answer
abbrev pub MayRefuse : Kinds → Type 0
MayRefuse kinds = (kind : ErrorKind) × IsAmong kind kinds × (kind ≢ DisplayHelp) × (kind ≢ DisplayVersion)
