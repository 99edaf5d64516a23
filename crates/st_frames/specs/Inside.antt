-- How the fields of the code are spelled.
use Rattle.std.specs.Prelude.{ℕ, List, [], ◌∷◌, ◌++◌}
use Rattle.st_oer.specs.Spelling.{octets, var_uint}
use Rattle.st_frames.specs.declared.field.Field.{Field}
use Rattle.st_frames.specs.declared.field.Field.TheVariants.{Byte, Number, Octets, Nothing}

-- the spelling of a field
abbrev pub field_text : Field → List ℕ
field_text (Byte n) = n ∷ []
field_text (Number n) = var_uint n
field_text (Octets bytes) = octets bytes.now
field_text Nothing = []

-- fields one after another
abbrev pub fields_text : List Field → List ℕ
fields_text [] = []
fields_text (f ∷ fs) = field_text f ++ fields_text fs
