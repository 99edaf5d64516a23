-- A row of the table of faults and refusals.
use Rattle.std.specs.Prelude.{ℕ, List}

abbrev pub Text : Type 0
Text = List ℕ

-- one variant of an error with this number: its crate and name, the commands in which a user of the program meets it, its cause
-- and what to do, each in lines
pub record Row : Type 0 where
  pub number : ℕ
  pub home : Text
  pub variant : Text
  pub places : List Text
  pub cause : List Text
  pub advice : List Text
