pub mod Pieces
pub mod Overs
pub mod OnePiece
pub mod PiecesTold
pub mod LinesSoFar
pub mod HexDigits
pub mod Newlines
pub mod Progressing
