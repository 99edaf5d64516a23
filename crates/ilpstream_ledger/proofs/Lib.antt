mod Pieces
mod ByName
mod Growing
mod Grown
mod Histories
mod BookedNames
mod Lines
mod Repeats
