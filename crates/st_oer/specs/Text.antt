-- Texts are UTF-8, as the standard library tests it.
pub use Rattle.std.specs.Str.{is_utf8}
