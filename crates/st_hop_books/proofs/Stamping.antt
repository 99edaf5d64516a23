-- The text of the view, in parts.
use Rattle.std.proofs.Common.{append_assoc}

pub ruleset pieces = (append_assoc)
