-- The number of a token that may have been found. Assumes nothing.
--   found t      its number, 0 for none
use Rattle.std.specs.Prelude.{ℕ, Option, Some, None}
use Rattle.counts.specs.declared.Token.{Token}

abbrev pub found : Option Token → ℕ
found None = 0
found (Some i) = i.0
