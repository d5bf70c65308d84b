-- One role and two, as tests. Assumes nothing.
--   or-none   a test, or none
use mathlib.Core.Path.{◌≡◌, refl}
use mathlib.Core.Bool.{Bool, true, false, ◌||◌}

pub or-none : (b : Bool) → b ≡ (b || false)
or-none true = refl
or-none false = refl
