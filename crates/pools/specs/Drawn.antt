-- What is asked of the cards of a pool whose heads fit. Assumes nothing.
--   drawn_checks cards   the tests from 3 on of a pooled judging, in their order
use Rattle.std.specs.Prelude.{ℕ, Bool, ◌&&◌, List, [], ◌∷◌, length}
use Rattle.counts.specs.Codes.{out_of_limits, none_open, bad_pool}
use Rattle.counts.specs.Limits.{least_pooled, most_pooled}
use Rattle.scheme.specs.Checks.{within}
use Rattle.scheme.specs.Pools.{cut, read_all, every, in_limits, is_open, distinct}

abbrev pub drawn_checks : List ℕ → List (Bool × ℕ)
drawn_checks cards =
    (every in_limits (cut cards), out_of_limits)
    ∷ (within least_pooled most_pooled (length (cut cards)) && distinct (read_all (cut cards)), bad_pool)
    ∷ (every is_open (cut cards), none_open)
    ∷ []
