-- `chacha20::doubles` meets its contract: after i turns the state is `doubles s i`.
-- Assumes nothing.
use Rattle.std.proofs.Common.{◌≡◌}
use Rattle.chacha20.specs.ChaCha20.{doubles}
use Rattle.chacha20.proofs.doubles.Given as goal

abbrev pub invariant-loop-i : goal.invariant-loop-i
invariant-loop-i l = l.v ≡ doubles l.initial.v l._i
