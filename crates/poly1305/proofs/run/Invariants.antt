-- `poly1305::run` meets its contract. The loop's invariant: the accumulator is that of the first i blocks.
-- Assumes nothing.
use Rattle.poly1305.specs.Limbs.{Runs}
use Rattle.poly1305.proofs.run.Given as goal

abbrev pub invariant-loop-i : goal.invariant-loop-i
invariant-loop-i l = Runs l.initial.h l.r l.s l.top l.i l.h
