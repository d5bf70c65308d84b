-- The first i numbers stand over the first 8 i bytes.
use Rattle.std.proofs.Common.{take, ◌*◌}
use Rattle.records.proofs.FieldLaws.{Front}
use Rattle.planning.specs.Sheet.{fields}
use Rattle.planning.proofs.put_five.Given as goal

abbrev pub invariant-loop-i : goal.invariant-loop-i
invariant-loop-i l = Front 40 (8 * l.i) (fields (take l.i l.fn.five)) l.initial.out l.out
