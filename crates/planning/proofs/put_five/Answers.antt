-- A number more is a field more, by `stored`; after five the buffer is filled.
use Rattle.std.proofs.Common.{arith, refl, sym, []}
use Rattle.octets.proofs.PartLaws.{put-none}
use Rattle.records.proofs.FieldLaws.{opened}
use Rattle.planning.proofs.CallLaws.{stored, all-stored}
use Rattle.planning.proofs.put_five.Goals as goal

pub loop-i-init : goal.loop-i-init
loop-i-init c = opened 40 0 [] c.args.out.now c.requires refl (sym (put-none 0 c.args.out.now))

pub loop-i-preserved : goal.loop-i-preserved
loop-i-preserved c = stored c.args.five c.loop-i.i (omega arith) (omega arith) c.loop-i.invariant c.put_be.ensures

pub returns : goal.returns
returns c = all-stored c.args.five c.loop-i.i (omega arith) (omega arith) c.loop-i.invariant
