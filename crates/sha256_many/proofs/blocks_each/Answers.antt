-- After k turns every lane is k blocks on, by chained-turn.
use Rattle.std.proofs.Common.{arith}
use Rattle.sha256_many.proofs.ManyLaws.{chained-none, chained-turn, chained-done}
use Rattle.sha256_many.proofs.blocks_each.Goals as goal

pub loop-k-init : goal.loop-k-init
loop-k-init c = (c.requires.3, c.requires.4, chained-none _ _ _ _ _ _)

pub overflow_mul-k : goal.overflow_mul-k
overflow_mul-k c = omega (arith, c.requires.2, c.loop-k-test.true)

pub overflow_add-a : goal.overflow_add-a
overflow_add-a c = omega (arith, c.requires.2, c.loop-k-test.true)

pub compress-requires : goal.compress-requires
compress-requires c =
    let l = c.loop-k in
    let inside = c.requires.1.fits in
    (c.requires.0, record { fits = λ i h. omega (arith, inside i h, c.loop-k-test.true) }, l.invariant.0, l.invariant.1)

pub loop-k-preserved : goal.loop-k-preserved
loop-k-preserved c =
    let l = c.loop-k in (
      c.compress.ensures.h_len.0,
      c.compress.ensures.h_len.1,
      chained-turn _ _ _ _ _ l.k _ _ _ c.loop-k-test.true c.compress.ensures.pressed l.invariant.2,
    )

pub returns : goal.returns
returns c =
    let l = c.loop-k in record {
      chained = chained-done _ _ _ _ _ l.k _ _ (omega arith) (omega arith) l.invariant.2;
      v_len = (l.invariant.0, l.invariant.1);
    }
