-- After i turns the first i sums are reduced, by zip_more.
use native.Mathlib.Omega.{arith}
use borrow.Author.Rules.{rules}
use Rattle.cauchy.specs.Solve.{reduced}
use Rattle.gf256.proofs.ZipLaws.{zip-none, zip_more, zip-done}
use Rattle.cauchy.proofs.Step.reduce.Goals as goal

pub loop-i-init : goal.loop-i-init
loop-i-init c = zip-none _ _ _

pub loop-i-preserved : goal.loop-i-preserved
loop-i-preserved c =
    let l = c.loop-i in
    zip_more _ l.i c.reduced_one.result c.args.us.now c.args.ts.now l.ts l.invariant (search rules) c.requires c.reduced_one.ensures

pub returns : goal.returns
unfolding reduced
returns c =
    let l = c.loop-i in
    zip-done _ l.i c.args.us.now c.args.ts.now l.ts l.invariant (omega arith) c.requires
