-- After i turns the first i unknowns are unscaled, by zip_more.
use native.Mathlib.Omega.{arith}
use borrow.Author.Rules.{rules}
use Rattle.cauchy.specs.Solve.{unscaled}
use Rattle.gf256.proofs.ZipLaws.{zip-none, zip_more, zip-done}
use Rattle.cauchy.proofs.Step.unscale.Goals as goal

pub loop-i-init : goal.loop-i-init
loop-i-init c = zip-none _ _ _

pub loop-i-preserved : goal.loop-i-preserved
loop-i-preserved c =
    let l = c.loop-i in
    zip_more _ l.i c.unscaled_one.result c.args.xs.now c.args.es.now l.es l.invariant (search rules) c.requires c.unscaled_one.ensures

pub returns : goal.returns
unfolding unscaled
returns c =
    let l = c.loop-i in
    zip-done _ l.i c.args.xs.now c.args.es.now l.es l.invariant (omega arith) c.requires
