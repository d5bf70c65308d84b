-- After i turns the first i weights are in place, by zip_more.
use mathlib.Core.Path.{◌∙◌}
use Prim.Native.Nat.{ℕ}
use native.Mathlib.Omega.{arith}
use borrow.Author.Rules.{rules}
use Rattle.cauchy.specs.Solve.{row}
use Rattle.gf256.proofs.ZipLaws.{zip-none, zip_more, zip-done, zipped_map}
use Rattle.cauchy.proofs.weights_of.Goals as goal

pub loop-i-init : goal.loop-i-init
loop-i-init c = zip-none _ _ _

pub loop-i-preserved : goal.loop-i-preserved
loop-i-preserved c =
    let l = c.loop-i in
    zip_more _ l.i c.row_of.result c.args.qs.now c.args.out.now l.out l.invariant (search rules) c.requires.out_len c.row_of.ensures

pub returns : goal.returns
returns c =
    let l = c.loop-i in
    let f : ℕ → ℕ = λ q. row q c.args.us.now c.args.cs.now in
    zip-done _ l.i c.args.qs.now c.args.out.now l.out l.invariant (omega arith) c.requires.out_len
    ∙ zipped_map f c.args.qs.now c.args.out.now c.requires.out_len
