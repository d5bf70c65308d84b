-- What is summed and what is left of the row are the row, by row_more.
use mathlib.Core.Path.{ap, ◌∙◌}
use native.Mathlib.Omega.{arith}
use Prim.Native.Nat.{ℕ}
use lib.ListN.{length, drop}
use Rattle.std.proofs.lemmas.Slice.Zip.{zip_turn, zip_end}
use Rattle.std.proofs.lemmas.List.{length_push}
use Rattle.gf256.specs.Field.{plus, times}
use Rattle.cauchy.specs.Solve.{weight, row}
use Rattle.cauchy.proofs.RowLaws.{row_more, row-end}
use Rattle.gf256.proofs.SumLaws.{plus-zero-l}
use Rattle.cauchy.proofs.row_of.Goals as goal

pub loop-v-init : goal.loop-v-init
loop-v-init c = plus-zero-l _

pub loop-v-preserved : goal.loop-v-preserved
unfolding plus
loop-v-preserved c =
    let l = c.loop-v in
    let turn = zip_turn c.args.vs.now c.args.ds.now l.yielded c.into_iter-v-iterator.result l.v-iterator c.next.new.self _ (cc) (cc) l.yielded_by _ c.in-Some.is c.next.ensures.steps in
    let k = length_push l.yielded (c.in-Some.v, c.in-Some.d) in
    ap (λ (n : ℕ). plus (plus l.sum c.product-sum.result) (row c.args.u (drop n c.args.vs.now) (drop n c.args.ds.now))) k
    ∙ row_more c.args.u (length l.yielded) l.sum c.weight_of.result c.product-sum.result c.args.vs.now c.args.ds.now turn.0 c.requires
    (c.weight_of.ensures ∙ ap (weight c.args.u) (turn.2 0)) (c.product-sum.ensures ∙ ap (λ (n : ℕ). times n c.weight_of.result) (turn.3 0))
    ∙ l.invariant

pub returns : goal.returns
returns c =
    let l = c.loop-v in
    let n = zip_end c.args.vs.now c.args.ds.now l.yielded c.into_iter-v-iterator.result l.v-iterator c.next.new.self _ (cc) (cc) l.yielded_by c.in-None.is c.next.ensures.steps in
    row-end c.args.u (length l.yielded) l.sum c.args.vs.now c.args.ds.now (omega (arith, c.requires)) l.invariant
