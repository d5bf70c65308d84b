-- A block's turn takes it from what is left, by chain-block; what is left at the end holds none, by chain-over.
use Rattle.std.proofs.Common.{◌∙◌, arith, sym}
use Rattle.sha256.proofs.StreamLaws.{chain-block, chain-over}
use Rattle.sha256.proofs.blocks.Goals as goal

pub loop-block-preserved : goal.loop-block-preserved
loop-block-preserved c =
    let inv = c.loop-block.invariant in
    let step = c.in-Some.ensures.steps in
    (step.0 ∙ inv.0, chain-block _ _ _ _ _ step.1.0 (step.1.1 ∙ inv.0) c.compress.ensures ∙ inv.1)

pub returns : goal.returns
returns c =
    let inv = c.loop-block.invariant in
    let step = c.in-None.ensures.steps in
    sym (chain-over _ _ (omega (arith, step.1.0, inv.0))) ∙ inv.1
