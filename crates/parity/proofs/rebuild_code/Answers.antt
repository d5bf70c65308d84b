-- The code from its tests, by rebuild-of.
use mathlib.Core.Path.{refl, sym, ◌∙◌}
use native.Mathlib.Omega.{arith}
use borrow.Author.Tests.{le-leb, lt-leb}
use lib.ListN.{length}
use Rattle.parity.proofs.CallLaws.{rebuild-of, limits}
use Rattle.parity.proofs.rebuild_code.Goals as goal

pub returns-then-not-small : goal.returns-then-not-small
returns-then-not-small c =
    rebuild-of c.args.block_bytes c.args.data_blocks c.args.parity_blocks c.args.blocks.now c.args.lost.now c.args.group.now (sym c.within-small.ensures ∙ c.if-not-small.true) refl refl refl refl

pub returns-then-not-fits : goal.returns-then-not-fits
returns-then-not-fits c =
    rebuild-of c.args.block_bytes c.args.data_blocks c.args.parity_blocks c.args.blocks.now c.args.lost.now c.args.group.now (sym c.within-small.ensures ∙ c.if-not-small.false) (sym c.group_fits-fits.ensures ∙ c.if-not-fits.true) refl refl refl

pub overflow_add-all : goal.overflow_add-all
overflow_add-all c =
    let l = limits c.args.block_bytes c.args.data_blocks c.args.parity_blocks (sym c.within-small.ensures ∙ c.if-not-small.false) (sym c.group_fits-fits.ensures ∙ c.if-not-fits.false) in
    omega (arith, l.k_most, l.p_most)

pub overflow_cast-all : goal.overflow_cast-all
overflow_cast-all c =
    let l = limits c.args.block_bytes c.args.data_blocks c.args.parity_blocks (sym c.within-small.ensures ∙ c.if-not-small.false) (sym c.group_fits-fits.ensures ∙ c.if-not-fits.false) in
    omega (arith, l.k_most, l.p_most)

pub returns-then-not-once : goal.returns-then-not-once
returns-then-not-once c =
    rebuild-of c.args.block_bytes c.args.data_blocks c.args.parity_blocks c.args.blocks.now c.args.lost.now c.args.group.now (sym c.within-small.ensures ∙ c.if-not-small.false) (sym c.group_fits-fits.ensures ∙ c.if-not-fits.false) (sym c.named_once-once.ensures ∙ c.if-not-once.true) refl refl

pub returns-then-lost-parity_blocks : goal.returns-then-lost-parity_blocks
returns-then-lost-parity_blocks c =
    rebuild-of c.args.block_bytes c.args.data_blocks c.args.parity_blocks c.args.blocks.now c.args.lost.now c.args.group.now (sym c.within-small.ensures ∙ c.if-not-small.false) (sym c.group_fits-fits.ensures ∙ c.if-not-fits.false) (sym c.named_once-once.ensures ∙ c.if-not-once.false) (lt-leb (length c.args.lost.now) c.args.parity_blocks c.if-lost-parity_blocks.true) refl

pub sizes_fit-sizes-requires : goal.sizes_fit-sizes-requires
sizes_fit-sizes-requires c =
    let l = limits c.args.block_bytes c.args.data_blocks c.args.parity_blocks (sym c.within-small.ensures ∙ c.if-not-small.false) (sym c.group_fits-fits.ensures ∙ c.if-not-fits.false) in
    (l.B_most, omega (arith, l.k_most, l.p_most), omega (arith, l.k_most))

pub returns-then-not-sizes : goal.returns-then-not-sizes
returns-then-not-sizes c =
    rebuild-of c.args.block_bytes c.args.data_blocks c.args.parity_blocks c.args.blocks.now c.args.lost.now c.args.group.now (sym c.within-small.ensures ∙ c.if-not-small.false) (sym c.group_fits-fits.ensures ∙ c.if-not-fits.false) (sym c.named_once-once.ensures ∙ c.if-not-once.false) (le-leb (length c.args.lost.now) c.args.parity_blocks c.if-lost-parity_blocks.false) (sym c.sizes_fit-sizes.ensures ∙ c.if-not-sizes.true)

pub returns : goal.returns
returns c =
    rebuild-of c.args.block_bytes c.args.data_blocks c.args.parity_blocks c.args.blocks.now c.args.lost.now c.args.group.now (sym c.within-small.ensures ∙ c.if-not-small.false) (sym c.group_fits-fits.ensures ∙ c.if-not-fits.false) (sym c.named_once-once.ensures ∙ c.if-not-once.false) (le-leb (length c.args.lost.now) c.args.parity_blocks (omega arith)) (sym c.sizes_fit-sizes.ensures ∙ c.if-not-sizes.false)
