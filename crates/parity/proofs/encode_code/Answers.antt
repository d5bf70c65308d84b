-- The code from its tests, by encode-of.
use mathlib.Core.Path.{refl, sym, ◌∙◌}
use native.Mathlib.Omega.{arith}
use Rattle.parity.proofs.CallLaws.{encode-of, limits}
use Rattle.parity.proofs.encode_code.Goals as goal

pub returns-then-not-small : goal.returns-then-not-small
returns-then-not-small c =
    encode-of c.args.block_bytes c.args.data_blocks c.args.parity_blocks c.args.group.now c.args.parity.now (sym c.within-small.ensures ∙ c.if-not-small.true) refl refl

pub returns-then-not-fits : goal.returns-then-not-fits
returns-then-not-fits c =
    encode-of c.args.block_bytes c.args.data_blocks c.args.parity_blocks c.args.group.now c.args.parity.now (sym c.within-small.ensures ∙ c.if-not-small.false) (sym c.group_fits-fits.ensures ∙ c.if-not-fits.true) refl

pub sizes_fit-sizes-requires : goal.sizes_fit-sizes-requires
sizes_fit-sizes-requires c =
    let l = limits c.args.block_bytes c.args.data_blocks c.args.parity_blocks (sym c.within-small.ensures ∙ c.if-not-small.false) (sym c.group_fits-fits.ensures ∙ c.if-not-fits.false) in
    (l.B_most, omega (arith, l.k_most), omega (arith, l.p_most))

pub returns-then-not-sizes : goal.returns-then-not-sizes
returns-then-not-sizes c =
    encode-of c.args.block_bytes c.args.data_blocks c.args.parity_blocks c.args.group.now c.args.parity.now (sym c.within-small.ensures ∙ c.if-not-small.false) (sym c.group_fits-fits.ensures ∙ c.if-not-fits.false) (sym c.sizes_fit-sizes.ensures ∙ c.if-not-sizes.true)

pub returns : goal.returns
returns c =
    encode-of c.args.block_bytes c.args.data_blocks c.args.parity_blocks c.args.group.now c.args.parity.now (sym c.within-small.ensures ∙ c.if-not-small.false) (sym c.group_fits-fits.ensures ∙ c.if-not-fits.false) (sym c.sizes_fit-sizes.ensures ∙ c.if-not-sizes.false)
