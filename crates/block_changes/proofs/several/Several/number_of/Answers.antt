-- The number of an item is read, that of an added block reckoned.
use native.Mathlib.Omega.{arith}
use mathlib.Core.Path.{◌∙◌}
use Rattle.block_changes.proofs.ContentLaws.{number-listed, number-added}
use Rattle.block_changes.proofs.several.Several.number_of.Goals as goal

pub invariant_of-items : goal.invariant_of-items
invariant_of-items c =
    let l = c.args.self.now.known.listed c.if-self.true in
    record { small = c.args.self.now.known.small; few = l.few; whole = l.whole }

pub returns-then-self : goal.returns-then-self
returns-then-self c =
    let a = c.args in
    let b = a.self.now in
    let listed = c.if-self.true in
    let l = c.args.self.now.known.listed listed in
    (c.number.ensures ∙ number-listed b.changes b.bytes.now a.e listed, omega (arith, c.number.ensures, l.from_one a.e c.requires), omega (arith, c.number.ensures, l.most a.e c.requires))

pub overflow_add-result : goal.overflow_add-result
overflow_add-result c =
    let l = c.args.self.now.known.added c.if-self.false in
    omega (arith, l.most, c.requires)

pub returns : goal.returns
returns c =
    let a = c.args in
    let b = a.self.now in
    let l = c.args.self.now.known.added c.if-self.false in
    (number-added b.changes b.bytes.now a.e c.if-self.false, omega (arith, l.from_one), omega (arith, l.most, c.requires))
