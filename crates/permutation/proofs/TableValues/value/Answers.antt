-- The table has every value, at a place below 8,192 (read_small).
use native.Mathlib.Omega.{arith}
use mathlib.Core.Path.{◌∙◌}
use Rattle.permutation.proofs.TableLaws.{read_small}
use Rattle.permutation.proofs.TableValues.value.Goals as goal

pub bounds-self-q : goal.bounds-self-q
bounds-self-q c = omega (arith, read_small c.args.self.of.h c.args.q c.args.r c.args.self.of.narrow c.requires.0 c.requires.1)

pub returns : goal.returns
returns c = c.from.ensures ∙ c.args.self.whole.values c.args.q c.args.r c.requires.0 c.requires.1
