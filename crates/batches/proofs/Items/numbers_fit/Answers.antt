-- The numbers of all items, by all-listed.
use Prim.Native.Nat.{ℕ}
use native.Mathlib.Omega.{arith}
use mathlib.Core.Path.{refl, ◌∙◌}
use Rattle.std.proofs.Common.{rules, tests}
use Rattle.std.proofs.lemmas.Iterator.{YieldsList-from_range}
use Rattle.std.proofs.lemmas.Iterator.Search.{all_from_yields_List}
use Rattle.scheme.specs.Batches.{numbers_fit}
use Rattle.batches.specs.Items.{item_in}
use Rattle.batches.proofs.FoldLaws.{all-listed, number_fits, numbers-none, numbers_more}
use Rattle.batches.proofs.Items.numbers_fit.Goals as goal

pub returns : goal.returns
returns c =
    let a = c.args.self in
    all_from_yields_List (λ (e : ℕ). number_fits c.args.n (item_in a.version a.size e a.bytes.now)) _ _ _ c.all.ensures.ran
    (YieldsList-from_range 0 a.count a.count refl (omega arith))
    (λ x b q k. search (rules, tests))
    ∙ all-listed a.version a.size a.count a.bytes.now (number_fits c.args.n) (numbers_fit c.args.n) (numbers-none c.args.n) (numbers_more c.args.n)
