-- The kinds of all items, by all-listed.
use Prim.Native.Nat.{ℕ}
use native.Mathlib.Omega.{arith}
use mathlib.Core.Path.{refl, ◌∙◌}
use Rattle.std.proofs.Common.{rules, tests}
use Rattle.std.proofs.lemmas.Iterator.{YieldsList-from_range}
use Rattle.std.proofs.lemmas.Iterator.Search.{all_from_yields_List}
use Rattle.scheme.specs.Batches.{kinds_fit}
use Rattle.batches.specs.Items.{item_in}
use Rattle.batches.proofs.FoldLaws.{all-listed, kind_fits, kinds-none, kinds-more}
use Rattle.batches.proofs.Items.kinds_fit.Goals as goal

pub returns : goal.returns
returns c =
    let a = c.args.self in
    all_from_yields_List (λ (e : ℕ). kind_fits (item_in a.version a.size e a.bytes.now)) _ _ _ c.all.ensures.ran
    (YieldsList-from_range 0 a.count a.count refl (omega arith))
    (λ x b q k. search (rules, tests))
    ∙ all-listed a.version a.size a.count a.bytes.now (kind_fits) (kinds_fit) (kinds-none) (kinds-more)
