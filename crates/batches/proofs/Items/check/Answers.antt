-- The refusal of the first test that fails, by code-kinds to code-none.
use mathlib.Core.Path.{sym, ◌∙◌}
use borrow.Author.Rules.{rules}
use Rattle.batches.proofs.FoldLaws.{code-kinds, code-rise, code-marks, code-numbers, code-none}
use Rattle.batches.proofs.Items.check.Goals as goal

pub returns-then-not-kinds : goal.returns-then-not-kinds
returns-then-not-kinds c = code-kinds _ _ _ _ (sym c.kinds_fit-kinds.ensures ∙ c.if-not-kinds.true)

pub returns-then-not-rise : goal.returns-then-not-rise
returns-then-not-rise c =
    code-rise _ _ _ _ (sym c.kinds_fit-kinds.ensures ∙ c.if-not-kinds.false) (sym c.rising-rise.ensures ∙ c.if-not-rise.true)

pub returns-then-not-low : goal.returns-then-not-low
returns-then-not-low c =
    code-marks _ _ _ _ (sym c.kinds_fit-kinds.ensures ∙ c.if-not-kinds.false) (sym c.rising-rise.ensures ∙ c.if-not-rise.false)
    (sym c.marks_fit-low.ensures ∙ c.if-not-low.true)

pub returns-then-not-numbers : goal.returns-then-not-numbers
returns-then-not-numbers c =
    code-numbers _ _ _ _ (sym c.kinds_fit-kinds.ensures ∙ c.if-not-kinds.false) (sym c.rising-rise.ensures ∙ c.if-not-rise.false)
    (sym c.marks_fit-low.ensures ∙ c.if-not-low.false)
    (sym c.numbers_fit-numbers.ensures ∙ c.if-not-numbers.true)

pub returns : goal.returns
returns c =
    code-none _ _ _ _ (sym c.kinds_fit-kinds.ensures ∙ c.if-not-kinds.false) (sym c.rising-rise.ensures ∙ c.if-not-rise.false)
    (search rules)
    (sym c.numbers_fit-numbers.ensures ∙ c.if-not-numbers.false)
