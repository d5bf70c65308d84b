-- After i turns what is left of the list decides, by named_past.
use mathlib.Core.Path.{sym, ◌∙◌}
use native.Mathlib.Omega.{arith}
use borrow.Author.Rules.{rules}
use Rattle.erasure.proofs.ChoiceLaws.{named_here, named_past, named_end}
use Rattle.erasure.proofs.is_named.Goals as goal

pub returns-then-lost-i : goal.returns-then-lost-i
returns-then-lost-i c =
    let l = c.loop-i in
    sym (named_here l.i c.args.n c.args.lost.now (search rules) (search rules)) ∙ l.invariant

pub loop-i-preserved : goal.loop-i-preserved
loop-i-preserved c =
    let l = c.loop-i in
    named_past l.i c.args.n c.args.lost.now (search rules) (search rules) ∙ l.invariant

pub returns : goal.returns
returns c =
    let l = c.loop-i in
    sym (named_end l.i c.args.n c.args.lost.now (omega arith)) ∙ l.invariant
