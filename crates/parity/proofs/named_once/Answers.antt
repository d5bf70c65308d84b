-- After i turns what is left of the lost decides, by once_more.
use mathlib.Core.Path.{refl, sym, ◌∙◌}
use Rattle.parity.proofs.CallLaws.{once-bad, once-twice, once_more, once-end}
use native.Mathlib.Omega.{arith}
use Rattle.parity.proofs.named_once.Goals as goal

pub loop-i-init : goal.loop-i-init
loop-i-init c = refl

pub returns-then-l-n : goal.returns-then-l-n
returns-then-l-n c =
    let l = c.loop-i in
    once-bad c.args.n l.i c.args.lost.now (omega arith) l.invariant c.if-l-n.true

pub returns-then-is_named : goal.returns-then-is_named
returns-then-is_named c =
    let l = c.loop-i in
    once-twice c.args.n l.i c.args.lost.now (omega arith) l.invariant c.if-l-n.false (sym c.is_named.ensures ∙ c.if-is_named.true)

pub loop-i-preserved : goal.loop-i-preserved
loop-i-preserved c =
    let l = c.loop-i in
    once_more c.args.n l.i c.args.lost.now (omega arith) l.invariant c.if-l-n.false (sym c.is_named.ensures ∙ c.if-is_named.false)

pub returns : goal.returns
returns c =
    let l = c.loop-i in
    once-end c.args.n l.i c.args.lost.now (omega arith) l.invariant
