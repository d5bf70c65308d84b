-- The product that a turn divides fits, by product-most; one factor more is figure-more.
use borrow.Author.Rules.{rules}
use mathlib.Core.Path.{◌≡◌, refl, ap, ◌∙◌}
use native.Mathlib.Omega.{arith}
use Rattle.planning.specs.Sheet as S
use Rattle.planning.proofs.ChanceLaws.{product-most, escape-none, escape-some, figure-more}
use Rattle.planning.proofs.Planned.escape.Goals as goal

pub returns-then-sound-self : goal.returns-then-sound-self
returns-then-sound-self c = escape-none c.args.self.rows c.args.self.positions c.args.self.damaged c.if-sound-self.true

pub loop-j-init : goal.loop-j-init
unfolding S.figure
loop-j-init c = refl

pub overflow_mul-figure : goal.overflow_mul-figure
overflow_mul-figure c =
    let j = c.loop-j in
    omega (arith, product-most c.args.self.rows c.args.self.damaged j.j j.figure c.args.self.few_rows (omega arith) j.invariant)

pub loop-j-preserved : goal.loop-j-preserved
loop-j-preserved c =
    let j = c.loop-j in
    figure-more c.args.self.rows c.args.self.damaged j.j j.figure _ (omega arith) j.invariant (search rules)

pub returns : goal.returns
returns c =
    let all : c.loop-j.j ≡ c.args.self.positions = omega arith in
    c.loop-j.invariant ∙ ap (S.figure c.args.self.rows c.args.self.damaged) all
    ∙ escape-some c.args.self.rows c.args.self.positions c.args.self.damaged c.if-sound-self.false
