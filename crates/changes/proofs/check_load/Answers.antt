-- The ways out of a load's two checks, by load-none to load_fits.
use native.Mathlib.Omega.{arith}
use Rattle.changes.proofs.LoadLaws.{load-none, load-broken, load_past, load_fits}
use Rattle.changes.proofs.check_load.Goals as goal

pub returns-then-long-eq0 : goal.returns-then-long-eq0
returns-then-long-eq0 c = load-none c.args.c c.args.long c.if-long-eq0.true

pub returns-then-long-c-ne0 : goal.returns-then-long-c-ne0
returns-then-long-c-ne0 c = load-broken c.args.c c.args.long c.if-long-eq0.false c.if-long-c-ne0.true

pub returns-then-c-long : goal.returns-then-c-long
returns-then-c-long c =
    load_past c.args.c c.args.long c.if-long-eq0.false c.if-long-c-ne0.false c.requires.1 c.if-c-long.true

pub returns : goal.returns
returns c =
    load_fits c.args.c c.args.long c.if-long-eq0.false c.if-long-c-ne0.false c.requires.1 (omega (arith, c.if-c-long.false))
