-- After i turns the bytes of the first i words are in place, by again.
use Rattle.std.proofs.Common.{refl, rules}
use Rattle.sha256.proofs.DigestLaws.{none, again, done}
use Rattle.sha256.proofs.digest.Goals as goal

pub loop-i-init : goal.loop-i-init
loop-i-init c = (refl, none c.args.h)

pub loop-i-preserved : goal.loop-i-preserved
loop-i-preserved c =
    let l = c.loop-i in
    (search rules, again c.args.h l.out _ l.i (search rules) (search rules) l.invariant.0 l.invariant.1 (cc))

pub returns : goal.returns
returns c =
    let l = c.loop-i in
    done c.args.h l.out l.i (search rules) (search rules) (search rules) l.invariant.0 l.invariant.1
