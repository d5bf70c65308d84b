-- After k turns the words of the first k blocks are in their lanes, by loaded-turn.
use Rattle.std.proofs.Common.{◌≡◌, ℕ, ◌+◌, ◌-◌, get_or, take, drop, ap, arith}
use Rattle.sha256_lanes.proofs.LoopLaws.{loaded-none, loaded-turn, loaded-done}
use Rattle.sha256_lanes.proofs.load_each.Goals as goal

pub loop-k-init : goal.loop-k-init
loop-k-init c = loaded-none _ _ _ _

pub loop-k-preserved : goal.loop-k-preserved
loop-k-preserved c =
    let l = c.loop-k in
    let b = get_or c.args.at.now l.k 0 + c.args.a in
    let whole : b + 64 - b ≡ 64 = omega arith in
    loaded-turn _ _ _ l.k _ _ _ _ l.invariant (ap (λ (i : ℕ). take i (drop b c.args.p.now)) whole) c.load.ensures

pub returns : goal.returns
returns c = loaded-done _ _ _ c.loop-k.k _ _ _ (omega arith) (omega arith) c.loop-k.invariant
