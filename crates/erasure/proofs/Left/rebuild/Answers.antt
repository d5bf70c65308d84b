-- The weights from the unit, then the sums of the kept data and of the sources: solved-block.
use Rattle.std.proofs.Common.{◌≡◌, length, replicate, rules}
use Rattle.erasure.proofs.RebuildLaws.{solved-block}
use Rattle.erasure.proofs.Left.rebuild.Goals as goal

pub returns : goal.returns
returns c =
    let s = c.args.self.now in
    let cleared : c.fill.new.self ≡ replicate (length c.args.cs.now) 0 = search rules in
    solved-block s.blocks.size c.args.i s.us.now s.vs.now s.qs.now s.blocks.bytes.now c.args.cs.now s.solvable c.requires.i_in_bounds c.requires.cs_len s.in_range
    cleared c.solve_for.ensures c.combine.ensures c.add.ensures
