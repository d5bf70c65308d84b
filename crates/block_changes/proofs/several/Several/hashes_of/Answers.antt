use native.Mathlib.Omega.{arith}
use Rattle.block_changes.proofs.ContentLaws.{hashes-listed, hashes-added}
use Rattle.block_changes.proofs.several.Several.hashes_of.Goals as goal

pub returns-then-self : goal.returns-then-self
returns-then-self c = (hashes-listed c.args.self.now.changes c.if-self.true c.args.self.now.bytes.now, omega arith)

pub returns : goal.returns
returns c =
    let b = c.args.self.now in
    (hashes-added b.changes c.if-self.false (b.known.added c.if-self.false).fresh b.bytes.now, omega arith)
