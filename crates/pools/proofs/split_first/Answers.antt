-- The first card and those behind it, by first-card.
use Rattle.std.proofs.Common.{arith, refl, ap, ◌∙◌, ◌+◌}
use Rattle.octets.specs.Octets.{of_be, part}
use Rattle.scheme.specs.Pools.{cut_fault}
use Rattle.pools.proofs.CutLaws.{first-card}
use Rattle.pools.proofs.split_first.Goals as goal

pub be-requires : goal.be-requires
be-requires c =
    let f = first-card c.args.bytes.now (2 + of_be (part 0 2 c.args.bytes.now)) refl c.requires.1 c.requires.0 in
    omega (arith, f.least, f.room)

pub split_at-requires : goal.split_at-requires
split_at-requires c = (first-card c.args.bytes.now _ (ap (λ n. 2 + n) c.be.ensures.0) c.requires.1 c.requires.0).room

pub returns-clause-parts : goal.returns-clause-parts
returns-clause-parts c =
    let f = first-card c.args.bytes.now _ (ap (λ n. 2 + n) c.be.ensures.0) c.requires.1 c.requires.0 in
    rw (c.split_at.ensures.front, c.split_at.ensures.back) f.split

pub returns-clause-whole : goal.returns-clause-whole
returns-clause-whole c =
    let f = first-card c.args.bytes.now _ (ap (λ n. 2 + n) c.be.ensures.0) c.requires.1 c.requires.0 in
    ap cut_fault c.split_at.ensures.back ∙ f.later

pub returns-clause-long : goal.returns-clause-long
returns-clause-long c =
    let f = first-card c.args.bytes.now _ (ap (λ n. 2 + n) c.be.ensures.0) c.requires.1 c.requires.0 in
    (omega (arith, f.least), omega arith)
