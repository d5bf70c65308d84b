-- Sixteen words in turn, by next16-is.
use Rattle.std.proofs.Common.{rules}
use Rattle.sha256_lanes.specs.Rounds.{next_word}
use Rattle.sha256_lanes.proofs.WordLaws.{next16-is}
use Rattle.sha256_lanes.proofs.next16.Goals as goal

pub returns : goal.returns
unfolding next_word
returns c =
    next16-is _ (search rules) _ _ _ _ _ _ _ _ _ _ _ _ _ _ _ _
    c.next-n0.ensures
    c.next-n1.ensures
    c.next-n2.ensures
    c.next-n3.ensures
    c.next-n4.ensures
    c.next-n5.ensures
    c.next-n6.ensures
    c.next-n7.ensures
    c.next-n8.ensures
    c.next-n9.ensures
    c.next-n10.ensures
    c.next-n11.ensures
    c.next-n12.ensures
    c.next-n13.ensures
    c.next-n14.ensures
    c.next-n15.ensures
