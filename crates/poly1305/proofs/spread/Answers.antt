-- `poly1305::spread` meets its contract: four words one after another, by `spread-is` of `Tags`.
-- Assumes nothing.
use Rattle.poly1305.proofs.Tags.{spread-is}
use Rattle.poly1305.proofs.spread.Goals as goal

pub returns : goal.returns
returns c =
    let le43 = c.put_le-3 in
    let le42 = c.put_le-2 in
    let le4 = c.put_le in
    spread-is c.args.y0 c.args.y1 c.args.y2 c.args.y3 le4.new.s le42.new.s le43.new.s c.put_le-4.new.s
    c.requires.0 c.requires.1.0 c.requires.1.1.0 c.requires.1.1.1 le4.ensures le42.ensures le43.ensures c.put_le-4.ensures
