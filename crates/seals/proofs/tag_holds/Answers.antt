-- The tag over the sealed bytes, by tag_is.
use Rattle.seals.proofs.SealLaws.{tag_is}
use Rattle.seals.proofs.tag_holds.Goals as goal

pub returns : goal.returns
returns c =
    tag_is c.args.rec.now c.requires c.args.key c.args.counter c.args.i.0 _ _
    c.key_words-k.ensures c.nonce_bytes-nonce.ensures _ c.opens_at.ensures
