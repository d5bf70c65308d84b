-- The key is copied to the front of zeros and the whole xored, by pad-is.
use Rattle.hmac.proofs.HmacLaws.{pad-is}
use Rattle.hmac.proofs.pad.Goals as goal

pub returns : goal.returns
returns c =
    pad-is c.args.key.now _ _ c.args.byte c.requires c.copy.ensures c.xor_into.ensures
