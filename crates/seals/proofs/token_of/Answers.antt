-- The sealed bytes deciphered are the token, by token-is.
use Rattle.seals.proofs.SealLaws.{token-is}
use Rattle.seals.proofs.token_of.Goals as goal

pub returns : goal.returns
returns c =
    token-is c.args.rec.now c.requires.rec_len c.args.key c.args.counter c.args.i.0 _ _
    c.key_words-k.ensures c.nonce_bytes-nonce.ensures _ _ c.requires.rec_value c.copy.ensures c.cipher.ensures
