-- Clear bytes, token and seal are put in place one after the other, by seal-out.
use Rattle.seals.proofs.SealLaws.{seal-out}
use borrow.Author.Rules.{rules}
use Rattle.seals.proofs.seal_token.Goals as goal

pub returns : goal.returns
returns c =
    seal-out c.args.key c.args.table.now c.args.version c.args.counter c.args.i.0 _ c.requires.1 c.requires.3 c.start_of-a.ensures _ _ _ _ _ _ _
    (search rules) c.key_words-k.ensures
    c.nonce_bytes-nonce.ensures
    c.clear_bytes-clear.ensures c.copy.ensures
    c.copy-2.ensures c.seal_at.ensures
