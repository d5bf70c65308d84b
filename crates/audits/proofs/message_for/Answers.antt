-- The keys of the token under the keys of the file, by message-is.
use Rattle.audits.proofs.AuditLaws.{message-is}
use Rattle.audits.proofs.message_for.Goals as goal

pub returns : goal.returns
returns c =
    let keys = c.file_keys-keys in
    message-is c.args.master.now c.args.c keys.result c.token_key-draw_key.result c.token_key-hash_key.result keys.ensures
    c.token_key-draw_key.ensures c.token_key-hash_key.ensures
