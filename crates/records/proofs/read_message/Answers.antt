-- Each field is read from its bytes, by message-is.
use Rattle.records.specs.Fields.{message_of}
use Rattle.records.proofs.FieldLaws.{message-is}
use Rattle.records.proofs.read_message.Goals as goal

pub returns : goal.returns
unfolding message_of
returns c =
    message-is c.args.s.now
    c.version_in.ensures
    c.bytes.ensures c.be.ensures.0
    c.be-2.ensures.0 c.be-3.ensures.0
    c.be-4.ensures.0 c.be-5.ensures.0 c.bytes-2.ensures c.bytes-3.ensures
