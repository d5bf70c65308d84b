-- The record is read where it lies, by token-held and token-out.
use Rattle.seals.proofs.SealLaws.{token-held, token-out}
use borrow.Author.Rules.{rules}
use Rattle.seals.proofs.token_in.Goals as goal

pub token_of-requires : goal.token_of-requires
token_of-requires c =
    record {
      rec_len = search rules;
      rec_value = token-held c.args.key c.args.table.now c.args.version c.args.counter c.args.i.0 _ (search rules) (search rules) c.start_of-a.ensures (search rules);
    }

pub returns : goal.returns
returns c =
    token-out c.args.key c.args.table.now c.args.version c.args.counter c.args.i.0 _ (search rules) (search rules)
    c.start_of-a.ensures (search rules) _ c.token_of.ensures
