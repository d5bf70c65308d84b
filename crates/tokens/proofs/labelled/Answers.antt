-- The id is copied behind the label, by put-end.
use mathlib.Core.Path.{◌∙◌, ap}
use lib.ListN.{replicate}
use Rattle.octets.proofs.PartLaws.{put-end}
use Rattle.hmac.specs.Hmac.{keyed}
use borrow.Author.Rules.{rules}
use Rattle.tokens.proofs.labelled.Goals as goal

pub returns : goal.returns
returns c =
    c.hmac.ensures ∙ ap (keyed c.args.p) (c.copy.ensures ∙ put-end 1 c.args.id (replicate 9 c.args.label) (search rules))
