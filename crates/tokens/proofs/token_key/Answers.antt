-- Four bytes of the number over the whole array, by put_whole.
use mathlib.Core.Path.{◌∙◌, ap}
use lib.ListN.{replicate}
use Rattle.octets.specs.Octets.{be}
use Rattle.octets.proofs.NumberLaws.{length-be}
use Rattle.octets.proofs.PartLaws.{put_whole}
use Rattle.hmac.specs.Hmac.{keyed}
use Rattle.tokens.specs.Keyed.{token_key}
use Rattle.tokens.proofs.token_key.Goals as goal

pub returns : goal.returns
unfolding token_key
returns c =
    c.hmac.ensures ∙ ap (keyed c.args.p) (c.put_be.ensures ∙ put_whole (be 4 c.args.i.0) (replicate 4 0) (length-be 4 c.args.i.0))
