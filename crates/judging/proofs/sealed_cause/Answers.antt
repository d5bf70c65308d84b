-- The tag, then the token against the digest, by not-held, not_equal and all-equal.
use mathlib.Core.Path.{sym, ◌∙◌}
use Rattle.judging.proofs.JudgeLaws.{not-held, not_equal, all-equal}
use Rattle.judging.proofs.sealed_cause.Goals as goal

pub returns-in_default : goal.returns-in_default
returns-in_default c =
    not-held c.args.key c.args.counter c.args.token c.args.reply.now (rw c.record_in.ensures at c.in_default.ensures)

pub returns-then-not-is_digest : goal.returns-then-not-is_digest
returns-then-not-is_digest c =
    not_equal c.args.key c.args.counter c.args.token c.args.reply.now c.in-Some.x (rw c.record_in.ensures at c.in-Some.ensures)
    (sym c.is_digest.ensures ∙ c.if-not-is_digest.true)

pub returns : goal.returns
returns c =
    all-equal c.args.key c.args.counter c.args.token c.args.reply.now c.in-Some.x (rw c.record_in.ensures at c.in-Some.ensures)
    (sym c.is_digest.ensures ∙ c.if-not-is_digest.false)
