-- Not permitted, and permitted, as RoleLaws has them.
use mathlib.Core.Path.{sym, ◌∙◌}
use Rattle.counts.proofs.RefusedLaws.{passed-on}
use Rattle.scheme.proofs.laws.RoleLaws.{permitted, not-permitted}
use Rattle.access.proofs.drop.Goals as goal

pub returns-in_err-check : goal.returns-in_err-check
returns-in_err-check c =
    let e = c.in_err-check.field-0.0 in
    let no = c.in_err-check.ensures.1 in
    record {
      value = passed-on _ e c.from_residual.ensures ∙ c.in_err-check.ensures.0 ∙ sym (not-permitted _ _ _ _ no);
      card_after = sym (not-permitted _ _ _ _ no);
    }

pub returns : goal.returns
returns c =
    let may = c.in_ok-check.ensures in
    record {
      value = c.drop.ensures.value ∙ sym (permitted _ _ _ _ may);
      card_after = c.drop.ensures.card_after ∙ sym (permitted _ _ _ _ may);
    }
