-- Not permitted, and permitted, as RoleLaws has them, of what the change does.
use mathlib.Core.Path.{sym, ap, ◌∙◌}
use Rattle.counts.proofs.RefusedLaws.{passed-on}
use Rattle.scheme.proofs.laws.RoleLaws.{permitted, not-permitted}
use Rattle.scheme.specs.Roles.{permits}
use Rattle.access.proofs.change.Goals as goal

pub returns-in_err-check : goal.returns-in_err-check
returns-in_err-check c =
    let e = c.in_err-check.field-0.0 in
    let no = sym (ap (permits c.args.role) c.from.ensures) ∙ c.in_err-check.ensures.1 in
    record {
      value = passed-on _ e c.from_residual.ensures ∙ c.in_err-check.ensures.0 ∙ sym (not-permitted _ _ _ _ no);
      card_after = sym (not-permitted _ _ _ _ no);
      table_after = sym (not-permitted _ _ _ _ no);
      totals_after = sym (not-permitted _ _ _ _ no);
    }

pub returns : goal.returns
returns c =
    let may = sym (ap (permits c.args.role) c.from.ensures) ∙ c.in_ok-check.ensures in
    record {
      value = c.make.ensures.value ∙ sym (permitted _ _ _ _ may);
      card_after = c.make.ensures.card_after ∙ sym (permitted _ _ _ _ may);
      table_after = c.make.ensures.table_after ∙ sym (permitted _ _ _ _ may);
      totals_after = c.make.ensures.totals_after ∙ sym (permitted _ _ _ _ may);
    }
