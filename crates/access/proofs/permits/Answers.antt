-- What each permission's line of the table says.
use mathlib.Core.Path.{ap, sym, ◌∙◌}
use Rattle.scheme.specs.Roles as S
use Rattle.access.specs.Permissions.{permission_of}
use Rattle.access.specs.declared.Permission.{Permission}
use Rattle.access.proofs.permits.Goals as goal

pub returns-in-Update : goal.returns-in-Update
unfolding S.permits
returns-in-Update c = c.is.ensures ∙ ap (λ (w : Permission). S.permits c.args.role (permission_of w)) (sym c.in-Update.is)

pub returns-in-Delete : goal.returns-in-Delete
unfolding S.permits
returns-in-Delete c = c.is-in-Delete.ensures ∙ ap (λ (w : Permission). S.permits c.args.role (permission_of w)) (sym c.in-Delete.is)

pub returns-in-Append : goal.returns-in-Append
unfolding S.permits
returns-in-Append c = c.is_either.ensures ∙ ap (λ (w : Permission). S.permits c.args.role (permission_of w)) (sym c.in-Append.is)

pub returns-in-Load : goal.returns-in-Load
unfolding S.permits
returns-in-Load c = c.is_either-in-Load.ensures ∙ ap (λ (w : Permission). S.permits c.args.role (permission_of w)) (sym c.in-Load.is)

pub returns-in-Batch : goal.returns-in-Batch
unfolding S.permits
returns-in-Batch c = c.is-in-Batch.ensures ∙ ap (λ (w : Permission). S.permits c.args.role (permission_of w)) (sym c.in-Batch.is)

pub returns-in-Commit : goal.returns-in-Commit
unfolding S.permits
returns-in-Commit c = c.is-in-Commit.ensures ∙ ap (λ (w : Permission). S.permits c.args.role (permission_of w)) (sym c.in-Commit.is)

pub returns-in-Drop : goal.returns-in-Drop
unfolding S.permits
returns-in-Drop c = c.is-in-Drop.ensures ∙ ap (λ (w : Permission). S.permits c.args.role (permission_of w)) (sym c.in-Drop.is)

pub returns-in-Draw : goal.returns-in-Draw
unfolding S.permits
returns-in-Draw c = c.is_either-in-Draw.ensures ∙ ap (λ (w : Permission). S.permits c.args.role (permission_of w)) (sym c.in-Draw.is)

pub returns-in-Judge : goal.returns-in-Judge
unfolding S.permits
returns-in-Judge c = c.is_either-in-Judge.ensures ∙ ap (λ (w : Permission). S.permits c.args.role (permission_of w)) (sym c.in-Judge.is)

pub returns-in-Cause : goal.returns-in-Cause
unfolding S.permits
returns-in-Cause c = c.is_either-in-Cause.ensures ∙ ap (λ (w : Permission). S.permits c.args.role (permission_of w)) (sym c.in-Cause.is)

pub returns-in-Pool : goal.returns-in-Pool
unfolding S.permits
returns-in-Pool c = c.is_either-in-Pool.ensures ∙ ap (λ (w : Permission). S.permits c.args.role (permission_of w)) (sym c.in-Pool.is)
