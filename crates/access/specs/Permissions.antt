-- What the permissions of the code stand for. Assumes nothing.
--   permission_of p   the permission of the scheme, and so the roles that may
use Rattle.scheme.specs.Roles as S
use Rattle.access.specs.declared.Permission.{Permission}
use Rattle.access.specs.declared.Permission.TheVariants.{Update, Delete, Append, Load, Batch, Commit, Drop, Draw, Judge, Cause, Pool}

abbrev pub permission_of : Permission → S.Permission
permission_of Update = S.may_update
permission_of Delete = S.may_delete
permission_of Append = S.may_append
permission_of Load = S.may_load
permission_of Batch = S.may_batch
permission_of Commit = S.may_commit
permission_of Drop = S.may_drop
permission_of Draw = S.may_draw
permission_of Judge = S.may_judge
permission_of Cause = S.may_cause
permission_of Pool = S.may_pool
