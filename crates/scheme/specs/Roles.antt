-- Paper 02, #111: who may do what. "Centre managers now work the screen." Assumes nothing.
--   surveyor, planner, manager   the roles
--   Permission, roles_with               what a call that takes a card needs; the roles that have it
--   permits                      whether a role may
--   under                        what a call gives under a role: its number or 22, its buffer or the one that was lent
use Rattle.std.specs.Prelude.{ℕ, List, [], ◌∷◌, Bool, false, cond, ◌||◌, eqb}
use Rattle.scheme.specs.Changes.{Change, update, delete, append, load, batch}

-- "Role 1, surveyor, .. role 2, planner, .. role 3, manager"
abbrev pub surveyor : ℕ
surveyor = 1

abbrev pub planner : ℕ
planner = 2

abbrev pub manager : ℕ
manager = 3

-- a change, in one step or asked; a commit; a drop; a draw; a judgement; asking the cause; a pooled judgement
pub data Permission : Type 0 where
  may_update : Permission
  may_delete : Permission
  may_append : Permission
  may_load : Permission
  may_batch : Permission
  may_commit : Permission
  may_drop : Permission
  may_draw : Permission
  may_judge : Permission
  may_cause : Permission
  may_pool : Permission

-- the surveyor "may append and load, or ask these", the planner "everything", the manager "draw, judge and ask the cause";
-- a pooled reply is "judged by roles 2 and 3" (#113)
abbrev pub roles_with : Permission → List ℕ
roles_with may_update = planner ∷ []
roles_with may_delete = planner ∷ []
roles_with may_append = surveyor ∷ planner ∷ []
roles_with may_load = surveyor ∷ planner ∷ []
roles_with may_batch = planner ∷ []
roles_with may_commit = planner ∷ []
roles_with may_drop = planner ∷ []
roles_with may_draw = planner ∷ manager ∷ []
roles_with may_judge = planner ∷ manager ∷ []
roles_with may_cause = planner ∷ manager ∷ []
roles_with may_pool = planner ∷ manager ∷ []

abbrev pub among : ℕ → List ℕ → Bool
among x [] = false
among x (y ∷ ys) = eqb x y || among x ys

unfoldable pub permits : ℕ → Permission → Bool
permits role permission = among role (roles_with permission)

-- what a change does, in one step or asked
abbrev pub change_permission : Change → Permission
change_permission (update m old mark new) = may_update
change_permission (delete m old mark) = may_delete
change_permission (append new) = may_append
change_permission (load blocks) = may_load
change_permission (batch items) = may_batch

-- "It refuses, ahead of every check, an unknown role or one lacking the right (22)"; "Permitted calls answer as without roles": a number x is, under a role,
-- `under role permission x 22`, and a buffer that has x after the call and y before it has `under role permission x y`. "Set-up and calls lent no card carry none"
unfoldable pub under : {A : Type 0} → ℕ → Permission → A → A → A
under role permission x y = cond (permits role permission) x y
