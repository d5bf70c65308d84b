-- #111: "A caller without the right gets an answer that depends on role and call only. Permitted calls answer as without roles". Of every call that is lent
-- a card. Assumes nothing.
--   Carded                                     a call that is lent a card, with its other arguments
--   number, written, lent                      without roles: the number it gives, every buffer that it may write after it, and the same buffers before it
--   Answer, answered                           what it gives under a role
--   permitted-as-before                        a permitted call gives what it gave without roles
--   turned-away, role-and-call-only            one that is not permitted gives 22 and leaves every buffer: two such calls of one role differ in nothing that they give
--   cause-none-role                            under any role cause gives 0 exactly when judge would
--   unknown-role                               an unknown role may do nothing
--   permissions-table                               who may do what
use Prim.Native.Nat.{ℕ}
use mathlib.Core.Path.{◌≡◌, refl, sym, ap, ◌∙◌}
use mathlib.Core.Logic.{◌≢◌, ◌↔◌}
use mathlib.Core.List.{List, [], ◌∷◌}
use mathlib.Core.Bool.{Bool, true, false, cond}
use borrow.Author.Tests.{ne_eqb}
use Rattle.scheme.specs.Primitives.{Primitives}
use Rattle.scheme.specs.Changes.{change_table, change_totals}
use Rattle.scheme.specs.Calls.{draw_message, judge_code, cause_code}
use Rattle.scheme.specs.Asks.{ask_second, ask_totals}
use Rattle.scheme.specs.Pools.{pool_cards, pooled}
use Rattle.scheme.specs.Roles.{Permission, may_update, may_delete, may_append, may_load, may_batch, may_commit, may_drop, may_draw, may_judge, may_cause, may_pool, permits, under}
use Rattle.scheme.specs.Runs.{Call, change, ask, commit, drop_ask, draw, judge, pool, call_permission, call_code, call_card}
use Rattle.scheme.proofs.theorems.RejectedTheorem.{cause-none}

-- a call of a list, or cause with its reply
pub data Carded : Type 0 where
  listed : Call → Carded
  cause : List ℕ → Carded

abbrev pub permission : Carded → Permission
permission (listed x) = call_permission x
permission (cause reply) = may_cause

-- a number, and buffers one after the other
pub record Answer : Type 0 where
  pub number : ℕ
  pub buffers : List (List ℕ)

-- each buffer under a role: as it is after the call, or as it was lent
abbrev pub each_under : ℕ → Permission → List (List ℕ) → List (List ℕ) → List (List ℕ)
each_under role d [] ys = []
each_under role d (x ∷ xs) [] = []
each_under role d (x ∷ xs) (y ∷ ys) = under role d x y ∷ each_under role d xs ys

-- the buffers that the call may write, as it is lent them, the card first; of a pooled judgement all cards
abbrev pub lent : Carded → List ℕ → List ℕ → List (List ℕ)
lent (listed (change e totals)) card table = card ∷ table ∷ totals ∷ []
lent (listed (ask e second totals)) card table = card ∷ second ∷ totals ∷ []
lent (listed commit) card table = card ∷ []
lent (listed drop_ask) card table = card ∷ []
lent (listed (draw message plan now)) card table = card ∷ message ∷ []
lent (listed (judge reply)) card table = card ∷ []
lent (listed (pool before behind reply)) card table = pooled before card behind ∷ []
lent (cause reply) card table = []

module _ (P : Primitives) (master : List ℕ) where
  -- without roles: the number
  abbrev pub number : Carded → List ℕ → List ℕ → ℕ
  number (listed x) card table = call_code P master x card table
  number (cause reply) card table = cause_code P master card reply

  -- those buffers as the call leaves them
  abbrev pub written : Carded → List ℕ → List ℕ → List (List ℕ)
  written (listed (change e totals)) card table =
      call_card P master (change e totals) card table ∷ change_table P master card table e totals ∷ change_totals P master card table e totals ∷ []
  written (listed (ask e second totals)) card table =
      call_card P master (ask e second totals) card table ∷ ask_second P master card table second e totals ∷ ask_totals P master card table second e totals ∷ []
  written (listed commit) card table = call_card P master commit card table ∷ []
  written (listed drop_ask) card table = call_card P master drop_ask card table ∷ []
  written (listed (draw message plan now)) card table =
      call_card P master (draw message plan now) card table ∷ draw_message P master card message plan now ∷ []
  written (listed (judge reply)) card table = call_card P master (judge reply) card table ∷ []
  written (listed (pool before behind reply)) card table = pool_cards P master (pooled before card behind) reply ∷ []
  written (cause reply) card table = []

  -- under a role
  abbrev pub answered : ℕ → Carded → List ℕ → List ℕ → Answer
  answered role x card table = record {
    number = under role (permission x) (number x card table) 22;
    buffers = each_under role (permission x) (written x card table) (lent x card table);
  }

  -- "Permitted calls answer as without roles"
  pub permitted-as-before : (role : ℕ) (x : Carded) (card table : List ℕ) → permits role (permission x) ≡ true
      → answered role x card table ≡ record { number = number x card table; buffers = written x card table }
  unfolding under
  permitted-as-before role (listed (change e totals)) card table may = rw may
  permitted-as-before role (listed (ask e second totals)) card table may = rw may
  permitted-as-before role (listed commit) card table may = rw may
  permitted-as-before role (listed drop_ask) card table may = rw may
  permitted-as-before role (listed (draw message plan now)) card table may = rw may
  permitted-as-before role (listed (judge reply)) card table may = rw may
  permitted-as-before role (listed (pool before behind reply)) card table may = rw may
  permitted-as-before role (cause reply) card table may = rw may

  -- "It refuses, ahead of every check, an unknown role or one lacking the right (22)"
  pub turned-away : (role : ℕ) (x : Carded) (card table : List ℕ) → permits role (permission x) ≡ false
      → answered role x card table ≡ record { number = 22; buffers = lent x card table }
  unfolding under
  turned-away role (listed (change e totals)) card table without = rw without
  turned-away role (listed (ask e second totals)) card table without = rw without
  turned-away role (listed commit) card table without = rw without
  turned-away role (listed drop_ask) card table without = rw without
  turned-away role (listed (draw message plan now)) card table without = rw without
  turned-away role (listed (judge reply)) card table without = rw without
  turned-away role (listed (pool before behind reply)) card table without = rw without
  turned-away role (cause reply) card table without = rw without

-- "A caller without the right gets an answer that depends on role and call only": two calls that do the same, under one role, whatever else they are lent
pub role-and-call-only : (P : Primitives) (role : ℕ) (x y : Carded) (master card table master' card' table' : List ℕ) → permission x ≡ permission y → permits role (permission x) ≡ false
    → ((answered P master role x card table).number ≡ (answered P master' role y card' table').number)
    × ((answered P master role x card table).buffers ≡ lent x card table)
    × ((answered P master' role y card' table').buffers ≡ lent y card' table')
role-and-call-only P role x y master card table master' card' table' same without =
    let without' : permits role (permission y) ≡ false = ap (permits role) (sym same) ∙ without in
    let a = turned-away P master role x card table without in
    let b = turned-away P master' role y card' table' without' in
    (ap (λ (z : Answer). z.number) a ∙ sym (ap (λ (z : Answer). z.number) b), ap (λ (z : Answer). z.buffers) a, ap (λ (z : Answer). z.buffers) b)

-- #107, under any role: cause "gives 0 exactly when judge would accept"
pub cause-none-role : (P : Primitives) (role : ℕ) (master card reply : List ℕ)
    → (under role may_cause (cause_code P master card reply) 22 ≡ 0) ↔ (under role may_judge (judge_code P master card reply) 22 ≡ 0)
unfolding under permits
cause-none-role P role master card reply = go (permits role may_judge)
  where
    go : (may : Bool) → (cond may (cause_code P master card reply) 22 ≡ 0) ↔ (cond may (judge_code P master card reply) 22 ≡ 0)
    go true = cause-none P master card reply
    go false = (λ h. h, λ h. h)

-- "an unknown role"
pub unknown-role : (role : ℕ) (d : Permission) → role ≢ 1 → role ≢ 2 → role ≢ 3 → permits role d ≡ false
unfolding permits
unknown-role role may_update h₁ h₂ h₃ = rw (ne_eqb role 2 h₂)
unknown-role role may_delete h₁ h₂ h₃ = rw (ne_eqb role 2 h₂)
unknown-role role may_append h₁ h₂ h₃ = rw (ne_eqb role 1 h₁, ne_eqb role 2 h₂)
unknown-role role may_load h₁ h₂ h₃ = rw (ne_eqb role 1 h₁, ne_eqb role 2 h₂)
unknown-role role may_batch h₁ h₂ h₃ = rw (ne_eqb role 2 h₂)
unknown-role role may_commit h₁ h₂ h₃ = rw (ne_eqb role 2 h₂)
unknown-role role may_drop h₁ h₂ h₃ = rw (ne_eqb role 2 h₂)
unknown-role role may_draw h₁ h₂ h₃ = rw (ne_eqb role 2 h₂, ne_eqb role 3 h₃)
unknown-role role may_judge h₁ h₂ h₃ = rw (ne_eqb role 2 h₂, ne_eqb role 3 h₃)
unknown-role role may_cause h₁ h₂ h₃ = rw (ne_eqb role 2 h₂, ne_eqb role 3 h₃)
unknown-role role may_pool h₁ h₂ h₃ = rw (ne_eqb role 2 h₂, ne_eqb role 3 h₃)

-- "Role 1, surveyor, may append and load ..; role 2, planner, everything; role 3, manager, draw, judge and ask the cause"; a pool is "judged by roles 2 and 3"
pub permissions-table : (permits 1 may_update ≡ false) × (permits 2 may_update ≡ true) × (permits 3 may_update ≡ false)
    × (permits 1 may_delete ≡ false) × (permits 2 may_delete ≡ true) × (permits 3 may_delete ≡ false)
    × (permits 1 may_append ≡ true) × (permits 2 may_append ≡ true) × (permits 3 may_append ≡ false)
    × (permits 1 may_load ≡ true) × (permits 2 may_load ≡ true) × (permits 3 may_load ≡ false)
    × (permits 1 may_batch ≡ false) × (permits 2 may_batch ≡ true) × (permits 3 may_batch ≡ false)
    × (permits 1 may_commit ≡ false) × (permits 2 may_commit ≡ true) × (permits 3 may_commit ≡ false)
    × (permits 1 may_drop ≡ false) × (permits 2 may_drop ≡ true) × (permits 3 may_drop ≡ false)
    × (permits 1 may_draw ≡ false) × (permits 2 may_draw ≡ true) × (permits 3 may_draw ≡ true)
    × (permits 1 may_judge ≡ false) × (permits 2 may_judge ≡ true) × (permits 3 may_judge ≡ true)
    × (permits 1 may_cause ≡ false) × (permits 2 may_cause ≡ true) × (permits 3 may_cause ≡ true)
    × (permits 1 may_pool ≡ false) × (permits 2 may_pool ≡ true) × (permits 3 may_pool ≡ true)
unfolding permits
permissions-table =
    (refl, refl, refl, refl, refl, refl, refl, refl, refl, refl, refl, refl, refl, refl, refl, refl, refl, refl, refl, refl, refl, refl, refl, refl, refl, refl, refl, refl, refl, refl, refl, refl, refl)
