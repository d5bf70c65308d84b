-- Lists of calls on bytes, each call under a role. Assumes nothing.
--   Call, call_permission, Lent          a call's arguments without card and table; what it does; with its role and the master that it is lent
--   call_code .. call_asked       a permitted call on card, table and the table last asked for
--   lent_code .. lent_asked, run  a call under its role, and calls one after the other
--   fault_of, turned_away         the code that a call gives in place of what it does
use Rattle.std.specs.Prelude.{ℕ, List, [], ◌∷◌, length}
use Rattle.octets.specs.Octets.{part}
use Rattle.counts.specs.Codes.{not_permitted}
use Rattle.scheme.specs.Checks.{if_zero}
use Rattle.scheme.specs.Lists.{joined}
use Rattle.scheme.specs.Primitives.{Primitives}
use Rattle.scheme.specs.Changes.{Change, change_code, change_card, change_table}
use Rattle.scheme.specs.Calls.{Moment, draw_code, draw_card, judge_fault, judge_code, judge_card}
use Rattle.scheme.specs.Asks.{ask_code, ask_card, ask_second, settle_code, commit_card, drop_card}
use Rattle.scheme.specs.Pools.{pooled, pool_fault, pool_code, pool_cards}
use Rattle.scheme.specs.Roles.{Permission, may_commit, may_drop, may_draw, may_judge, may_pool, change_permission, under}

-- an update, delete, append, load or batch in one step, with the buffer lent for totals; the same asked, with the buffers lent for the second table and
-- for totals; commit and drop; draw, with the buffer lent for a message, the plan and the moment; judge, with the reply; a pooled judgement, with the cards
-- lent before this one and those behind it, and the reply
pub data Call : Type 0 where
  change : Change → List ℕ → Call
  ask : Change → List ℕ → List ℕ → Call
  commit : Call
  drop_ask : Call
  draw : List ℕ → List ℕ → Moment → Call
  judge : List ℕ → Call
  pool : List (List ℕ) → List (List ℕ) → List ℕ → Call

-- what a call does, for which a role must have permission
abbrev pub call_permission : Call → Permission
call_permission (change e totals) = change_permission e
call_permission (ask e second totals) = change_permission e
call_permission commit = may_commit
call_permission drop_ask = may_drop
call_permission (draw message plan now) = may_draw
call_permission (judge reply) = may_judge
call_permission (pool before behind reply) = may_pool

-- a call with the role that makes it and the master that it is lent
pub record Lent : Type 0 where
  pub role : ℕ
  pub master : List ℕ
  pub call : Call

-- the numbers returned, and the card and the table that are left
pub record Ran : Type 0 where
  pub numbers : List ℕ
  pub card : List ℕ
  pub table : List ℕ

-- a number in front
abbrev pub answer : ℕ → Ran → Ran
answer n r = record { numbers = n ∷ r.numbers; card = r.card; table = r.table }

module _ (P : Primitives) where
  -- the number that a call returns, the card after it and the table after it: `update_code` is `change_code` of an update, and so on
  abbrev pub call_code : List ℕ → Call → List ℕ → List ℕ → ℕ
  call_code master (change e totals) card table = change_code P master card table e totals
  call_code master (ask e second totals) card table = ask_code P master card table second e totals
  call_code master commit card table = settle_code card
  call_code master drop_ask card table = settle_code card
  call_code master (draw message plan now) card table = draw_code P master card message plan now
  call_code master (judge reply) card table = judge_code P master card reply
  call_code master (pool before behind reply) card table = pool_code P master (pooled before card behind) reply

  abbrev pub call_card : List ℕ → Call → List ℕ → List ℕ → List ℕ
  call_card master (change e totals) card table = change_card P master card table e totals
  call_card master (ask e second totals) card table = ask_card P master card table second e totals
  call_card master commit card table = commit_card card
  call_card master drop_ask card table = drop_card card
  call_card master (draw message plan now) card table = draw_card P master card message plan now
  call_card master (judge reply) card table = judge_card P master card reply
  -- "In lists, a pooled judgement is a step on each card": what it leaves in this card's place
  call_card master (pool before behind reply) card table = part (length (joined before)) (length card) (pool_cards P master (pooled before card behind) reply)

  -- the standing table; asked is the table that the last accepted ask left: "A commit .. makes its ask's table, as the ask left it .. the standing" one
  abbrev pub call_table : List ℕ → Call → List ℕ → List ℕ → List ℕ → List ℕ
  call_table master (change e totals) card table asked = change_table P master card table e totals
  call_table master (ask e second totals) card table asked = table
  call_table master commit card table asked = if_zero (settle_code card) asked table
  call_table master drop_ask card table asked = table
  call_table master (draw message plan now) card table asked = table
  call_table master (judge reply) card table asked = table
  call_table master (pool before behind reply) card table asked = table

  abbrev pub call_asked : List ℕ → Call → List ℕ → List ℕ → List ℕ → List ℕ
  call_asked master (change e totals) card table asked = asked
  call_asked master (ask e second totals) card table asked = if_zero (ask_code P master card table second e totals) (ask_second P master card table second e totals) asked
  call_asked master commit card table asked = asked
  call_asked master drop_ask card table asked = asked
  call_asked master (draw message plan now) card table asked = asked
  call_asked master (judge reply) card table asked = asked
  call_asked master (pool before behind reply) card table asked = asked

  -- under the call's role
  abbrev pub lent_code : Lent → List ℕ → List ℕ → ℕ
  lent_code x card table = under x.role (call_permission x.call) (call_code x.master x.call card table) not_permitted

  abbrev pub lent_card : Lent → List ℕ → List ℕ → List ℕ
  lent_card x card table = under x.role (call_permission x.call) (call_card x.master x.call card table) card

  abbrev pub lent_table : Lent → List ℕ → List ℕ → List ℕ → List ℕ
  lent_table x card table asked = under x.role (call_permission x.call) (call_table x.master x.call card table asked) table

  abbrev pub lent_asked : Lent → List ℕ → List ℕ → List ℕ → List ℕ
  lent_asked x card table asked = under x.role (call_permission x.call) (call_asked x.master x.call card table asked) asked

  -- calls one after the other, each on the card and the tables that the one before left
  unfoldable pub run : List Lent → List ℕ → List ℕ → List ℕ → Ran
  run [] card table asked = record { numbers = []; card = card; table = table }
  run (x ∷ xs) card table asked = answer (lent_code x card table) (run xs (lent_card x card table) (lent_table x card table asked) (lent_asked x card table asked))

  -- "Turned away": the code that a call gives in place of what it does, 0 for none
  abbrev pub fault_of : List ℕ → Call → List ℕ → List ℕ → ℕ
  fault_of master (change e totals) card table = change_code P master card table e totals
  fault_of master (ask e second totals) card table = ask_code P master card table second e totals
  fault_of master commit card table = settle_code card
  fault_of master drop_ask card table = settle_code card
  fault_of master (draw message plan now) card table = draw_code P master card message plan now
  fault_of master (judge reply) card table = judge_fault P master card
  fault_of master (pool before behind reply) card table = pool_fault master (pooled before card behind)

  -- and "ahead of every check", 22
  abbrev pub turned_away : Lent → List ℕ → List ℕ → ℕ
  turned_away x card table = under x.role (call_permission x.call) (fault_of x.master x.call card table) not_permitted
