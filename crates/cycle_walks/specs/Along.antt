-- Walks back from rows one behind the other, of which only the turns are asked for. Assumes nothing.
--   turns_along key d from n               how many turns the walks back from n rows take, from the row of the number `from` on; behind the last comes the first
--   Reached key d v                       v is below d, or a walk back from a number below d has come to v
--   Underway key d at n vs                so are the elements of vs from place at on and before place n
--   Kept d v still vs r ws                ws is vs with v written behind the first still elements; where the walk that is at v goes on, it is one of the first r
--   Passed key d n us vs still at         of n walks at us the first at have taken a turn: the first still elements of vs are where those are that go on,
--                                         and the others stand in vs as they do in us
--   Onward key d n vs still at r next ws  where walks have passed so in vs, still and at, they have passed in ws, r and next
use Rattle.std.specs.Prelude.{◌≡◌, cond, ◌⊎◌, List, ℕ, ◌+◌, ◌%◌, ◌≤◌, ◌<◌, leb, length, get_or, set}
use Rattle.permutation.specs.Permutation.{backward_turns}
use Rattle.cycle_walks.specs.Each.{sum_below, Midway, turns_of}

abbrev pub turns_along : List ℕ → ℕ → ℕ → ℕ → ℕ
turns_along key d from n = sum_below n (λ i. backward_turns key d ((from + i) % d))

pub record Reached (key : List ℕ) (d v : ℕ) : Type 0 where
  pub start : ℕ
  pub below : start < d
  pub way : (v ≡ start) ⊎ Midway key d start v

abbrev pub Underway : List ℕ → ℕ → ℕ → ℕ → List ℕ → Type 0
Underway key d at n vs = (i : ℕ) → at ≤ i → i < n → Reached key d (get_or vs i 0)

abbrev pub Kept : ℕ → ℕ → ℕ → List ℕ → ℕ → List ℕ → Type 0
Kept d v still vs r ws = (ws ≡ set vs still v) × (r ≡ cond (leb d v) (still + 1) still)

pub record Passed (key : List ℕ) (d n : ℕ) (us vs : List ℕ) (still at : ℕ) : Type 0 where
  pub few : still ≤ at
  pub most : at ≤ n
  pub long : n ≤ length vs
  pub under : Underway key d 0 still vs
  pub rest : (i : ℕ) → at ≤ i → i < n → get_or vs i 0 ≡ get_or us i 0
  pub counted : at + turns_of key d still vs ≡ turns_of key d at us

abbrev pub Onward : List ℕ → ℕ → ℕ → List ℕ → ℕ → ℕ → ℕ → ℕ → List ℕ → Type 0
Onward key d n vs still at r next ws = (us : List ℕ) → Underway key d 0 n us → Passed key d n us vs still at → Passed key d n us ws r next
