-- One byte of each block, by the blocks' numbers: what a parity byte is, and how unknown data bytes are solved for. Assumes nothing.
-- #114: "Blocks are numbered data first, from 0": of k data blocks and p parity blocks, parity x has the number k + x.
--   weight u q         the weight of the data byte numbered q in the parity byte numbered u
--   row u qs ds        the sum of the data bytes ds, numbered qs, in the parity byte numbered u
--   solve us vs ss     the bytes, numbered vs, whose sums in the parity bytes us are ss: theorems `solves` and `solved` of SolveLaws
use Rattle.std.specs.Prelude.{List, [], ◌∷◌, ℕ}
use Rattle.gf256.specs.Field.{plus, times, inverse}
use Rattle.gf256.specs.Mixing.{zipped}

-- #114: "Parity p (from 0) of k data blocks weighs data q by the inverse of (k + p) xor q."
unfoldable pub weight : ℕ → ℕ → ℕ
weight u q = inverse (plus u q)

unfoldable pub row : ℕ → List ℕ → List ℕ → ℕ
row u [] ds = 0
row u (q ∷ qs) [] = 0
row u (q ∷ qs) (d ∷ ds) = plus (times d (weight u q)) (row u qs ds)

-- elimination: the sum t of the parity u without the unknown v, which the parity w, of sum s, takes out of it; what is left is a sum of the
-- other unknowns x, each scaled by (v + x) / (w + x)
unfoldable pub reduced_one : ℕ → ℕ → ℕ → ℕ → ℕ → ℕ
reduced_one w v s u t = times (plus (times (plus u v) t) (times (plus w v) s)) (weight w u)

unfoldable pub reduced : ℕ → ℕ → ℕ → List ℕ → List ℕ → List ℕ
reduced w v s us ts = zipped (reduced_one w v s) us ts

-- the unknown x from the scaled one, e
unfoldable pub unscaled_one : ℕ → ℕ → ℕ → ℕ → ℕ
unscaled_one w v x e = times e (times (plus w x) (weight v x))

unfoldable pub unscaled : ℕ → ℕ → List ℕ → List ℕ → List ℕ
unscaled w v xs es = zipped (unscaled_one w v) xs es

-- the unknown v from the parity w and the other unknowns
unfoldable pub front : ℕ → ℕ → ℕ → List ℕ → List ℕ → List ℕ
front w v s vs ds = times (plus w v) (plus s (row w vs ds)) ∷ ds

unfoldable pub solve : List ℕ → List ℕ → List ℕ → List ℕ
solve [] vs ss = []
solve (w ∷ us) [] ss = []
solve (w ∷ us) (v ∷ vs) [] = []
solve (w ∷ us) (v ∷ vs) (s ∷ ss) = front w v s vs (unscaled w v vs (solve us vs (reduced w v s us ss)))
