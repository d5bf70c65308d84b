-- What contracts inside the library say of weighed sums and of systems; what the calls promise does not rest on it. Assumes nothing.
--   dot xs ws          the sum of the bytes xs, each times its weight
--   Off a              a is not 0 in the field
--   Each P xs          P of every element
--   Apart u xs, Distinct xs, Cross us vs   numbers that differ: u from each of xs, those of xs from each other, each of us from each of vs
--   Solvable us vs     as many parities us as unknowns vs, with numbers that all differ
--   Solvable-prop      which has one proof at most, as a field of a struct
use Rattle.std.specs.Prelude.{◌≡◌, List, [], ◌∷◌, ℕ, ◌%◌, length}
use Rattle.std.specs.Coded.{×_prop, →_prop, Unit-prop}
use Rattle.std.proofs.Props.{props}
use Rattle.gf256.specs.Field.{plus, times}

unfoldable pub dot : List ℕ → List ℕ → ℕ
dot [] ws = 0
dot (x ∷ xs) [] = 0
dot (x ∷ xs) (w ∷ ws) = plus (times x w) (dot xs ws)

abbrev pub Off : ℕ → Type 0
Off a = a % 256 ≡ 0 → ⊥

abbrev pub Each : (ℕ → Type 0) → List ℕ → Type 0
Each P [] = Unit {0}
Each P (x ∷ xs) = P x × Each P xs

abbrev pub Apart : ℕ → List ℕ → Type 0
Apart u xs = Each (λ x. Off (plus u x)) xs

abbrev pub Distinct : List ℕ → Type 0
Distinct [] = Unit {0}
Distinct (x ∷ xs) = Apart x xs × Distinct xs

abbrev pub Cross : List ℕ → List ℕ → Type 0
Cross us vs = Each (λ u. Apart u vs) us

pub record Solvable (us vs : List ℕ) : Type 0 where
  pub many : length us ≡ length vs
  pub cross : Cross us vs
  pub sources_apart : Distinct us
  pub lost_apart : Distinct vs

Off-prop : (a : ℕ) → IsProp (Off a)
Off-prop a = →_prop (λ x. absurd x)

Each-prop : (P : ℕ → Type 0) → ((x : ℕ) → IsProp (P x)) → (xs : List ℕ) → IsProp (Each P xs)
Each-prop P h [] = Unit-prop
Each-prop P h (x ∷ xs) = ×_prop (h x) (Each-prop P h xs)

Apart-prop : (u : ℕ) (xs : List ℕ) → IsProp (Apart u xs)
Apart-prop u xs = Each-prop (λ x. Off (plus u x)) (λ x. Off-prop (plus u x)) xs

Distinct-prop : (xs : List ℕ) → IsProp (Distinct xs)
Distinct-prop [] = Unit-prop
Distinct-prop (x ∷ xs) = ×_prop (Apart-prop x xs) (Distinct-prop xs)

Cross-prop : (us vs : List ℕ) → IsProp (Cross us vs)
Cross-prop us vs = Each-prop (λ u. Apart u vs) (λ u. Apart-prop u vs) us

many-prop : (us vs : List ℕ) → IsProp (length us ≡ length vs)
many-prop us vs = hlevel props

pub Solvable-prop : (us vs : List ℕ) → IsProp (Solvable us vs)
Solvable-prop us vs a b =
    λ i. record {
      many = many-prop us vs a.many b.many i;
      cross = Cross-prop us vs a.cross b.cross i;
      sources_apart = Distinct-prop us a.sources_apart b.sources_apart i;
      lost_apart = Distinct-prop vs a.lost_apart b.lost_apart i;
    }
