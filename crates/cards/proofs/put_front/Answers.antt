-- The fields that every card begins with, each behind the one before.
use borrow.Author.Rules.{rules}
use native.Mathlib.Omega.{arith}
use mathlib.Core.Path.{◌≡◌, refl, ap, ◌∙◌}
use mathlib.Core.List.{[], ◌∷◌, ◌++◌}
use borrow.Author.Tests.{le-leb}
use Prim.Native.Nat.{ℕ}
use lib.ListN.{length}
use Rattle.octets.specs.Octets.{be, put}
use Rattle.scheme.specs.Records.{card_length}
use Rattle.records.proofs.FieldLaws.{opened, front_long, shape, number}
use Rattle.cards.specs.Fields.{card_of, front_bytes}
use Rattle.cards.proofs.put_front.Goals as goal

pub returns : goal.returns
unfolding front_bytes card_of
returns c =
    let k = c.args.c in
    let xs = c.args.s.now in
    let id8 : length k.id ≡ 8 = search rules in
    let s₁ =
    opened (length xs) 11 (be 2 (card_length k.version) ++ (k.version ∷ []) ++ k.id) xs refl (front_long (card_length k.version) k.version k.id id8)
    (c.put_front.ensures ∙ ap (λ (n : ℕ). put 0 (be 2 n ++ (k.version ∷ []) ++ k.id) xs) c.card_length-long.ensures.0) in
    let s₂ = shape k.block_bytes k.rows k.positions s₁ (le-leb 19 (length xs) (omega (arith, c.requires.0))) c.put_shape.ensures in
    let s₃ = number 4 k.tokens s₂ (le-leb 23 (length xs) (omega (arith, c.requires.0))) c.put_be.ensures in
    let s₄ = number 4 k.blocks s₃ (le-leb 27 (length xs) (omega (arith, c.requires.0))) c.put_be-2.ensures in
    let s₅ = number 8 k.counter s₄ (le-leb 35 (length xs) (omega (arith, c.requires.0))) c.put_be-3.ensures in
    let s₆ = number 4 k.next s₅ (le-leb 39 (length xs) (omega (arith, c.requires.0))) c.put_be-4.ensures in
    (number 4 k.open_token s₆ (le-leb 43 (length xs) c.requires.0) c.put_be-5.ensures).stands
