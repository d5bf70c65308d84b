-- The first block of each place, the blocks elsewhere and the rest of each place are one message, by hashed-is.
use borrow.Author.Rules.{rules}
use native.Mathlib.Omega.{arith}
use mathlib.Core.Path.{refl}
use Rattle.sha256_many.proofs.ManyLaws.{places-inside, hashed-is}
use Rattle.sha256_many.proofs.hash_each.Goals as goal

pub blocks_each-requires : goal.blocks_each-requires
blocks_each-requires c =
    (c.requires.0, places-inside c.args.p.now _ c.args.n 64 c.args.l c.requires.0 c.requires.1 c.requires.3 c.places-own.ensures, search rules, search rules, refl)

pub blocks_each-requires-2 : goal.blocks_each-requires-2
blocks_each-requires-2 c = (
  c.requires.0,
  record { fits = λ i h. omega (arith, c.requires.5.fits i h, c.requires.4) },
  search rules,
  c.blocks_each.ensures.v_len.0,
  c.blocks_each.ensures.v_len.1,
)

pub blocks_each-requires-3 : goal.blocks_each-requires-3
blocks_each-requires-3 c = (
  c.requires.0,
  places-inside c.args.p.now _ c.args.n _ c.args.l c.requires.0 (omega (arith, c.requires.1, c.requires.2)) c.requires.3 c.places-own.ensures,
  search rules,
  c.blocks_each-2.ensures.v_len.0,
  c.blocks_each-2.ensures.v_len.1,
)

pub returns : goal.returns
returns c =
    hashed-is c.args.p.now c.args.far.now c.args.at.now c.places-own.result c.args.n c.args.gap c.args.l c.requires.0 c.requires.1 c.requires.2 c.requires.3 c.requires.4 c.requires.5
    c.places-own.ensures
    _ _ _ _
    c.initial_each-v.ensures
    c.blocks_each.ensures.chained
    c.blocks_each-2.ensures.chained
    c.blocks_each-3.ensures.chained
