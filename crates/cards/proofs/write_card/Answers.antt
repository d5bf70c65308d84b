-- The bytes that every card has, and in version 3 those behind them, by card-asking and card-plain.
use borrow.Author.Rules.{rules}
use native.Mathlib.Omega.{arith}
use mathlib.Core.Path.{◌≡◌}
use lib.ListN.{length}
use Rattle.cards.specs.Fields.{card_of, ask_bytes}
use Rattle.cards.proofs.CardLaws.{length-least, length_three, card-plain, card-asking}
use Rattle.cards.proofs.write_card.Goals as goal

pub put_front-requires : goal.put_front-requires
put_front-requires c =
    (omega (arith, c.requires.0, length-least c.args.c.version), c.requires.1)

pub put_asks-requires : goal.put_asks-requires
put_asks-requires c =
    omega (arith, c.put_front.auto, c.requires.0, length_three c.args.c.version c.if-c-eq3.true)

pub returns-then-c-eq3 : goal.returns-then-c-eq3
unfolding card_of ask_bytes
returns-then-c-eq3 c =
    let id8 : length c.args.c.id ≡ 8 = search rules in
    card-asking (card_of c.args.c) id8 c.args.s.now c.if-c-eq3.true c.requires.0 c.put_front.ensures c.put_asks.ensures

pub returns-else-c-eq3 : goal.returns-else-c-eq3
unfolding card_of
returns-else-c-eq3 c =
    let id8 : length c.args.c.id ≡ 8 = search rules in
    card-plain (card_of c.args.c) id8 c.args.s.now c.if-c-eq3.false c.requires.0 c.put_front.ensures
