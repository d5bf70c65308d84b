-- The first card's numbers, by read-first.
use Rattle.std.proofs.Common.{arith, sym, ap, ◌∙◌, length, ◌∷◌}
use Rattle.scheme.specs.Records.{Card, card_head}
use Rattle.scheme.specs.Pools.{cut, read_all, every}
use Rattle.scheme.proofs.laws.CheckLaws.{both}
use borrow.Author.Tests.{eqb-true}
use Rattle.cards.proofs.FaultLaws.{readable}
use Rattle.pools.proofs.CutLaws.{read-none, read-first, every-first}
use Rattle.pools.proofs.CardsIterator.next.Goals as goal

pub returns-then-is_empty-clause-steps : goal.returns-then-is_empty-clause-steps
returns-then-is_empty-clause-steps c =
    let none = read-none c.args.self.now.bytes.now (eqb-true _ 0 (sym c.if-is_empty.ensures)) in
    (none, none)

pub invariant_of-self : goal.invariant_of-self
invariant_of-self c =
    let heads = both (card_head c.split_first.result.0.now) (every card_head (cut c.split_first.result.1.now))
    (sym (every-first card_head c.args.self.now.bytes.now _ _ c.split_first.ensures.parts) ∙ c.args.self.now.heads) in
    record { whole = c.split_first.ensures.whole; heads = heads.1 }

pub read_card-requires : goal.read_card-requires
read_card-requires c =
    let heads = both (card_head c.split_first.result.0.now) (every card_head (cut c.split_first.result.1.now))
    (sym (every-first card_head c.args.self.now.bytes.now _ _ c.split_first.ensures.parts) ∙ c.args.self.now.heads) in
    readable c.split_first.result.0.now heads.0

pub returns-clause-steps : goal.returns-clause-steps
returns-clause-steps c =
    read-first c.args.self.now.bytes.now _ _ c.split_first.ensures.parts
    ∙ ap (λ (k : Card). k ∷ read_all (cut c.split_first.result.1.now)) (sym c.read_card.ensures)

pub returns-clause-goes : goal.returns-clause-goes
returns-clause-goes c =
    let e = ap length (read-first c.args.self.now.bytes.now _ _ c.split_first.ensures.parts) in
    record { on = λ _. (tt, tt, omega (arith, e)); keeps = tt; rests = λ _. tt }
