-- Both tests of the cards before, and of those that are left, by all-more.
use Rattle.std.proofs.Common.{sym, ap, ◌∙◌, Bool, ◌&&◌}
use Rattle.scheme.specs.Records.{card_fits}
use Rattle.scheme.specs.Pools.{cut, read_all}
use Rattle.cards.specs.Fields.{card_of}
use Rattle.pools.specs.declared.Cards.{Cards}
use Rattle.pools.proofs.CutLaws.{all, opened, all-more, all-done}
use Rattle.pools.proofs.seen.Goals as goal

pub loop-c-init : goal.loop-c-init
loop-c-init c =
    let e = sym c.into_iter-c-iterator.ensures.into_iter_gives in
    (ap (λ (x : Cards). all card_fits (read_all (cut x.bytes.now))) e, ap (λ (x : Cards). all opened (read_all (cut x.bytes.now))) e)

pub loop-c-preserved : goal.loop-c-preserved
unfolding card_of
loop-c-preserved c = (
  all-more card_fits c.loop-c.all.fit (read_all (cut c.args.cards.bytes.now)) _ _ _ c.loop-c.invariant.0 c.in-Some.ensures.steps
      ∙ ap (λ (b : Bool). (c.loop-c.all.fit && b) && all card_fits (read_all (cut c.next.new.self.bytes.now))) (sym c.card_fits.ensures),
  all-more opened c.loop-c.all.drawn (read_all (cut c.args.cards.bytes.now)) _ _ _ c.loop-c.invariant.1 c.in-Some.ensures.steps,
)

pub returns-clause-fit : goal.returns-clause-fit
returns-clause-fit c = all-done card_fits (cut c.args.cards.bytes.now) c.loop-c.all.fit _ c.loop-c.invariant.0 c.in-None.ensures.steps.0

pub returns-clause-drawn : goal.returns-clause-drawn
returns-clause-drawn c = all-done opened (cut c.args.cards.bytes.now) c.loop-c.all.drawn _ c.loop-c.invariant.1 c.in-None.ensures.steps.0
