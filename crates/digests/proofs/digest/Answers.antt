-- With no blocks before, what is made of nothing is the digest, by after-all, and its hashes are the digest's, by hashes-all. The table is empty or has all
-- values of the round function.
use borrow.Author.Rules.{rules}
use native.Mathlib.Omega.{arith}
use mathlib.Core.Path.{sym, ap, ◌∙◌}
use lib.Seq.{length-take-le}
use Rattle.permutation.specs.Rounds.{half}
use Rattle.scheme.specs.Totals.{digest_hashes}
use Rattle.scheme.proofs.laws.NewerLaws.{after-all, hashes-all}
use Rattle.standard.specs.Standard.{standard}
use Rattle.digests.specs.Layout.{contents}
use Rattle.digests.proofs.ContentLaws.{contents-long}
use Rattle.digests.proofs.TurnLaws.{tabled-under}
use Rattle.digests.proofs.digest.Goals as goal

pub slice_bounds-grown-end : goal.slice_bounds-grown-end
slice_bounds-grown-end c =
    sym (length-take-le _ _ (omega (arith, c.tabulated-entries.ensures.0, c.tabulated-entries.ensures.1)))

pub grown-requires : goal.grown-requires
grown-requires c =
    rw c.new-all.ensures.0
    (c.requires.1, tabled-under _ _ (half c.args.b.rows) _ c.key_words-words.ensures c.tabulated-entries.ensures.2)

pub returns : goal.returns
returns c =
    let a = c.args in
    let b = a.b in
    let made = c.new-all.ensures in
    let news = contents b a.blocks.now a.marks.now in record {
      digest_value = (rw (made.0, made.1, made.2, made.3) at c.grown.ensures.digest_value) ∙ after-all standard a.k a.c b.rows a.positions c.requires.0.rowed c.requires.0.few_rows c.requires.1 news;
      turns_value = (
        (rw made.0 at c.grown.ensures.turns_value.0),
        (rw (made.0, made.1, made.2, made.3) at c.grown.ensures.turns_value.1)
            ∙ hashes-all standard a.k b.rows a.positions c.requires.0.rowed c.requires.0.few_rows c.requires.1 news
            ∙ ap (digest_hashes standard a.k b.rows a.positions) (contents-long b a.blocks.now a.marks.now),
      );
    }
