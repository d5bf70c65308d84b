-- After each position the queue is the digest with the newer columns of the rows so far, under any key with these words; the turns are those of the walks,
-- and the hashes as many as these rows have columns more.
use borrow.Author.Rules.{rules}
use native.Mathlib.Omega.{arith}
use mathlib.Core.Path.{◌≡◌, refl, sym, ap, ◌∙◌}
use Prim.Native.Nat.{ℕ, ◌+◌, ◌≤◌}
use Rattle.permutation.specs.Rounds.{half}
use Rattle.scheme.specs.Tokens.{columns_of}
use Rattle.scheme.specs.Totals.{digest_turns}
use Rattle.scheme.proofs.laws.TotalLaws.{digest-turns-most, digest-hashes-most}
use Rattle.standard.specs.Standard.{standard}
use Rattle.digests.specs.Layout.{Row}
use Rattle.digests.proofs.BlockLaws.{row_up}
use Rattle.digests.proofs.TurnLaws.{all, tabled-under, none-drawn, digest-more, turns_more, hashes-more, all-drawn}
use Rattle.digests.proofs.blocks.Blocks.grown.Goals.{After-columns_of, After-forward_in-walk}
use Rattle.digests.proofs.blocks.Blocks.grown.Goals as goal

pub loop-drawn-init : goal.loop-drawn-init
loop-drawn-init c =
    let a = c.args in
    let b = a.self.now in
    let start = c.restart.ensures b.kind.form b.bytes.now in
    let z = none-drawn a.k a.c a.x b.span.rows b.before (b.before + b.span.count) (all b.span b.before b.bytes.now b.marks.now) (search rules) in
    (start.0, start.1 ∙ z.0, z.1, z.2)

-- the row that a position draws
row-drawn : (c : After-forward_in-walk) → Row c.args.self.now.span.rows (c.forward_in-walk.result.value + 1)
row-drawn c = record { from_one = omega arith; most = omega (arith, c.forward_in-walk.ensures.value_lt_d.0) }

-- it has no fewer columns with the new blocks
row-grown : (c : After-forward_in-walk)
    → columns_of c.args.self.now.span.rows c.args.self.now.before (c.forward_in-walk.result.value + 1)
    ≤ columns_of c.args.self.now.span.rows (c.args.self.now.before + c.args.self.now.span.count) (c.forward_in-walk.result.value + 1)
row-grown c =
    let b = c.args.self.now in
    row_up b.span.rows b.before b.span.count (c.forward_in-walk.result.value + 1) b.lies.rowed (row-drawn c)

pub add_row-requires : goal.add_row-requires
add_row-requires c =
    let l = c.loop-drawn in
    let walked = (goal.at.add_row-requires c).After-forward_in-walk in
    let b = c.args.self.now in (
      l.invariant.0,
      row-drawn walked,
      omega (arith, c.requires.0, b.lies.few_rows),
      omega (arith, c.columns_of-oldest.ensures),
      omega (arith, c.columns_of-oldest.ensures, row-grown walked),
    )

pub overflow_add-turns : goal.overflow_add-turns
overflow_add-turns c =
    let l = c.loop-drawn in
    let a = c.args in
    let b = a.self.now in
    let more = turns_more a.k _ b.span.rows l.drawn _ c.key_words-words.ensures (ap (λ (x : ℕ). x + 1) c.forward_in-walk.ensures.value_value.0) l.turns _ l.invariant.2 c.forward_in-walk.ensures.value_value.1 in
    let most : l.drawn + 1 ≤ b.span.rows = omega (arith, c.requires.0) in
    omega (arith, more, digest-turns-most standard a.k b.span.rows (l.drawn + 1) b.lies.rowed b.lies.few_rows most, most, b.lies.few_rows)

-- the newer columns of the row
columns-newer : (c : After-columns_of) → c.columns_of-oldest.result ≤ c.columns_of.result
columns-newer c =
    let b = c.args.self.now in
    let drawn : Row b.span.rows (c.forward_in-walk.result.value + 1) = record {
      from_one = omega arith;
      most = omega (arith, c.forward_in-walk.ensures.value_lt_d.0);
    } in
    omega (
      arith,
      c.columns_of.ensures,
      c.columns_of-oldest.ensures,
      row_up b.span.rows b.before b.span.count (c.forward_in-walk.result.value + 1) b.lies.rowed drawn,
    )

pub overflow_sub-hashes : goal.overflow_sub-hashes
overflow_sub-hashes c = omega (arith, columns-newer (goal.at.overflow_sub-hashes c).After-columns_of)

pub overflow_add-hashes : goal.overflow_add-hashes
overflow_add-hashes c =
    let l = c.loop-drawn in
    let a = c.args in
    let b = a.self.now in
    let more = hashes-more a.k _ b.span.rows l.drawn _ c.key_words-words.ensures (ap (λ (x : ℕ). x + 1) c.forward_in-walk.ensures.value_value.0) b.before (b.before + b.span.count) l.hashes _ _
    (columns-newer (goal.at.overflow_add-hashes c).After-columns_of) c.columns_of-oldest.ensures c.columns_of.ensures l.invariant.3 in
    let most : l.drawn + 1 ≤ b.span.rows = omega (arith, c.requires.0) in
    omega (
      arith,
      more,
      digest-hashes-most standard a.k b.span.rows (l.drawn + 1) b.lies.rowed b.lies.few_rows most (b.before + b.span.count) b.few,
      most,
      b.lies.few_rows,
    )

pub loop-drawn-preserved : goal.loop-drawn-preserved
loop-drawn-preserved c =
    let l = c.loop-drawn in
    let a = c.args in
    let b = a.self.now in
    let e = c.key_words-words.ensures in
    let drawn : c.forward_in-walk.result.value + 1 ≡ _ = ap (λ (x : ℕ). x + 1) c.forward_in-walk.ensures.value_value.0 in (
      c.add_row.ensures.0,
      digest-more a.k _ b.span.rows l.drawn _ e drawn a.c (all b.span b.before b.bytes.now b.marks.now) b.before _ _ _ _ c.columns_of-oldest.ensures c.add_row.ensures.1 l.invariant.1,
      turns_more a.k _ b.span.rows l.drawn _ e drawn _ _ l.invariant.2 c.forward_in-walk.ensures.value_value.1,
      hashes-more a.k _ b.span.rows l.drawn _ e drawn b.before (b.before + b.span.count) _ _ _ (columns-newer (goal.at.loop-drawn-preserved c).After-columns_of) c.columns_of-oldest.ensures c.columns_of.ensures l.invariant.3,
    )

pub returns : goal.returns
returns c =
    let l = c.loop-drawn in
    let a = c.args in
    let b = a.self.now in
    let all_of : l.drawn ≡ a.positions = omega arith in
    let done = all-drawn a.k a.c b.span b.before l.drawn a.positions b.bytes.now b.marks.now a.x a.x _ l.hashes b.lies c.requires.0 (search rules) all_of
    refl l.invariant.1 l.invariant.3 in record {
      digest_value = c.settled-digest.ensures ∙ done.0;
      turns_value = (l.invariant.2 ∙ ap (digest_turns standard a.k b.span.rows) all_of, done.1);
    }
