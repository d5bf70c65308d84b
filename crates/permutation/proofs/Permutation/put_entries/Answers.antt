-- The counters and last words are those of the entries, whose values are the low bits of the words (fill-turn).
use native.Mathlib.Omega.{arith}
use Prim.Native.Nat.{ℕ, ◌+◌, ◌*◌, ◌/◌, ◌%◌, ◌^◌}
use lib.ListN.{length-set}
use Rattle.lanes.proofs.LaneLaws.{known-turn}
use Rattle.permutation.proofs.TableLaws.{fill-turn}
use Rattle.permutation.proofs.Permutation.put_entries.Goals as goal

pub loop-k-preserved : goal.loop-k-preserved
loop-k-preserved c =
    let l = c.loop-k in
    let h = c.args.self.h in (
      simp length-set l.invariant.0,
      simp length-set l.invariant.1,
      known-turn l.counters (λ (j : ℕ). (c.args.i + j) % 2 ^ h) l.k _ (omega arith) c.half_at.ensures l.invariant.2,
      known-turn l.lasts (λ (j : ℕ). (c.args.i + j) / 2 ^ h * 16777216) l.k _ (omega arith) c.last_word.ensures l.invariant.3,
    )

pub returns : goal.returns
returns c =
    let p = c.args.self in
    let l = c.loop-k in
    fill-turn p.key _ _ l.counters l.lasts c.firsts-words.result p.h c.args.i p.narrow c.requires.0 c.requires.1
    (λ k b. l.invariant.2 k (omega arith)) (λ k b. l.invariant.3 k (omega arith)) c.firsts-words.ensures c.put_low.ensures
