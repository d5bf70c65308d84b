-- A lost block is rebuilt, by put-lost; a kept one is copied, by put-kept.
use mathlib.Core.Path.{sym, ap, ◌∙◌}
use Prim.Native.Nat.{◌*◌}
use lib.ListN.{length}
use native.Mathlib.Omega.{arith}
use borrow.Author.Rules.{rules}
use Rattle.octets.proofs.PartLaws.{put_whole}
use Rattle.erasure.proofs.BlockLaws.{block_length}
use Rattle.erasure.proofs.RebuildLaws.{rank-in, rank-lost, rank-kept, put-lost, put-kept}
use Rattle.erasure.proofs.Left.put.Goals as goal

pub rebuild-requires-clause-i_in_bounds : goal.rebuild-requires-clause-i_in_bounds
rebuild-requires-clause-i_in_bounds c =
    let s = c.args.self.now in
    rank-in s.lost.now c.args.n c.args.i c.requires.n_lt_k.1 s.k s.us.now s.vs.now s.solvable s.lost_named c.requires.n_lt_k.0 (sym c.is_named.ensures ∙ c.if-is_named.true)

pub overflow_add-result : goal.overflow_add-result
overflow_add-result c =
    let s = c.args.self.now in
    omega (arith, rank-in s.lost.now c.args.n c.args.i c.requires.n_lt_k.1 s.k s.us.now s.vs.now s.solvable s.lost_named c.requires.n_lt_k.0 (sym c.is_named.ensures ∙ c.if-is_named.true), c.well_formed, c.ranges)

pub returns-then-is_named : goal.returns-then-is_named
returns-then-is_named c =
    let s = c.args.self.now in
    let e = sym c.is_named.ensures ∙ c.if-is_named.true in record {
      value = rank-lost s.lost.now c.args.n c.args.i c.requires.n_lt_k.1 e;
      put = put-lost s.lost.now c.args.n c.args.i c.requires.n_lt_k.1 s.blocks.size s.us.now s.vs.now s.qs.now s.blocks.bytes.now _ e c.rebuild.ensures;
    }

pub returns : goal.returns
returns c =
    let s = c.args.self.now in
    let e = sym c.is_named.ensures ∙ c.if-is_named.false in record {
      value = rank-kept s.lost.now c.args.n c.args.i c.requires.n_lt_k.1 e;
      put = put-kept s.blocks.size c.args.n s.lost.now s.us.now s.vs.now s.qs.now s.blocks.bytes.now _ _ e c.block.ensures (c.copy.ensures ∙ put_whole c.block.result.now c.args.acc.now (ap length c.block.ensures ∙ block_length (c.args.n * s.blocks.size) s.blocks.size s.blocks.bytes.now (search rules) ∙ sym c.requires.acc_len));
    }
