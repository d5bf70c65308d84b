-- A refusal leaves the data, an answer writes them: refusal-kept, answer-written.
use mathlib.Core.Path.{sym, refl, ◌∙◌}
use native.Mathlib.Omega.{arith}
use Rattle.counts.specs.Refused.{number}
use Rattle.counts.proofs.RefusedLaws.{refuses, passed-on}
use Rattle.scheme.proofs.laws.CheckLaws.{refusal-kept, answer-written}
use Rattle.parity.specs.Calls.{rebuild_data}
use Rattle.parity.proofs.CallLaws.{rebuild-fits}
use Rattle.parity.proofs.rebuild.Goals as goal

pub returns-in_err-rebuild_code : goal.returns-in_err-rebuild_code
unfolding rebuild_data
returns-in_err-rebuild_code c =
    let r = c.in_err-rebuild_code in record {
      value = passed-on _ _ c.from_residual.ensures ∙ r.ensures;
      group_after = refusal-kept _ _ c.args.group.now (number r.field-0.0) r.ensures (refuses r.field-0.0);
    }

pub overflow_cast-data_blocks : goal.overflow_cast-data_blocks
overflow_cast-data_blocks c =
    let f = rebuild-fits c.args.block_bytes c.args.data_blocks c.args.parity_blocks c.args.blocks.now c.args.lost.now c.args.group.now (sym c.in_ok-rebuild_code.ensures) in
    omega (arith, f.sized.k_most)

pub overflow_cast-parity_blocks : goal.overflow_cast-parity_blocks
overflow_cast-parity_blocks c =
    let f = rebuild-fits c.args.block_bytes c.args.data_blocks c.args.parity_blocks c.args.blocks.now c.args.lost.now c.args.group.now (sym c.in_ok-rebuild_code.ensures) in
    omega (arith, f.sized.p_most)

pub rebuild_group-requires : goal.rebuild_group-requires
rebuild_group-requires c =
    let f = rebuild-fits c.args.block_bytes c.args.data_blocks c.args.parity_blocks c.args.blocks.now c.args.lost.now c.args.group.now (sym c.in_ok-rebuild_code.ensures) in record {
      le_size = (f.sized.B_least, f.sized.k_most, f.sized.p_most);
      lost_len_bound = f.few;
      blocks_len = f.blocks_size;
      group_len = f.group_size;
    }

pub returns : goal.returns
unfolding rebuild_data
returns c =
    let r = c.in_ok-rebuild_code in record {
      value = r.ensures;
      group_after = c.rebuild_group.ensures ∙ answer-written _ _ c.args.group.now 0 r.ensures refl;
    }
