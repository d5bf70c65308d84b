-- A refusal leaves the parity, an answer writes it: refusal-kept, answer-written.
use mathlib.Core.Path.{sym, refl, ◌∙◌}
use native.Mathlib.Omega.{arith}
use Rattle.counts.specs.Refused.{number}
use Rattle.counts.proofs.RefusedLaws.{refuses, passed-on}
use Rattle.scheme.proofs.laws.CheckLaws.{refusal-kept, answer-written}
use Rattle.parity.specs.Calls.{encode_parity}
use Rattle.parity.proofs.CallLaws.{encode-fits}
use Rattle.parity.proofs.encode.Goals as goal

pub returns-in_err-encode_code : goal.returns-in_err-encode_code
unfolding encode_parity
returns-in_err-encode_code c =
    let r = c.in_err-encode_code in record {
      value = passed-on _ _ c.from_residual.ensures ∙ r.ensures;
      parity_after = refusal-kept _ _ c.args.parity.now (number r.field-0.0) r.ensures (refuses r.field-0.0);
    }

pub overflow_cast-data_blocks : goal.overflow_cast-data_blocks
overflow_cast-data_blocks c =
    let f = encode-fits c.args.block_bytes c.args.data_blocks c.args.parity_blocks c.args.group.now c.args.parity.now (sym c.in_ok-encode_code.ensures) in
    omega (arith, f.sized.k_most)

pub overflow_cast-parity_blocks : goal.overflow_cast-parity_blocks
overflow_cast-parity_blocks c =
    let f = encode-fits c.args.block_bytes c.args.data_blocks c.args.parity_blocks c.args.group.now c.args.parity.now (sym c.in_ok-encode_code.ensures) in
    omega (arith, f.sized.p_most)

pub encode_group-requires : goal.encode_group-requires
encode_group-requires c =
    let f = encode-fits c.args.block_bytes c.args.data_blocks c.args.parity_blocks c.args.group.now c.args.parity.now (sym c.in_ok-encode_code.ensures) in record {
      le_size = (f.sized.B_least, f.sized.B_most, f.sized.k_most, f.sized.p_most);
      group_len = f.group_size;
      parity_len = f.parity_size;
    }

pub returns : goal.returns
unfolding encode_parity
returns c =
    let r = c.in_ok-encode_code in record {
      value = r.ensures;
      parity_after = c.encode_group.ensures ∙ answer-written _ _ c.args.parity.now 0 r.ensures refl;
    }
