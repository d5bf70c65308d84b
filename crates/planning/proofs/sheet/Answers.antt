-- A refusal leaves the buffer, by sheet-kept; else the five numbers are written, by sheet-done.
use mathlib.Core.Path.{refl, sym, ◌∙◌}
use native.Mathlib.Omega.{arith}
use Rattle.counts.specs.Refused.{number}
use Rattle.counts.proofs.RefusedLaws.{least-number, passed-on}
use Rattle.planning.proofs.CallLaws.{sheet-held, sheet-kept, sheet-done}
use Rattle.planning.proofs.sheet.Goals as goal

pub returns-in_err-file : goal.returns-in_err-file
returns-in_err-file c =
    let a = c.args.numbers in
    let e = c.in_err-file.field-0.0 in
    record {
      value = passed-on c.from_residual.result e c.from_residual.ensures ∙ c.in_err-file.ensures.code;
      out_after =
          sheet-kept a.block_bytes a.rows a.positions a.tokens a.blocks a.damaged c.args.out.now
          (number e) c.in_err-file.ensures.code (λ z. omega (arith, least-number e));
    }

pub put_five-requires : goal.put_five-requires
put_five-requires c =
    let a = c.args.numbers in
    (sheet-held a.block_bytes a.rows a.positions a.tokens a.blocks a.damaged c.args.out.now (sym c.in_ok-file.ensures.code)).long

pub returns : goal.returns
returns c =
    let a = c.args.numbers in
    let k = c.in_ok-file.ensures.kept in
    record {
      value = c.in_ok-file.ensures.code;
      out_after =
          c.put_five.ensures
          ∙ rw k.2 (sheet-done a.block_bytes a.rows a.positions a.tokens a.blocks a.damaged c.args.out.now 0 c.in_ok-file.ensures.code refl (cc) (cc) (cc) (cc));
    }
