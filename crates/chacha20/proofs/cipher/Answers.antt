-- `chacha20::cipher` meets its contract: a whole block is `cipher-turn` of `CipherLaws`, the last one `cipher-last`.
-- Assumes nothing.
use Rattle.std.proofs.Common.{drop, refl, arith, rules}
use Rattle.chacha20.specs.ChaCha20.{◌⊞◌}
use Rattle.chacha20.proofs.CipherLaws.{part_small, cipher-turn, cipher-last, cipher-done}
use Rattle.chacha20.proofs.cipher.Goals as goal

pub loop-at-preserved : goal.loop-at-preserved
unfolding ◌⊞◌
loop-at-preserved c =
    let l = c.loop-at in
    let whole = part_small (drop l.at l.text) l.at c.min-n.result (search rules) in
    cipher-turn l.text _ c.block-k.result l.at c.min-n.result (search rules) (search rules) (omega (arith, whole)) c.xor_into.ensures
    _ _ _ _ _ (search rules) c.block-k.ensures refl l.invariant

pub returns : goal.returns
returns c = cipher-done _ _ c.loop-at.text _ c.loop-at.at _ (search rules) c.loop-at.invariant

pub returns-2 : goal.returns-2
returns-2 c =
    let l = c.loop-at in
    let whole = part_small (drop l.at l.text) l.at c.min-n.result (search rules) in
    cipher-last l.text _ c.block-k.result l.at c.min-n.result (search rules) (search rules) (omega (arith, whole)) c.xor_into.ensures
    _ _ _ _ (search rules) (search rules) c.block-k.ensures l.invariant
