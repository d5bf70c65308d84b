-- `chacha20::cipher` meets its contract. The loop's invariant: what is done, and the cipher of what is left, is the cipher of the text;
-- a turn is `turn` of `CipherLaws`.
-- Assumes nothing.
use Rattle.std.proofs.Common.{◌≡◌, ◌++◌, take, drop}
use Rattle.chacha20.specs.ChaCha20.{cipher}
use Rattle.chacha20.proofs.cipher.Given as goal

abbrev pub invariant-loop-at : goal.invariant-loop-at
invariant-loop-at l =
    take l.at l.text ++ cipher l.key l.c l.nonce (drop l.at l.text) ≡ cipher l.key l.counter l.nonce l.initial.text
