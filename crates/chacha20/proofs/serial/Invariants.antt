-- `chacha20::serial` meets its contract. The loop's invariant: the first 4 i bytes are the bytes of the first i words;
-- a turn is `serial-again` of `BlockLaws`.
-- Assumes nothing.
use Rattle.std.proofs.Common.{◌≡◌, ◌*◌, length, take}
use Rattle.chacha20.specs.ChaCha20.{serial}
use Rattle.chacha20.proofs.serial.Given as goal

abbrev pub invariant-loop-i : goal.invariant-loop-i
invariant-loop-i l = (length l.out ≡ 64) × (take (l.i * 4) l.out ≡ serial (take l.i l.fn.h))
