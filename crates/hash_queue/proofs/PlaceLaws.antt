-- Laws of places that lie one after the other in a buffer. Assumes nothing.
--   place_end, place_inside     where one of the places ends, and that it lies in the buffer
--   lanes-few                   the lanes for so many messages
use Prim.Native.Nat.{ℕ, suc, ◌+◌, ◌*◌, ◌/◌, ◌≤◌, ◌<◌}
use native.Mathlib.Omega.{arith}
use native.Mathlib.Nat.{suc-mul, mul-le-mul_right, le_trans}
use Rattle.hash_queue.specs.Waiting.{places}

pub place_end : (i j n : ℕ) → i < j → i * n + n ≤ j * n
place_end i j n h =
    let e : suc i * n ≤ j * n = mul-le-mul_right n (omega arith) in
    omega (arith, e, suc-mul i n)

pub place_inside : (k n x : ℕ) → k < places → places * n ≤ x → k * n + n ≤ x
place_inside k n x h room = le_trans (place_end k places n h) room

-- lanes for so many messages: as many, or up to three more
pub lanes-few : (fill : ℕ) → fill ≤ places → (fill + 3) / 4 * 4 ≤ places
lanes-few fill few = omega arith
