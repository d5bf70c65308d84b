-- Laws of the numbers of refusals. Assumes nothing.
--   least-number, refuses    a refusal's number is at least 1, and not 0
--   passed-on, given-on      the number of what a `?` returns is that of the refusal
--   err-on                   what a `?` returns is the refusal that it passes on, whatever the result's type
use Prim.Native.Nat.{ℕ, ◌≤◌}
use native.Mathlib.Omega.{arith}
use mathlib.Core.Path.{◌≡◌}
use Rattle.std.specs.Prelude.{Result, Err}
use Rattle.std.specs.Result.{IsErr, IsErrAnd}
use Rattle.std.proofs.lemmas.Result.{err_from_is_err_and}
use Rattle.counts.specs.Refused.{number, code_in, number_in}
use Rattle.counts.specs.declared.refusal.Refusal.{Refusal}
use Rattle.counts.specs.declared.refusal.Refusal.TheVariants.{WrongLength, WrongHeader, OutOfLimits, NoSuchBlock, FileFull, NoTokenLeft, BadRecord, TokenOpen, NoneOpen, CounterAtMost, NotWholeBlocks, TooManyPositions, BadBatch, BadMark, BadTime, OutsideWindows, ChangePending, NonePending, TooManyDamaged, NotPermitted, BadPool, BadGroup, TooManyLost}

pub least-number : (e : Refusal) → 1 ≤ number e
least-number WrongLength = omega arith
least-number WrongHeader = omega arith
least-number OutOfLimits = omega arith
least-number NoSuchBlock = omega arith
least-number FileFull = omega arith
least-number NoTokenLeft = omega arith
least-number (BadRecord token) = omega arith
least-number TokenOpen = omega arith
least-number NoneOpen = omega arith
least-number CounterAtMost = omega arith
least-number NotWholeBlocks = omega arith
least-number TooManyPositions = omega arith
least-number BadBatch = omega arith
least-number BadMark = omega arith
least-number BadTime = omega arith
least-number OutsideWindows = omega arith
least-number ChangePending = omega arith
least-number NonePending = omega arith
least-number TooManyDamaged = omega arith
least-number NotPermitted = omega arith
least-number BadPool = omega arith
least-number BadGroup = omega arith
least-number TooManyLost = omega arith

pub refuses : (e : Refusal) → number e ≡ 0 → ⊥
refuses e z = omega (arith, least-number e)

-- what a `?` returns: r is the result, and e the refusal that it passes on
pub passed-on : (r : Result Unit Refusal) (e : Refusal) → IsErr r × IsErrAnd r (λ (x : Refusal). x ≡ e) → code_in r ≡ number e
passed-on r e h = let p = err_from_is_err_and r h.1 in rw (p.1, p.2)

pub given-on : (r : Result ℕ Refusal) (e : Refusal) → IsErr r × IsErrAnd r (λ (x : Refusal). x ≡ e) → number_in r ≡ number e
given-on r e h = let p = err_from_is_err_and r h.1 in rw (p.1, p.2)

pub err-on : {T : Type 0} (r : Result T Refusal) (e : Refusal) → IsErr r × IsErrAnd r (λ (x : Refusal). x ≡ e) → r ≡ Err e
err-on r e h = let p = err_from_is_err_and r h.1 in rw (p.1, p.2)
