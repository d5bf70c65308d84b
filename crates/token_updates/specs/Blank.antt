-- Scratch space that nothing was done in: zeros throughout, and nothing waits to be hashed. Assumes nothing.
use Rattle.std.specs.Prelude.{◌≡◌, ℕ, List, replicate}
use Rattle.hash_queue.specs.declared.Form.{Form}
use Rattle.hash_queue.specs.Waiting.{Ready}
use Rattle.token_updates.specs.declared.Scratch.{Scratch}

pub record Blank (s : Scratch) : Type 0 where
  pub no_table : s.table ≡ replicate 8192 0
  pub no_starts : s.starts ≡ replicate 256 0
  pub no_ends : s.ends ≡ replicate 256 0
  pub empty : (f : Form) (far : List ℕ) → Ready s.queue f far
