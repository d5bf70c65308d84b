-- `aead::opens_at` meets its contract: a record's text and its tag, by `opens-part` of `CodeLaws`.
-- Assumes nothing.
use Rattle.std.proofs.Common.{◌≡◌, ◌+◌, ◌-◌, length, take, drop, List, ℕ, rules}
use Rattle.aead.proofs.CodeLaws.{opens-part}
use Rattle.aead.proofs.opens_at.Goals as goal

pub returns : goal.returns
returns c =
    let s : List ℕ = take (c.args.at + 48 - c.args.at) (drop c.args.at c.args.table.now) in
    let text : c.unwrap.result.0.now ≡ take (length s - 16) s = search rules in
    let tag : c.unwrap.result.1.now ≡ drop (length s - 16) s = search rules in
    opens-part _ _ _ c.args.table.now _ _ c.args.at _ c.requires text tag c.opens.ensures
