-- `aead::tag` meets its contract: three pieces fed after one another, by `tag_is` of `CodeLaws`.
-- Assumes nothing.
use Rattle.std.proofs.Common.{◌≡◌, take, rules}
use Rattle.aead.proofs.CodeLaws.{tag_is}
use Rattle.aead.proofs.tag.Goals as goal

pub returns : goal.returns
returns c =
    let b = c.block-b in
    let r = c.key_r-r in
    let z = c.start-zero in
    let h = c.feed-h in
    let i = c.feed-i in
    let e = c.ends-e in
    let j = c.feed-j in
    let once : c.unwrap-once.result.now ≡ take 32 b.result = search rules in
    tag_is _ _ _ _ b.result _ e.result _ r.result z.result h.result i.result j.result
    b.ensures once r.ensures z.ensures.0 h.ensures i.ensures e.ensures j.ensures c.closed.ensures
