-- The position of the block's row by position-drawn, the turns by turns-taken; the digest stays by undrawn, or takes the hashes by drawn.
use native.Mathlib.Omega.{arith}
use mathlib.Core.Path.{ap, ◌∙◌}
use Rattle.chacha20.specs.ChaCha20.{key_words}
use Rattle.tokens.specs.Keyed.{token_key, change_from}
use Rattle.tokens.proofs.ChangeLaws.{position-drawn, turns-taken, undrawn, drawn}
use Rattle.tokens.proofs.changed.Goals as goal

pub returns-then-positions-walk : goal.returns-then-positions-walk
returns-then-positions-walk c =
    let a = c.args in
    let k = token_key a.w a.i.0 in
    let words = c.key_words-words.ensures ∙ ap key_words c.token_key-k.ensures in
    undrawn k (token_key a.z a.i.0) a.rows a.positions a.m.0 _ _ (change_from a.old a.new) a.x
    (position-drawn k _ a.rows a.m.0 _ _ words c.row_of-row.ensures.0 c.backward-walk.ensures.value_value.0)
    (turns-taken k _ a.rows a.m.0 _ _ words c.row_of-row.ensures.0 c.backward-walk.ensures.value_value.1)
    c.if-positions-walk.true

pub returns : goal.returns
returns c =
    let a = c.args in
    let k = token_key a.w a.i.0 in
    let words = c.key_words-words.ensures ∙ ap key_words c.token_key-k.ensures in
    drawn k (token_key a.z a.i.0) a.rows a.positions a.m.0 _ _ (change_from a.old a.new) a.x
    (position-drawn k _ a.rows a.m.0 _ _ words c.row_of-row.ensures.0 c.backward-walk.ensures.value_value.0)
    (turns-taken k _ a.rows a.m.0 _ _ words c.row_of-row.ensures.0 c.backward-walk.ensures.value_value.1)
    _ _ _ _ _
    (omega (arith, c.if-positions-walk.false))
    c.token_key-c.ensures
    c.column_of-column.ensures.0
    c.index_of-index.ensures
    c.mixed-y.ensures
    c.hashes_in.ensures.0
