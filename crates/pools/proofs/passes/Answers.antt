-- The clear bytes, then what the sealed ones open to, by part-failed and part-opened.
use Rattle.std.proofs.Common.{arith, sym, ◌∙◌, drop}
use lib.ListN.{length-drop}
use lib.Seq.{take_all}
use Rattle.pools.proofs.PoolLaws.{clear-is, part-failed, part-opened}
use Rattle.pools.proofs.passes.Goals as goal

pub returns-then-not-clear : goal.returns-then-not-clear
returns-then-not-clear c =
    let a = c.args in
    let f = c.record_in-rec.ensures ∙ sym (take_all 63 (drop 12 a.entry.now) (omega (arith, length-drop 12 a.entry.now))) in
    let head = rw f at c.head_fits-head.ensures in
    let names = rw (c.bytes.ensures, f) at c.names_fit-names.ensures in
    let counter = rw f at c.be.ensures.0 in
    part-failed a.master.now a.c a.entry.now _
    (clear-is a.master.now a.c a.entry.now _ _ _ _ head c.be-i.ensures.0 names counter) c.if-not-clear.true

pub returns : goal.returns
returns c =
    let a = c.args in
    let f = c.record_in-rec.ensures ∙ sym (take_all 63 (drop 12 a.entry.now) (omega (arith, length-drop 12 a.entry.now))) in
    let head = rw f at c.head_fits-head.ensures in
    let names = rw (c.bytes.ensures, f) at c.names_fit-names.ensures in
    let counter = rw f at c.be.ensures.0 in
    let body = rw f at c.opened.ensures in
    part-opened a.master.now a.c a.entry.now _
    (clear-is a.master.now a.c a.entry.now _ _ _ _ head c.be-i.ensures.0 names counter) c.if-not-clear.false c.sealing_key-k.result c.sealing_key-k.ensures
    c.opened.result body
