-- A short message lies whole in its place, by cut_short; of a longer one the blocks between are left out, by cut-long.
use borrow.Author.Rules.{rules}
use Rattle.hash_queue.proofs.MessageLaws.{padding-is, cut_short, cut-long}
use Rattle.hash_queue.proofs.kind.form_of.Goals as goal

pub overflow_add-whole-2 : goal.overflow_add-whole-2
overflow_add-whole-2 c =
    let few = padding-is c.args.head c.args.size c.args.pad c.requires.0 c.requires.1 c.requires.2 in
    search rules

pub returns-then-whole-pad-le192 : goal.returns-then-whole-pad-le192
returns-then-whole-pad-le192 c =
    cut_short c.args.head c.args.size c.args.pad c.requires.0 c.requires.1 c.requires.2 c.if-whole-pad-le192.true

pub overflow_sub-gap : goal.overflow_sub-gap
overflow_sub-gap c =
    let few = padding-is c.args.head c.args.size c.args.pad c.requires.0 c.requires.1 c.requires.2 in
    search rules

pub overflow_add-result-2 : goal.overflow_add-result-2
overflow_add-result-2 c =
    let few = padding-is c.args.head c.args.size c.args.pad c.requires.0 c.requires.1 c.requires.2 in
    search rules

pub returns : goal.returns
returns c =
    cut-long c.args.head c.args.size c.args.pad c.requires.0 c.requires.1 c.requires.2 c.if-whole-pad-le192.false
