-- With nothing waiting a queue stands for its sum, by held_all.
use borrow.Author.Rules.{rules}
use mathlib.Core.Path.{refl, sym}
use lib.ListN.{replicate}
use Rattle.hash_queue.specs.declared.Sum.{Sum}
use Rattle.hash_queue.proofs.WaitingLaws.{held_all, sound_none}
use Rattle.hash_queue.proofs.Queue.restart.Goals as goal

pub returns : goal.returns
returns c =
    let s : Sum = record { x = c.args.x; fill = 0 } in
    λ f far. (sound_none s f far (search rules) refl, sym (held_all c.args.self.now.places f far s (replicate 16 0) (search rules) refl))
