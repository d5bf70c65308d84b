-- v has the halves of what the rounds below q make of x.
use Rattle.permutation.specs.Rounds.{Parted, rounds}
use Rattle.permutation.specs.Permutation.{round_function}
use Rattle.permutation.proofs.rounds.Given as goal

abbrev pub invariant-loop-q : goal.invariant-loop-q
invariant-loop-q g l =
    let p = g.V.Values.under l.f in
    Parted p.h l.v.high l.v.low (rounds (round_function p.key p.h) p.h l.q l.fn.x)
