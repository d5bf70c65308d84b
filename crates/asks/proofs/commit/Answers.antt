-- A refusal leaves the card; what is written is the scheme's by settled.
use mathlib.Core.Path.{refl, ◌∙◌}
use Rattle.counts.proofs.RefusedLaws.{refuses, passed-on}
use Rattle.scheme.specs.Changes.{committed_card}
use Rattle.scheme.specs.Asks.{commit_card}
use Rattle.scheme.proofs.laws.CheckLaws.{refusal-kept}
use Rattle.cards.proofs.FaultLaws.{card-read}
use Rattle.asks.proofs.SettleLaws.{settle-fine, settled, committed-room}
use Rattle.asks.proofs.commit.Goals as goal

pub returns-in_err-check_pending : goal.returns-in_err-check_pending
unfolding commit_card
returns-in_err-check_pending c =
    let refused = c.in_err-check_pending in record {
      value = passed-on _ _ c.from_residual.ensures ∙ refused.ensures;
      card_after = refusal-kept _ _ c.args.card.now _ refused.ensures (refuses refused.field-0.0);
    }

pub read_card-c-requires : goal.read_card-c-requires
read_card-c-requires c = card-read c.args.card.now (settle-fine c.args.card.now 0 c.in_ok-check_pending.ensures refl)

pub write_card-requires : goal.write_card-requires
write_card-requires c =
    let read = c.read_card-c in
    committed-room c.args.card.now 0 c.in_ok-check_pending.ensures refl read.result c.committed.result read.ensures c.committed.ensures

pub returns : goal.returns
unfolding commit_card
returns c =
    let read = c.read_card-c in record {
      value = c.in_ok-check_pending.ensures;
      card_after = settled c.args.card.now 0 c.in_ok-check_pending.ensures refl read.result c.committed.result read.ensures committed_card _ c.committed.ensures
          c.write_card.ensures;
    }
