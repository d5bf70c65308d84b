-- No data block is lost, so all are chosen.
use mathlib.Core.Path.{◌≡◌, ◌∙◌}
use native.Mathlib.Omega.{arith}
use lib.ListN.{replicate}
use Rattle.erasure.specs.Group.{count}
use Rattle.parity.proofs.CallLaws.{all-chosen, none-lost, front-is, front_length}
use Rattle.parity.proofs.encode_group.Goals as goal

pub slice_bounds-numbers-end : goal.slice_bounds-numbers-end
slice_bounds-numbers-end c = omega (arith, all-chosen c.choose-n.result c.args.k c.choose-n.ensures.0, c.requires.le_size.2, c.choose-n.auto.out)

pub slice_bounds-vs-end : goal.slice_bounds-vs-end
slice_bounds-vs-end c = omega (arith, all-chosen c.choose-n.result c.args.k c.choose-n.ensures.0, c.requires.le_size.2)

pub slice_bounds-ws-end : goal.slice_bounds-ws-end
slice_bounds-ws-end c = omega (arith, all-chosen c.choose-n.result c.args.k c.choose-n.ensures.0, c.requires.le_size.2)

pub encode_from-requires : goal.encode_from-requires
encode_from-requires c =
    let h = c.choose-n in
    let e : h.result ≡ c.args.k = all-chosen h.result c.args.k h.ensures.0 in
    let room = front_length h.result (replicate 48 0) (omega (arith, c.requires.le_size.2)) ∙ e in record {
      counted = front-is h.result h.new.out (count 0 c.args.k) (h.ensures.1 ∙ none-lost c.args.k);
      whole = c.requires.group_len;
      vs_len = (room, room);
      le_size = (c.requires.le_size.0, omega (arith, c.requires.le_size));
      parity_len = c.requires.parity_len;
    }
