-- What a card of the code stands for, the bytes that it is written in, and the codes of its checks. Assumes nothing.
--   card_of c                   the card of the scheme
--   told_card c x y z           the card that tells of asks the last counter issued x, the pending counter y and the pending count z
--   front_bytes c, ask_bytes c   the 43 bytes that every card begins with, and the 20 bytes behind them in version 3
--   head_fault xs               1 or 2 by the first test of a lent card's size and head that fails, 0 for none
--   card_fault xs               1, 2 or 3 by the first test that a lent card fails, 0 for none
use Rattle.std.specs.Prelude.{ℕ, List, [], ◌∷◌, ◌++◌}
use Rattle.octets.specs.Octets.{be}
use Rattle.counts.specs.Codes.{wrong_length, bad_header, out_of_limits}
use Rattle.scheme.specs.Checks.{first}
use Rattle.scheme.specs.Records as S
use Rattle.cards.specs.declared.Card.{Card}

unfoldable pub card_of : Card → S.Card
card_of c = record {
  version = c.version;
  id = c.id;
  B = c.block_bytes;
  d = c.rows;
  r = c.positions;
  t = c.tokens;
  n = c.blocks;
  ctr = c.counter;
  next = c.next;
  open' = c.open_token;
  last = c.last;
  pending = c.pending;
  count = c.count;
}

abbrev pub told_card : S.Card → ℕ → ℕ → ℕ → S.Card
told_card c last pending count = record {
  version = c.version;
  id = c.id;
  B = c.B;
  d = c.d;
  r = c.r;
  t = c.t;
  n = c.n;
  ctr = c.ctr;
  next = c.next;
  open' = c.open';
  last = last;
  pending = pending;
  count = count;
}

unfoldable pub front_bytes : S.Card → List ℕ
front_bytes c =
    be 2 (S.card_length c.version) ++ (c.version ∷ []) ++ c.id ++ be 2 c.B ++ be 4 c.d ++ be 2 c.r ++ be 4 c.t
    ++ be 4 c.n ++ be 8 c.ctr ++ be 4 c.next ++ be 4 c.open'

unfoldable pub ask_bytes : S.Card → List ℕ
ask_bytes c = be 8 c.last ++ be 8 c.pending ++ be 4 c.count

-- "1 for buffers of fixed size, 2"
unfoldable pub head_fault : List ℕ → ℕ
head_fault xs = first 0 ((S.card_sized xs, wrong_length) ∷ (S.card_head xs, bad_header) ∷ [])

-- and then "3"
unfoldable pub card_fault : List ℕ → ℕ
card_fault xs = first 0 ((S.card_sized xs, wrong_length) ∷ (S.card_head xs, bad_header) ∷ (S.card_fits (S.read_card xs), out_of_limits) ∷ [])
