-- Paper 01's marked sums as one joint proof, and what the definitions come to when written out. Assumes nothing.
--   marked                                             the marked sums
--   columns                                            how many blocks a row has
--   card-layout, card-three, record-layout, message-layout, reply-layout   the bytes of each record
--   keys                                               the keys W, Z, K, k and c
--   marks                                              what is hashed of a block: nothing more in version 1, in version 2 a mark byte before it
--   row-two, token-two, token-one                      a row's digest and a token; with fewer blocks than rows
--   numbers                                            the numbers of the causes
use Prim.Native.Nat.{ℕ}
use mathlib.Core.Path.{◌≡◌, refl}
use mathlib.Core.List.{List, [], ◌∷◌, ◌++◌}
use lib.ListN.{replicate}
use Rattle.octets.specs.Octets.{le, be, of_le, of_be, xors}
use Rattle.schedule.specs.Calendar.{leap, month_days, time_fits, year_days, days_of_years, days_of_months, day_number, weekday}
use Rattle.schedule.specs.Hours.{start_of, end_of, all_below, plan_fits, own, over, allowed, allowed_at}
use Rattle.scheme.specs.Checks.{first}
use Rattle.scheme.specs.Lists.{joined, xor_below}
use Rattle.scheme.specs.Primitives.{Primitives}
use Rattle.scheme.specs.Marks.{version_fits, live, deleted}
use Rattle.scheme.specs.Records.{card_bytes, read_card, shape_fits, token_fits, blocks_fit, asks_fit, card_fits, head_known, card_length, card_sized, card_head, clear_bytes}
use Rattle.scheme.specs.Records.{nonce_bytes, message_bytes, reply_bytes}
use Rattle.scheme.specs.Tokens.{row_of, column_of, block_in, columns_of, block_at, index_of, key_w, key_z, key_k, draw_key, hash_key, block_hash}
use Rattle.scheme.specs.Tokens.{column_hash, drawn_row, row_digest, digest, token}
use Rattle.scheme.specs.Table.{sealed_record}
use Rattle.scheme.specs.Judging.{wrong_size, wrong_header, other_token, other_counter, bad_tag, other_digest, no_cause, cause_number, verdict_of}
use Rattle.scheme.proofs.examples.ComputedExamples.{always, saturday}
use Rattle.scheme.specs.Calls.{set_up_code, draw_code}

-- a file of d 5, r 5, t 1 whose card has the next token given
abbrev five : ℕ → List ℕ
five next = card_bytes (record { version = 1; id = replicate 8 0; B = 1; d = 5; r = 5; t = 1; n = 5; ctr = 0; next = next; open' = 0; last = 0; pending = 0; count = 0 })

-- "With d = 5: block 1 is row 1 column 0; 5 is row 5 column 0; 6 is row 1 column 1; 12 is row 2 column 2. Position 3 in column 2
-- hashes index 13 .. Three tokens need 189 table bytes. Nonce for ctr 1, token 2: 0x000000000000000100000002. Unmarked: r 5 with d 5 is
-- taken; t = 1 allows one draw"
pub marked : (P : Primitives)
    → (row_of 5 1 ≡ 1) × (column_of 5 1 ≡ 0) × (row_of 5 5 ≡ 5) × (column_of 5 5 ≡ 0) × (row_of 5 6 ≡ 1) × (column_of 5 6 ≡ 1) × (row_of 5 12 ≡ 2) × (column_of 5 12 ≡ 2)
    × (index_of 5 2 3 ≡ 13)
    × (set_up_code P (replicate 32 0) (replicate 8 0) 1 1 5 5 3 5 (replicate 5 0) (replicate 43 0) (replicate 189 0) (replicate 16 0) ≡ 0)
    × (set_up_code P (replicate 32 0) (replicate 8 0) 1 1 5 5 3 5 (replicate 5 0) (replicate 43 0) (replicate 188 0) (replicate 16 0) ≡ 1)
    × (nonce_bytes 1 2 ≡ 0x00 ∷ 0x00 ∷ 0x00 ∷ 0x00 ∷ 0x00 ∷ 0x00 ∷ 0x00 ∷ 0x01 ∷ 0x00 ∷ 0x00 ∷ 0x00 ∷ 0x02 ∷ [])
    × (draw_code P (replicate 32 0) (five 1) (replicate 91 0) always saturday ≡ 0)
    × (draw_code P (replicate 32 0) (five 2) (replicate 91 0) always saturday ≡ 6)
unfolding leap month_days time_fits year_days days_of_years days_of_months day_number weekday start_of end_of all_below plan_fits own over allowed allowed_at joined row_of
    column_of index_of set_up_code draw_code first version_fits shape_fits token_fits blocks_fit asks_fit card_fits head_known card_length card_sized card_head card_bytes read_card
    nonce_bytes be le of_be of_le
marked P = (refl, refl, refl, refl, refl, refl, refl, refl, refl, refl, refl, refl, refl, refl)

-- of 12 blocks in five rows, rows 1 and 2 have three and the others two; of 3 blocks, rows 4 and 5 have none
pub columns : (columns_of 5 12 1 ≡ 3) × (columns_of 5 12 2 ≡ 3) × (columns_of 5 12 3 ≡ 2) × (columns_of 5 12 5 ≡ 2) × (columns_of 5 5 5 ≡ 1)
    × (columns_of 5 3 3 ≡ 1) × (columns_of 5 3 4 ≡ 0) × (columns_of 5 3 5 ≡ 0)
unfolding columns_of
columns = (refl, refl, refl, refl, refl, refl, refl, refl)

-- "Card, 43: length 41, version, file id 8, B 2, d 4, r 2, t 4, n 4, ctr 8, next 4, open 4"
module _ (a b c d e f g h : ℕ) where
  pub card-layout : card_bytes (record {
    version = 2;
    id = a ∷ b ∷ c ∷ d ∷ e ∷ f ∷ g ∷ h ∷ [];
    B = 0x0102;
    d = 0x03040506;
    r = 0x0708;
    t = 0x090a0b0c;
    n = 0x0d0e0f10;
    ctr = 0x1112131415161718;
    next = 0x191a1b1c;
    open' = 0x1d1e1f20;
    last = 0x1112131415161718;
    pending = 0;
    count = 0;
  })
      ≡ 0 ∷ 41 ∷ 2 ∷ a ∷ b ∷ c ∷ d ∷ e ∷ f ∷ g ∷ h ∷ 0x01 ∷ 0x02 ∷ 0x03 ∷ 0x04 ∷ 0x05 ∷ 0x06 ∷ 0x07 ∷ 0x08 ∷ 0x09 ∷ 0x0a ∷ 0x0b ∷ 0x0c ∷ 0x0d ∷ 0x0e ∷ 0x0f ∷ 0x10
      ∷ 0x11 ∷ 0x12 ∷ 0x13 ∷ 0x14 ∷ 0x15 ∷ 0x16 ∷ 0x17 ∷ 0x18 ∷ 0x19 ∷ 0x1a ∷ 0x1b ∷ 0x1c ∷ 0x1d ∷ 0x1e ∷ 0x1f ∷ 0x20 ∷ []
  unfolding card_bytes card_length be le
  card-layout = refl

  -- "Card version 3 (63 bytes, length 61) adds the last counter issued 8, and the pending counter 8 and pending block count 4"
  pub card-three : card_bytes (record {
    version = 3;
    id = a ∷ b ∷ c ∷ d ∷ e ∷ f ∷ g ∷ h ∷ [];
    B = 0x0102;
    d = 0x03040506;
    r = 0x0708;
    t = 0x090a0b0c;
    n = 0x0d0e0f10;
    ctr = 0x1112131415161718;
    next = 0x191a1b1c;
    open' = 0x1d1e1f20;
    last = 0x2122232425262728;
    pending = 0x292a2b2c2d2e2f30;
    count = 0x31323334;
  })
      ≡ 0 ∷ 61 ∷ 3 ∷ a ∷ b ∷ c ∷ d ∷ e ∷ f ∷ g ∷ h ∷ 0x01 ∷ 0x02 ∷ 0x03 ∷ 0x04 ∷ 0x05 ∷ 0x06 ∷ 0x07 ∷ 0x08 ∷ 0x09 ∷ 0x0a ∷ 0x0b ∷ 0x0c ∷ 0x0d ∷ 0x0e ∷ 0x0f ∷ 0x10
      ∷ 0x11 ∷ 0x12 ∷ 0x13 ∷ 0x14 ∷ 0x15 ∷ 0x16 ∷ 0x17 ∷ 0x18 ∷ 0x19 ∷ 0x1a ∷ 0x1b ∷ 0x1c ∷ 0x1d ∷ 0x1e ∷ 0x1f ∷ 0x20 ∷ 0x21 ∷ 0x22 ∷ 0x23 ∷ 0x24 ∷ 0x25 ∷ 0x26
      ∷ 0x27 ∷ 0x28 ∷ 0x29 ∷ 0x2a ∷ 0x2b ∷ 0x2c ∷ 0x2d ∷ 0x2e ∷ 0x2f ∷ 0x30 ∷ 0x31 ∷ 0x32 ∷ 0x33 ∷ 0x34 ∷ []
  unfolding card_bytes card_length be le
  card-three = refl

  -- "Message, 91: length 89, version, file id 8, i 4 (1 to 65,536), B 2, d 4, r 2, n 4, k 32, c 32"
  pub message-layout : (kk cc : List ℕ)
      → message_bytes (record { version = 2; id = a ∷ b ∷ c ∷ d ∷ e ∷ f ∷ g ∷ h ∷ []; i = 0x01020304; B = 0x0506; d = 0x0708090a; r = 0x0b0c; n = 0x0d0e0f10; k = kk; c = cc })
      ≡ 0 ∷ 89 ∷ 2 ∷ a ∷ b ∷ c ∷ d ∷ e ∷ f ∷ g ∷ h ∷ 0x01 ∷ 0x02 ∷ 0x03 ∷ 0x04 ∷ 0x05 ∷ 0x06 ∷ 0x07 ∷ 0x08 ∷ 0x09 ∷ 0x0a ∷ 0x0b ∷ 0x0c ∷ 0x0d ∷ 0x0e ∷ 0x0f ∷ 0x10
      ∷ (kk ++ cc)
  unfolding message_bytes be le
  message-layout kk cc = refl

  -- "Reply, 110: length 108, version, file id 8, i 4, digest 32, token record 63"
  pub reply-layout : (dg rec : List ℕ)
      → reply_bytes 2 (a ∷ b ∷ c ∷ d ∷ e ∷ f ∷ g ∷ h ∷ []) 0x01020304 dg rec ≡ 0 ∷ 108 ∷ 2 ∷ a ∷ b ∷ c ∷ d ∷ e ∷ f ∷ g ∷ h ∷ 1 ∷ 2 ∷ 3 ∷ 4 ∷ (dg ++ rec)
  unfolding reply_bytes be le
  reply-layout dg rec = refl

module _ (P : Primitives) where
  -- "Token record, 63: length 61, version, ctr 8, i 4, sealed token 32, tag 16. Key K, nonce ctr then i; the first 15 bytes stay clear and are the
  -- associated data"
  pub record-layout : (key x : List ℕ)
      → sealed_record P key 2 0x0102030405060708 0x090a0b0c x
      ≡ 0 ∷ 61 ∷ 2 ∷ 1 ∷ 2 ∷ 3 ∷ 4 ∷ 5 ∷ 6 ∷ 7 ∷ 8 ∷ 9 ∷ 10 ∷ 11 ∷ 12
      ∷ P.sealed key (1 ∷ 2 ∷ 3 ∷ 4 ∷ 5 ∷ 6 ∷ 7 ∷ 8 ∷ 9 ∷ 10 ∷ 11 ∷ 12 ∷ []) (0 ∷ 61 ∷ 2 ∷ 1 ∷ 2 ∷ 3 ∷ 4 ∷ 5 ∷ 6 ∷ 7 ∷ 8 ∷ 9 ∷ 10 ∷ 11 ∷ 12 ∷ []) x
  unfolding sealed_record clear_bytes nonce_bytes be le
  record-layout key x = refl

  -- "W, Z, K = HMAC(master, label then id), label one byte 1, 2, 3. For token i (four bytes): k = HMAC(W, i), c = HMAC(Z, i)"
  pub keys : (master id : List ℕ)
      → (draw_key P master id 0x01020304 ≡ P.hmac (P.hmac master (1 ∷ id)) (1 ∷ 2 ∷ 3 ∷ 4 ∷ []))
      × (hash_key P master id 0x01020304 ≡ P.hmac (P.hmac master (2 ∷ id)) (1 ∷ 2 ∷ 3 ∷ 4 ∷ []))
      × (key_k P master id ≡ P.hmac master (3 ∷ id))
  unfolding draw_key hash_key key_w key_z key_k be le
  keys master id = (refl, refl, refl)

  -- "one mark byte (0 live, 1 deleted) stands between index and block in the hash"
  pub marks : (c block : List ℕ)
      → (block_hash P c 13 (live 1 ++ block) ≡ P.hash (c ++ (0 ∷ 0 ∷ 0 ∷ 13 ∷ []) ++ block))
      × (block_hash P c 13 (live 2 ++ block) ≡ P.hash (c ++ (0 ∷ 0 ∷ 0 ∷ 13 ∷ []) ++ (0 ∷ block)))
      × (block_hash P c 13 (deleted 1 ++ block) ≡ P.hash (c ++ (0 ∷ 0 ∷ 0 ∷ 13 ∷ []) ++ block))
      × (block_hash P c 13 (deleted 2 ++ block) ≡ P.hash (c ++ (0 ∷ 0 ∷ 0 ∷ 13 ∷ []) ++ (1 ∷ block)))
  unfolding block_hash live deleted be le
  marks c block = (refl, refl, refl, refl)

  module _ (c b₁ b₂ b₃ b₄ b₅ b₆ b₇ b₈ b₉ b₁₀ b₁₁ b₁₂ : List ℕ) where
    -- row 2 of 12 blocks at position 3: blocks 2, 7 and 12 with the indices 3, 8 and 13
    pub row-two : row_digest P c 5 2 3 (b₁ ∷ b₂ ∷ b₃ ∷ b₄ ∷ b₅ ∷ b₆ ∷ b₇ ∷ b₈ ∷ b₉ ∷ b₁₀ ∷ b₁₁ ∷ b₁₂ ∷ [])
        ≡ xors (xors (xors (replicate 32 0) (P.hash (c ++ (0 ∷ 0 ∷ 0 ∷ 3 ∷ []) ++ b₂))) (P.hash (c ++ (0 ∷ 0 ∷ 0 ∷ 8 ∷ []) ++ b₇))) (P.hash (c ++ (0 ∷ 0 ∷ 0 ∷ 13 ∷ []) ++ b₁₂))
    unfolding row_digest column_hash xor_below columns_of block_hash index_of block_in block_at be le
    row-two = refl

    -- d 2 and r 2 over three blocks, where P takes 0 to 1 and 1 to 0: position 1 draws row 2 (block 2, index 1), position 2 row 1 (blocks 1 and 3, indices 2 and 4)
    pub token-two : (master id : List ℕ) → P.perm (draw_key P master id 1) 2 0 ≡ 1 → P.perm (draw_key P master id 1) 2 1 ≡ 0
        → token P master id 2 2 1 (b₁ ∷ b₂ ∷ b₃ ∷ [])
        ≡ xors (xors (replicate 32 0)
        (xors (replicate 32 0) (P.hash (hash_key P master id 1 ++ (0 ∷ 0 ∷ 0 ∷ 1 ∷ []) ++ b₂))))
        (xors (xors (replicate 32 0) (P.hash (hash_key P master id 1 ++ (0 ∷ 0 ∷ 0 ∷ 2 ∷ []) ++ b₁))) (P.hash (hash_key P master id 1 ++ (0 ∷ 0 ∷ 0 ∷ 4 ∷ []) ++ b₃)))
    unfolding token digest drawn_row row_digest column_hash xor_below columns_of block_hash index_of block_in block_at be le
    token-two master id p q = rw (p, q)

    -- over one block: position 1 draws row 2, which is empty and adds nothing, position 2 row 1 (block 1, index 2)
    pub token-one : (master id : List ℕ) → P.perm (draw_key P master id 1) 2 0 ≡ 1 → P.perm (draw_key P master id 1) 2 1 ≡ 0
        → token P master id 2 2 1 (b₁ ∷ [])
        ≡ xors (xors (replicate 32 0) (replicate 32 0)) (xors (replicate 32 0) (P.hash (hash_key P master id 1 ++ (0 ∷ 0 ∷ 0 ∷ 2 ∷ []) ++ b₁)))
    unfolding token digest drawn_row row_digest column_hash xor_below columns_of block_hash index_of block_in block_at be le
    token-one master id p q = rw (p, q)

-- "the place, from 1, of the first that holds"; "Accepted (0)", "Otherwise verdict 11"
pub numbers : (cause_number no_cause ≡ 0) × (cause_number wrong_size ≡ 1) × (cause_number wrong_header ≡ 2) × (cause_number other_token ≡ 3) × (cause_number other_counter ≡ 4)
    × (cause_number bad_tag ≡ 5) × (cause_number other_digest ≡ 6) × (verdict_of no_cause ≡ 0) × (verdict_of wrong_size ≡ 11) × (verdict_of other_digest ≡ 11)
unfolding cause_number verdict_of
numbers = (refl, refl, refl, refl, refl, refl, refl, refl, refl, refl)
