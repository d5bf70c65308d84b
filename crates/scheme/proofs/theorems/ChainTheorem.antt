-- #113: a pooled reply that carries the drawn files' records is accepted exactly when it sends the xor of their fresh tokens. Assumes nothing.
--   cards_of, entries_of, fresh_sum   the cards of books, what they have of a pooled reply, and the xor of their open tokens
--   AllDrawn                       good books of one master, each with a token open
--   CarriesAll, pool-judged        the theorem about books
--   File, state_after, chain-exactly      the same of files after an accepted set-up and any list of calls each, and of the call
use Prim.Native.Nat.{ℕ, suc, ◌+◌, ◌*◌, ◌≤◌}
use native.Mathlib.Omega.{arith}
use mathlib.Core.Path.{◌≡◌, refl, sym, ap, ap₂, ◌∙◌}
use mathlib.Core.Logic.{◌↔◌}
use mathlib.Core.List.{List, [], ◌∷◌, ◌++◌}
use mathlib.Core.Option.{some}
use mathlib.Core.Bool.{true}
use borrow.Author.Tests.{eqb-true, eq-eqb, lt-ltb}
use lib.ListN.{length, get_or, take, drop, replicate, length-append}
use lib.Seq.{take_at, drop_at, take_all}
use lib.Dec.{eqb, ltb}
use Rattle.octets.specs.Octets.{be, of_be, part, xors}
use Rattle.octets.proofs.NumberLaws.{be-back, length-be}
use Rattle.scheme.specs.Checks.{within}
use Rattle.scheme.specs.Lists.{joined}
use Rattle.scheme.specs.Primitives.{Primitives}
use Rattle.scheme.specs.Records.{Card, card_bytes, card_fits, card_head, head_fits, record_at}
use Rattle.scheme.specs.Tokens.{key_k}
use Rattle.scheme.specs.Table.{value, sealed_record}
use Rattle.scheme.specs.Judging.{opened_body}
use Rattle.scheme.specs.Calls.{set_up_code, set_up_card, set_up_table}
use Rattle.scheme.specs.Pools.{cut, read_all, every, distinct, in_limits, is_open, pool_fault, passes, all_pass, pool_sum, pool_verdict, pool_code}
use Rattle.scheme.specs.Roles.{may_pool, permits, under}
use Rattle.scheme.specs.Runs.{Lent, Ran, run}
use Rattle.scheme.specs.Book.{Book, started, book_card, fresh_token, fresh_record, book_table, book_last, Honest}
use Rattle.scheme.proofs.laws.CheckLaws.{passed, passed-all, both, pair}
use Rattle.scheme.proofs.laws.RecordLaws.{card-head, sealed-head, sealed-ctr, sealed-i, sealed-body}
use Rattle.scheme.proofs.laws.PoolLaws.{cut-told, heads-told, heads-fault, pool-exactly}
use Rattle.scheme.proofs.theorems.PoolTheorem.{its-names, its-record, its-rest, is-there, Passed, passed_is}
use Rattle.scheme.proofs.laws.BookLaws.{Good, in_order, back, open-small, token-long, fresh-long, table-open}
use Rattle.scheme.proofs.laws.RoleLaws.{permitted}
use Rattle.scheme.proofs.theorems.ListTheorem.{last-good, last-key, start-good, start-held, theorem}

abbrev pub cards_of : List Book → List Card
cards_of [] = []
cards_of (b ∷ bs) = book_card b ∷ cards_of bs

module _ (P : Primitives) where
  -- "for each card in turn id 8, i 4, record 63": the record of its open token from its table
  abbrev pub entries_of : List Book → List ℕ
  entries_of [] = []
  entries_of (b ∷ bs) = b.id ++ be 4 b.open' ++ record_at b.open' (book_table P b) ++ entries_of bs

  -- the xor of the fresh tokens that are open, onto x
  abbrev pub fresh_sum : List ℕ → List Book → List ℕ
  fresh_sum x [] = x
  fresh_sum x (b ∷ bs) = fresh_sum (xors x (fresh_token P b b.open')) bs

  module _ (master : List ℕ) where
    abbrev pub AllDrawn : List Book → Type 0
    AllDrawn [] = Unit {0}
    AllDrawn (b ∷ bs) = Good P b × (1 ≤ b.open') × (b.key ≡ master) × AllDrawn bs

    -- one file's part of a reply
    module _ (b : Book) (g : Good P b) (opn : 1 ≤ b.open') (own : b.key ≡ master) (rest : List ℕ) where
      abbrev names : List ℕ
      names = b.id ++ be 4 b.open'

      abbrev rec : List ℕ
      rec = record_at b.open' (book_table P b)

      fresh : rec ≡ fresh_record P b b.open'
      fresh = table-open P b g opn

      twelve : length names ≡ 12
      twelve = omega (arith, length-append b.id (be 4 b.open'), g.id8, length-be 4 b.open')

      long : length rec ≡ 63
      long = ap length fresh ∙ fresh-long P b b.open'

      carried-fresh : part 12 63 (names ++ rec ++ rest) ≡ fresh_record P b b.open'
      carried-fresh = its-record names rec rest twelve long ∙ fresh

      its-token : opened_body P master (book_card b) (part 12 63 (names ++ rec ++ rest)) ≡ some (fresh_token P b b.open')
      unfolding book_card fresh_record
      its-token =
          ap (opened_body P master (book_card b)) carried-fresh
          ∙ ap (λ (k : List ℕ). opened_body P k (book_card b) (fresh_record P b b.open')) (sym own)
          ∙ sealed-body P _ b.version b.ctr b.open' (fresh_token P b b.open') (token-long P b b.open')

      -- the fresh record has its head, counter and number
      head-fresh : (of_be (part 0 2 (fresh_record P b b.open')) ≡ 61) × (get_or (fresh_record P b b.open') 2 0 ≡ b.version)
      unfolding fresh_record head_fits
      head-fresh =
          let x = fresh_token P b b.open' in
          let f = sealed_record P (key_k P b.key b.id) b.version b.ctr b.open' x in
          let h = both (eqb (of_be (part 0 2 f)) 61) (eqb (get_or f 2 0) b.version) (sealed-head P (key_k P b.key b.id) b.version b.ctr b.open' x) in
          (eqb-true (of_be (part 0 2 f)) 61 h.0, eqb-true (get_or f 2 0) b.version h.1)

      numbers-fresh : (of_be (part 3 8 (fresh_record P b b.open')) ≡ b.ctr) × (of_be (part 11 4 (fresh_record P b b.open')) ≡ b.open')
      unfolding fresh_record
      numbers-fresh =
          let key = key_k P b.key b.id in
          let x = fresh_token P b b.open' in (
            sealed-ctr P key b.version b.ctr b.open' x (omega (arith, g.limits.ctrmost)),
            sealed-i P key b.version b.ctr b.open' x (omega (arith, open-small P b g)),
          )

      its-number : of_be (part 8 4 (names ++ rec ++ rest)) ≡ b.open'
      its-number =
          ap of_be (its-names names rec rest twelve long 8 4 (omega arith) ∙ ap (take 4) (drop_at b.id (be 4 b.open') 8 g.id8))
          ∙ ap of_be (take_all 4 (be 4 b.open') (omega (arith, length-be 4 b.open')))
          ∙ be-back 4 b.open' (omega (arith, open-small P b g))

      its-passed : Passed P master (book_card b) (names ++ rec ++ rest)
      its-passed = record {
        ids = unfold book_card in its-names names rec rest twelve long 0 8 (omega arith) ∙ take_at b.id (be 4 b.open') 8 g.id8;
        i = unfold book_card in its-number;
        record_length = ap (λ (u : List ℕ). of_be (part 0 2 u)) carried-fresh ∙ head-fresh.0;
        record_version = unfold book_card in ap (λ (u : List ℕ). get_or u 2 0) carried-fresh ∙ head-fresh.1;
        record_ctr = unfold book_card in ap (λ (u : List ℕ). of_be (part 3 8 u)) carried-fresh ∙ numbers-fresh.0;
        record_i = unfold book_card in ap (λ (u : List ℕ). of_be (part 11 4 u)) carried-fresh ∙ numbers-fresh.1;
        tag = is-there (opened_body P master (book_card b) (part 12 63 (names ++ rec ++ rest))) (fresh_token P b b.open') its-token;
      }

      its-pass : passes P master (book_card b) (names ++ rec ++ rest) ≡ true
      its-pass = passed_is P master (book_card b) (names ++ rec ++ rest) its-passed

      beyond-it : drop 75 (names ++ rec ++ rest) ≡ rest
      beyond-it = its-rest names rec rest twelve long

    books_pass : (bs : List Book) → AllDrawn bs → all_pass P master (cards_of bs) (entries_of bs) ≡ true
    unfolding all_pass
    books_pass [] d = refl
    books_pass (b ∷ bs) d =
        let rest = entries_of bs in
        pair _ _ (its-pass b d.0 d.1 d.2 rest) (ap (all_pass P master (cards_of bs)) (beyond-it b d.0 d.1 d.2 rest) ∙ books_pass bs d.3)

    books-sum : (x : List ℕ) (bs : List Book) → AllDrawn bs → pool_sum P master x (cards_of bs) (entries_of bs) ≡ fresh_sum x bs
    unfolding pool_sum
    books-sum x [] d = refl
    books-sum x (b ∷ bs) d =
        let rest = entries_of bs in
        ap₂ (λ (y z : List ℕ). pool_sum P master (xors x y) (cards_of bs) z) (ap value (its-token b d.0 d.1 d.2 rest)) (beyond-it b d.0 d.1 d.2 rest)
        ∙ books-sum (xors x (fresh_token P b b.open')) bs d.3

    -- a reply whose size, length, version and number fit and which carries the records
    pub record CarriesAll (bs : List Book) (reply : List ℕ) : Type 0 where
      pub size : length reply ≡ 37 + 75 * length (cards_of bs)
      pub own_length : of_be (part 0 2 reply) ≡ 35 + 75 * length (cards_of bs)
      pub own_version : get_or reply 2 0 ≡ 1
      pub own_number : of_be (part 3 2 reply) ≡ length (cards_of bs)
      pub entries : drop 37 reply ≡ entries_of bs

    pub pool-judged : (bs : List Book) → AllDrawn bs → (reply : List ℕ) → CarriesAll bs reply
        → (pool_verdict P master (cards_of bs) reply ≡ 0) ↔ (part 5 32 reply ≡ fresh_sum (replicate 32 0) bs)
    pool-judged bs d reply h =
        let rule = pool-exactly P master (cards_of bs) reply in
        let sum : pool_sum P master (replicate 32 0) (cards_of bs) (drop 37 reply) ≡ fresh_sum (replicate 32 0) bs =
        ap (pool_sum P master (replicate 32 0) (cards_of bs)) h.entries ∙ books-sum (replicate 32 0) bs d in (
          λ e. sym (rule.0 e).sum ∙ sum,
          λ e. rule.1 (record {
            size = h.size;
            own_length = h.own_length;
            own_version = h.own_version;
            own_number = h.own_number;
            all = ap (all_pass P master (cards_of bs)) h.entries ∙ books_pass bs d;
            sum = sum ∙ sym e;
          }),
        )

-- the bytes of the books' cards
abbrev listed : List Book → List (List ℕ)
listed [] = []
listed (b ∷ bs) = card_bytes (book_card b) ∷ listed bs

module _ (P : Primitives) (master : List ℕ) where
  -- the checks of a pooled judgement on the cards of drawn books
  module _ where
    all-heads : (bs : List Book) → AllDrawn P master bs → every card_head (listed bs) ≡ true
    unfolding every
    all-heads [] d = refl
    all-heads (b ∷ bs) d = pair _ _ (card-head (book_card b) (unfold book_card in d.0.id8) (unfold book_card in d.0.ver)) (all-heads bs d.3)

    all-limits : (bs : List Book) → AllDrawn P master bs → every in_limits (listed bs) ≡ true
    unfolding every
    all-limits [] d = refl
    all-limits (b ∷ bs) d = pair _ _ (ap card_fits (back P b d.0) ∙ (in_order P b d.0).fits) (all-limits bs d.3)

    all-open : (bs : List Book) → AllDrawn P master bs → every is_open (listed bs) ≡ true
    unfolding every
    all-open [] d = refl
    all-open (b ∷ bs) d =
        pair _ _ (ap (λ (c : Card). ltb 0 c.open') (back P b d.0) ∙ (unfold book_card in lt-ltb 0 b.open' d.1)) (all-open bs d.3)

    all_read : (bs : List Book) → AllDrawn P master bs → read_all (listed bs) ≡ cards_of bs
    unfolding read_all
    all_read [] d = refl
    all_read (b ∷ bs) d = ap₂ (λ (c : Card) (cs : List Card). c ∷ cs) (back P b d.0) (all_read bs d.3)

    as_many : (bs : List Book) → length (listed bs) ≡ length (cards_of bs)
    as_many [] = refl
    as_many (b ∷ bs) = ap (λ (n : ℕ). suc n) (as_many bs)

  module _ (bs : List Book) (d : AllDrawn P master bs) (key : length master ≡ 32) (many : within 2 16 (length (cards_of bs)) ≡ true) (apart : distinct (cards_of bs) ≡ true) where
    cut-is : cut (joined (listed bs)) ≡ listed bs
    cut-is = cut-told (listed bs) (heads-told (listed bs) (all-heads bs d))

    no-fault : pool_fault master (joined (listed bs)) ≡ 0
    unfolding pool_fault
    no-fault =
        rw (heads-fault (listed bs) (all-heads bs d), cut-is, all_read bs d, as_many bs)
        (passed _ _ (eq-eqb (length master) 32 key)
        (passed _ _ (all-heads bs d)
        (passed _ _ (all-limits bs d)
        (passed _ _ (pair _ _ many apart)
        (passed _ _ (all-open bs d) passed-all)))))

    code_is : (reply : List ℕ) → pool_code P master (joined (listed bs)) reply ≡ pool_verdict P master (cards_of bs) reply
    unfolding pool_code
    code_is reply = rw (no-fault, cut-is, all_read bs d)

  -- a file after an accepted set-up under the master and any list of calls
  pub record File : Type 0 where
    pub id : List ℕ
    pub v : ℕ
    pub B : ℕ
    pub d : ℕ
    pub r : ℕ
    pub t : ℕ
    pub n : ℕ
    pub blocks : List ℕ
    pub card : List ℕ
    pub table : List ℕ
    pub totals : List ℕ
    pub set : set_up_code P master id v B d r t n blocks card table totals ≡ 0
    pub calls : List Lent
    pub asked : List ℕ
    pub honest : Honest P calls (started master id v B d r t n blocks)

  -- what its calls leave, and its book
  abbrev pub state_after : File → Ran
  state_after f =
      run P f.calls (set_up_card P master f.id f.v f.B f.d f.r f.t f.n f.blocks f.card f.table f.totals)
      (set_up_table P master f.id f.v f.B f.d f.r f.t f.n f.blocks f.card f.table f.totals) f.asked

  abbrev pub book_of : File → Book
  book_of f = book_last P f.calls (started master f.id f.v f.B f.d f.r f.t f.n f.blocks)

  abbrev pub books_of : List File → List Book
  books_of [] = []
  books_of (f ∷ fs) = book_of f ∷ books_of fs

  -- their cards end to end, each with a token open
  abbrev pub cards_left : List File → List ℕ
  cards_left [] = []
  cards_left (f ∷ fs) = (state_after f).card ++ cards_left fs

  abbrev pub AllOpen : List File → Type 0
  AllOpen [] = Unit {0}
  AllOpen (f ∷ fs) = (1 ≤ (book_of f).open') × AllOpen fs

  card-left : (f : File) → (state_after f).card ≡ card_bytes (book_card (book_of f))
  card-left f =
      ap (λ (x : Ran). x.card)
      (theorem P master f.id f.v f.B f.d f.r f.t f.n f.blocks f.card f.table f.totals f.set f.calls f.asked f.honest)

  cards-left : (fs : List File) → cards_left fs ≡ joined (listed (books_of fs))
  unfolding joined
  cards-left [] = refl
  cards-left (f ∷ fs) = ap₂ (λ (x y : List ℕ). x ++ y) (card-left f) (cards-left fs)

  drawn : (fs : List File) → AllOpen fs → AllDrawn P master (books_of fs)
  unfolding started
  drawn [] o = tt
  drawn (f ∷ fs) o =
      let b = started master f.id f.v f.B f.d f.r f.t f.n f.blocks in
      let g = start-good P master f.id f.v f.B f.d f.r f.t f.n f.blocks f.card f.table f.totals f.set in
      let h = start-held P master f.id f.v f.B f.d f.r f.t f.n f.blocks f.card f.table f.totals f.set f.asked in
      (last-good P f.calls b f.asked g h f.honest, o.0, last-key P f.calls b f.asked g h f.honest, drawn fs o.1)

  -- after such lists, a permitted pooled judgement accepts a reply that carries the open tokens' records exactly when it sends the xor of their fresh tokens
  pub chain-exactly : (role : ℕ) → permits role may_pool ≡ true → length master ≡ 32 → (fs : List File) → AllOpen fs
      → within 2 16 (length (cards_of (books_of fs))) ≡ true → distinct (cards_of (books_of fs)) ≡ true → (reply : List ℕ) → CarriesAll P master (books_of fs) reply
      → (under role may_pool (pool_code P master (cards_left fs) reply) 22 ≡ 0) ↔ (part 5 32 reply ≡ fresh_sum P (replicate 32 0) (books_of fs))
  chain-exactly role may key fs o many apart reply h =
      let bs = books_of fs in
      let d = drawn fs o in
      let e : under role may_pool (pool_code P master (cards_left fs) reply) 22 ≡ pool_verdict P master (cards_of bs) reply =
      permitted role may_pool (pool_code P master (cards_left fs) reply) 22 may ∙ ap (λ (xs : List ℕ). pool_code P master xs reply) (cards-left fs) ∙ code_is bs d key many apart reply in
      let rule = pool-judged P master bs d reply h in
      (λ z. rule.0 (sym e ∙ z), λ z. e ∙ rule.1 z)
