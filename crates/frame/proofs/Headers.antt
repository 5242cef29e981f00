-- The cases of what is read and set in a header, and of the parts that a range tells, each from the tests that lead to it.
-- Assumes nothing.
use mathlib.Core.Path.{◌≡◌, sym, ◌∙◌, ap}
use mathlib.Core.Bool.{Bool, true, false}
use mathlib.Core.List.{List, [], ◌∷◌}
use Prim.Native.Nat.{ℕ, ◌-◌, ◌≤◌, ◌<◌}
use native.Mathlib.Omega.{arith}
use borrow.Author.Tests.{le-leb, lt-leb, leb-true}
use lib.Dec.{leb}
use lib.ListN.{length}
use Rattle.base.specs.declared.error.Area.TheVariants.{Header}
use Rattle.base.specs.Bytes.{number}
use Rattle.base.specs.Field.{write_field}
use Rattle.base.specs.Members.{is_in}
use Rattle.base.specs.Said.{in_area, Why, within, Said, gives, refuses, done, after}
use Rattle.base.proofs.Checks.{passes, fails, goes_on, stops, needs_gives, then_gives, gives_injective}
use Rattle.base.proofs.Lists.{span, take_drop_span}
use Rattle.table.specs.Table.{row_for}
use Rattle.table.specs.Tags.{tags}
use Rattle.table.proofs.Only.{row_refused}
use Rattle.table.specs.declared.row.Row.{Row}
use Rattle.frame.specs.Header.{tag_of, size_of, code_of, reads, header, tag_of_those, read_size, read_cc, read_rc, set_tag, set_cc, set_rc, frame_prefix, frame_whole, is_of_two, read_command_tag}
use Rattle.frame.specs.Rules.{Rulebook}

module _ (s : List ℕ) where
  pub short_header : {A : Type 0} (rest : Said A) → length s < 10 → refuses (in_area Header (1 ∷ 0 ∷ 10 ∷ length s ∷ [])) ≡ header s rest
  short_header rest h = fails (leb 10 (length s)) _ rest (lt-leb 10 (length s) h)

  pub has_header : {A : Type 0} (rest : Said A) → 10 ≤ length s → rest ≡ header s rest
  has_header rest h = passes (leb 10 (length s)) _ rest (le-leb 10 (length s) h)

  -- the fields byte by byte
  pub tag_bytes : 10 ≤ length s → number (span s 0 2) ≡ tag_of s
  unfolding tag_of
  tag_bytes h = ap number (sym (take_drop_span 2 0 s (omega arith)))

  pub size_bytes : 10 ≤ length s → number (span s 2 4) ≡ size_of s
  unfolding size_of
  size_bytes h = ap number (sym (take_drop_span 4 2 s (omega arith)))

  pub code_bytes : 10 ≤ length s → number (span s 6 4) ≡ code_of s
  unfolding code_of
  code_bytes h = ap number (sym (take_drop_span 4 6 s (omega arith)))

  -- what a header's reads say of n, the field as it was read
  module _ (n : ℕ) where
    module _ (isOne : ℕ → Bool) where
      pub tag_read : n ≡ tag_of s → 10 ≤ length s → isOne n ≡ true → gives n ≡ tag_of_those isOne s
      tag_read e h one = rw (← e) (passes (isOne n) _ (gives n) one ∙ has_header _ h)

      pub tag_refused : n ≡ tag_of s → 10 ≤ length s → isOne n ≡ false → refuses (in_area Header (3 ∷ 0 ∷ n ∷ [])) ≡ tag_of_those isOne s
      tag_refused e h other = rw (← e) (fails (isOne n) _ (gives n) other ∙ has_header _ h)

    pub size_read : n ≡ size_of s → 10 ≤ length s → gives n ≡ read_size s
    unfolding read_size
    size_read e h = rw (← e) (has_header _ h)

    module _ (book : Rulebook) where
      pub cc_read : n ≡ code_of s → 10 ≤ length s → is_in n book.known ≡ true → gives n ≡ read_cc book s
      unfolding read_cc
      cc_read e h member = rw (← e) (passes (is_in n book.known) _ (gives n) member ∙ has_header _ h)

      pub cc_refused : n ≡ code_of s → 10 ≤ length s → is_in n book.known ≡ false → refuses (in_area Header (4 ∷ 6 ∷ n ∷ [])) ≡ read_cc book s
      unfolding read_cc
      cc_refused e h other = rw (← e) (fails (is_in n book.known) _ (gives n) other ∙ has_header _ h)

      module _ (tag : ℕ) where
        pub rc_read : n ≡ code_of s → tag ≡ tag_of s → 10 ≤ length s → reads book tag n ≡ true → gives n ≡ read_rc book s
        unfolding read_rc
        rc_read e f h read = rw (← e, ← f) (passes (reads book tag n) _ (gives n) read ∙ has_header _ h)

        pub rc_refused : n ≡ code_of s → tag ≡ tag_of s → 10 ≤ length s → reads book tag n ≡ false → refuses (in_area Header (5 ∷ 6 ∷ n ∷ [])) ≡ read_rc book s
        unfolding read_rc
        rc_refused e f h other = rw (← e, ← f) (fails (reads book tag n) _ (gives n) other ∙ has_header _ h)

    -- the envelope
    pub size_small : n ≡ size_of s → 10 ≤ length s → n < 10 → refuses (in_area Header (1 ∷ 2 ∷ 10 ∷ n ∷ [])) ≡ frame_prefix s
    unfolding frame_prefix
    size_small e h small = rw (← e) (fails (leb 10 n) _ _ (lt-leb 10 n small) ∙ has_header _ h)

    pub size_large : n ≡ size_of s → 10 ≤ length s → 10 ≤ n → length s < n → refuses (in_area Header (1 ∷ length s ∷ (n - length s) ∷ 0 ∷ [])) ≡ frame_prefix s
    unfolding frame_prefix
    size_large e h ten large =
        rw (← e) (fails (leb n (length s)) _ _ (lt-leb n (length s) large) ∙ passes (leb 10 n) _ _ (le-leb 10 n ten) ∙ has_header _ h)

    pub prefix_read : n ≡ size_of s → 10 ≤ length s → 10 ≤ n → n ≤ length s → gives n ≡ frame_prefix s
    unfolding frame_prefix
    prefix_read e h ten fits =
        rw (← e) (passes (leb n (length s)) _ _ (le-leb n (length s) fits) ∙ passes (leb 10 n) _ _ (le-leb 10 n ten) ∙ has_header _ h)

  -- a frame's tag that was read is the tag, and one of the two
  pub command_tag_is : {n : ℕ} → gives n ≡ read_command_tag s → (n ≡ tag_of s) × (is_of_two n ≡ true)
  unfolding read_command_tag
  command_tag_is {n} e =
      let there = needs_gives (leb 10 (length s)) _ _ (sym e) in
      let two = needs_gives (is_of_two (tag_of s)) _ _ there.1 in
      let is : tag_of s ≡ n = gives_injective two.1 in
      (sym is, ap is_of_two (sym is) ∙ two.0)

  -- a prefix that was read has a header and stands within the bytes
  pub prefix_fits : {n : ℕ} → gives n ≡ frame_prefix s → (10 ≤ length s) × (10 ≤ n) × (n ≤ length s)
  unfolding frame_prefix
  prefix_fits {n} e =
      let there = needs_gives (leb 10 (length s)) _ _ (sym e) in
      let ten = needs_gives (leb 10 (size_of s)) _ _ there.1 in
      let fits = needs_gives (leb (size_of s) (length s)) _ _ ten.1 in
      let is : size_of s ≡ n = gives_injective fits.1 in
      let h = leb-true 10 (length s) there.0 in
      let k = leb-true 10 (size_of s) ten.0 in
      let l = leb-true (size_of s) (length s) fits.0 in
      (h, omega arith, omega arith)

  module _ (n : ℕ) (e : gives n ≡ frame_prefix s) where
    pub trailing : n < length s → refuses (in_area Header (2 ∷ n ∷ (length s - n) ∷ [])) ≡ frame_whole s
    unfolding frame_whole
    trailing h = fails (leb (length s) n) _ (gives n) (lt-leb (length s) n h) ∙ goes_on (frame_prefix s) _ e

    pub whole_read : length s ≤ n → gives n ≡ frame_whole s
    unfolding frame_whole
    whole_read h = passes (leb (length s) n) _ (gives n) (le-leb (length s) n h) ∙ goes_on (frame_prefix s) _ e

  pub whole_refused : {why : Why} → refuses why ≡ frame_prefix s → refuses why ≡ frame_whole s
  unfolding frame_whole
  whole_refused e = stops (frame_prefix s) _ e

  pub whole_fits : {n : ℕ} → gives n ≡ frame_whole s → 10 ≤ length s
  unfolding frame_whole
  whole_fits e = (prefix_fits (sym (then_gives (frame_prefix s) _ (sym e)).1)).0

  -- a setter that is refused, and one that goes by what a field's writing says
  pub refused_set : {x : Said (List ℕ)} {why : Why} → refuses why ≡ x → (refuses why ≡ done x) × (s ≡ after s x)
  refused_set e = (ap done e, ap (after s) e)

  pub set_by : {x y : Said (List ℕ)} → x ≡ y → (done x ≡ done y) × (after s x ≡ after s y)
  set_by e = (ap done e, ap (after s) e)

  module _ (n : ℕ) (h : 10 ≤ length s) where
    pub tag_set : is_in n tags ≡ true → write_field 2 0 n s ≡ set_tag n s
    unfolding set_tag
    tag_set member = passes (is_in n tags) _ (write_field 2 0 n s) member ∙ has_header _ h

    pub tag_not_set : is_in n tags ≡ false → refuses (in_area Header (3 ∷ 0 ∷ n ∷ [])) ≡ set_tag n s
    unfolding set_tag
    tag_not_set other = fails (is_in n tags) _ (write_field 2 0 n s) other ∙ has_header _ h

    module _ (book : Rulebook) where
      pub cc_set : {row : Row} → gives row ≡ row_for book.rows n → write_field 4 6 n s ≡ set_cc book n s
      unfolding set_cc
      cc_set found = goes_on (within Header (row_for book.rows n)) _ (ap (within Header) found) ∙ has_header _ h

      pub cc_not_set : {why : Why} → refuses why ≡ row_for book.rows n → refuses (in_area Header (4 ∷ 0 ∷ n ∷ [])) ≡ set_cc book n s
      unfolding set_cc
      cc_not_set lacks = stops (within Header (row_for book.rows n)) _ (row_refused Header book.rows n lacks) ∙ has_header _ h

      module _ (tag : ℕ) where
        pub rc_set : tag ≡ tag_of s → reads book tag n ≡ true → write_field 4 6 n s ≡ set_rc book n s
        unfolding set_rc
        rc_set f read = rw (← f) (passes (reads book tag n) _ (write_field 4 6 n s) read ∙ has_header _ h)

        pub rc_not_set : tag ≡ tag_of s → reads book tag n ≡ false → refuses (in_area Header (5 ∷ 0 ∷ n ∷ [])) ≡ set_rc book n s
        unfolding set_rc
        rc_not_set f other = rw (← f) (fails (reads book tag n) _ (write_field 4 6 n s) other ∙ has_header _ h)
