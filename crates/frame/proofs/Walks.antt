-- The cases of the readings of an authorization area and of its walk, each from the tests that lead to it.
-- Assumes nothing.
use mathlib.Core.Path.{◌≡◌, refl, subst, sym, ◌∙◌, ap}
use mathlib.Core.List.{List, [], ◌∷◌, ◌++◌, append_assoc, append-nil}
use mathlib.Core.Logic.{inl, inr}
use Prim.Native.Nat.{ℕ, zero, suc, ◌+◌, ◌-◌, ◌*◌, ◌≤◌, ◌<◌}
use native.Mathlib.Omega.{arith}
use native.Mathlib.Numerals.{towards_suc}
use borrow.Author.Tests.{le-leb, lt-leb, leb-true}
use lib.Dec.{leb}
use lib.ListN.{length, get_or, length-append}
use Rattle.base.specs.declared.error.Area.{Area}
use Rattle.base.specs.declared.error.Area.TheVariants.{Authorization}
use Rattle.base.specs.Bytes.{number}
use Rattle.base.specs.Field.{read_field}
use Rattle.base.specs.Said.{Why, in_area, Said, gives, refuses, needs, then, within, done}
use Rattle.base.proofs.Checks.{passes, fails, goes_on, stops, needs_gives, cond_gives, then_gives, then_within, within_gives, done_gives, gives_injective, refuses_injective, gives≢refuses}
use Rattle.base.proofs.Widths.{read_short, read_whole}
use Rattle.frame.specs.declared.session.Session.{Session}
use Rattle.frame.specs.declared.session.Entries.{Entries}
use Rattle.frame.specs.Answer.{behind_of, entries_by_value}
use Rattle.frame.specs.Walk.{read_tpm2b, read_signed, read_entry, behind, walk, by_value}
use Rattle.frame.proofs.EntryLaws.{tpm2b_fits}
use Rattle.frame.proofs.WalkLaws.{walk_end, walk_few}

-- what is told of a step that gives something, and no more: the step refused where that does, and gave something where that does
module _ {A B : Type 0} (f : A → B) where
  pub step_refused : (x : Said A) {why : Why} → refuses why ≡ then x (λ a. gives (f a)) → refuses why ≡ x
  step_refused (gives a) e = absurd (gives≢refuses (sym e))
  step_refused (refuses other) e = ap refuses (refuses_injective e)

  pub step_given : (x : Said A) {b : B} → gives b ≡ then x (λ a. gives (f a)) → (a : A) × (gives a ≡ x) × (b ≡ f a)
  step_given (gives a) e = (a, refl, gives_injective e)
  step_given (refuses why) e = absurd (gives≢refuses e)

-- a field that was read stands within the bytes
pub field_there_lem : (area : Area) (w place : ℕ) (s : List ℕ) {n : ℕ} → 0 < w → gives n ≡ within area (read_field w place s) → place + w ≤ length s
field_there_lem area w place s h read =
    let there = leb-true w (length s - place) (needs_gives (leb w (length s - place)) _ _ (within_gives area (read_field w place s) (sym read))).0 in
    omega arith

-- a field of one byte is that byte
byte_read : (place : ℕ) (s : List ℕ) → place < length s → gives (get_or s place 0) ≡ within Authorization (read_field 1 place s)
unfolding number
byte_read place s h =
    let same : get_or s place 0 ≡ get_or s place 0 * 1 + 0 = omega arith in
    ap gives same ∙ read_whole 1 place s Authorization (omega arith)

-- a field of two bytes, and one of four
two_bytes : (s : List ℕ) (place : ℕ) → place + 2 ≤ length s → {n : ℕ} → n ≡ number (get_or s place 0 ∷ get_or s (place + 1) 0 ∷ []) → gives n ≡ within Authorization (read_field 2 place s)
two_bytes s place h e = ap gives e ∙ simp towards_suc (read_whole 2 place s Authorization (omega arith))

pub four_bytes : (area : Area) (s : List ℕ) (place : ℕ) → place + 4 ≤ length s
    → {n : ℕ} → n ≡ number (get_or s place 0 ∷ get_or s (place + 1) 0 ∷ get_or s (place + 2) 0 ∷ get_or s (place + 3) 0 ∷ []) → gives n ≡ within area (read_field 4 place s)
four_bytes area s place h e = ap gives e ∙ simp towards_suc (read_whole 4 place s area (omega arith))

-- ---- a TPM2B

module _ (limit : ℕ) (s : List ℕ) (place : ℕ) where
  -- an answer that goes by the definition says that what was passed is within the limit
  pub goes_by : {said : Said ℕ} → said ≡ read_tpm2b limit s place
      → (said ≡ read_tpm2b limit s place) × ((size : ℕ) → said ≡ gives size → size ≤ limit)
  goes_by e = (e, λ size is. (tpm2b_fits limit s place (sym e ∙ is)).2)

  pub tpm2b_refused : {why : Why} → refuses why ≡ within Authorization (read_field 2 place s) → refuses why ≡ read_tpm2b limit s place
  unfolding read_tpm2b
  tpm2b_refused read = stops (within Authorization (read_field 2 place s)) _ read

  module _ {n : ℕ} (read : gives n ≡ within Authorization (read_field 2 place s)) where
    pub tpm2b_long : limit < n → refuses (in_area Authorization (8 ∷ place ∷ limit ∷ n ∷ [])) ≡ read_tpm2b limit s place
    unfolding read_tpm2b
    tpm2b_long long = fails (leb n limit) _ _ (lt-leb n limit long) ∙ goes_on (within Authorization (read_field 2 place s)) _ read

    module _ (few : n ≤ limit) where
      -- the size is within the limit, and what is left is looked at
      abbrev left : Said ℕ
      left = needs (leb (2 + n) (length s - place)) (in_area Authorization (1 ∷ place ∷ (2 + n) ∷ (length s - place) ∷ [])) (gives n)

      tpm2b_within : left ≡ read_tpm2b limit s place
      unfolding read_tpm2b
      tpm2b_within = passes (leb n limit) _ left (le-leb n limit few) ∙ goes_on (within Authorization (read_field 2 place s)) _ read

      pub tpm2b_short : length s - place < 2 + n → refuses (in_area Authorization (1 ∷ place ∷ (2 + n) ∷ (length s - place) ∷ [])) ≡ read_tpm2b limit s place
      tpm2b_short short = fails (leb (2 + n) (length s - place)) _ (gives n) (lt-leb (2 + n) (length s - place) short) ∙ tpm2b_within

      pub tpm2b_read : 2 + n ≤ length s - place → gives n ≡ read_tpm2b limit s place
      tpm2b_read enough = passes (leb (2 + n) (length s - place)) _ (gives n) (le-leb (2 + n) (length s - place) enough) ∙ tpm2b_within

-- ---- an entry

module _ (limit handle : ℕ) (s : List ℕ) (place : ℕ) where
  pub nonce_refused : {why : Why} → refuses why ≡ read_tpm2b limit s place → refuses why ≡ read_signed limit handle s place
  unfolding read_signed
  nonce_refused read = stops (read_tpm2b limit s place) _ read

  module _ {nonce : ℕ} (read : gives nonce ≡ read_tpm2b limit s place) where
    pub attributes_refused : length s ≤ place + 2 + nonce → refuses (in_area Authorization (1 ∷ (place + 2 + nonce) ∷ 1 ∷ 0 ∷ [])) ≡ read_signed limit handle s place
    unfolding read_signed
    attributes_refused end =
        stops (within Authorization (read_field 1 (place + 2 + nonce) s)) _ (read_short 1 (place + 2 + nonce) s Authorization 0 (omega arith) (omega arith))
        ∙ goes_on (read_tpm2b limit s place) _ read

    module _ (inside : place + 2 + nonce < length s) where
      pub hmac_refused : {why : Why} → refuses why ≡ read_tpm2b limit s (place + 2 + nonce + 1) → refuses why ≡ read_signed limit handle s place
      unfolding read_signed
      hmac_refused last =
          stops (read_tpm2b limit s (place + 2 + nonce + 1)) _ last
          ∙ goes_on (within Authorization (read_field 1 (place + 2 + nonce) s)) _ (byte_read (place + 2 + nonce) s inside)
          ∙ goes_on (read_tpm2b limit s place) _ read

      pub signed_read : {hmac : ℕ} → gives hmac ≡ read_tpm2b limit s (place + 2 + nonce + 1)
          → gives (record {
            handle = handle;
            nonce = record { at = place + 2; size = nonce };
            attributes = get_or s (place + 2 + nonce) 0;
            hmac = record { at = place + 2 + nonce + 3; size = hmac };
          })
          ≡ read_signed limit handle s place
      unfolding read_signed
      signed_read {hmac} last =
          let same : place + 2 + nonce + 3 ≡ place + 2 + nonce + 1 + 2 = omega arith in
          rw same (goes_on (read_tpm2b limit s (place + 2 + nonce + 1)) _ last
          ∙ goes_on (within Authorization (read_field 1 (place + 2 + nonce) s)) _ (byte_read (place + 2 + nonce) s inside)
          ∙ goes_on (read_tpm2b limit s place) _ read)

-- the place behind an entry does not depend on its handle
alike : (x : Said ℕ) (f g : ℕ → Said Session) → ((n : ℕ) → behind_of (f n) ≡ behind_of (g n)) → behind_of (then x f) ≡ behind_of (then x g)
alike (gives n) f g e = e n
alike (refuses why) f g e = refl

pub handle_aside : (limit handle : ℕ) (s : List ℕ) (place : ℕ) → behind_of (read_signed limit 0 s place) ≡ behind_of (read_signed limit handle s place)
unfolding read_signed
handle_aside limit handle s place =
    alike (read_tpm2b limit s place) _ _ λ nonce.
    alike (within Authorization (read_field 1 (place + 2 + nonce) s)) _ _ λ attributes.
    alike (read_tpm2b limit s (place + 2 + nonce + 1)) _ _ λ hmac. refl

-- an entry that is there, byte by byte
module _ (limit handle : ℕ) (s : List ℕ) (place : ℕ) (there : done (read_signed limit handle s place) ≡ gives tt) where
  record Sized : Type 0 where
    nonce : ℕ
    hmac : ℕ
    nonce_read : read_tpm2b limit s place ≡ gives nonce
    hmac_read : read_tpm2b limit s (place + 2 + nonce + 1) ≡ gives hmac

  sized : Sized
  unfolding read_signed
  sized =
      let e = done_gives (read_signed limit handle s place) (sym there) in
      let n = then_gives (read_tpm2b limit s place) _ (sym e.1) in
      let a = then_within Authorization (read_field 1 (place + 2 + n.0) s) _ n.2 in
      let m = then_gives (read_tpm2b limit s (place + 2 + n.0 + 1)) _ a.2 in
      record { nonce = n.0; hmac = m.0; nonce_read = n.1; hmac_read = m.1 }

  pub nonce_there : place + 2 ≤ length s
  nonce_there = let inside = (tpm2b_fits limit s place sized.nonce_read).1 in omega arith

  module _ {nonce : ℕ} (is : nonce ≡ number (get_or s place 0 ∷ get_or s (place + 1) 0 ∷ [])) where
    nonce_is : nonce ≡ sized.nonce
    nonce_is = gives_injective (two_bytes s place nonce_there is ∙ ap (within Authorization) (tpm2b_fits limit s place sized.nonce_read).0)

    pub hmac_there : place + 2 + nonce + 3 ≤ length s
    hmac_there =
        let same = nonce_is in
        let inside = (tpm2b_fits limit s (place + 2 + sized.nonce + 1) sized.hmac_read).1 in
        omega arith

    pub signed_there : {hmac : ℕ} → hmac ≡ number (get_or s (place + 2 + nonce + 1) 0 ∷ get_or s (place + 2 + nonce + 2) 0 ∷ [])
        → gives (record {
          handle = handle;
          nonce = record { at = place + 2; size = nonce };
          attributes = get_or s (place + 2 + nonce) 0;
          hmac = record { at = place + 2 + nonce + 3; size = hmac };
        })
        ≡ read_signed limit handle s place
    signed_there {hmac} last =
        let inside = hmac_there in
        let next : place + 2 + nonce + 2 ≡ place + 2 + nonce + 1 + 1 = omega arith in
        let read : read_tpm2b limit s (place + 2 + nonce + 1) ≡ gives sized.hmac = rw nonce_is sized.hmac_read in
        let hmac-is : hmac ≡ sized.hmac = gives_injective (two_bytes s (place + 2 + nonce + 1) (omega arith) (rw next at last) ∙ ap (within Authorization) (tpm2b_fits limit s (place + 2 + nonce + 1) read).0) in
        signed_read limit handle s place (ap gives nonce_is ∙ sym sized.nonce_read) (omega arith) (ap gives hmac-is ∙ sym read)

module _ (limit width : ℕ) (s : List ℕ) (place : ℕ) where
  pub handle_refused : {why : Why} → refuses why ≡ within Authorization (read_field width place s) → refuses why ≡ read_entry limit width s place
  unfolding read_entry
  handle_refused read = stops (within Authorization (read_field width place s)) _ read

  pub handle_read : {handle : ℕ} → gives handle ≡ within Authorization (read_field width place s) → read_signed limit handle s (place + width) ≡ read_entry limit width s place
  unfolding read_entry
  handle_read read = goes_on (within Authorization (read_field width place s)) _ read

  -- of an entry that is there, the handle is
  pub handle_there : 0 < width → done (read_entry limit width s place) ≡ gives tt → place + width ≤ length s
  unfolding read_entry
  handle_there some there =
      let e = done_gives (read_entry limit width s place) (sym there) in
      field_there_lem Authorization width place s some (sym (then_gives (within Authorization (read_field width place s)) _ (sym e.1)).1)

-- an entry with no handle before it
pub no_handle : (limit : ℕ) (s : List ℕ) (place : ℕ) → read_signed limit 0 s place ≡ read_entry limit 0 s place
unfolding number
no_handle limit s place =
    let here : place ≡ place + 0 = omega arith in
    ap (read_signed limit 0 s) here ∙ handle_read limit 0 s place (read_whole 0 place s Authorization (omega arith))

-- ---- one entry more, by value

module _ {found : Entries} {e : Session} where
  pub with_first : found.count ≡ 0 → (es : List Session) → found ≡ by_value es
      → record { count = 1; first = e; second = found.second; third = found.third } ≡ by_value (es ++ (e ∷ []))
  with_first n [] is = cc
  with_first n (a ∷ es) is = let some : found.count ≡ suc (length es) = ap (λ (x : Entries). x.count) is in absurd (omega arith)

  pub with_second : found.count ≡ 1 → (es : List Session) → found ≡ by_value es
      → record { count = 2; first = found.first; second = e; third = found.third } ≡ by_value (es ++ (e ∷ []))
  with_second n [] is = let none : found.count ≡ 0 = ap (λ (x : Entries). x.count) is in absurd (omega arith)
  with_second n (a ∷ []) is = cc
  with_second n (a ∷ b ∷ es) is =
      let more : found.count ≡ suc (suc (length es)) = ap (λ (x : Entries). x.count) is in
      absurd (omega arith)

  pub with_third : (found.count ≡ 0 → ⊥) → (found.count ≡ 1 → ⊥) → found.count < 3 → (es : List Session) → found ≡ by_value es
      → record { count = 3; first = found.first; second = found.second; third = e } ≡ by_value (es ++ (e ∷ []))
  with_third not_None not-one few [] is = absurd (not_None (ap (λ (x : Entries). x.count) is))
  with_third not_None not-one few (a ∷ []) is = absurd (not-one (ap (λ (x : Entries). x.count) is))
  with_third not_None not-one few (a ∷ b ∷ []) is = cc
  with_third not_None not-one few (a ∷ b ∷ d ∷ es) is =
      let more : found.count ≡ suc (suc (suc (length es))) = ap (λ (x : Entries). x.count) is in
      absurd (omega arith)

-- ---- the walk

module _ (limit width : ℕ) (s : List ℕ) (place : ℕ) (inside : place < length s) where
  walk_full : refuses (in_area Authorization (6 ∷ place ∷ 3 ∷ 4 ∷ [])) ≡ walk limit zero width s place
  unfolding walk
  walk_full = fails (leb (length s) place) _ (gives []) (lt-leb (length s) place inside)

  module _ (k : ℕ) where
    walk_refused : {why : Why} → refuses why ≡ read_entry limit width s place → refuses why ≡ walk limit (suc k) width s place
    unfolding walk
    walk_refused read = simp (lt-leb (length s) place inside) (stops (read_entry limit width s place) _ read)

    walk_past : {e : Session} → gives e ≡ read_entry limit width s place
        → then (walk limit k width s (behind e)) (λ es. gives (e ∷ es)) ≡ walk limit (suc k) width s place
    unfolding walk
    walk_past read = simp (lt-leb (length s) place inside) (goes_on (read_entry limit width s place) _ read)

-- the entries counted up to a place: the walk goes on from there, with as many more as may come
pub record Counted (limit width : ℕ) (s : List ℕ) (place count at : ℕ) : Type 0 where
  pub more : ℕ
  pub of_three : count + more ≡ 3
  pub rest : done (walk limit 3 width s place) ≡ done (walk limit more width s at)

pub none_counted : (limit width : ℕ) (s : List ℕ) (place : ℕ) → Counted limit width s place 0 place
none_counted limit width s place = record { more = 3; of_three = refl; rest = refl }

module _ {limit width : ℕ} {s : List ℕ} {place count at : ℕ} (f : Counted limit width s place count at) where
  -- what the rest refuses, the walk does
  rest_refused : {why : Why} → refuses why ≡ walk limit f.more width s at → refuses why ≡ done (walk limit 3 width s place)
  rest_refused r = ap done r ∙ sym f.rest

  pub all_counted : length s ≤ at → gives tt ≡ done (walk limit 3 width s place)
  all_counted end = sym (f.rest ∙ ap done (walk_end limit f.more width s at end))

  module _ (inside : at < length s) where
    pub one_too_many : count ≡ 3 → refuses (in_area Authorization (6 ∷ at ∷ 3 ∷ 4 ∷ [])) ≡ done (walk limit 3 width s place)
    one_too_many full =
        let three = f.of_three in
        let none : f.more ≡ 0 = omega arith in
        rest_refused (rw none (walk_full limit width s at inside))

    module _ (room : count < 3) where
      one_more : f.more ≡ suc (f.more - 1)
      one_more = let three = f.of_three in omega arith

      pub entry_refused : {why : Why} → refuses why ≡ behind_of (read_entry limit width s at) → refuses why ≡ done (walk limit 3 width s place)
      entry_refused read =
          rest_refused (rw one_more (walk_refused limit width s at inside (f.more - 1) (step_refused behind (read_entry limit width s at) read)))

      one_past : {e : Session} → gives e ≡ read_entry limit width s at → Counted limit width s place (count + 1) (behind e)
      one_past {e} read = record {
        more = f.more - 1;
        of_three = let m = one_more in let three = f.of_three in omega arith;
        rest =
            let past = walk_past limit width s at inside (f.more - 1) read ∙ ap (λ (k : ℕ). walk limit k width s at) (sym one_more) in
            f.rest ∙ sym (by (walk limit (f.more - 1) width s (behind e)) ∙ ap done past);
      }
        where
          by : (walked : Said (List Session)) → done walked ≡ done (then walked (λ es. gives (e ∷ es)))
          by (gives es) = refl
          by (refuses why) = refl

      pub one_counted : {end : ℕ} → gives end ≡ behind_of (read_entry limit width s at) → Counted limit width s place (count + 1) end
      one_counted read =
          let one = step_given behind (read_entry limit width s at) read in
          subst (Counted limit width s place (count + 1)) (sym one.2) (one_past one.1)

-- ---- the entries that were walked over

-- the first of the entries from a place on
record Next (limit width : ℕ) (s : List ℕ) (at : ℕ) (es : List Session) : Type 0 where
  first : Session
  others : List Session
  fewer : ℕ
  are : es ≡ first ∷ others
  read : read_entry limit width s at ≡ gives first
  rest : walk limit fewer width s (behind first) ≡ gives others

next_of : (limit k width : ℕ) (s : List ℕ) (at : ℕ) {es : List Session} → at < length s → walk limit k width s at ≡ gives es → Next limit width s at es
unfolding walk
next_of limit zero width s at inside e =
    let end = leb-true (length s) at (needs_gives (leb (length s) at) _ _ e).0 in
    absurd (omega arith)
next_of limit (suc k) width s at inside e = elim (cond_gives (leb (length s) at) _ _ e) [
  | inl ended ↦ let end = leb-true (length s) at ended.0 in absurd (omega arith)
  | inr more ↦
      let one = then_gives (read_entry limit width s at) _ more.1 in
      let others = then_gives (walk limit k width s (behind one.0)) _ one.2 in
      record { first = one.0; others = others.0; fewer = k; are = sym (gives_injective others.2); read = one.1; rest = others.1 }
]

-- the entries read up to a place: those that are left follow there
pub record Found (limit width : ℕ) (s : List ℕ) (place : ℕ) (found : Entries) (at : ℕ) : Type 0 where
  pub entries : List Session
  pub left : List Session
  pub more : ℕ
  pub by_value_lem : found ≡ by_value entries
  pub all : walk limit 3 width s place ≡ gives (entries ++ left)
  pub rest : walk limit more width s at ≡ gives left

pub none_found : (limit width : ℕ) (s : List ℕ) (place : ℕ) → done (walk limit 3 width s place) ≡ gives tt → Found limit width s place (by_value []) place
none_found limit width s place e =
    let walked = done_gives (walk limit 3 width s place) (sym e) in
    record { entries = []; left = walked.0; more = 3; by_value_lem = refl; all = sym walked.1; rest = sym walked.1 }

module _ {limit width : ℕ} {s : List ℕ} {place : ℕ} {found : Entries} {at : ℕ} (f : Found limit width s place found at) where
  pub all_found : length s ≤ at → gives found ≡ entries_by_value (walk limit 3 width s place)
  all_found end =
      let none : [] ≡ f.left = gives_injective (sym (walk_end limit f.more width s at end) ∙ f.rest) in
      let all : f.entries ≡ f.entries ++ f.left = sym (append-nil f.entries) ∙ ap (λ (es : List Session). f.entries ++ es) none in
      ap gives f.by_value_lem ∙ goes_on (walk limit 3 width s place) _ (ap gives all ∙ sym f.all)

  module _ (inside : at < length s) where
    next : Next limit width s at f.left
    next = next_of limit f.more width s at inside f.rest

    pub one_there : done (read_entry limit width s at) ≡ gives tt
    one_there = ap done next.read

    -- at most three are told, and one more is left
    pub found_few : found.count < 3
    found_few =
        let n = ap (λ (x : Entries). x.count) f.by_value_lem in
        let few = walk_few limit 3 width s place f.all in
        let long = length-append f.entries f.left in
        let one = ap length next.are in
        omega arith

    pub one_found : {e : Session} {new : Entries} → gives e ≡ read_entry limit width s at
        → ((es : List Session) → found ≡ by_value es → new ≡ by_value (es ++ (e ∷ []))) → Found limit width s place new (behind e)
    one_found {e} read one =
        let is : next.first ≡ e = gives_injective (sym next.read ∙ sym read) in
        let are : f.left ≡ e ∷ next.others = next.are ∙ ap (λ (x : Session). x ∷ next.others) is in
        record {
          entries = f.entries ++ (e ∷ []);
          left = next.others;
          more = next.fewer;
          by_value_lem = one f.entries f.by_value_lem;
          all =
              f.all ∙ ap (λ (es : List Session). gives (f.entries ++ es)) are
              ∙ ap gives (sym (append_assoc f.entries (e ∷ []) next.others));
          rest = rw is at next.rest;
        }
