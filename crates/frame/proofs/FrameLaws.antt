-- What commands and responses share: the header, the envelope, the handles and the sized bytes, each as it is read and as it is
-- laid out.
-- Assumes nothing.
use mathlib.Core.Path.{◌≡◌, refl, sym, ◌∙◌, ap}
use mathlib.Core.Bool.{Bool, true, false, cond, ◌||◌}
use mathlib.Core.Logic.{◌⊎◌, inl, inr}
use mathlib.Core.List.{List, [], ◌++◌}
use Prim.Native.Nat.{ℕ, ◌+◌, ◌-◌, ◌*◌, ◌≤◌, ◌<◌}
use native.Mathlib.Nat.{le_refl}
use native.Mathlib.Omega.{arith}
use borrow.Author.Tests.{le-leb, leb-true, eqb-true}
use lib.Dec.{eqb, leb}
use lib.ListN.{length, length-append}
use Rattle.base.specs.declared.error.Area.{Area}
use Rattle.base.specs.Bytes.{AreBytes, bytes}
use Rattle.base.specs.Field.{read_field}
use Rattle.base.specs.Members.{is_in}
use Rattle.base.specs.Said.{gives}
use Rattle.base.proofs.Bytes.{length_bytes}
use Rattle.base.proofs.Checks.{needs_gives, then_gives, then_within, gives_injective}
use Rattle.base.proofs.Places.{At, at_first, at_second, at_both, at_all, at_whole}
use Rattle.frame.specs.Header.{tag_of, size_of, code_of, tag_of_those, frame_prefix, frame_whole, plain, sessions, is_of_two, is_response_tag, read_command_tag, read_response_tag}
use Rattle.frame.specs.Rules.{Rulebook}
use Rattle.table.specs.Tags.{tags}
use Rattle.frame.specs.declared.areas.Areas.{Areas}
use Rattle.frame.specs.Areas.{handle_area, sized_area}
use Rattle.frame.specs.Layout.{layout_frame, layout_body}
use Rattle.frame.proofs.EntryLaws.{field_sound, field_complete}
use Rattle.frame.proofs.Standing.{number_at, bytes_at, at_join, at_split}

-- ---- the header and the envelope

-- a tag, a code and a body stand in s as a frame of the size that it says
pub record Framed (s : List ℕ) (tag code : ℕ) (body : List ℕ) : Type 0 where
  pub tag_is : tag_of s ≡ tag
  pub code_is : code_of s ≡ code
  pub size_is : size_of s ≡ length s
  pub body_at : At s 10 body
  pub body_long : 10 + length body ≡ length s

-- such a frame is laid out as s, and a layout is such a frame
pub frame_sound : {s body : List ℕ} {tag code : ℕ} → AreBytes s → Framed s tag code body → layout_frame tag code body ≡ s
unfolding tag_of code_of size_of
frame_sound {s} {body} {tag} {code} p f =
    let long = f.body_long in
    let tag_at : At s 0 (bytes 2 tag) = rw f.tag_is at (bytes_at s 2 0 p (omega arith)).0 in
    let code_at : At s 6 (bytes 4 code) = rw f.code_is at (bytes_at s 4 6 p (omega arith)).0 in
    let size-at : At s 2 (bytes 4 (10 + length body)) = rw (f.size_is, ← long) at (bytes_at s 4 2 p (omega arith)).0 in
    at_whole
    (at_join 2 (length_bytes 2 tag) tag_at
    (at_join 4 (length_bytes 4 (10 + length body)) size-at
    (at_join 4 (length_bytes 4 code) code_at f.body_at)))
    (simp (length-append, length_bytes) (omega arith))

pub length_frame : (tag code : ℕ) (body : List ℕ) → length (layout_frame tag code body) ≡ 10 + length body
length_frame tag code body = simp (length-append, length_bytes) (omega arith)

pub frame_complete : (tag code : ℕ) (body : List ℕ) → tag < 65536 → code < 4294967296 → 10 + length body < 4294967296
    → Framed (layout_frame tag code body) tag code body
unfolding tag_of code_of size_of
frame_complete tag code body t c z =
    let s : List ℕ = layout_frame tag code body in
    let long : length s ≡ 10 + length body = length_frame tag code body in
    let first = at_split 2 (bytes 2 tag) (bytes 4 (10 + length body) ++ (bytes 4 code ++ body)) (length_bytes 2 tag) (at_all s) in
    let second = at_split 4 (bytes 4 (10 + length body)) (bytes 4 code ++ body) (length_bytes 4 (10 + length body)) first.1 in
    let third = at_split 4 (bytes 4 code) body (length_bytes 4 code) second.1 in
    record {
      tag_is = number_at s 2 0 tag t first.0;
      code_is = number_at s 4 6 code c third.0;
      size_is = number_at s 4 2 (10 + length body) z second.0 ∙ sym long;
      body_at = third.1;
      body_long = sym long;
    }

-- what is read fits its field
module _ (s : List ℕ) (p : AreBytes s) (ten : 10 ≤ length s) where
  pub code_fits : code_of s < 4294967296
  unfolding code_of
  code_fits = (bytes_at s 4 6 p (omega arith)).1

  pub size_fits : size_of s ≡ length s → length s < 4294967296
  unfolding size_of
  size_fits e = rw e at (bytes_at s 4 2 p (omega arith)).1

module _ (s : List ℕ) where
  pub whole_sound : {n : ℕ} → frame_whole s ≡ gives n → (10 ≤ length s) × (size_of s ≡ length s)
  unfolding frame_whole frame_prefix
  whole_sound e =
      let read = then_gives (frame_prefix s) _ e in
      let ten = needs_gives (leb 10 (length s)) _ _ read.1 in
      let least = needs_gives (leb 10 (size_of s)) _ _ ten.1 in
      let there = needs_gives (leb (size_of s) (length s)) _ _ least.1 in
      let all = needs_gives (leb (length s) read.0) _ _ read.2 in
      let is : size_of s ≡ read.0 = gives_injective there.1 in
      let long = leb-true 10 (length s) ten.0 in
      let fits = leb-true (size_of s) (length s) there.0 in
      let over = leb-true (length s) read.0 all.0 in
      (long, omega arith)

  pub whole_complete : 10 ≤ length s → size_of s ≡ length s → frame_whole s ≡ gives (length s)
  unfolding frame_whole frame_prefix
  whole_complete h e = rw e (simp (le-leb 10 (length s) h, le-leb (length s) (length s) (omega arith)))

  -- a tag that was read is one of those that pass, and one of those is read
  module _ (isOne : ℕ → Bool) where
    those_sound : {tag : ℕ} → tag_of_those isOne s ≡ gives tag → isOne (tag_of s) ≡ true
    those_sound e =
        let ten = needs_gives (leb 10 (length s)) _ _ e in
        (needs_gives (isOne (tag_of s)) _ _ ten.1).0

    those_complete : 10 ≤ length s → isOne (tag_of s) ≡ true → tag_of_those isOne s ≡ gives (tag_of s)
    those_complete h e = simp (le-leb 10 (length s) h, e)

  pub tag_sound : {tag : ℕ} → read_command_tag s ≡ gives tag → is_of_two (tag_of s) ≡ true
  unfolding read_command_tag
  tag_sound = those_sound is_of_two

  pub tag_complete : 10 ≤ length s → is_of_two (tag_of s) ≡ true → read_command_tag s ≡ gives (tag_of s)
  unfolding read_command_tag
  tag_complete = those_complete is_of_two

  module _ (book : Rulebook) where
    pub response_tag_sound : {tag : ℕ} → read_response_tag book s ≡ gives tag → is_response_tag book (tag_of s) ≡ true
    unfolding read_response_tag
    response_tag_sound = those_sound (is_response_tag book)

    pub response_tag_complete : 10 ≤ length s → is_response_tag book (tag_of s) ≡ true → read_response_tag book s ≡ gives (tag_of s)
    unfolding read_response_tag
    response_tag_complete = those_complete (is_response_tag book)

-- what holds of the two tags holds of a frame's tag
pub of_two : (P : ℕ → Type 0) → P plain → P sessions → (tag : ℕ) → is_of_two tag ≡ true → P tag
of_two P first second tag e = by (eqb tag plain) refl e
  where
    by : (b : Bool) → eqb tag plain ≡ b → (b || eqb tag sessions) ≡ true → P tag
    by true q e = rw (eqb-true tag plain q) first
    by false q e = rw (eqb-true tag sessions e) second

-- the test and the layout name the same two
pub is_of_two_lem : (tag : ℕ) → (tag ≡ plain) ⊎ (tag ≡ sessions) → is_of_two tag ≡ true
is_of_two_lem tag (inl e) = ap is_of_two e
is_of_two_lem tag (inr e) = ap is_of_two e

pub of_the_two : (tag : ℕ) → is_of_two tag ≡ true → (tag ≡ plain) ⊎ (tag ≡ sessions)
of_the_two = of_two (λ (tag : ℕ). (tag ≡ plain) ⊎ (tag ≡ sessions)) (inl refl) (inr refl)

-- the two tags of a frame are tags of TpmSt
pub two_tags : (tag : ℕ) → is_of_two tag ≡ true → is_in tag tags ≡ true
unfolding tags
two_tags = of_two (λ (tag : ℕ). is_in tag tags ≡ true) refl refl

pub tag_fits : (tag : ℕ) → is_of_two tag ≡ true → tag < 65536
tag_fits = of_two (λ (tag : ℕ). tag < 65536) (omega arith) (omega arith)

-- ---- the areas

-- the handles, the sized bytes and the rest stand where the areas say
pub record Holds (s : List ℕ) (areas : Areas) (handles sized rest : List ℕ) : Type 0 where
  pub handles_at : At s 10 handles
  pub handles_end : 10 + length handles ≡ areas.handles
  pub sized_at : At s areas.from sized
  pub sized_end : areas.from + length sized ≡ areas.to
  pub rest_at : At s areas.to rest
  pub rest_end : areas.to + length rest ≡ length s

-- the bytes behind the header, with the sized bytes' size where there is one
abbrev pub body_of : Bool → List ℕ → List ℕ → List ℕ → List ℕ
body_of b handles sized rest = handles ++ (cond b (bytes 4 (length sized)) [] ++ (sized ++ rest))

module _ (s : List ℕ) where
  pub handles_sound : (n : ℕ) {h : ℕ} → 10 ≤ length s → handle_area n s ≡ gives h → (h ≡ 10 + 4 * n) × (10 + 4 * n ≤ length s)
  unfolding handle_area
  handles_sound n {h} ten e =
      let there = needs_gives (leb (4 * n) (length s - 10)) _ _ e in
      let fits = leb-true (4 * n) (length s - 10) there.0 in
      let is : 10 + 4 * n ≡ h = gives_injective there.1 in
      (sym is, omega arith)

  pub handles_complete : (n : ℕ) → 10 + 4 * n ≤ length s → handle_area n s ≡ gives (10 + 4 * n)
  unfolding handle_area
  handles_complete n h = simp (le-leb (4 * n) (length s - 10) (omega arith))

-- the areas that are read lie in order
pub sized_order : (area : Area) (b : Bool) (end h : ℕ) (s : List ℕ) {areas : Areas} → h ≤ end → end ≤ length s → sized_area area b end s h ≡ gives areas
    → (areas.handles ≡ h) × (h ≤ areas.from) × (areas.from ≤ areas.to) × (areas.to ≤ length s)
unfolding sized_area
sized_order area false end h s low high e = rw (← gives_injective e) (refl, le_refl h, low, high)
sized_order area true end h s low high e =
    let read = then_within area (read_field 4 h s) _ e in
    let size : ℕ = read.0 in
    let four = leb-true 4 (length s - h) (needs_gives (leb 4 (length s - h)) _ _ read.1).0 in
    let there = needs_gives (leb size (length s - (h + 4))) _ _ read.2 in
    let fits = leb-true size (length s - (h + 4)) there.0 in
    rw (← gives_injective there.1) (refl, omega arith, omega arith, omega arith)

-- without a size they start where the handles end, and end where they were told to
pub plain_places : (area : Area) (end h : ℕ) (s : List ℕ) {areas : Areas} → sized_area area false end s h ≡ gives areas → (areas.from ≡ h) × (areas.to ≡ end)
unfolding sized_area
plain_places area end h s e = rw (← gives_injective e) (refl, refl)

-- what they hold is laid out behind the header
pub sized_sound : (area : Area) (b : Bool) (end h : ℕ) (s : List ℕ) {areas : Areas} {handles sized rest : List ℕ} → AreBytes s
    → sized_area area b end s h ≡ gives areas → Holds s areas handles sized rest
    → At s 10 (body_of b handles sized rest) × (10 + length (body_of b handles sized rest) ≡ length s)
unfolding sized_area
sized_sound area false end h s {areas} {handles} {sized} {rest} p e holds =
    let held : Holds s (record { handles = h; from = h; to = end }) handles sized rest = rw (← gives_injective e) at holds in (
      at_both held.handles_at (rw held.handles_end (at_both held.sized_at (rw held.sized_end held.rest_at))),
      simp length-append (omega arith),
    )
sized_sound area true end h s {areas} {handles} {sized} {rest} p e holds =
    let read = then_within area (read_field 4 h s) _ e in
    let size : ℕ = read.0 in
    let there = needs_gives (leb size (length s - (h + 4))) _ _ read.2 in
    let held : Holds s (record { handles = h; from = h + 4; to = h + 4 + size }) handles sized rest = rw (← gives_injective there.1) at holds in
    let long : length sized ≡ size = omega arith in
    let size-at : At s h (bytes 4 (length sized)) = rw long (field_sound 4 s h p (omega arith) read.1).0 in (
      at_both held.handles_at
          (rw held.handles_end
          (at_join 4 (length_bytes 4 (length sized)) size-at (at_both held.sized_at (rw held.sized_end held.rest_at)))),
      simp (length-append, length_bytes) (omega arith),
    )

-- and so the frame of what they hold is the bytes again
pub frame_again : (area : Area) (end h : ℕ) (s : List ℕ) {areas : Areas} {handles sized rest : List ℕ} → AreBytes s → size_of s ≡ length s
    → sized_area area (eqb (tag_of s) sessions) end s h ≡ gives areas → Holds s areas handles sized rest
    → layout_frame (tag_of s) (code_of s) (layout_body (tag_of s) handles sized rest) ≡ s
frame_again area end h s p size e holds =
    let body = sized_sound area (eqb (tag_of s) sessions) end h s p e holds in
    frame_sound p (record { tag_is = refl; code_is = refl; size_is = size; body_at = body.0; body_long = body.1 })

-- parts that are laid out behind the header are held by the areas read
pub sized_complete : (area : Area) (b : Bool) (end h : ℕ) (s handles sized rest : List ℕ) → length s < 4294967296 → 10 + length handles ≡ h
    → (b ≡ false → h + length sized ≡ end) → At s 10 (body_of b handles sized rest) → 10 + length (body_of b handles sized rest) ≡ length s
    → (areas : Areas) × (sized_area area b end s h ≡ gives areas) × Holds s areas handles sized rest
unfolding sized_area
sized_complete area false end h s handles sized rest small count stop a all =
    let ends = stop refl in
    let long : 10 + (length handles + (0 + (length sized + length rest))) ≡ length s = simp length-append at all in
    let behind : At s h (sized ++ rest) = rw count at (at_second handles (sized ++ rest) a) in (
      record { handles = h; from = h; to = end },
      refl,
      record {
        handles_at = at_first handles (sized ++ rest) a;
        handles_end = count;
        sized_at = at_first sized rest behind;
        sized_end = ends;
        rest_at = rw ends at (at_second sized rest behind);
        rest_end = omega arith;
      },
    )
sized_complete area true end h s handles sized rest small count stop a all =
    let long : 10 + (length handles + (4 + (length sized + length rest))) ≡ length s = simp (length-append, length_bytes) at all in
    let body : List ℕ = bytes 4 (length sized) ++ (sized ++ rest) in
    let behind = at_split 4 (bytes 4 (length sized)) (sized ++ rest) (length_bytes 4 (length sized)) (rw count at (at_second handles body a)) in
    let size : read_field 4 h s ≡ gives (length sized) = field_complete 4 s h (length sized) (omega arith) behind.0 in (
      record { handles = h; from = h + 4; to = h + 4 + length sized },
      rw size (simp (le-leb (length sized) (length s - (h + 4)) (omega arith))),
      record {
        handles_at = at_first handles body a;
        handles_end = count;
        sized_at = at_first sized rest behind.1;
        sized_end = refl;
        rest_at = at_second sized rest behind.1;
        rest_end = omega arith;
      },
    )
