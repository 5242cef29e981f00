-- How a frame is put together in lent room: header, handles, under the sessions tag the size of what comes next, that, and the rest.
-- Assumes nothing.
use mathlib.Core.Path.{◌≡◌, refl, sym, ◌∙◌, ap}
use mathlib.Core.Bool.{Bool, true, false, cond}
use mathlib.Core.List.{List, [], ◌∷◌, ◌++◌, append_assoc, append-nil}
use Prim.Native.Nat.{ℕ, ◌+◌, ◌-◌, ◌≤◌}
use native.Mathlib.Omega.{arith}
use borrow.Author.Tests.{ne_eqb}
use lib.Dec.{eqb}
use lib.ListN.{length, length-append}
use Rattle.base.specs.Bytes.{bytes}
use Rattle.base.specs.Said.{gives}
use Rattle.base.proofs.Bytes.{length_bytes}
use Rattle.frame.specs.Header.{plain, sessions, rsp_command}
use Rattle.frame.specs.Layout.{Entry, layout_entry, layout_entries, size_field, layout_body, layout_frame, layout_command, layout_response}
use Rattle.frame.proofs.FrameLaws.{length_frame}
use Rattle.frame.specs.declared.session.Session.{Session}
use Rattle.frame.specs.Parts.{entries_in, entries_of}
use Rattle.frame.specs.Rules.{unlimited}
use Rattle.marshal.specs.Handed.{Handed, entries_handed, without_handles, tag_for, command_frame, success_frame, error_tag, error_frame}
use Rattle.base.specs.Field.{laid}
use Rattle.marshal.specs.Laid.{Puts}
use Rattle.marshal.specs.Write.{Ready, sessions_there, total_size}
use Rattle.marshal.proofs.Lengths.{length_sessions}
use Rattle.marshal.proofs.Sessions.{entries_none}
use Rattle.marshal.proofs.Rooms.{room_first, room_next, puts_next}

-- ---- how long a frame is

size_length : (b : Bool) (sized : List ℕ) → length (cond b (bytes 4 (length sized)) []) ≡ cond b 4 0
size_length true sized = length_bytes 4 (length sized)
size_length false sized = refl

pub length_body : (tag : ℕ) (handles sized rest : List ℕ)
    → length (layout_body tag handles sized rest) ≡ length handles + cond (eqb tag sessions) 4 0 + length sized + length rest
length_body tag handles sized rest =
    let size = size_length (eqb tag sessions) sized in
    let all = length-append handles (size_field tag sized ++ (sized ++ rest)) in
    let behind = length-append (size_field tag sized) (sized ++ rest) in
    let last = length-append sized rest in
    omega arith

-- an entry of a response is laid out without its handle
pub without_handles_lem : (es : List Entry) → layout_entries 0 (without_handles es) ≡ layout_entries 0 es
unfolding bytes
without_handles_lem [] = refl
without_handles_lem (e ∷ es) = ap (λ (t : List ℕ). layout_entry 0 e ++ t) (without_handles_lem es)

pub success_layout : (h : Handed) → layout_response (success_frame h)
    ≡ layout_frame (tag_for h.sessions.count) 0 (layout_body (tag_for h.sessions.count) h.handles h.parameters (layout_entries 0 (entries_handed h)))
unfolding layout_response
success_layout h =
    ap (λ (es : List ℕ). layout_frame (tag_for h.sessions.count) 0 (layout_body (tag_for h.sessions.count) h.handles h.parameters es))
    (without_handles_lem (entries_handed h))

module _ (limit : ℕ) (h : Handed) (there : sessions_there limit (length h.lent) (entries_of h.sessions) ≡ gives tt) where
  -- the total of document 01 is the length of what is laid out
  pub command_total : (tag : ℕ) → total_size 4 tag h ≡ 10 + length (layout_body tag h.handles (layout_entries 4 (entries_handed h)) h.parameters)
  command_total tag =
      let entries = length_sessions limit h.lent 4 (entries_of h.sessions) there in
      let body = length_body tag h.handles (layout_entries 4 (entries_handed h)) h.parameters in
      omega arith

  pub success_total : (tag : ℕ) → total_size 0 tag h ≡ 10 + length (layout_body tag h.handles h.parameters (layout_entries 0 (entries_handed h)))
  success_total tag =
      let entries = length_sessions limit h.lent 0 (entries_of h.sessions) there in
      let body = length_body tag h.handles h.parameters (layout_entries 0 (entries_handed h)) in
      omega arith

  pub length_command : (tag code : ℕ) → length (layout_command (command_frame tag code h)) ≡ total_size 4 tag h
  unfolding layout_command
  length_command tag code =
      length_frame tag code (layout_body tag h.handles (layout_entries 4 (entries_handed h)) h.parameters) ∙ sym (command_total tag)

  pub length_success : length (layout_response (success_frame h)) ≡ total_size 0 (tag_for h.sessions.count) h
  length_success =
      let tag = tag_for h.sessions.count in
      ap length (success_layout h)
      ∙ length_frame tag 0 (layout_body tag h.handles h.parameters (layout_entries 0 (entries_handed h)))
      ∙ sym (success_total tag)

-- so what was judged is as long as what is laid out
pub command_whole : (tag : ℕ) (h : Handed) {total room : ℕ} → Ready 4 tag h total room
    → total ≡ 10 + length (layout_body tag h.handles (layout_entries 4 (entries_handed h)) h.parameters)
command_whole tag h ready = ready.total_is ∙ command_total unlimited h ready.there tag

pub success_whole : (tag : ℕ) (h : Handed) {total room : ℕ} → Ready 0 tag h total room
    → total ≡ 10 + length (layout_body tag h.handles h.parameters (layout_entries 0 (entries_handed h)))
success_whole tag h ready = ready.total_is ∙ success_total unlimited h ready.there tag

-- without a session there are no bytes of entries
pub no_entry_bytes : (width : ℕ) (h : Handed) → h.sessions.count ≡ 0 → layout_entries width (entries_handed h) ≡ []
no_entry_bytes width h none = ap (λ (es : List Session). layout_entries width (entries_in h.lent es)) (entries_none h.sessions none)

-- ---- the tag tells whether there is a size

module _ {tag count : ℕ} (is : tag ≡ tag_for count) where
  pub plain_tag : count ≡ 0 → eqb tag sessions ≡ false
  plain_tag none = rw (is, none) refl

  pub sessions_tag : (count ≡ 0 → ⊥) → eqb tag sessions ≡ true
  sessions_tag some = rw (is, ne_eqb count 0 some) refl

-- ---- the steps

abbrev pub header_of : ℕ → ℕ → ℕ → List ℕ
header_of tag total code = bytes 2 tag ++ (bytes 4 total ++ bytes 4 code)

length_header : (tag total code : ℕ) → length (header_of tag total code) ≡ 10
length_header tag total code = simp (length-append, length_bytes)

-- an error response is a header alone
pub error_layout : (asked : Bool) (code : ℕ) → layout_response (error_frame asked code) ≡ header_of (error_tag asked) 10 code
unfolding layout_response
error_layout true code = ap (λ (t : List ℕ). bytes 2 rsp_command ++ (bytes 4 10 ++ t)) (append-nil (bytes 4 code))
error_layout false code = ap (λ (t : List ℕ). bytes 2 plain ++ (bytes 4 10 ++ t)) (append-nil (bytes 4 code))

module _ (tag code total : ℕ) (handles sized rest room : List ℕ)
    (whole : total ≡ 10 + length (layout_body tag handles sized rest)) (fits : total ≤ length room) where
  abbrev body : List ℕ
  body = layout_body tag handles sized rest

  frame_is : layout_frame tag code body ≡ header_of tag total code ++ body
  frame_is = rw whole (simp append_assoc)

  all_fits : 0 + length (header_of tag total code ++ body) ≤ length room
  all_fits =
      let both = length-append (header_of tag total code) body in
      let ten = length_header tag total code in
      omega arith

  module _ {at : ℕ} {headed : List ℕ} (header : Puts 0 (header_of tag total code) room at headed) where
    body_room : at + length body ≤ length headed
    body_room = room_next 0 (header_of tag total code) body room all_fits header

    pub handles_room : at + length handles ≤ length headed
    handles_room = room_first at handles (size_field tag sized ++ (sized ++ rest)) headed body_room

    module _ {behind : ℕ} {handled : List ℕ} (hs : Puts at handles headed behind handled) where
      rest_room : behind + length (size_field tag sized ++ (sized ++ rest)) ≤ length handled
      rest_room = room_next at handles (size_field tag sized ++ (sized ++ rest)) headed body_room hs

      all_put : {end : ℕ} {last : List ℕ} → Puts behind (size_field tag sized ++ (sized ++ rest)) handled end last → last ≡ laid 0 (layout_frame tag code body) room
      all_put p =
          let all = puts_next 0 (header_of tag total code) body room all_fits header
          (puts_next at handles (size_field tag sized ++ (sized ++ rest)) headed body_room hs p) in
          rw frame_is all.later_is

      pub behind_is : behind ≡ 10 + length handles
      behind_is =
          let ten = length_header tag total code in
          omega arith

      -- without a size
      module _ (plainly : eqb tag sessions ≡ false) where
        pub plain_room : behind + length (sized ++ rest) ≤ length handled
        plain_room = rw plainly at rest_room

        pub plain_put : {end : ℕ} {last : List ℕ} → Puts behind (sized ++ rest) handled end last → last ≡ laid 0 (layout_frame tag code body) room
        plain_put {end} {last} p =
            let q : Puts behind (size_field tag sized ++ (sized ++ rest)) handled end last = rw plainly p in
            all_put q

      -- with one
      module _ (signed : eqb tag sessions ≡ true) where
        pub sizes : total ≡ behind + 4 + length sized + length rest
        sizes =
            let place = behind_is in
            let four : ◌≡◌ {A = ℕ} (cond (eqb tag sessions) 4 0) 4 = rw signed in
            let long = length_body tag handles sized rest in
            omega arith

        pub size_is : total - (behind + 4 + length rest) ≡ length sized
        size_is = let sum = sizes in omega arith

        sized_fits : behind + length (bytes 4 (length sized) ++ (sized ++ rest)) ≤ length handled
        sized_fits = rw signed at rest_room

        pub size_room : behind + 4 ≤ length handled
        size_room = rw length_bytes at (room_first behind (bytes 4 (length sized)) (sized ++ rest) handled sized_fits)

        module _ {from : ℕ} {told : List ℕ} (size : Puts behind (bytes 4 (length sized)) handled from told) where
          both_room : from + length (sized ++ rest) ≤ length told
          both_room = room_next behind (bytes 4 (length sized)) (sized ++ rest) handled sized_fits size

          pub sized_room : from + length sized ≤ length told
          sized_room = room_first from sized rest told both_room

          module _ {to : ℕ} {put : List ℕ} (first : Puts from sized told to put) where
            pub last_room : to + length rest ≤ length put
            last_room = room_next from sized rest told both_room first

            pub sized_put : {end : ℕ} {last : List ℕ} → Puts to rest put end last → last ≡ laid 0 (layout_frame tag code body) room
            sized_put {end} {last} second =
                let p = puts_next behind (bytes 4 (length sized)) (sized ++ rest) handled sized_fits size
                (puts_next from sized rest told both_room first second) in
                let q : Puts behind (size_field tag sized ++ (sized ++ rest)) handled end last = rw signed p in
                all_put q
