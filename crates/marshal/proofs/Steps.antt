-- The steps in which a TPM2B and an entry are put, each from what the calls before it promise: there is room for the next, and all
-- together are the layout.
-- Assumes nothing.
use mathlib.Core.Path.{◌≡◌, ap}
use mathlib.Core.List.{List, [], ◌∷◌, ◌++◌, append-nil}
use Prim.Native.Nat.{ℕ, ◌+◌, ◌-◌, ◌≤◌, ◌<◌}
use native.Mathlib.Omega.{arith}
use lib.ListN.{length, take, drop, set, length-append}
use Rattle.base.specs.Bytes.{bytes}
use Rattle.base.specs.Said.{gives}
use Rattle.base.specs.Tpm2b.{tpm2b}
use Rattle.base.proofs.Bytes.{length_bytes}
use Rattle.frame.specs.declared.session.Field.{Field}
use Rattle.frame.specs.declared.session.Session.{Session}
use Rattle.frame.specs.Layout.{Entry, layout_entry, layout_entries}
use Rattle.frame.specs.Parts.{field_in, entry_in, entries_in}
use Rattle.marshal.specs.Laid.{Puts, layout_signed}
use Rattle.frame.specs.Rules.{unlimited}
use Rattle.marshal.specs.Write.{field_there}
use Rattle.marshal.proofs.Lengths.{length_field}
use Rattle.marshal.proofs.Rooms.{room_first, room_next, puts_next, puts_byte}

-- a field of w bytes fits where it and what comes behind it do
pub field_room : (w place n : ℕ) (y s : List ℕ) → place + length (bytes w n ++ y) ≤ length s → place + w ≤ length s
field_room w place n y s fits = rw length_bytes at (room_first place (bytes w n) y s fits)

-- what the code takes of the lent bytes is the field
pub part_is : (lent : List ℕ) (f : Field) → take (f.at + f.size - f.at) (drop f.at lent) ≡ field_in lent f
part_is lent f =
    let long : f.at + f.size - f.at ≡ f.size = omega arith in
    ap (λ (k : ℕ). take k (drop f.at lent)) long

module _ (lent : List ℕ) (f : Field) (there : field_there unlimited (length lent) f ≡ gives tt) (place : ℕ) (room : List ℕ)
    (fits : place + length (tpm2b (field_in lent f)) ≤ length room)
    {next : ℕ} {later : List ℕ} (size : Puts place (bytes 2 f.size) room next later) where
  size_is : Puts place (bytes 2 (length (field_in lent f))) room next later
  size_is = rw (length_field unlimited lent f there) size

  pub data_room : next + length (take (f.at + f.size - f.at) (drop f.at lent)) ≤ length later
  data_room = rw (part_is lent f) (room_next place (bytes 2 (length (field_in lent f))) (field_in lent f) room fits size_is)

  pub tpm2b_put : {end : ℕ} {last : List ℕ} → Puts next (take (f.at + f.size - f.at) (drop f.at lent)) later end last
      → Puts place (tpm2b (field_in lent f)) room end last
  tpm2b_put p = puts_next place (bytes 2 (length (field_in lent f))) (field_in lent f) room fits size_is (rw (part_is lent f) at p)

-- the nonce is put: the attribute byte and the HMAC fit behind it
module _ (e : Entry) (place : ℕ) (room : List ℕ) (fits : place + length (layout_signed e) ≤ length room)
    {next : ℕ} {later : List ℕ} (nonce : Puts place (tpm2b e.nonce) room next later) where
  rest_room : next + length (e.attributes ∷ tpm2b e.hmac) ≤ length later
  rest_room = room_next place (tpm2b e.nonce) (e.attributes ∷ tpm2b e.hmac) room fits nonce

  pub byte_room : next < length later
  byte_room = let rest = rest_room in omega arith

  pub signed_put : {end : ℕ} {last : List ℕ} → Puts (next + 1) (tpm2b e.hmac) (set later next e.attributes) end last
      → Puts place (layout_signed e) room end last
  signed_put p =
      puts_next place (tpm2b e.nonce) (e.attributes ∷ tpm2b e.hmac) room fits nonce
      (puts_next next (e.attributes ∷ []) (tpm2b e.hmac) later rest_room (puts_byte next e.attributes later byte_room) p)

-- entries one behind the other
module _ (width : ℕ) (lent : List ℕ) where
  abbrev pub session_laid : Session → List ℕ
  session_laid e = layout_entry width (entry_in lent e)

  abbrev pub sessions_laid : List Session → List ℕ
  sessions_laid es = layout_entries width (entries_in lent es)

  module _ (place : ℕ) (room : List ℕ) where
    -- the last of them
    pub last_put : (e : Session) {end : ℕ} {last : List ℕ} → Puts place (session_laid e) room end last → Puts place (sessions_laid (e ∷ [])) room end last
    last_put e p = rw append-nil p

    module _ (e : Session) (es : List Session) (fits : place + length (sessions_laid (e ∷ es)) ≤ length room) where
      pub entry_room : place + length (session_laid e) ≤ length room
      entry_room = room_first place (session_laid e) (sessions_laid es) room fits

      module _ {next : ℕ} {later : List ℕ} (p : Puts place (session_laid e) room next later) where
        pub entries_room : next + length (sessions_laid es) ≤ length later
        entries_room = room_next place (session_laid e) (sessions_laid es) room fits p

        pub entries_put : {end : ℕ} {last : List ℕ} → Puts next (sessions_laid es) later end last → Puts place (sessions_laid (e ∷ es)) room end last
        entries_put q = puts_next place (session_laid e) (sessions_laid es) room fits p q

-- the header: tag, size and code
module _ (place tag size code : ℕ) (room : List ℕ) (ten : place + 10 ≤ length room) {next : ℕ} {later : List ℕ} (first : Puts place (bytes 2 tag) room next later) where
  header_room : place + length (bytes 2 tag ++ (bytes 4 size ++ bytes 4 code)) ≤ length room
  header_room = simp (length-append, length_bytes) ten

  rest_of_header : next + length (bytes 4 size ++ bytes 4 code) ≤ length later
  rest_of_header = room_next place (bytes 2 tag) (bytes 4 size ++ bytes 4 code) room header_room first

  pub header_put : {middle end : ℕ} {last whole : List ℕ} → Puts next (bytes 4 size) later middle last → Puts middle (bytes 4 code) last end whole
      → Puts place (bytes 2 tag ++ (bytes 4 size ++ bytes 4 code)) room end whole
  header_put second third =
      puts_next place (bytes 2 tag) (bytes 4 size ++ bytes 4 code) room header_room first
      (puts_next next (bytes 4 size) (bytes 4 code) later rest_of_header second third)
