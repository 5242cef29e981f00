-- The parts that a command or a response by value tells of some bytes: where the layout says what a part is, what is given back says
-- where it stands.
-- Assumes nothing: these are definitions.
use Rattle.std.specs.Prelude.{ℕ, ◌+◌, ◌-◌, ◌≤◌, List, [], ◌∷◌, take, drop}
use Rattle.base.specs.Answer.{Part}
use Rattle.base.specs.Parts.{held_at}
use Rattle.frame.specs.declared.command.Command.{Command}
use Rattle.base.specs.declared.part.Span.{Span}
use Rattle.frame.specs.declared.response.Response.{Response}
use Rattle.frame.specs.declared.session.Entries.{Entries}
use Rattle.frame.specs.declared.session.Field.{Field}
use Rattle.frame.specs.declared.session.Session.{Session}
use Rattle.frame.specs.Layout.{Entry, Frame}

abbrev pub between : ℕ → ℕ → List ℕ → List ℕ
between from to s = take (to - from) (drop from s)

-- a part of the bytes, as the reads of one area tell it
abbrev pub ranged : Span → Part
ranged p = record { from = p.from; to = p.to }

abbrev pub field_in : List ℕ → Field → List ℕ
field_in s f = take f.size (drop f.at s)

-- a nonce or an HMAC of at most so many bytes, one that ends within so many, and one that does both
abbrev pub NoLonger : ℕ → Field → Type 0
NoLonger limit f = f.size ≤ limit

abbrev pub EndsWithin : ℕ → Field → Type 0
EndsWithin len f = f.at + f.size ≤ len

abbrev pub Kept : ℕ → ℕ → Field → Type 0
Kept limit len f = NoLonger limit f × EndsWithin len f

-- what holds of the nonce and of the HMAC of each entry
abbrev pub EachField : (Field → Type 0) → List Session → Type 0
EachField P [] = Unit {0}
EachField P (e ∷ es) = (P e.nonce × P e.hmac) × EachField P es

abbrev pub entry_in : List ℕ → Session → Entry
entry_in s e = record { handle = e.handle; nonce = field_in s e.nonce; attributes = e.attributes; hmac = field_in s e.hmac }

abbrev pub entries_in : List ℕ → List Session → List Entry
entries_in s [] = []
entries_in s (e ∷ es) = entry_in s e ∷ entries_in s es

-- as many entries as are counted, of the three that are there
abbrev pub entries_of : Entries → List Session
entries_of es = take es.count (es.first ∷ es.second ∷ es.third ∷ [])

abbrev pub told : List ℕ → ℕ → ℕ → Span → Span → List Session → Frame
told s tag code handles parameters entries = record {
  tag = tag;
  code = code;
  handles = held_at handles s;
  entries = entries_in s entries;
  parameters = held_at parameters s;
}

unfoldable pub command_parts : List ℕ → Command → Frame
command_parts s c = told s c.tag.0 c.cc.0 c.handles c.parameters (entries_of c.entries)

unfoldable pub response_parts : List ℕ → Response → Frame
response_parts s r = told s r.tag.0 r.rc.0 r.handles r.parameters (entries_of r.entries)
