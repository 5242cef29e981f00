-- The answers of the frame's calls, in the paper's terms; and what the calls give back of a division, by value.
-- Assumes nothing: these are definitions.
use Rattle.std.specs.Prelude.{ℕ, Bool, true, false, List, length, Result}
use Rattle.base.specs.declared.error.TpmError.{TpmError}
use Rattle.base.specs.Answer.{Part, said_by}
use Rattle.base.specs.Error.{numbered}
use Rattle.base.specs.Parts.{span}
use Rattle.base.specs.Said.{Said, gives, then}
use Rattle.frame.specs.declared.areas.Areas.{Areas}
use Rattle.frame.specs.declared.session.Session.{Session}
use Rattle.frame.specs.declared.session.Entries.{Entries}
use Rattle.frame.specs.declared.command.Command.{Command}
use Rattle.frame.specs.declared.command.CommandSessions.{CommandSessions}
use Rattle.frame.specs.declared.response.Response.{Response}
use Rattle.frame.specs.declared.response.ResponseSessions.{ResponseSessions}
use Rattle.frame.specs.Command.{Division}
use Rattle.frame.specs.Header.{tag_of, code_of}
use Rattle.frame.specs.Walk.{behind, by_value}

-- what is asked of an entry and of a division by those who need no more: the place behind the one, the areas of the other
abbrev pub behind_of : Said Session → Said ℕ
behind_of read = then read λ e. gives (behind e)

abbrev pub areas_of : Said Division → Said Areas
areas_of division = then division λ d. gives d.areas

-- the entries that a walk gives, by value
abbrev pub entries_by_value : Said (List Session) → Said Entries
entries_by_value walked = then walked λ es. gives (by_value es)

-- the width of the handle before an entry: 4 bytes in a command, none in a response
abbrev pub handle_width : Bool → ℕ
handle_width true = 4
handle_width false = 0

-- a command and a response by value, from the tag, the code, where the frame ends, its areas and its entries: the sized bytes are
-- the entries of the one and the parameters of the other
abbrev pub command_of : ℕ → ℕ → ℕ → Areas → Entries → Command
command_of tag code end areas entries = record {
  tag = record { 0 = tag };
  cc = record { 0 = code };
  handles = span 10 areas.handles;
  auth = span areas.from areas.to;
  parameters = span areas.to end;
  entries = entries;
}

abbrev pub response_of : ℕ → ℕ → ℕ → Areas → Entries → Response
response_of tag code end areas entries = record {
  tag = record { 0 = tag };
  rc = record { 0 = code };
  handles = span 10 areas.handles;
  parameters = span areas.from areas.to;
  auth = span areas.to end;
  entries = entries;
}

-- what is given back of a division of some bytes
abbrev pub frame_of : {B : Type 0} → (ℕ → ℕ → ℕ → Areas → Entries → B) → List ℕ → Division → B
frame_of of s d = of (tag_of s) (code_of s) (length s) d.areas (by_value d.entries)

abbrev pub command_by_value : List ℕ → Said Division → Said Command
command_by_value s division = then division λ d. gives (frame_of command_of s d)

abbrev pub response_by_value : List ℕ → Said Division → Said Response
response_by_value s division = then division λ d. gives (frame_of response_of s d)

-- what a frame says of sessions: its code, and its entries by value
pub record Signed : Type 0 where
  pub code : ℕ
  pub entries : Entries

-- that of a division of some bytes
abbrev pub signed : List ℕ → Said Division → Said Signed
signed s division = then division λ d. gives (record { code = code_of s; entries = by_value d.entries })

-- a command's and a response's answer in these terms
abbrev pub said_command_sessions : Result CommandSessions TpmError → Said Signed
said_command_sessions = said_by (λ c. record { code = c.cc.0; entries = c.entries }) numbered

abbrev pub said_response_sessions : Result ResponseSessions TpmError → Said Signed
said_response_sessions = said_by (λ r. record { code = r.rc.0; entries = r.entries }) numbered

-- ---- ranges of lent bytes

-- all bytes, where a read passed
abbrev pub whole : {A : Type 0} → List ℕ → Said A → Said Part
whole s read = then read λ a. gives (record { from = 0; to = length s })
