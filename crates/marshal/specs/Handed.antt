-- What is handed to a writer beside the tag and the codes (document 01, "What must change shape"), and the frame that it asks for.
-- Assumes nothing: these are definitions.
use Rattle.std.specs.Prelude.{ℕ, Bool, cond, List, [], ◌∷◌, eqb}
use Rattle.frame.specs.declared.session.Entries.{Entries}
use Rattle.frame.specs.Header.{plain, sessions, rsp_command}
use Rattle.frame.specs.Layout.{Entry, Frame}
use Rattle.frame.specs.Parts.{entries_in, entries_of}

-- the handle bytes, the sessions, the lent bytes that their positions point into, and the parameter bytes
pub record Handed : Type 0 where
  pub handles : List ℕ
  pub sessions : Entries
  pub lent : List ℕ
  pub parameters : List ℕ

abbrev pub handed : List ℕ → Entries → List ℕ → List ℕ → Handed
handed handles sessions lent parameters = record { handles = handles; sessions = sessions; lent = lent; parameters = parameters }

-- the entries of the sessions that are looked at: so many of the three as the count says
abbrev pub entries_handed : Handed → List Entry
entries_handed h = entries_in h.lent (entries_of h.sessions)

-- ---- the frame that is asked for

abbrev pub command_frame : ℕ → ℕ → Handed → Frame
command_frame tag code h =
    record { tag = tag; code = code; handles = h.handles; entries = entries_handed h; parameters = h.parameters }

-- an entry of a response has no handle
abbrev pub without_handles : List Entry → List Entry
without_handles [] = []
without_handles (e ∷ es) = record { handle = 0; nonce = e.nonce; attributes = e.attributes; hmac = e.hmac } ∷ without_handles es

-- the plain tag for no session, else the sessions tag
abbrev pub tag_for : ℕ → ℕ
tag_for count = cond (eqb count 0) plain sessions

-- success picks its tag
abbrev pub success_frame : Handed → Frame
success_frame h = record {
  tag = tag_for h.sessions.count;
  code = 0;
  handles = h.handles;
  entries = without_handles (entries_handed h);
  parameters = h.parameters;
}

-- any other code: a bare header, under the plain tag or, where that is asked for, under the tag of the answer to a bad tag
abbrev pub error_tag : Bool → ℕ
error_tag asked = cond asked rsp_command plain

abbrev pub error_frame : Bool → ℕ → Frame
error_frame asked code = record { tag = error_tag asked; code = code; handles = []; entries = []; parameters = [] }
