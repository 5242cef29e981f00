-- Each public function of frame leaves a single answer and a single later state of what was lent (base, specs/Single.antt).
-- Assumes nothing.
use mathlib.Core.Path.{◌≡◌, refl, sym, ◌∙◌}
use denote.Ref.{as_bor}
use Rattle.base.specs.Single.{Single, SinglePart}
use Rattle.std.specs.Prelude.{Result}
use Rattle.base.specs.declared.error.TpmError.{TpmError}
use Rattle.base.specs.Error.{numbered}
use Rattle.base.proofs.Refusals.{named, named_numbered}
use Rattle.base.proofs.Answers.{
  said_by_injective,
  said_command_code_injective,
  said_injective,
  said_range_injective,
  said_response_code_injective,
  said_tag_injective,
}
use Rattle.base.proofs.Parts.{same_part}
use Rattle.frame.specs.declared.command.CommandSessions.{CommandSessions}
use Rattle.frame.specs.declared.response.ResponseSessions.{ResponseSessions}
use Rattle.frame.specs.Answer.{said_command_sessions, said_response_sessions}
use Rattle.frame.proofs.rules.longest.Kinds as rules-longest-kinds
use Rattle.frame.proofs.rules.longest.Reads as rules-longest-reads
use Rattle.frame.proofs.session.Entries.new.Kinds as entries-new-kinds
use Rattle.frame.proofs.session.Entries.new.Reads as entries-new-reads
use Rattle.frame.proofs.header.tag.Kinds as frame-tag-kinds
use Rattle.frame.proofs.header.tag.Reads as frame-tag-reads
use Rattle.frame.proofs.header.size.Kinds as frame-size-kinds
use Rattle.frame.proofs.header.size.Reads as frame-size-reads
use Rattle.frame.proofs.header.set_tag.Kinds as frame-set-tag-kinds
use Rattle.frame.proofs.header.set_tag.Reads as frame-set-tag-reads
use Rattle.frame.proofs.header.len.Kinds as frame-len-kinds
use Rattle.frame.proofs.header.len.Reads as frame-len-reads
use Rattle.frame.proofs.header.is_empty.Kinds as frame-is-empty-kinds
use Rattle.frame.proofs.header.is_empty.Reads as frame-is-empty-reads
use Rattle.frame.proofs.command.cc.Kinds as command-cc-kinds
use Rattle.frame.proofs.command.cc.Reads as command-cc-reads
use Rattle.frame.proofs.command.set_cc.Kinds as command-set-cc-kinds
use Rattle.frame.proofs.command.set_cc.Reads as command-set-cc-reads
use Rattle.frame.proofs.command.handles_range.Kinds as command-handles-range-kinds
use Rattle.frame.proofs.command.handles_range.Reads as command-handles-range-reads
use Rattle.frame.proofs.command.auth_area_range.Kinds as command-auth-area-range-kinds
use Rattle.frame.proofs.command.auth_area_range.Reads as command-auth-area-range-reads
use Rattle.frame.proofs.command.parameters_range.Kinds as command-parameters-range-kinds
use Rattle.frame.proofs.command.parameters_range.Reads as command-parameters-range-reads
use Rattle.frame.proofs.command.handles.Kinds as command-handles-kinds
use Rattle.frame.proofs.command.handles.Reads as command-handles-reads
use Rattle.frame.proofs.command.auth_area.Kinds as command-auth-area-kinds
use Rattle.frame.proofs.command.auth_area.Reads as command-auth-area-reads
use Rattle.frame.proofs.command.parameters.Kinds as command-parameters-kinds
use Rattle.frame.proofs.command.parameters.Reads as command-parameters-reads
use Rattle.frame.proofs.command.handles_mut.Kinds as command-handles-mut-kinds
use Rattle.frame.proofs.command.handles_mut.Reads as command-handles-mut-reads
use Rattle.frame.proofs.command.auth_area_mut.Kinds as command-auth-area-mut-kinds
use Rattle.frame.proofs.command.auth_area_mut.Reads as command-auth-area-mut-reads
use Rattle.frame.proofs.command.parameters_mut.Kinds as command-parameters-mut-kinds
use Rattle.frame.proofs.command.parameters_mut.Reads as command-parameters-mut-reads
use Rattle.frame.proofs.command.cast_range.Kinds as command-cast-range-kinds
use Rattle.frame.proofs.command.cast_range.Reads as command-cast-range-reads
use Rattle.frame.proofs.command.cast.Kinds as command-cast-kinds
use Rattle.frame.proofs.command.cast.Reads as command-cast-reads
use Rattle.frame.proofs.command.cast_mut.Kinds as command-cast-mut-kinds
use Rattle.frame.proofs.command.cast_mut.Reads as command-cast-mut-reads
use Rattle.frame.proofs.command.cast_prefix_range.Kinds as command-cast-prefix-range-kinds
use Rattle.frame.proofs.command.cast_prefix_range.Reads as command-cast-prefix-range-reads
use Rattle.frame.proofs.command.cast_prefix.Kinds as command-cast-prefix-kinds
use Rattle.frame.proofs.command.cast_prefix.Reads as command-cast-prefix-reads
use Rattle.frame.proofs.command.cast_prefix_mut.Kinds as command-cast-prefix-mut-kinds
use Rattle.frame.proofs.command.cast_prefix_mut.Reads as command-cast-prefix-mut-reads
use Rattle.frame.proofs.command.cast_prefix_tail.Kinds as command-cast-prefix-tail-kinds
use Rattle.frame.proofs.command.cast_prefix_tail.Reads as command-cast-prefix-tail-reads
use Rattle.frame.proofs.command.cast_prefix_tail_mut.Kinds as command-cast-prefix-tail-mut-kinds
use Rattle.frame.proofs.command.cast_prefix_tail_mut.Reads as command-cast-prefix-tail-mut-reads
use Rattle.frame.proofs.command.validate.Kinds as command-validate-kinds
use Rattle.frame.proofs.command.validate.Reads as command-validate-reads
use Rattle.frame.proofs.command.parts.Kinds as command-parts-kinds
use Rattle.frame.proofs.command.parts.Reads as command-parts-reads
use Rattle.frame.proofs.command.sessions.Kinds as command-sessions-kinds
use Rattle.frame.proofs.command.sessions.Reads as command-sessions-reads
use Rattle.frame.proofs.response.rc.Kinds as response-rc-kinds
use Rattle.frame.proofs.response.rc.Reads as response-rc-reads
use Rattle.frame.proofs.response.set_rc.Kinds as response-set-rc-kinds
use Rattle.frame.proofs.response.set_rc.Reads as response-set-rc-reads
use Rattle.frame.proofs.response.body_range.Kinds as response-body-range-kinds
use Rattle.frame.proofs.response.body_range.Reads as response-body-range-reads
use Rattle.frame.proofs.response.body.Kinds as response-body-kinds
use Rattle.frame.proofs.response.body.Reads as response-body-reads
use Rattle.frame.proofs.response.body_mut.Kinds as response-body-mut-kinds
use Rattle.frame.proofs.response.body_mut.Reads as response-body-mut-reads
use Rattle.frame.proofs.response.cast_range.Kinds as response-cast-range-kinds
use Rattle.frame.proofs.response.cast_range.Reads as response-cast-range-reads
use Rattle.frame.proofs.response.cast.Kinds as response-cast-kinds
use Rattle.frame.proofs.response.cast.Reads as response-cast-reads
use Rattle.frame.proofs.response.cast_mut.Kinds as response-cast-mut-kinds
use Rattle.frame.proofs.response.cast_mut.Reads as response-cast-mut-reads
use Rattle.frame.proofs.response.cast_prefix_range.Kinds as response-cast-prefix-range-kinds
use Rattle.frame.proofs.response.cast_prefix_range.Reads as response-cast-prefix-range-reads
use Rattle.frame.proofs.response.cast_prefix.Kinds as response-cast-prefix-kinds
use Rattle.frame.proofs.response.cast_prefix.Reads as response-cast-prefix-reads
use Rattle.frame.proofs.response.cast_prefix_mut.Kinds as response-cast-prefix-mut-kinds
use Rattle.frame.proofs.response.cast_prefix_mut.Reads as response-cast-prefix-mut-reads
use Rattle.frame.proofs.response.cast_prefix_tail.Kinds as response-cast-prefix-tail-kinds
use Rattle.frame.proofs.response.cast_prefix_tail.Reads as response-cast-prefix-tail-reads
use Rattle.frame.proofs.response.cast_prefix_tail_mut.Kinds as response-cast-prefix-tail-mut-kinds
use Rattle.frame.proofs.response.cast_prefix_tail_mut.Reads as response-cast-prefix-tail-mut-reads
use Rattle.frame.proofs.response.validate.Kinds as response-validate-kinds
use Rattle.frame.proofs.response.validate.Reads as response-validate-reads
use Rattle.frame.proofs.response.parts.Kinds as response-parts-kinds
use Rattle.frame.proofs.response.parts.Reads as response-parts-reads
use Rattle.frame.proofs.response.sessions.Kinds as response-sessions-kinds
use Rattle.frame.proofs.response.sessions.Reads as response-sessions-reads

pub said_command_sessions_injective : (a b : Result CommandSessions TpmError) → said_command_sessions a ≡ said_command_sessions b → a ≡ b
said_command_sessions_injective =
    said_by_injective (λ c. record { code = c.cc.0; entries = c.entries }) numbered (λ c. record { cc = record { 0 = c.code }; entries = c.entries }) named (λ c. refl) named_numbered

pub said_response_sessions_injective : (a b : Result ResponseSessions TpmError) → said_response_sessions a ≡ said_response_sessions b → a ≡ b
said_response_sessions_injective =
    said_by_injective (λ r. record { code = r.rc.0; entries = r.entries }) numbered (λ r. record { rc = record { 0 = r.code }; entries = r.entries }) named (λ r. refl) named_numbered

rules_longest : Single 0 rules-longest-kinds.ps rules-longest-kinds.r rules-longest-reads.Post
rules_longest κs a x y v w p q = (p ∙ sym q, refl)

entries_new : Single 0 entries-new-kinds.ps entries-new-kinds.r entries-new-reads.Post
entries_new κs a x y v w p q = (p ∙ sym q, refl)

frame_tag : Single 1 frame-tag-kinds.ps frame-tag-kinds.r frame-tag-reads.Post
frame_tag κs a x y v w p q = (said_tag_injective x y (p ∙ sym q), refl)

frame_size : Single 1 frame-size-kinds.ps frame-size-kinds.r frame-size-reads.Post
frame_size κs a x y v w p q = (said_injective x y (p ∙ sym q), refl)

frame_set_tag : Single 1 frame-set-tag-kinds.ps frame-set-tag-kinds.r frame-set-tag-reads.Post
frame_set_tag κs a x y v w p q = (said_injective x y (p.0 ∙ sym q.0), λ i. ((p.1 ∙ sym q.1) i, (tt, tt)))

frame_len : Single 1 frame-len-kinds.ps frame-len-kinds.r frame-len-reads.Post
frame_len κs a x y v w p q = (p ∙ sym q, refl)

frame_is_empty : Single 1 frame-is-empty-kinds.ps frame-is-empty-kinds.r frame-is-empty-reads.Post
frame_is_empty κs a x y v w p q = (p ∙ sym q, refl)

-- ---- commands

command_cc : Single 1 command-cc-kinds.ps command-cc-kinds.r command-cc-reads.Post
command_cc κs a x y v w p q = (said_command_code_injective x y (p ∙ sym q), refl)

command_set_cc : Single 1 command-set-cc-kinds.ps command-set-cc-kinds.r command-set-cc-reads.Post
command_set_cc κs a x y v w p q = (said_injective x y (p.0 ∙ sym q.0), λ i. (tt, ((p.1 ∙ sym q.1) i, (tt, tt))))

command_handles_range : Single 1 command-handles-range-kinds.ps command-handles-range-kinds.r command-handles-range-reads.Post
command_handles_range κs a x y v w p q = (said_range_injective x y (p ∙ sym q), refl)

command_auth_area_range : Single 1 command-auth-area-range-kinds.ps command-auth-area-range-kinds.r command-auth-area-range-reads.Post
command_auth_area_range κs a x y v w p q = (said_range_injective x y (p ∙ sym q), refl)

command_parameters_range : Single 1 command-parameters-range-kinds.ps command-parameters-range-kinds.r command-parameters-range-reads.Post
command_parameters_range κs a x y v w p q = (said_range_injective x y (p ∙ sym q), refl)

command_handles_lem : SinglePart 1 command-handles-kinds.ps command-handles-kinds.r (λ κs x. x) command-handles-reads.Post
command_handles_lem κs a x y v w p q = (same_part x y p q, refl)

command_auth_area : SinglePart 1 command-auth-area-kinds.ps command-auth-area-kinds.r (λ κs x. x) command-auth-area-reads.Post
command_auth_area κs a x y v w p q = (same_part x y p q, refl)

command_parameters : SinglePart 1 command-parameters-kinds.ps command-parameters-kinds.r (λ κs x. x) command-parameters-reads.Post
command_parameters κs a x y v w p q = (same_part x y p q, refl)

command_handles_mut : SinglePart 1 command-handles-mut-kinds.ps command-handles-mut-kinds.r (λ κs x. as_bor x) command-handles-mut-reads.Post
command_handles_mut κs a x y v w p q = (same_part (as_bor x) (as_bor y) p q, refl)

command_auth_area_mut : SinglePart 1 command-auth-area-mut-kinds.ps command-auth-area-mut-kinds.r (λ κs x. as_bor x) command-auth-area-mut-reads.Post
command_auth_area_mut κs a x y v w p q = (same_part (as_bor x) (as_bor y) p q, refl)

command_parameters_mut : SinglePart 1 command-parameters-mut-kinds.ps command-parameters-mut-kinds.r (λ κs x. as_bor x) command-parameters-mut-reads.Post
command_parameters_mut κs a x y v w p q = (same_part (as_bor x) (as_bor y) p q, refl)

command_cast_range : Single 1 command-cast-range-kinds.ps command-cast-range-kinds.r command-cast-range-reads.Post
command_cast_range κs a x y v w p q = (said_range_injective x y (p ∙ sym q), refl)

command_cast : SinglePart 1 command-cast-kinds.ps command-cast-kinds.r (λ κs x. x) command-cast-reads.Post
command_cast κs a x y v w p q = (same_part x y p q, refl)

command_cast_mut : SinglePart 1 command-cast-mut-kinds.ps command-cast-mut-kinds.r (λ κs x. as_bor x) command-cast-mut-reads.Post
command_cast_mut κs a x y v w p q = (same_part (as_bor x) (as_bor y) p q, refl)

command_cast_prefix_range : Single 1 command-cast-prefix-range-kinds.ps command-cast-prefix-range-kinds.r command-cast-prefix-range-reads.Post
command_cast_prefix_range κs a x y v w p q = (said_range_injective x y (p ∙ sym q), refl)

command_cast_prefix : SinglePart 1 command-cast-prefix-kinds.ps command-cast-prefix-kinds.r (λ κs x. x) command-cast-prefix-reads.Post
command_cast_prefix κs a x y v w p q = (same_part x y p q, refl)

command_cast_prefix_mut : SinglePart 1 command-cast-prefix-mut-kinds.ps command-cast-prefix-mut-kinds.r (λ κs x. as_bor x) command-cast-prefix-mut-reads.Post
command_cast_prefix_mut κs a x y v w p q = (same_part (as_bor x) (as_bor y) p q, refl)

command_cast_prefix_tail : SinglePart 1 command-cast-prefix-tail-kinds.ps command-cast-prefix-tail-kinds.r (λ κs x. x) command-cast-prefix-tail-reads.Post
command_cast_prefix_tail κs a x y v w p q = (same_part x y p q, refl)

command_cast_prefix_tail_mut : SinglePart 1 command-cast-prefix-tail-mut-kinds.ps command-cast-prefix-tail-mut-kinds.r (λ κs x. as_bor x) command-cast-prefix-tail-mut-reads.Post
command_cast_prefix_tail_mut κs a x y v w p q = (same_part (as_bor x) (as_bor y) p q, refl)

command_validate : Single 1 command-validate-kinds.ps command-validate-kinds.r command-validate-reads.Post
command_validate κs a x y v w p q = (said_injective x y (p ∙ sym q), refl)

command_parts_lem : Single 1 command-parts-kinds.ps command-parts-kinds.r command-parts-reads.Post
command_parts_lem κs a x y v w p q = (said_injective x y (p ∙ sym q), refl)

command_sessions : Single 1 command-sessions-kinds.ps command-sessions-kinds.r command-sessions-reads.Post
command_sessions κs a x y v w p q = (said_command_sessions_injective x y (p ∙ sym q), refl)

-- ---- responses

response_rc : Single 1 response-rc-kinds.ps response-rc-kinds.r response-rc-reads.Post
response_rc κs a x y v w p q = (said_response_code_injective x y (p ∙ sym q), refl)

response_set_rc : Single 1 response-set-rc-kinds.ps response-set-rc-kinds.r response-set-rc-reads.Post
response_set_rc κs a x y v w p q = (said_injective x y (p.0 ∙ sym q.0), λ i. (tt, ((p.1 ∙ sym q.1) i, (tt, tt))))

response_body_range : Single 1 response-body-range-kinds.ps response-body-range-kinds.r response-body-range-reads.Post
response_body_range κs a x y v w p q = (said_range_injective x y (p ∙ sym q), refl)

response_body : SinglePart 1 response-body-kinds.ps response-body-kinds.r (λ κs x. x) response-body-reads.Post
response_body κs a x y v w p q = (same_part x y p q, refl)

response_body_mut : SinglePart 1 response-body-mut-kinds.ps response-body-mut-kinds.r (λ κs x. as_bor x) response-body-mut-reads.Post
response_body_mut κs a x y v w p q = (same_part (as_bor x) (as_bor y) p q, refl)

response_cast_range : Single 1 response-cast-range-kinds.ps response-cast-range-kinds.r response-cast-range-reads.Post
response_cast_range κs a x y v w p q = (said_range_injective x y (p ∙ sym q), refl)

response_cast : SinglePart 1 response-cast-kinds.ps response-cast-kinds.r (λ κs x. x) response-cast-reads.Post
response_cast κs a x y v w p q = (same_part x y p q, refl)

response_cast_mut : SinglePart 1 response-cast-mut-kinds.ps response-cast-mut-kinds.r (λ κs x. as_bor x) response-cast-mut-reads.Post
response_cast_mut κs a x y v w p q = (same_part (as_bor x) (as_bor y) p q, refl)

response_cast_prefix_range : Single 1 response-cast-prefix-range-kinds.ps response-cast-prefix-range-kinds.r response-cast-prefix-range-reads.Post
response_cast_prefix_range κs a x y v w p q = (said_range_injective x y (p ∙ sym q), refl)

response_cast_prefix : SinglePart 1 response-cast-prefix-kinds.ps response-cast-prefix-kinds.r (λ κs x. x) response-cast-prefix-reads.Post
response_cast_prefix κs a x y v w p q = (same_part x y p q, refl)

response_cast_prefix_mut : SinglePart 1 response-cast-prefix-mut-kinds.ps response-cast-prefix-mut-kinds.r (λ κs x. as_bor x) response-cast-prefix-mut-reads.Post
response_cast_prefix_mut κs a x y v w p q = (same_part (as_bor x) (as_bor y) p q, refl)

response_cast_prefix_tail : SinglePart 1 response-cast-prefix-tail-kinds.ps response-cast-prefix-tail-kinds.r (λ κs x. x) response-cast-prefix-tail-reads.Post
response_cast_prefix_tail κs a x y v w p q = (same_part x y p q, refl)

response_cast_prefix_tail_mut : SinglePart 1 response-cast-prefix-tail-mut-kinds.ps response-cast-prefix-tail-mut-kinds.r (λ κs x. as_bor x) response-cast-prefix-tail-mut-reads.Post
response_cast_prefix_tail_mut κs a x y v w p q = (same_part (as_bor x) (as_bor y) p q, refl)

response_validate : Single 1 response-validate-kinds.ps response-validate-kinds.r response-validate-reads.Post
response_validate κs a x y v w p q = (said_injective x y (p ∙ sym q), refl)

response_parts_lem : Single 1 response-parts-kinds.ps response-parts-kinds.r response-parts-reads.Post
response_parts_lem κs a x y v w p q = (said_injective x y (p ∙ sym q), refl)

response_sessions : Single 1 response-sessions-kinds.ps response-sessions-kinds.r response-sessions-reads.Post
response_sessions κs a x y v w p q = (said_response_sessions_injective x y (p ∙ sym q), refl)
