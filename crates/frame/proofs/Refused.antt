-- What whoever calls a reading or a setter of a frame is told of a refusal (document 02, W2): its area is one with which its number stands, and its offset
-- stands there. Stated of each public function's contract.
-- Assumes nothing.
use mathlib.Core.Path.{◌≡◌, refl, sym, ◌∙◌, ap}
use mathlib.Core.List.{List, [], ◌∷◌}
use Prim.Native.Nat.{ℕ}
use Rattle.std.specs.Prelude.{Err}
use Rattle.base.specs.declared.error.TpmError.{TpmError}
use Rattle.base.specs.Answer.{said, said_tag, said_command_code, said_response_code, said_range}
use Rattle.base.specs.Error.{numbered}
use Rattle.base.specs.Said.{Why, Said, refuses, Only}
use Rattle.base.proofs.Only.{by_done, by_step}
use Rattle.frame.specs.Answer.{said_command_sessions, said_response_sessions}
use Rattle.frame.specs.Command.{handles_range, auth_range, parameters_range}
use Rattle.frame.specs.Rules.{Rulebook, book_of}
use Rattle.frame.specs.Where.{OfHeader, OfCommand, OfResponse, AtStart}
use Rattle.frame.proofs.Laws.{Promised}
use Rattle.frame.proofs.Where as only
use Rattle.frame.proofs.header.tag.Kinds as header-tag-kinds
use Rattle.frame.proofs.header.tag.Reads as header-tag-reads
use Rattle.frame.proofs.header.size.Kinds as header-size-kinds
use Rattle.frame.proofs.header.size.Reads as header-size-reads
use Rattle.frame.proofs.header.set_tag.Kinds as header-set-tag-kinds
use Rattle.frame.proofs.header.set_tag.Reads as header-set-tag-reads
use Rattle.frame.proofs.command.cc.Kinds as command-cc-kinds
use Rattle.frame.proofs.command.cc.Reads as command-cc-reads
use Rattle.frame.proofs.command.set_cc.Kinds as command-set-cc-kinds
use Rattle.frame.proofs.command.set_cc.Reads as command-set-cc-reads
use Rattle.frame.proofs.command.handles_range.Kinds as command-handles-range-kinds
use Rattle.frame.proofs.command.handles_range.Reads as command-handles-range-reads
use Rattle.frame.proofs.command.auth_area_range.Kinds as command-auth-area-range-kinds
use Rattle.frame.proofs.command.auth_area_range.Reads as command-auth-area-range-reads
use Rattle.frame.proofs.command.parameters_range.Kinds as command-parameters-range-kinds
use Rattle.frame.proofs.command.parameters_range.Reads as command-parameters-range-reads
use Rattle.frame.proofs.command.cast_range.Kinds as command-cast-range-kinds
use Rattle.frame.proofs.command.cast_range.Reads as command-cast-range-reads
use Rattle.frame.proofs.command.cast_prefix_range.Kinds as command-cast-prefix-range-kinds
use Rattle.frame.proofs.command.cast_prefix_range.Reads as command-cast-prefix-range-reads
use Rattle.frame.proofs.command.validate.Kinds as command-validate-kinds
use Rattle.frame.proofs.command.validate.Reads as command-validate-reads
use Rattle.frame.proofs.command.parts.Kinds as command-parts-kinds
use Rattle.frame.proofs.command.parts.Reads as command-parts-reads
use Rattle.frame.proofs.command.sessions.Kinds as command-sessions-kinds
use Rattle.frame.proofs.command.sessions.Reads as command-sessions-reads
use Rattle.frame.proofs.response.rc.Kinds as response-rc-kinds
use Rattle.frame.proofs.response.rc.Reads as response-rc-reads
use Rattle.frame.proofs.response.set_rc.Kinds as response-set-rc-kinds
use Rattle.frame.proofs.response.set_rc.Reads as response-set-rc-reads
use Rattle.frame.proofs.response.body_range.Kinds as response-body-range-kinds
use Rattle.frame.proofs.response.body_range.Reads as response-body-range-reads
use Rattle.frame.proofs.response.cast_range.Kinds as response-cast-range-kinds
use Rattle.frame.proofs.response.cast_range.Reads as response-cast-range-reads
use Rattle.frame.proofs.response.cast_prefix_range.Kinds as response-cast-prefix-range-kinds
use Rattle.frame.proofs.response.cast_prefix_range.Reads as response-cast-prefix-range-reads
use Rattle.frame.proofs.response.validate.Kinds as response-validate-kinds
use Rattle.frame.proofs.response.validate.Reads as response-validate-reads
use Rattle.frame.proofs.response.parts.Kinds as response-parts-kinds
use Rattle.frame.proofs.response.parts.Reads as response-parts-reads
use Rattle.frame.proofs.response.sessions.Kinds as response-sessions-kinds
use Rattle.frame.proofs.response.sessions.Reads as response-sessions-reads

-- an answer that is a refusal is one of those that were said
told : {X A : Type 0} {kind : Why → Type 0} (said : X → Said A) (refused : TpmError → X) → ((e : TpmError) → said (refused e) ≡ refuses (numbered e))
    → {y : Said A} → Only kind y → {x : X} → said x ≡ y → (e : TpmError) → x ≡ refused e → kind (numbered e)
told said refused known p met e is = p.each (numbered e) (sym met ∙ ap said is ∙ known e)

-- the reads of one area
module _ (book : Rulebook) (s : List ℕ) where
  handles : Only (OfCommand book s) (handles_range book s)
  unfolding handles_range
  handles = by_step _ (only.only_command_handles book s)

  auth : Only (OfCommand book s) (auth_range book s)
  unfolding auth_range
  auth = by_step _ (only.only_command_areas book s)

  parameters : Only (OfCommand book s) (parameters_range book s)
  unfolding parameters_range
  parameters = by_step _ (only.only_command_areas book s)

-- ---- a field of the header

pub header_tag : Promised 1 header-tag-kinds.ps header-tag-kinds.r header-tag-reads.Post
    (λ κs a x later. (e : TpmError) → x ≡ Err e → OfHeader (1 ∷ 3 ∷ []) a.0.now (numbered e))
header_tag κs a x v met = told said_tag Err (λ e. refl) (only.only_tag a.0.now) met

pub header_size : Promised 1 header-size-kinds.ps header-size-kinds.r header-size-reads.Post
    (λ κs a x later. (e : TpmError) → x ≡ Err e → OfHeader (1 ∷ []) a.0.now (numbered e))
header_size κs a x v met = told said Err (λ e. refl) (only.only_size a.0.now) met

pub header_set_tag : Promised 1 header-set-tag-kinds.ps header-set-tag-kinds.r header-set-tag-reads.Post
    (λ κs a x later. (e : TpmError) → x ≡ Err e → OfHeader (1 ∷ 3 ∷ []) a.0.now (numbered e))
header_set_tag κs a x v met = told said Err (λ e. refl) (by_done (only.only_set_tag a.0.now a.1.0.0)) met.0

-- ---- commands

pub command_cc : Promised 1 command-cc-kinds.ps command-cc-kinds.r command-cc-reads.Post
    (λ κs a x later. (e : TpmError) → x ≡ Err e → OfHeader (1 ∷ 4 ∷ []) a.1.0.now (numbered e))
command_cc κs a x v met = told said_command_code Err (λ e. refl) (only.only_cc a.1.0.now (book_of a.0)) met

pub command_set_cc : Promised 1 command-set-cc-kinds.ps command-set-cc-kinds.r command-set-cc-reads.Post
    (λ κs a x later. (e : TpmError) → x ≡ Err e → OfHeader (1 ∷ 4 ∷ []) a.1.0.now (numbered e))
command_set_cc κs a x v met = told said Err (λ e. refl) (by_done (only.only_set_cc a.1.0.now (book_of a.0) a.1.1.0.0)) met.0

pub command_handles_range : Promised 1 command-handles-range-kinds.ps command-handles-range-kinds.r command-handles-range-reads.Post
    (λ κs a x later. (e : TpmError) → x ≡ Err e → OfCommand (book_of a.0) a.1.0.now (numbered e))
command_handles_range κs a x v met = told said_range Err (λ e. refl) (handles (book_of a.0) a.1.0.now) met

pub command_auth_area_range : Promised 1 command-auth-area-range-kinds.ps command-auth-area-range-kinds.r command-auth-area-range-reads.Post
    (λ κs a x later. (e : TpmError) → x ≡ Err e → OfCommand (book_of a.0) a.1.0.now (numbered e))
command_auth_area_range κs a x v met = told said_range Err (λ e. refl) (auth (book_of a.0) a.1.0.now) met

pub command_parameters_range : Promised 1 command-parameters-range-kinds.ps command-parameters-range-kinds.r command-parameters-range-reads.Post
    (λ κs a x later. (e : TpmError) → x ≡ Err e → OfCommand (book_of a.0) a.1.0.now (numbered e))
command_parameters_range κs a x v met = told said_range Err (λ e. refl) (parameters (book_of a.0) a.1.0.now) met

pub command_cast_range : Promised 1 command-cast-range-kinds.ps command-cast-range-kinds.r command-cast-range-reads.Post
    (λ κs a x later. (e : TpmError) → x ≡ Err e → OfCommand (book_of a.0) a.1.0.now (numbered e))
command_cast_range κs a x v met = told said_range Err (λ e. refl) (by_step _ (only.only_cast_command (book_of a.0) a.1.0.now)) met

pub command_cast_prefix_range : Promised 1 command-cast-prefix-range-kinds.ps command-cast-prefix-range-kinds.r command-cast-prefix-range-reads.Post
    (λ κs a x later. (e : TpmError) → x ≡ Err e → AtStart (OfCommand (book_of a.0)) a.1.0.now (numbered e))
command_cast_prefix_range κs a x v met = told said_range Err (λ e. refl) (by_step _ (only.only_cast_command_prefix (book_of a.0) a.1.0.now)) met

pub command_validate : Promised 1 command-validate-kinds.ps command-validate-kinds.r command-validate-reads.Post
    (λ κs a x later. (e : TpmError) → x ≡ Err e → OfCommand (book_of a.0) a.1.0.now (numbered e))
command_validate κs a x v met = told said Err (λ e. refl) (by_done (only.only_command (book_of a.0) a.1.0.now)) met

pub command_parts_lem : Promised 1 command-parts-kinds.ps command-parts-kinds.r command-parts-reads.Post
    (λ κs a x later. (e : TpmError) → x ≡ Err e → OfCommand (book_of a.0) a.1.0.now (numbered e))
command_parts_lem κs a x v met = told said Err (λ e. refl) (by_step _ (only.only_command (book_of a.0) a.1.0.now)) met

pub command_sessions : Promised 1 command-sessions-kinds.ps command-sessions-kinds.r command-sessions-reads.Post
    (λ κs a x later. (e : TpmError) → x ≡ Err e → OfCommand (book_of a.0) a.1.0.now (numbered e))
command_sessions κs a x v met = told said_command_sessions Err (λ e. refl) (by_step _ (only.only_command (book_of a.0) a.1.0.now)) met

-- ---- responses

pub response_rc : Promised 1 response-rc-kinds.ps response-rc-kinds.r response-rc-reads.Post
    (λ κs a x later. (e : TpmError) → x ≡ Err e → OfHeader (1 ∷ 5 ∷ []) a.1.0.now (numbered e))
response_rc κs a x v met = told said_response_code Err (λ e. refl) (only.only_rc a.1.0.now (book_of a.0)) met

pub response_set_rc : Promised 1 response-set-rc-kinds.ps response-set-rc-kinds.r response-set-rc-reads.Post
    (λ κs a x later. (e : TpmError) → x ≡ Err e → OfHeader (1 ∷ 5 ∷ []) a.1.0.now (numbered e))
response_set_rc κs a x v met = told said Err (λ e. refl) (by_done (only.only_set_rc a.1.0.now (book_of a.0) a.1.1.0.0)) met.0

pub response_body_range : Promised 1 response-body-range-kinds.ps response-body-range-kinds.r response-body-range-reads.Post
    (λ κs a x later. (e : TpmError) → x ≡ Err e → OfHeader (1 ∷ []) a.0.now (numbered e))
response_body_range κs a x v met = told said_range Err (λ e. refl) (only.only_body a.0.now) met

pub response_cast_range : Promised 1 response-cast-range-kinds.ps response-cast-range-kinds.r response-cast-range-reads.Post
    (λ κs a x later. (e : TpmError) → x ≡ Err e → OfHeader (1 ∷ 2 ∷ 3 ∷ 5 ∷ []) a.1.0.now (numbered e))
response_cast_range κs a x v met = told said_range Err (λ e. refl) (by_step _ (only.only_cast_response (book_of a.0) a.1.0.now)) met

pub response_cast_prefix_range : Promised 1 response-cast-prefix-range-kinds.ps response-cast-prefix-range-kinds.r response-cast-prefix-range-reads.Post
    (λ κs a x later. (e : TpmError) → x ≡ Err e → AtStart (OfHeader (1 ∷ 3 ∷ 5 ∷ [])) a.1.0.now (numbered e))
response_cast_prefix_range κs a x v met = told said_range Err (λ e. refl) (by_step _ (only.only_cast_response_prefix (book_of a.0) a.1.0.now)) met

pub response_validate : Promised 1 response-validate-kinds.ps response-validate-kinds.r response-validate-reads.Post
    (λ κs a x later. (e : TpmError) → x ≡ Err e → OfResponse (book_of a.0) a.1.0.0 a.1.1.0.now (numbered e))
response_validate κs a x v met = told said Err (λ e. refl) (by_done (only.only_response (book_of a.0) a.1.1.0.now a.1.0.0)) met

pub response_parts_lem : Promised 1 response-parts-kinds.ps response-parts-kinds.r response-parts-reads.Post
    (λ κs a x later. (e : TpmError) → x ≡ Err e → OfResponse (book_of a.0) a.1.0.0 a.1.1.0.now (numbered e))
response_parts_lem κs a x v met = told said Err (λ e. refl) (by_step _ (only.only_response (book_of a.0) a.1.1.0.now a.1.0.0)) met

pub response_sessions : Promised 1 response-sessions-kinds.ps response-sessions-kinds.r response-sessions-reads.Post
    (λ κs a x later. (e : TpmError) → x ≡ Err e → OfResponse (book_of a.0) a.1.0.0 a.1.1.0.now (numbered e))
response_sessions κs a x v met = told said_response_sessions Err (λ e. refl) (by_step _ (only.only_response (book_of a.0) a.1.1.0.now a.1.0.0)) met
