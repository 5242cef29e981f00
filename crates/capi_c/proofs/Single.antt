-- Each call that C links leaves a single answer and a single later state of what was lent: its contract is that of capi's call of its name, so
-- that what capi proves of the one is a proof of the other.
-- Assumes nothing.
use mathlib.Core.Path.{◌≡◌}
use Rattle.base.specs.Single.{Single, SingleBy}
use Rattle.capi.proofs.Single as library
use Rattle.capi_c.specs.contracts.array.skein_command_write_array as of-skein-command-write-array
use Rattle.capi_c.specs.contracts.array.skein_response_write_array as of-skein-response-write-array
use Rattle.capi_c.proofs.field.skein_read_u16.Kinds as skein-read-u16-kinds
use Rattle.capi_c.proofs.field.skein_read_u16.Reads as skein-read-u16-reads
use Rattle.capi_c.proofs.field.skein_write_u16.Kinds as skein-write-u16-kinds
use Rattle.capi_c.proofs.field.skein_write_u16.Reads as skein-write-u16-reads
use Rattle.capi_c.proofs.field.skein_read_u32.Kinds as skein-read-u32-kinds
use Rattle.capi_c.proofs.field.skein_read_u32.Reads as skein-read-u32-reads
use Rattle.capi_c.proofs.field.skein_write_u32.Kinds as skein-write-u32-kinds
use Rattle.capi_c.proofs.field.skein_write_u32.Reads as skein-write-u32-reads
use Rattle.capi_c.proofs.code.skein_rc_read.Kinds as skein-rc-read-kinds
use Rattle.capi_c.proofs.code.skein_rc_read.Reads as skein-rc-read-reads
use Rattle.capi_c.proofs.code.skein_rc_value.Kinds as skein-rc-value-kinds
use Rattle.capi_c.proofs.code.skein_rc_value.Reads as skein-rc-value-reads
use Rattle.capi_c.proofs.tpm2b.skein_tpm2b_validate_prefix.Kinds as skein-tpm2b-validate-prefix-kinds
use Rattle.capi_c.proofs.tpm2b.skein_tpm2b_validate_prefix.Reads as skein-tpm2b-validate-prefix-reads
use Rattle.capi_c.proofs.tpm2b.skein_tpm2b_validate.Kinds as skein-tpm2b-validate-kinds
use Rattle.capi_c.proofs.tpm2b.skein_tpm2b_validate.Reads as skein-tpm2b-validate-reads
use Rattle.capi_c.proofs.tpm2b.skein_tpm2b_cast.Kinds as skein-tpm2b-cast-kinds
use Rattle.capi_c.proofs.tpm2b.skein_tpm2b_cast.Reads as skein-tpm2b-cast-reads
use Rattle.capi_c.proofs.tpm2b.skein_tpm2b_cast_prefix.Kinds as skein-tpm2b-cast-prefix-kinds
use Rattle.capi_c.proofs.tpm2b.skein_tpm2b_cast_prefix.Reads as skein-tpm2b-cast-prefix-reads
use Rattle.capi_c.proofs.tpm2b.skein_tpm2b_size.Kinds as skein-tpm2b-size-kinds
use Rattle.capi_c.proofs.tpm2b.skein_tpm2b_size.Reads as skein-tpm2b-size-reads
use Rattle.capi_c.proofs.tpm2b.skein_tpm2b_data.Kinds as skein-tpm2b-data-kinds
use Rattle.capi_c.proofs.tpm2b.skein_tpm2b_data.Reads as skein-tpm2b-data-reads
use Rattle.capi_c.proofs.tpm2b.skein_tpm2b_is_empty.Kinds as skein-tpm2b-is-empty-kinds
use Rattle.capi_c.proofs.tpm2b.skein_tpm2b_is_empty.Reads as skein-tpm2b-is-empty-reads
use Rattle.capi_c.proofs.tpm2b.skein_tpm2b_len.Kinds as skein-tpm2b-len-kinds
use Rattle.capi_c.proofs.tpm2b.skein_tpm2b_len.Reads as skein-tpm2b-len-reads
use Rattle.capi_c.proofs.buffer64.skein_buffer64_new.Kinds as skein-buffer64-new-kinds
use Rattle.capi_c.proofs.buffer64.skein_buffer64_new.Reads as skein-buffer64-new-reads
use Rattle.capi_c.proofs.buffer64.skein_buffer64_wire_len.Kinds as skein-buffer64-wire-len-kinds
use Rattle.capi_c.proofs.buffer64.skein_buffer64_wire_len.Reads as skein-buffer64-wire-len-reads
use Rattle.capi_c.proofs.buffer64.skein_buffer64_held.Kinds as skein-buffer64-held-kinds
use Rattle.capi_c.proofs.buffer64.skein_buffer64_held.Reads as skein-buffer64-held-reads
use Rattle.capi_c.proofs.buffer64.skein_buffer64_marshal.Kinds as skein-buffer64-marshal-kinds
use Rattle.capi_c.proofs.buffer64.skein_buffer64_marshal.Reads as skein-buffer64-marshal-reads
use Rattle.capi_c.proofs.buffer64.skein_buffer64_eq.Kinds as skein-buffer64-eq-kinds
use Rattle.capi_c.proofs.buffer64.skein_buffer64_eq.Reads as skein-buffer64-eq-reads
use Rattle.capi_c.proofs.buffer64.skein_buffer64_push.Kinds as skein-buffer64-push-kinds
use Rattle.capi_c.proofs.buffer64.skein_buffer64_push.Reads as skein-buffer64-push-reads
use Rattle.capi_c.proofs.buffer64.skein_buffer64_extend.Kinds as skein-buffer64-extend-kinds
use Rattle.capi_c.proofs.buffer64.skein_buffer64_extend.Reads as skein-buffer64-extend-reads
use Rattle.capi_c.proofs.buffer64.skein_buffer64_from_slice.Kinds as skein-buffer64-from-slice-kinds
use Rattle.capi_c.proofs.buffer64.skein_buffer64_from_slice.Reads as skein-buffer64-from-slice-reads
use Rattle.capi_c.proofs.buffer64.skein_buffer64_unmarshal.Kinds as skein-buffer64-unmarshal-kinds
use Rattle.capi_c.proofs.buffer64.skein_buffer64_unmarshal.Reads as skein-buffer64-unmarshal-reads
use Rattle.capi_c.proofs.buffer1024.skein_buffer1024_new.Kinds as skein-buffer1024-new-kinds
use Rattle.capi_c.proofs.buffer1024.skein_buffer1024_new.Reads as skein-buffer1024-new-reads
use Rattle.capi_c.proofs.buffer1024.skein_buffer1024_wire_len.Kinds as skein-buffer1024-wire-len-kinds
use Rattle.capi_c.proofs.buffer1024.skein_buffer1024_wire_len.Reads as skein-buffer1024-wire-len-reads
use Rattle.capi_c.proofs.buffer1024.skein_buffer1024_held.Kinds as skein-buffer1024-held-kinds
use Rattle.capi_c.proofs.buffer1024.skein_buffer1024_held.Reads as skein-buffer1024-held-reads
use Rattle.capi_c.proofs.buffer1024.skein_buffer1024_marshal.Kinds as skein-buffer1024-marshal-kinds
use Rattle.capi_c.proofs.buffer1024.skein_buffer1024_marshal.Reads as skein-buffer1024-marshal-reads
use Rattle.capi_c.proofs.buffer1024.skein_buffer1024_eq.Kinds as skein-buffer1024-eq-kinds
use Rattle.capi_c.proofs.buffer1024.skein_buffer1024_eq.Reads as skein-buffer1024-eq-reads
use Rattle.capi_c.proofs.buffer1024.skein_buffer1024_push.Kinds as skein-buffer1024-push-kinds
use Rattle.capi_c.proofs.buffer1024.skein_buffer1024_push.Reads as skein-buffer1024-push-reads
use Rattle.capi_c.proofs.buffer1024.skein_buffer1024_extend.Kinds as skein-buffer1024-extend-kinds
use Rattle.capi_c.proofs.buffer1024.skein_buffer1024_extend.Reads as skein-buffer1024-extend-reads
use Rattle.capi_c.proofs.buffer1024.skein_buffer1024_from_slice.Kinds as skein-buffer1024-from-slice-kinds
use Rattle.capi_c.proofs.buffer1024.skein_buffer1024_from_slice.Reads as skein-buffer1024-from-slice-reads
use Rattle.capi_c.proofs.buffer1024.skein_buffer1024_unmarshal.Kinds as skein-buffer1024-unmarshal-kinds
use Rattle.capi_c.proofs.buffer1024.skein_buffer1024_unmarshal.Reads as skein-buffer1024-unmarshal-reads
use Rattle.capi_c.proofs.dispatch.skein_table_find.Kinds as skein-table-find-kinds
use Rattle.capi_c.proofs.dispatch.skein_table_find.Reads as skein-table-find-reads
use Rattle.capi_c.proofs.dispatch.skein_table_known.Kinds as skein-table-known-kinds
use Rattle.capi_c.proofs.dispatch.skein_table_known.Reads as skein-table-known-reads
use Rattle.capi_c.proofs.dispatch.skein_tag_known.Kinds as skein-tag-known-kinds
use Rattle.capi_c.proofs.dispatch.skein_tag_known.Reads as skein-tag-known-reads
use Rattle.capi_c.proofs.header.skein_frame_tag.Kinds as skein-frame-tag-kinds
use Rattle.capi_c.proofs.header.skein_frame_tag.Reads as skein-frame-tag-reads
use Rattle.capi_c.proofs.header.skein_frame_size.Kinds as skein-frame-size-kinds
use Rattle.capi_c.proofs.header.skein_frame_size.Reads as skein-frame-size-reads
use Rattle.capi_c.proofs.header.skein_frame_len.Kinds as skein-frame-len-kinds
use Rattle.capi_c.proofs.header.skein_frame_len.Reads as skein-frame-len-reads
use Rattle.capi_c.proofs.header.skein_frame_is_empty.Kinds as skein-frame-is-empty-kinds
use Rattle.capi_c.proofs.header.skein_frame_is_empty.Reads as skein-frame-is-empty-reads
use Rattle.capi_c.proofs.header.skein_frame_set_tag.Kinds as skein-frame-set-tag-kinds
use Rattle.capi_c.proofs.header.skein_frame_set_tag.Reads as skein-frame-set-tag-reads
use Rattle.capi_c.proofs.command.skein_command_cast.Kinds as skein-command-cast-kinds
use Rattle.capi_c.proofs.command.skein_command_cast.Reads as skein-command-cast-reads
use Rattle.capi_c.proofs.command.skein_command_handles.Kinds as skein-command-handles-kinds
use Rattle.capi_c.proofs.command.skein_command_handles.Reads as skein-command-handles-reads
use Rattle.capi_c.proofs.command.skein_command_auth_area.Kinds as skein-command-auth-area-kinds
use Rattle.capi_c.proofs.command.skein_command_auth_area.Reads as skein-command-auth-area-reads
use Rattle.capi_c.proofs.command.skein_command_parameters.Kinds as skein-command-parameters-kinds
use Rattle.capi_c.proofs.command.skein_command_parameters.Reads as skein-command-parameters-reads
use Rattle.capi_c.proofs.command.skein_command_cast_prefix.Kinds as skein-command-cast-prefix-kinds
use Rattle.capi_c.proofs.command.skein_command_cast_prefix.Reads as skein-command-cast-prefix-reads
use Rattle.capi_c.proofs.command.skein_command_validate.Kinds as skein-command-validate-kinds
use Rattle.capi_c.proofs.command.skein_command_validate.Reads as skein-command-validate-reads
use Rattle.capi_c.proofs.command.skein_command_cc.Kinds as skein-command-cc-kinds
use Rattle.capi_c.proofs.command.skein_command_cc.Reads as skein-command-cc-reads
use Rattle.capi_c.proofs.command.skein_command_set_cc.Kinds as skein-command-set-cc-kinds
use Rattle.capi_c.proofs.command.skein_command_set_cc.Reads as skein-command-set-cc-reads
use Rattle.capi_c.proofs.command.skein_command_parts.Kinds as skein-command-parts-kinds
use Rattle.capi_c.proofs.command.skein_command_parts.Reads as skein-command-parts-reads
use Rattle.capi_c.proofs.command.skein_command_write.Kinds as skein-command-write-kinds
use Rattle.capi_c.proofs.command.skein_command_write.Reads as skein-command-write-reads
use Rattle.capi_c.proofs.response.skein_response_cast.Kinds as skein-response-cast-kinds
use Rattle.capi_c.proofs.response.skein_response_cast.Reads as skein-response-cast-reads
use Rattle.capi_c.proofs.response.skein_response_cast_prefix.Kinds as skein-response-cast-prefix-kinds
use Rattle.capi_c.proofs.response.skein_response_cast_prefix.Reads as skein-response-cast-prefix-reads
use Rattle.capi_c.proofs.response.skein_response_rc.Kinds as skein-response-rc-kinds
use Rattle.capi_c.proofs.response.skein_response_rc.Reads as skein-response-rc-reads
use Rattle.capi_c.proofs.response.skein_response_body.Kinds as skein-response-body-kinds
use Rattle.capi_c.proofs.response.skein_response_body.Reads as skein-response-body-reads
use Rattle.capi_c.proofs.response.skein_response_validate.Kinds as skein-response-validate-kinds
use Rattle.capi_c.proofs.response.skein_response_validate.Reads as skein-response-validate-reads
use Rattle.capi_c.proofs.response.skein_response_set_rc.Kinds as skein-response-set-rc-kinds
use Rattle.capi_c.proofs.response.skein_response_set_rc.Reads as skein-response-set-rc-reads
use Rattle.capi_c.proofs.response.skein_response_parts.Kinds as skein-response-parts-kinds
use Rattle.capi_c.proofs.response.skein_response_parts.Reads as skein-response-parts-reads
use Rattle.capi_c.proofs.response.skein_response_write.Kinds as skein-response-write-kinds
use Rattle.capi_c.proofs.response.skein_response_write.Reads as skein-response-write-reads
use Rattle.capi_c.proofs.nonce.skein_keeper_new.Kinds as skein-keeper-new-kinds
use Rattle.capi_c.proofs.nonce.skein_keeper_new.Reads as skein-keeper-new-reads
use Rattle.capi_c.proofs.nonce.skein_keeper_open.Kinds as skein-keeper-open-kinds
use Rattle.capi_c.proofs.nonce.skein_keeper_open.Reads as skein-keeper-open-reads
use Rattle.capi_c.proofs.nonce.skein_keeper_answer.Kinds as skein-keeper-answer-kinds
use Rattle.capi_c.proofs.nonce.skein_keeper_answer.Reads as skein-keeper-answer-reads
use Rattle.capi_c.proofs.nonce.skein_keeper_close.Kinds as skein-keeper-close-kinds
use Rattle.capi_c.proofs.nonce.skein_keeper_close.Reads as skein-keeper-close-reads
use Rattle.capi_c.proofs.nonce.skein_keeper_ask.Kinds as skein-keeper-ask-kinds
use Rattle.capi_c.proofs.nonce.skein_keeper_ask.Reads as skein-keeper-ask-reads
use Rattle.capi_c.proofs.nonce.skein_keeper_len.Kinds as skein-keeper-len-kinds
use Rattle.capi_c.proofs.nonce.skein_keeper_len.Reads as skein-keeper-len-reads

skein_read_u16 : Single 2 skein-read-u16-kinds.ps skein-read-u16-kinds.r skein-read-u16-reads.Post
skein_read_u16 = library.skein_read_u16

skein_write_u16 : Single 2 skein-write-u16-kinds.ps skein-write-u16-kinds.r skein-write-u16-reads.Post
skein_write_u16 = library.skein_write_u16

skein_read_u32 : Single 2 skein-read-u32-kinds.ps skein-read-u32-kinds.r skein-read-u32-reads.Post
skein_read_u32 = library.skein_read_u32

skein_write_u32 : Single 2 skein-write-u32-kinds.ps skein-write-u32-kinds.r skein-write-u32-reads.Post
skein_write_u32 = library.skein_write_u32

skein_rc_read : Single 1 skein-rc-read-kinds.ps skein-rc-read-kinds.r skein-rc-read-reads.Post
skein_rc_read = library.skein_rc_read

skein_rc_value : Single 1 skein-rc-value-kinds.ps skein-rc-value-kinds.r skein-rc-value-reads.Post
skein_rc_value = library.skein_rc_value

skein_tpm2b_validate_prefix : Single 2 skein-tpm2b-validate-prefix-kinds.ps skein-tpm2b-validate-prefix-kinds.r skein-tpm2b-validate-prefix-reads.Post
skein_tpm2b_validate_prefix = library.skein_tpm2b_validate_prefix

skein_tpm2b_validate : Single 2 skein-tpm2b-validate-kinds.ps skein-tpm2b-validate-kinds.r skein-tpm2b-validate-reads.Post
skein_tpm2b_validate = library.skein_tpm2b_validate

skein_tpm2b_cast : Single 2 skein-tpm2b-cast-kinds.ps skein-tpm2b-cast-kinds.r skein-tpm2b-cast-reads.Post
skein_tpm2b_cast = library.skein_tpm2b_cast

skein_tpm2b_cast_prefix : Single 2 skein-tpm2b-cast-prefix-kinds.ps skein-tpm2b-cast-prefix-kinds.r skein-tpm2b-cast-prefix-reads.Post
skein_tpm2b_cast_prefix = library.skein_tpm2b_cast_prefix

skein_tpm2b_size : Single 2 skein-tpm2b-size-kinds.ps skein-tpm2b-size-kinds.r skein-tpm2b-size-reads.Post
skein_tpm2b_size = library.skein_tpm2b_size

skein_tpm2b_data : Single 2 skein-tpm2b-data-kinds.ps skein-tpm2b-data-kinds.r skein-tpm2b-data-reads.Post
skein_tpm2b_data = library.skein_tpm2b_data

skein_tpm2b_is_empty : Single 2 skein-tpm2b-is-empty-kinds.ps skein-tpm2b-is-empty-kinds.r skein-tpm2b-is-empty-reads.Post
skein_tpm2b_is_empty = library.skein_tpm2b_is_empty

skein_tpm2b_len : Single 2 skein-tpm2b-len-kinds.ps skein-tpm2b-len-kinds.r skein-tpm2b-len-reads.Post
skein_tpm2b_len = library.skein_tpm2b_len

skein_buffer64_new : Single 2 skein-buffer64-new-kinds.ps skein-buffer64-new-kinds.r skein-buffer64-new-reads.Post
skein_buffer64_new = library.skein_buffer64_new

skein_buffer64_wire_len : Single 1 skein-buffer64-wire-len-kinds.ps skein-buffer64-wire-len-kinds.r skein-buffer64-wire-len-reads.Post
skein_buffer64_wire_len = library.skein_buffer64_wire_len

skein_buffer64_held : Single 3 skein-buffer64-held-kinds.ps skein-buffer64-held-kinds.r skein-buffer64-held-reads.Post
skein_buffer64_held = library.skein_buffer64_held

skein_buffer64_marshal : Single 3 skein-buffer64-marshal-kinds.ps skein-buffer64-marshal-kinds.r skein-buffer64-marshal-reads.Post
skein_buffer64_marshal = library.skein_buffer64_marshal

skein_buffer64_eq : Single 3 skein-buffer64-eq-kinds.ps skein-buffer64-eq-kinds.r skein-buffer64-eq-reads.Post
skein_buffer64_eq = library.skein_buffer64_eq

skein_buffer64_push : Single 2 skein-buffer64-push-kinds.ps skein-buffer64-push-kinds.r skein-buffer64-push-reads.Post
skein_buffer64_push = library.skein_buffer64_push

skein_buffer64_extend : Single 3 skein-buffer64-extend-kinds.ps skein-buffer64-extend-kinds.r skein-buffer64-extend-reads.Post
skein_buffer64_extend = library.skein_buffer64_extend

skein_buffer64_from_slice : Single 3 skein-buffer64-from-slice-kinds.ps skein-buffer64-from-slice-kinds.r skein-buffer64-from-slice-reads.Post
skein_buffer64_from_slice = library.skein_buffer64_from_slice

skein_buffer64_unmarshal : Single 3 skein-buffer64-unmarshal-kinds.ps skein-buffer64-unmarshal-kinds.r skein-buffer64-unmarshal-reads.Post
skein_buffer64_unmarshal = library.skein_buffer64_unmarshal

skein_buffer1024_new : Single 2 skein-buffer1024-new-kinds.ps skein-buffer1024-new-kinds.r skein-buffer1024-new-reads.Post
skein_buffer1024_new = library.skein_buffer1024_new

skein_buffer1024_wire_len : Single 1 skein-buffer1024-wire-len-kinds.ps skein-buffer1024-wire-len-kinds.r skein-buffer1024-wire-len-reads.Post
skein_buffer1024_wire_len = library.skein_buffer1024_wire_len

skein_buffer1024_held : Single 3 skein-buffer1024-held-kinds.ps skein-buffer1024-held-kinds.r skein-buffer1024-held-reads.Post
skein_buffer1024_held = library.skein_buffer1024_held

skein_buffer1024_marshal : Single 3 skein-buffer1024-marshal-kinds.ps skein-buffer1024-marshal-kinds.r skein-buffer1024-marshal-reads.Post
skein_buffer1024_marshal = library.skein_buffer1024_marshal

skein_buffer1024_eq : Single 3 skein-buffer1024-eq-kinds.ps skein-buffer1024-eq-kinds.r skein-buffer1024-eq-reads.Post
skein_buffer1024_eq = library.skein_buffer1024_eq

skein_buffer1024_push : Single 2 skein-buffer1024-push-kinds.ps skein-buffer1024-push-kinds.r skein-buffer1024-push-reads.Post
skein_buffer1024_push = library.skein_buffer1024_push

skein_buffer1024_extend : Single 3 skein-buffer1024-extend-kinds.ps skein-buffer1024-extend-kinds.r skein-buffer1024-extend-reads.Post
skein_buffer1024_extend = library.skein_buffer1024_extend

skein_buffer1024_from_slice : Single 3 skein-buffer1024-from-slice-kinds.ps skein-buffer1024-from-slice-kinds.r skein-buffer1024-from-slice-reads.Post
skein_buffer1024_from_slice = library.skein_buffer1024_from_slice

skein_buffer1024_unmarshal : Single 3 skein-buffer1024-unmarshal-kinds.ps skein-buffer1024-unmarshal-kinds.r skein-buffer1024-unmarshal-reads.Post
skein_buffer1024_unmarshal = library.skein_buffer1024_unmarshal

skein_table_find : Single 1 skein-table-find-kinds.ps skein-table-find-kinds.r skein-table-find-reads.Post
skein_table_find = library.skein_table_find

skein_table_known : Single 1 skein-table-known-kinds.ps skein-table-known-kinds.r skein-table-known-reads.Post
skein_table_known = library.skein_table_known

skein_tag_known : Single 1 skein-tag-known-kinds.ps skein-tag-known-kinds.r skein-tag-known-reads.Post
skein_tag_known = library.skein_tag_known

skein_frame_tag : Single 2 skein-frame-tag-kinds.ps skein-frame-tag-kinds.r skein-frame-tag-reads.Post
skein_frame_tag = library.skein_frame_tag

skein_frame_size : Single 2 skein-frame-size-kinds.ps skein-frame-size-kinds.r skein-frame-size-reads.Post
skein_frame_size = library.skein_frame_size

skein_frame_len : Single 2 skein-frame-len-kinds.ps skein-frame-len-kinds.r skein-frame-len-reads.Post
skein_frame_len = library.skein_frame_len

skein_frame_is_empty : Single 2 skein-frame-is-empty-kinds.ps skein-frame-is-empty-kinds.r skein-frame-is-empty-reads.Post
skein_frame_is_empty = library.skein_frame_is_empty

skein_frame_set_tag : Single 2 skein-frame-set-tag-kinds.ps skein-frame-set-tag-kinds.r skein-frame-set-tag-reads.Post
skein_frame_set_tag = library.skein_frame_set_tag

skein_command_cast : Single 2 skein-command-cast-kinds.ps skein-command-cast-kinds.r skein-command-cast-reads.Post
skein_command_cast = library.skein_command_cast

skein_command_handles : Single 2 skein-command-handles-kinds.ps skein-command-handles-kinds.r skein-command-handles-reads.Post
skein_command_handles = library.skein_command_handles

skein_command_auth_area : Single 2 skein-command-auth-area-kinds.ps skein-command-auth-area-kinds.r skein-command-auth-area-reads.Post
skein_command_auth_area = library.skein_command_auth_area

skein_command_parameters : Single 2 skein-command-parameters-kinds.ps skein-command-parameters-kinds.r skein-command-parameters-reads.Post
skein_command_parameters = library.skein_command_parameters

skein_command_cast_prefix : Single 2 skein-command-cast-prefix-kinds.ps skein-command-cast-prefix-kinds.r skein-command-cast-prefix-reads.Post
skein_command_cast_prefix = library.skein_command_cast_prefix

skein_command_validate : Single 2 skein-command-validate-kinds.ps skein-command-validate-kinds.r skein-command-validate-reads.Post
skein_command_validate = library.skein_command_validate

skein_command_cc : Single 2 skein-command-cc-kinds.ps skein-command-cc-kinds.r skein-command-cc-reads.Post
skein_command_cc = library.skein_command_cc

skein_command_set_cc : Single 2 skein-command-set-cc-kinds.ps skein-command-set-cc-kinds.r skein-command-set-cc-reads.Post
skein_command_set_cc = library.skein_command_set_cc

skein_command_parts : Single 2 skein-command-parts-kinds.ps skein-command-parts-kinds.r skein-command-parts-reads.Post
skein_command_parts = library.skein_command_parts

skein_command_write : Single 5 skein-command-write-kinds.ps skein-command-write-kinds.r skein-command-write-reads.Post
skein_command_write = library.skein_command_write

skein_response_cast : Single 2 skein-response-cast-kinds.ps skein-response-cast-kinds.r skein-response-cast-reads.Post
skein_response_cast = library.skein_response_cast

skein_response_cast_prefix : Single 2 skein-response-cast-prefix-kinds.ps skein-response-cast-prefix-kinds.r skein-response-cast-prefix-reads.Post
skein_response_cast_prefix = library.skein_response_cast_prefix

skein_response_rc : Single 2 skein-response-rc-kinds.ps skein-response-rc-kinds.r skein-response-rc-reads.Post
skein_response_rc = library.skein_response_rc

skein_response_body : Single 2 skein-response-body-kinds.ps skein-response-body-kinds.r skein-response-body-reads.Post
skein_response_body = library.skein_response_body

skein_response_validate : Single 2 skein-response-validate-kinds.ps skein-response-validate-kinds.r skein-response-validate-reads.Post
skein_response_validate = library.skein_response_validate

skein_response_set_rc : Single 2 skein-response-set-rc-kinds.ps skein-response-set-rc-kinds.r skein-response-set-rc-reads.Post
skein_response_set_rc = library.skein_response_set_rc

skein_response_parts : Single 2 skein-response-parts-kinds.ps skein-response-parts-kinds.r skein-response-parts-reads.Post
skein_response_parts = library.skein_response_parts

skein_response_write : Single 5 skein-response-write-kinds.ps skein-response-write-kinds.r skein-response-write-reads.Post
skein_response_write = library.skein_response_write

skein_command_write_array : SingleBy of-skein-command-write-array.ended (λ M 𝓤 𝓛. of-skein-command-write-array.clauses 𝓛) (λ κs x y. x ≡ y)
skein_command_write_array = library.skein_command_write_array

skein_response_write_array : SingleBy of-skein-response-write-array.ended (λ M 𝓤 𝓛. of-skein-response-write-array.clauses 𝓛) (λ κs x y. x ≡ y)
skein_response_write_array = library.skein_response_write_array

skein_keeper_new : Single 2 skein-keeper-new-kinds.ps skein-keeper-new-kinds.r skein-keeper-new-reads.Post
skein_keeper_new = library.skein_keeper_new

skein_keeper_open : Single 3 skein-keeper-open-kinds.ps skein-keeper-open-kinds.r skein-keeper-open-reads.Post
skein_keeper_open = library.skein_keeper_open

skein_keeper_answer : Single 4 skein-keeper-answer-kinds.ps skein-keeper-answer-kinds.r skein-keeper-answer-reads.Post
skein_keeper_answer = library.skein_keeper_answer

skein_keeper_close : Single 2 skein-keeper-close-kinds.ps skein-keeper-close-kinds.r skein-keeper-close-reads.Post
skein_keeper_close = library.skein_keeper_close

skein_keeper_ask : Single 2 skein-keeper-ask-kinds.ps skein-keeper-ask-kinds.r skein-keeper-ask-reads.Post
skein_keeper_ask = library.skein_keeper_ask

skein_keeper_len : Single 2 skein-keeper-len-kinds.ps skein-keeper-len-kinds.r skein-keeper-len-reads.Post
skein_keeper_len = library.skein_keeper_len
