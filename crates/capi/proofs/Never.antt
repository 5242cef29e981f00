-- No call but the writers of frames returns 7, a number too large (document 02, W7): whatever is lent, and whatever the state. It is stated of each call's
-- contract; the four that write frames are not here.
-- Assumes nothing.
use mathlib.Core.Path.{◌≡◌, refl, sym, ◌∙◌}
use mathlib.Core.List.{List}
use Prim.Native.Nat.{ℕ, ◌/◌, ◌%◌}
use native.Mathlib.Omega.{arith}
use borrow.Fn.Kinds.{ParamKind, ResultKind, Out, Dens, res_t, ended_of}
use contract.Lifetimes.{Lfts}
use denote.Triple.Clauses.{Lasts, at_exit}
use lib.Dec.{eqb}
use Rattle.base.specs.Parts.{up_to}
use Rattle.base.specs.Said.{Said, gives, refuses, Only, Never}
use Rattle.base.proofs.Frameless.{never_read, never_written}
use Rattle.base.proofs.Only.{by_gives, by_refuses, by_needs, by_cond, by_done, by_then, by_step, not_by, by_no_other}
use Rattle.buffer.proofs.Only as buffer
use Rattle.frame.specs.Answer.{whole, command_by_value, response_by_value}
use Rattle.frame.specs.Command.{Division}
use Rattle.frame.specs.Rules.{Rulebook, book_of}
use Rattle.frame.proofs.Never as frame
use Rattle.keeper.proofs.Only as keeper
use Rattle.rc.proofs.Never.{never_code}
use Rattle.table.specs.declared.revision.Revision.{Revision}
use Rattle.table.specs.Dispatch.{table_of}
use Rattle.table.proofs.Only.{never_row}
use Rattle.capi.specs.Code.{kind_numbered}
use Rattle.capi.specs.Out.{returned, Reports}
use Rattle.capi.specs.Rules.{table_named, rules_numbered, revision_numbered, under, at_table}
use Rattle.capi.proofs.field.skein_read_u16.Kinds as skein-read-u16-kinds
use Rattle.capi.proofs.field.skein_read_u16.Reads as skein-read-u16-reads
use Rattle.capi.proofs.field.skein_write_u16.Kinds as skein-write-u16-kinds
use Rattle.capi.proofs.field.skein_write_u16.Reads as skein-write-u16-reads
use Rattle.capi.proofs.field.skein_read_u32.Kinds as skein-read-u32-kinds
use Rattle.capi.proofs.field.skein_read_u32.Reads as skein-read-u32-reads
use Rattle.capi.proofs.field.skein_write_u32.Kinds as skein-write-u32-kinds
use Rattle.capi.proofs.field.skein_write_u32.Reads as skein-write-u32-reads
use Rattle.capi.proofs.code.skein_rc_read.Kinds as skein-rc-read-kinds
use Rattle.capi.proofs.code.skein_rc_read.Reads as skein-rc-read-reads
use Rattle.capi.proofs.code.skein_rc_value.Kinds as skein-rc-value-kinds
use Rattle.capi.proofs.code.skein_rc_value.Reads as skein-rc-value-reads
use Rattle.capi.proofs.tpm2b.skein_tpm2b_validate_prefix.Kinds as skein-tpm2b-validate-prefix-kinds
use Rattle.capi.proofs.tpm2b.skein_tpm2b_validate_prefix.Reads as skein-tpm2b-validate-prefix-reads
use Rattle.capi.proofs.tpm2b.skein_tpm2b_validate.Kinds as skein-tpm2b-validate-kinds
use Rattle.capi.proofs.tpm2b.skein_tpm2b_validate.Reads as skein-tpm2b-validate-reads
use Rattle.capi.proofs.tpm2b.skein_tpm2b_cast.Kinds as skein-tpm2b-cast-kinds
use Rattle.capi.proofs.tpm2b.skein_tpm2b_cast.Reads as skein-tpm2b-cast-reads
use Rattle.capi.proofs.tpm2b.skein_tpm2b_cast_prefix.Kinds as skein-tpm2b-cast-prefix-kinds
use Rattle.capi.proofs.tpm2b.skein_tpm2b_cast_prefix.Reads as skein-tpm2b-cast-prefix-reads
use Rattle.capi.proofs.tpm2b.skein_tpm2b_size.Kinds as skein-tpm2b-size-kinds
use Rattle.capi.proofs.tpm2b.skein_tpm2b_size.Reads as skein-tpm2b-size-reads
use Rattle.capi.proofs.tpm2b.skein_tpm2b_data.Kinds as skein-tpm2b-data-kinds
use Rattle.capi.proofs.tpm2b.skein_tpm2b_data.Reads as skein-tpm2b-data-reads
use Rattle.capi.proofs.tpm2b.skein_tpm2b_is_empty.Kinds as skein-tpm2b-is-empty-kinds
use Rattle.capi.proofs.tpm2b.skein_tpm2b_is_empty.Reads as skein-tpm2b-is-empty-reads
use Rattle.capi.proofs.tpm2b.skein_tpm2b_len.Kinds as skein-tpm2b-len-kinds
use Rattle.capi.proofs.tpm2b.skein_tpm2b_len.Reads as skein-tpm2b-len-reads
use Rattle.capi.proofs.buffer64.skein_buffer64_new.Kinds as skein-buffer64-new-kinds
use Rattle.capi.proofs.buffer64.skein_buffer64_new.Reads as skein-buffer64-new-reads
use Rattle.capi.proofs.buffer64.skein_buffer64_wire_len.Kinds as skein-buffer64-wire-len-kinds
use Rattle.capi.proofs.buffer64.skein_buffer64_wire_len.Reads as skein-buffer64-wire-len-reads
use Rattle.capi.proofs.buffer64.skein_buffer64_held.Kinds as skein-buffer64-held-kinds
use Rattle.capi.proofs.buffer64.skein_buffer64_held.Reads as skein-buffer64-held-reads
use Rattle.capi.proofs.buffer64.skein_buffer64_marshal.Kinds as skein-buffer64-marshal-kinds
use Rattle.capi.proofs.buffer64.skein_buffer64_marshal.Reads as skein-buffer64-marshal-reads
use Rattle.capi.proofs.buffer64.skein_buffer64_eq.Kinds as skein-buffer64-eq-kinds
use Rattle.capi.proofs.buffer64.skein_buffer64_eq.Reads as skein-buffer64-eq-reads
use Rattle.capi.proofs.buffer64.skein_buffer64_push.Kinds as skein-buffer64-push-kinds
use Rattle.capi.proofs.buffer64.skein_buffer64_push.Reads as skein-buffer64-push-reads
use Rattle.capi.proofs.buffer64.skein_buffer64_extend.Kinds as skein-buffer64-extend-kinds
use Rattle.capi.proofs.buffer64.skein_buffer64_extend.Reads as skein-buffer64-extend-reads
use Rattle.capi.proofs.buffer64.skein_buffer64_from_slice.Kinds as skein-buffer64-from-slice-kinds
use Rattle.capi.proofs.buffer64.skein_buffer64_from_slice.Reads as skein-buffer64-from-slice-reads
use Rattle.capi.proofs.buffer64.skein_buffer64_unmarshal.Kinds as skein-buffer64-unmarshal-kinds
use Rattle.capi.proofs.buffer64.skein_buffer64_unmarshal.Reads as skein-buffer64-unmarshal-reads
use Rattle.capi.proofs.buffer1024.skein_buffer1024_new.Kinds as skein-buffer1024-new-kinds
use Rattle.capi.proofs.buffer1024.skein_buffer1024_new.Reads as skein-buffer1024-new-reads
use Rattle.capi.proofs.buffer1024.skein_buffer1024_wire_len.Kinds as skein-buffer1024-wire-len-kinds
use Rattle.capi.proofs.buffer1024.skein_buffer1024_wire_len.Reads as skein-buffer1024-wire-len-reads
use Rattle.capi.proofs.buffer1024.skein_buffer1024_held.Kinds as skein-buffer1024-held-kinds
use Rattle.capi.proofs.buffer1024.skein_buffer1024_held.Reads as skein-buffer1024-held-reads
use Rattle.capi.proofs.buffer1024.skein_buffer1024_marshal.Kinds as skein-buffer1024-marshal-kinds
use Rattle.capi.proofs.buffer1024.skein_buffer1024_marshal.Reads as skein-buffer1024-marshal-reads
use Rattle.capi.proofs.buffer1024.skein_buffer1024_eq.Kinds as skein-buffer1024-eq-kinds
use Rattle.capi.proofs.buffer1024.skein_buffer1024_eq.Reads as skein-buffer1024-eq-reads
use Rattle.capi.proofs.buffer1024.skein_buffer1024_push.Kinds as skein-buffer1024-push-kinds
use Rattle.capi.proofs.buffer1024.skein_buffer1024_push.Reads as skein-buffer1024-push-reads
use Rattle.capi.proofs.buffer1024.skein_buffer1024_extend.Kinds as skein-buffer1024-extend-kinds
use Rattle.capi.proofs.buffer1024.skein_buffer1024_extend.Reads as skein-buffer1024-extend-reads
use Rattle.capi.proofs.buffer1024.skein_buffer1024_from_slice.Kinds as skein-buffer1024-from-slice-kinds
use Rattle.capi.proofs.buffer1024.skein_buffer1024_from_slice.Reads as skein-buffer1024-from-slice-reads
use Rattle.capi.proofs.buffer1024.skein_buffer1024_unmarshal.Kinds as skein-buffer1024-unmarshal-kinds
use Rattle.capi.proofs.buffer1024.skein_buffer1024_unmarshal.Reads as skein-buffer1024-unmarshal-reads
use Rattle.capi.proofs.dispatch.skein_table_find.Kinds as skein-table-find-kinds
use Rattle.capi.proofs.dispatch.skein_table_find.Reads as skein-table-find-reads
use Rattle.capi.proofs.dispatch.skein_table_known.Kinds as skein-table-known-kinds
use Rattle.capi.proofs.dispatch.skein_table_known.Reads as skein-table-known-reads
use Rattle.capi.proofs.dispatch.skein_tag_known.Kinds as skein-tag-known-kinds
use Rattle.capi.proofs.dispatch.skein_tag_known.Reads as skein-tag-known-reads
use Rattle.capi.proofs.header.skein_frame_tag.Kinds as skein-frame-tag-kinds
use Rattle.capi.proofs.header.skein_frame_tag.Reads as skein-frame-tag-reads
use Rattle.capi.proofs.header.skein_frame_size.Kinds as skein-frame-size-kinds
use Rattle.capi.proofs.header.skein_frame_size.Reads as skein-frame-size-reads
use Rattle.capi.proofs.header.skein_frame_len.Kinds as skein-frame-len-kinds
use Rattle.capi.proofs.header.skein_frame_len.Reads as skein-frame-len-reads
use Rattle.capi.proofs.header.skein_frame_is_empty.Kinds as skein-frame-is-empty-kinds
use Rattle.capi.proofs.header.skein_frame_is_empty.Reads as skein-frame-is-empty-reads
use Rattle.capi.proofs.header.skein_frame_set_tag.Kinds as skein-frame-set-tag-kinds
use Rattle.capi.proofs.header.skein_frame_set_tag.Reads as skein-frame-set-tag-reads
use Rattle.capi.proofs.command.skein_command_cast.Kinds as skein-command-cast-kinds
use Rattle.capi.proofs.command.skein_command_cast.Reads as skein-command-cast-reads
use Rattle.capi.proofs.command.skein_command_handles.Kinds as skein-command-handles-kinds
use Rattle.capi.proofs.command.skein_command_handles.Reads as skein-command-handles-reads
use Rattle.capi.proofs.command.skein_command_auth_area.Kinds as skein-command-auth-area-kinds
use Rattle.capi.proofs.command.skein_command_auth_area.Reads as skein-command-auth-area-reads
use Rattle.capi.proofs.command.skein_command_parameters.Kinds as skein-command-parameters-kinds
use Rattle.capi.proofs.command.skein_command_parameters.Reads as skein-command-parameters-reads
use Rattle.capi.proofs.command.skein_command_cast_prefix.Kinds as skein-command-cast-prefix-kinds
use Rattle.capi.proofs.command.skein_command_cast_prefix.Reads as skein-command-cast-prefix-reads
use Rattle.capi.proofs.command.skein_command_validate.Kinds as skein-command-validate-kinds
use Rattle.capi.proofs.command.skein_command_validate.Reads as skein-command-validate-reads
use Rattle.capi.proofs.command.skein_command_cc.Kinds as skein-command-cc-kinds
use Rattle.capi.proofs.command.skein_command_cc.Reads as skein-command-cc-reads
use Rattle.capi.proofs.command.skein_command_set_cc.Kinds as skein-command-set-cc-kinds
use Rattle.capi.proofs.command.skein_command_set_cc.Reads as skein-command-set-cc-reads
use Rattle.capi.proofs.command.skein_command_parts.Kinds as skein-command-parts-kinds
use Rattle.capi.proofs.command.skein_command_parts.Reads as skein-command-parts-reads
use Rattle.capi.proofs.response.skein_response_cast.Kinds as skein-response-cast-kinds
use Rattle.capi.proofs.response.skein_response_cast.Reads as skein-response-cast-reads
use Rattle.capi.proofs.response.skein_response_cast_prefix.Kinds as skein-response-cast-prefix-kinds
use Rattle.capi.proofs.response.skein_response_cast_prefix.Reads as skein-response-cast-prefix-reads
use Rattle.capi.proofs.response.skein_response_rc.Kinds as skein-response-rc-kinds
use Rattle.capi.proofs.response.skein_response_rc.Reads as skein-response-rc-reads
use Rattle.capi.proofs.response.skein_response_body.Kinds as skein-response-body-kinds
use Rattle.capi.proofs.response.skein_response_body.Reads as skein-response-body-reads
use Rattle.capi.proofs.response.skein_response_validate.Kinds as skein-response-validate-kinds
use Rattle.capi.proofs.response.skein_response_validate.Reads as skein-response-validate-reads
use Rattle.capi.proofs.response.skein_response_set_rc.Kinds as skein-response-set-rc-kinds
use Rattle.capi.proofs.response.skein_response_set_rc.Reads as skein-response-set-rc-reads
use Rattle.capi.proofs.response.skein_response_parts.Kinds as skein-response-parts-kinds
use Rattle.capi.proofs.response.skein_response_parts.Reads as skein-response-parts-reads
use Rattle.capi.proofs.nonce.skein_keeper_new.Kinds as skein-keeper-new-kinds
use Rattle.capi.proofs.nonce.skein_keeper_new.Reads as skein-keeper-new-reads
use Rattle.capi.proofs.nonce.skein_keeper_open.Kinds as skein-keeper-open-kinds
use Rattle.capi.proofs.nonce.skein_keeper_open.Reads as skein-keeper-open-reads
use Rattle.capi.proofs.nonce.skein_keeper_answer.Kinds as skein-keeper-answer-kinds
use Rattle.capi.proofs.nonce.skein_keeper_answer.Reads as skein-keeper-answer-reads
use Rattle.capi.proofs.nonce.skein_keeper_close.Kinds as skein-keeper-close-kinds
use Rattle.capi.proofs.nonce.skein_keeper_close.Reads as skein-keeper-close-reads
use Rattle.capi.proofs.nonce.skein_keeper_ask.Kinds as skein-keeper-ask-kinds
use Rattle.capi.proofs.nonce.skein_keeper_ask.Reads as skein-keeper-ask-reads
use Rattle.capi.proofs.nonce.skein_keeper_len.Kinds as skein-keeper-len-kinds
use Rattle.capi.proofs.nonce.skein_keeper_len.Reads as skein-keeper-len-reads

abbrev NotSeven : (n : ℕ) (ps : List (ParamKind n)) (r : ResultKind n) → ((κs : Lfts n) → (res_t r κs).Denot → ℕ) → Out n ps r → Type 0
NotSeven n ps r number Post =
    (κs : Lfts n) (a : Dens κs ps) (x : (res_t r κs).Denot) (v : Lasts (ended_of n ps r) κs a) →
    Post κs a x (at_exit (ended_of n ps r) κs a v) → number κs x ≡ 7 → ⊥

not_returned : {A : Type 0} (said : Said A) → Never 7 said → returned said ≡ 7 → ⊥
not_returned (gives a) p e = omega arith
not_returned (refuses why) p e = not_by p refl e

not_seven : {A : Type 0} {of : A → List ℕ} {said : Said A} {old later : List ℕ} {r : ℕ} → Never 7 said → Reports of said old later r → r ≡ 7 → ⊥
not_seven p told e = not_returned _ p (sym told.status ∙ e)

-- the rules, the table and the kind that a number names
never_table : (n place : ℕ) → Never 7 (table_named n place)
never_table n place = by_cond (eqb place 0) by_gives (by_cond (eqb place 1) by_gives (by_cond (eqb place 2) by_gives (by_refuses _ refl)))

by_rules : {A : Type 0} (n : ℕ) {say : Rulebook → Said A} → ((book : Rulebook) → Never 7 (say book)) → Never 7 (under n say)
unfolding rules_numbered
by_rules n p =
    by_then (by_then (never_table n (n / 16)) λ table. by_step _ (by_cond (eqb (n % 16) 0) by_gives (by_cond (eqb (n % 16) 1) by_gives (by_refuses _ refl))))
    (λ rules. p (book_of rules))

by_table : {A : Type 0} (n : ℕ) {say : Revision → Said A} → ((table : Revision) → Never 7 (say table)) → Never 7 (at_table n say)
unfolding revision_numbered
by_table n p = by_then (by_needs (eqb (n % 16) 0) _ refl (never_table n (n / 16))) p

never_kind : (n : ℕ) → Never 7 (kind_numbered n)
unfolding kind_numbered
never_kind n =
    by_cond (eqb n 0) by_gives
    (by_cond (eqb n 1) by_gives
    (by_cond (eqb n 2) by_gives
    (by_cond (eqb n 3) by_gives
    (by_cond (eqb n 4) by_gives
    (by_cond (eqb n 5) by_gives (by_refuses _ refl))))))

of_buffer : {A : Type 0} {said : Said A} → Only buffer.OfBuffer said → Never 7 said
of_buffer p = by_no_other 7 refl p

-- what a call gives of a reading
by_whole : {A : Type 0} (s : List ℕ) {read : Said A} → Never 7 read → Never 7 (whole s read)
by_whole s p = by_step _ p

by_up_to : {read : Said ℕ} → Never 7 read → Never 7 (up_to read)
by_up_to p = by_step _ p

by_command : (s : List ℕ) {division : Said Division} → Never 7 division → Never 7 (command_by_value s division)
by_command s p = by_step _ p

by_response : (s : List ℕ) {division : Said Division} → Never 7 division → Never 7 (response_by_value s division)
by_response s p = by_step _ p

skein_read_u16 : NotSeven 2 skein-read-u16-kinds.ps skein-read-u16-kinds.r (λ κs x. x) skein-read-u16-reads.Post
skein_read_u16 κs a x v met = not_seven (never_read a.0 a.1.0.now 2) met

skein_write_u16 : NotSeven 2 skein-write-u16-kinds.ps skein-write-u16-kinds.r (λ κs x. x) skein-write-u16-reads.Post
skein_write_u16 κs a x v met = not_seven (by_done (never_written a.0 a.1.1.0.now 2 a.1.0)) met.0

skein_read_u32 : NotSeven 2 skein-read-u32-kinds.ps skein-read-u32-kinds.r (λ κs x. x) skein-read-u32-reads.Post
skein_read_u32 κs a x v met = not_seven (never_read a.0 a.1.0.now 4) met

skein_write_u32 : NotSeven 2 skein-write-u32-kinds.ps skein-write-u32-kinds.r (λ κs x. x) skein-write-u32-reads.Post
skein_write_u32 κs a x v met = not_seven (by_done (never_written a.0 a.1.1.0.now 4 a.1.0)) met.0

skein_rc_read : NotSeven 1 skein-rc-read-kinds.ps skein-rc-read-kinds.r (λ κs x. x) skein-rc-read-reads.Post
skein_rc_read κs a x v met = not_seven (never_code _) met

skein_rc_value : NotSeven 1 skein-rc-value-kinds.ps skein-rc-value-kinds.r (λ κs x. x) skein-rc-value-reads.Post
skein_rc_value κs a x v met = not_seven (by_step _ (never_kind _)) met

skein_tpm2b_validate_prefix : NotSeven 2 skein-tpm2b-validate-prefix-kinds.ps skein-tpm2b-validate-prefix-kinds.r (λ κs x. x) skein-tpm2b-validate-prefix-reads.Post
skein_tpm2b_validate_prefix κs a x v met = not_seven (of_buffer (buffer.only_prefix _ _)) met

skein_tpm2b_validate : NotSeven 2 skein-tpm2b-validate-kinds.ps skein-tpm2b-validate-kinds.r (λ κs x. x) skein-tpm2b-validate-reads.Post
skein_tpm2b_validate κs a x v met = not_seven (by_done (of_buffer (buffer.only_whole _ _))) met

skein_tpm2b_cast : NotSeven 2 skein-tpm2b-cast-kinds.ps skein-tpm2b-cast-kinds.r (λ κs x. x) skein-tpm2b-cast-reads.Post
skein_tpm2b_cast κs a x v met = not_seven (by_up_to (of_buffer (buffer.only_whole _ _))) met

skein_tpm2b_cast_prefix : NotSeven 2 skein-tpm2b-cast-prefix-kinds.ps skein-tpm2b-cast-prefix-kinds.r (λ κs x. x) skein-tpm2b-cast-prefix-reads.Post
skein_tpm2b_cast_prefix κs a x v met = not_seven (by_up_to (of_buffer (buffer.only_prefix _ _))) met

skein_tpm2b_size : NotSeven 2 skein-tpm2b-size-kinds.ps skein-tpm2b-size-kinds.r (λ κs x. x) skein-tpm2b-size-reads.Post
skein_tpm2b_size κs a x v met = not_seven (of_buffer (buffer.only_size _)) met

skein_tpm2b_data : NotSeven 2 skein-tpm2b-data-kinds.ps skein-tpm2b-data-kinds.r (λ κs x. x) skein-tpm2b-data-reads.Post
skein_tpm2b_data κs a x v met = not_seven (of_buffer (buffer.only_data _)) met

skein_tpm2b_is_empty : NotSeven 2 skein-tpm2b-is-empty-kinds.ps skein-tpm2b-is-empty-kinds.r (λ κs x. x) skein-tpm2b-is-empty-reads.Post
skein_tpm2b_is_empty κs a x v met = not_seven (of_buffer (buffer.only_empty _)) met

skein_tpm2b_len : NotSeven 2 skein-tpm2b-len-kinds.ps skein-tpm2b-len-kinds.r (λ κs x. x) skein-tpm2b-len-reads.Post
skein_tpm2b_len κs a x v met = not_seven by_gives met

skein_buffer64_new : NotSeven 2 skein-buffer64-new-kinds.ps skein-buffer64-new-kinds.r (λ κs x. x) skein-buffer64-new-reads.Post
skein_buffer64_new κs a x v met = not_seven by_gives met.0

skein_buffer64_wire_len : NotSeven 1 skein-buffer64-wire-len-kinds.ps skein-buffer64-wire-len-kinds.r (λ κs x. x) skein-buffer64-wire-len-reads.Post
skein_buffer64_wire_len κs a x v met = not_seven (of_buffer (buffer.only_wire_length _ _)) met

skein_buffer64_held : NotSeven 3 skein-buffer64-held-kinds.ps skein-buffer64-held-kinds.r (λ κs x. x) skein-buffer64-held-reads.Post
skein_buffer64_held κs a x v met = not_seven (by_step _ (of_buffer (buffer.only_emitted _ _ _ _))) met.0

skein_buffer64_marshal : NotSeven 3 skein-buffer64-marshal-kinds.ps skein-buffer64-marshal-kinds.r (λ κs x. x) skein-buffer64-marshal-reads.Post
skein_buffer64_marshal κs a x v met = not_seven (by_step _ (of_buffer (buffer.only_emitted _ _ _ _))) met.0

skein_buffer64_eq : NotSeven 3 skein-buffer64-eq-kinds.ps skein-buffer64-eq-kinds.r (λ κs x. x) skein-buffer64-eq-reads.Post
skein_buffer64_eq κs a x v met = not_seven (of_buffer (buffer.only_equal _ _ _)) met

skein_buffer64_push : NotSeven 2 skein-buffer64-push-kinds.ps skein-buffer64-push-kinds.r (λ κs x. x) skein-buffer64-push-reads.Post
skein_buffer64_push κs a x v met = not_seven (of_buffer (buffer.only_extended _ _ _)) met.0

skein_buffer64_extend : NotSeven 3 skein-buffer64-extend-kinds.ps skein-buffer64-extend-kinds.r (λ κs x. x) skein-buffer64-extend-reads.Post
skein_buffer64_extend κs a x v met = not_seven (by_step _ (of_buffer (buffer.only_extended _ _ _))) met.0

skein_buffer64_from_slice : NotSeven 3 skein-buffer64-from-slice-kinds.ps skein-buffer64-from-slice-kinds.r (λ κs x. x) skein-buffer64-from-slice-reads.Post
skein_buffer64_from_slice κs a x v met = not_seven (of_buffer (buffer.only_extended _ _ _)) met.0

skein_buffer64_unmarshal : NotSeven 3 skein-buffer64-unmarshal-kinds.ps skein-buffer64-unmarshal-kinds.r (λ κs x. x) skein-buffer64-unmarshal-reads.Post
skein_buffer64_unmarshal κs a x v met = not_seven (of_buffer (buffer.only_prefix _ _)) met.0

skein_buffer1024_new : NotSeven 2 skein-buffer1024-new-kinds.ps skein-buffer1024-new-kinds.r (λ κs x. x) skein-buffer1024-new-reads.Post
skein_buffer1024_new κs a x v met = not_seven by_gives met.0

skein_buffer1024_wire_len : NotSeven 1 skein-buffer1024-wire-len-kinds.ps skein-buffer1024-wire-len-kinds.r (λ κs x. x) skein-buffer1024-wire-len-reads.Post
skein_buffer1024_wire_len κs a x v met = not_seven (of_buffer (buffer.only_wire_length _ _)) met

skein_buffer1024_held : NotSeven 3 skein-buffer1024-held-kinds.ps skein-buffer1024-held-kinds.r (λ κs x. x) skein-buffer1024-held-reads.Post
skein_buffer1024_held κs a x v met = not_seven (by_step _ (of_buffer (buffer.only_emitted _ _ _ _))) met.0

skein_buffer1024_marshal : NotSeven 3 skein-buffer1024-marshal-kinds.ps skein-buffer1024-marshal-kinds.r (λ κs x. x) skein-buffer1024-marshal-reads.Post
skein_buffer1024_marshal κs a x v met = not_seven (by_step _ (of_buffer (buffer.only_emitted _ _ _ _))) met.0

skein_buffer1024_eq : NotSeven 3 skein-buffer1024-eq-kinds.ps skein-buffer1024-eq-kinds.r (λ κs x. x) skein-buffer1024-eq-reads.Post
skein_buffer1024_eq κs a x v met = not_seven (of_buffer (buffer.only_equal _ _ _)) met

skein_buffer1024_push : NotSeven 2 skein-buffer1024-push-kinds.ps skein-buffer1024-push-kinds.r (λ κs x. x) skein-buffer1024-push-reads.Post
skein_buffer1024_push κs a x v met = not_seven (of_buffer (buffer.only_extended _ _ _)) met.0

skein_buffer1024_extend : NotSeven 3 skein-buffer1024-extend-kinds.ps skein-buffer1024-extend-kinds.r (λ κs x. x) skein-buffer1024-extend-reads.Post
skein_buffer1024_extend κs a x v met = not_seven (by_step _ (of_buffer (buffer.only_extended _ _ _))) met.0

skein_buffer1024_from_slice : NotSeven 3 skein-buffer1024-from-slice-kinds.ps skein-buffer1024-from-slice-kinds.r (λ κs x. x) skein-buffer1024-from-slice-reads.Post
skein_buffer1024_from_slice κs a x v met = not_seven (of_buffer (buffer.only_extended _ _ _)) met.0

skein_buffer1024_unmarshal : NotSeven 3 skein-buffer1024-unmarshal-kinds.ps skein-buffer1024-unmarshal-kinds.r (λ κs x. x) skein-buffer1024-unmarshal-reads.Post
skein_buffer1024_unmarshal κs a x v met = not_seven (of_buffer (buffer.only_prefix _ _)) met.0

skein_table_find : NotSeven 1 skein-table-find-kinds.ps skein-table-find-kinds.r (λ κs x. x) skein-table-find-reads.Post
skein_table_find κs a x v met = not_seven (by_table a.0 (λ table. never_row (table_of table) a.1.0)) met

skein_table_known : NotSeven 1 skein-table-known-kinds.ps skein-table-known-kinds.r (λ κs x. x) skein-table-known-reads.Post
skein_table_known κs a x v met = not_seven (by_table a.0 (λ table. by_gives)) met

skein_tag_known : NotSeven 1 skein-tag-known-kinds.ps skein-tag-known-kinds.r (λ κs x. x) skein-tag-known-reads.Post
skein_tag_known κs a x v met = not_seven by_gives met

skein_frame_tag : NotSeven 2 skein-frame-tag-kinds.ps skein-frame-tag-kinds.r (λ κs x. x) skein-frame-tag-reads.Post
skein_frame_tag κs a x v met = not_seven (frame.never_tag _) met

skein_frame_size : NotSeven 2 skein-frame-size-kinds.ps skein-frame-size-kinds.r (λ κs x. x) skein-frame-size-reads.Post
skein_frame_size κs a x v met = not_seven (frame.never_size _) met

skein_frame_len : NotSeven 2 skein-frame-len-kinds.ps skein-frame-len-kinds.r (λ κs x. x) skein-frame-len-reads.Post
skein_frame_len κs a x v met = not_seven by_gives met

skein_frame_is_empty : NotSeven 2 skein-frame-is-empty-kinds.ps skein-frame-is-empty-kinds.r (λ κs x. x) skein-frame-is-empty-reads.Post
skein_frame_is_empty κs a x v met = not_seven by_gives met

skein_frame_set_tag : NotSeven 2 skein-frame-set-tag-kinds.ps skein-frame-set-tag-kinds.r (λ κs x. x) skein-frame-set-tag-reads.Post
skein_frame_set_tag κs a x v met = not_seven (by_done (frame.never_set_tag _ _)) met.0

skein_command_cast : NotSeven 2 skein-command-cast-kinds.ps skein-command-cast-kinds.r (λ κs x. x) skein-command-cast-reads.Post
skein_command_cast κs a x v met = not_seven (by_rules a.0 (λ book. by_whole a.1.0.now (frame.never_cast_command book a.1.0.now))) met

skein_command_handles : NotSeven 2 skein-command-handles-kinds.ps skein-command-handles-kinds.r (λ κs x. x) skein-command-handles-reads.Post
skein_command_handles κs a x v met = not_seven (by_rules a.0 (λ book. frame.never_handles_range book a.1.0.now)) met

skein_command_auth_area : NotSeven 2 skein-command-auth-area-kinds.ps skein-command-auth-area-kinds.r (λ κs x. x) skein-command-auth-area-reads.Post
skein_command_auth_area κs a x v met = not_seven (by_rules a.0 (λ book. frame.never_auth_range book a.1.0.now)) met

skein_command_parameters : NotSeven 2 skein-command-parameters-kinds.ps skein-command-parameters-kinds.r (λ κs x. x) skein-command-parameters-reads.Post
skein_command_parameters κs a x v met = not_seven (by_rules a.0 (λ book. frame.never_parameters_range book a.1.0.now)) met

skein_command_cast_prefix : NotSeven 2 skein-command-cast-prefix-kinds.ps skein-command-cast-prefix-kinds.r (λ κs x. x) skein-command-cast-prefix-reads.Post
skein_command_cast_prefix κs a x v met = not_seven (by_rules a.0 (λ book. by_up_to (frame.never_cast_command_prefix book a.1.0.now))) met

skein_command_validate : NotSeven 2 skein-command-validate-kinds.ps skein-command-validate-kinds.r (λ κs x. x) skein-command-validate-reads.Post
skein_command_validate κs a x v met = not_seven (by_rules a.0 (λ book. by_done (frame.never_command book a.1.0.now))) met

skein_command_cc : NotSeven 2 skein-command-cc-kinds.ps skein-command-cc-kinds.r (λ κs x. x) skein-command-cc-reads.Post
skein_command_cc κs a x v met = not_seven (by_rules a.0 (λ book. frame.never_cc book a.1.0.now)) met

skein_command_set_cc : NotSeven 2 skein-command-set-cc-kinds.ps skein-command-set-cc-kinds.r (λ κs x. x) skein-command-set-cc-reads.Post
skein_command_set_cc κs a x v met = not_seven (by_rules a.0 (λ book. by_done (frame.never_set_cc book a.1.1.0.now a.1.0))) met.0

skein_command_parts : NotSeven 2 skein-command-parts-kinds.ps skein-command-parts-kinds.r (λ κs x. x.refusal) skein-command-parts-reads.Post
skein_command_parts κs a x v met = not_seven (by_rules a.0 (λ book. by_command a.1.0.now (frame.never_command book a.1.0.now))) met.0

skein_response_cast : NotSeven 2 skein-response-cast-kinds.ps skein-response-cast-kinds.r (λ κs x. x) skein-response-cast-reads.Post
skein_response_cast κs a x v met = not_seven (by_rules a.0 (λ book. by_whole a.1.0.now (frame.never_cast_response book a.1.0.now))) met

skein_response_cast_prefix : NotSeven 2 skein-response-cast-prefix-kinds.ps skein-response-cast-prefix-kinds.r (λ κs x. x) skein-response-cast-prefix-reads.Post
skein_response_cast_prefix κs a x v met = not_seven (by_rules a.0 (λ book. by_up_to (frame.never_cast_response_prefix book a.1.0.now))) met

skein_response_rc : NotSeven 2 skein-response-rc-kinds.ps skein-response-rc-kinds.r (λ κs x. x) skein-response-rc-reads.Post
skein_response_rc κs a x v met = not_seven (by_rules a.0 (λ book. frame.never_rc book a.1.0.now)) met

skein_response_body : NotSeven 2 skein-response-body-kinds.ps skein-response-body-kinds.r (λ κs x. x) skein-response-body-reads.Post
skein_response_body κs a x v met = not_seven (frame.never_body _) met

skein_response_validate : NotSeven 2 skein-response-validate-kinds.ps skein-response-validate-kinds.r (λ κs x. x) skein-response-validate-reads.Post
skein_response_validate κs a x v met = not_seven (by_rules a.0 (λ book. by_done (frame.never_response book a.1.1.0.now a.1.0))) met

skein_response_set_rc : NotSeven 2 skein-response-set-rc-kinds.ps skein-response-set-rc-kinds.r (λ κs x. x) skein-response-set-rc-reads.Post
skein_response_set_rc κs a x v met = not_seven (by_rules a.0 (λ book. by_done (frame.never_set_rc book a.1.1.0.now a.1.0))) met.0

skein_response_parts : NotSeven 2 skein-response-parts-kinds.ps skein-response-parts-kinds.r (λ κs x. x.refusal) skein-response-parts-reads.Post
skein_response_parts κs a x v met = not_seven (by_rules a.0 (λ book. by_response a.1.1.0.now (frame.never_response book a.1.1.0.now a.1.0))) met.0

skein_keeper_new : NotSeven 2 skein-keeper-new-kinds.ps skein-keeper-new-kinds.r (λ κs x. x) skein-keeper-new-reads.Post
skein_keeper_new κs a x v met = not_seven by_gives met.0

skein_keeper_open : NotSeven 3 skein-keeper-open-kinds.ps skein-keeper-open-kinds.r (λ κs x. x) skein-keeper-open-reads.Post
skein_keeper_open κs a x v met = not_seven (by_done (keeper.never_opened _ _ _)) met.0

skein_keeper_answer : NotSeven 4 skein-keeper-answer-kinds.ps skein-keeper-answer-kinds.r (λ κs x. x) skein-keeper-answer-reads.Post
skein_keeper_answer κs a x v met = not_seven (by_table a.0 (λ table. by_done (keeper.never_answered table _ _ _))) met.0

skein_keeper_close : NotSeven 2 skein-keeper-close-kinds.ps skein-keeper-close-kinds.r (λ κs x. x) skein-keeper-close-reads.Post
skein_keeper_close κs a x v met = not_seven (by_done (keeper.never_closed _ _)) met.0

skein_keeper_ask : NotSeven 2 skein-keeper-ask-kinds.ps skein-keeper-ask-kinds.r (λ κs x. x) skein-keeper-ask-reads.Post
skein_keeper_ask κs a x v met = not_seven (keeper.never_asked _ _) met

skein_keeper_len : NotSeven 2 skein-keeper-len-kinds.ps skein-keeper-len-kinds.r (λ κs x. x) skein-keeper-len-reads.Post
skein_keeper_len κs a x v met = not_seven by_gives met
