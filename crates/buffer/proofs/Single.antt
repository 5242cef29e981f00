-- Each public function of buffer leaves a single answer and a single later state of what was lent (base, specs/Single.antt).
-- Assumes nothing.
use mathlib.Core.Path.{◌≡◌, refl, sym, ◌∙◌, ap}
use Prim.Native.Nat.{ℕ}
use mir.Val.{Fits}
use mir.Syntax.{w64}
use denote.Ref.{as_bor}
use Rattle.base.specs.Single.{Single, SinglePart}
use Rattle.base.proofs.Answers.{said_injective, said_by_injective, said_range_injective}
use Rattle.base.proofs.Checks.{gives_injective, refuses_injective, gives≢refuses}
use Rattle.base.proofs.Refusals.{numbered_injective, named, named_numbered}
use Rattle.base.specs.Error.{numbered}
use Rattle.base.specs.declared.error.TpmError.{TpmError}
use Rattle.std.specs.Prelude.{Result, Ok, Err}
use Rattle.base.proofs.Parts.{same_part}
use Rattle.buffer.specs.declared.fixed.TpmBuffer.{TpmBuffer}
use Rattle.buffer.specs.Capacities.{of, said_read, said_taken}
use Rattle.buffer.proofs.view.size.Kinds as size-kinds
use Rattle.buffer.proofs.view.size.Reads as size-reads
use Rattle.buffer.proofs.view.validate_prefix.Kinds as validate-prefix-kinds
use Rattle.buffer.proofs.view.validate_prefix.Reads as validate-prefix-reads
use Rattle.buffer.proofs.view.validate.Kinds as validate-kinds
use Rattle.buffer.proofs.view.validate.Reads as validate-reads
use Rattle.buffer.proofs.view.cast_range.Kinds as cast-range-kinds
use Rattle.buffer.proofs.view.cast_range.Reads as cast-range-reads
use Rattle.buffer.proofs.view.cast_prefix_range.Kinds as cast-prefix-range-kinds
use Rattle.buffer.proofs.view.cast_prefix_range.Reads as cast-prefix-range-reads
use Rattle.buffer.proofs.view.data_range.Kinds as data-range-kinds
use Rattle.buffer.proofs.view.data_range.Reads as data-range-reads
use Rattle.buffer.proofs.view.is_empty.Kinds as is-empty-kinds
use Rattle.buffer.proofs.view.is_empty.Reads as is-empty-reads
use Rattle.buffer.proofs.view.len.Kinds as len-kinds
use Rattle.buffer.proofs.view.len.Reads as len-reads
use Rattle.buffer.proofs.view.cast.Kinds as cast-kinds
use Rattle.buffer.proofs.view.cast.Reads as cast-reads
use Rattle.buffer.proofs.view.cast_prefix.Kinds as cast-prefix-kinds
use Rattle.buffer.proofs.view.cast_prefix.Reads as cast-prefix-reads
use Rattle.buffer.proofs.view.cast_prefix_tail.Kinds as cast-prefix-tail-kinds
use Rattle.buffer.proofs.view.cast_prefix_tail.Reads as cast-prefix-tail-reads
use Rattle.buffer.proofs.view.cast_mut.Kinds as cast-mut-kinds
use Rattle.buffer.proofs.view.cast_mut.Reads as cast-mut-reads
use Rattle.buffer.proofs.view.cast_prefix_mut.Kinds as cast-prefix-mut-kinds
use Rattle.buffer.proofs.view.cast_prefix_mut.Reads as cast-prefix-mut-reads
use Rattle.buffer.proofs.view.cast_prefix_tail_mut.Kinds as cast-prefix-tail-mut-kinds
use Rattle.buffer.proofs.view.cast_prefix_tail_mut.Reads as cast-prefix-tail-mut-reads
use Rattle.buffer.proofs.view.data.Kinds as data-kinds
use Rattle.buffer.proofs.view.data.Reads as data_Reads
use Rattle.buffer.proofs.view.data_mut.Kinds as data-mut-kinds
use Rattle.buffer.proofs.view.data_mut.Reads as data-mut-reads
use Rattle.buffer.proofs.fixed.TpmBuffer.new.Kinds as buffer-new-kinds
use Rattle.buffer.proofs.fixed.TpmBuffer.new.Reads as buffer-new-reads
use Rattle.buffer.proofs.fixed.TpmBuffer.try_push.Kinds as buffer-try-push-kinds
use Rattle.buffer.proofs.fixed.TpmBuffer.try_push.Reads as buffer-try-push-reads
use Rattle.buffer.proofs.fixed.TpmBuffer.try_extend_from_slice.Kinds as buffer-try-extend-from-slice-kinds
use Rattle.buffer.proofs.fixed.TpmBuffer.try_extend_from_slice.Reads as buffer-try-extend-from-slice-reads
use Rattle.buffer.proofs.fixed.TpmBuffer.from_slice.Kinds as buffer-from-slice-kinds
use Rattle.buffer.proofs.fixed.TpmBuffer.from_slice.Reads as buffer-from-slice-reads
use Rattle.buffer.proofs.fixed.TpmBuffer.copy_out.Kinds as buffer-copy-out-kinds
use Rattle.buffer.proofs.fixed.TpmBuffer.copy_out.Reads as buffer-copy-out-reads
use Rattle.buffer.proofs.fixed.TpmBuffer.eq.Kinds as buffer-eq-kinds
use Rattle.buffer.proofs.fixed.TpmBuffer.eq.Reads as buffer-eq-reads
use Rattle.buffer.proofs.fixed.TpmBuffer.len.Kinds as buffer-len-kinds
use Rattle.buffer.proofs.fixed.TpmBuffer.len.Reads as buffer-len-reads
use Rattle.buffer.proofs.fixed.TpmBuffer.marshal.Kinds as buffer-marshal-kinds
use Rattle.buffer.proofs.fixed.TpmBuffer.marshal.Reads as buffer-marshal-reads
use Rattle.buffer.proofs.fixed.TpmBuffer.unmarshal.Kinds as buffer-unmarshal-kinds
use Rattle.buffer.proofs.fixed.TpmBuffer.unmarshal.Reads as buffer-unmarshal-reads
use Rattle.buffer.proofs.fixed.TpmBuffer.extend_lent.Kinds as buffer-extend-lent-kinds
use Rattle.buffer.proofs.fixed.TpmBuffer.extend_lent.Reads as buffer-extend-lent-reads
use Rattle.buffer.proofs.fixed.TpmBuffer.copy_out_lent.Kinds as buffer-copy-out-lent-kinds
use Rattle.buffer.proofs.fixed.TpmBuffer.copy_out_lent.Reads as buffer-copy-out-lent-reads
use Rattle.buffer.proofs.fixed.TpmBuffer.marshal_lent.Kinds as buffer-marshal-lent-kinds
use Rattle.buffer.proofs.fixed.TpmBuffer.marshal_lent.Reads as buffer-marshal-lent-reads

-- ---- the view

size : Single 1 size-kinds.ps size-kinds.r size-reads.Post
size κs a x y v w p q = (said_injective x y (p ∙ sym q), refl)

validate_prefix : Single 1 validate-prefix-kinds.ps validate-prefix-kinds.r validate-prefix-reads.Post
validate_prefix κs a x y v w p q = (said_injective x y (p ∙ sym q), refl)

validate : Single 1 validate-kinds.ps validate-kinds.r validate-reads.Post
validate κs a x y v w p q = (said_injective x y (p ∙ sym q), refl)

cast_range : Single 1 cast-range-kinds.ps cast-range-kinds.r cast-range-reads.Post
cast_range κs a x y v w p q = (said_range_injective x y (p ∙ sym q), refl)

cast_prefix_range : Single 1 cast-prefix-range-kinds.ps cast-prefix-range-kinds.r cast-prefix-range-reads.Post
cast_prefix_range κs a x y v w p q = (said_range_injective x y (p ∙ sym q), refl)

data_range_lem : Single 1 data-range-kinds.ps data-range-kinds.r data-range-reads.Post
data_range_lem κs a x y v w p q = (said_range_injective x y (p ∙ sym q), refl)

is_empty_lem : Single 1 is-empty-kinds.ps is-empty-kinds.r is-empty-reads.Post
is_empty_lem κs a x y v w p q = (said_injective x y (p ∙ sym q), refl)

len : Single 1 len-kinds.ps len-kinds.r len-reads.Post
len κs a x y v w p q = (p ∙ sym q, refl)

cast : SinglePart 1 cast-kinds.ps cast-kinds.r (λ κs x. x) cast-reads.Post
cast κs a x y v w p q = (same_part x y p q, refl)

cast_prefix : SinglePart 1 cast-prefix-kinds.ps cast-prefix-kinds.r (λ κs x. x) cast-prefix-reads.Post
cast_prefix κs a x y v w p q = (same_part x y p q, refl)

cast_prefix_tail : SinglePart 1 cast-prefix-tail-kinds.ps cast-prefix-tail-kinds.r (λ κs x. x) cast-prefix-tail-reads.Post
cast_prefix_tail κs a x y v w p q = (same_part x y p q, refl)

cast_mut : SinglePart 1 cast-mut-kinds.ps cast-mut-kinds.r (λ κs x. as_bor x) cast-mut-reads.Post
cast_mut κs a x y v w p q = (same_part (as_bor x) (as_bor y) p q, refl)

cast_prefix_mut : SinglePart 1 cast-prefix-mut-kinds.ps cast-prefix-mut-kinds.r (λ κs x. as_bor x) cast-prefix-mut-reads.Post
cast_prefix_mut κs a x y v w p q = (same_part (as_bor x) (as_bor y) p q, refl)

cast_prefix_tail_mut : SinglePart 1 cast-prefix-tail-mut-kinds.ps cast-prefix-tail-mut-kinds.r (λ κs x. as_bor x) cast-prefix-tail-mut-reads.Post
cast_prefix_tail_mut κs a x y v w p q = (same_part (as_bor x) (as_bor y) p q, refl)

data_part : SinglePart 1 data-kinds.ps data-kinds.r (λ κs x. x) data_Reads.Post
data_part κs a x y v w p q = (same_part x y p q, refl)

data_mut : SinglePart 1 data-mut-kinds.ps data-mut-kinds.r (λ κs x. as_bor x) data-mut-reads.Post
data_mut κs a x y v w p q = (same_part (as_bor x) (as_bor y) p q, refl)

-- ---- the fixed buffer, at every capacity

module _ (N : ℕ) (fits : Fits w64 N) where
  same : (x y : TpmBuffer N) → of x ≡ of y → x ≡ y
  same x y e = λ i. record { size = (e i).size; «data» = (e i).room }

  -- a buffer that was read, and the bytes that it took, are told by what is said of each
  same_read : (x y : Result (TpmBuffer N × ℕ) TpmError) → said_taken x ≡ said_taken y → said_read x ≡ said_read y → x ≡ y
  same_read (Ok a) (Ok b) p q = λ i. Ok (same a.0 b.0 (gives_injective q) i, gives_injective p i)
  same_read (Ok a) (Err e) p q = absurd (gives≢refuses p)
  same_read (Err e) (Ok b) p q = absurd (gives≢refuses (sym p))
  same_read (Err d) (Err e) p q = ap Err (numbered_injective d e (refuses_injective p))

  new_lem : Single 1 (buffer-new-kinds.ps N fits) (buffer-new-kinds.r N fits) (buffer-new-reads.Post N fits)
  new_lem κs a x y v w p q = (same x y (p ∙ sym q), refl)

  try_push : Single 2 (buffer-try-push-kinds.ps N fits) (buffer-try-push-kinds.r N fits) (buffer-try-push-reads.Post N fits)
  try_push κs a x y v w p q = (said_injective x y (p.0 ∙ sym q.0), λ i. (same v.0 w.0 (p.1 ∙ sym q.1) i, (tt, tt)))

  try_extend_from_slice : Single 3 (buffer-try-extend-from-slice-kinds.ps N fits) (buffer-try-extend-from-slice-kinds.r N fits) (buffer-try-extend-from-slice-reads.Post N fits)
  try_extend_from_slice κs a x y v w p q = (said_injective x y (p.0 ∙ sym q.0), λ i. (same v.0 w.0 (p.1 ∙ sym q.1) i, (tt, tt)))

  from_slice : Single 2 (buffer-from-slice-kinds.ps N fits) (buffer-from-slice-kinds.r N fits) (buffer-from-slice-reads.Post N fits)
  from_slice κs a x y v w p q = (said_by_injective of numbered (λ b. record { size = b.size; «data» = b.room }) named (λ b. refl) named_numbered x y (p ∙ sym q), refl)

  copy_out : Single 3 (buffer-copy-out-kinds.ps N fits) (buffer-copy-out-kinds.r N fits) (buffer-copy-out-reads.Post N fits)
  copy_out κs a x y v w p q = (said_injective x y (p.0 ∙ sym q.0), λ i. (tt, ((p.1 ∙ sym q.1) i, tt)))

  eq_lem : Single 3 (buffer-eq-kinds.ps N fits) (buffer-eq-kinds.r N fits) (buffer-eq-reads.Post N fits)
  eq_lem κs a x y v w p q = (said_injective x y (p ∙ sym q), refl)

  wire_len : Single 2 (buffer-len-kinds.ps N fits) (buffer-len-kinds.r N fits) (buffer-len-reads.Post N fits)
  wire_len κs a x y v w p q = (said_injective x y (p ∙ sym q), refl)

  marshal : Single 3 (buffer-marshal-kinds.ps N fits) (buffer-marshal-kinds.r N fits) (buffer-marshal-reads.Post N fits)
  marshal κs a x y v w p q = (said_injective x y (p.0 ∙ sym q.0), λ i. (tt, ((p.1 ∙ sym q.1) i, tt)))

  unmarshal : Single 2 (buffer-unmarshal-kinds.ps N fits) (buffer-unmarshal-kinds.r N fits) (buffer-unmarshal-reads.Post N fits)
  unmarshal κs a x y v w p q = (same_read x y (p.0 ∙ sym q.0) (p.1 ∙ sym q.1), refl)

  extend_lent : Single 3 (buffer-extend-lent-kinds.ps N fits) (buffer-extend-lent-kinds.r N fits) (buffer-extend-lent-reads.Post N fits)
  extend_lent κs a x y v w p q = (said_injective x y (p.0 ∙ sym q.0), λ i. (tt, ((p.1 ∙ sym q.1) i, (tt, tt))))

  copy_out_lent : Single 3 (buffer-copy-out-lent-kinds.ps N fits) (buffer-copy-out-lent-kinds.r N fits) (buffer-copy-out-lent-reads.Post N fits)
  copy_out_lent κs a x y v w p q = (said_injective x y (p.0 ∙ sym q.0), λ i. (tt, (tt, ((p.1 ∙ sym q.1) i, tt))))

  marshal_lent : Single 3 (buffer-marshal-lent-kinds.ps N fits) (buffer-marshal-lent-kinds.r N fits) (buffer-marshal-lent-reads.Post N fits)
  marshal_lent κs a x y v w p q = (said_injective x y (p.0 ∙ sym q.0), λ i. (tt, (tt, ((p.1 ∙ sym q.1) i, tt))))
