-- Each public function of base leaves a single answer and a single later state of what was lent (specs/Single.antt).
-- Assumes nothing.
use mathlib.Core.Path.{refl, sym, ◌∙◌}
use denote.Ref.{as_bor}
use Rattle.base.specs.Single.{Single, SinglePart}
use Rattle.base.proofs.Refusals.{numbered_injective}
use Rattle.base.proofs.Answers.{said_injective, said_range_injective}
use Rattle.base.proofs.Parts.{same_part}
use Rattle.base.proofs.code.TpmSt.refused.Kinds as TpmSt-refused-kinds
use Rattle.base.proofs.code.TpmSt.refused.Reads as TpmSt-refused-reads
use Rattle.base.proofs.code.TpmCc.refused.Kinds as TpmCc-refused-kinds
use Rattle.base.proofs.code.TpmCc.refused.Reads as TpmCc-refused-reads
use Rattle.base.proofs.code.TpmRc.refused.Kinds as TpmRc-refused-kinds
use Rattle.base.proofs.code.TpmRc.refused.Reads as TpmRc-refused-reads
use Rattle.base.proofs.error.Area.number.Kinds as area-number-kinds
use Rattle.base.proofs.error.Area.number.Reads as area-number-reads
use Rattle.base.proofs.error.WriteErrorFromTpmError.from.Kinds as write-error-from-kinds
use Rattle.base.proofs.error.WriteErrorFromTpmError.from.Reads as write-error-from-reads
use Rattle.base.proofs.field.left.Kinds as left-kinds
use Rattle.base.proofs.field.left.Reads as left-reads
use Rattle.base.proofs.field.be16.Kinds as be16-kinds
use Rattle.base.proofs.field.be16.Reads as be16-reads
use Rattle.base.proofs.field.be32.Kinds as be32-kinds
use Rattle.base.proofs.field.be32.Reads as be32-reads
use Rattle.base.proofs.field.read_u16.Kinds as read-u16-kinds
use Rattle.base.proofs.field.read_u16.Reads as read-u16-reads
use Rattle.base.proofs.field.read_u32.Kinds as read-u32-kinds
use Rattle.base.proofs.field.read_u32.Reads as read-u32-reads
use Rattle.base.proofs.field.write_u16.Kinds as write-u16-kinds
use Rattle.base.proofs.field.write_u16.Reads as write-u16-reads
use Rattle.base.proofs.field.write_u32.Kinds as write-u32-kinds
use Rattle.base.proofs.field.write_u32.Reads as write-u32-reads
use Rattle.base.proofs.field.write_bytes.Kinds as write-bytes-kinds
use Rattle.base.proofs.field.write_bytes.Reads as write-bytes-reads
use Rattle.base.proofs.part.behind.Kinds as behind_kinds
use Rattle.base.proofs.part.behind.Reads as behind-reads
use Rattle.base.proofs.part.part.Kinds as part-kinds
use Rattle.base.proofs.part.part.Reads as part-reads
use Rattle.base.proofs.part.part_mut.Kinds as part-mut-kinds
use Rattle.base.proofs.part.part_mut.Reads as part-mut-reads

TpmSt-refused : Single 0 TpmSt-refused-kinds.ps TpmSt-refused-kinds.r TpmSt-refused-reads.Post
TpmSt-refused κs a x y v w p q = (numbered_injective x y (p ∙ sym q), refl)

TpmCc-refused : Single 0 TpmCc-refused-kinds.ps TpmCc-refused-kinds.r TpmCc-refused-reads.Post
TpmCc-refused κs a x y v w p q = (numbered_injective x y (p ∙ sym q), refl)

TpmRc-refused : Single 0 TpmRc-refused-kinds.ps TpmRc-refused-kinds.r TpmRc-refused-reads.Post
TpmRc-refused κs a x y v w p q = (numbered_injective x y (p ∙ sym q), refl)

area_number_lem : Single 0 area-number-kinds.ps area-number-kinds.r area-number-reads.Post
area_number_lem κs a x y v w p q = (p ∙ sym q, refl)

write_error_from : Single 0 write-error-from-kinds.ps write-error-from-kinds.r write-error-from-reads.Post
write_error_from κs a x y v w p q = (p ∙ sym q, refl)

left : Single 0 left-kinds.ps left-kinds.r left-reads.Post
left κs a x y v w p q = (p ∙ sym q, refl)

be16 : Single 0 be16-kinds.ps be16-kinds.r be16-reads.Post
be16 κs a x y v w p q = (p ∙ sym q, refl)

be32 : Single 0 be32-kinds.ps be32-kinds.r be32-reads.Post
be32 κs a x y v w p q = (p ∙ sym q, refl)

read_u16 : Single 1 read-u16-kinds.ps read-u16-kinds.r read-u16-reads.Post
read_u16 κs a x y v w p q = (said_injective x y (p ∙ sym q), refl)

read_u32 : Single 1 read-u32-kinds.ps read-u32-kinds.r read-u32-reads.Post
read_u32 κs a x y v w p q = (said_injective x y (p ∙ sym q), refl)

write_u16 : Single 1 write-u16-kinds.ps write-u16-kinds.r write-u16-reads.Post
write_u16 κs a x y v w p q = (said_injective x y (p.0 ∙ sym q.0), λ i. ((p.1 ∙ sym q.1) i, (tt, (tt, tt))))

write_u32 : Single 1 write-u32-kinds.ps write-u32-kinds.r write-u32-reads.Post
write_u32 κs a x y v w p q = (said_injective x y (p.0 ∙ sym q.0), λ i. ((p.1 ∙ sym q.1) i, (tt, (tt, tt))))

write_bytes : Single 2 write-bytes-kinds.ps write-bytes-kinds.r write-bytes-reads.Post
write_bytes κs a x y v w p q = (said_injective x y (p.0 ∙ sym q.0), λ i. ((p.1 ∙ sym q.1) i, (tt, (tt, tt))))

behind : Single 0 behind_kinds.ps behind_kinds.r behind-reads.Post
behind κs a x y v w p q = (said_range_injective x y (p ∙ sym q), refl)

part : SinglePart 1 part-kinds.ps part-kinds.r (λ κs x. x) part-reads.Post
part κs a x y v w p q = (same_part x y p q, refl)

part_mut : SinglePart 1 part-mut-kinds.ps part-mut-kinds.r (λ κs x. as_bor x) part-mut-reads.Post
part_mut κs a x y v w p q = (same_part (as_bor x) (as_bor y) p q, refl)
