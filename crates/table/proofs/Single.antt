-- Each public function of table leaves a single answer (base, specs/Single.antt).
-- Assumes nothing.
use mathlib.Core.Path.{refl, sym, ◌∙◌}
use Rattle.base.specs.Single.{Single}
use Rattle.base.proofs.Answers.{said_injective}
use Rattle.table.proofs.dispatch.find.Kinds as find-kinds
use Rattle.table.proofs.dispatch.find.Reads as find-reads
use Rattle.table.proofs.dispatch.cc_known.Kinds as cc-known-kinds
use Rattle.table.proofs.dispatch.cc_known.Reads as cc-known-reads
use Rattle.table.proofs.tag.tag_known.Kinds as tag-known-kinds
use Rattle.table.proofs.tag.tag_known.Reads as tag-known-reads

find : Single 0 find-kinds.ps find-kinds.r find-reads.Post
find κs a x y v w p q = (said_injective x y (p ∙ sym q), refl)

cc_known : Single 0 cc-known-kinds.ps cc-known-kinds.r cc-known-reads.Post
cc_known κs a x y v w p q = (p ∙ sym q, refl)

tag_known : Single 0 tag-known-kinds.ps tag-known-kinds.r tag-known-reads.Post
tag_known κs a x y v w p q = (p ∙ sym q, refl)
