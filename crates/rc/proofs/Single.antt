-- Each public function of rc leaves a single answer (base, specs/Single.antt).
-- Assumes nothing.
use mathlib.Core.Path.{refl, sym, ◌∙◌}
use Rattle.base.specs.Single.{Single}
use Rattle.base.proofs.Answers.{said_injective}
use Rattle.rc.proofs.Laws.{one_kind}
use Rattle.rc.proofs.known.base_known.Kinds as base-known-kinds
use Rattle.rc.proofs.known.base_known.Reads as base-known-reads
use Rattle.rc.proofs.code.read.Kinds as read-kinds
use Rattle.rc.proofs.code.read.Reads as read-reads
use Rattle.rc.proofs.code.Code.value.Kinds as value-kinds
use Rattle.rc.proofs.code.Code.value.Reads as value-reads
use Rattle.rc.proofs.code.Code.from_parts.Kinds as from-parts-kinds
use Rattle.rc.proofs.code.Code.from_parts.Reads as from-parts-reads
use Rattle.rc.proofs.code.Code.kind.Kinds as kind-kinds
use Rattle.rc.proofs.code.Code.kind.Reads as kind-reads
use Rattle.rc.proofs.code.Kind.number.Kinds as number-kinds
use Rattle.rc.proofs.code.Kind.number.Reads as number-reads
use Rattle.rc.proofs.code.KindTryFromU32.try_from.Kinds as kind-try-from-kinds
use Rattle.rc.proofs.code.KindTryFromU32.try_from.Reads as kind-try-from-reads
use Rattle.rc.proofs.code.Code.index.Kinds as index-kinds
use Rattle.rc.proofs.code.Code.index.Reads as index_Reads
use Rattle.rc.proofs.code.Code.base.Kinds as base-kinds
use Rattle.rc.proofs.code.Code.base.Reads as base-reads

base_known : Single 0 base-known-kinds.ps base-known-kinds.r base-known-reads.Post
base_known κs a x y v w p q = (p ∙ sym q, refl)

read : Single 0 read-kinds.ps read-kinds.r read-reads.Post
read κs a x y v w p q = (said_injective x y (p ∙ sym q), refl)

value : Single 0 value-kinds.ps value-kinds.r value-reads.Post
value κs a x y v w p q = (p ∙ sym q, refl)

base : Single 0 base-kinds.ps base-kinds.r base-reads.Post
base κs a x y v w p q = (λ i. record { 0 = (p ∙ sym q) i }, refl)

from_parts : Single 0 from-parts-kinds.ps from-parts-kinds.r from-parts-reads.Post
from_parts κs a x y v w p q = (p ∙ sym q, refl)

kind : Single 0 kind-kinds.ps kind-kinds.r kind-reads.Post
kind κs a x y v w p q = (p ∙ sym q, refl)

number : Single 0 number-kinds.ps number-kinds.r number-reads.Post
number κs a x y v w p q = (p ∙ sym q, refl)

index : Single 0 index-kinds.ps index-kinds.r index_Reads.Post
index κs a x y v w p q = (p ∙ sym q, refl)

kind_try_from : Single 0 kind-try-from-kinds.ps kind-try-from-kinds.r kind-try-from-reads.Post
kind_try_from κs a x y v w p q = (one_kind a.0 x y p q, refl)
