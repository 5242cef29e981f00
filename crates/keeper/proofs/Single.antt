-- Each public function of keeper leaves a single answer and a single later state of what was lent (base, specs/Single.antt).
-- Assumes nothing.
use mathlib.Core.Path.{◌≡◌, refl, sym, ◌∙◌, ap}
use mathlib.Core.Bool.{cond}
use lib.Dec.{eqb}
use Rattle.std.specs.Prelude.{Result}
use Rattle.base.specs.declared.error.TpmError.{TpmError}
use Rattle.base.specs.declared.part.Span.{Span}
use Rattle.base.specs.Error as frame
use Rattle.base.specs.Said.{Why, number_of}
use Rattle.base.specs.Single.{Single}
use Rattle.base.proofs.Answers.{injective_by, said_by_injective}
use Rattle.base.proofs.Eight.{no_other}
use Rattle.base.proofs.Refusals.{named, named_numbered}
use Rattle.keeper.specs.declared.refusal.Refusal.{Refusal}
use Rattle.keeper.specs.declared.refusal.Refusal.TheVariants as refusal
use Rattle.keeper.specs.Keeper.{handle_repeated, counts_differ, already_open, all_open, not_open}
use Rattle.keeper.specs.Refusal.{numbered, said_done, said_asked}
use Rattle.keeper.proofs.refusal.RefusalFromTpmError.from.Kinds as refusal-from-kinds
use Rattle.keeper.proofs.refusal.RefusalFromTpmError.from.Reads as refusal-from-reads
use Rattle.keeper.proofs.session.new.Kinds as new-kinds
use Rattle.keeper.proofs.session.new.Reads as new-reads
use Rattle.keeper.proofs.session.len.Kinds as len-kinds
use Rattle.keeper.proofs.session.len.Reads as len-reads
use Rattle.keeper.proofs.session.open.Kinds as open-kinds
use Rattle.keeper.proofs.session.open.Reads as open-reads
use Rattle.keeper.proofs.session.close.Kinds as close-kinds
use Rattle.keeper.proofs.session.close.Reads as close-reads
use Rattle.keeper.proofs.session.ask.Kinds as ask-kinds
use Rattle.keeper.proofs.session.ask.Reads as ask-reads
use Rattle.keeper.proofs.answer.answer.Kinds as answer-kinds
use Rattle.keeper.proofs.answer.answer.Reads as answer-reads

-- ---- the numbers tell the refusals apart

-- the refusal that a number names; what is no number of the keeper's own is a frame's
abbrev refusal_of : Why → Refusal
refusal_of why =
    cond (eqb (number_of why) (number_of handle_repeated)) refusal.HandleRepeated
    (cond (eqb (number_of why) (number_of counts_differ)) refusal.CountsDiffer
    (cond (eqb (number_of why) (number_of already_open)) refusal.AlreadyOpen
    (cond (eqb (number_of why) (number_of all_open)) refusal.AllOpen
    (cond (eqb (number_of why) (number_of not_open)) refusal.NotOpen
    (refusal.Frame (named why))))))

told_frame : (e : TpmError) → refusal_of (frame.numbered e) ≡ refusal.Frame (named (frame.numbered e))
told_frame e = rw (no_other 13 refl e, no_other 14 refl e, no_other 15 refl e, no_other 16 refl e, no_other 17 refl e) refl

told_refusal : (e : Refusal) → refusal_of (numbered e) ≡ e
told_refusal (refusal.Frame e) = told_frame e ∙ ap refusal.Frame (named_numbered e)
told_refusal refusal.HandleRepeated = refl
told_refusal refusal.CountsDiffer = refl
told_refusal refusal.AlreadyOpen = refl
told_refusal refusal.AllOpen = refl
told_refusal refusal.NotOpen = refl

pub numbered_injective : (e f : Refusal) → numbered e ≡ numbered f → e ≡ f
numbered_injective = injective_by numbered refusal_of told_refusal

pub said_done_injective : (a b : Result (Unit {0}) Refusal) → said_done a ≡ said_done b → a ≡ b
said_done_injective = said_by_injective (λ u. u) numbered (λ u. u) refusal_of (λ u. refl) told_refusal

pub said_asked_injective : (a b : Result Span Refusal) → said_asked a ≡ said_asked b → a ≡ b
said_asked_injective =
    said_by_injective (λ p. record { from = p.from; to = p.to }) numbered (λ p. record { from = p.from; to = p.to }) refusal_of (λ p. refl) told_refusal

-- ---- the calls

refusal_from : Single 0 refusal-from-kinds.ps refusal-from-kinds.r refusal-from-reads.Post
refusal_from κs a x y v w p q = (p ∙ sym q, refl)

session_new : Single 1 new-kinds.ps new-kinds.r new-reads.Post
session_new κs a x y v w p q = (refl, λ i. ((p ∙ sym q) i, tt))

session_len : Single 1 len-kinds.ps len-kinds.r len-reads.Post
session_len κs a x y v w p q = (p ∙ sym q, refl)

session_open : Single 2 open-kinds.ps open-kinds.r open-reads.Post
session_open κs a x y v w p q = (said_done_injective x y (p.0 ∙ sym q.0), λ i. ((p.1.1 ∙ sym q.1.1) i, (tt, (tt, tt))))

session_close : Single 1 close-kinds.ps close-kinds.r close-reads.Post
session_close κs a x y v w p q = (said_done_injective x y (p.0 ∙ sym q.0), λ i. ((p.1.1 ∙ sym q.1.1) i, (tt, tt)))

session_ask : Single 1 ask-kinds.ps ask-kinds.r ask-reads.Post
session_ask κs a x y v w p q = (said_asked_injective x y (p.1 ∙ sym q.1), refl)

answer_answer : Single 3 answer-kinds.ps answer-kinds.r answer-reads.Post
answer_answer κs a x y v w p q = (said_done_injective x y (p.0 ∙ sym q.0), λ i. (tt, ((p.1.1 ∙ sym q.1.1) i, (tt, (tt, tt)))))
