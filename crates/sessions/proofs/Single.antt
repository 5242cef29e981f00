-- Each public function of sessions leaves a single answer and a single later state of what was lent (base, specs/Single.antt).
-- Assumes nothing.
use mathlib.Core.Path.{◌≡◌, refl, sym, ◌∙◌}
use base.Logic.{id⊢}
use Rattle.base.specs.Single.{SingleBy}
use Rattle.base.proofs.Answers.{said_total_injective}
use Rattle.base.proofs.Facts.{both}
use Rattle.sessions.specs.contracts.command.write as of-command-write
use Rattle.sessions.specs.contracts.records.first_three as of-first-three
use Rattle.sessions.specs.contracts.response.write as of-response-write

first_three : SingleBy of-first-three.ended (λ M 𝓤 𝓛. of-first-three.clauses 𝓛) (λ κs x y. x ≡ y)
first_three = record {
  Post = _;
  says = λ {𝓤 = 𝓤} 𝓛 mem run κs a g r s. id⊢ 𝓤 _;
  once = λ κs a x y v w p q. (p ∙ sym q, refl);
}

command_write : SingleBy of-command-write.ended (λ M 𝓤 𝓛. of-command-write.clauses 𝓛) (λ κs x y. x ≡ y)
command_write = record {
  Post = _;
  says = λ {𝓤 = 𝓤} 𝓛 mem run κs a g r s. both 𝓤 _ _;
  once = λ κs a x y v w p q. (said_total_injective x y (p.0 ∙ sym q.0), λ i. (tt, (tt, (tt, (tt, (tt, (tt, (tt, ((p.1 ∙ sym q.1) i, tt)))))))));
}

response_write : SingleBy of-response-write.ended (λ M 𝓤 𝓛. of-response-write.clauses 𝓛) (λ κs x y. x ≡ y)
response_write = record {
  Post = _;
  says = λ {𝓤 = 𝓤} 𝓛 mem run κs a g r s. both 𝓤 _ _;
  once = λ κs a x y v w p q. (said_total_injective x y (p.0 ∙ sym q.0), λ i. (tt, (tt, (tt, (tt, (tt, (tt, (tt, ((p.1 ∙ sym q.1) i, tt)))))))));
}
