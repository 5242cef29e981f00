-- The sessions that are looked at, by their count: so many of the three.
-- Assumes nothing.
use mathlib.Core.Path.{◌≡◌, ◌∙◌, ap}
use mathlib.Core.List.{List, [], ◌∷◌}
use Prim.Native.Nat.{ℕ, suc, ◌-◌}
use native.Mathlib.Omega.{arith}
use lib.ListN.{take}
use lib.Seq.{take-nil}
use Rattle.frame.specs.declared.session.Entries.{Entries}
use Rattle.frame.specs.declared.session.Session.{Session}
use Rattle.frame.specs.Parts.{entries_of}

module _ (es : Entries) where
  so_many : {n : ℕ} → es.count ≡ n → entries_of es ≡ take n (es.first ∷ es.second ∷ es.third ∷ [])
  so_many e = ap (λ (n : ℕ). take n (es.first ∷ es.second ∷ es.third ∷ [])) e

  pub entries_none : es.count ≡ 0 → entries_of es ≡ []
  entries_none = so_many

  pub entries_one : es.count ≡ 1 → entries_of es ≡ es.first ∷ []
  entries_one = so_many

  pub entries_two : es.count ≡ 2 → entries_of es ≡ es.first ∷ es.second ∷ []
  entries_two = so_many

  module _ (some : es.count ≡ 0 → ⊥) where
    pub entries_first : entries_of es ≡ es.first ∷ take (es.count - 1) (es.second ∷ es.third ∷ [])
    entries_first =
        let more : es.count ≡ suc (es.count - 1) = omega arith in
        so_many more

    module _ (others : es.count ≡ 1 → ⊥) where
      pub entries_second : entries_of es ≡ es.first ∷ es.second ∷ take (es.count - 2) (es.third ∷ [])
      entries_second =
          let more : es.count ≡ suc (suc (es.count - 2)) = omega arith in
          so_many more

      pub entries_third : (es.count ≡ 2 → ⊥) → entries_of es ≡ es.first ∷ es.second ∷ es.third ∷ []
      entries_third last =
          let more : es.count ≡ suc (suc (suc (es.count - 3))) = omega arith in
          so_many more ∙ ap (λ (l : List Session). es.first ∷ es.second ∷ es.third ∷ l) (take-nil (es.count - 3))
