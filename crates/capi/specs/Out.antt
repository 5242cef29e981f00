-- What C is given of an answer: a number, 0 for an answer and else the refusal's, and the numbers that go into the lent array,
-- each at a place of its own: an answer's four places are never a refusal's, and a refusal's area has the last (document 02, W2).
-- Assumes nothing: these are definitions.
use Rattle.std.specs.Prelude.{ℕ, ◌≡◌, Bool, cond, List, [], ◌∷◌, drop}
use Rattle.std.proofs.lemmas.List.Edits.{sets}
use Rattle.base.specs.Answer.{Part}
use Rattle.base.specs.Error.{area_number}
use Rattle.base.specs.Said.{Why, number_of, Said, gives, refuses}

-- the fields of a refusal stand behind its number
abbrev pub fields : Why → List ℕ
fields why = drop 1 why.numbers

abbrev pub returned : {A : Type 0} → Said A → ℕ
returned (gives a) = 0
returned (refuses why) = number_of why

abbrev pub one : ℕ → List ℕ
one n = n ∷ []

-- a truth is 1 or 0; a part is its start and its end
abbrev pub truth : Bool → List ℕ
truth b = cond b 1 0 ∷ []

abbrev pub ends : Part → List ℕ
ends p = p.from ∷ p.to ∷ []

abbrev pub none : {A : Type 0} → A → List ℕ
none a = []

-- an answer's numbers stand from the first place on, over what was there; a refusal's fields from the place of the offset on, and its area at the last
abbrev pub answer_over : List ℕ → List ℕ → List ℕ
answer_over numbers old = sets old 0 numbers

abbrev pub refusal_over : Why → List ℕ → List ℕ
refusal_over why old = sets (sets old 4 (fields why)) 7 (area_number why.area ∷ [])

-- the array later, where an answer's own numbers are told by `of`
abbrev pub reported_over : {A : Type 0} → (A → List ℕ) → Said A → List ℕ → List ℕ
reported_over of (gives a) old = answer_over (of a) old
reported_over of (refuses why) old = refusal_over why old

-- a call returns r and leaves the array, which was old, as later: it reports what is said
pub record Reports {A : Type 0} (of : A → List ℕ) (said : Said A) (old later : List ℕ) (r : ℕ) : Type 0 where
  pub status : r ≡ returned said
  pub array : later ≡ reported_over of said old
