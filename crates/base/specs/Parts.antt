-- Parts of lent bytes (document 01, "What must change shape"): which bytes a call gives back, where they stand, and what the whole
-- holds once a part that can be written to is given up.
-- Assumes nothing: these are definitions.
use Rattle.std.specs.Prelude.{ℕ, ◌+◌, ◌-◌, Bool, ◌&&◌, cond, List, ◌++◌, ◌≡◌, leb, length, take, drop}
use seplogic.Ra.Ura.{Ura}
use base.Logic.{SProp, sep, wand, all}
use Rattle.std.specs.Borrow.{Share, u8, Bor, MutBor, Fml, Array, Lends}
use denote.Ref.{as_bor}
use contract.Lifetimes.{Lfts}
use types.Logic.{Logic, sem}
use denote.Slice.{finally}
use Rattle.base.specs.declared.part.Span.{Span}
use Rattle.base.specs.Answer.{Part}
use Rattle.base.specs.Said.{Said, gives, refuses, then}

-- ---- which bytes

abbrev pub span : ℕ → ℕ → Span
span from to = record { from = from; to = to }

-- whether so many bytes have such a part
abbrev pub fits : Part → ℕ → Bool
fits p len = leb p.from p.to && leb p.to len

-- where the part of a range stands in so many bytes: at their start, and empty, where there is none or its range is refused
abbrev pub placed : Said Part → ℕ → Span
placed (gives p) len = cond (fits p len) (span p.from p.to) (span 0 0)
placed (refuses why) len = span 0 0

-- as many bytes as a read took, from their start
abbrev pub up_to : Said ℕ → Said Part
up_to read = then read λ n. gives (record { from = 0; to = n })

-- what stands behind the part of a range in so many bytes
abbrev pub behind : Said Part → ℕ → Said Part
behind range len = then range λ p. gives (record { from = p.to; to = len })

-- what some bytes have between two places, and in the part of a range; and the same bytes with others put there
abbrev pub held_at : Span → List ℕ → List ℕ
held_at p s = take (p.to - p.from) (drop p.from s)

abbrev pub part_in : Said Part → List ℕ → List ℕ
part_in range s = held_at (placed range (length s)) s

abbrev pub put_at : Span → List ℕ → List ℕ → List ℕ
put_at p t s = take p.from s ++ (t ++ drop p.to s)

-- ---- of references

-- r is the part of s that a range tells: it stands at that place of the lent bytes, and holds what they have there
abbrev pub IsAt : Span → Bor (List ℕ) → Bor (List ℕ) → Type 0
IsAt p s r = (r.now ≡ held_at p s.now) × (r.ref_ptr.0 ≡ s.ref_ptr.0) × (r.ref_ptr.1 ≡ s.ref_ptr.1 + p.from)

abbrev pub IsPart : Said Part → Bor (List ℕ) → Bor (List ℕ) → Type 0
IsPart range s r = IsAt (placed range (length s.now)) s r

abbrev pub IsPartMut : Said Part → MutBor (List ℕ) → MutBor (List ℕ) → Type 0
IsPartMut range s r = IsPart range (as_bor s) (as_bor r)

-- Once the last bytes of the part r are known, so are those of s: as they were at entry, with these in the part's place. So a call
-- that gives r back has changed no byte, and one that is refused leaves nothing to write to. Whoever asks shows a share of the token of the
-- signature's one lifetime, and has it back.
abbrev pub TiesAt : {M : Type 1} {𝓤 : Ura M} (𝓛 : Logic 𝓤) → Lfts 1 → Span → MutBor (List ℕ) → MutBor (List ℕ) → SProp 𝓤
TiesAt {𝓤 = 𝓤} 𝓛 κs p s r = all 𝓤 (λ (last : List ℕ). all 𝓤 (λ (q : Share).
    wand 𝓤 (sep 𝓤 (sem 𝓛 (finally u8 r.ghost_name last)) (𝓛.A.lft κs.0 q))
    (𝓛.H.⇛ (sep 𝓤 (sem 𝓛 (finally u8 s.ghost_name (put_at p last s.now))) (𝓛.A.lft κs.0 q)))))

abbrev pub Ties : {M : Type 1} {𝓤 : Ura M} (𝓛 : Logic 𝓤) → Lfts 1 → Said Part → MutBor (List ℕ) → MutBor (List ℕ) → SProp 𝓤
Ties 𝓛 κs range s r = TiesAt 𝓛 κs (placed range (length s.now)) s r

-- The same in the library's words, and stronger: whoever learns what the part r holds last learns what s holds last, with no token shown
-- and at once (proofs/Lending.antt, `ties`).
abbrev pub LendsAt : Span → MutBor (List ℕ) → MutBor (List ℕ) → Fml
LendsAt p s r = Lends (Array u8 0) (Array u8 0) s r (λ last. put_at p last s.now)

abbrev pub LendsPart : Said Part → MutBor (List ℕ) → MutBor (List ℕ) → Fml
LendsPart range s r = Lends (Array u8 0) (Array u8 0) s r (λ last. put_at (placed range (length s.now)) last s.now)
