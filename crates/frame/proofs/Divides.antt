-- A reading of bytes and a layout of parts that are each other's inverse, whatever they read: which bytes pass, that no bytes
-- divide two ways, and when two readings are equal.
-- Assumes nothing.
use mathlib.Core.Path.{◌≡◌, refl, sym, ◌∙◌, ap, subst}
use mathlib.Core.List.{List}
use mathlib.Core.Logic.{◌↔◌}
use Prim.Native.Nat.{ℕ}
use Rattle.std.specs.Prelude.{Result, Ok}
use Rattle.base.specs.declared.error.TpmError.{TpmError}
use Rattle.base.specs.Answer.{said}
use Rattle.base.specs.Bytes.{AreBytes}
use Rattle.base.specs.Said.{Said, gives, refuses, then, done}
use Rattle.base.proofs.Answers.{said_injective}
use Rattle.base.proofs.Checks.{gives_injective, then_gives, goes_on, done_gives}

-- what a reading gives of some bytes tells parts, and parts have a layout
pub record Divides {D F : Type 0} (read : List ℕ → Said D) (parts : List ℕ → D → F) (layout : F → List ℕ) (Formed : F → Type 0) : Type 0 where
  -- bytes pass exactly when they are the layout of well-formed parts
  pub exactly : (s : List ℕ) → AreBytes s → ((d : D) × (read s ≡ gives d)) ↔ ((f : F) × Formed f × (layout f ≡ s))
  -- the parts that were laid out are those read
  pub parts_read : (f : F) → Formed f → (d : D) × (read (layout f) ≡ gives d) × (parts (layout f) d ≡ f)
  -- the parts read are well formed, and laid out again they are the same bytes
  pub again : (s : List ℕ) → AreBytes s → (d : D) → read s ≡ gives d → Formed (parts s d) × (layout (parts s d) ≡ s)
  -- no bytes divide two ways
  pub one_division : (f g : F) → Formed f → Formed g → layout f ≡ layout g → f ≡ g
  -- two that pass have equal parts exactly when they have equal bytes
  pub equal : (s t : List ℕ) → AreBytes s → AreBytes t → (d e : D) → read s ≡ gives d → read t ≡ gives e
      → (parts s d ≡ parts t e) ↔ (s ≡ t)

-- ---- all five from two of them

module _ {D F : Type 0} (read : List ℕ → Said D) (parts : List ℕ → D → F) (layout : F → List ℕ) (Formed : F → Type 0)
    (sound : (s : List ℕ) → AreBytes s → (d : D) → read s ≡ gives d → Formed (parts s d) × (layout (parts s d) ≡ s))
    (complete : (f : F) → Formed f → (d : D) × (read (layout f) ≡ gives d) × (parts (layout f) d ≡ f)) where
  pub divides : Divides read parts layout Formed
  divides = record {
    exactly = λ s p. (
      (λ r. let f = sound s p r.0 r.1 in (parts s r.0, f.0, f.1)),
      (λ r. let c = complete r.0 r.1 in (c.0, ap read (sym r.2) ∙ c.1)),
    );
    parts_read = complete;
    again = sound;
    one_division = λ f g v w e.
        let c = complete f v in
        let d = complete g w in
        let same : c.0 ≡ d.0 = gives_injective (sym c.1 ∙ ap read e ∙ d.1) in
        sym c.2 ∙ (λ i. parts (e i) (same i)) ∙ d.2;
    equal = λ s t p q d e r u. (
      (λ same. sym (sound s p d r).1 ∙ ap layout same ∙ (sound t q e u).1),
      (λ same. let both : d ≡ e = gives_injective (sym r ∙ ap read same ∙ u) in λ i. parts (same i) (both i)),
    );
  }

-- ---- a reading by value, which tells the parts that the division told

module _ {D B F : Type 0} (read : List ℕ → Said D) (parts : List ℕ → D → F) (layout : F → List ℕ) (Formed : F → Type 0)
    (value : List ℕ → D → B) (told : List ℕ → B → F) (same : (s : List ℕ) (d : D) → read s ≡ gives d → told s (value s d) ≡ parts s d) where
  abbrev valued : List ℕ → Said B
  valued s = then (read s) λ d. gives (value s d)

  pub divides_by_value : ((s : List ℕ) → AreBytes s → (d : D) → read s ≡ gives d → Formed (parts s d) × (layout (parts s d) ≡ s))
      → ((f : F) → Formed f → (d : D) × (read (layout f) ≡ gives d) × (parts (layout f) d ≡ f))
      → Divides valued told layout Formed
  divides_by_value sound complete =
      divides valued told layout Formed
      (λ s p v e.
      let r = then_gives (read s) _ e in
      let is : parts s r.0 ≡ told s v = sym (same s r.0 r.1) ∙ ap (told s) (gives_injective r.2) in
      subst (λ (f : F). Formed f × (layout f ≡ s)) is (sound s p r.0 r.1))
      (λ f w.
      let c = complete f w in (
        value (layout f) c.0,
        sym (goes_on (read (layout f)) _ (sym c.1)),
        same (layout f) c.0 c.1 ∙ c.2,
      ))

-- ---- the answers of calls that go by such a reading

-- an answer on the bytes s that can give a value: what it gives tells well-formed parts that are laid out as s, and where such parts are
-- laid out as s it gives what tells them
pub record Tells {B F E : Type 0} (is : B → E) (parts : List ℕ → B → F) (layout : F → List ℕ) (Formed : F → Type 0) (s : List ℕ) (x : E) : Type 0 where
  pub well_formed : (v : B) → x ≡ is v → Formed (parts s v) × (layout (parts s v) ≡ s)
  pub laid_out : (f : F) → Formed f → layout f ≡ s → (v : B) × (x ≡ is v) × (parts s v ≡ f)

module _ {B F : Type 0} {read : List ℕ → Said B} {parts : List ℕ → B → F} {layout : F → List ℕ} {Formed : F → Type 0}
    (d : Divides read parts layout Formed) (s : List ℕ) (p : AreBytes s) where
  pub tells : {E : Type 0} (said : E → Said B) (is : B → E) → ((v : B) → said (is v) ≡ gives v) → ((a b : E) → said a ≡ said b → a ≡ b)
      → (x : E) → said x ≡ read s → Tells is parts layout Formed s x
  tells said is said-is injective x e = record {
    well_formed = λ v given. d.again s p v (sym e ∙ ap said given ∙ said-is v);
    laid_out = λ f w laid.
        let c = d.parts_read f w in (
          c.0,
          injective x (is c.0) (e ∙ ap read (sym laid) ∙ c.1 ∙ sym (said-is c.0)),
          ap (λ (t : List ℕ). parts t c.0) (sym laid) ∙ c.2,
        );
  }

  -- a call that only checks is done exactly when there are such parts
  pub done_exactly : (x : Result (Unit {0}) TpmError) → said x ≡ done (read s) → (x ≡ Ok tt) ↔ ((f : F) × Formed f × (layout f ≡ s))
  done_exactly x e = (
    (λ is.
        let given = done_gives (read s) (sym (ap said is) ∙ e) in
        (d.exactly s p).0 (given.0, sym given.1)),
    (λ parted.
        let given = (d.exactly s p).1 parted in
        said_injective x (Ok tt) (e ∙ ap done given.1)),
  )

-- a value of what is given does not change whether something is
pub done_valued : {D B : Type 0} (value : D → B) (said : Said D) → done said ≡ done (then said λ d. gives (value d))
done_valued value (gives d) = refl
done_valued value (refuses why) = refl
