-- An entry of an authorization area, part by part: what is read stands at its place as the layout of what was told, and a layout that
-- stands at a place is read as what was laid out.
-- Assumes nothing.
use mathlib.Core.Path.{◌≡◌, subst, sym, ◌∙◌, ap}
use mathlib.Core.List.{List, [], ◌∷◌, ◌++◌}
use Prim.Native.Nat.{ℕ, ◌+◌, ◌-◌, ◌^◌, ◌≤◌, ◌<◌}
use native.Mathlib.Omega.{arith}
use borrow.Author.Tests.{le-leb, leb-true}
use lib.Dec.{leb}
use lib.ListN.{length, take, drop, length-append}
use Rattle.base.specs.declared.error.Area.TheVariants.{Authorization}
use Rattle.base.specs.Bytes.{AreBytes, number, bytes}
use Rattle.base.specs.Field.{read_field}
use Rattle.base.specs.Said.{gives}
use Rattle.base.specs.Tpm2b.{tpm2b}
use Rattle.base.proofs.Bytes.{length_bytes, number_bytes, bytes_number, number_lt, one_byte, are_bytes_take, are_bytes_drop}
use Rattle.base.proofs.Checks.{needs_gives, then_gives, then_within, gives_injective}
use Rattle.base.proofs.Places.{At, at_moved, at_first, at_second, at_both, at_read, length_read}
use Rattle.base.proofs.Tpm2b.{length_tpm2b}
use Rattle.frame.specs.declared.session.Session.{Session}
use Rattle.frame.specs.Layout.{Entry, layout_entry, WholeEntry}
use Rattle.frame.specs.Parts.{entry_in, NoLonger, Kept}
use Rattle.frame.specs.Walk.{read_tpm2b, read_signed, read_entry, behind}

-- ---- a number of w bytes

module _ (w : ℕ) (s : List ℕ) (place : ℕ) where
  pub field_sound : {n : ℕ} → AreBytes s → place ≤ length s → read_field w place s ≡ gives n → At s place (bytes w n) × (n < 256 ^ w)
  field_sound {n} b h e =
      let whole = needs_gives (leb w (length s - place)) _ _ e in
      let fits = leb-true w (length s - place) whole.0 in
      let inside : place + w ≤ length s = omega arith in
      let t : List ℕ = take w (drop place s) in
      let are : AreBytes t = are_bytes_take w (drop place s) (are_bytes_drop place s b) in
      let long : length t ≡ w = length_read s place w inside in
      let is : number t ≡ n = gives_injective whole.1 in
      let same : t ≡ bytes w n = sym (bytes_number t are) ∙ (λ i. bytes (long i) (is i)) in
      (subst (At s place) same (at_read s place w inside), subst (λ (m : ℕ). m < 256 ^ w) is (rw long at (number_lt t are)))

  pub field_complete : (n : ℕ) → n < 256 ^ w → At s place (bytes w n) → read_field w place s ≡ gives n
  field_complete n h a =
      let inside : place + w ≤ length s = rw length_bytes at a.inside in
      let there : take w (drop place s) ≡ bytes w n = rw length_bytes at a.there in
      simp (le-leb w (length s - place) (omega arith)) (ap gives (ap number there ∙ number_bytes w n h))

-- ---- a TPM2B within a limit

module _ (limit : ℕ) (s : List ℕ) (place : ℕ) where
  -- what is read is the size, it is within the limit, and that many bytes stand behind it
  pub tpm2b_fits : {n : ℕ} → read_tpm2b limit s place ≡ gives n → (read_field 2 place s ≡ gives n) × (place + 2 + n ≤ length s) × (n ≤ limit)
  unfolding read_tpm2b
  tpm2b_fits {n} e =
      let size = then_within Authorization (read_field 2 place s) _ e in
      let short = needs_gives (leb size.0 limit) _ _ size.2 in
      let whole = needs_gives (leb (2 + size.0) (length s - place)) _ _ short.1 in
      let within = leb-true size.0 limit short.0 in
      let fits = leb-true (2 + size.0) (length s - place) whole.0 in
      let is : size.0 ≡ n = gives_injective whole.1 in
      (size.1 ∙ ap gives is, omega arith, omega arith)

  pub tpm2b_sound : {n : ℕ} → AreBytes s → read_tpm2b limit s place ≡ gives n
      → At s place (tpm2b (take n (drop (place + 2) s))) × (n < 65536) × (n ≤ limit)
  tpm2b_sound {n} b e =
      let fits = tpm2b_fits e in
      let inside = fits.1 in
      let size = field_sound 2 s place b (omega arith) fits.0 in
      let t : List ℕ = take n (drop (place + 2) s) in
      let long : length t ≡ n = length_read s (place + 2) n inside in (
        at_both {x = bytes 2 (length t)} {y = t} (rw long size.0) (rw length_bytes (at_read s (place + 2) n inside)),
        size.1,
        fits.2,
      )

  -- by another limit, that the size is within, it is read the same
  pub tpm2b_by : (other : ℕ) {n : ℕ} → read_tpm2b limit s place ≡ gives n → n ≤ other → read_tpm2b other s place ≡ gives n
  unfolding read_tpm2b
  tpm2b_by other {n} e few =
      let fits = tpm2b_fits e in
      let inside = fits.1 in
      rw fits.0 (simp (le-leb n other few, le-leb (2 + n) (length s - place) (omega arith)))

  pub tpm2b_complete : (t : List ℕ) → length t < 65536 → length t ≤ limit → At s place (tpm2b t)
      → (read_tpm2b limit s place ≡ gives (length t)) × (take (length t) (drop (place + 2) s) ≡ t)
  unfolding read_tpm2b
  tpm2b_complete t h few a =
      let inside : place + (2 + length t) ≤ length s = rw length_tpm2b at a.inside in
      let size = field_complete 2 s place (length t) h (at_first (bytes 2 (length t)) t a) in
      let there = at_second (bytes 2 (length t)) t a in
      (rw size (simp (le-leb (length t) limit few, le-leb (2 + length t) (length s - place) (omega arith))), rw length_bytes at there.there)

-- ---- an entry

pub length_entry : (width : ℕ) (x : Entry) → length (layout_entry width x) ≡ width + length x.nonce + length x.hmac + 5
length_entry width x = simp (length-append, length_bytes) (omega arith)

-- the entry that is told at a place stands there, ends where it says, and is whole
pub record Stands (limit width : ℕ) (s : List ℕ) (place : ℕ) (e : Session) : Type 0 where
  pub there : At s place (layout_entry width (entry_in s e))
  pub ends : place + length (layout_entry width (entry_in s e)) ≡ behind e
  pub whole : WholeEntry limit width (entry_in s e)

module _ (limit width : ℕ) (s : List ℕ) (place : ℕ) where
  abbrev told : ℕ → ℕ → ℕ → ℕ → Session
  told handle nonce attributes hmac = record {
    handle = handle;
    nonce = record { at = place + width + 2; size = nonce };
    attributes = attributes;
    hmac = record { at = place + width + 2 + nonce + 1 + 2; size = hmac };
  }

  -- the readings that make up that of an entry
  record Read (e : Session) : Type 0 where
    handle : ℕ
    nonce : ℕ
    attributes : ℕ
    hmac : ℕ
    handle_read : read_field width place s ≡ gives handle
    nonce_read : read_tpm2b limit s (place + width) ≡ gives nonce
    attributes_read : read_field 1 (place + width + 2 + nonce) s ≡ gives attributes
    hmac_read : read_tpm2b limit s (place + width + 2 + nonce + 1) ≡ gives hmac
    is_told : told handle nonce attributes hmac ≡ e

  entry_read : {e : Session} → read_entry limit width s place ≡ gives e → Read e
  unfolding read_entry read_signed
  entry_read e =
      let h = then_within Authorization (read_field width place s) _ e in
      let n = then_gives (read_tpm2b limit s (place + width)) _ h.2 in
      let a = then_within Authorization (read_field 1 (place + width + 2 + n.0) s) _ n.2 in
      let m = then_gives (read_tpm2b limit s (place + width + 2 + n.0 + 1)) _ a.2 in
      record {
        handle = h.0;
        nonce = n.0;
        attributes = a.0;
        hmac = m.0;
        handle_read = h.1;
        nonce_read = n.1;
        attributes_read = a.1;
        hmac_read = m.1;
        is_told = gives_injective m.2;
      }

  -- an entry that is read starts before the end
  pub entry_starts : {e : Session} → read_entry limit width s place ≡ gives e → place < length s
  entry_starts e =
      let r = entry_read e in
      let inside = (tpm2b_fits limit s (place + width) r.nonce_read).1 in
      omega arith

  -- and ends behind its start
  pub entry_behind : {e : Session} → read_entry limit width s place ≡ gives e → place ≤ behind e
  entry_behind e = let r = entry_read e in subst (λ (x : Session). place ≤ behind x) r.is_told (omega arith)

  -- its nonce and its HMAC are within the limit, and stay inside
  pub entry_inside : {e : Session} → read_entry limit width s place ≡ gives e
      → Kept limit (length s) e.nonce × Kept limit (length s) e.hmac
  entry_inside e =
      let r = entry_read e in
      let n = tpm2b_fits limit s (place + width) r.nonce_read in
      let m = tpm2b_fits limit s (place + width + 2 + r.nonce + 1) r.hmac_read in
      subst (λ (e : Session). Kept limit (length s) e.nonce × Kept limit (length s) e.hmac) r.is_told ((n.2, n.1), (m.2, m.1))

  -- by another limit, that both are within, it is read the same
  pub entry_by : (other : ℕ) {e : Session} → read_entry limit width s place ≡ gives e → NoLonger other e.nonce → NoLonger other e.hmac
      → read_entry other width s place ≡ gives e
  unfolding read_entry read_signed
  entry_by other {e} read few less =
      let r = entry_read read in
      let nonce_is : r.nonce ≡ e.nonce.size = ap (λ (e : Session). e.nonce.size) r.is_told in
      let hmac-is : r.hmac ≡ e.hmac.size = ap (λ (e : Session). e.hmac.size) r.is_told in
      let nonce = tpm2b_by limit s (place + width) other r.nonce_read (omega arith) in
      let hmac = tpm2b_by limit s (place + width + 2 + r.nonce + 1) other r.hmac_read (omega arith) in
      rw (r.handle_read, nonce, r.attributes_read, hmac) (ap gives r.is_told)

  pub entry_sound : {e : Session} → AreBytes s → place ≤ length s → read_entry limit width s place ≡ gives e → Stands limit width s place e
  entry_sound b h e =
      let r = entry_read e in
      let p = place + width in
      let q = p + 2 + r.nonce in
      let x = entry_in s (told r.handle r.nonce r.attributes r.hmac) in
      let few = (tpm2b_fits limit s p r.nonce_read).1 in
      let less = (tpm2b_fits limit s (q + 1) r.hmac_read).1 in
      let handle = field_sound width s place b h r.handle_read in
      let nonce = tpm2b_sound limit s p b r.nonce_read in
      let attributes = field_sound 1 s q b (omega arith) r.attributes_read in
      let hmac = tpm2b_sound limit s (q + 1) b r.hmac_read in
      let long : length x.nonce ≡ r.nonce = length_read s (p + 2) r.nonce few in
      let wide : length x.hmac ≡ r.hmac = length_read s (q + 1 + 2) r.hmac less in
      let size = length_tpm2b x.nonce in
      let byte : At s q (r.attributes ∷ []) = rw (one_byte r.attributes attributes.1) attributes.0 in
      let last : At s q (r.attributes ∷ tpm2b x.hmac) = at_both byte hmac.0 in
      let next : At s p (tpm2b x.nonce ++ (r.attributes ∷ tpm2b x.hmac)) = at_both nonce.0 (at_moved (omega arith) last) in
      subst (Stands limit width s place) r.is_told (record {
        there = at_both handle.0 (rw length_bytes next);
        ends = rw length_entry (omega arith);
        whole = (
          handle.1,
          (are_bytes_take r.nonce _ (are_bytes_drop (p + 2) s b), rw long nonce.1, rw long nonce.2),
          attributes.1,
          (are_bytes_take r.hmac _ (are_bytes_drop (q + 1 + 2) s b), rw wide hmac.1, rw wide hmac.2),
        );
      })

  pub entry_complete : (x : Entry) → WholeEntry limit width x → At s place (layout_entry width x)
      → (e : Session) × (read_entry limit width s place ≡ gives e) × (entry_in s e ≡ x) × (place + length (layout_entry width x) ≡ behind e)
  unfolding read_entry read_signed
  entry_complete x w a =
      let p = place + width in
      let q = p + 2 + length x.nonce in
      let n = tpm2b x.nonce in
      let m = tpm2b x.hmac in
      let size = length_tpm2b x.nonce in
      let next : At s p (n ++ (x.attributes ∷ m)) = rw length_bytes at (at_second (bytes width x.handle) (n ++ (x.attributes ∷ m)) a) in
      let last : At s q (x.attributes ∷ m) = at_moved (omega arith) (at_second n (x.attributes ∷ m) next) in
      let byte = at_first (x.attributes ∷ []) m last in
      let handle = field_complete width s place x.handle w.0 (at_first (bytes width x.handle) _ a) in
      let nonce = tpm2b_complete limit s p x.nonce w.1.1 w.1.2 (at_first n _ next) in
      let attributes = field_complete 1 s q x.attributes w.2 (rw (← one_byte x.attributes w.2) byte) in
      let hmac = tpm2b_complete limit s (q + 1) x.hmac w.3.1 w.3.2 (at_second (x.attributes ∷ []) m last) in (
        told x.handle (length x.nonce) x.attributes (length x.hmac),
        rw (handle, nonce.0, attributes, hmac.0),
        (λ i. record { handle = x.handle; nonce = nonce.1 i; attributes = x.attributes; hmac = hmac.1 i }),
        rw length_entry (omega arith),
      )
