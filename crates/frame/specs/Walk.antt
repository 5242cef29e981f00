-- The walk over the entries of an area that ends where s does (document 01, "Walk"; document 02, W6). The entries of a command start with a handle
-- of 4 bytes, those of a response with one of none: width is that count.
-- Assumes nothing: these are definitions.
use Rattle.std.specs.Prelude.{ℕ, zero, suc, ◌+◌, ◌-◌, cond, List, [], ◌∷◌, leb, length, get_or}
use Rattle.base.specs.declared.error.Area.TheVariants.{Authorization}
use Rattle.base.specs.Field.{read_field}
use Rattle.base.specs.Said.{in_area, Said, gives, needs, then, within}
use Rattle.frame.specs.declared.session.Session.{Session}
use Rattle.frame.specs.declared.session.Entries.{Entries}

-- the place behind an entry
abbrev pub behind : Session → ℕ
behind e = e.hmac.at + e.hmac.size

-- the size of the TPM2B at a place: it is within a limit, and stands whole in what is left
unfoldable pub read_tpm2b : ℕ → List ℕ → ℕ → Said ℕ
read_tpm2b limit s place =
    then (within Authorization (read_field 2 place s)) λ size.
    needs (leb size limit) (in_area Authorization (8 ∷ place ∷ limit ∷ size ∷ []))
    (needs (leb (2 + size) (length s - place)) (in_area Authorization (1 ∷ place ∷ (2 + size) ∷ (length s - place) ∷ []))
    (gives size))

-- for nonces and HMACs of at most so many bytes
module _ (limit : ℕ) where
  -- what every entry has: nonce, attribute byte, HMAC
  unfoldable pub read_signed : ℕ → List ℕ → ℕ → Said Session
  read_signed handle s place =
      then (read_tpm2b limit s place) λ nonce.
      then (within Authorization (read_field 1 (place + 2 + nonce) s)) λ attributes.
      then (read_tpm2b limit s (place + 2 + nonce + 1)) λ hmac.
      gives (record {
        handle = handle;
        nonce = record { at = place + 2; size = nonce };
        attributes = attributes;
        hmac = record { at = place + 2 + nonce + 1 + 2; size = hmac };
      })

  -- an entry: the handle before it
  unfoldable pub read_entry : ℕ → List ℕ → ℕ → Said Session
  read_entry width s place = then (within Authorization (read_field width place s)) λ handle. read_signed handle s (place + width)

  -- the entries from a place on, of which at most k more may come
  unfoldable pub walk : ℕ → ℕ → List ℕ → ℕ → Said (List Session)
  walk zero width s place = needs (leb (length s) place) (in_area Authorization (6 ∷ place ∷ 3 ∷ 4 ∷ [])) (gives [])
  walk (suc k) width s place =
      cond (leb (length s) place) (gives [])
      (then (read_entry width s place) λ e.
      then (walk k width s (behind e)) λ es.
      gives (e ∷ es))

-- ---- the entries by value: how many, and the first three

abbrev pub none : Session
none = record { handle = 0; nonce = record { at = 0; size = 0 }; attributes = 0; hmac = record { at = 0; size = 0 } }

abbrev pub by_value : List Session → Entries
by_value es = record { count = length es; first = get_or es 0 none; second = get_or es 1 none; third = get_or es 2 none }
