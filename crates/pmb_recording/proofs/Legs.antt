-- The legs of a transfer, one after the other: for `put_legs`. One more stands behind a comma, unless
-- it is the first.
use Rattle.std.proofs.Common.{◌≡◌, ◌∙◌, ℕ, Bool, true, false, ◌&&◌, not, if◌then◌else◌, List, [], ◌∷◌, ◌++◌, codes}
use Rattle.std.proofs.Common.{refl, sym, ap, append_assoc, append-nil}
use Rattle.pmb_recording.specs.Told.{leg_bytes, leg_text, listed}
use Rattle.pmb_recording.specs.declared.wire_byte.WireByte.{WireByte}
use Rattle.pmb_recording.specs.machine.Texts.{leg_of, next_leg}

abbrev pub no_byte : WireByte
no_byte = record { follows_start = false; byte = 0; is_acknowledged = false }

-- none in a list
abbrev pub is_none : List ℕ → Bool
is_none [] = true
is_none (byte ∷ bytes) = false

-- one leg more
listed_more : (bytes : List ℕ) (byte : ℕ)
    → listed bytes ++ next_leg (is_none bytes) byte ≡ listed (bytes ++ byte ∷ [])
listed_more [] byte = refl
listed_more (first ∷ []) byte = refl
listed_more (first ∷ second ∷ bytes) byte =
    append_assoc (leg_text first) (codes ", " ++ listed (second ∷ bytes)) (codes ", " ++ leg_text byte)
    ∙ ap (λ (t : List ℕ). leg_text first ++ (codes ", " ++ t)) (listed_more (second ∷ bytes) byte)

-- and there are some then
some_more : (bytes : List ℕ) (byte : ℕ) → is_none (bytes ++ byte ∷ []) ≡ false
some_more [] byte = refl
some_more (first ∷ bytes) byte = refl

-- the bytes behind a START among some
abbrev starting : Bool → ℕ → List ℕ → List ℕ
starting follows byte bytes = if follows then byte ∷ bytes else bytes

starting_more : (follows : Bool) (byte : ℕ) (bytes more : List ℕ)
    → starting follows byte (bytes ++ more) ≡ starting follows byte bytes ++ more
starting_more true byte bytes more = refl
starting_more false byte bytes more = refl

-- those of one byte more
bytes_more : (wire : List WireByte) (b : WireByte) → leg_bytes (wire ++ b ∷ []) ≡ leg_bytes wire ++ leg_bytes (b ∷ [])
bytes_more [] b = refl
bytes_more (first ∷ wire) b = ap (starting first.follows_start first.byte) (bytes_more wire b)
    ∙ starting_more first.follows_start first.byte (leg_bytes wire) (leg_bytes (b ∷ []))

-- the text of the legs with that of one byte more
pub legs_more : (wire : List WireByte) (b : WireByte)
    → listed (leg_bytes wire) ++ leg_of (is_none (leg_bytes wire)) b ≡ listed (leg_bytes (wire ++ b ∷ []))
legs_more wire b = at_byte b.follows_start ∙ sym (ap listed (bytes_more wire b))
  where
    at_byte : (follows : Bool)
        → listed (leg_bytes wire) ++ (if follows then next_leg (is_none (leg_bytes wire)) b.byte else [])
        ≡ listed (leg_bytes wire ++ starting follows b.byte [])
    at_byte true = listed_more (leg_bytes wire) b.byte
    at_byte false = append-nil _ ∙ sym (ap listed (append-nil (leg_bytes wire)))

-- whether there is a leg then
pub none_more : (wire : List WireByte) (b : WireByte)
    → (is_none (leg_bytes wire) && not b.follows_start) ≡ is_none (leg_bytes (wire ++ b ∷ []))
none_more wire b = at_byte b.follows_start ∙ sym (ap is_none (bytes_more wire b))
  where
    none : (bytes : List ℕ) → (is_none bytes && true) ≡ is_none (bytes ++ [])
    none [] = refl
    none (byte ∷ bytes) = refl

    some : (bytes : List ℕ) → (is_none bytes && false) ≡ is_none (bytes ++ b.byte ∷ [])
    some [] = refl
    some (byte ∷ bytes) = refl

    at_byte : (follows : Bool) → (is_none (leg_bytes wire) && not follows)
        ≡ is_none (leg_bytes wire ++ starting follows b.byte [])
    at_byte true = some (leg_bytes wire)
    at_byte false = none (leg_bytes wire)
