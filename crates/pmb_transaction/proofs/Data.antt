-- The data of a form, read back from the bytes after a code, with whether a packet error code
-- follows them. For the law `one_transaction`, by Telling, and for simulated devices
-- (`pmb_devices`) and exchanges (`pmb_exchange`). The form, or the count of a block, says how many
-- bytes there are; one more is the code.
use Rattle.std.proofs.Common.{◌≡◌, ℕ, Bool, true, false, Option, Some, None, List, [], ◌∷◌, ◌++◌, length, take, drop}
use Rattle.std.proofs.Common.{refl, sym, ap, ◌∙◌, arith}
use Rattle.std.proofs.lemmas.List.{append-nil, take_at, drop_at}
use Rattle.pmb_bus.specs.Pec.{pec}
use Rattle.pmb_command.specs.declared.form.Form.{Form}
use Rattle.pmb_command.specs.declared.form.Form.TheVariants.{Zero, One, Two, Four, Eight, Block}
use Rattle.pmb_command.specs.Fitting.{same_form}
use Rattle.pmb_command.specs.Wire.{Fits, wire}
use Rattle.pmb_transaction.specs.Body.{checked}

-- data, and whether a packet error code follows them
pub record Data : Type 0 where
  pub bytes : List ℕ
  pub pec : Bool

-- whether there is a byte
abbrev pub has_some : List ℕ → Bool
has_some [] = false
has_some (b ∷ bytes) = true

-- n bytes of data
abbrev data_at : ℕ → List ℕ → Data
data_at n bytes = record { bytes = take n bytes; pec = has_some (drop n bytes) }

-- the data of a form
abbrev pub data_of : Option Form → List ℕ → Data
data_of None bytes = record { bytes = []; pec = false }
data_of (Some Zero) bytes = data_at 0 bytes
data_of (Some One) bytes = data_at 1 bytes
data_of (Some Two) bytes = data_at 2 bytes
data_of (Some Four) bytes = data_at 4 bytes
data_of (Some Eight) bytes = data_at 8 bytes
data_of (Some Block) [] = record { bytes = []; pec = false }
data_of (Some Block) (count ∷ bytes) = data_at count bytes

data_at_end : (n : ℕ) (bytes more : List ℕ) → length bytes ≡ n
    → data_at n (bytes ++ more) ≡ record { bytes = bytes; pec = has_some more }
data_at_end n bytes more long =
    let front : take n (bytes ++ more) ≡ bytes = take_at bytes more n long in
    let back : drop n (bytes ++ more) ≡ more = drop_at bytes more n long in
    cc (front, back)

-- what is after the data tells whether a code follows them
data_before : (form : Form) (bytes more : List ℕ) → Fits form bytes → data_of (Some form) (wire form bytes ++ more)
    ≡ record { bytes = bytes; pec = has_some more }
data_before Zero bytes more fits = data_at_end 0 bytes more fits.taken
data_before One bytes more fits = data_at_end 1 bytes more fits.taken
data_before Two bytes more fits = data_at_end 2 bytes more fits.taken
data_before Four bytes more fits = data_at_end 4 bytes more fits.taken
data_before Eight bytes more fits = data_at_end 8 bytes more fits.taken
data_before Block bytes more fits = data_at_end (length bytes) bytes more refl

-- the packet error code that may follow bytes
abbrev pub code_behind : Bool → List ℕ → List ℕ → List ℕ
code_behind false before bytes = []
code_behind true before bytes = pec (before ++ bytes) ∷ []

pub checked_is : (with_pec : Bool) (before bytes : List ℕ) → checked with_pec before bytes ≡ bytes
    ++ code_behind with_pec before bytes
checked_is false before bytes = sym (append-nil bytes)
checked_is true before bytes = refl

has_code_behind : (with_pec : Bool) (before bytes : List ℕ) → has_some (code_behind with_pec before bytes) ≡ with_pec
has_code_behind false before bytes = refl
has_code_behind true before bytes = refl

-- the data with the code that covers some bytes, read back
pub data_with_code : (form : Form) (bytes : List ℕ) (with_pec : Bool) (before covered : List ℕ) → Fits form bytes
    → data_of (Some form) (wire form bytes ++ code_behind with_pec before covered)
    ≡ record { bytes = bytes; pec = with_pec }
data_with_code form bytes with_pec before covered fits =
    data_before form bytes (code_behind with_pec before covered) fits
    ∙ ap (λ (b : Bool). record { bytes = bytes; pec = b }) (has_code_behind with_pec before covered)

-- the data alone, read back
pub data_alone : (form : Form) (bytes : List ℕ) → Fits form bytes → data_of (Some form) (wire form bytes)
    ≡ record { bytes = bytes; pec = false }
data_alone form bytes fits = ap (data_of (Some form)) (sym (append-nil (wire form bytes)))
    ∙ data_before form bytes [] fits

-- data of another form than Zero have a byte on the bus
pub first_byte : (form : Form) (bytes : List ℕ) → Fits form bytes → same_form form Zero ≡ false
    → (b : ℕ) × (more : List ℕ) × (wire form bytes ≡ b ∷ more)
first_byte Block bytes fits some = (length bytes, bytes, refl)
first_byte Zero bytes fits some = absurd (cc some)
first_byte One [] fits some = absurd (omega (arith, fits.taken))
first_byte Two [] fits some = absurd (omega (arith, fits.taken))
first_byte Four [] fits some = absurd (omega (arith, fits.taken))
first_byte Eight [] fits some = absurd (omega (arith, fits.taken))
first_byte One (b ∷ bytes) fits some = (b, bytes, refl)
first_byte Two (b ∷ bytes) fits some = (b, bytes, refl)
first_byte Four (b ∷ bytes) fits some = (b, bytes, refl)
first_byte Eight (b ∷ bytes) fits some = (b, bytes, refl)
