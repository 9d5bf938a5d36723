-- The bytes of a form's data before others, and where they end. For `DataLeft::start`, `take_code`,
-- `take_data` and `Answer::take`, by Lefts. The form says how many bytes there are, or a block's
-- count does, so two data at the front of the same bytes are one.
use Rattle.std.proofs.Common.{◌≡◌, ℕ, ◌+◌, ◌<◌, zero, suc, Bool, true, false, List, [], ◌∷◌, ◌++◌, length, replicate}
use Rattle.std.proofs.Common.{refl, sym, ap, ◌∙◌, arith, length-append}
use Rattle.std.proofs.lemmas.List.{append-nil, length-replicate}
use Rattle.pmb_bus.specs.Pec.{pec}
use Rattle.pmb_command.specs.declared.form.Form.{Form}
use Rattle.pmb_command.specs.declared.form.Form.TheVariants.{Zero, One, Two, Four, Eight, Block}
use Rattle.pmb_command.specs.Wire.{AreByteValues, Fits, Takes, wire}
use Rattle.pmb_transaction.specs.Body.{checked}
use Rattle.pmb_leg.specs.machine.DataLeft.{wire_front}

-- two lists end to end, the first ones of which are as long
same_fronts : (a b x y : List ℕ) → length a ≡ length b → a ++ x ≡ b ++ y → (a ≡ b) × (x ≡ y)
same_fronts [] [] x y long same = (refl, same)
same_fronts [] (e ∷ b) x y long same = absurd (omega arith)
same_fronts (e ∷ a) [] x y long same = absurd (omega arith)
same_fronts (e ∷ a) (f ∷ b) x y long same =
    let first : e ≡ f = cc same in
    let behind : a ++ x ≡ b ++ y = cc same in
    let rest = same_fronts a b x y (omega (arith, long)) behind in
    let same_front : a ≡ b = rest.0 in
    (cc (first, same_front), rest.1)

-- a wire tells where it ends
pub one_wire : (form : Form) (a b x y : List ℕ) → Fits form a → Fits form b → wire form a ++ x ≡ wire form b ++ y
    → (a ≡ b) × (x ≡ y)
one_wire Zero a b x y fits others same = same_fronts a b x y (fits.taken ∙ sym others.taken) same
one_wire One a b x y fits others same = same_fronts a b x y (fits.taken ∙ sym others.taken) same
one_wire Two a b x y fits others same = same_fronts a b x y (fits.taken ∙ sym others.taken) same
one_wire Four a b x y fits others same = same_fronts a b x y (fits.taken ∙ sym others.taken) same
one_wire Eight a b x y fits others same = same_fronts a b x y (fits.taken ∙ sym others.taken) same
one_wire Block a b x y fits others same =
    let counts : length a ≡ length b = cc same in
    let behind : a ++ x ≡ b ++ y = cc same in
    same_fronts a b x y counts behind

-- where data are missing no wire has ended
pub not_ended : (form : Form) (front : List ℕ) (n : ℕ) (a x : List ℕ) → 0 < n → Takes form (length front + n)
    → Fits form a
    → wire_front form (length front + n) front ≡ wire form a ++ x → ⊥
not_ended Zero front n a x some taken fits same = omega (arith, fits.taken, length-append a x, ap length same)
not_ended One front n a x some taken fits same = omega (arith, fits.taken, length-append a x, ap length same)
not_ended Two front n a x some taken fits same = omega (arith, fits.taken, length-append a x, ap length same)
not_ended Four front n a x some taken fits same = omega (arith, fits.taken, length-append a x, ap length same)
not_ended Eight front n a x some taken fits same = omega (arith, fits.taken, length-append a x, ap length same)
not_ended Block front n a x some taken fits same =
    let counts : length front + n ≡ length a = cc same in
    let behind : front ≡ a ++ x = cc same in
    omega (arith, length-append a x, ap length behind)

-- data, by their first bytes and the rest
pub wire_of_front : (form : Form) (front rest : List ℕ) (n : ℕ) → length (front ++ rest) ≡ n
    → wire form (front ++ rest) ≡ wire_front form n front ++ rest
wire_of_front Zero front rest n long = refl
wire_of_front One front rest n long = refl
wire_of_front Two front rest n long = refl
wire_of_front Four front rest n long = refl
wire_of_front Eight front rest n long = refl
wire_of_front Block front rest n long = ap (λ (m : ℕ). m ∷ front ++ rest) long

pub front_push : (form : Form) (n : ℕ) (front : List ℕ) (byte : ℕ) → wire_front form n front ++ byte ∷ []
    ≡ wire_front form n (front ++ byte ∷ [])
front_push Zero n front byte = refl
front_push One n front byte = refl
front_push Two n front byte = refl
front_push Four n front byte = refl
front_push Eight n front byte = refl
front_push Block n front byte = refl

-- as many bytes as a form takes are its data
pub data_fit : (form : Form) (bytes : List ℕ) (n : ℕ) → AreByteValues bytes → length bytes ≡ n → Takes form n
    → Fits form bytes
data_fit Zero bytes n small long taken = record { small = small; taken = long ∙ taken }
data_fit One bytes n small long taken = record { small = small; taken = long ∙ taken }
data_fit Two bytes n small long taken = record { small = small; taken = long ∙ taken }
data_fit Four bytes n small long taken = record { small = small; taken = long ∙ taken }
data_fit Eight bytes n small long taken = record { small = small; taken = long ∙ taken }
data_fit Block bytes n small long taken = record { small = small; taken = omega (arith, long, taken) }

-- bytes one after the other
pub small_append : (a b : List ℕ) → AreByteValues a → AreByteValues b → AreByteValues (a ++ b)
small_append [] b first second = second
small_append (x ∷ a) b first second = (first.0, small_append a b first.1 second)

-- some bytes, where others are missing
pub zeros : ℕ → List ℕ
zeros n = replicate n 0

pub small_zeros : (n : ℕ) → AreByteValues (zeros n)
unfolding zeros
small_zeros zero = tt
small_zeros (suc n) = (omega arith, small_zeros n)

pub length_zeros : (n : ℕ) → length (zeros n) ≡ n
unfolding zeros
length_zeros n = length-replicate {A = ℕ} n 0

-- the packet error code that may stand after bytes
abbrev pub code_behind : Bool → List ℕ → List ℕ → List ℕ
code_behind false before bytes = []
code_behind true before bytes = pec (before ++ bytes) ∷ []

pub checked_is : (with_pec : Bool) (before bytes : List ℕ) → checked with_pec before bytes ≡ bytes
    ++ code_behind with_pec before bytes
checked_is false before bytes = sym (append-nil bytes)
checked_is true before bytes = refl
