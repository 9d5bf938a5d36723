-- The data of a form at the front of bytes, and the packet error code after them. For `whole_data`
-- and `data_from` of `src/checked.rt`, and `are_data`, `go_on` and `keep_refused`. The form, or the
-- count of a block, says how many bytes they are (`wire_length`), so bytes of that number are data,
-- and what is after them is the code or nothing.
use Rattle.std.proofs.Common.{◌≡◌, ℕ, ◌+◌, ◌<◌, ◌≤◌, zero, suc, Bool, true, false, List, [], ◌∷◌, ◌++◌, length, get_or}
use Rattle.std.proofs.Common.{take, drop, refl, sym, ap, ◌∙◌, arith, length-append}
use Rattle.std.proofs.lemmas.List.{append-nil, length-take-le, take-append-drop}
use Rattle.std.proofs.Math.Seq.{take-add, take-length, take-append_seam, drop-append_seam}
use Rattle.pmb_command.specs.declared.form.Form.{Form}
use Rattle.pmb_command.specs.declared.form.Form.TheVariants.{Zero, One, Two, Four, Eight, Block}
use Rattle.pmb_command.specs.Wire.{AreByteValues, Fits, wire, wire_length}
use Rattle.pmb_transaction.specs.Body.{checked}
use Rattle.pmb_canonical.specs.Codes.{code_behind}

pub small-take : (n : ℕ) (bytes : List ℕ) → AreByteValues bytes → AreByteValues (take n bytes)
small-take zero bytes small = tt
small-take (suc n) [] small = tt
small-take (suc n) (x ∷ bytes) small = (small.0, small-take n bytes small.1)

pub small-drop : (n : ℕ) (bytes : List ℕ) → AreByteValues bytes → AreByteValues (drop n bytes)
small-drop zero bytes small = small
small-drop (suc n) [] small = tt
small-drop (suc n) (x ∷ bytes) small = small-drop n bytes small.1

-- the items of a slice of bytes
pub small_items : (bytes : List ℕ) → ((k : ℕ) → get_or bytes k 0 < 256) → AreByteValues bytes
small_items [] small = tt
small_items (b ∷ bytes) small = (small 0, small_items bytes (λ k. small (suc k)))

-- ---- the data in front

-- The data whose wire bytes begin with.
pub record Within (form : Form) (bytes : List ℕ) : Type 0 where
  pub data_bytes : List ℕ
  pub fits : Fits form data_bytes
  pub spelled : take (wire_length form bytes) bytes ≡ wire form data_bytes

-- those of a block
block_within : (count : ℕ) (bytes : List ℕ) → count < 256 → AreByteValues bytes → count ≤ length bytes
    → Within Block (count ∷ bytes)
block_within count bytes byte small there =
    let long : length (take count bytes) ≡ count = length-take-le count bytes there in
    let next : 1 + count ≡ suc count = omega arith in
    record {
      data_bytes = take count bytes;
      fits = record { small = small-take count bytes small; taken = omega (arith, long) };
      spelled = ap (λ (n : ℕ). take n (count ∷ bytes)) next ∙ ap (λ (n : ℕ). n ∷ take count bytes) (sym long);
    }

pub within : (form : Form) (bytes : List ℕ) → AreByteValues bytes → wire_length form bytes ≤ length bytes
    → Within form bytes
-- as many bytes as the form has
within Zero bytes small there = record {
  data_bytes = take 0 bytes;
  fits =
      record { small = small-take 0 bytes small; taken = length-take-le 0 bytes there };
  spelled = refl;
}
within One bytes small there = record {
  data_bytes = take 1 bytes;
  fits =
      record { small = small-take 1 bytes small; taken = length-take-le 1 bytes there };
  spelled = refl;
}
within Two bytes small there = record {
  data_bytes = take 2 bytes;
  fits =
      record { small = small-take 2 bytes small; taken = length-take-le 2 bytes there };
  spelled = refl;
}
within Four bytes small there = record {
  data_bytes = take 4 bytes;
  fits =
      record { small = small-take 4 bytes small; taken = length-take-le 4 bytes there };
  spelled = refl;
}
within Eight bytes small there = record {
  data_bytes = take 8 bytes;
  fits =
      record { small = small-take 8 bytes small; taken = length-take-le 8 bytes there };
  spelled = refl;
}
-- a block has at least its count
within Block [] small there = absurd (omega (arith, there))
within Block (count ∷ bytes) small there = block_within count bytes small.0 small.1 (omega (arith, there))

-- those whose wire the bytes are
pub whole : (form : Form) (bytes : List ℕ) → AreByteValues bytes → wire_length form bytes ≡ length bytes
    → (data_bytes : List ℕ) × Fits form data_bytes × (bytes ≡ wire form data_bytes)
whole form bytes small long =
    let found = within form bytes small (omega (arith, long)) in
    (found.data_bytes, found.fits, sym (ap (λ (n : ℕ). take n bytes) long ∙ take-length bytes) ∙ found.spelled)

-- a wire tells its length, whatever follows
pub wire_ends : (form : Form) (data_bytes more : List ℕ) → Fits form data_bytes
    → wire_length form (wire form data_bytes ++ more) ≡ length (wire form data_bytes)
wire_ends Zero data_bytes more fits = sym fits.taken
wire_ends One data_bytes more fits = sym fits.taken
wire_ends Two data_bytes more fits = sym fits.taken
wire_ends Four data_bytes more fits = sym fits.taken
wire_ends Eight data_bytes more fits = sym fits.taken
wire_ends Block data_bytes more fits = omega arith

-- ---- the code after them

pub checked_is : (with_pec : Bool) (before bytes : List ℕ) → checked with_pec before bytes ≡ bytes
    ++ code_behind with_pec (before ++ bytes)
checked_is false before bytes = sym (append-nil bytes)
checked_is true before bytes = refl

module _ (form : Form) (bytes : List ℕ) (from : ℕ) (len : ℕ) (with_pec : Bool) (data_bytes : List ℕ) where
  -- the bytes up to the code
  covered : take len (drop from bytes) ≡ wire form data_bytes → take (from + len) bytes ≡ take from bytes
      ++ wire form data_bytes
  covered front = take-add from len bytes ∙ ap (λ (l : List ℕ). take from bytes ++ l) front

  -- the wire of data, and after it a code or none
  pub data_said : take len (drop from bytes) ≡ wire form data_bytes
      → drop len (drop from bytes) ≡ code_behind with_pec (take (from + len) bytes)
      → drop from bytes ≡ checked with_pec (take from bytes) (wire form data_bytes)
  data_said front behind =
      sym (take-append-drop len (drop from bytes))
      ∙ ap (λ (l : List ℕ). l ++ drop len (drop from bytes)) front
      ∙ ap (λ (l : List ℕ). wire form data_bytes ++ l) (behind ∙ ap (code_behind with_pec) (covered front))
      ∙ sym (checked_is with_pec (take from bytes) (wire form data_bytes))

  module _ (fits : Fits form data_bytes) (told : len ≡ wire_length form (drop from bytes))
      (stand : drop from bytes ≡ checked with_pec (take from bytes) (wire form data_bytes)) where
    rest : List ℕ
    rest = code_behind with_pec (take from bytes ++ wire form data_bytes)

    split : drop from bytes ≡ wire form data_bytes ++ rest
    unfolding rest
    split = stand ∙ checked_is with_pec (take from bytes) (wire form data_bytes)

    long : len ≡ length (wire form data_bytes)
    long = told ∙ ap (wire_length form) split ∙ wire_ends form data_bytes rest fits

    -- there are as many bytes as the wire has
    pub is_there : len ≤ length (drop from bytes)
    is_there = omega (arith, long, ap length split, length-append (wire form data_bytes) rest)

    in_front : take len (drop from bytes) ≡ wire form data_bytes
    in_front = ap (λ (n : ℕ). take n (drop from bytes)) long ∙ ap (take (length (wire form data_bytes))) split
        ∙ take-append_seam (wire form data_bytes) rest

    -- and after them the code
    pub code_there : drop len (drop from bytes) ≡ code_behind with_pec (take (from + len) bytes)
    unfolding rest
    code_there =
        ap (λ (n : ℕ). drop n (drop from bytes)) long
        ∙ ap (drop (length (wire form data_bytes))) split
        ∙ drop-append_seam (wire form data_bytes) rest
        ∙ ap (code_behind with_pec) (sym (covered in_front))
