-- The bytes of a reply: the data that they hold, and what one byte more makes of them. For
-- `Host::take`, `Host::end_reply` and `Incoming::data`. The form, or the first byte of a Block,
-- says how many bytes there are on the wire; up to there the bytes are the wire of some data, and
-- a last byte after them is the packet error code, right or wrong.
use Rattle.std.proofs.Common.{◌≡◌, ◌≢◌, ℕ, ◌+◌, ◌<◌, ◌≤◌, Bool, true, false, if◌then◌else◌, List, [], ◌∷◌, ◌++◌, length}
use Rattle.std.proofs.Common.{take, refl, sym, ap, subst, ◌∙◌, arith, length-append, suc}
use Rattle.std.proofs.Math.Seq.{take-append_seam}
use Rattle.std.proofs.lemmas.List.{append-nil, length-take-le}
use Rattle.pmb_bus.specs.Pec.{pec}
use Rattle.pmb_command.specs.declared.form.Form.{Form}
use Rattle.pmb_command.specs.declared.form.Form.TheVariants.{Zero, One, Two, Four, Eight, Block}
use Rattle.pmb_command.specs.Wire.{AreByteValues, Fits, wire, wire_length}
use Rattle.pmb_transaction.specs.Body.{checked}
use Rattle.pmb_host.specs.Signals.{AreAll, SayReply}
use Rattle.pmb_host.specs.machine.Replies.{Holds, whole_length}

-- ---- the data

-- bytes that are as many as they say are the wire of some data
pub is_wire : (form : Form) (bytes : List ℕ) → length bytes ≡ wire_length form bytes
    → (content : List ℕ) × (bytes ≡ wire form content)
is_wire Zero bytes many = (bytes, refl)
is_wire One bytes many = (bytes, refl)
is_wire Two bytes many = (bytes, refl)
is_wire Four bytes many = (bytes, refl)
is_wire Eight bytes many = (bytes, refl)
is_wire Block [] many = absurd (omega (arith, many))
is_wire Block (count ∷ bytes) many =
    let same : count ≡ length bytes = omega (arith, many) in
    (bytes, ap (λ (c : ℕ). c ∷ bytes) same)

-- the first bytes, as many as all say, say so too
front_length : (form : Form) (bytes : List ℕ) → wire_length form bytes ≤ length bytes
    → wire_length form (take (wire_length form bytes) bytes) ≡ wire_length form bytes
front_length Zero bytes enough = refl
front_length One bytes enough = refl
front_length Two bytes enough = refl
front_length Four bytes enough = refl
front_length Eight bytes enough = refl
front_length Block [] enough = absurd (omega (arith, enough))
front_length Block (count ∷ bytes) enough =
    let more : 1 + count ≡ suc count = omega arith in
    ap (λ (n : ℕ). wire_length Block (take n (count ∷ bytes))) more

-- so they are the wire of some data
pub front_is_wire : (form : Form) (bytes : List ℕ) (n : ℕ) → n ≡ wire_length form bytes → n ≤ length bytes
    → (content : List ℕ) × (take n bytes ≡ wire form content)
front_is_wire form bytes n is enough =
    let all : wire_length form bytes ≤ length bytes = omega (arith, is, enough) in
    let many : length (take (wire_length form bytes) bytes) ≡ wire_length form (take (wire_length form bytes) bytes) =
    length-take-le (wire_length form bytes) bytes all ∙ sym (front_length form bytes all) in
    subst (λ (m : ℕ). (content : List ℕ) × (take m bytes ≡ wire form content)) (sym is)
    (is_wire form (take (wire_length form bytes) bytes) many)

-- the wire of data says how long it is
wire_many : (form : Form) (content rest : List ℕ) → Fits form content → wire_length form (wire form content ++ rest)
    ≡ length (wire form content)
wire_many Zero content rest fits = sym fits.taken
wire_many One content rest fits = sym fits.taken
wire_many Two content rest fits = sym fits.taken
wire_many Four content rest fits = sym fits.taken
wire_many Eight content rest fits = sym fits.taken
wire_many Block content rest fits = omega arith

-- the first bytes are the wire of the data that they hold
pub held : (form : Form) (content bytes : List ℕ) (n : ℕ) → n ≡ wire_length form bytes → Holds form content bytes
    → take n bytes ≡ wire form content
held form content bytes n is holds =
    let many : n ≡ length (wire form content) = is ∙ ap (wire_length form) holds.split
    ∙ wire_many form content holds.rest holds.fits in
    ap (λ (m : ℕ). take m bytes) many ∙ ap (take (length (wire form content))) holds.split
    ∙ take-append_seam (wire form content) holds.rest

-- and no fewer
pub held_many : (form : Form) (content bytes : List ℕ) (n : ℕ) → n ≡ wire_length form bytes → Holds form content bytes
    → n ≤ length bytes
held_many form content bytes n is holds =
    let many : n ≡ length (wire form content) = is ∙ ap (wire_length form) holds.split
    ∙ wire_many form content holds.rest holds.fits in
    let all = ap length holds.split ∙ length-append (wire form content) holds.rest in
    omega (arith, many, all)

-- ---- one byte more

-- it makes them no fewer
grows : (form : Form) (bytes : List ℕ) (byte : ℕ) → wire_length form bytes ≤ wire_length form (bytes ++ byte ∷ [])
grows Zero bytes byte = omega arith
grows One bytes byte = omega arith
grows Two bytes byte = omega arith
grows Four bytes byte = omega arith
grows Eight bytes byte = omega arith
grows Block [] byte = omega arith
grows Block (count ∷ bytes) byte = omega arith

-- where it was missing, and makes all, they are exactly as many
pub exactly : (form : Form) (with_pec : Bool) (bytes : List ℕ) (byte : ℕ)
    → length bytes < whole_length form with_pec bytes
    → whole_length form with_pec (bytes ++ byte ∷ []) ≤ length (bytes ++ byte ∷ [])
    → length (bytes ++ byte ∷ []) ≡ whole_length form with_pec (bytes ++ byte ∷ [])
exactly form with_pec bytes byte short whole =
    let more = grows form bytes byte in
    let long = length-append bytes (byte ∷ []) in
    omega (arith, more, long, short, whole)

-- 257: a count, 255 bytes and a packet error code
-- there are at most 257
pub most : (form : Form) (with_pec : Bool) (bytes : List ℕ) → AreByteValues bytes
    → length bytes < whole_length form with_pec bytes → length bytes < 257
most form with_pec bytes small short =
    let wire = most_on_wire form bytes small in
    let code = most_code with_pec in
    omega (arith, wire, code, short) where
      most_on_wire : (form : Form) (bytes : List ℕ) → AreByteValues bytes → wire_length form bytes ≤ 256
      most_on_wire Zero bytes small = omega arith
      most_on_wire One bytes small = omega arith
      most_on_wire Two bytes small = omega arith
      most_on_wire Four bytes small = omega arith
      most_on_wire Eight bytes small = omega arith
      most_on_wire Block [] small = omega arith
      most_on_wire Block (count ∷ bytes) small = let byte = small.0 in omega (arith, byte)

      most_code : (with_pec : Bool) → (if with_pec then 1 else 0) ≤ 1
      most_code true = omega arith
      most_code false = omega arith

-- ---- the packet error code

-- what stands before the last byte, and the last byte
same_last : (xs ys : List ℕ) (x y : ℕ) → xs ++ x ∷ [] ≡ ys ++ y ∷ [] → (xs ≡ ys) × (x ≡ y)
same_last [] [] x y same = (refl, cc same)
same_last [] (b ∷ []) x y same = absurd (cc same)
same_last [] (b ∷ c ∷ ys) x y same = absurd (cc same)
same_last (a ∷ []) [] x y same = absurd (cc same)
same_last (a ∷ b ∷ xs) [] x y same = absurd (cc same)
same_last (a ∷ xs) (b ∷ ys) x y same =
    let head : a ≡ b = cc same in
    let more = same_last xs ys x y (cc same) in
    (cc (head, more.0), more.1)

-- where the code is right, all bytes say a reply
pub say : (form : Form) (with_pec : Bool) (bytes before : List ℕ) (byte crc : ℕ)
    → AreAll form with_pec (bytes ++ byte ∷ []) → crc ≡ pec (before ++ bytes) → (with_pec ≡ true → byte ≡ crc)
    → (content : List ℕ) × SayReply form with_pec before content (bytes ++ byte ∷ [])
say form with_pec bytes before byte crc all crc_is right =
    (all.reply, record { fits = all.fits; spelled = spelled_by with_pec all.code all.one all.spelled right }) where
      spelled_by : (with_pec : Bool) (code : List ℕ) → length code ≡ (if with_pec then 1 else 0)
          → bytes ++ byte ∷ [] ≡ wire form all.reply ++ code → (with_pec ≡ true → byte ≡ crc)
          → bytes ++ byte ∷ [] ≡ checked with_pec before (wire form all.reply)
      spelled_by false [] one is right = is ∙ append-nil (wire form all.reply)
      spelled_by false (c ∷ code) one is right = absurd (omega (arith, one))
      spelled_by true [] one is right = absurd (omega (arith, one))
      spelled_by true (c ∷ d ∷ code) one is right = absurd (omega (arith, one))
      spelled_by true (c ∷ []) one is right =
          let same = same_last bytes (wire form all.reply) byte c is in
          let last : byte ≡ pec (before ++ wire form all.reply) = right refl ∙ crc_is
          ∙ ap (λ (bs : List ℕ). pec (before ++ bs)) same.0 in
          ap (λ (bs : List ℕ). bs ++ byte ∷ []) same.0 ∙ ap (λ (b : ℕ). wire form all.reply ++ b ∷ []) last

-- where it is wrong, they say none
pub say_none : (form : Form) (with_pec : Bool) (bytes before : List ℕ) (byte crc : ℕ) → crc ≡ pec (before ++ bytes)
    → with_pec ≡ true → byte ≢ crc
    → (content : List ℕ) → SayReply form with_pec before content (bytes ++ byte ∷ []) → ⊥
say_none form false bytes before byte crc crc_is coded wrong content says = absurd (cc coded)
say_none form true bytes before byte crc crc_is coded wrong content says =
    let same = same_last bytes (wire form content) byte (pec (before ++ wire form content)) says.spelled in
    wrong (same.1 ∙ ap (λ (bs : List ℕ). pec (before ++ bs)) (sym same.0) ∙ sym crc_is)
