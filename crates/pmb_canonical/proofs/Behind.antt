-- Where the data stand among the bytes of a packet: after the address byte and the code in a
-- written leg, after both address bytes in a read or a call. For `written`, `read` and `called` of
-- `src/packets.rt`. The packet error code covers all bytes before the data, whichever leg they are
-- in.
use Rattle.std.proofs.Common.{◌≡◌, ℕ, suc, ◌+◌, ◌-◌, ◌<◌, ◌≤◌, Bool, true, false, List, [], ◌∷◌, ◌++◌, length, get_or}
use Rattle.std.proofs.Common.{take, drop, refl, sym, ap, ◌∙◌, arith, append_assoc, length-append}
use Rattle.std.proofs.lemmas.List.{length-take-le, take-append-drop}
use Rattle.std.proofs.Math.Seq.{take-append_seam, take-suc, drop-append_seam}
use Rattle.pmb_bus.specs.Address.{write_address, read_address}
use Rattle.pmb_bus.specs.Pec.{pec}
use Rattle.pmb_command.specs.declared.form.Form.{Form}
use Rattle.pmb_command.specs.Parts.{DeviceParts}
use Rattle.pmb_command.specs.Wire.{wire}
use Rattle.pmb_transaction.specs.Body.{checked}
use Rattle.pmb_canonical.specs.Canonical.{OneCalled, OneRead, OneWritten}
use Rattle.pmb_canonical.proofs.Found.{address_of_found}

behind_two : (with_pec : Bool) (to_write code : ℕ) (data_wire bytes : List ℕ)
    → bytes ≡ to_write ∷ checked with_pec (to_write ∷ []) (code ∷ data_wire)
    → drop 2 bytes ≡ checked with_pec (take 2 bytes) data_wire
behind_two false to_write code data_wire bytes same = ap (drop 2) same
behind_two true to_write code data_wire bytes same =
    ap (drop 2) same ∙ sym (ap (λ (l : List ℕ). data_wire ++ pec (take 2 l ++ data_wire) ∷ []) same)

-- data after some bytes, which the packet error code covers too
behind_front : (with_pec : Bool) (before data_wire bytes : List ℕ) (n : ℕ)
    → bytes ≡ before ++ checked with_pec before data_wire → n ≡ length before
    → drop n bytes ≡ checked with_pec (take n bytes) data_wire
behind_front with_pec before data_wire bytes n whole long =
    let behind = checked with_pec before data_wire in
    let first : take n bytes ≡ before =
    ap (λ (k : ℕ). take k bytes) long ∙ ap (take (length before)) whole ∙ take-append_seam before behind in
    let second : drop n bytes ≡ behind =
    ap (λ (k : ℕ). drop k bytes) long ∙ ap (drop (length before)) whole ∙ drop-append_seam before behind in
    second ∙ ap (λ (l : List ℕ). checked with_pec l data_wire) (sym first)

-- of a written leg, after the address byte and the code
pub written_data : (profile : List DeviceParts) (address code : ℕ) (data_bytes : List ℕ) (with_pec : Bool)
    (bytes : List ℕ)
    → (says : OneWritten profile address code data_bytes with_pec bytes)
    → drop 2 bytes ≡ checked with_pec (take 2 bytes) (wire says.allowed.form data_bytes)
written_data profile address code data_bytes with_pec bytes says =
    let own : says.device.address ≡ address = address_of_found address profile says.device says.known in
    let body : says.body ≡ checked with_pec (write_address address ∷ []) (code ∷ wire says.allowed.form data_bytes) =
    says.allowed.spelled
    ∙ ap (λ (a : ℕ). checked with_pec (write_address a ∷ []) (code ∷ wire says.allowed.form data_bytes)) own in
    behind_two with_pec (write_address address) code (wire says.allowed.form data_bytes) bytes
    (says.spelled ∙ ap (λ (l : List ℕ). write_address address ∷ l) body)

-- of both legs of a read, after both address bytes and the code
pub read_data : (profile : List DeviceParts) (address code : ℕ) (data_bytes : List ℕ) (with_pec : Bool) (bytes : List ℕ)
    → (says : OneRead profile address code data_bytes with_pec bytes)
    → drop 3 bytes ≡ checked with_pec (take 3 bytes) (wire says.form data_bytes)
read_data profile address code data_bytes with_pec bytes says =
    behind_front with_pec (write_address address ∷ code ∷ read_address address ∷ [])
    (wire says.form data_bytes) bytes 3 says.spelled refl

-- What stands after the code of a written leg is the data with their packet error code, so all after
-- the address byte is the body.
pub spells_write : (with_pec : Bool) (bytes wired : List ℕ) → 2 ≤ length bytes
    → drop 2 bytes ≡ checked with_pec (take 2 bytes) wired
    → bytes ≡ get_or bytes 0 0 ∷ checked with_pec (get_or bytes 0 0 ∷ []) (get_or bytes 1 0 ∷ wired)
spells_write with_pec [] wired enough behind = absurd (omega arith)
spells_write with_pec (a ∷ []) wired enough behind = absurd (omega arith)
spells_write false (a ∷ b ∷ bytes) wired enough behind = ap (λ (rest : List ℕ). a ∷ b ∷ rest) behind
spells_write true (a ∷ b ∷ bytes) wired enough behind = ap (λ (rest : List ℕ). a ∷ b ∷ rest) behind

-- ---- of both legs of a call

-- the reply, after the second address byte
pub call_reply : (profile : List DeviceParts) (address code : ℕ) (sent reply : List ℕ) (with_pec : Bool)
    (bytes : List ℕ) (written : ℕ)
    → (says : OneCalled profile address code reply with_pec bytes sent written)
    → drop (written + 1) bytes ≡ checked with_pec (take (written + 1) bytes) (wire says.form reply)
call_reply profile address code sent reply with_pec bytes written says =
    let front = write_address address ∷ code ∷ wire says.form sent in
    let before = front ++ read_address address ∷ [] in
    let behind = checked with_pec before (wire says.form reply) in
    let whole : bytes ≡ before ++ behind = says.spelled ∙ sym (append_assoc front (read_address address ∷ []) behind) in
    let long : written + 1 ≡ length before =
    omega (arith, says.first, length-append front (read_address address ∷ [])) in
    behind_front with_pec before (wire says.form reply) bytes (written + 1) whole long

-- What was found in bytes of which the first leg has so many.
pub record IsFound (device : DeviceParts) (form : Form) (code : ℕ) (sent reply : List ℕ) (with_pec : Bool)
    (bytes : List ℕ) (written : ℕ) : Type 0 where
  -- the first leg begins with the address byte for writing and the code
  pub enough : 2 ≤ length bytes
  pub to_write : get_or bytes 0 0 ≡ write_address device.address
  pub command_code : get_or bytes 1 0 ≡ code
  -- the second leg begins where the first ends
  pub within : (2 ≤ written) × (written < length bytes)
  -- between the code and the second leg are the data that are sent
  pub sends : take (written - 2) (drop 2 bytes) ≡ wire form sent
  pub to_read : get_or bytes written 0 ≡ read_address device.address
  -- after the second address byte is the reply, with its packet error code
  pub replies : drop (written + 1) bytes ≡ checked with_pec (take (written + 1) bytes) (wire form reply)

-- that is what the legs of a call are
pub spells_call : (device : DeviceParts) (form : Form) (code : ℕ) (sent reply : List ℕ) (with_pec : Bool)
    (bytes : List ℕ) (written : ℕ)
    → IsFound device form code sent reply with_pec bytes written
    → (written ≡ 2 + length (wire form sent))
    × (bytes ≡ write_address device.address ∷ code ∷ wire form sent ++ read_address device.address
    ∷ checked with_pec (write_address device.address ∷ code ∷ wire form sent ++ read_address device.address ∷ [])
    (wire form reply))
spells_call device form code sent reply with_pec [] written is = absurd (omega (arith, is.enough))
spells_call device form code sent reply with_pec (a ∷ []) written is = absurd (omega (arith, is.enough))
spells_call device form code sent reply with_pec (a ∷ b ∷ rest) written is =
    -- the data that are sent have the length of the first leg but for two bytes
    let bytes = a ∷ b ∷ rest in
    let sent_long : length (take (written - 2) rest) ≡ written - 2 =
    length-take-le (written - 2) rest (omega (arith, is.within)) in
    let long : written ≡ 2 + length (wire form sent) = omega (arith, sent_long, ap length is.sends, is.within) in
    -- so the first leg is the address byte, the code and these data
    let front = write_address device.address ∷ code ∷ wire form sent in
    let two_more : written ≡ suc (suc (written - 2)) = omega (arith, is.within) in
    let one_more : written + 1 ≡ suc written = omega arith in
    let first : take written bytes ≡ front =
    ap (λ (n : ℕ). take n bytes) two_more ∙ cc (is.to_write, is.command_code, is.sends) in
    -- and after it comes the address byte for reading
    let before : take (written + 1) bytes ≡ front ++ read_address device.address ∷ [] =
    ap (λ (n : ℕ). take n bytes) one_more
    ∙ take-suc bytes written 0 (is.within.1)
    ∙ ap (λ (l : List ℕ). l ++ get_or bytes written 0 ∷ []) first
    ∙ ap (λ (n : ℕ). front ++ n ∷ []) is.to_read in
    -- the rest is the reply
    let behind = checked with_pec (front ++ read_address device.address ∷ []) (wire form reply) in (
      long,
      sym (take-append-drop (written + 1) bytes)
          ∙ ap (λ (l : List ℕ). l ++ drop (written + 1) bytes) before
          ∙ ap (λ (l : List ℕ). (front ++ read_address device.address ∷ []) ++ l)
          (is.replies ∙ ap (λ (l : List ℕ). checked with_pec l (wire form reply)) before)
          ∙ append_assoc front (read_address device.address ∷ []) behind,
    )
