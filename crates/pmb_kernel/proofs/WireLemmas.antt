-- Bytes that are read, and where they are put: for `push_read`, `put_read` and `put_reply`.
use Rattle.std.proofs.Common.{◌≡◌, ◌∙◌, ◌≤◌, ◌+◌, ◌-◌, ℕ, List, [], ◌∷◌, ◌++◌, length, take, drop, refl, sym, ap, arith}
use Rattle.std.proofs.Common.{append-nil, append_assoc, length-append, length-drop, slice_index, suc}
use Rattle.std.proofs.Math.Seq.{drop-append_seam, take-append_seam}
use Rattle.std.proofs.lemmas.List.{drop-append-le, drop_all, take-append-drop, take-append-le, take_all}
use Rattle.std.specs.List.{refill}
use Rattle.pmb_kernel.specs.Transfers.{acknowledged, last_read, put_in, read_bytes, written_bytes}
use Rattle.pmb_recording.specs.declared.wire_byte.WireByte.{WireByte}

-- the last of them is not acknowledged
read_is : (bytes : List ℕ) → 1 ≤ length bytes
    → written_bytes (take (length bytes - 1) bytes) ++ last_read (slice_index bytes (length bytes - 1)) ∷ []
    ≡ read_bytes bytes
read_is [] some = absurd (omega arith)
read_is (byte ∷ []) some = refl
read_is (byte ∷ next ∷ bytes) some =
    let e : length (byte ∷ next ∷ bytes) - 1 ≡ suc (length (next ∷ bytes) - 1) = omega arith in
    rw e (ap (λ (t : List WireByte). acknowledged byte ∷ t) (read_is (next ∷ bytes) (omega arith)))

-- they are pushed in two steps
pub pushed : (old mid new : List WireByte) (bytes : List ℕ) → 1 ≤ length bytes
    → mid ≡ old ++ written_bytes (take (length bytes - 1) bytes)
    → new ≡ mid ++ last_read (slice_index bytes (length bytes - 1)) ∷ [] → new ≡ old ++ read_bytes bytes
pushed old mid new bytes some front last =
    last ∙ ap (λ (t : List WireByte). t ++ last_read (slice_index bytes (length bytes - 1)) ∷ []) front
    ∙ append_assoc old (written_bytes (take (length bytes - 1) bytes)) (last_read (slice_index bytes (length bytes - 1)) ∷ [])
    ∙ ap (λ (t : List WireByte). old ++ t) (read_is bytes some)

pub length_read : (bytes : List ℕ) → length (read_bytes bytes) ≡ length bytes
length_read [] = refl
length_read (byte ∷ []) = refl
length_read (byte ∷ next ∷ bytes) = ap suc (length_read (next ∷ bytes))

-- bytes that were put after all others go to their place
turned : (at count : ℕ) (bytes wire : List WireByte) → at ≤ length wire → length bytes ≡ count
    → take at (wire ++ bytes) ++ (drop (length (wire ++ bytes) - count) (wire ++ bytes)
    ++ take (length (wire ++ bytes) - count - at) (drop at (wire ++ bytes)))
    ≡ put_in at bytes wire
turned at count bytes wire within is =
    let all : length (wire ++ bytes) - count ≡ length wire = omega (arith, length-append wire bytes) in
    let rest : length wire - at ≡ length (drop at wire) = sym (length-drop at wire) in
    rw (
      all,
      take-append-le at wire bytes within,
      drop-append-le at wire bytes within,
      drop-append_seam wire bytes,
      rest,
      take-append_seam (drop at wire) bytes,
    ) refl

-- a place after all others
pub put_last : (at : ℕ) (bytes wire : List WireByte) → length wire ≤ at → wire ++ bytes ≡ put_in at bytes wire
put_last at bytes wire all =
    rw (take_all at wire all, drop_all at wire all, append-nil bytes) refl

-- a slice that is written as a whole
refilled : (old new : List WireByte) → length new ≡ length old → refill (length old) old new ≡ new
refilled old new same =
    rw (drop_all (length new) old (omega arith), append-nil new) (take_all (length old) new (omega arith))

length_put : (at : ℕ) (bytes wire : List WireByte) → length (put_in at bytes wire) ≡ length (wire ++ bytes)
length_put at bytes wire =
    let parts : length (take at wire) + length (drop at wire) ≡ length wire =
    sym (length-append (take at wire) (drop at wire)) ∙ ap length (take-append-drop at wire) in
    omega (
      arith,
      length-append (take at wire) (bytes ++ drop at wire),
      length-append bytes (drop at wire),
      length-append wire bytes,
    )

-- they are pushed, and turned then
pub put_there : (at count : ℕ) (bytes wire all shown new : List WireByte) → at ≤ length wire → length bytes ≡ count
    → all ≡ wire ++ bytes → shown ≡ all
    → new ≡ take at shown ++ (drop (length shown - count) shown ++ take (length shown - count - at) (drop at shown))
    → refill (length all) all new ≡ put_in at bytes wire
put_there at count bytes wire all shown new within is pushed same turns =
    let new_is : new ≡ put_in at bytes wire =
    turns ∙ ap (λ (s : List WireByte).
    take at s ++ (drop (length s - count) s ++ take (length s - count - at) (drop at s))) (same ∙ pushed)
    ∙ turned at count bytes wire within is in
    refilled all new (ap length new_is ∙ length_put at bytes wire ∙ sym (ap length pushed)) ∙ new_is
