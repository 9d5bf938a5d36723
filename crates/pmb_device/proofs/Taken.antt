-- The bytes that a device takes, and where it refuses one. For `take_byte`, `refusal_noted` and
-- the functions of a `DevicePacket`. pmb_leg says what begins a body after parts of a group; here
-- the place of the leg, first or later, stands for these parts (`some_parts`).
use Rattle.std.proofs.Common.{◌≡◌, ℕ, inl, inr, Bool, false, List, [], ◌∷◌, ◌++◌, refl, sym, subst, append_assoc}
use Rattle.std.proofs.Common.{IsTrue, ◌↔◌}
use Rattle.std.proofs.lemmas.List.{append-nil}
use Rattle.pmb_command.specs.Parts.{DeviceParts}
use Rattle.pmb_transaction.specs.Transaction.{PartData}
use Rattle.pmb_transaction.specs.Body.{Allowed}
use Rattle.pmb_transaction.specs.Viable.{BeginsBody, IsInsideBody}
use Rattle.pmb_leg.specs.declared.place.LegPlace.{LegPlace}
use Rattle.pmb_leg.specs.declared.place.LegPlace.TheVariants.{First, Later}
use Rattle.pmb_leg.specs.Leg.{place_of}
use Rattle.pmb_device.specs.Rules.{AllowedAt, BeginsAt, GoesOn, IsPageValue, TakesByte, TakesAll}

module _ (device : DeviceParts) (place : LegPlace) where
  -- ---- bytes after others

  -- those in front are taken too
  pub front_taken : (taken front rest : List ℕ) → TakesAll device place taken (front ++ rest)
      → TakesAll device place taken front
  front_taken taken [] rest all = tt
  front_taken taken (byte ∷ front) rest all = (all.0, front_taken (taken ++ byte ∷ []) front rest all.1)

  -- and each at its place
  pub taken_at : (taken front : List ℕ) (byte : ℕ) (rest : List ℕ) → TakesAll device place taken (front ++ byte ∷ rest)
      → TakesByte device place (taken ++ front) byte
  taken_at taken [] byte rest all = subst (λ (bs : List ℕ). TakesByte device place bs byte)
      (sym (append-nil taken)) all.0
  taken_at taken (b ∷ front) byte rest all =
      subst (λ (bs : List ℕ). TakesByte device place bs byte) (append_assoc taken (b ∷ []) front)
      (taken_at (taken ++ b ∷ []) front byte rest all.1)

  -- one byte more
  pub one_more_taken : (taken bytes : List ℕ) (byte : ℕ) → TakesAll device place taken bytes
      → TakesByte device place (taken ++ bytes) byte
      → TakesAll device place taken (bytes ++ byte ∷ [])
  one_more_taken taken [] byte all takes =
      (subst (λ (bs : List ℕ). TakesByte device place bs byte) (append-nil taken) takes, tt)
  one_more_taken taken (b ∷ bytes) byte all takes = (
    all.0,
    one_more_taken (taken ++ b ∷ []) bytes byte all.1
        (subst (λ (bs : List ℕ). TakesByte device place bs byte) (sym (append_assoc taken (b ∷ []) bytes)) takes),
  )

-- ---- as a written leg says it

-- parts after which a leg has this place
pub some_parts : (place : LegPlace) → (parts : List PartData) × (place_of parts ≡ place)
some_parts First = ([], refl)
some_parts Later = (record { addr = 0; code = 0; bytes = []; pec = false } ∷ [], refl)

module _ (device : DeviceParts) where
  pub allowed : (place : LegPlace) (body : List ℕ) → Allowed device (some_parts place).0 body
      → AllowedAt device place body
  unfolding some_parts
  allowed First body a = a
  allowed Later body a = a

  pub is_allowed : (place : LegPlace) (body : List ℕ) → AllowedAt device place body
      → Allowed device (some_parts place).0 body
  unfolding some_parts
  is_allowed First body a = a
  is_allowed Later body a = a

  none_behind : (bytes : List ℕ) (byte : ℕ) → bytes ++ byte ∷ [] ≡ [] → ⊥
  none_behind [] byte is = cc is
  none_behind (b ∷ bytes) byte is = cc is

  pub begins_at : (place : LegPlace) (bytes : List ℕ) (byte : ℕ)
      → BeginsBody device (some_parts place).0 (bytes ++ byte ∷ [])
      → BeginsAt device place (bytes ++ byte ∷ [])
  begins_at place bytes byte (inl none) = absurd (none_behind bytes byte none)
  begins_at place bytes byte (inr w) = (w.0, w.1, allowed place w.0 w.2, w.3)

  pub begins_body : (place : LegPlace) (bytes : List ℕ) → BeginsAt device place bytes
      → BeginsBody device (some_parts place).0 bytes
  begins_body place bytes w = inr (w.0, w.1, is_allowed place w.0 w.2, w.3)

  pub has_room : (place : LegPlace) (bytes : List ℕ) → IsInsideBody device (some_parts place).0 bytes
      → GoesOn device place bytes
  has_room place bytes (inl none) = inl none
  has_room place bytes (inr w) = inr (w.0, allowed place w.0 w.1, w.2)

  pub is_inside : (place : LegPlace) (bytes : List ℕ) → GoesOn device place bytes
      → IsInsideBody device (some_parts place).0 bytes
  is_inside place bytes (inl none) = inl none
  is_inside place bytes (inr w) = inr (w.0, is_allowed place w.0 w.1, w.2)

-- ---- whether a byte is taken, and whether one had a place

-- one byte more
pub takes_byte : (device kept : DeviceParts) (place : LegPlace) (bytes : List ℕ) (byte : ℕ) (result : Bool)
    → kept ≡ device → IsPageValue device bytes byte
    → ((parts : List PartData) → place_of parts ≡ place → (IsTrue result ↔ BeginsBody kept parts (bytes ++ byte ∷ [])))
    → (IsTrue result ↔ TakesByte device place bytes byte)
takes_byte device kept place bytes byte result same page begins =
    let P : DeviceParts → Type 0 = λ d. (parts : List PartData) → place_of parts ≡ place
    → (IsTrue result ↔ BeginsBody d parts (bytes ++ byte ∷ [])) in
    let here : P device = subst P same begins in
    let told = here (some_parts place).0 (some_parts place).1 in (
      λ is. record { begins = begins_at device place bytes byte (told.0 is); page = page },
      λ takes. told.1 (begins_body device place (bytes ++ byte ∷ []) takes.begins),
    )

pub room_of : (device : DeviceParts) (place : LegPlace) (bytes : List ℕ) (result : Bool)
    → ((parts : List PartData) → place_of parts ≡ place → (IsTrue result ↔ IsInsideBody device parts bytes))
    → (IsTrue result ↔ GoesOn device place bytes)
room_of device place bytes result inside =
    let told = inside (some_parts place).0 (some_parts place).1 in
    (λ is. has_room device place bytes (told.0 is), λ room. told.1 (is_inside device place bytes room))
