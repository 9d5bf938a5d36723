-- What is kept of the legs.
use Rattle.std.specs.Prelude.{◌≡◌, ℕ, ◌%◌, ◌==◌, true, if◌then◌else◌, Option, Some, None, List, [], ◌∷◌, ◌++◌, take}
use Rattle.std.specs.List.{find}
use Rattle.std.specs.Option.{option_and_then}
use Rattle.pmb_partial_packet.specs.declared.legs.LastLeg.{LastLeg}
use Rattle.pmb_partial_packet.specs.declared.legs.LastLeg.TheVariants.{Absent, Begun, Written, Read}
use Rattle.pmb_partial_packet.specs.declared.legs.KeptLegs.TheInside.{Inside}
use Rattle.pmb_partial_packet.specs.PartialPacket.{behind_address, has_address, if_read, is_written, leg_or_none}

-- what contracts see of the legs that are kept
pub record LegsData : Type 0 where
  pub last : LastLeg
  -- the address byte of the last leg that has one
  pub address : Option ℕ
  -- that of the last written leg, and the bytes after it
  pub written_address : Option ℕ
  pub written : List ℕ
  -- the bytes after the address of the last leg, where that is read
  pub reply : List ℕ

abbrev pub legs_data : Inside → LegsData
legs_data legs =
    record {
      last = legs.last;
      address = legs.address;
      written_address = legs.written_address;
      written = legs.written.items;
      reply = legs.reply.items;
    }

-- the bytes for which there is room
abbrev pub kept : List ℕ → List ℕ
kept bytes = take 258 bytes

abbrev pub after_start : LegsData → LegsData
after_start legs =
    record {
      last = Begun;
      address = legs.address;
      written_address = legs.written_address;
      written =
          legs.written;
      reply = [];
    }

abbrev pub after_address : LegsData → ℕ → LegsData
after_address legs b =
    let even = b % 2 == 0 in
    record {
      last = if even then Written else Read;
      address = Some b;
      written_address = if even then Some b else legs.written_address;
      written = if even then [] else legs.written;
      reply = legs.reply;
    }

abbrev pub after_byte_in : LastLeg → LegsData → ℕ → LegsData
after_byte_in Absent legs b = legs
after_byte_in Begun legs b = after_address legs b
after_byte_in Written legs b =
    record {
      last = Written;
      address = legs.address;
      written_address = legs.written_address;
      written = kept (legs.written ++ b ∷ []);
      reply = legs.reply;
    }
after_byte_in Read legs b =
    record {
      last = Read;
      address = legs.address;
      written_address = legs.written_address;
      written = legs.written;
      reply = kept (legs.reply ++ b ∷ []);
    }

abbrev pub after_byte : LegsData → ℕ → LegsData
after_byte legs b = after_byte_in legs.last legs b

-- ---- what they say of the bytes of each leg, the last leg first

abbrev pub address_byte : List ℕ → Option ℕ
address_byte [] = None
address_byte (address ∷ bytes) = Some address

abbrev pub last_of : List (List ℕ) → LastLeg
last_of [] = Absent
last_of ([] ∷ before) = Begun
last_of ((address ∷ bytes) ∷ before) = if address % 2 == 0 then Written else Read

pub record KeepsLegs (kept_legs : LegsData) (all : List (List ℕ)) : Type 0 where
  pub last : kept_legs.last ≡ last_of all
  pub address : kept_legs.address ≡ option_and_then address_byte (find has_address all)
  pub written_address : kept_legs.written_address ≡ option_and_then address_byte (find is_written all)
  pub written : kept_legs.written ≡ kept (behind_address (leg_or_none (find is_written all)))
  pub reply : kept_legs.reply ≡ kept (behind_address (leg_or_none (if_read (find (λ leg. true) all))))
