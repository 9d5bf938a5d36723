-- What the code keeps of a written leg.
use Rattle.std.specs.Prelude.{◌≡◌, ℕ, true, List, [], ◌∷◌}
use Rattle.pmb_bus.specs.Pec.{pec}
use Rattle.pmb_bus.specs.Address.{write_address}
use Rattle.pmb_command.specs.declared.form.Shape.{Shape}
use Rattle.pmb_command.specs.declared.pec_mode.PecMode.TheVariants.{Off}
use Rattle.pmb_command.specs.Fitting.{calls_fit}
use Rattle.pmb_command.specs.Parts.{DeviceParts}
use Rattle.pmb_transaction.specs.Body.{forms}
use Rattle.pmb_leg.specs.declared.place.LegPlace.{LegPlace}
use Rattle.pmb_leg.specs.declared.left.DataLeft.{DataLeft}
use Rattle.pmb_leg.specs.declared.written_leg.WrittenLeg.TheInside.{Inside}
use Rattle.pmb_leg.specs.Leg.{Written, call_form}
use Rattle.pmb_leg.specs.machine.DataLeft.{LeavesOf}

abbrev pub written_so_far : Inside → Written
written_so_far leg = record { device = leg.device.now; place = leg.place; bytes = leg.bytes.items }

-- What is kept beside the bytes: the forms of the command, what is left of the body of a write and
-- of that of a call, and the packet error code so far.
pub record Kept : Type 0 where
  pub device : DeviceParts
  pub place : LegPlace
  pub shape : Shape
  pub write : DataLeft
  pub call : DataLeft
  pub crc : ℕ

abbrev pub kept : Inside → Kept
kept leg = record {
  device = leg.device.now;
  place = leg.place;
  shape = leg.forms;
  write = leg.write;
  call =
      leg.call;
  crc = leg.crc;
}

-- It is that of the bytes after a code.
pub record IsBehindCode (leg : Kept) (code : ℕ) (behind : List ℕ) : Type 0 where
  pub shape_is : leg.shape ≡ forms leg.device code
  pub called_with_data : calls_fit leg.shape.call ≡ true
  pub crc : pec (write_address leg.device.address ∷ code ∷ behind) ≡ leg.crc
  pub write : LeavesOf leg.shape.write leg.device.pec (write_address leg.device.address ∷ code ∷ []) behind leg.write
  pub call : LeavesOf (call_form leg.place leg.shape) Off (write_address leg.device.address ∷ code ∷ []) behind leg.call

-- Before the code nothing of it counts.
abbrev pub IsKeptLeg : Kept → List ℕ → Type 0
IsKeptLeg leg [] = Unit {0}
IsKeptLeg leg (code ∷ behind) = IsBehindCode leg code behind

abbrev pub IsLegUnderWay : Inside → Type 0
IsLegUnderWay leg = IsKeptLeg (kept leg) leg.bytes.items
