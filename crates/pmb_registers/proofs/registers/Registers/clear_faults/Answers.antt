use Rattle.std.proofs.Common.{ℕ, map}
use Rattle.pmb_registers.proofs.Places.{exact_written, places_written}
use Rattle.pmb_registers.specs.machine.StatusCodes.{is_listed}
use Rattle.pmb_registers.proofs.registers.Registers.clear_faults.Goals as goal

pub invariant_of-self : goal.invariant_of-self
invariant_of-self c = record {
  exact = exact_written c.self.inside.registers _ c.self.invariant.exact;
  places =
      places_written c.self.inside.page (is_listed c.as_slice.result.now) (map (λ (byte : ℕ). 0)) c.self.inside.places
      c.self.inside.registers c.as_mut_slice.result.now c.clear_in_each.new.registers
      c.as_mut_slice.ensures.value c.clear_in_each.auto.registers c.as_mut_slice.ensures.len c.clear_in_each.ensures
      c.self.invariant.places;
  status_codes = c.self.invariant.status_codes;
}
