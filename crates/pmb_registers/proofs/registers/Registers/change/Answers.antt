use Rattle.std.proofs.Common.{nat_eq}
use Rattle.pmb_registers.specs.machine.Registers.{change_of}
use Rattle.pmb_registers.proofs.Places.{exact_written, places_written}
use Rattle.pmb_registers.proofs.registers.Registers.change.Goals as goal

pub invariant_of-self : goal.invariant_of-self
invariant_of-self c = record {
  exact = exact_written c.self.inside.registers _ c.self.invariant.exact;
  places =
      places_written c.self.inside.page (nat_eq c.args.code) (change_of c.args.change.now) c.self.inside.places
      c.self.inside.registers c.as_mut_slice.result.now c.change_in.new.registers
      c.as_mut_slice.ensures.value c.change_in.auto.registers c.as_mut_slice.ensures.len c.change_in.ensures
      c.self.invariant.places;
  status_codes = c.self.invariant.status_codes;
}
