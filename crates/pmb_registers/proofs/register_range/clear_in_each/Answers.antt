use Rattle.std.proofs.Common.{◌≡◌, ℕ, map, refl, sym, take, get_or, subst, arith}
use Rattle.std.proofs.lemmas.List.{take_all}
use Rattle.pmb_registers.specs.Apply.{changed}
use Rattle.pmb_registers.specs.machine.Registers.{register_data}
use Rattle.pmb_registers.specs.machine.Places.{ArePlaces}
use Rattle.pmb_registers.specs.machine.StatusCodes.{is_listed}
use Rattle.pmb_registers.proofs.Places.{places_after}
use Rattle.pmb_registers.proofs.StatusCodes.{cleared_more, cleared_none}
use Rattle.pmb_registers.proofs.register_range.clear_in_each.Goals as goal

pub loop-code-init : goal.loop-code-init
loop-code-init c = cleared_none c.args.selected (map register_data c.args.registers.now)

pub change_in-requires-clause-place : goal.change_in-requires-clause-place
change_in-requires-clause-place c =
    let code = get_or c.args.codes.now c.loop-code.code-index 0 in
    let before = map register_data c.args.registers.now in
    let places : ArePlaces c.args.places.now
    (changed c.args.selected (is_listed (take c.loop-code.code-index c.args.codes.now))
    (map (λ (byte : ℕ). 0)) before) =
    places_after c.args.selected (is_listed (take c.loop-code.code-index c.args.codes.now))
    (map (λ (byte : ℕ). 0)) c.args.places.now before c.requires in
    subst (ArePlaces c.args.places.now) (sym c.loop-code.invariant) places code (record { start = 0; end = 0 })
    (omega (arith, c.type_inv.codes c.loop-code.code-index))

pub loop-code-preserved : goal.loop-code-preserved
loop-code-preserved c =
    cleared_more c.args.selected (get_or c.args.codes.now c.loop-code.code-index 0) c.args.codes.now
    c.loop-code.code-index
    (map register_data c.args.registers.now) (map register_data c.loop-code.registers)
    (map register_data c.change_in.new.registers)
    c.loop-code-test.true refl c.loop-code.invariant c.change_in.ensures

pub returns : goal.returns
returns c =
    let all : take c.loop-code.code-index c.args.codes.now ≡ c.args.codes.now =
    take_all c.loop-code.code-index c.args.codes.now c.loop-code-test.false in
    rw all at c.loop-code.invariant
