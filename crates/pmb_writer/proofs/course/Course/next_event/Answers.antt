use Rattle.std.proofs.Common.{◌≡◌, false, ◌∷◌, ◌++◌, None, ap, sym, refl, ◌∙◌}
use Rattle.pmb_bus.specs.declared.event.Event.TheVariants.{Start, Stop}
use Rattle.pmb_writer.specs.declared.course.Course.{Course}
use Rattle.pmb_writer.specs.machine.Legs.{LegData, code_on, course_events, leg_data, leg_events, legs_data, legs_events}
use Rattle.pmb_writer.specs.machine.Legs.{with_code}
use Rattle.pmb_writer.proofs.LegBytes.{ended, code_on-none, next_leg, at_stop, at_end}
use Rattle.pmb_writer.proofs.course.Course.next_event.Goals as goal
use Rattle.pmb_writer.proofs.course.Course.next_event.Goals.{In_default-next_byte}

-- no answer is owed
not_owed : (c : Course) → c.owed ≡ None
    → course_events c ≡ leg_events c.crc (leg_data c.leg) ++ legs_events c.stop (code_on c.crc (leg_data c.leg).bytes)
    (legs_data c.legs)
not_owed c none = rw none refl

-- the packet error code so far is that of all bytes of the leg
so_far : (c : In_default-next_byte) → code_on c.args.self.now.crc (leg_data c.args.self.now.leg).bytes
    ≡ c.next_byte.new.crc
so_far c =
    let left : LegData = leg_data c.next_byte.new.self in
    sym c.in_default-next_byte.ensures.covered
    ∙ code_on-none c.next_byte.new.crc left.bytes
    (ended left.pec c.next_byte.new.crc left.bytes c.in_default-next_byte.ensures.bytes.1)

pub returns-in-Some-take_leg : goal.returns-in-Some-take_leg
returns-in-Some-take_leg c =
    let k = (goal.at.returns-in-Some-take_leg c).In_default-next_byte in
    let old : Course = c.args.self.now in
    let l : LegData = leg_data c.in-Some-take_leg.leg in
    let next : Course = record {
      owed = old.owed;
      leg = c.in-Some-take_leg.leg;
      crc = c.code_before-self.result;
      legs =
          c.take_leg.new.self;
      stop = old.stop;
    } in
    not_owed old c.in_default.is
    ∙ next_leg old.stop old.leg.last (with_code old.leg.pec old.crc (leg_data old.leg).bytes)
    (code_on old.crc (leg_data old.leg).bytes) c.next_byte.new.crc l (legs_data old.legs)
    (legs_data c.take_leg.new.self)
    c.in_default-next_byte.ensures.bytes.0 (so_far k) c.in-Some-take_leg.ensures
    ∙ ap (λ crc. Start ∷ (leg_events crc l ++ legs_events old.stop (code_on crc l.bytes)
    (legs_data c.take_leg.new.self))) (sym c.code_before-self.ensures)
    ∙ ap (λ events. Start ∷ events) (sym (not_owed next c.in_default.is))

pub returns-then-self : goal.returns-then-self
returns-then-self c =
    let old : Course = c.args.self.now in
    let left : LegData = leg_data c.next_byte.new.self in
    let next : Course = record {
      owed = old.owed;
      leg = c.next_byte.new.self;
      crc = c.next_byte.new.crc;
      legs =
          c.take_leg.new.self;
      stop = false;
    } in
    not_owed old c.in_default.is
    ∙ at_stop old.stop old.leg.last (with_code old.leg.pec old.crc (leg_data old.leg).bytes)
    (code_on old.crc (leg_data old.leg).bytes) (legs_data old.legs)
    c.in_default-next_byte.ensures.bytes.0 c.in_default-take_leg.ensures.0 c.if-self.true
    ∙ ap (λ events. Stop ∷ events)
    (sym (not_owed next c.in_default.is
    ∙ at_end false left.last (with_code left.pec c.next_byte.new.crc left.bytes)
    (code_on c.next_byte.new.crc left.bytes) (legs_data c.take_leg.new.self)
    c.in_default-next_byte.ensures.bytes.1 c.in_default-take_leg.ensures.1 refl))

pub returns : goal.returns
returns c =
    let old : Course = c.args.self.now in
    let left : LegData = leg_data c.next_byte.new.self in
    let next : Course = record {
      owed = old.owed;
      leg = c.next_byte.new.self;
      crc = c.next_byte.new.crc;
      legs =
          c.take_leg.new.self;
      stop = old.stop;
    } in (
      not_owed old c.in_default.is
          ∙ at_end old.stop old.leg.last (with_code old.leg.pec old.crc (leg_data old.leg).bytes)
          (code_on old.crc (leg_data old.leg).bytes) (legs_data old.legs)
          c.in_default-next_byte.ensures.bytes.0 c.in_default-take_leg.ensures.0 c.if-self.false,
      not_owed next c.in_default.is
          ∙ at_end old.stop left.last (with_code left.pec c.next_byte.new.crc left.bytes)
          (code_on c.next_byte.new.crc left.bytes) (legs_data c.take_leg.new.self)
          c.in_default-next_byte.ensures.bytes.1 c.in_default-take_leg.ensures.1 c.if-self.false,
    )
