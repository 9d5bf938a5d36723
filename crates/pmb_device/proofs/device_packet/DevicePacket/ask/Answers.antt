use Rattle.std.proofs.Common.{List, ℕ, ◌≤◌, length, refl, sym, ap, subst, ◌∙◌}
use Rattle.std.specs.List.{slice_get}
use Rattle.std.proofs.lemmas.Option.{slice_get_read}
use Rattle.pmb_device.proofs.Asking.{behind_ask, gives_byte, gives_no_more, gives_none_yet}
use Rattle.pmb_device.proofs.device_packet.DevicePacket.ask.Goals as goal

pub returns-in_default : goal.returns-in_default
returns-in_default c = λ device state legs stands. behind_ask c.args.self.now device state legs c.in_default.not-Reply
    stands

pub returns-then-self : goal.returns-then-self
returns-then-self c = λ device state legs stands. gives_none_yet c.args.self.now device state legs c.in-Reply.is
    c.if-self.true stands

pub returns-in-Some : goal.returns-in-Some
returns-in-Some c = λ device state legs stands.
    let there = slice_get_read c.as_slice.result.now _ c.args.self.now.given c.in-Some.byte.now refl
    c.in-Some.ensures.lookup.3.0 c.in-Some.ensures.lookup.1 in
    let found = ap (λ (bytes : List ℕ). slice_get bytes c.args.self.now.given) (sym c.as_slice.ensures.value) ∙ there in
    gives_byte c.args.self.now device state legs _ c.in-Reply.is c.if-self.false found stands

pub returns-in-None : goal.returns-in-None
returns-in-None c = λ device state legs stands.
    let past = subst (λ (bytes : List ℕ). length bytes ≤ c.args.self.now.given) c.as_slice.ensures.value
    c.in-None.ensures.lookup.3 in
    gives_no_more c.args.self.now device state legs c.in-Reply.is past stands
