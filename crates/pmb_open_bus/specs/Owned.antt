-- What an open bus owns: a lifetime of its own, the session at that lifetime, the right to have the ground back when
-- it has ended, and the rights to free the two blocks.
use Rattle.std.specs.Prelude.{ℕ, [], ◌∷◌}
use Rattle.std.specs.declared.option.Option.TheVariants.{Some}
use Rattle.std.specs.declared.alloc.Global.{Global}
use Rattle.std.specs.contracts.impls.GlobalAllocator.TheImpl.{ghosts}
use base.Fml.{Lft, Fml, fsep, fex, flft, flent}
use base.Fraction.{full_share}
use mir.Syntax.{static}
use mir.Raw.{raw}
use denote.Memory.{lone}
use denote.RattleType.{RattleType}
use denote.RawPtr.{Ptr, lies_at}
use Rattle.pmb_bus_session.specs.declared.session.BusGround.{BusGround}
use Rattle.pmb_bus_session.specs.declared.session.BusSession.{BusSession}
use Rattle.pmb_bus_session.specs.contracts.session.BusGround as ground_of
use Rattle.pmb_open_bus.specs.declared.seat.Seat.{Seat}
use Rattle.pmb_open_bus.specs.contracts.seat.Seat as seat_of

-- a seat at the lifetime κ
abbrev pub seat_at : Lft → RattleType
seat_at κ = seat_of.the_row (record { mir = static; lft = κ })

-- one with this session in it
abbrev pub seat_with : BusSession → Seat
seat_with session = record { inner = Some session }

-- the session lives on the ground while the lifetime is α
abbrev pub lives : Ptr → Ptr → BusGround → BusSession → ℕ → Fml
lives below at base session α =
    fsep (lies_at (seat_at (α ∷ [])) full_share at (seat_with session))
    (fsep (flft (α ∷ []) full_share) (flent (α ∷ []) (lies_at ground_of.the_row full_share below base)))

-- the rights to free the ground's block and the seat's
abbrev pub frees : Global → Global → Ptr → Ptr → Fml
frees home room below at =
    fsep (ghosts.dealloc_token home (raw (lone ground_of.the_row.mir)) below)
    (ghosts.dealloc_token room (raw (lone (seat_at []).mir)) at)

abbrev pub bus_owns : Global → Global → Ptr → Ptr → BusGround → BusSession → Fml
bus_owns home room below at base session = fsep (fex ℕ (lives below at base session)) (frees home room below at)
