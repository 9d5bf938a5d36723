-- What an open reader owns: a lifetime of its own, the seat at that lifetime, the right to have the ground back when it
-- has ended, and the rights to free the two blocks.
use Rattle.std.specs.Prelude.{ℕ, Option, [], ◌∷◌}
use Rattle.std.specs.declared.alloc.Global.{Global}
use Rattle.std.specs.contracts.impls.GlobalAllocator.TheImpl.{ghosts}
use base.Fml.{Lft, Fml, fsep, fex, flft, flent}
use base.Fraction.{full_share}
use mir.Syntax.{static}
use mir.Raw.{raw}
use denote.Memory.{lone}
use denote.RattleType.{RattleType}
use denote.RawPtr.{Ptr, lies_at}
use Rattle.pmb_capture_reader.specs.declared.reader.CaptureReader.{CaptureReader}
use Rattle.pmb_capture_reader.specs.declared.reader_ground.ReaderGround.{ReaderGround}
use Rattle.pmb_capture_reader.specs.contracts.reader_ground.ReaderGround as ground_of
use Rattle.pmb_open_reader.specs.declared.seat.Seat.{Seat}
use Rattle.pmb_open_reader.specs.contracts.seat.Seat as seat_of

-- a seat at the lifetime κ
abbrev pub seat_at : Lft → RattleType
seat_at κ = seat_of.the_row (record { mir = static; lft = κ })

-- one with this in it
abbrev pub seat_with : Option CaptureReader → Seat
seat_with reader = record { inner = reader }

-- the seat and the borrowed ground while the lifetime is α
abbrev pub lives : Ptr → Ptr → ReaderGround → Option CaptureReader → ℕ → Fml
lives below at base reader α =
    fsep (lies_at (seat_at (α ∷ [])) full_share at (seat_with reader))
    (fsep (flft (α ∷ []) full_share) (flent (α ∷ []) (lies_at ground_of.the_row full_share below base)))

-- the rights to free the ground's block and the seat's
abbrev pub frees : Global → Global → Ptr → Ptr → Fml
frees home room below at =
    fsep (ghosts.dealloc_token home (raw (lone ground_of.the_row.mir)) below)
    (ghosts.dealloc_token room (raw (lone (seat_at []).mir)) at)

abbrev pub reader_owns : Global → Global → Ptr → Ptr → ReaderGround → Option CaptureReader → Fml
reader_owns home room below at base reader = fsep (fex ℕ (lives below at base reader)) (frees home room below at)
