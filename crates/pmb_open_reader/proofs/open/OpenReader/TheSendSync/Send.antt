-- An `OpenReader` may go to another thread: beside its handles it owns what a box of the ground owns, and at each
-- lifetime what a box of the seat owns.
use Rattle.std.proofs.Common.{[], ◌∷◌}
use base.Fml.{Lft}
use base.Shift.{Keyless}
use mir.Syntax.{static}
use denote.Param.Send.{IsSend}
use denote.RattleType.{RattleType}
use denote.RawPtr.{Ptr}
use Rattle.std.proofs.Crossing as heap
use Rattle.std.specs.Box.Ownership.{box_owns}
use Rattle.std.specs.contracts.impls.GlobalAllocator.TheImpl.{ghosts}
use Rattle.std.specs.declared.alloc.Global.{Global}
use Rattle.pmb_capture_reader.specs.contracts.reader_ground.ReaderGround as ground
use Rattle.pmb_capture_reader.proofs.reader_ground.ReaderGround.TheSendSync as ground_sent
use Rattle.pmb_open_reader.proofs.seat.Seat.TheSendSync as seat
use Rattle.pmb_open_reader.specs.Owned.{seat_at, seat_with, reader_owns}
use Rattle.pmb_open_reader.specs.contracts.open.OpenReader.{the_row}

-- what a box owns beside its fields
boxed : (T : RattleType) → IsSend T → (home : Global) (p : Ptr) (x : T.Denot)
    → Keyless (box_owns (ghosts.dealloc_token home) T p x)
boxed T s home p x = ((heap.Box-send T s).owned (record { ptr = p; alloc = home; value = x }) []).1

beside : (d : the_row.Denot) → Keyless (reader_owns d.home d.room d.below d.at d.base d.is)
beside d =
    let below = boxed ground.the_row ground_sent.the_send d.home d.below d.base in
    let at = λ (α : Lft). boxed (seat_at α) (seat.the_send (record { mir = static; lft = α })) d.room d.at (seat_with
    d.is) in
    (λ α. ((at (α ∷ [])).0, (tt, below.0)), (below.1, (at []).1))

pub send : IsSend the_row
send = record {
  owned = λ d vs. (
    λ us. (tt, (tt, (tt, (heap.send.owned d.home us.1.1.0, (heap.send.owned d.room us.1.1.1.0, tt))))),
    beside d,
  );
  leaving = λ k d w. tt;
}
