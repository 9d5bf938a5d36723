-- What a handle owns says the same to every thread, where its value does: it is two words, and what a box owns.
use Rattle.pmb_handle.proofs.Steps.{List, [], Option, None, Some, Global, Val, RattleType, Ptr}
use base.Shift.{Keyless}
use denote.RawPtr.{rawptr_pure}
use denote.Param.Send.{IsSend, Pure-keyless}
use denote.Struct.Struct.{Struct-Pure}
use Rattle.std.proofs.Crossing.{Box-send}
use Rattle.std.proofs.alloc.Global.TheLaws as heap_laws
use Rattle.pmb_handle.specs.Owned.{handle_owns}
use Rattle.pmb_handle.proofs.Holds.{fields, Words}

pub words_keyless : (p : Ptr) (a : Global) (vs : List Val) → Keyless (Words.own_val (p, (a, tt)) vs)
words_keyless p a vs = Pure-keyless (Words.own_val (p, (a, tt)) vs)
    (Struct-Pure fields (rawptr_pure, (heap_laws.the_row_plain, tt)) (p, (a, tt)) vs)

pub owns_keyless : (R : RattleType) → IsSend R → (a : Global) (p : Ptr) (o : Option R.Denot)
    → Keyless (handle_owns R a p o)
owns_keyless R s a p None = tt
owns_keyless R s a p (Some x) = ((Box-send R s).owned (record { ptr = p; alloc = a; value = x }) []).1
