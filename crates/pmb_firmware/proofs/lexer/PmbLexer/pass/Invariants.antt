use Rattle.std.proofs.Common.{ℕ, ◌+◌, List, ◌++◌, take}
use Rattle.pmb_firmware.specs.machine.Bytes.{IsEnd}
use Rattle.pmb_firmware.proofs.lexer.PmbLexer.pass.Given as goal

-- the end of the bytes so far
abbrev pub invariant-loop-byte : goal.invariant-loop-byte
invariant-loop-byte l = (n : ℕ) (text : List ℕ) → IsEnd l.initial.self n text
    → IsEnd l.self (n + l.byte-index) (text ++ take l.byte-index l.bytes)
