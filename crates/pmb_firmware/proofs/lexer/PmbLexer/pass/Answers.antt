use Rattle.std.proofs.Common.{◌≡◌, ℕ, ◌+◌, List, [], ◌++◌, length, take, sym, subst, arith}
use Rattle.std.proofs.lemmas.List.{append-nil, take_all}
use Rattle.pmb_firmware.specs.declared.lexer.PmbLexer.{PmbLexer}
use Rattle.pmb_firmware.specs.machine.Bytes.{IsEnd}
use Rattle.pmb_firmware.proofs.Ends.{next_ends}
use Rattle.pmb_firmware.proofs.lexer.PmbLexer.pass.Goals as goal

pub loop-byte-init : goal.loop-byte-init
loop-byte-init c = λ n text ends.
    let count : n ≡ n + 0 = omega arith in
    subst (λ (m : ℕ). IsEnd c.args.self.now m (text ++ [])) count
    (subst (λ (all : List ℕ). IsEnd c.args.self.now n all) (sym (append-nil text)) ends)

pub loop-byte-preserved : goal.loop-byte-preserved
loop-byte-preserved c = λ n text ends.
    let i = c.loop-byte.byte-index in
    subst (λ (lexer : PmbLexer). IsEnd lexer (n + (i + 1)) (text ++ take (i + 1) c.args.bytes.now))
    (sym c.go_on.ensures)
    (next_ends c.loop-byte.self n text c.args.bytes.now i c.loop-byte-test.true (c.loop-byte.invariant n text ends))

pub returns : goal.returns
returns c = λ n text ends.
    let i = c.loop-byte.byte-index in
    let bytes = c.args.bytes.now in
    let count : n + i ≡ n + length bytes = omega arith in
    subst (λ (m : ℕ). IsEnd c.loop-byte.self m (text ++ bytes)) count
    (
    subst (λ (part : List ℕ). IsEnd c.loop-byte.self (n + i) (text ++ part)) (take_all i bytes c.loop-byte-test.false)
    (c.loop-byte.invariant n text ends)
    )
