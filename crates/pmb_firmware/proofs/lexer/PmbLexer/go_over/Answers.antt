use Rattle.std.proofs.Common.{◌++◌, ℕ, ap}
use Rattle.pmb_firmware.specs.declared.lexer.PmbLexer.{PmbLexer}
use Rattle.pmb_firmware.proofs.Ends.{ends_between}
use Rattle.pmb_firmware.proofs.lexer.PmbLexer.go_over.Goals as goal

pub returns-then-is_between : goal.returns-then-is_between
returns-then-is_between c = record {
  stands = λ n m text tail events ends is_tail stands.
      let before = c.args.self.now in
      let behind : ℕ → PmbLexer = λ used. record {
        used = used;
        at = before.at;
        place = 0;
        first =
            before.first;
        second = before.second;
      } in
      ends_between before (behind c.saturating_add-self.result) n text tail c.args.bytes.now ends is_tail
      ((c.is_between.ensures.between m (tail ++ c.args.bytes.now) events stands).0 c.if-is_between.true)
      (ap behind c.saturating_add-self.ensures);
  faulted = λ n text fault ends faulted. cc (c.is_between.ensures.faulted fault faulted, c.if-is_between.true);
}
