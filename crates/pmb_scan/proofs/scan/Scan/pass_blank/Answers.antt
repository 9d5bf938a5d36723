-- The lexer passes over what spells nothing.
use Rattle.std.proofs.Common.{◌+◌, ℕ, List, [], ◌++◌, length, take, sym, subst, append-nil, length-append}
use Rattle.pmb_bus.specs.declared.event.Event.{Event}
use Rattle.pmb_bus.specs.Lexer.{LexerStandsAt}
use Rattle.pmb_bus.specs.Text.{EndsBetween}
use Rattle.pmb_scan.proofs.Blanks.{stands_behind_none}
use Rattle.pmb_scan.proofs.Reporting.{reads_on}
use Rattle.pmb_scan.proofs.scan.Scan.pass_blank.Goals as goal

pub returns-then-not-is_between-clause-stands : goal.returns-then-not-is_between-clause-stands
returns-then-not-is_between-clause-stands c reached stands = stands_behind_none c.args.self.now reached stands

pub returns-clause-stands : goal.returns-clause-stands
returns-clause-stands c reached stands =
    let bytes = take c.front_blank-blank.result c.args.piece.now in
    let between : EndsBetween reached.text =
    (c.is_between.ensures.between (length reached.text) reached.text reached.events stands.lexer).0
    c.if-not-is_between.false in
    let skipped = c.skip.ensures.stands (length reached.text) reached.text reached.events [] stands.lexer between
    c.front_blank-blank.ensures.between c.front_blank-blank.ensures.spells in record {
      lexer = subst (λ (n : ℕ). LexerStandsAt c.skip.new.self n (reached.text ++ bytes) reached.events)
          (sym (length-append reached.text bytes))
          (subst (λ (events : List Event). LexerStandsAt c.skip.new.self (length reached.text + length bytes)
          (reached.text ++ bytes) events) (append-nil reached.events) skipped);
      reader = reads_on c.args.self.now.reader reached bytes stands.reader;
    }
