-- A whole canonical packet that is taken at once, between two packets. For `take_whole`. Between
-- packets the reader has no event under way, so the packet is the next span, and the lexer passes
-- over its text.
use Rattle.std.proofs.Common.{◌≡◌, ℕ, ◌+◌, List, [], ◌++◌, length, take, sym, ap, subst, length-append}
use Rattle.pmb_bus.specs.declared.event.Event.{Event}
use Rattle.pmb_bus.specs.Event.{canonical_text}
use Rattle.pmb_bus.specs.declared.lexer.Lexer.{Lexer}
use Rattle.pmb_bus.specs.Lexer.{LexerStandsAt}
use Rattle.pmb_bus.specs.Text.{EndsBetween}
use Rattle.pmb_bus.proofs.Spelling.{spells_ended}
use Rattle.pmb_canonical.specs.Canonical.{TakesPacket}
use Rattle.pmb_reader.specs.Reader.{Standing, Open, Held, Passing, IsBetween, ReaderStandsAt, last_read}
use Rattle.pmb_scan.specs.declared.scan.Scan.{Scan}
use Rattle.pmb_scan.specs.Reached.{Reached}
use Rattle.pmb_scan.specs.Scan.{ScanStandsAt}
use Rattle.pmb_scan.specs.machine.Whole.{TakesWhole}
use Rattle.pmb_scan.proofs.Reporting.{reads_whole}

-- what it is to stand between two packets
pub stands_between : (standing : Standing) → IsBetween standing → (n : ℕ) × (standing ≡ Open n [])
stands_between (Open n events) none = (n, ap (λ (es : List Event). Open n es) none)
stands_between (Held n refusal) between = absurd between
stands_between (Passing n) between = absurd between

-- the lexer and the reader pass over what was taken
pub takes_whole : (reached : Reached) (piece : List ℕ) (used count : ℕ) (scan after : Scan) → ScanStandsAt scan reached
    → EndsBetween reached.text
    → (n : ℕ) → reached.standing ≡ Open n []
    → (taken : TakesPacket reached.profile piece used count (last_read after.reader))
    → take used piece ≡ canonical_text taken.events
    → LexerStandsAt after.lexer (length reached.text + length (take used piece)) (reached.text ++ take used piece)
    (reached.events ++ taken.events)
    → ReaderStandsAt reached.profile after.reader (Open (n + count) []) → TakesWhole reached piece used count after
takes_whole reached piece used count scan after stands between n at taken text lexer reader =
    let bytes = take used piece in record {
      n = n;
      events = taken.events;
      standing = at;
      between = between;
      spells = spells_ended reached.text reached.events stands.lexer.ended between.0;
      whole = record { packet = taken.packet; text = text };
      counted = taken.all;
      stands = record {
        lexer = subst (λ (k : ℕ). LexerStandsAt after.lexer k (reached.text ++ bytes) (reached.events ++ taken.events))
            (sym (length-append reached.text bytes)) lexer;
        reader = reads_whole reached n bytes taken.events (last_read after.reader) after.reader at stands.reader.reads
            taken.packet
            (subst (λ (k : ℕ). ReaderStandsAt reached.profile after.reader (Open (n + k) [])) taken.all reader);
      };
    }

-- the reader stands between two packets where it stood, and the lexer is the same
pub stands_still : (reached : Reached) (old new : Scan) → ScanStandsAt old reached → new.lexer ≡ old.lexer → (n : ℕ)
    → reached.standing ≡ Open n []
    → (ReaderStandsAt reached.profile old.reader (Open n []) → ReaderStandsAt reached.profile new.reader (Open n []))
    → ScanStandsAt new reached
stands_still reached old new stands same n at still = record {
  lexer = subst (λ (l : Lexer). LexerStandsAt l (length reached.text) reached.text reached.events)
      (sym same) stands.lexer;
  reader = record {
    stands = subst (ReaderStandsAt reached.profile new.reader) (sym at)
        (still (subst (ReaderStandsAt reached.profile old.reader) at stands.reader.stands));
    reads = stands.reader.reads;
  };
}
