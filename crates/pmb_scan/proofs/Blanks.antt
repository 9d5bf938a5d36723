-- Bytes between two words, one after the other: separators, and comments up to their LF. For
-- `front_blank`, its loop, `pass_blank` and `take_words`. They spell nothing, and outside comments
-- a text may be cut after them.
use Rattle.std.proofs.Common.{◌≡◌, ℕ, ◌+◌, ◌<◌, Bool, false, List, [], ◌∷◌, ◌++◌, length, map, take, get_or, refl, sym}
use Rattle.std.proofs.Common.{ap, ◌∙◌, subst, append-nil}
use Rattle.std.specs.List.{filter}
use Rattle.std.proofs.lemmas.List.{take_more}
use Rattle.pmb_bus.specs.Event.{event_of}
use Rattle.pmb_bus.specs.Text.{EndsBetween, Spells, ended_words, ends_in_comment, in_comment, is_word, open_word}
use Rattle.pmb_bus.proofs.Spelling.{spells_ended}
use Rattle.pmb_bus.proofs.Words.{cut_by, ends_in_comment_by}
use Rattle.pmb_scan.specs.machine.Blank.{Passes}
use Rattle.pmb_scan.specs.Reached.{Reached, behind_bytes}
use Rattle.pmb_scan.specs.Scan.{ScanStandsAt}
use Rattle.pmb_scan.specs.declared.scan.Scan.{Scan}

-- a text without words, which ends in a comment or not
pub record IsBlank (text : List ℕ) (inside : Bool) : Type 0 where
  -- no word has ended and none is under way; whether a comment is open
  pub none : ended_words text ≡ []
  pub opened : open_word text ≡ []
  pub comment : inside ≡ ends_in_comment text

pub no_text : IsBlank [] false
no_text = record { none = refl; opened = refl; comment = refl }

-- it spells nothing
pub spells_nothing : (text : List ℕ) (inside : Bool) → IsBlank text inside → Spells text []
spells_nothing text inside blank = spells_ended text [] (ap (map event_of) blank.none) blank.opened

-- outside comments it ends between words
pub between : (text : List ℕ) → IsBlank text false → EndsBetween text
between text blank = (blank.opened, sym blank.comment)

-- a byte more
blank_by : (text : List ℕ) (byte : ℕ) (inside after : Bool) → IsBlank text inside → Passes inside byte after
    → IsBlank (text ++ byte ∷ []) after
blank_by text byte inside after blank passes =
    let cut = cut_by text byte (rw (sym blank.comment) passes.separates) in record {
      none = cut.ended ∙ (ap (λ (ws : List (List ℕ)). ws ++ filter is_word (open_word text ∷ [])) blank.none
          ∙ ap (λ (word : List ℕ). filter is_word (word ∷ [])) blank.opened);
      opened = cut.opened;
      comment = passes.comment ∙ (ap (λ (v : Bool). in_comment v byte) blank.comment
          ∙ sym (ends_in_comment_by text byte));
    }

pub blank_more : (text : List ℕ) (i : ℕ) (inside after : Bool) → i < length text → IsBlank (take i text) inside
    → Passes inside (get_or text i 0) after → IsBlank (take (i + 1) text) after
blank_more text i inside after within blank passes =
    subst (λ (t : List ℕ). IsBlank t after) (sym (take_more text i 0 within))
    (blank_by (take i text) (get_or text i 0) inside after blank passes)

-- no bytes more
pub stands_behind_none : (scan : Scan) (reached : Reached) → ScanStandsAt scan reached
    → ScanStandsAt scan (behind_bytes reached [])
stands_behind_none scan reached stands =
    subst (λ (text : List ℕ). ScanStandsAt scan (record reached { text = text })) (sym (append-nil reached.text)) stands

pub stands_before_none : (scan : Scan) (reached : Reached) → ScanStandsAt scan (behind_bytes reached [])
    → ScanStandsAt scan reached
stands_before_none scan reached stands =
    subst (λ (text : List ℕ). ScanStandsAt scan (record reached { text = text })) (append-nil reached.text) stands
