-- What a scan does with a piece of a capture's text, and at its end.
--
-- `ScanStandsAt scan reached` says that a scan was given the bytes reached since `new`, and that
-- more may follow; `HasRead scan reached` that its reader was given the events reached, also after
-- a word that is no token and after the end of the bytes. What both say of a scan's own fields is
-- in `machine`, and nothing here needs it to be understood.
use Rattle.std.specs.Prelude.{◌≡◌, ℕ, ◌+◌, ◌<◌, Option, Some, None, List, [], ◌∷◌, ◌++◌, length, take}
use Rattle.pmb_bus.specs.declared.event.Event.{Event}
use Rattle.pmb_bus.specs.declared.lexer.LexFault.{LexFault}
use Rattle.pmb_bus.specs.LexFault.{IsFaultOf, OpenWordIsBad}
use Rattle.pmb_bus.specs.Text.{BeginsText, EndedWordsSpell, Spells}
use Rattle.pmb_reader.specs.declared.refusal.Refusal.{Refusal}
use Rattle.pmb_reader.specs.Refusal.{refusal_data}
use Rattle.pmb_reader.specs.Reader.{Standing, Open, Held, Passing}
use Rattle.pmb_scan.specs.declared.scan.Scan.{Scan}
use Rattle.pmb_scan.specs.declared.scan.PieceEnd.{PieceEnd}
use Rattle.pmb_scan.specs.declared.scan.PieceEnd.TheVariants.{All, Fault}
use Rattle.pmb_spans.specs.Spans.{Span, TruncatedSpan}
use Rattle.pmb_scan.specs.Reached.{Reached, EndsWith}
pub use Rattle.pmb_scan.specs.machine.Standing.{ScanStandsAt, HasRead}

-- In what follows a visitor was told what was reached, and a text was put out for it.
module _ (Visited : Reached → List ℕ → Type 0) where
  -- the next event
  pub record TakesEvent (reached : Reached) (event : Event) (after : Scan) (text : List ℕ) : Type 0 where
    pub there : Reached
    pub profile : there.profile ≡ reached.profile
    pub same_text : there.text ≡ reached.text
    pub events : there.events ≡ reached.events ++ event ∷ []
    pub reads : HasRead after there
    pub visited : Visited there text

  -- The next piece, all of which is used.
  pub record TakesAll (reached : Reached) (piece : List ℕ) (after : Scan) (text : List ℕ) : Type 0 where
    pub there : Reached
    pub profile : there.profile ≡ reached.profile
    pub used : there.text ≡ reached.text ++ piece
    pub stands : ScanStandsAt after there
    pub visited : Visited there text

  -- The next piece, used up to a byte that no text of events can have there: a word is no token.
  pub record StopsAtBadWord (reached : Reached) (piece : List ℕ) (used : ℕ) (fault : LexFault) (after : Scan)
      (text : List ℕ) : Type 0 where
    pub there : Reached
    pub profile : there.profile ≡ reached.profile
    pub within : used < length piece
    pub used_up_to : there.text ≡ reached.text ++ take used piece
    pub ended : EndedWordsSpell there.text there.events
    pub begins : BeginsText there.text
    pub stops : BeginsText (reached.text ++ take (used + 1) piece) → ⊥
    pub at : IsFaultOf (length there.text) there.text fault
    pub bad : (more : List ℕ) → OpenWordIsBad there.text ((reached.text ++ piece) ++ more) there.events
    pub reads : HasRead after there
    pub visited : Visited there text

  -- what a piece comes to
  abbrev pub TakesPiece : Reached → List ℕ → PieceEnd → Scan → List ℕ → Type 0
  TakesPiece reached piece All after text = TakesAll reached piece after text
  TakesPiece reached piece (Fault used fault) after text = StopsAtBadWord reached piece used fault after text

  -- The bytes end, and spell the events.
  pub record EndsWords (reached : Reached) (after : Scan) (text : List ℕ) : Type 0 where
    pub there : Reached
    pub profile : there.profile ≡ reached.profile
    pub same_text : there.text ≡ reached.text
    pub spells : Spells reached.text there.events
    pub reads : HasRead after there
    pub visited : Visited there text

  -- The bytes end in a word that is no token. What was reached is as before.
  pub record EndsInBadWord (reached : Reached) (fault : LexFault) (after : Scan) (text : List ℕ) : Type 0 where
    pub spells_none : (others : List Event) → Spells reached.text others → ⊥
    pub at : IsFaultOf (length reached.text) reached.text fault
    pub bad : OpenWordIsBad reached.text reached.text reached.events
    pub reads : HasRead after reached
    pub visited : Visited reached text

  -- what the end of the bytes comes to
  abbrev pub TakesEnd : Reached → Option LexFault → Scan → List ℕ → Type 0
  TakesEnd reached None after text = EndsWords reached after text
  TakesEnd reached (Some fault) after text = EndsInBadWord reached fault after text

-- The span of an end inside a packet, with the events of the packet. An end anywhere else is not
-- refused, since there is no packet to be truncated.
abbrev pub end_spans : Standing → Option Refusal → List Span
end_spans (Open n events) None = []
end_spans (Open n events) (Some refusal) = TruncatedSpan n events (refusal_data refusal) ∷ []
end_spans (Held n held) None = []
end_spans (Held n held) (Some refusal) = TruncatedSpan n [] (refusal_data refusal) ∷ []
end_spans (Passing n) None = []
end_spans (Passing n) (Some refusal) = TruncatedSpan n [] (refusal_data refusal) ∷ []

-- what the end of the events comes to
abbrev pub Truncates : Reached → Option Refusal → Type 0
Truncates reached end = EndsWith reached (end_spans reached.standing end)
