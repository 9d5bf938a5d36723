-- What is said of a piece of a capture, beside what is said of the whole.
use Rattle.std.specs.Prelude.{◌≡◌, ◌⊎◌, ℕ, ◌+◌, IfSome, Option, Some, List, [], ◌∷◌, ◌++◌, codes}
use Rattle.std.specs.List.{Contains}
use Rattle.pmb_bus.specs.declared.event.Event.{Event}
use Rattle.pmb_bus.specs.Text.{EndsBetween, Spells}
use Rattle.pmb_command.specs.Parts.{DeviceParts, device_with}
use Rattle.pmb_unknown_start.specs.Certain.{CanBeCutAfter}
use Rattle.pmb_unknown_start.specs.declared.start.Start.{Start}
use Rattle.pmb_unknown_start.specs.declared.start.Start.TheVariants.{AllKnown}
use Rattle.pmb_json_text.specs.Json.{null, string}
use Rattle.pmb_json_text.specs.Member.{Member, named}
use Rattle.pmb_spans.specs.Spans.{Span, Spans}
use Rattle.pmb_transaction.specs.Cut.{EndsWithStop}
use Rattle.pmb_json_objects.specs.Object.{Object}
use Rattle.pmb_fact_stream.specs.Choice.{ChoiceData}
use Rattle.pmb_fact_stream.specs.Lost.{lost_in}
use Rattle.pmb_fact_stream.specs.Spans.{past_in}

-- the same choice, where all is known at first
abbrev pub all_known : ChoiceData → ChoiceData
all_known choice = record choice { start = AllKnown }

-- where an object begins, which moves with the piece
abbrev pub IsWhere : Member → Type 0
IsWhere m = (m.key ≡ codes "at") ⊎ ((m.key ≡ codes "line") ⊎ (m.key ≡ codes "column"))

-- that PAGE, PHASE, or the VOUT_MODE of a voltage, is not known, or that PAGE or this one is assumed
abbrev pub IsUnknown : Member → Type 0
IsUnknown m =
    (m ≡ named (codes "page") null)
    ⊎ ((m ≡ named (codes "phase") null)
    ⊎ ((m ≡ named (codes "raw") (string (codes "unknown")))
    ⊎ ((m ≡ named (codes "mode") (string (codes "assumed")))
    ⊎ (m ≡ named (codes "page_mode") (string (codes "assumed"))))))

-- A time that a piece tells is that of the whole. (Where the cut is after a time line, the piece
-- lacks that one.)
abbrev pub TellsNoMore : Option (List ℕ) → Option (List ℕ) → Type 0
TellsNoMore piece whole = IfSome piece (λ time. whole ≡ Some time)

-- so does that of each packet of a piece, before which n events come in the whole
abbrev pub TellNoMore : ℕ → (ℕ → Option (List ℕ)) → (ℕ → Option (List ℕ)) → Type 0
TellNoMore n times theirs = (at : ℕ) → TellsNoMore (times at) (theirs (n + at))

-- the keys of what a command's data mean: an exact value, the nearest number, an exact factor of
-- VOUT_COMMAND, a unit, the set bits of a register, a text, and what the fields of data say
abbrev pub meaning_keys : List (List ℕ)
meaning_keys =
    codes "value" ∷ codes "number" ∷ codes "ratio" ∷ codes "unit" ∷ codes "bits" ∷ codes "clears" ∷ codes "text"
    ∷ codes "says" ∷ []

abbrev pub IsMeaning : Member → Type 0
IsMeaning m = Contains meaning_keys m.key

-- whether a piece tells the times of the whole, or may tell others
pub data Timing : Type 0 where
  SameTimes : Timing
  OtherTimes : Timing

-- Each member that a piece gives is given by the whole, but for where it begins, for what is not
-- known, and for a time that may be another.
pub record SayNoMore (timing : Timing) (piece whole : List Member) : Type 0 where
  pub each : (m : Member) → Contains piece m
      → IsWhere m ⊎ (IsUnknown m ⊎ (((timing ≡ OtherTimes) × (m.key ≡ codes "time")) ⊎ Contains whole m))

-- An object of a piece is of the same device as that of the whole, and says no more.
pub record SaysNoMore (timing : Timing) (piece whole : Object) : Type 0 where
  pub device : piece.device ≡ whole.device
  pub members : SayNoMore timing piece.members whole.members

-- objects of a piece, each beside that of the whole
abbrev pub EachSaysNoMore : Timing → List Object → List Object → Type 0
EachSaysNoMore timing [] [] = Unit {0}
EachSaysNoMore timing [] (whole ∷ others) = ⊥
EachSaysNoMore timing (piece ∷ pieces) [] = ⊥
EachSaysNoMore timing (piece ∷ pieces) (whole ∷ others) =
    SaysNoMore timing piece whole × EachSaysNoMore timing pieces others

-- ---- where a piece is cut

-- the last byte is an LF
abbrev pub EndsWithLine : List ℕ → Type 0
EndsWithLine front = (lines : List ℕ) × (front ≡ lines ++ codes "\n")

-- After such bytes a capture can be cut, so that the rest is read late: they spell events of which
-- the last is STOP, they end in no word and no comment, and what was written to PAGE and VOUT_MODE, or read
-- as them, is what each device can have where the rest begins.
pub record CanBeCutBehind (profile : List DeviceParts) (start : Start) (front : List ℕ) : Type 0 where
  pub events : List Event
  pub spans : List Span
  pub spells : Spells front events
  pub stop : EndsWithStop events
  pub between : EndsBetween front
  pub reads : Spans profile events spans
  pub told : (addr : ℕ) (device : DeviceParts) → device_with addr profile ≡ Some device
      → CanBeCutAfter start device (past_in (lost_in profile 0 events) spans)
