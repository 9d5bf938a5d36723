-- What a `Times` keeps of the text that it was given.
use Rattle.std.specs.Prelude.{◌≡◌, ℕ, ◌==◌, ◌&&◌, not, Bool, true, false, Option, Some, None, if◌then◌else◌, List, []}
use Rattle.std.specs.Prelude.{◌∷◌, ◌++◌}
use Rattle.pmb_bus.specs.Event.{character}
use Rattle.pmb_bus.specs.Text.{EndsBetween, ends_in_comment, is_separator, is_word, open_word}
use Rattle.pmb_times.specs.declared.times.LineState.{LineState}
use Rattle.pmb_times.specs.declared.times.LineState.TheVariants.{Empty, Kept, Between, Word, Comment}
use Rattle.pmb_times.specs.declared.times.Times.{Times}
use Rattle.pmb_times.specs.Line.{line_time}
use Rattle.pmb_times.specs.Text.{line_behind, time_behind, time_of_last_word}

-- ---- one byte more

-- what a byte stands in that is in no comment yet
abbrev pub outside_of : ℕ → LineState
outside_of b = if b == character "\n" then Empty else if b == character "#" then Comment
    else if is_separator b then Between else Word

-- what the line is after one byte more, but for its length
abbrev pub state_behind : LineState → ℕ → LineState
state_behind Empty b = if b == character "#" then Kept else outside_of b
state_behind Kept b = if b == character "\n" then Empty else Kept
state_behind Between b = outside_of b
state_behind Word b = outside_of b
state_behind Comment b = if b == character "\n" then Empty else Comment

abbrev pub is_in_a_word : LineState → Bool
is_in_a_word Empty = false
is_in_a_word Kept = false
is_in_a_word Between = false
is_in_a_word Word = true
is_in_a_word Comment = false

-- whether neither a word nor a comment is under way
abbrev pub is_between : LineState → Bool
is_between Empty = true
is_between Kept = false
is_between Between = true
is_between Word = false
is_between Comment = false

-- whether a comment is under way
abbrev pub is_comment : LineState → Bool
is_comment Empty = false
is_comment Kept = true
is_comment Between = false
is_comment Word = false
is_comment Comment = true

-- whether a word begins between two states
abbrev pub begins_between : LineState → LineState → Bool
begins_between before after = is_in_a_word after && not (is_in_a_word before)

-- what is kept of the gap under way and of the last word, where the gap ends with a word's begin
abbrev pub gap_behind : LineState → LineState → List ℕ → List ℕ
gap_behind before after gap = if begins_between before after then [] else gap

abbrev pub word_behind : LineState → LineState → List ℕ → List ℕ → List ℕ
word_behind before after gap word = if begins_between before after then gap else word

-- ---- what is kept

-- no bytes are kept where there is no time
abbrev pub kept_time : List ℕ → Option (List ℕ)
kept_time [] = None
kept_time (b ∷ time) = Some (b ∷ time)

-- a line that begins so is no time line, however it goes on
abbrev pub NoTime : List ℕ → Type 0
NoTime line = (more : List ℕ) → line_time (line ++ more) ≡ None

-- a word is under way, and no comment, so that no time was told since the word
abbrev pub EndsInWord : List ℕ → Type 0
EndsInWord text = (is_word (open_word text) ≡ true) × (ends_in_comment text ≡ false) × (time_behind text ≡ None)

-- what the line under way is, and where the text ends
abbrev pub LineStandsAt : LineState → List ℕ → List ℕ → Type 0
LineStandsAt Empty line text = (line_behind text ≡ []) × EndsBetween text
LineStandsAt Kept line text = (line_behind text ≡ line) × (ends_in_comment text ≡ true)
LineStandsAt Between line text = NoTime (line_behind text) × EndsBetween text
LineStandsAt Word line text = NoTime (line_behind text) × EndsInWord text
LineStandsAt Comment line text = NoTime (line_behind text) × (ends_in_comment text ≡ true)

-- of the fields one by one
pub record FieldsStandAt (state : LineState) (line gap word text : List ℕ) : Type 0 where
  pub line_is : LineStandsAt state line text
  pub gap_is : kept_time gap ≡ time_behind text
  pub word_is : kept_time word ≡ time_of_last_word text

abbrev pub TimesStandAt : Times → List ℕ → Type 0
TimesStandAt times text = FieldsStandAt times.state times.line.items times.gap.items times.word.items text
