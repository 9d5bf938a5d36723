-- The subcommands by their names and matches, for `AskedOnce`: one subcommand was met, with one name, which a letter
-- tells from all others (105, `i`, is that of `import`, 106, `j`, that of `json`, and 108, `l`, that of `log`), and
-- its matches choose one thing.
use Rattle.std.proofs.Common.{◌≡◌, ◌≤◌, ℕ, ◌==◌, if◌then◌else◌, Option, Some, None, List, [], get_or, codes, refl, sym}
use Rattle.std.proofs.Common.{ap, ap₂, ◌∙◌, subst, arith}
use Rattle.clap.specs.Words.{Row, Text}
use Rattle.pmb_args.specs.Asked.{FlagsAsk, NameAsks, Wanted, Show, Check, Json, Log, Stats, Build, Run, Profile}
use Rattle.pmb_args.specs.Asked.{converter, name_of, wanted_by}
use Rattle.pmb_args.specs.declared.direction.Direction.{Direction}
use Rattle.pmb_args.specs.declared.direction.Direction.TheVariants.{Encode, Decode}
use Rattle.pmb_args.specs.Facts.{FactsAsk, FactsCommand, FactsWanted, json, log, stats, at_first, command_name}
use Rattle.pmb_args.specs.Facts.{default_digits}
use Rattle.pmb_args.specs.Faults.{AreWrong, AreWrongStats}
use Rattle.pmb_args.specs.Stats.{StatsAsk, StatsWanted, table_of}
use Rattle.pmb_args.specs.declared.facts_fault.FactsFault.{FactsFault}
use Rattle.pmb_args.specs.declared.stats_fault.StatsFault.{StatsFault}
use Rattle.pmb_args.specs.declared.stats_fault.StatsFault.TheVariants.{Facts}
use Rattle.pmb_args.proofs.FactsOnce.{one_wanted, wrong_asks_nothing}
use Rattle.pmb_args.proofs.StatsOnce.{one_stats, wrong_asks_no_stats}

-- ---- the subcommand that was met

-- the name of the subcommand, and its matches
name_in : Option (Text × List Row) → Text
name_in None = []
name_in (Some met) = met.0

rows_in : Option (Text × List Row) → List Row
rows_in None = []
rows_in (Some met) = met.1

-- one subcommand has one name, and one list of matches
pub one_name : (found : Option (Text × List Row)) (name other : Text) (rows others : List Row)
    → found ≡ Some (name, rows) → found ≡ Some (other, others) → name ≡ other
unfolding name_in
one_name found name other rows others first second = ap name_in (sym first ∙ second)

pub one_rows : (found : Option (Text × List Row)) (name other : Text) (rows others : List Row)
    → found ≡ Some (name, rows) → found ≡ Some (other, others) → rows ≡ others
unfolding rows_in
one_rows found name other rows others first second = ap rows_in (sym first ∙ second)

-- the letter that tells a name apart: its first, and after an `s` (115) its second
abbrev letter_in : Text → ℕ
letter_in name = if get_or name 0 0 == 115 then get_or name 1 0 else get_or name 0 0

abbrev letter_of : Wanted → ℕ
letter_of Show = 104
letter_of Check = 99
letter_of (Json choice) = 106
letter_of (Log choice) = 108
letter_of (Stats choice) = 116
letter_of Build = 98
letter_of Run = 114
letter_of Profile = 112

abbrev converter_letter : Direction → ℕ
converter_letter Encode = 101
converter_letter Decode = 100

begins : (wanted : Wanted) → letter_in (name_of wanted) ≡ letter_of wanted
begins Show = refl
begins Check = refl
begins (Json choice) = refl
begins (Log choice) = refl
begins (Stats choice) = refl
begins Build = refl
begins Run = refl
begins Profile = refl

converter_begins : (direction : Direction) → letter_in (converter direction) ≡ converter_letter direction
converter_begins Encode = refl
converter_begins Decode = refl

-- what the flags of a subcommand say more of: nothing, facts with these digits by default, or sums
data Flags : Type 0 where
  no_flags : Flags
  fact_flags : (default : ℕ) → Flags
  stats_flags : Flags

abbrev flags_of : Wanted → Flags
flags_of Show = no_flags
flags_of Check = no_flags
flags_of (Json choice) = fact_flags (default_digits json)
flags_of (Log choice) = fact_flags (default_digits log)
flags_of (Stats choice) = stats_flags
flags_of Build = no_flags
flags_of Run = no_flags
flags_of Profile = no_flags

-- the letter tells them too
abbrev flags_at : ℕ → Flags
flags_at letter = if letter == 106 then fact_flags (default_digits json) else if letter == 108 then
    fact_flags (default_digits log) else if letter == 116 then stats_flags else no_flags

flags_are : (wanted : Wanted) → flags_at (letter_of wanted) ≡ flags_of wanted
flags_are Show = refl
flags_are Check = refl
flags_are (Json choice) = refl
flags_are (Log choice) = refl
flags_are (Stats choice) = refl
flags_are Build = refl
flags_are Run = refl
flags_are Profile = refl

-- what the flags choose, or anything where they say nothing
abbrev any_choice : StatsWanted
any_choice = table_of (at_first json)

abbrev choice_in : Wanted → StatsWanted
choice_in Show = any_choice
choice_in Check = any_choice
choice_in (Json choice) = table_of choice
choice_in (Log choice) = table_of choice
choice_in (Stats choice) = choice
choice_in Build = any_choice
choice_in Run = any_choice
choice_in Profile = any_choice

-- what a letter stands for, where the flags choose this
abbrev wanted_at : StatsWanted → ℕ → Wanted
wanted_at choice letter = if letter == 104 then Show else if letter == 99 then Check else if letter == 106 then
    Json choice.facts else if letter == 108 then Log choice.facts else if letter == 116 then Stats choice else
    if letter == 98 then Build else if letter == 114 then Run else Profile

has_letter : (wanted : Wanted) → wanted_at (choice_in wanted) (letter_of wanted) ≡ wanted
has_letter Show = refl
has_letter Check = refl
has_letter (Json choice) = refl
has_letter (Log choice) = refl
has_letter (Stats choice) = refl
has_letter Build = refl
has_letter Run = refl
has_letter Profile = refl

-- the flags choose this
abbrev Choose : Flags → List Row → StatsWanted → Type 0
Choose no_flags rows choice = choice ≡ any_choice
Choose (fact_flags default) rows choice =
    (facts : FactsWanted) × (choice ≡ table_of facts) × FactsAsk default rows facts
Choose stats_flags rows choice = StatsAsk rows choice

flags_choose : (rows : List Row) (wanted : Wanted) → FlagsAsk rows wanted
    → Choose (flags_of wanted) rows (choice_in wanted)
flags_choose rows Show flags = refl
flags_choose rows Check flags = refl
flags_choose rows (Json choice) flags = (choice, refl, flags)
flags_choose rows (Log choice) flags = (choice, refl, flags)
flags_choose rows (Stats choice) flags = flags
flags_choose rows Build flags = refl
flags_choose rows Run flags = refl
flags_choose rows Profile flags = refl

one_choice : (flags : Flags) (rows : List Row) (a b : StatsWanted) → Choose flags rows a → Choose flags rows b → a ≡ b
one_choice no_flags rows a b left right = left ∙ sym right
one_choice (fact_flags default) rows a b left right =
    left.1 ∙ ap table_of (one_wanted default rows left.0 right.0 left.2 right.2) ∙ sym right.1
one_choice stats_flags rows a b left right = one_stats rows a b left right

-- a name's letter
same_letter : (name other : Text) → name ≡ other → letter_in name ≡ letter_in other
same_letter name other same = ap letter_in same

-- one name and one list of matches ask for one thing
pub one_of_name : (rows : List Row) (a b : Wanted) → name_of a ≡ name_of b → FlagsAsk rows a → FlagsAsk rows b → a ≡ b
one_of_name rows a b same left right =
    let letter : letter_of a ≡ letter_of b = sym (begins a) ∙ same_letter (name_of a) (name_of b) same ∙ begins b in
    let flags : flags_of a ≡ flags_of b = sym (flags_are a) ∙ ap flags_at letter ∙ flags_are b in
    let chosen = subst (λ (f : Flags). Choose f rows (choice_in a)) flags (flags_choose rows a left) in
    let choice = one_choice (flags_of b) rows (choice_in a) (choice_in b) chosen (flags_choose rows b right) in
    sym (has_letter a) ∙ ap₂ wanted_at choice letter ∙ has_letter b

pub one_direction : (a b : Direction) → converter a ≡ converter b → a ≡ b
one_direction a b same = by a b (sym (converter_begins a) ∙ same_letter _ _ same ∙ converter_begins b)
  where
    by : (a b : Direction) → converter_letter a ≡ converter_letter b → a ≡ b
    by Encode Encode is = refl
    by Encode Decode is = absurd (omega (arith, is))
    by Decode Encode is = absurd (omega (arith, is))
    by Decode Decode is = refl

-- what converts wants no profile
pub other_name : (wanted : Wanted) (direction : Direction) → name_of wanted ≡ converter direction → ⊥
other_name wanted direction same = by wanted direction (sym (begins wanted) ∙ same_letter _ _ same
    ∙ converter_begins direction)
  where
    converts : (direction : Direction) → (100 ≤ converter_letter direction) × (converter_letter direction ≤ 101)
    converts Encode = (omega arith, omega arith)
    converts Decode = (omega arith, omega arith)

    by : (wanted : Wanted) (direction : Direction) → letter_of wanted ≡ converter_letter direction → ⊥
    by Show direction is = omega (arith, is, (converts direction).1)
    by Check direction is = omega (arith, is, (converts direction).0)
    by (Json choice) direction is = omega (arith, is, (converts direction).1)
    by (Log choice) direction is = omega (arith, is, (converts direction).1)
    by (Stats choice) direction is = omega (arith, is, (converts direction).1)
    by Build direction is = omega (arith, is, (converts direction).0)
    by Run direction is = omega (arith, is, (converts direction).1)
    by Profile direction is = omega (arith, is, (converts direction).1)

-- `import` wants no profile, and converts nothing
pub wants_no_import : (wanted : Wanted) → name_of wanted ≡ codes "import" → ⊥
wants_no_import wanted same = by wanted (sym (begins wanted) ∙ same_letter _ _ same)
  where
    by : (wanted : Wanted) → letter_of wanted ≡ 105 → ⊥
    by Show is = omega (arith, is)
    by Check is = omega (arith, is)
    by (Json choice) is = omega (arith, is)
    by (Log choice) is = omega (arith, is)
    by (Stats choice) is = omega (arith, is)
    by Build is = omega (arith, is)
    by Run is = omega (arith, is)
    by Profile is = omega (arith, is)

pub converts_no_import : (direction : Direction) → converter direction ≡ codes "import" → ⊥
converts_no_import direction same = by direction (sym (converter_begins direction)
    ∙ same_letter _ _ same)
  where
    by : (direction : Direction) → converter_letter direction ≡ 105 → ⊥
    by Encode is = omega (arith, is)
    by Decode is = omega (arith, is)

-- the same number is no greater one
no_greater : (a b : ℕ) → a ≡ b → b ≤ a
no_greater a b same = omega (arith, same)

-- `scan` wants no profile, converts nothing, and is not `import`: the letter that tells it apart is that of `check`,
-- whose first one is another
pub wants_no_scan : (wanted : Wanted) → name_of wanted ≡ codes "scan" → ⊥
wants_no_scan wanted same = by wanted same (sym (begins wanted) ∙ same_letter _ _ same)
  where
    by : (wanted : Wanted) → name_of wanted ≡ codes "scan" → letter_of wanted ≡ 99 → ⊥
    by Show same is = omega (arith, is)
    by Check same is = omega (arith, no_greater 99 115 (ap (λ (name : Text). get_or name 0 0) same))
    by (Json choice) same is = omega (arith, is)
    by (Log choice) same is = omega (arith, is)
    by (Stats choice) same is = omega (arith, is)
    by Build same is = omega (arith, is)
    by Run same is = omega (arith, is)
    by Profile same is = omega (arith, is)

pub converts_no_scan : (direction : Direction) → converter direction ≡ codes "scan" → ⊥
converts_no_scan direction same = by direction (sym (converter_begins direction)
    ∙ same_letter _ _ same)
  where
    by : (direction : Direction) → converter_letter direction ≡ 99 → ⊥
    by Encode is = omega (arith, is)
    by Decode is = omega (arith, is)

pub scan_is_no_import : codes "scan" ≡ codes "import" → ⊥
scan_is_no_import same = omega (arith, no_greater 105 115 (ap (λ (name : Text). get_or name 0 0) (sym same)))

-- ---- matches that want nothing

-- `json`, `log` and `stats` by their names
pub is_named : (command : FactsCommand) (choice : FactsWanted)
    → name_of (wanted_by command choice) ≡ command_name command
is_named json choice = refl
is_named log choice = refl
is_named stats choice = refl

-- where nothing is chosen by the flags of one of these, it wants nothing
none_wanted : (command : FactsCommand) (rows : List Row)
    → ((choice : StatsWanted) → ¬ (Choose (flags_of (wanted_by command (at_first command))) rows choice))
    → (wanted : Wanted) → ¬ (NameAsks (command_name command) rows wanted)
none_wanted command rows none wanted asks =
    let other = wanted_by command (at_first command) in
    let name : name_of wanted ≡ name_of other = sym asks.0 ∙ sym (is_named command (at_first command)) in
    let letter : letter_of wanted ≡ letter_of other = sym (begins wanted)
    ∙ same_letter (name_of wanted) (name_of other) name ∙ begins other in
    let flags : flags_of wanted ≡ flags_of other = sym (flags_are wanted) ∙ ap flags_at letter ∙ flags_are other in
    none (choice_in wanted)
    (subst (λ (f : Flags). Choose f rows (choice_in wanted)) flags (flags_choose rows wanted asks.1))

-- as where the flags that all three have are wrong
pub facts_want_none : (command : FactsCommand) (rows : List Row) (fault : FactsFault) → AreWrong rows fault
    → (wanted : Wanted) → ¬ (NameAsks (command_name command) rows wanted)
facts_want_none json rows fault wrong =
    none_wanted json rows
    (λ choice chosen. wrong_asks_nothing (default_digits json) rows fault wrong chosen.0 chosen.2)
facts_want_none log rows fault wrong =
    none_wanted log rows
    (λ choice chosen. wrong_asks_nothing (default_digits log) rows fault wrong chosen.0 chosen.2)
facts_want_none stats rows fault wrong = none_wanted stats rows (wrong_asks_no_stats rows (Facts fault) wrong)

-- or those of `stats`
pub stats_want_none : (rows : List Row) (fault : StatsFault) → AreWrongStats rows fault
    → (wanted : Wanted) → ¬ (NameAsks (command_name stats) rows wanted)
stats_want_none rows fault wrong = none_wanted stats rows (wrong_asks_no_stats rows fault wrong)
