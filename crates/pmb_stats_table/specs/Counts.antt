-- What a line says of the counts of facts, by their sorts: what is 0 is left out.
use Rattle.std.specs.Prelude.{ℕ, ◌==◌, if◌then◌else◌, List, [], ◌∷◌, ◌++◌, codes, decimal, map, sum}
use Rattle.std.specs.List.{flat_map}
use Rattle.pmb_facts.specs.Fact.{FactData}
use Rattle.pmb_io.specs.Count.{capped}
use Rattle.pmb_json_text.specs.declared.item_order.ItemOrder.TheVariants.{First}
use Rattle.pmb_log_data.specs.Text.{joined}
use Rattle.pmb_stats_counts.specs.declared.sort.NackPlace.{NackPlace}
use Rattle.pmb_stats_counts.specs.declared.sort.NackPlace.TheVariants.{Address, Code, Byte, ReadAddress}
use Rattle.pmb_stats_counts.specs.declared.sort.Sort.{Sort}
use Rattle.pmb_stats_counts.specs.declared.sort.Sort.TheVariants.{Writes, Reads, Calls, Alerts, Nacks}
use Rattle.pmb_stats_counts.specs.declared.sort.Sort.TheVariants.{Refusals, Others}
use Rattle.pmb_stats_counts.specs.Counts.{count_in_all}
use Rattle.pmb_stats_table.specs.Row.{after_gaps}
use Rattle.pmb_transaction.specs.declared.reason.Reason.TheVariants.{ReadFirst, BadRestart, BadPec, UnknownDevice}
use Rattle.pmb_transaction.specs.declared.reason.Reason.TheVariants.{UnknownCommand, TooLong, TooShort, WrongEvent}
use Rattle.pmb_transaction.specs.declared.reason.Reason.TheVariants.{Truncated}
use Rattle.pmb_transaction.specs.Names.{reason_name}

-- ---- names

abbrev pub place_name : NackPlace → List ℕ
place_name Address = codes "address"
place_name Code = codes "code"
place_name Byte = codes "byte"
place_name ReadAddress = codes "read address"

abbrev pub sort_name : Sort → List ℕ
sort_name Writes = codes "writes"
sort_name Reads = codes "reads"
sort_name Calls = codes "calls"
sort_name Alerts = codes "alerts"
sort_name (Nacks place) = place_name place
sort_name (Refusals reason) = reason_name reason
sort_name Others = codes "others"

-- the sorts of nacks and of refusals
abbrev pub nacks : List Sort
nacks = Nacks Address ∷ Nacks Code ∷ Nacks Byte ∷ Nacks ReadAddress ∷ []

abbrev pub refusals : List Sort
refusals =
    Refusals ReadFirst ∷ Refusals BadRestart ∷ Refusals BadPec ∷ Refusals UnknownDevice ∷ Refusals UnknownCommand
    ∷ Refusals TooLong ∷ Refusals TooShort ∷ Refusals WrongEvent ∷ Refusals Truncated ∷ []

-- ---- words

-- a count after its name
abbrev pub counted : List ℕ → ℕ → List ℕ
counted name count = name ++ codes " " ++ decimal count

-- .. left out if it is 0
abbrev pub counted_if : List ℕ → ℕ → List (List ℕ)
counted_if name count = if count == 0 then [] else counted name count ∷ []

-- ---- of facts

module _ (facts : List FactData) where
  abbrev pub count : Sort → ℕ
  count sort = capped (count_in_all sort facts)

  abbrev pub sort_words : Sort → List (List ℕ)
  sort_words sort = counted_if (sort_name sort) (count sort)

  -- of all of some sorts
  abbrev pub total : List Sort → ℕ
  total sorts = capped (sum (map count sorts))

  -- their total under one name, and in parentheses that of each
  abbrev pub group : List ℕ → List Sort → List ℕ
  group name sorts =
      counted name (total sorts) ++ codes " (" ++ joined (codes ", ") First (flat_map sort_words sorts) ++ codes ")"

  abbrev pub group_words : List ℕ → List Sort → List (List ℕ)
  group_words name sorts = if total sorts == 0 then [] else group name sorts ∷ []

  -- all counts, each after two blanks
  abbrev pub counts_say : List ℕ
  counts_say =
      after_gaps (sort_words Writes) ++ after_gaps (sort_words Reads) ++ after_gaps (sort_words Calls)
      ++ after_gaps (sort_words Alerts) ++ after_gaps (group_words (codes "nacks") nacks)
      ++ after_gaps (group_words (codes "refusals") refusals) ++ after_gaps (sort_words Others)
