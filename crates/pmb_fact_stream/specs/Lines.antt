-- The lines of facts, by how they are told.
use Rattle.std.specs.Prelude.{ℕ, Bool, List, [], filter, flat_map}
use Rattle.pmb_command.specs.Parts.{DeviceParts}
use Rattle.pmb_facts.specs.Fact.{FactData, WhatData, fact_device}
use Rattle.pmb_facts.specs.Object.{object_of}
use Rattle.pmb_items.specs.Item.{item_of}
use Rattle.pmb_items.specs.Record.{item_bytes}
use Rattle.pmb_json_objects.specs.Counts.{CountsData, end_objects}
use Rattle.pmb_json_objects.specs.Head.{Head}
use Rattle.pmb_json_objects.specs.Object.{is_wanted, object_lines}
use Rattle.pmb_json_objects.specs.Seen.{SeenData}
use Rattle.pmb_json_text.specs.Member.{object_line}
use Rattle.pmb_log_lines.specs.Line.{line_of}
use Rattle.pmb_unknown_start.specs.Past.{PastData}
use Rattle.pmb_fact_stream.specs.Choice.{ChoiceData, gives_others}
use Rattle.pmb_fact_stream.specs.declared.telling.Telling.{Telling}
use Rattle.pmb_fact_stream.specs.declared.telling.Telling.TheVariants.{Objects, Lines, Items, Nothing}

-- the line of a fact: its object as JSON, its line for people, or the record of its item, which has no LF; or none
abbrev pub told_line : Telling → SeenData → Head → WhatData → List ℕ
told_line Objects seen head what = object_line (object_of seen head what).members
told_line (Lines layout) seen head what = line_of layout seen head what
told_line Items seen head what = item_bytes (item_of seen head what)
told_line Nothing seen head what = []

module _ (choice : ChoiceData) (profile : List DeviceParts) where
  -- what is known after what went before
  abbrev pub seen_behind : List PastData → SeenData
  seen_behind before = record { digits = choice.digits; start = choice.start; profile = profile; before = before }

  abbrev pub fact_line : FactData → List ℕ
  fact_line fact = told_line choice.telling (seen_behind fact.before) fact.head fact.what

  -- facts that name no device are always wanted
  abbrev pub is_wanted_fact : FactData → Bool
  is_wanted_fact fact = is_wanted choice.devices (fact_device fact.what)

  abbrev pub fact_lines : List FactData → List ℕ
  fact_lines facts = flat_map fact_line (filter is_wanted_fact facts)

  -- the last lines, of what was counted: objects alone have some
  abbrev pub last_lines_of : Telling → CountsData → List ℕ
  last_lines_of Objects counts = object_lines choice.devices (end_objects profile (gives_others choice) counts)
  last_lines_of (Lines layout) counts = []
  last_lines_of Items counts = []
  last_lines_of Nothing counts = []

  abbrev pub last_lines : CountsData → List ℕ
  last_lines counts = last_lines_of choice.telling counts
