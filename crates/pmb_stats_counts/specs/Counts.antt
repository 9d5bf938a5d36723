-- How many facts there are of a sort, how many packets, and how many words that are no token.
use Rattle.std.specs.Prelude.{ℕ, ◌==◌, ◌<◌, Bool, true, false, Option, Some, None, List, count_by, filter}
use Rattle.std.specs.List.{AllByRecursion, list_any}
use Rattle.std.specs.Option.{ForSome, is_some}
use Rattle.pmb_facts.specs.Fact.{FactData, WhatData, fact_device}
use Rattle.pmb_facts.specs.Fact.{Write, Read, Call, Refused, Alert, NoAlert, Other, Refusal, BadToken}
use Rattle.pmb_stats_counts.specs.declared.sort.Sort.{Sort}
use Rattle.pmb_stats_counts.specs.Sort.{place, sort_of}

-- ---- facts of a sort

-- whether a sort, if there is one, is this one
abbrev pub is_sort : Sort → Option Sort → Bool
is_sort sort None = false
is_sort sort (Some other) = place other == place sort

abbrev pub is_of : Sort → FactData → Bool
is_of sort fact = is_sort sort (sort_of fact.what)

abbrev pub count_in_all : Sort → List FactData → ℕ
count_in_all sort facts = count_by (is_of sort) facts

-- whether a fact counts at all
abbrev pub has_sort : FactData → Bool
has_sort fact = is_some (sort_of fact.what)

-- ---- facts of a device

-- whether an address, if there is one, is this one
abbrev pub is_address : ℕ → Option ℕ → Bool
is_address addr None = false
is_address addr (Some other) = other == addr

abbrev pub is_absent : Option ℕ → Bool
is_absent None = true
is_absent (Some addr) = false

-- whether a fact names the device with an address, or none
abbrev pub names : ℕ → FactData → Bool
names addr fact = is_address addr (fact_device fact.what)

abbrev pub names_none : FactData → Bool
names_none fact = is_absent (fact_device fact.what)

-- the facts that do
abbrev pub of_device : ℕ → List FactData → List FactData
of_device addr facts = filter (names addr) facts

-- whether there are any
abbrev pub has_come : ℕ → List FactData → Bool
has_come addr facts = list_any (names addr) facts

abbrev pub count_of : ℕ → Sort → List FactData → ℕ
count_of addr sort facts = count_in_all sort (of_device addr facts)

abbrev pub count_of_none : Sort → List FactData → ℕ
count_of_none sort facts = count_in_all sort (filter names_none facts)

-- each fact names an address of seven bits, or none
abbrev pub AreAddressed : List FactData → Type 0
AreAddressed facts = AllByRecursion (λ fact. ForSome (fact_device fact.what) (λ addr. addr < 128)) facts

-- ---- packets, and words that are no token

-- a packet is counted at its last fact: of a group its last part, and of a refused packet the refused leg
abbrev pub ends_packet : WhatData → Bool
ends_packet (Write part parts p) = part == parts
ends_packet (Read t) = true
ends_packet (Call t) = true
ends_packet (Refused parts addr sent at_read) = true
ends_packet (Alert t) = true
ends_packet NoAlert = true
ends_packet (Other addr) = false
ends_packet (Refusal front event reason expected) = false
ends_packet (BadToken word) = false

abbrev pub packets : List FactData → ℕ
packets facts = count_by (λ fact. ends_packet fact.what) facts

abbrev pub is_bad_token : WhatData → Bool
is_bad_token (Write part parts p) = false
is_bad_token (Read t) = false
is_bad_token (Call t) = false
is_bad_token (Refused parts addr sent at_read) = false
is_bad_token (Alert t) = false
is_bad_token NoAlert = false
is_bad_token (Other addr) = false
is_bad_token (Refusal front event reason expected) = false
is_bad_token (BadToken word) = true

abbrev pub bad_tokens : List FactData → ℕ
bad_tokens facts = count_by (λ fact. is_bad_token fact.what) facts
