-- The line of a fact.
use Rattle.std.specs.Prelude.{ℕ, List, ◌++◌, codes, decimal, take}
use Rattle.pmb_json_objects.specs.Head.{Head}
use Rattle.pmb_json_objects.specs.Seen.{SeenData}
use Rattle.pmb_json_text.specs.Spelling.{all_escaped}
use Rattle.pmb_places.specs.declared.places.Place.{Place}
use Rattle.pmb_log_lines.specs.declared.layout.Layout.{Layout}
use Rattle.pmb_log_lines.specs.Columns.{columns}
use Rattle.pmb_facts.specs.Fact.{WhatData, Write, Read, Call, Refused, Alert, NoAlert, Other, Refusal}
use Rattle.pmb_facts.specs.Fact.{BadToken, fact_command, fact_device}
use Rattle.pmb_log_lines.specs.Packets.{call_says, read_says, refused_says, write_says}
use Rattle.pmb_log_lines.specs.Refusals.{refusal_says}

-- at most the first 32 bytes of a word that is no token, and where it stands
abbrev pub bad_token_says : Place → List ℕ → List ℕ
bad_token_says place word = codes "no token: " ++ all_escaped (take 32 word)
    ++ codes " at line " ++ decimal place.line ++ codes " column " ++ decimal place.column

-- what the line says, by what is known where the packet begins
abbrev pub says : SeenData → Place → WhatData → List ℕ
says seen place (Write part parts p) = write_says seen part parts p
says seen place (Read t) = read_says seen t.addr t.code t.reply
says seen place (Call t) = call_says seen t.addr t.code t.bytes t.reply
says seen place (Refused parts addr sent at_read) = refused_says seen parts addr sent at_read
says seen place (Alert t) = codes "answered an alert"
says seen place NoAlert = codes "alert, and no device answered"
says seen place (Other addr) = codes "not PMBus"
says seen place (Refusal front event reason expected) = refusal_says seen front event reason expected
says seen place (BadToken word) = bad_token_says place word

-- the columns, what it says, and LF
abbrev pub line_of : Layout → SeenData → Head → WhatData → List ℕ
line_of layout seen head what =
    columns layout seen head.time (fact_device what) (fact_command what) ++ says seen head.place what ++ codes "\n"
