-- Facts to which it is nothing what came before: an other, and a word that is no token. For `put_fact`:
-- their lines are the same whatever went before.
use Rattle.std.proofs.Common.{◌≡◌, ℕ, List, refl}
use Rattle.pmb_facts.specs.Fact.{WhatData, Write, Read, Call, Refused, Alert, NoAlert, Other, Refusal, BadToken}
use Rattle.pmb_json_objects.specs.Head.{Head}
use Rattle.pmb_json_objects.specs.Seen.{SeenData}
use Rattle.pmb_keeper.specs.Setting.{before_fact}
use Rattle.pmb_fact_stream.specs.Lines.{told_line}
use Rattle.pmb_fact_stream.specs.declared.telling.Telling.{Telling}
use Rattle.pmb_fact_stream.specs.declared.telling.Telling.TheVariants.{Items, Lines, Nothing, Objects}

module _ (seen : SeenData) (head : Head) where
  other_alone : (telling : Telling) (addr : ℕ)
      → told_line telling seen head (Other addr)
      ≡ told_line telling (record seen { before = before_fact seen.before (Other addr) }) head (Other addr)
  other_alone Objects addr = refl
  other_alone (Lines layout) addr = refl
  other_alone Items addr = refl
  other_alone Nothing addr = refl

  word_alone : (telling : Telling) (word : List ℕ)
      → told_line telling seen head (BadToken word)
      ≡ told_line telling (record seen { before = before_fact seen.before (BadToken word) }) head (BadToken word)
  word_alone Objects word = refl
  word_alone (Lines layout) word = refl
  word_alone Items word = refl
  word_alone Nothing word = refl

  -- so is that of each fact, after what came before it
  pub line_alone : (telling : Telling) (what : WhatData)
      → told_line telling seen head what
      ≡ told_line telling (record seen { before = before_fact seen.before what }) head what
  line_alone telling (Write part parts p) = refl
  line_alone telling (Read t) = refl
  line_alone telling (Call t) = refl
  line_alone telling (Refused parts addr sent at_read) = refl
  line_alone telling (Alert t) = refl
  line_alone telling NoAlert = refl
  line_alone telling (Other addr) = other_alone telling addr
  line_alone telling (Refusal front event reason expected) = refl
  line_alone telling (BadToken word) = word_alone telling word
