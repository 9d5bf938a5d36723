-- A capture that is cut behind a STOP, and the facts of its two pieces.
use Rattle.std.specs.Prelude.{ℕ, Option, List, ◌++◌, map}
use Rattle.pmb_capture.specs.Cut.{EndsAtCut}
use Rattle.pmb_command.specs.Parts.{DeviceParts}
use Rattle.pmb_facts.specs.Fact.{FactData, WhatData}
use Rattle.pmb_json_objects.specs.Counts.{CountsData}
use Rattle.pmb_scan.specs.declared.after_bad_token.AfterBadToken.{AfterBadToken}
use Rattle.pmb_fact_stream.specs.Before.{at_first}
use Rattle.pmb_telling.specs.Text.{BadLine, FactsFrom}

-- What facts say, one after the other: neither where and when they begin, nor what came before them.
abbrev pub said_in : List FactData → List WhatData
said_in facts = map (λ fact. fact.what) facts

module _ (ignored : Option (List ℕ)) (profile : List DeviceParts) (after : AfterBadToken) where
  -- The facts of a whole capture. After its bad tokens reading ends or continues, as is chosen.
  pub record AreFactsOf (bytes : List ℕ) (facts : List FactData) : Type 0 where
    pub bad : List BadLine
    pub counts : CountsData
    pub from_first : FactsFrom ignored profile after at_first bytes bad facts counts

  -- A capture is cut into two pieces, and these are the facts of the first, of the second and of the whole.
  -- The first piece spells events, so it has no bad token. It ends behind a STOP, and so outside any
  -- packet, and in no word and no comment. The second may be any bytes.
  pub record AreOfPieces (front back : List ℕ) (firsts others whole : List FactData) : Type 0 where
    pub cut : EndsAtCut front
    pub first : AreFactsOf front firsts
    pub second : AreFactsOf back others
    pub both : AreFactsOf (front ++ back) whole
