-- What facts tell of spots, after one more.
use Rattle.std.proofs.Common.{◌≡◌, List, [], ◌∷◌, ◌++◌, ap, refl, sym, ◌∙◌}
use Rattle.std.proofs.lemmas.Grind.{flat_map-append}
use Rattle.std.proofs.lemmas.List.{append-nil}
use Rattle.std.proofs.lemmas.List.Concat.{flat_map-cons}
use Rattle.pmb_facts.specs.Fact.{FactData, WhatData, Write, Read, Call, Refused, Alert, NoAlert, Other, Refusal}
use Rattle.pmb_facts.specs.Fact.{BadToken}
use Rattle.pmb_json_objects.specs.Head.{Head}
use Rattle.pmb_json_objects.specs.Seen.{SeenData}
use Rattle.pmb_keeper.specs.Setting.{Setting, fact_seen, setting_of}
use Rattle.pmb_observed.specs.Observed.{Observation}
use Rattle.pmb_observed.specs.Observing.{observations, observed, observed_in}

observations_more : (setting : Setting) (facts : List FactData) (fact : FactData)
    → observations setting (facts ++ fact ∷ []) ≡ observations setting facts ++ observed_in setting fact
observations_more setting facts fact =
    flat_map-append (observed_in setting) facts (fact ∷ [])
    ∙ ap (λ more. observations setting facts ++ more)
    (flat_map-cons (observed_in setting) fact [] ∙ append-nil (observed_in setting fact))

-- a fact tells what it told where it was seen
told_there : (known : SeenData) (head : Head) (what : WhatData)
    → observed_in (setting_of known) (fact_seen known head what) ≡ observed known head.time what
told_there known head (Write part parts p) = refl
told_there known head (Read t) = refl
told_there known head (Call t) = refl
told_there known head (Refused parts addr sent at_read) = refl
told_there known head (Alert t) = refl
told_there known head NoAlert = refl
told_there known head (Other addr) = refl
told_there known head (Refusal front event reason expected) = refl
told_there known head (BadToken word) = refl

-- what facts and a further one tell, by what is told where it was seen
pub one_more : (known : SeenData) (facts : List FactData) (head : Head) (what : WhatData) (told : List Observation)
    → told ≡ observed known head.time what
    → observations (setting_of known) facts ++ told
    ≡ observations (setting_of known) (facts ++ fact_seen known head what ∷ [])
one_more known facts head what told is =
    ap (λ more. observations (setting_of known) facts ++ more) (is ∙ sym (told_there known head what))
    ∙ sym (observations_more (setting_of known) facts (fact_seen known head what))
