-- What `clap` finds in the words of `pmb import`: the law `import_words_ask`. Words that are known
-- are computed; for `--bus NAME` and `--rate HZ` the walk over the words is followed to the value,
-- as it is for `json`, and for another SOURCE to that word.
use Rattle.std.proofs.Common.{◌≡◌, ◌<◌, ◌≤◌, ℕ, Bool, true, false, nat_le, Option, Some, None, List, [], ◌∷◌}
use Rattle.std.proofs.Common.{codes, unwrap_or, refl, sym, ap, ap₂, ◌∙◌, subst, arith}
use Rattle.std.proofs.Common.{◌&&◌, if◌then◌else◌}
use Rattle.std.specs.Str.{bytes_eq}
use Rattle.std.proofs.lemmas.Bool.{leb-true}
use Rattle.std.proofs.lemmas.Slice.Eq.{bytes_eq-Decides}
use Rattle.clap.specs.Faults.{level_fault, step_fault, walk_fault}
use Rattle.clap.specs.Kinds.{or_else}
use Rattle.clap.specs.Simple.{built_leaf}
use Rattle.clap.specs.Walk.{Held, Step, Walk, after_step, arg_by_index, finished, nothing_held, option, plain_word}
use Rattle.clap.specs.Walk.{to_positional, value, walk, walk_from, walked}
use Rattle.clap.specs.Words.{Kinds, Row, Shape, Text, subcommand_of}
use Rattle.clap.proofs.OnLiterals.{clap_on_literals}
use Rattle.pmb_words.specs.Numbers.{decimal_of}
use Rattle.pmb_sigrok_line.specs.Shown.{hertz_of}
use Rattle.pmb_sigrok_line.specs.Time.{most_rate, rate_of}
use Rattle.pmb_sigrok_line.specs.declared.address_form.AddressForm.TheVariants.{Shifted, Unshifted}
use Rattle.pmb_sigrok_line.specs.declared.rate.Rate.{Rate}
use Rattle.pmb_recorder.specs.Recorded.{Recorded, OfKernel, OfSigrok}
use Rattle.pmb_recorder.specs.declared.fault.RecorderFault.TheVariants.{BadRate, NoBus, SigrokOnly}
use Rattle.pmb_recorder.specs.declared.source.Source.{Source}
use Rattle.pmb_recorder.specs.declared.source.Source.TheVariants.{Sigrok, Saleae, Beagle, Kernel, Smbus}
use Rattle.pmb_args.specs.Asked.{AskFor, AskForNothing, Import}
use Rattle.pmb_args.specs.Import.{ImportAsks, fault_by, hertz_of_word, import_fault_in, recorded_by, source_of, source_word}
use Rattle.pmb_args.specs.Words.{IsFlag, faults_of, import_app, pmb_app}
use Rattle.pmb_args.specs.declared.import_fault.ImportFault.{ImportFault}
use Rattle.pmb_args.specs.declared.import_fault.ImportFault.TheVariants.{BadSource, Recorder}
use Rattle.pmb_args.proofs.AskedOnce.{import_nothing}
use Rattle.pmb_args.proofs.AskedWords.{IsNoFlag, after_walk, no_flag, value_is_no_fault, value_met, walk_fault_one}
use Rattle.pmb_args.proofs.AskedWords.{walk_one}
use Rattle.pmb_args.proofs.ImportOnce.{HaveNoFault, fault_asks_for_none}

abbrev import_words : Text → List Text → List Text
import_words name words = name ∷ codes "import" ∷ words

-- ---- words that are known

pub asks_source : (name : Text) (source : Source)
    → AskFor (import_words name (source_word source ∷ [])) (Import (recorded_by source))
unfolding clap_on_literals
asks_source name Sigrok = record { no_fault = refl; asks = (_, refl, (Sigrok, refl, (refl, refl, refl, refl))) }
asks_source name Saleae = record { no_fault = refl; asks = (_, refl, (Saleae, refl, (refl, refl, refl, refl))) }
asks_source name Beagle = record { no_fault = refl; asks = (_, refl, (Beagle, refl, (refl, refl, refl, refl))) }
asks_source name Kernel = record { no_fault = refl; asks = (_, refl, (Kernel, refl, (refl, refl, refl, refl))) }
asks_source name Smbus = record { no_fault = refl; asks = (_, refl, (Smbus, refl, (refl, refl, refl, refl))) }

pub asks_unshifted : (name : Text) → AskFor (import_words name (codes "sigrok" ∷ codes "--unshifted" ∷ []))
    (Import (OfSigrok None None Unshifted))
unfolding clap_on_literals
asks_unshifted name = record { no_fault = refl; asks = (_, refl, (Sigrok, refl, (refl, refl, refl, refl))) }

-- `import` as it is built
abbrev leaf : Shape
leaf = built_leaf import_app.top

-- `--unshifted` is for sigrok only
abbrev unshifted_rows : List Row
unshifted_rows = finished leaf.rules (walk leaf.rules [] nothing_held (codes "kernel" ∷ codes "--unshifted" ∷ [])).held

pub unshifted_kernel_asks_nothing : HaveNoFault → (name : Text)
    → AskForNothing (import_words name (codes "kernel" ∷ codes "--unshifted" ∷ []))
unfolding clap_on_literals
unshifted_kernel_asks_nothing sound name = record {
  no_fault = refl;
  nothing = import_nothing _ unshifted_rows refl
      (fault_asks_for_none sound unshifted_rows (Recorder SigrokOnly) refl);
}

-- ---- a source, and a flag that a word follows

data Given : Type 0 where
  kernel_bus : Given
  beagle_bus : Given
  sigrok_rate : Given

abbrev source_given : Given → Source
source_given kernel_bus = Kernel
source_given beagle_bus = Beagle
source_given sigrok_rate = Sigrok

abbrev id_of : Given → Text
id_of kernel_bus = codes "bus"
id_of beagle_bus = codes "bus"
id_of sigrok_rate = codes "rate"

abbrev flag_of : Given → Text
flag_of kernel_bus = codes "--bus"
flag_of beagle_bus = codes "--bus"
flag_of sigrok_rate = codes "--rate"

abbrev given : Given → Text → List Text
given v word = source_word (source_given v) ∷ flag_of v ∷ word ∷ []

-- after the flag
abbrev start : Given → Walk
start v = walked leaf.rules [] (walked leaf.rules [] (walk_from nothing_held) (source_word (source_given v)))
    (flag_of v)

-- what the word is there
abbrev met : Given → Text → Held × Step
met v word = plain_word leaf.rules (option (id_of v)) word (start v).held

abbrev end_by : Given → Text → Held × Step → Walk
end_by v word how = after_step leaf.rules word (start v) how.0 how.1

abbrev fault_there : Kinds → Held × Step → Kinds
fault_there fault how = or_else (or_else fault (step_fault leaf 2 how.0 how.1)) []

walk_given : (v : Given) (word : Text) → IsNoFlag word → walk leaf.rules [] nothing_held (given v word)
    ≡ end_by v word (met v word)
unfolding clap_on_literals
walk_given kernel_bus word plain = ap (end_by kernel_bus word)
    (value_met leaf.rules 2 (codes "bus") word (start kernel_bus).held plain)
walk_given beagle_bus word plain = ap (end_by beagle_bus word)
    (value_met leaf.rules 2 (codes "bus") word (start beagle_bus).held plain)
walk_given sigrok_rate word plain = ap (end_by sigrok_rate word)
    (value_met leaf.rules 2 (codes "rate") word (start sigrok_rate).held plain)

walk_fault_given : (v : Given) (word : Text) → IsNoFlag word
    → walk_fault leaf [] (walk_from nothing_held) (given v word) ≡ fault_there [] (met v word)
unfolding clap_on_literals
walk_fault_given kernel_bus word plain =
    ap₂ fault_there (value_is_no_fault leaf (codes "bus") word (start kernel_bus).held plain)
    (value_met leaf.rules 2 (codes "bus") word (start kernel_bus).held plain)
walk_fault_given beagle_bus word plain =
    ap₂ fault_there (value_is_no_fault leaf (codes "bus") word (start beagle_bus).held plain)
    (value_met leaf.rules 2 (codes "bus") word (start beagle_bus).held plain)
walk_fault_given sigrok_rate word plain =
    ap₂ fault_there (value_is_no_fault leaf (codes "rate") word (start sigrok_rate).held plain)
    (value_met leaf.rules 2 (codes "rate") word (start sigrok_rate).held plain)

level_given : (v : Given) (word : Text) → IsNoFlag word → level_fault leaf [] nothing_held (given v word) false []
    ≡ after_walk leaf (fault_there [] (met v word)) (end_by v word (met v word))
level_given v word plain = ap₂ (after_walk leaf) (walk_fault_given v word plain) (walk_given v word plain)

takes_given : (v : Given) (word : Text)
    → after_walk leaf (fault_there [] (met v word)) (end_by v word (met v word)) ≡ []
unfolding clap_on_literals
takes_given kernel_bus word = refl
takes_given beagle_bus word = refl
takes_given sigrok_rate word = refl

enters_given : (v : Given) (name word : Text) → faults_of (import_words name (given v word))
    ≡ or_else (level_fault leaf [] nothing_held (given v word) false []) []
unfolding clap_on_literals
enters_given kernel_bus name word = refl
enters_given beagle_bus name word = refl
enters_given sigrok_rate name word = refl

no_fault_given : (v : Given) (name word : Text) → IsNoFlag word → faults_of (import_words name (given v word)) ≡ []
no_fault_given v name word plain = enters_given v name word
    ∙ ap (λ (k : Kinds). or_else k []) (level_given v word plain ∙ takes_given v word)

-- the matches
abbrev rows_given : Given → Text → List Row
rows_given v word = finished leaf.rules (end_by v word (met v word)).held

walk_rows : (v : Given) (name word : Text) → subcommand_of pmb_app (import_words name (given v word))
    ≡ Some (codes "import", finished leaf.rules (walk leaf.rules [] nothing_held (given v word)).held)
unfolding clap_on_literals
walk_rows kernel_bus name word = refl
walk_rows beagle_bus name word = refl
walk_rows sigrok_rate name word = refl

subcommand_given : (v : Given) (name word : Text) → IsNoFlag word
    → subcommand_of pmb_app (import_words name (given v word)) ≡ Some (codes "import", rows_given v word)
subcommand_given v name word plain = walk_rows v name word
    ∙ ap (λ (end : Walk). Some (codes "import", finished leaf.rules end.held)) (walk_given v word plain)

-- what the matches say is asked for
asks_given : (v : Given) (name word : Text) (recorded : Recorded) → IsNoFlag word
    → ImportAsks (rows_given v word) recorded → AskFor (import_words name (given v word)) (Import recorded)
asks_given v name word recorded plain asks = record {
  no_fault = no_fault_given v name word plain;
  asks = (_, subcommand_given v name word plain, asks);
}

-- or nothing, where they have a fault
nothing_given : HaveNoFault → (v : Given) (name word : Text) (fault : ImportFault) → IsNoFlag word
    → import_fault_in (rows_given v word) ≡ Some fault → AskForNothing (import_words name (given v word))
nothing_given sound v name word fault plain is = record {
  no_fault = no_fault_given v name word plain;
  nothing = import_nothing _ _ (subcommand_given v name word plain)
      (fault_asks_for_none sound (rows_given v word) fault is);
}

-- ---- `--bus NAME`

kernel_asks : (NAME : Text) → ImportAsks (rows_given kernel_bus NAME) (OfKernel (Some NAME))
unfolding clap_on_literals
kernel_asks NAME = (Kernel, refl, (refl, refl, refl, refl))

pub asks_bus : (name NAME : Text) → (IsFlag NAME → ⊥)
    → AskFor (import_words name (codes "kernel" ∷ codes "--bus" ∷ NAME ∷ [])) (Import (OfKernel (Some NAME)))
asks_bus name NAME no_hyphen = asks_given kernel_bus name NAME _ (no_flag NAME no_hyphen) (kernel_asks NAME)

beagle_has_no_bus : (NAME : Text) → import_fault_in (rows_given beagle_bus NAME) ≡ Some (Recorder NoBus)
unfolding clap_on_literals
beagle_has_no_bus NAME = refl

pub beagle_bus_asks_nothing : HaveNoFault → (name NAME : Text) → (IsFlag NAME → ⊥)
    → AskForNothing (import_words name (codes "beagle" ∷ codes "--bus" ∷ NAME ∷ []))
beagle_bus_asks_nothing sound name NAME no_hyphen =
    nothing_given sound beagle_bus name NAME _ (no_flag NAME no_hyphen) (beagle_has_no_bus NAME)

-- ---- `--rate HZ`

number_is_no_flag : (HZ : Text) (hertz : ℕ) → decimal_of HZ ≡ Some hertz → IsNoFlag HZ
number_is_no_flag [] hertz is = tt
number_is_no_flag (c ∷ cs) hertz is = λ hyphen.
    let clash : None ≡ Some hertz = subst (λ (b : ℕ). decimal_of (b ∷ cs) ≡ Some hertz) hyphen is in
    cc

rate_asks : (HZ : Text) (rate : Rate) → hertz_of rate ≡ hertz_of_word HZ
    → ImportAsks (rows_given sigrok_rate HZ) (OfSigrok None (Some rate) Shifted)
unfolding clap_on_literals
rate_asks HZ rate is = (Sigrok, refl, (refl, refl, ap (λ (hertz : ℕ). Some hertz) is, refl))

pub asks_rate : (name HZ : Text) (rate : Rate) → decimal_of HZ ≡ Some (hertz_of rate)
    → AskFor (import_words name (codes "sigrok" ∷ codes "--rate" ∷ HZ ∷ [])) (Import (OfSigrok None (Some rate) Shifted))
asks_rate name HZ rate is = asks_given sigrok_rate name HZ _ (number_is_no_flag HZ (hertz_of rate) is)
    (rate_asks HZ rate (sym (ap (λ (number : Option ℕ). unwrap_or number 0) is)))

-- a number is that of a rate, or there is none
no_rate : (hertz : ℕ) → ((rate : Rate) → ¬ (hertz ≡ hertz_of rate)) → rate_of hertz ≡ None
no_rate hertz none = by (nat_le 1 hertz) (nat_le hertz most_rate) refl refl
  where
    by : (some fits : Bool) → nat_le 1 hertz ≡ some → nat_le hertz most_rate ≡ fits
        → (if some && fits then Some hertz else None) ≡ None
    by true true some fits =
        let more : 0 < hertz = omega (arith, leb-true 1 hertz some) in
        let less : hertz ≤ most_rate = leb-true hertz most_rate fits in
        absurd (none (record { hertz = hertz; some = more; fits = less }) refl)
    by true false some fits = refl
    by false fits some is = refl

no_rate_word : (HZ : Text) → ((rate : Rate) → ¬ (decimal_of HZ ≡ Some (hertz_of rate)))
    → rate_of (hertz_of_word HZ) ≡ None
no_rate_word HZ none = by (decimal_of HZ) none
  where
    by : (number : Option ℕ) → ((rate : Rate) → ¬ (number ≡ Some (hertz_of rate))) → rate_of (unwrap_or number 0) ≡ None
    by None none = refl
    by (Some hertz) none = no_rate hertz (λ rate is. none rate (ap (λ (h : ℕ). Some h) is))

bad_rate : (HZ : Text) → rate_of (hertz_of_word HZ) ≡ None
    → import_fault_in (rows_given sigrok_rate HZ) ≡ Some (Recorder BadRate)
unfolding clap_on_literals
bad_rate HZ none = rw none refl

pub bad_rate_asks_nothing : HaveNoFault → (name HZ : Text) → (IsFlag HZ → ⊥)
    → ((rate : Rate) → ¬ (decimal_of HZ ≡ Some (hertz_of rate)))
    → AskForNothing (import_words name (codes "sigrok" ∷ codes "--rate" ∷ HZ ∷ []))
bad_rate_asks_nothing sound name HZ no_hyphen none =
    nothing_given sound sigrok_rate name HZ _ (no_flag HZ no_hyphen) (bad_rate HZ (no_rate_word HZ none))

-- ---- another SOURCE

-- where the walk over it ends
abbrev end_of : Text → Walk
end_of word = to_positional leaf.rules (arg_by_index leaf.rules 1) word (walk_from nothing_held) nothing_held

level_one : (word : Text) → IsNoFlag word → level_fault leaf [] nothing_held (word ∷ []) false []
    ≡ after_walk leaf (or_else (or_else [] (step_fault leaf 1 nothing_held value)) []) (end_of word)
level_one word plain = ap₂ (after_walk leaf) (walk_fault_one leaf word plain) (walk_one leaf.rules word plain)

takes_one : (word : Text)
    → after_walk leaf (or_else (or_else [] (step_fault leaf 1 nothing_held value)) []) (end_of word) ≡ []
unfolding clap_on_literals
takes_one word = refl

enters_one : (name word : Text) → faults_of (import_words name (word ∷ []))
    ≡ or_else (level_fault leaf [] nothing_held (word ∷ []) false []) []
unfolding clap_on_literals
enters_one name word = refl

abbrev rows_one : Text → List Row
rows_one word = finished leaf.rules (end_of word).held

walk_rows_one : (name word : Text) → subcommand_of pmb_app (import_words name (word ∷ []))
    ≡ Some (codes "import", finished leaf.rules (walk leaf.rules [] nothing_held (word ∷ [])).held)
unfolding clap_on_literals
walk_rows_one name word = refl

-- it is not a word that it differs from
differs : (word text : Text) → ¬ (word ≡ text) → bytes_eq word text ≡ false
differs word text other = by (bytes_eq word text) (λ is. other ((bytes_eq-Decides word text).0 is))
  where
    by : (same : Bool) → ¬ (same ≡ true) → same ≡ false
    by true other = absurd (other refl)
    by false other = refl

no_source : (word : Text) → ((source : Source) → ¬ (word ≡ source_word source)) → source_of word ≡ None
no_source word none =
    let sigrok = differs word (codes "sigrok") (none Sigrok) in
    let saleae = differs word (codes "saleae") (none Saleae) in
    let beagle = differs word (codes "beagle") (none Beagle) in
    let kernel = differs word (codes "kernel") (none Kernel) in
    let smbus = differs word (codes "smbus") (none Smbus) in
    rw (sigrok, saleae, beagle, kernel, smbus) refl

bad_source : (word : Text) → source_of word ≡ None → import_fault_in (rows_one word) ≡ Some BadSource
unfolding clap_on_literals
bad_source word none = ap (λ (source : Option Source). fault_by source (rows_one word)) none

pub bad_source_asks_nothing : HaveNoFault → (name SOURCE : Text) → (IsFlag SOURCE → ⊥)
    → ((source : Source) → ¬ (SOURCE ≡ source_word source)) → AskForNothing (import_words name (SOURCE ∷ []))
bad_source_asks_nothing sound name SOURCE no_hyphen none =
    let plain = no_flag SOURCE no_hyphen in
    record {
      no_fault = enters_one name SOURCE ∙ ap (λ (k : Kinds). or_else k []) (level_one SOURCE plain ∙ takes_one SOURCE);
      nothing = import_nothing _ _ (walk_rows_one name SOURCE
          ∙ ap (λ (end : Walk). Some (codes "import", finished leaf.rules end.held)) (walk_one leaf.rules SOURCE plain))
          (fault_asks_for_none sound (rows_one SOURCE) BadSource (bad_source SOURCE (no_source SOURCE none)));
    }
