use Rattle.std.proofs.Common.{◌+◌, ◌++◌, List, ℕ, ap, arith, length, length-drop, refl, subst, sym, take}
use Rattle.std.proofs.Common.{take-append-drop, ◌∙◌}
use Rattle.pmb_telling.specs.declared.engine.EngineState.{EngineState}
use Rattle.pmb_telling.specs.declared.engine.Teller.{Teller}
use Rattle.pmb_telling.specs.machine.Standing.{StandsIn, teller_bad_words, teller_choice, teller_profile}
use Rattle.pmb_telling.proofs.MetWords.{line_goes_on}
use Rattle.pmb_fact_stream.specs.Stream.{kept_by}
use Rattle.pmb_telling.proofs.Steps.{begins_anew, behind_taken, made_on}
use Rattle.pmb_command.specs.Parts.{DeviceParts}
use Rattle.pmb_scan.specs.Reached.{at_start}
use Rattle.pmb_scan.specs.Scan.{ScanStandsAt}
use Rattle.pmb_telling.proofs.engine.Teller.drop_line.Goals as goal

-- the line goes on
pub returns-in-None-clause-takes : goal.returns-in-None-clause-takes
returns-in-None-clause-takes g c start given text is stands =
    let old = c.args.self.now in
    let bytes = c.args.bytes.now in
    let new : Teller g.row.K.Denot = record old { kept = kept_by c.take_text.new.self old.kept.keeper } in
    let behind = stands.1.behind in
    let taken = c.take_text.ensures in
    subst (λ (i : EngineState). StandsIn g.K.Keeper.Keeps i start new (given ++ bytes) text) (sym is) (
      stands.0,
      record {
        made = made_on start old new stands.1.made refl refl taken.same;
        behind = behind_taken g.K.Keeper.Keeps (teller_choice start) (teller_profile start) (teller_bad_words start) _
            _ _ given text bytes
            behind
            (line_goes_on (teller_choice start) (teller_profile start) g.K.Keeper.Keeps behind.keeper behind.b bytes
            bytes
            behind.used behind.put old.kept c.take_text.new.self refl c.in-None.ensures.line taken.knows behind.holds);
      },
    )

-- its LF is there
pub returns-in-Some-clause-takes : goal.returns-in-Some-clause-takes
returns-in-Some-clause-takes g c start given text is stands =
    let old = c.args.self.now in
    let bytes = c.args.bytes.now in
    let count = c.in-Some.count in
    let taken = c.take_text-in-Some.ensures in
    let begun = c.begin_anew.ensures in
    let made = stands.1.made in
    let stream = c.begin_anew.new.self in record {
      front = take (count + 1) bytes;
      split = sym (take-append-drop (count + 1) bytes) ∙ ap (λ (l : List ℕ). take (count + 1) bytes ++ l)
          (sym c.behind.ensures.rest);
      stands = record {
        made = record {
          choice = begun.same.choice ∙ (taken.same.choice ∙ made.choice);
          profile = made.profile;
          reads = begun.same.profile ∙ (taken.same.profile ∙ made.reads);
          bad_words = made.bad_words;
        };
        behind = begins_anew g.K.Keeper.Keeps (teller_choice start) (teller_profile start)
            (teller_bad_words start) start.kept.keeper given text bytes count
            old.kept c.take_text-in-Some.new.self stream _ stands.0 c.in-Some.ensures.line
            c.texts_may_be_cut_between_words.ensures.lines (begun.same.choice ∙ (taken.same.choice ∙ made.choice))
            (begun.same.profile ∙ (taken.same.profile ∙ made.reads))
            (subst (λ (p : List DeviceParts). ScanStandsAt c.new-self.result (at_start p)) made.profile
            c.new-self.ensures) taken.knows begun.begins stands.1.behind;
      };
    }

pub returns-in-Some-clause-less : goal.returns-in-Some-clause-less
returns-in-Some-clause-less g c =
    omega (
      arith,
      ap (λ (l : List ℕ). length l) c.behind.ensures.rest,
      length-drop (c.in-Some.count + 1) c.args.bytes.now,
      c.in-Some.ensures.within,
    )
