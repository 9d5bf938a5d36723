use Rattle.pmb_agreement.proofs.Agreeing.{agree}
use Rattle.pmb_agreement.proofs.Stopping.{built, checked, ran, shown, told}
use Rattle.pmb_agreement.specs.Run.{flags_of, subcommand_of}
use Rattle.pmb_args.specs.Asked.{Json}
use Rattle.pmb_build.specs.Lines.{BuildsInput}
use Rattle.pmb_capture.specs.Check.{Checks}
use Rattle.pmb_capture.specs.Show.{Shows}
use Rattle.pmb_cli.specs.Facts.{choice_of}
use Rattle.pmb_fact_stream.specs.Choice.{ChoiceData}
use Rattle.pmb_fact_stream.specs.declared.telling.Telling.TheVariants.{Objects}
use Rattle.pmb_in_memory.specs.Json.{telling}
use Rattle.pmb_in_memory.specs.MemoryTask.{working}
use Rattle.pmb_in_memory.specs.declared.memory_task.MemoryTask.TheVariants.{Show, Check, Build, Run}
use Rattle.pmb_run.specs.Lines.{RunsInput}
use Rattle.pmb_table.specs.Profile.{ProfileParts}
use Rattle.pmb_telling.specs.Text.{WritesTold}
use Rattle.pmb_agreement.proofs.laws.the_library_puts_what_the_program_writes.Goals as goal

pub returns-clause-work : goal.returns-clause-work
returns-clause-work g c Show bytes profile input held before after tally old new put first run whole =
    agree g.R.Source.told g.W.Sink.told c.one_front.ensures.unique c.one_front.ensures.stays (subcommand_of Show)
    (working Show) (λ bus input text tally. Shows bus.devices input text tally) (λ bus. shown bus.devices)
    (λ bus. shown bus.devices) (λ bus input a b s t. c.one_showing.ensures bus.devices input a b s t) bytes profile
    input held before after tally old new put first run whole
returns-clause-work g c Check bytes profile input held before after tally old new put first run whole =
    agree g.R.Source.told g.W.Sink.told c.one_front.ensures.unique c.one_front.ensures.stays (subcommand_of Check)
    (working Check) (λ bus input text tally. Checks bus.devices input text tally) (λ bus. checked bus.devices)
    (λ bus. checked bus.devices) (λ bus input a b s t. c.one_check.ensures bus.devices input a b s t) bytes profile
    input held before after tally old new put first run whole
returns-clause-work g c Build bytes profile input held before after tally old new put first run whole =
    agree g.R.Source.told g.W.Sink.told c.one_front.ensures.unique c.one_front.ensures.stays (subcommand_of Build)
    (working Build) (λ bus input text tally. BuildsInput bus.devices tally input text) (λ bus. built bus.devices)
    (λ bus. built bus.devices) (λ bus input a b s t. c.one_building.ensures bus.devices input a b s t) bytes profile
    input held before after tally old new put first run whole
returns-clause-work g c Run bytes profile input held before after tally old new put first run whole =
    agree g.R.Source.told g.W.Sink.told c.one_front.ensures.unique c.one_front.ensures.stays (subcommand_of Run)
    (working Run) (λ bus input text tally. RunsInput bus.devices tally input text) (λ bus. ran bus.devices)
    (λ bus. ran bus.devices) (λ bus input a b s t. c.one_running.ensures bus.devices s t input a b) bytes profile
    input held before after tally old new put first run whole

pub returns-clause-json : goal.returns-clause-json
returns-clause-json g c choice devices bytes profile input held before after tally old new put first run whole =
    let told_under : ProfileParts → ChoiceData = λ bus. choice_of Objects (flags_of choice devices) bus.ignored in
    agree g.R.Source.told g.W.Sink.told c.one_front.ensures.unique c.one_front.ensures.stays
    (Json (flags_of choice devices)) (telling choice devices)
    (λ bus input text tally. WritesTold (told_under bus) bus.devices choice.bad_words input text tally)
    (λ bus. told bus.devices (told_under bus) choice.bad_words)
    (λ bus. told bus.devices (told_under bus) choice.bad_words)
    (λ bus input a b s t. c.one_text_is_told.ensures (told_under bus) bus.devices choice.bad_words input a b s t) bytes
    profile input held before after tally old new put first run whole
