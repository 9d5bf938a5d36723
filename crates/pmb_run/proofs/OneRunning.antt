-- What is run of bytes is one text and one tally: the laws `one_running` and
-- `ended_lines_come_first`. Line by line: a line spells one request or has one fault, the request
-- comes to one transaction with one packet, and the host's end has one text; so the devices are
-- the same at the next line.
use Rattle.std.proofs.Common.{◌≡◌, ℕ, Option, List, [], ◌∷◌, ◌++◌, map, refl, sym, ◌∙◌, ap, subst}
use Rattle.pmb_bus.specs.declared.event.Event.{Event}
use Rattle.pmb_command.specs.Parts.{DeviceParts}
use Rattle.pmb_io.specs.Answers as answers
use Rattle.pmb_io.specs.Lines.{LinesGoOn, TextLine, ended_lines, lines_of}
use Rattle.pmb_io.specs.Lines as lines
use Rattle.pmb_io.specs.declared.tally.Tally.{Tally}
use Rattle.pmb_line.specs.declared.line_fault.LineFault.TheVariants as line_fault
use Rattle.pmb_line.specs.Words.{line_words}
use Rattle.pmb_note.specs.Context.{mode}
use Rattle.pmb_registers.specs.State.{InState}
use Rattle.pmb_transaction.specs.Packet.{Packet}
use Rattle.pmb_transaction.specs.Transaction.{TransactionData}
use Rattle.pmb_devices.specs.Runs.{all_after, first_members}
use Rattle.pmb_request.specs.Request.{RequestData}
use Rattle.pmb_request.specs.RequestFault.{fault_text}
use Rattle.pmb_request.specs.declared.request_fault.RequestFault.TheVariants.{Line}
use Rattle.pmb_value.specs.declared.number_format.NumberFormat.{NumberFormat}
use Rattle.pmb_host.specs.Rules.{IsAllowed, IsFault}
use Rattle.pmb_host.specs.Task.{task_of}
use Rattle.pmb_exchange.specs.Exchange.{EndsWith, Exchanges}
use Rattle.pmb_run.specs.Answer.{IsRefused, RunAnswer, Recorded, Refusal, Nothing, Runs, RunsLine, RunsText}
use Rattle.pmb_run.specs.Answer.{answer_text, host_fault_text, is_done, is_failed, most_request_line, no_host}
use Rattle.pmb_run.specs.Answer.{no_request}
use Rattle.pmb_run.specs.Lines.{RunsCounted, RunsEach, RunsEnded, RunsInput, RunsLines, recorded_by}
use Rattle.pmb_run.specs.machine.Laws.{RunLaws}
use Rattle.pmb_run.proofs.Tasks.{one_task}
use Rattle.pmb_run.proofs.Tellings.{one_end}

-- the devices stay those of the profile
members_are : (ts : List TransactionData) (profile : List DeviceParts)
    → map (λ (m : InState). m.device) (all_after ts (first_members profile)) ≡ profile
members_are ts [] = refl
members_are ts (device ∷ profile) = ap (λ devices. device ∷ devices) (members_are ts profile)

module _ (profile : List DeviceParts) (laws : RunLaws profile) where
  -- ---- one line

  module _ (before : List TransactionData) (line : List ℕ) where
    abbrev modes : ℕ → Option ℕ
    modes = mode profile before

    abbrev members : List InState
    members = all_after before (first_members profile)

    one_run : (t u : TransactionData) (events others : List Event) (result other : List ℕ)
        → Runs profile before line t events result
        → Runs profile before line u others other → Recorded t events result ≡ Recorded u others other
    one_run t u events others result other x y =
        let request_is : x.request ≡ y.request = laws.one_request modes line x.request y.request x.spells y.spells in
        let allowed = subst (λ (r : RequestData). IsAllowed profile r x.word x.number) request_is x.allowed in
        let same = one_task profile y.request x.word y.word x.number y.number allowed y.allowed in
        let task_is : task_of x.request x.word ≡ task_of y.request y.word =
        ap (λ (r : RequestData). task_of r x.word) request_is ∙ same.task_is in
        let done_is : t ≡ u =
        laws.one_exchange members (task_of y.request y.word) t u (members_are before profile)
        (subst (λ (task : TransactionData). Exchanges members task t) task_is x.exchanges) y.exchanges in
        let events_are : events ≡ others = laws.one_packet u events others
        (subst (λ (done : TransactionData). Packet profile done events) done_is x.packet) y.packet in
        let ends : EndsWith y.number u x.end =
        subst (λ (done : TransactionData). EndsWith y.number done x.end) done_is
        (subst (λ (number : Option NumberFormat). EndsWith number t x.end) same.number_is x.ends) in
        let result_is : result ≡ other = x.told ∙ one_end y.number u x.end y.end ends y.ends ∙ sym y.told in
        ap (λ (done : TransactionData). Recorded done events result) done_is
        ∙ ap (λ (es : List Event). Recorded u es result) events_are
        ∙ ap (λ (text : List ℕ). Recorded u others text) result_is

    not_both : (t : TransactionData) (events : List Event) (result why : List ℕ)
        → Runs profile before line t events result → IsRefused profile before line why → ⊥
    not_both t events result why x (no_request because is some told) =
        laws.no_line_fault modes line x.request because x.spells is
    not_both t events result why x (no_host request because spells is told) =
        laws.no_host_fault x.request x.word x.number because x.allowed
        (subst (λ (r : RequestData). IsFault profile r because)
        (laws.one_request modes line request x.request spells x.spells) is)

    one_refusal : (a b : List ℕ) → IsRefused profile before line a → IsRefused profile before line b → a ≡ b
    one_refusal a b (no_request because is some told) (no_request other also more telling) =
        told ∙ ap fault_text (laws.one_line_fault line because other is also) ∙ sym telling
    one_refusal a b (no_request because is some told) (no_host request other spells also telling) =
        absurd (laws.no_line_fault modes line request because spells is)
    one_refusal a b (no_host request because spells is told) (no_request other also more telling) =
        absurd (laws.no_line_fault modes line request other spells also)
    one_refusal a b (no_host request because spells is told) (no_host again other spelled also telling) =
        told ∙ ap host_fault_text (laws.one_host_fault again because other
        (subst (λ (r : RequestData). IsFault profile r because)
        (laws.one_request modes line request again spells spelled) is) also) ∙ sym telling

    has_words : (why : List ℕ) → IsRefused profile before line why → line_words line ≡ [] → ⊥
    has_words why (no_request because is some told) blank =
        some (laws.one_line_fault line because (Line line_fault.Blank) is blank)
    has_words why (no_host request because spells is told) blank = laws.no_line_fault modes line request
        (Line line_fault.Blank) spells blank

    same_answer : (a b : RunAnswer) → RunsText profile before line a → RunsText profile before line b → a ≡ b
    same_answer (Recorded t events result) (Recorded u others other) x y = one_run t u events others result other x y
    same_answer (Recorded t events result) (Refusal why) x y = absurd (not_both t events result why x y)
    same_answer (Recorded t events result) Nothing x y =
        absurd (laws.no_line_fault modes line x.request (Line line_fault.Blank) x.spells y)
    same_answer (Refusal why) (Recorded t events result) x y = absurd (not_both t events result why y x)
    same_answer (Refusal why) (Refusal other) x y = ap Refusal (one_refusal why other x y)
    same_answer (Refusal why) Nothing x y = absurd (has_words why x y)
    same_answer Nothing (Recorded t events result) x y =
        absurd (laws.no_line_fault modes line y.request (Line line_fault.Blank) y.spells x)
    same_answer Nothing (Refusal why) x y = absurd (has_words why y x)
    same_answer Nothing Nothing x y = refl

  same_at : (before : List TransactionData) (line : TextLine) (a b : RunAnswer) → RunsLine profile before line a
      → RunsLine profile before line b → a ≡ b
  same_at before (lines.Ended line) a b x y = same_answer before line a b x y
  same_at before (lines.Last line) a b x y = same_answer before line a b x y
  same_at before lines.TooLong a b x y = x ∙ sym y

  -- ---- all lines

  same_each : (before : List TransactionData) (given : List TextLine) (xs ys : List RunAnswer)
      → RunsEach profile before given xs
      → RunsEach profile before given ys → xs ≡ ys
  same_each before [] [] [] x y = refl
  same_each before [] [] (b ∷ ys) x y = absurd y
  same_each before [] (a ∷ xs) ys x y = absurd x
  same_each before (line ∷ given) [] ys x y = absurd x
  same_each before (line ∷ given) (a ∷ xs) [] x y = absurd y
  same_each before (line ∷ given) (a ∷ xs) (b ∷ ys) x y =
      let first = same_at before line a b x.0 y.0 in
      let rest = subst (λ (answer : RunAnswer). RunsEach profile (before ++ recorded_by answer) given xs) first x.1 in
      ap (λ c. c ∷ xs) first ∙ ap (λ cs. b ∷ cs) (same_each (before ++ recorded_by b) given xs ys rest y.1)

  pub one_text : (given : List TextLine) (a b : List ℕ) → RunsLines profile given a → RunsLines profile given b → a ≡ b
  one_text = answers.one_text answer_text (RunsEach profile []) (same_each [])

  pub one_tally : (given : List TextLine) (x y : List ℕ) (a b : Tally) → RunsCounted profile a given x
      → RunsCounted profile b given y → a ≡ b
  one_tally = answers.one_tally answer_text (RunsEach profile []) is_done is_failed (same_each [])

  -- ---- fronts

  -- the answers to lines that begin some others
  record Front (before : List TransactionData) (given : List TextLine) (answers : List RunAnswer) : Type 0 where
    -- the answers to the first lines
    front : List RunAnswer
    -- and those to the others
    after : List RunAnswer
    split : answers ≡ front ++ after
    each : RunsEach profile before given front

  front_of : (before : List TransactionData) (given others : List TextLine) (answers : List RunAnswer)
      → RunsEach profile before (given ++ others) answers → Front before given answers
  front_of before [] others answers each = record { front = []; after = answers; split = refl; each = tt }
  front_of before (line ∷ given) others [] each = absurd each
  front_of before (line ∷ given) others (a ∷ answers) each =
      let f = front_of (before ++ recorded_by a) given others answers each.1 in
      record { front = a ∷ f.front; after = f.after; split = ap (λ xs. a ∷ xs) f.split; each = (each.0, f.each) }

  pub ended_first : (bytes more a b : List ℕ) (tally : Tally)
      → LinesGoOn (ended_lines most_request_line bytes) (lines_of most_request_line (bytes ++ more))
      → RunsEnded profile bytes a → RunsInput profile tally (bytes ++ more) b → (rest : List ℕ) × (b ≡ a ++ rest)
  ended_first bytes more a b tally on x y =
      let given = ended_lines most_request_line bytes in
      let all = subst (λ ls. RunsLines profile ls b) on.1 y.given in
      let f = front_of [] given on.0 all.answers all.each in
      answers.front_text answer_text (RunsEach profile []) (same_each []) given (given ++ on.0) a b f.front f.after
      f.each x all f.split
