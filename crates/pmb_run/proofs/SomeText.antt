-- Some text is run of any bytes: the law `some_running`. What the layers below say of one line and
-- one request (`SomeLaws`) gives an answer to each: a request that is allowed comes to a
-- transaction (`Exchanged`), any other line is refused or blank, and the devices stay in good
-- states for the next.
use Rattle.std.proofs.Common.{◌≡◌, ℕ, ◌⊎◌, inl, inr, Option, List, [], ◌∷◌, ◌++◌, map, refl, sym, subst, append-nil}
use Rattle.std.specs.Prelude.{IfSome, count_by}
use Rattle.std.specs.List.{AllByRecursion}
use Rattle.pmb_command.specs.Bus.{IsBus}
use Rattle.pmb_command.specs.Parts.{DeviceParts}
use Rattle.pmb_command.specs.Wire.{Fits}
use Rattle.pmb_io.specs.Count.{capped}
use Rattle.pmb_io.specs.Lines.{TextLine, lines_of}
use Rattle.pmb_io.specs.Lines as lines
use Rattle.pmb_io.specs.declared.tally.Tally.{Tally}
use Rattle.pmb_line.specs.declared.line_fault.LineFault.TheVariants as line_fault
use Rattle.pmb_note.specs.Context.{mode}
use Rattle.pmb_transaction.specs.Transaction.{TransactionData}
use Rattle.pmb_registers.specs.State.{InState}
use Rattle.pmb_devices.specs.Runs.{all_after, first_members}
use Rattle.pmb_writer.specs.Invalid.{HasPacket}
use Rattle.pmb_convert.specs.Laws.{HasPositive}
use Rattle.pmb_quantity.specs.Reading.{reading}
use Rattle.pmb_value.specs.declared.number_format.NumberFormat.{NumberFormat}
use Rattle.pmb_request.specs.Fault.{IsWithin}
use Rattle.pmb_request.specs.Request.{RequestData}
use Rattle.pmb_request.specs.RequestFault.{IsRequestFault, Means, SpellsRequest, fault_text}
use Rattle.pmb_request.specs.Spelling.{Wording, Write, Ask, to_read, to_call, to_set, to_get}
use Rattle.pmb_request.specs.declared.request_fault.RequestFault.{RequestFault}
use Rattle.pmb_request.specs.declared.request_fault.RequestFault.TheVariants.{Line, Quantity}
use Rattle.pmb_host.specs.declared.step.HostFault.{HostFault}
use Rattle.pmb_host.specs.Requests.{IsSound}
use Rattle.pmb_host.specs.Rules.{IsAllowed, IsFault}
use Rattle.pmb_host.specs.Signals.{reply_form}
use Rattle.pmb_host.specs.Task.{replied, task_of}
use Rattle.pmb_host.proofs.Words.{quantity_is_word}
use Rattle.pmb_exchange.specs.Exchange.{Exchanges}
use Rattle.pmb_run.specs.Answer.{IsRefused, RunAnswer, Recorded, Refusal, Nothing, RunsLine, RunsText, end_text}
use Rattle.pmb_run.specs.Answer.{host_fault_text, is_done, is_failed, most_request_line}
use Rattle.pmb_run.specs.Lines.{RunsEach, RunsInput, answers_behind, recorded_by}
use Rattle.pmb_run.proofs.Exchanged.{exchanged}
use Rattle.pmb_run.proofs.Hosts.{after_one_more, devices_after}
use Rattle.pmb_run.proofs.Members.{IsMember}

-- what the layers below say of one line and one request
pub record SomeLaws (profile : List DeviceParts) : Type 0 where
  pub request_or_fault : (mode : ℕ → Option ℕ) (line : List ℕ)
      → ((request : RequestData) × SpellsRequest mode line request)
      ⊎ ((fault : RequestFault) × IsRequestFault line fault)
  pub allowed_or_fault : (request : RequestData) → IsSound request
      → ((word : ℕ) × (number : Option NumberFormat) × IsAllowed profile request word number)
      ⊎ ((fault : HostFault) × IsFault profile request fault)
  pub some_exchange : (members : List InState) (request : RequestData) (word : ℕ) (number : Option NumberFormat)
      → map (λ m. m.device) members ≡ profile
      → IsAllowed profile request word number → (done : TransactionData) × Exchanges members (task_of request word) done
  pub packets : (request : RequestData) (word : ℕ) (number : Option NumberFormat) (reply : List ℕ)
      → IsAllowed profile request word number
      → IfSome (reply_form profile (task_of request word)) (λ form. Fits form reply)
      → HasPacket profile (replied (task_of request word) reply)
  pub positive : (text : List ℕ) → HasPositive (reading text)

-- a request that a line spells has at most 16 parts, and a quantity that is one
sound_of : ((text : List ℕ) → HasPositive (reading text))
    → (mode : ℕ → Option ℕ) (wording : Wording) (request : RequestData) → IsWithin wording → Means mode wording request
    → IsSound request
sound_of positive mode (Write parts) request within means = subst IsSound (sym means) within.few
sound_of positive mode (Ask command to_read) request within means = subst IsSound (sym means) tt
sound_of positive mode (Ask command (to_call bytes)) request within means = subst IsSound (sym means) tt
sound_of positive mode (Ask command (to_set text)) request within (q, reads, is) =
    subst IsSound (sym is) (subst HasPositive reads (positive text))
sound_of positive mode (Ask command to_get) request within means = subst IsSound (sym means) tt

-- after no transactions
pub at_first : (members : List InState) → AllByRecursion IsMember members
    → AllByRecursion IsMember (all_after [] members)
at_first [] all = tt
at_first (m ∷ members) all = (
  record { accepted = all.0.accepted; kept = all.0.kept; good = all.0.good },
  at_first members all.1,
)

module _ (profile : List DeviceParts) (bus : IsBus profile) (laws : SomeLaws profile) where
  -- the devices are in good states after these transactions
  abbrev AreGood : List TransactionData → Type 0
  AreGood before = AllByRecursion IsMember (all_after before (first_members profile))

  -- An answer that is so, and good states after what was recorded for it.
  record Answered (before : List TransactionData) (Holds : RunAnswer → Type 0) : Type 0 where
    answer : RunAnswer
    holds : Holds answer
    after : AreGood (before ++ recorded_by answer)

  module _ (before : List TransactionData) (good : AreGood before) where
    still_good : AreGood (before ++ [])
    still_good = subst AreGood (sym (append-nil before)) good

    module _ (line : List ℕ) where
      -- a request that is allowed is run
      run_some : (request : RequestData) → SpellsRequest (mode profile before) line request
          → (word : ℕ) (number : Option NumberFormat)
          → IsAllowed profile request word number → Answered before (RunsText profile before line)
      run_some request spells word number allowed =
          -- the devices as the transactions before left them
          let members = all_after before (first_members profile) in
          let devices_are = devices_after before profile in
          -- the request comes to a transaction on them,
          let exchange = laws.some_exchange members request word number devices_are allowed in
          -- which has a packet and an end
          let ending =
          exchanged profile members bus devices_are good number (task_of request word) exchange.0 (record {
            packets = λ reply fits. laws.packets request word number reply allowed fits;
            words = λ format some. quantity_is_word profile bus request word number format allowed some;
          }) exchange.1 in
          record {
            answer = Recorded exchange.0 ending.packet.0 (end_text ending.end);
            holds = record {
              request = request;
              spells = spells;
              word = word;
              number = number;
              allowed = allowed;
              exchanges = exchange.1;
              packet = ending.packet.1;
              end = ending.end;
              ends = ending.ends;
              told = refl;
            };
            after = subst (AllByRecursion IsMember) (after_one_more before exchange.0 (first_members profile))
                ending.after;
          }

      -- any other is refused
      request_some : (request : RequestData) → SpellsRequest (mode profile before) line request
          → Answered before (RunsText profile before line)
      request_some request spells =
          elim (laws.allowed_or_fault request (sound_of laws.positive (mode profile before) spells.wording request
          spells.within spells.means)) [
            | inl allowed ↦ run_some request spells allowed.0 allowed.1 allowed.2
            | inr fault ↦ record {
              answer = Refusal (host_fault_text fault.0);
              holds = IsRefused.no_host request fault.0 spells fault.1 refl;
              after = still_good;
            }
          ]

      -- the answer to a line with a fault, which is none where the line is blank
      refused : (because : RequestFault) → IsRequestFault line because → Answered before (RunsText profile before line)
      refused (Line line_fault.Blank) is = record { answer = Nothing; holds = is; after = still_good }
      refused (Line (line_fault.BadWord at)) is = record {
        answer = Refusal (fault_text (Line (line_fault.BadWord at)));
        holds = IsRefused.no_request (Line (line_fault.BadWord at)) is (λ same. cc same) refl;
        after = still_good;
      }
      refused (Line (line_fault.TooLong at)) is = record {
        answer = Refusal (fault_text (Line (line_fault.TooLong at)));
        holds = IsRefused.no_request (Line (line_fault.TooLong at)) is (λ same. cc same) refl;
        after = still_good;
      }
      refused (Line (line_fault.Invalid invalid)) is = absurd is
      refused (Quantity fault) is = record {
        answer = Refusal (fault_text (Quantity fault));
        holds = IsRefused.no_request (Quantity fault) is (λ same. cc same) refl;
        after = still_good;
      }

      text_some : Answered before (RunsText profile before line)
      text_some = elim (laws.request_or_fault (mode profile before) line) [
        | inl request ↦ request_some request.0 request.1
        | inr fault ↦ refused fault.0 fault.1
      ]

    line_some : (line : TextLine) → Answered before (RunsLine profile before line)
    line_some (lines.Ended line) = let some = text_some line in
        record { answer = some.answer; holds = some.holds; after = some.after }
    line_some (lines.Last line) = let some = text_some line in
        record { answer = some.answer; holds = some.holds; after = some.after }
    line_some lines.TooLong = record {
      answer =
          Refusal (fault_text (Line (line_fault.TooLong most_request_line)));
      holds = refl;
      after = still_good;
    }

  each_some : (before : List TransactionData) → AreGood before → (given : List TextLine)
      → (answers : List RunAnswer) × RunsEach profile before given answers
  each_some before good [] = ([], tt)
  each_some before good (line ∷ rest) =
      let first = line_some before good line in
      let behind = each_some (before ++ recorded_by first.answer) first.after rest in
      (first.answer ∷ behind.0, (first.holds, behind.1))

  pub some_text : AllByRecursion IsMember (first_members profile) → (bytes : List ℕ)
      → (text : List ℕ) × (tally : Tally) × RunsInput profile tally bytes text
  some_text good bytes =
      let all = each_some [] (at_first (first_members profile) good) (lines_of most_request_line bytes) in (
        answers_behind 0 all.0,
        record { packets = capped (count_by is_done all.0); refusals = capped (count_by is_failed all.0) },
        record {
          given = record { answers = all.0; each = all.1; whole = refl };
          counts = record { packets_counted = refl; refusals_counted = refl };
        },
      )
