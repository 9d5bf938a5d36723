-- What is counted of a capture's facts, beside what the last objects of `json` tell of it.
use Rattle.std.specs.Prelude.{◌≡◌, ℕ, List, [], ◌∷◌}
use Rattle.std.specs.List.{sum_by}
use Rattle.pmb_facts.specs.Fact.{FactData}
use Rattle.pmb_json_objects.specs.Counts.{CountsData, DeviceData}
use Rattle.pmb_stats_counts.specs.Counts.{bad_tokens, count_in_all, count_of, packets}
use Rattle.pmb_stats_counts.specs.declared.sort.NackPlace.{NackPlace}
use Rattle.pmb_stats_counts.specs.declared.sort.NackPlace.TheVariants.{Address, Code, Byte, ReadAddress}
use Rattle.pmb_stats_counts.specs.declared.sort.Sort.TheVariants.{Writes, Reads, Calls, Nacks, Refusals, Others}
use Rattle.pmb_transaction.specs.declared.reason.Reason.{Reason}
use Rattle.pmb_transaction.specs.declared.reason.Reason.TheVariants.{ReadFirst, BadRestart, BadPec, UnknownDevice}
use Rattle.pmb_transaction.specs.declared.reason.Reason.TheVariants.{UnknownCommand, TooLong, TooShort, WrongEvent}
use Rattle.pmb_transaction.specs.declared.reason.Reason.TheVariants.{Truncated}

-- ---- sums

-- each place of a refused leg, and each reason to refuse an event, once
abbrev pub nack_places : List NackPlace
nack_places = Address ∷ Code ∷ Byte ∷ ReadAddress ∷ []

abbrev pub reasons : List Reason
reasons =
    ReadFirst ∷ BadRestart ∷ BadPec ∷ UnknownDevice ∷ UnknownCommand ∷ TooLong ∷ TooShort ∷ WrongEvent ∷ Truncated ∷ []

-- how many there are, wherever and for whatever reason
abbrev pub nacks_of : ℕ → List FactData → ℕ
nacks_of addr facts = sum_by (λ at. count_of addr (Nacks at) facts) nack_places

abbrev pub refusals_of : ℕ → List FactData → ℕ
refusals_of addr facts = sum_by (λ reason. count_of addr (Refusals reason) facts) reasons

abbrev pub refusals_in_all : List FactData → ℕ
refusals_in_all facts = sum_by (λ reason. count_in_all (Refusals reason) facts) reasons

-- ---- what is counted, and what is told

-- Of a device. Its alerts are counted, and not told.
pub record DeviceIsTold (addr : ℕ) (facts : List FactData) (told : DeviceData) : Type 0 where
  pub writes : count_of addr Writes facts ≡ told.writes
  pub reads : count_of addr Reads facts ≡ told.reads
  pub calls : count_of addr Calls facts ≡ told.calls
  pub refused : nacks_of addr facts ≡ told.refused
  pub refusals : refusals_of addr facts ≡ told.refusals
  pub others : count_of addr Others facts ≡ told.others

-- Of each device, and in all.
pub record CountsAreTold (facts : List FactData) (told : CountsData) : Type 0 where
  pub of_device : (addr : ℕ) → DeviceIsTold addr facts (told.of_device addr)
  pub of_packets : packets facts ≡ told.packets
  pub of_refusals : refusals_in_all facts ≡ told.refusals
  pub of_bad_tokens : bad_tokens facts ≡ told.bad_tokens
  pub of_others : count_in_all Others facts ≡ told.others
