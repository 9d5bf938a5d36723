-- What contracts see of a refusal.
use Rattle.pmb_transaction.specs.Reading.{RefusalData}
use Rattle.pmb_reader.specs.declared.refusal.Refusal.{Refusal}

abbrev pub refusal_data : Refusal → RefusalData
refusal_data refusal = record { at = refusal.at; reason = refusal.reason; expected = refusal.expected }
