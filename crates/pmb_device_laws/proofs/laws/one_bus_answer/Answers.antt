use Rattle.pmb_device_laws.proofs.Buses.{one_bus_answer, one_bus_end}
use Rattle.pmb_device_laws.proofs.laws.one_bus_answer.Goals as goal

pub returns : goal.returns
returns c = record {
  answer = λ members legs signal result other bus. one_bus_answer members legs signal bus result other;
  end = λ members after others legs. one_bus_end legs members after others;
}
