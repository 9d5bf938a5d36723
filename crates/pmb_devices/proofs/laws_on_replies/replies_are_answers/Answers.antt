use Rattle.pmb_devices.proofs.Answering.{calls_are_answers, reads_are_answers}
use Rattle.pmb_devices.proofs.RunStates.{devices_stay, states_fit}
use Rattle.pmb_devices.proofs.laws_on_replies.replies_are_answers.Goals as goal

pub returns : goal.returns
returns c = record {
  read = λ profile stretches now history t member bus runs answered packet alone inside here.
      reads_are_answers profile now history t member bus (devices_stay profile stretches now runs) answered packet alone
      inside here
      (states_fit profile stretches now member bus runs inside);
  call = λ profile stretches now history t member form bus runs answered packet alone inside here called.
      calls_are_answers profile now history t member form bus (devices_stay profile stretches now runs) answered packet
      alone inside here called;
}
