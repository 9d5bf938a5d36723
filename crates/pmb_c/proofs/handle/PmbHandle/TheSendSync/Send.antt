-- A handle may go to another thread, where its value may.
use denote.Param.Send.{IsSend}
use Rattle.pmb_handle.proofs.Sent.{words_keyless, owns_keyless}
use Rattle.pmb_c.specs.contracts.held.Held.{the_row as held_row}
use Rattle.pmb_c.proofs.held.Held.TheSendSync as held
use Rattle.pmb_c.specs.contracts.handle.PmbHandle.{the_row}

pub send : IsSend the_row
send = record {
  owned = λ d vs. (words_keyless d.at d.alloc vs, owns_keyless held_row held.the_send d.alloc d.at d.held);
  leaving = λ k x w. tt;
}
