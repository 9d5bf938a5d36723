use Rattle.pmb_run.proofs.laws.lines_have_one_answer.Goals as goal

pub returns : goal.returns
returns c profile bus = record {
  one_request = c.one_request.ensures;
  one_line_fault = c.one_request_fault.ensures;
  no_line_fault = c.no_request_with_a_fault.ensures;
  one_host_fault = λ request a b. c.one_first_fault.ensures profile request a b bus;
  no_host_fault = λ request word number fault. c.allowed_requests_have_no_fault.ensures profile request word number
      fault bus;
  one_exchange = λ members task a b. c.an_exchange_is_one.ensures profile members task a b bus;
  one_packet = c.one_packet.ensures profile;
}
