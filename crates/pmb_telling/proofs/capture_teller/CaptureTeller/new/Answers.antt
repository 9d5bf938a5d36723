use Rattle.pmb_telling.proofs.capture_teller.CaptureTeller.new.Goals as goal

pub returns-in-Some : goal.returns-in-Some
returns-in-Some c = record {
  accepted = c.accepted_bus.ensures;
  start = c.in-Some.teller.value;
  same_choice = c.in-Some.ensures.choice;
  same_profile = c.in-Some.ensures.profile;
  same_after = c.in-Some.ensures.bad_words;
  put_out = c.in-Some.ensures.begins;
}
