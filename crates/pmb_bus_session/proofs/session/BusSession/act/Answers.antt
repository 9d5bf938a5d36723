use Rattle.std.proofs.Common.{refl, sym, subst}
use Rattle.pmb_bus_session.specs.Work.{ActsFor}
use Rattle.pmb_bus_session.specs.declared.work.BusTask.{BusTask}
use Rattle.pmb_bus_session.proofs.session.BusSession.act.Goals as goal

-- Each task does what it is for, in the room that was lent.
pub returns-in-Open-clause-acts : goal.returns-in-Open-clause-acts
returns-in-Open-clause-acts c = record {
  acts = subst (λ (task : BusTask). ActsFor task c.args.self.now c.answer_open.new.self c.args.work.now
      (record c.args.work.now { answer = c.answer_open.new.answer })) (sym c.in-Open.is) (c.answer_open.ensures.opens, refl);
  same = refl;
}

pub returns-in-Request-clause-acts : goal.returns-in-Request-clause-acts
returns-in-Request-clause-acts c = record {
  acts = subst (λ (task : BusTask). ActsFor task c.args.self.now c.answer_request.new.self c.args.work.now
      (record c.args.work.now { answer = c.answer_request.new.answer }))
      (sym c.in-Request.is) (c.answer_request.ensures.runs, refl);
  same = refl;
}

pub returns-in-Message-clause-acts : goal.returns-in-Message-clause-acts
returns-in-Message-clause-acts c = record {
  acts = subst (λ (task : BusTask). ActsFor task c.args.self.now c.answer_message.new.self c.args.work.now
      (record c.args.work.now {
        room = record c.args.work.now.room { now = c.answer_message.new.room };
        answer = c.answer_message.new.answer;
      }))
      (sym c.in-Message.is) c.answer_message.ensures.sends;
  same = refl;
}
