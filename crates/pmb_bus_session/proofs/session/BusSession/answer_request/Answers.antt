use Rattle.std.proofs.Common.{◌≡◌, ◌∙◌, ◌≤◌, ◌++◌, ℕ, [], List, Option, Result, Ok, Err, IsOk, OnOk, option_map, Box, not, false, refl, sym, ap, subst, arith}
use Rattle.std.proofs.Common.{inr, length, length-append, true≢false}
use Rattle.std.specs.declared.alloc.Global.{Global}
use Rattle.pmb_io.specs.declared.tally.Tally.{Tally}
use Rattle.pmb_bus_session.specs.Devices.{request_text}
use Rattle.pmb_bus_session.specs.Session.{IsBusy, IsFree, Requests, RunsLine, done_with}
use Rattle.pmb_bus_session.specs.declared.devices.Devices.{Devices}
use Rattle.pmb_bus_session.specs.declared.work.BusAnswer.{BusAnswer}
use Rattle.pmb_bus_session.proofs.session.BusSession.answer_request.Goals as goal

-- the value in them, where they are made
abbrev values : Option (Box Devices Global) → Option Devices
values devices = option_map (λ (it : Box Devices Global). it.value) devices

at_ok : {T E P : Type 0} (r : Result T E) → IsOk r → OnOk r P → P
at_ok (Ok _) is so = so
at_ok (Err _) is so = absurd (true≢false (sym is))

-- the text of a request after the text that was there
after_text : (line : List ℕ) (was now : Devices) (log text : List ℕ) (tally : Tally) → RunsLine line was now [] text tally
    → RunsLine line was now log (log ++ text) tally
after_text line was now log text tally runs members ts stands =
    let one = runs members ts stands in record {
      told = one.told;
      said = one.said;
      said_is = one.said_is;
      answers = one.answers;
      text = ap (λ (more : List ℕ). log ++ more) one.text;
      lines = one.lines;
      tally_is = one.tally_is;
      profile_is = one.profile_is;
      stands = one.stands;
    }

-- There is room for any text that waits.
pub push_text-requires : goal.push_text-requires
push_text-requires c =
    let room : 32768 ≤ c.reserve.new.self.room =
    at_ok c.reserve.result (c.is_err.ensures.negation ∙ ap not c.if-is_err.false) c.reserve.ensures.room in
    omega (arith, c.text.ensures.few, room)

-- A transfer is under way, and all stays.
pub returns-then-is_busy-clause-runs : goal.returns-then-is_busy-clause-runs
returns-then-is_busy-clause-runs c =
    Requests.busy c.in-Some.devices.value (ap values c.in-Some.is)
    (subst (λ (d : Devices). IsBusy d) c.deref.ensures (c.is_busy.ensures.busy c.if-is_busy.true))
    (record { profile = refl; devices = sym (ap values c.in-Some.is); text = refl })
    c.plain-then-is_busy.ensures

-- There was no memory, and all stays.
pub returns-then-is_err-clause-runs : goal.returns-then-is_err-clause-runs
returns-then-is_err-clause-runs c =
    Requests.no_memory c.in-Some.devices.value (ap values c.in-Some.is)
    (subst (λ (d : Devices). IsFree d) c.deref.ensures (c.is_busy.ensures.free c.if-is_busy.false))
    (record { profile = refl; devices = sym (ap values c.in-Some.is); text = c.reserve.ensures.left })
    c.plain-then-is_err.ensures

-- The request was run.
pub returns-in-Ok-clause-runs : goal.returns-in-Ok-clause-runs
returns-in-Ok-clause-runs c =
    let line = c.args.line.now in
    let was = c.in-Some.devices.value in
    let now = c.request.new.self in
    let free : IsFree was =
    subst (λ (d : Devices). IsFree d) c.deref.ensures (c.is_busy.ensures.free c.if-is_busy.false) in
    let runs = subst (λ (d : Devices). RunsLine line d now [] (request_text now) c.in-Ok.tally)
    c.deref_mut-devices.ensures.value c.in-Ok.ensures.runs in
    let tally_is : c.done_with.result.tally ≡ c.in-Ok.tally = ap (λ (a : BusAnswer). a.tally) c.done_with.ensures in
    Requests.run was now (ap values c.in-Some.is) refl free
    (c.request.ensures.under_way ∙ ap (λ (d : Devices). d.is_under_way) c.deref_mut-devices.ensures.value ∙ free.ended) refl
    (subst (λ (tally : Tally). RunsLine line was now c.args.self.now.log.left c.push_text.new.self.left tally)
    (sym tally_is)
    (subst (λ (log : List ℕ). RunsLine line was now c.args.self.now.log.left log c.in-Ok.tally)
    (sym (c.push_text.ensures.left
    ∙ (ap (λ (front : List ℕ). front ++ c.text.result.now) c.reserve.ensures.left
    ∙ ap (λ (text : List ℕ). c.args.self.now.log.left ++ text) c.text.ensures.all)))
    (after_text line was now c.args.self.now.log.left (request_text now) c.in-Ok.tally runs)))
    (c.done_with.ensures ∙ ap done_with (sym tally_is))

-- Its text is longer than there is room for, and the devices are gone.
pub returns-in-Err-clause-runs : goal.returns-in-Err-clause-runs
returns-in-Err-clause-runs c =
    Requests.gone c.in-Some.devices.value (ap values c.in-Some.is)
    (subst (λ (d : Devices). IsFree d) c.deref.ensures (c.is_busy.ensures.free c.if-is_busy.false))
    refl refl c.reserve.ensures.left c.plain-in-Err.ensures

-- ---- text that was taken

pub returns-then-is_err-clause-few : goal.returns-then-is_err-clause-few
returns-then-is_err-clause-few c = inr (omega (arith, c.reserve.ensures.few))

pub returns-in-Ok-clause-few : goal.returns-in-Ok-clause-few
returns-in-Ok-clause-few c =
    let text = c.text.result.now in
    inr (omega (
      arith,
      c.reserve.ensures.few,
      c.push_text.ensures.taken,
      ap (λ (l : List ℕ). length l) c.push_text.ensures.left,
      length-append c.reserve.new.self.left text,
    ))

pub returns-in-Err-clause-few : goal.returns-in-Err-clause-few
returns-in-Err-clause-few c = inr (omega (arith, c.reserve.ensures.few))
