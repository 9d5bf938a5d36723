-- What counts and signs were given: `HasCounted counts facts`, `TotalsStandAt totals facts` and
-- `SignsStandAt signs profile facts` say that they were given these facts since `new`, signs under that
-- profile. A device's counts were given those that name it, `of_device addr facts`. What that says of
-- fields is in `machine`, and nothing else needs it to be understood.
pub use Rattle.pmb_stats_counts.specs.machine.Standing.{HasCounted, SignsStandAt, TotalsStandAt}
