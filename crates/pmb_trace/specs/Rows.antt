-- Rows, worked by hand.
use Rattle.std.specs.Prelude.{◌≡◌, [], ◌∷◌, codes, decimal, refl, Some, None, false}
use Rattle.std.specs.Fmt.{digits}
use Rattle.pmb_trace.specs.Line.{trace_line, Says, Nothing, Lost, event_time}
use Rattle.pmb_trace.specs.Fields.{bytes_field, outcome_field}
use Rattle.pmb_trace.specs.declared.event_name.EventName.TheVariants.{I2cResult}

pub a_result : trace_line (codes " i2cget-91 [000] .n...    14.000907: i2c_result:   i2c-0 n=2 ret=2") ≡
    Says (record {
      name = I2cResult;
      front = codes "14.000907:";
      fields = codes "i2c-0" ∷ codes "n=2" ∷ codes "ret=2" ∷ [];
      has_other = false;
    })
a_result = refl

pub a_loss : trace_line (codes "CPU:0 [LOST 1510 EVENTS]") ≡ Lost (Some (codes "1510"))
a_loss = refl

pub a_loss2 : trace_line (codes "[EVENTS DROPPED]") ≡ Lost None
a_loss2 = refl

pub a_loss3 : trace_line (codes "swapper 0 [000] 1.2: PERF_RECORD_LOST lost 12") ≡ Lost (Some (codes "12"))
a_loss3 = refl

pub a_loss4 : trace_line (codes "# entries-in-buffer/entries-written: 5/25   #P:1") ≡ Lost (Some (decimal 20))
a_loss4 = refl

pub none : trace_line (codes "# entries-in-buffer/entries-written: 25/25   #P:1") ≡ Nothing
none = refl

pub a_time : event_time (codes "14.000907:") ≡ codes "14.000907 s"
a_time = refl

pub some_bytes : bytes_field (codes "[21-00-18]") ≡ Some (0x21 ∷ 0x00 ∷ 0x18 ∷ [])
some_bytes = refl

-- a minus in front of 0 leaves it 0
pub a_zero : outcome_field (codes "res=") (codes "res=-0") ≡ Some (record { text = codes "-0"; value = Some 0 })
a_zero = refl

pub a_failure : outcome_field (codes "res=") (codes "res=-6") ≡ Some (record { text = codes "-6"; value = None })
a_failure = refl

-- without its sign
pub a_failure2 : outcome_field (codes "res=") (codes "res=65530") ≡ Some (record { text = codes "-6"; value = None })
unfolding digits
a_failure2 = refl

pub no_failure : outcome_field (codes "ret=") (codes "ret=32767")
    ≡ Some (record { text = codes "32767"; value = Some 32767 })
no_failure = refl

-- as the tracer function_graph prints it
pub a_comment : trace_line (codes " 1)               |  /* i2c_result: i2c-0 n=2 ret=2 */") ≡
    Says (record {
      name = I2cResult;
      front = codes "/*";
      fields = codes "i2c-0" ∷ codes "n=2" ∷ codes "ret=2" ∷ [];
      has_other = false;
    })
a_comment = refl

-- without its end, it has no field
pub an_open_comment : trace_line (codes " 1)               |  /* i2c_result: i2c-0 n=2 ret=2") ≡
    Says (record { name = I2cResult; front = codes "/*"; fields = []; has_other = false })
an_open_comment = refl

-- a loss counts wherever its line begins
pub a_loss5 : trace_line (codes "# 1.2: PERF_RECORD_LOST lost 12") ≡ Lost (Some (codes "12"))
a_loss5 = refl
