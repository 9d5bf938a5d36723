-- What contracts see of a reply: its bytes.
use Rattle.std.specs.Prelude.{ℕ, Result, Ok, Err, List}
use Rattle.pmb_registers.specs.declared.cml_bit.CmlBit.{CmlBit}
use Rattle.pmb_registers.specs.declared.reply.Reply.{Reply}
use Rattle.pmb_registers.specs.declared.reply.Reply.TheVariants.{Held, Coefficients}

abbrev pub reply_bytes : Reply → List ℕ
reply_bytes (Held bytes) = bytes.now
reply_bytes (Coefficients bytes) = bytes

-- the bytes of a reply, or the bit of a refusal
abbrev pub answer_bytes : Result Reply CmlBit → Result (List ℕ) CmlBit
answer_bytes (Ok reply) = Ok (reply_bytes reply)
answer_bytes (Err bit) = Err bit
