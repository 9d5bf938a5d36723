use Rattle.std.proofs.Common.{◌∙◌}
use Rattle.pmb_kernel.proofs.events.read_event.Goals as goal

pub returns-in-I2cWrite : goal.returns-in-I2cWrite
returns-in-I2cWrite c bus = rw c.in-I2cWrite.is (c.message_or_nothing.ensures _ ∙ c.with_bytes.ensures bus)

pub returns-in-I2cRead : goal.returns-in-I2cRead
returns-in-I2cRead c bus =
    rw c.in-I2cRead.is (c.message_or_nothing-in-I2cRead.ensures _ ∙ c.without_bytes.ensures bus)

pub returns-in-I2cReply : goal.returns-in-I2cReply
returns-in-I2cReply c bus =
    rw c.in-I2cReply.is (c.message_or_nothing-in-I2cReply.ensures _ ∙ c.with_bytes-in-I2cReply.ensures bus)

pub returns-in-I2cResult : goal.returns-in-I2cResult
returns-in-I2cResult c bus = rw c.in-I2cResult.is (c.result_of.ensures bus _)
