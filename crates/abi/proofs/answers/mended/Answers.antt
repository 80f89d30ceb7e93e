-- `abi::answers::mended`: by what can be done for the image.
use Rattle.abi.specs.Answers.{mended_numbers}
use Rattle.abi.proofs.answers.mended.Goals as goal

pub returns-in-Accepted : goal.returns-in-Accepted
unfolding mended_numbers
returns-in-Accepted c = rw c.in-Accepted.is

pub returns-in-Refused : goal.returns-in-Refused
unfolding mended_numbers
returns-in-Refused c = rw c.in-Refused.is

pub returns-in-Byte : goal.returns-in-Byte
unfolding mended_numbers
returns-in-Byte c = rw c.in-Byte.is

pub returns-in-Unmended : goal.returns-in-Unmended
unfolding mended_numbers
returns-in-Unmended c = rw c.in-Unmended.is
