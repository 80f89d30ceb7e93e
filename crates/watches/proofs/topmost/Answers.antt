-- `watches::topmost`: none, or by the frame below the count of live calls and its version.
use Rattle.watches.proofs.Tops.{no_call, far_call, no-version, top-call}
use Rattle.watches.proofs.topmost.Goals as goal

pub returns-then-calls-eq0 : goal.returns-then-calls-eq0
returns-then-calls-eq0 c =
    no_call _ _ c.wide-calls.ensures.0 c.if-calls-eq0.true

pub returns-then-calls-gt-FRAMES : goal.returns-then-calls-gt-FRAMES
returns-then-calls-gt-FRAMES c =
    far_call _ _ c.wide-calls.ensures.0 c.if-calls-gt-FRAMES.true

pub returns-in_err-own : goal.returns-in_err-own
returns-in_err-own c =
    rw c.from_residual.ensures (no-version _ _ c.wide-calls.ensures.0 c.if-calls-eq0.false c.if-calls-gt-FRAMES.false _ c.version.ensures c.in_err-own.was)

pub returns : goal.returns
returns c =
    top-call _ _ c.wide-calls.ensures.0 c.if-calls-eq0.false c.if-calls-gt-FRAMES.false _ c.version.ensures c.in_ok-own.was
