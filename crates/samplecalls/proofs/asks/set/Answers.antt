-- Where nothing is refused, the set that is printed is the one that is asked for.
use Rattle.samplecalls.proofs.asks.set.Goals as goal

pub returns-in-Ok : goal.returns-in-Ok
returns-in-Ok g c = rw (← c.small.ensures, ← c.in-Ok.ensures) c.write.ensures.bytes
