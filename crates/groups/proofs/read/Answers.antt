use native.Mathlib.Omega.{arith}
use Prim.Native.Nat.{◌+◌, ◌-◌}
use Rattle.groups.proofs.Reading.{at_eight, at_the_end, at_zero, at_value, at_more, fits}
use Rattle.groups.proofs.read.Goals.{else-k-gt0-via-then-k-gt0+else-b-eq0, else-k-gt0-via-else-k-gt0}
use Rattle.groups.proofs.read.Goals as goal

pub returns-then-bytes-p : goal.returns-then-bytes-p
returns-then-bytes-p c = at_the_end c.loop-k.invariant (omega arith) c.if-bytes-p.true

pub overflow_mul-value : goal.overflow_mul-value
overflow_mul-value c = omega (arith, fits c.loop-k.invariant (omega arith) (c.from-b.result - 128) (omega (arith, c.type_inv.bytes (c.args.at + c.loop-k.k))))

pub overflow_add-value : goal.overflow_add-value
overflow_add-value c = omega (arith, fits c.loop-k.invariant (omega arith) (c.from-b.result - 128) (omega (arith, c.type_inv.bytes (c.args.at + c.loop-k.k))))

pub overflow_mul-weight : goal.overflow_mul-weight
overflow_mul-weight c = omega (arith, fits c.loop-k.invariant (omega arith) 0 (omega arith))

pub loop-k-preserved : goal.loop-k-preserved
loop-k-preserved c = at_more c.loop-k.invariant (omega arith) c.if-bytes-p.false c.from-b.ensures (omega (arith, c.type_inv.bytes (c.args.at + c.loop-k.k))) c.if-b-lt128.false

pub returns : goal.returns
returns c = at_eight c.loop-k.invariant (omega arith)

pub returns-then-b-eq0 : goal.returns-then-b-eq0
returns-then-b-eq0 c = at_zero c.loop-k.invariant (omega arith) c.if-bytes-p.false c.from-b.ensures c.if-b-lt128.true c.if-k-gt0.true c.if-b-eq0.true

pub overflow_mul-result : goal.overflow_mul-result
overflow_mul-result c = omega (arith, fits c.loop-k.invariant (omega arith) c.from-b.result c.if-b-lt128.true)

pub overflow_add-result : goal.overflow_add-result
overflow_add-result c = omega (arith, fits c.loop-k.invariant (omega arith) c.from-b.result c.if-b-lt128.true)

pub returns-then-b-lt128 : goal.returns-then-b-lt128
returns-then-b-lt128 c =
    at_value c.loop-k.invariant (omega arith) c.if-bytes-p.false c.from-b.ensures c.if-b-lt128.true
    (λ pos z. elim c.else-k-gt0.branch [ else-k-gt0-via-then-k-gt0+else-b-eq0 w ↦ w.if-b-eq0.false z | else-k-gt0-via-else-k-gt0 w ↦ omega arith ])
