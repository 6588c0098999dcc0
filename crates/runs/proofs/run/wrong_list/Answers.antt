use mathlib.Core.Path.{refl}
use native.Mathlib.Omega.{arith}
use lib.ListN.{length}
use borrow.Author.Tests.{le-ltb, lt-ltb}
use Rattle.runs.specs.Results.{wrong_list}
use Rattle.runs.proofs.run.wrong_list.Goals as goal

pub returns-then-orders-gt2048 : goal.returns-then-orders-gt2048
unfolding wrong_list
returns-then-orders-gt2048 c = rw (lt-ltb 2048 (length c.args.orders.now) (omega (arith, c.if-orders-gt2048.true))) refl

pub returns-else-orders-gt2048 : goal.returns-else-orders-gt2048
unfolding wrong_list
returns-else-orders-gt2048 c = rw (le-ltb 2048 (length c.args.orders.now) (omega (arith, c.if-orders-gt2048.false))) refl
