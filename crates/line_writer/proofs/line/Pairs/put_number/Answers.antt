-- `line_writer::line::Pairs::put_number` meets its contract: the last digits stand in the line, and those of the rest are left.
use mathlib.Core.Path.{◌≡◌}
use Prim.Native.Nat.{ℕ, ◌+◌, ◌-◌, ◌*◌, ◌/◌, ◌%◌, ◌≤◌, ◌<◌}
use native.Mathlib.Omega.{arith}
use lib.ListN.{length, get_or, length-set}
use Rattle.line_writer.specs.ColumnLaws.{putting_some, putting_pair, putting_long, putting_end, putting_two, two_end, two_tens, two_ones, two_long}
use Rattle.line_writer.proofs.line.Pairs.put_number.Goals as goal
use Rattle.line_writer.proofs.line.Pairs.put_number.Goals.{At-loop-rest}

-- there are columns for the next digits, and the line is as long as it was
some : (c : goal.At-loop-rest) → 1 ≤ c.loop-rest.at
some c = let p = c.requires in putting_some c.loop-rest.invariant.1 p.0 p.1

pair : (c : goal.At-loop-rest) → 10 ≤ c.loop-rest.rest → 2 ≤ c.loop-rest.at
pair c l = let p = c.requires in putting_pair c.loop-rest.invariant.1 p.0 p.1 l

long : (c : goal.At-loop-rest) → length c.loop-rest.line ≡ length c.args.line.now
long c = let p = c.requires in putting_long c.loop-rest.invariant.1 p.0 p.1

-- the digits of a number below 100
ones : (c : goal.At-loop-rest) (j : ℕ) → j < 100 → get_or c.args.self.digits.now (2 * j + 1) 0 ≡ 48 + j % 10
ones c j l = two_ones c.args.self.two j l (omega arith)

tens : (c : goal.At-loop-rest) (j : ℕ) → j < 100 → get_or c.args.self.digits.now (2 * j) 0 ≡ 48 + j / 10
tens c j l = two_tens c.args.self.two j l (omega arith)

pub overflow_sub-last : goal.overflow_sub-last
overflow_sub-last c = omega (arith, some (goal.at.overflow_sub-last c).At-loop-rest)

pub overflow_sub-at : goal.overflow_sub-at
overflow_sub-at c = omega (arith, pair (goal.at.overflow_sub-at c).At-loop-rest (omega (arith, c.loop-rest-test.true)))

pub bounds-self-two : goal.bounds-self-two
bounds-self-two c = omega (arith, two_long c.args.self.two)

pub bounds-line-last : goal.bounds-line-last
bounds-line-last c = omega (arith, some (goal.at.bounds-line-last c).At-loop-rest, long (goal.at.bounds-line-last c).At-loop-rest, c.loop-rest.invariant.0, c.requires.1)

pub bounds-self-two-in-loop-rest : goal.bounds-self-two-in-loop-rest
bounds-self-two-in-loop-rest c = omega (arith, two_long c.args.self.two)

pub bounds-line-at : goal.bounds-line-at
bounds-line-at c = omega (arith, length-set c.loop-rest.line (c.loop-rest.at - 1) (get_or c.args.self.digits.now (2 * (c.loop-rest.rest % 100) + 1) 0), pair (goal.at.bounds-line-at c).At-loop-rest (omega (arith, c.loop-rest-test.true)), long (goal.at.bounds-line-at c).At-loop-rest, c.loop-rest.invariant.0, c.requires.1)

pub loop-rest-preserved : goal.loop-rest-preserved
loop-rest-preserved c =
    let p = c.requires in
    let rest = c.loop-rest.rest in
    let more = c.loop-rest-test.true in (
      omega (arith, c.loop-rest.invariant.0),
      putting_two c.loop-rest.invariant.1 p.0 p.1 (omega (arith, pair (goal.at.loop-rest-preserved c).At-loop-rest (omega arith))) (omega arith) (omega (arith, ones (goal.at.loop-rest-preserved c).At-loop-rest (rest % 100) (omega arith))) (omega (arith, pair (goal.at.loop-rest-preserved c).At-loop-rest (omega arith))) more (omega (arith, tens (goal.at.loop-rest-preserved c).At-loop-rest (rest % 100) (omega arith))),
    )

pub overflow_sub-last-2 : goal.overflow_sub-last-2
overflow_sub-last-2 c = omega (arith, some (goal.at.overflow_sub-last-2 c).At-loop-rest)

pub bounds-line-last-then-rest-lt10 : goal.bounds-line-last-then-rest-lt10
bounds-line-last-then-rest-lt10 c = omega (arith, some (goal.at.bounds-line-last-then-rest-lt10 c).At-loop-rest, long (goal.at.bounds-line-last-then-rest-lt10 c).At-loop-rest, c.loop-rest.invariant.0, c.requires.1)

pub returns-then-rest-lt10 : goal.returns-then-rest-lt10
returns-then-rest-lt10 c = let p = c.requires in putting_end c.loop-rest.invariant.1 p.0 p.1 (omega (arith, some (goal.at.returns-then-rest-lt10 c).At-loop-rest)) c.if-rest-lt10.true

pub overflow_sub-first : goal.overflow_sub-first
overflow_sub-first c = omega (arith, pair (goal.at.overflow_sub-first c).At-loop-rest c.if-rest-lt10.false)

pub bounds-self-two-2 : goal.bounds-self-two-2
bounds-self-two-2 c = omega (arith, c.loop-rest-test.false, two_long c.args.self.two)

pub bounds-line-last-2 : goal.bounds-line-last-2
bounds-line-last-2 c = omega (arith, some (goal.at.bounds-line-last-2 c).At-loop-rest, long (goal.at.bounds-line-last-2 c).At-loop-rest, c.loop-rest.invariant.0, c.requires.1)

pub bounds-self-two-3 : goal.bounds-self-two-3
bounds-self-two-3 c = omega (arith, c.loop-rest-test.false, two_long c.args.self.two)

pub bounds-line-first : goal.bounds-line-first
bounds-line-first c = omega (arith, length-set c.loop-rest.line (c.loop-rest.at - 1) (get_or c.args.self.digits.now (2 * c.loop-rest.rest + 1) 0), pair (goal.at.bounds-line-first c).At-loop-rest c.if-rest-lt10.false, long (goal.at.bounds-line-first c).At-loop-rest, c.loop-rest.invariant.0, c.requires.1)

pub returns : goal.returns
returns c =
    let p = c.requires in
    let rest = c.loop-rest.rest in
    let two = c.if-rest-lt10.false in
    let few = c.loop-rest-test.false in
    two_end c.loop-rest.invariant.1 p.0 p.1 (omega (arith, pair (goal.at.returns c).At-loop-rest two)) two (ones (goal.at.returns c).At-loop-rest rest few) (omega (arith, pair (goal.at.returns c).At-loop-rest two)) few (tens (goal.at.returns c).At-loop-rest rest few)
