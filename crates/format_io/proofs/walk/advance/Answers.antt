-- What is next on a walk over the code of a plan, or that it has ended.
use Rattle.std.proofs.Common.{◌≡◌, ◌+◌, ◌<◌, length, arith, Some, slice_get, rules}
use Rattle.format_io.specs.declared.code.Op.TheVariants as ops
use Rattle.format_io.proofs.Plans.{reads, reads_none, next_does, next_ends, turned, shorter, once_more, once_over, enters, enters_within, enter_level, leaves_within, leaves_last, leaves_more, leave_level, plan_end}
use Rattle.format_io.proofs.walk.advance.Goals as goal

pub returns-in-None : goal.returns-in-None
returns-in-None c = next_ends _ _ (plan_end c.args.plan.now _ _ _ c.requires (reads_none _ _ c.op_at.ensures c.in-None.is)) c.walk.invariant

pub returns-then-walk-count : goal.returns-then-walk-count
returns-then-walk-count c =
    let e : slice_get c.args.plan.now.ops.items c.walk.walk.pc ≡ Some (ops.Once c.in-Some-Once.count c.in-Some-Once.piece) = reads _ _ _ _ c.op_at.ensures c.in-Some-Once.is c.in-Some-Once.field-0-is in
    next_does _ _ _ _ (once_more c.args.plan.now _ _ _ _ _ c.requires e c.if-walk-count.true) c.walk.invariant

pub walk-smaller-in-Some-Once : goal.walk-smaller-in-Some-Once
walk-smaller-in-Some-Once c =
    let e : slice_get c.args.plan.now.ops.items c.walk.walk.pc ≡ Some (ops.Once c.in-Some-Once.count c.in-Some-Once.piece) = reads _ _ _ _ c.op_at.ensures c.in-Some-Once.is c.in-Some-Once.field-0-is in
    shorter _ _ (once_over c.args.plan.now _ _ _ _ _ c.requires e c.if-walk-count.false)

pub walk-preserved-in-Some-Once : goal.walk-preserved-in-Some-Once
walk-preserved-in-Some-Once c =
    let e : slice_get c.args.plan.now.ops.items c.walk.walk.pc ≡ Some (ops.Once c.in-Some-Once.count c.in-Some-Once.piece) = reads _ _ _ _ c.op_at.ensures c.in-Some-Once.is c.in-Some-Once.field-0-is in
    turned _ _ _ (once_over c.args.plan.now _ _ _ _ _ c.requires e c.if-walk-count.false) c.walk.invariant

pub bounds-walk-level : goal.bounds-walk-level
bounds-walk-level c = enter_level c.args.plan.now _ _ _ _ c.requires (reads _ _ (ops.Enter c.in-Some-Enter.level c.in-Some-Enter.count c.in-Some-Enter.size) _ c.op_at.ensures c.in-Some-Enter.is c.in-Some-Enter.field-0-is)

pub overflow_add-walk-in-Some-Enter-2 : goal.overflow_add-walk-in-Some-Enter-2
overflow_add-walk-in-Some-Enter-2 c =
    let e : c.walk.walk.pc + 1 + c.in-Some-Enter.size < length c.args.plan.now.ops.items = enters_within c.args.plan.now _ _ _ _ c.requires (reads _ _ (ops.Enter c.in-Some-Enter.level c.in-Some-Enter.count c.in-Some-Enter.size) _ c.op_at.ensures c.in-Some-Enter.is c.in-Some-Enter.field-0-is) in let s = c.args.plan.now.ops.small in let o = c.args.plan.now.ops.ok in omega (arith, e, s, o.0, o.1)

pub walk-smaller-in-Some-Enter : goal.walk-smaller-in-Some-Enter
walk-smaller-in-Some-Enter c =
    shorter _ _ (enters c.args.plan.now _ _ _ _ _ _ c.requires (reads _ _ (ops.Enter c.in-Some-Enter.level c.in-Some-Enter.count c.in-Some-Enter.size) _ c.op_at.ensures c.in-Some-Enter.is c.in-Some-Enter.field-0-is) (search rules))

pub walk-preserved-in-Some-Enter : goal.walk-preserved-in-Some-Enter
walk-preserved-in-Some-Enter c =
    turned _ _ _ (enters c.args.plan.now _ _ _ _ _ _ c.requires (reads _ _ (ops.Enter c.in-Some-Enter.level c.in-Some-Enter.count c.in-Some-Enter.size) _ c.op_at.ensures c.in-Some-Enter.is c.in-Some-Enter.field-0-is) (search rules)) c.walk.invariant

pub bounds-walk-level-in-Some-Leave : goal.bounds-walk-level-in-Some-Leave
bounds-walk-level-in-Some-Leave c = leave_level c.args.plan.now _ _ _ c.requires (reads _ _ (ops.Leave c.in-Some-Leave.level c.in-Some-Leave.size) _ c.op_at.ensures c.in-Some-Leave.is c.in-Some-Leave.field-0-is)

pub walk-smaller-then-left-eq0 : goal.walk-smaller-then-left-eq0
walk-smaller-then-left-eq0 c =
    shorter _ _ (leaves_last c.args.plan.now _ _ _ _ _ c.requires (reads _ _ (ops.Leave c.in-Some-Leave.level c.in-Some-Leave.size) _ c.op_at.ensures c.in-Some-Leave.is c.in-Some-Leave.field-0-is) (search rules) c.if-left-eq0.true)

pub walk-preserved-then-left-eq0 : goal.walk-preserved-then-left-eq0
walk-preserved-then-left-eq0 c =
    turned _ _ _ (leaves_last c.args.plan.now _ _ _ _ _ c.requires (reads _ _ (ops.Leave c.in-Some-Leave.level c.in-Some-Leave.size) _ c.op_at.ensures c.in-Some-Leave.is c.in-Some-Leave.field-0-is) (search rules) c.if-left-eq0.true) c.walk.invariant

pub overflow_sub-walk-in-Some-Leave : goal.overflow_sub-walk-in-Some-Leave
overflow_sub-walk-in-Some-Leave c =
    let e : c.in-Some-Leave.size < c.walk.walk.pc = leaves_within c.args.plan.now _ _ _ c.requires (reads _ _ (ops.Leave c.in-Some-Leave.level c.in-Some-Leave.size) _ c.op_at.ensures c.in-Some-Leave.is c.in-Some-Leave.field-0-is) in omega arith

pub walk-smaller : goal.walk-smaller
walk-smaller c =
    shorter _ _ (leaves_more c.args.plan.now _ _ _ _ _ c.requires (reads _ _ (ops.Leave c.in-Some-Leave.level c.in-Some-Leave.size) _ c.op_at.ensures c.in-Some-Leave.is c.in-Some-Leave.field-0-is) (search rules) (omega (arith, c.if-left-eq0.false)))

pub walk-preserved : goal.walk-preserved
walk-preserved c =
    turned _ _ _ (leaves_more c.args.plan.now _ _ _ _ _ c.requires (reads _ _ (ops.Leave c.in-Some-Leave.level c.in-Some-Leave.size) _ c.op_at.ensures c.in-Some-Leave.is c.in-Some-Leave.field-0-is) (search rules) (omega (arith, c.if-left-eq0.false))) c.walk.invariant
