-- Each turn of the loop: what it needs, what it keeps, and that it is nearer the end.
use Rattle.std.proofs.Common.{suc, subst, ◌-◌, ◌*◌, ◌≤◌, ◌<◌, ◌+◌, length, drop, map, refl, sym, ap, ◌∙◌, arith, None, Some, [], rules, w64, to_z, of_z}
use mir.Val.{SFits}
use Rattle.std.proofs.lemmas.Int.{to_z-of_z}
use Rattle.std.proofs.lemmas.List.{length-drop}
use Rattle.ground.specs.Arithmetic.{IsInRange}
use Rattle.stack_code.specs.Views.{code_of, instruction_of}
use Rattle.stack_code.specs.ValidCode.{is_counted}
use Rattle.runner.specs.declared.run.Role.TheVariants as role
use Rattle.runner.specs.Frames.{back_of}
use Rattle.runner.specs.Recording.{MayAct}
use Rattle.runner.specs.Subscripted.{IsLaidOne, AreLaidTwo}
use Rattle.runner.specs.Endings.{IsEnd, end_in}
use Rattle.runner.specs.Running.{HasUnits, is_apart}
use Rattle.runner.proofs.Measure.{nearer_begun, nearer_call, nearer_return}
use Rattle.runner.proofs.Opening.{is_straight}
use Rattle.runner.proofs.SpotArms as spots
use Rattle.runner.proofs.SubscriptArms as elements
use Rattle.runner.proofs.Turn as turn
use Rattle.runner.proofs.Calls as calls
use Rattle.runner.proofs.Begun as frames
use Rattle.runner.proofs.RecordArms.{may_act, acts_on, acts_over}
use Rattle.runner.proofs.UnderWay.{under_way, keeps_on, whole, answered}
use Rattle.runner.proofs.Roles as roles
use Rattle.runner.proofs.run.run_code.Goals as goal

pub turn-init : goal.turn-init
turn-init g c = (under_way g.S.Source.left g.K.Sink.puts g.S.Source.faults g.K.Sink.faults g.met.K.Sink.nothing c.args.input.now c.args.out.now c.args.flow.now c.args.code.now c.args.steps _ _ _ _ _ _ _ _ _ _ (turn.begins c.args.code.now c.args.steps c.args.stack.now c.args.cells.now _ c.args.spots.now (map (back_of (code_of c.args.code.now.ops.items)) c.args.resumes.now) c.args.flow.now.stand 0 (frames.none_begun c.args.code.now.ops.items c.deref-ops.result.now c.deref-ops.ensures.value) c.requires.ready.units c.requires.ready.empty), c.code_from-ahead.ensures.is ∙ c.deref-ops.ensures.value)

pub prove-unreachable-requires : goal.prove-unreachable-requires
prove-unreachable-requires g c =
    let in_code = turn.within c.requires.ready.valid c.valid_is_safe.ensures c.turn.invariant.0.turn in
    let rest = ap length c.turn.invariant.1 ∙ length-drop c.turn.pc c.args.code.now.ops.items in
    omega (arith, in_code, rest)

pub returns-then-left-eq0 : goal.returns-then-left-eq0
returns-then-left-eq0 g c =
    let at = turn.stands c.requires.ready.valid c.valid_is_safe.ensures c.turn.invariant.0.turn c.index-ahead-0.result c.args.code.now.ops.items refl (turn.first c.args.code.now.ops.items c.turn.pc c.turn.invariant.1 c.index-ahead-0.is) in
    let told = roles.told role.Begins (instruction_of c.index-ahead-0.result) (sym c.in-Begins.is ∙ c.role_of.ensures) in
    answered g.S.Source.left g.K.Sink.puts g.S.Source.faults g.K.Sink.faults c.args.input.now c.turn.input c.args.out.now c.turn.out c.args.code.now c.args.steps _ _ _ _ c.over.ensures (whole c.turn.invariant.0 c.requires.unread _ _ _ (turn.begins_out c.requires.ready.valid c.valid_is_safe.ensures c.turn.invariant.0.turn at told.1 c.counted.ensures c.if-left-eq0.true))

pub turn-smaller-in-Begins : goal.turn-smaller-in-Begins
turn-smaller-in-Begins g c =
    nearer_begun (code_of c.args.code.now.ops.items) c.turn.pc (c.turn.pc + 1) c.turn.left c.turn.level c.if-left-eq0.false

pub turn-preserved-in-Begins : goal.turn-preserved-in-Begins
turn-preserved-in-Begins g c =
    let at = turn.stands c.requires.ready.valid c.valid_is_safe.ensures c.turn.invariant.0.turn c.index-ahead-0.result c.args.code.now.ops.items refl (turn.first c.args.code.now.ops.items c.turn.pc c.turn.invariant.1 c.index-ahead-0.is) in
    let told = roles.told role.Begins (instruction_of c.index-ahead-0.result) (sym c.in-Begins.is ∙ c.role_of.ensures) in
    (keeps_on c.turn.invariant.0 (turn.begins_here c.requires.ready.valid c.valid_is_safe.ensures c.turn.invariant.0.turn at told.1 c.if-left-eq0.false), turn.further c.args.code.now.ops.items c.turn.pc 1 c.turn.invariant.1 c.code_from-ahead-in-Begins.ensures.is)

pub returns-then-left-eq0-2 : goal.returns-then-left-eq0-2
returns-then-left-eq0-2 g c =
    let at = turn.stands c.requires.ready.valid c.valid_is_safe.ensures c.turn.invariant.0.turn c.index-ahead-0.result c.args.code.now.ops.items refl (turn.first c.args.code.now.ops.items c.turn.pc c.turn.invariant.1 c.index-ahead-0.is) in
    let told = roles.told role.Turns (instruction_of c.index-ahead-0.result) (sym c.in-Turns.is ∙ c.role_of.ensures) in
    answered g.S.Source.left g.K.Sink.puts g.S.Source.faults g.K.Sink.faults c.args.input.now c.turn.input c.args.out.now c.turn.out c.args.code.now c.args.steps _ _ _ _ c.over-then-left-eq0-2.ensures (whole c.turn.invariant.0 c.requires.unread _ _ _ (turn.turns_out c.requires.ready.valid c.valid_is_safe.ensures c.turn.invariant.0.turn at told c.counted-then-left-eq0-2.ensures c.if-left-eq0-2.true))

pub turn-smaller-in-Turns : goal.turn-smaller-in-Turns
turn-smaller-in-Turns g c =
    nearer_begun (code_of c.args.code.now.ops.items) c.turn.pc (c.turn.pc + 1) c.turn.left c.turn.level c.if-left-eq0-2.false

pub turn-preserved-in-Turns : goal.turn-preserved-in-Turns
turn-preserved-in-Turns g c =
    let at = turn.stands c.requires.ready.valid c.valid_is_safe.ensures c.turn.invariant.0.turn c.index-ahead-0.result c.args.code.now.ops.items refl (turn.first c.args.code.now.ops.items c.turn.pc c.turn.invariant.1 c.index-ahead-0.is) in
    let told = roles.told role.Turns (instruction_of c.index-ahead-0.result) (sym c.in-Turns.is ∙ c.role_of.ensures) in
    (keeps_on c.turn.invariant.0 (turn.turns_on c.requires.ready.valid c.valid_is_safe.ensures c.turn.invariant.0.turn at told c.if-left-eq0-2.false), turn.further c.args.code.now.ops.items c.turn.pc 1 c.turn.invariant.1 c.code_from-ahead-in-Turns.ensures.is)

pub returns-in-Halts : goal.returns-in-Halts
returns-in-Halts g c =
    let at = turn.stands c.requires.ready.valid c.valid_is_safe.ensures c.turn.invariant.0.turn c.index-ahead-0.result c.args.code.now.ops.items refl (turn.first c.args.code.now.ops.items c.turn.pc c.turn.invariant.1 c.index-ahead-0.is) in
    let told = roles.told role.Halts (instruction_of c.index-ahead-0.result) (sym c.in-Halts.is ∙ c.role_of.ensures) in
    answered g.S.Source.left g.K.Sink.puts g.S.Source.faults g.K.Sink.faults c.args.input.now c.turn.input c.args.out.now c.turn.out c.args.code.now c.args.steps _ _ _ _ c.over-in-Halts.ensures (whole c.turn.invariant.0 c.requires.unread _ _ _ (turn.halts_over c.requires.ready.valid c.valid_is_safe.ensures c.turn.invariant.0.turn at None c.counted-in-Halts.ensures told))

pub returns-in-Stops : goal.returns-in-Stops
returns-in-Stops g c =
    let at = turn.stands c.requires.ready.valid c.valid_is_safe.ensures c.turn.invariant.0.turn c.index-ahead-0.result c.args.code.now.ops.items refl (turn.first c.args.code.now.ops.items c.turn.pc c.turn.invariant.1 c.index-ahead-0.is) in
    let told = roles.told (role.Stops c.in-Stops.number) (instruction_of c.index-ahead-0.result) (sym c.in-Stops.is ∙ c.role_of.ensures) in
    answered g.S.Source.left g.K.Sink.puts g.S.Source.faults g.K.Sink.faults c.args.input.now c.turn.input c.args.out.now c.turn.out c.args.code.now c.args.steps _ _ _ _ c.over-in-Stops.ensures (whole c.turn.invariant.0 c.requires.unread _ _ _ (turn.halts_over c.requires.ready.valid c.valid_is_safe.ensures c.turn.invariant.0.turn at (Some c.in-Stops.number) c.counted-in-Stops.ensures told))

pub leap-requires-clause-work : goal.leap-requires-clause-work
leap-requires-clause-work g c =
    let at = turn.stands c.requires.ready.valid c.valid_is_safe.ensures c.turn.invariant.0.turn c.index-ahead-0.result c.args.code.now.ops.items refl (turn.first c.args.code.now.ops.items c.turn.pc c.turn.invariant.1 c.index-ahead-0.is) in
    let room = subst (λ n. suc c.args.code.now.depth * c.args.code.now.stack ≤ n) (sym c.turn.auto.stack) c.requires.ready.room in
    turn.may_work c.requires.ready.valid c.valid_is_safe.ensures c.turn.invariant.0.turn at room

pub turn-smaller-in-Ok : goal.turn-smaller-in-Ok
turn-smaller-in-Ok g c =
    let at = turn.stands c.requires.ready.valid c.valid_is_safe.ensures c.turn.invariant.0.turn c.index-ahead-0.result c.args.code.now.ops.items refl (turn.first c.args.code.now.ops.items c.turn.pc c.turn.invariant.1 c.index-ahead-0.is) in
    let told = roles.told role.Leaps (instruction_of c.index-ahead-0.result) (sym c.in-Leaps.is ∙ c.role_of.ensures) in
    turn.nearer_to c.requires.ready.valid c.valid_is_safe.ensures c.turn.invariant.0.turn at told.0 told.1 c.in-Ok.ensures.way

pub turn-preserved-in-Ok : goal.turn-preserved-in-Ok
turn-preserved-in-Ok g c =
    let at = turn.stands c.requires.ready.valid c.valid_is_safe.ensures c.turn.invariant.0.turn c.index-ahead-0.result c.args.code.now.ops.items refl (turn.first c.args.code.now.ops.items c.turn.pc c.turn.invariant.1 c.index-ahead-0.is) in
    (keeps_on c.turn.invariant.0 (turn.leaps_on c.requires.ready.valid c.valid_is_safe.ensures c.turn.invariant.0.turn at c.counted-done.ensures c.in-Ok.ensures.way (ap is_apart (sym c.role_of.ensures ∙ c.in-Leaps.is)) c.in-Ok.ensures.leaps c.in-Ok.ensures.room), c.code_from-ahead-in-Ok.ensures.is ∙ ap (drop c.in-Ok.to) c.deref-ops.ensures.value)

pub code_from-ahead-requires-in-Ok : goal.code_from-ahead-requires-in-Ok
code_from-ahead-requires-in-Ok g c =
    let at = turn.stands c.requires.ready.valid c.valid_is_safe.ensures c.turn.invariant.0.turn c.index-ahead-0.result c.args.code.now.ops.items refl (turn.first c.args.code.now.ops.items c.turn.pc c.turn.invariant.1 c.index-ahead-0.is) in
    let there = turn.within c.requires.ready.valid c.valid_is_safe.ensures (turn.leaps_on c.requires.ready.valid c.valid_is_safe.ensures c.turn.invariant.0.turn at c.counted-done.ensures c.in-Ok.ensures.way (ap is_apart (sym c.role_of.ensures ∙ c.in-Leaps.is)) c.in-Ok.ensures.leaps c.in-Ok.ensures.room) in
    let same = ap length c.deref-ops.ensures.value in
    omega (arith, there, same)

pub returns-in-Err : goal.returns-in-Err
returns-in-Err g c =
    let at = turn.stands c.requires.ready.valid c.valid_is_safe.ensures c.turn.invariant.0.turn c.index-ahead-0.result c.args.code.now.ops.items refl (turn.first c.args.code.now.ops.items c.turn.pc c.turn.invariant.1 c.index-ahead-0.is) in
    answered g.S.Source.left g.K.Sink.puts g.S.Source.faults g.K.Sink.faults c.args.input.now c.turn.input c.args.out.now c.turn.out c.args.code.now c.args.steps _ _ _ _ c.halted.ensures.end (whole c.turn.invariant.0 c.requires.unread _ _ _ (turn.leaps_over c.requires.ready.valid c.valid_is_safe.ensures c.turn.invariant.0.turn at c.halted.ensures.counts c.in-Err.ensures.leaps))

pub prove-unreachable-requires-in-Spots : goal.prove-unreachable-requires-in-Spots
prove-unreachable-requires-in-Spots g c =
    let at = turn.stands c.requires.ready.valid c.valid_is_safe.ensures c.turn.invariant.0.turn c.index-ahead-0.result c.args.code.now.ops.items refl (turn.first c.args.code.now.ops.items c.turn.pc c.turn.invariant.1 c.index-ahead-0.is) in
    let here = at ∙ ap Some (roles.told (role.Spots c.in-Spots.first c.in-Spots.size) (instruction_of c.index-ahead-0.result) (sym c.in-Spots.is ∙ c.role_of.ensures)) in
    let room = subst (λ n. suc c.args.code.now.depth * c.args.code.now.stack ≤ n) (sym c.turn.auto.stack) c.requires.ready.room in
    let in_code = spots.next_within c.requires.ready.valid c.valid_is_safe.ensures c.requires.ready.few c.turn.invariant.0.turn room c.in-Spots.first c.in-Spots.size here in
    let rest = ap length c.turn.invariant.1 ∙ length-drop c.turn.pc c.args.code.now.ops.items in
    omega (arith, in_code, rest)

pub subscripts_behind-requires : goal.subscripts_behind-requires
subscripts_behind-requires g c = λ low.
    let rest = ap length c.turn.invariant.1 ∙ length-drop c.turn.pc c.args.code.now.ops.items in
    let same = ap length c.deref-ops.ensures.value in
    let bound = c.roomy-bound.ensures in
    omega (arith, low, rest, same, bound)

pub variable-requires-clause-unit : goal.variable-requires-clause-unit
variable-requires-clause-unit g c =
    let at = turn.stands c.requires.ready.valid c.valid_is_safe.ensures c.turn.invariant.0.turn c.index-ahead-0.result c.args.code.now.ops.items refl (turn.first c.args.code.now.ops.items c.turn.pc c.turn.invariant.1 c.index-ahead-0.is) in
    let here = at ∙ ap Some (roles.told (role.Spots c.in-Spots.first c.in-Spots.size) (instruction_of c.index-ahead-0.result) (sym c.in-Spots.is ∙ c.role_of.ensures)) in
    let room = subst (λ n. suc c.args.code.now.depth * c.args.code.now.stack ≤ n) (sym c.turn.auto.stack) c.requires.ready.room in
    spots.unit_there c.requires.ready.valid c.valid_is_safe.ensures c.requires.ready.few c.turn.invariant.0.turn room c.in-Spots.first c.in-Spots.size here

pub variable-requires-clause-room : goal.variable-requires-clause-room
variable-requires-clause-room g c =
    let at = turn.stands c.requires.ready.valid c.valid_is_safe.ensures c.turn.invariant.0.turn c.index-ahead-0.result c.args.code.now.ops.items refl (turn.first c.args.code.now.ops.items c.turn.pc c.turn.invariant.1 c.index-ahead-0.is) in
    let here = at ∙ ap Some (roles.told (role.Spots c.in-Spots.first c.in-Spots.size) (instruction_of c.index-ahead-0.result) (sym c.in-Spots.is ∙ c.role_of.ensures)) in
    let room = subst (λ n. suc c.args.code.now.depth * c.args.code.now.stack ≤ n) (sym c.turn.auto.stack) c.requires.ready.room in
    spots.has_room c.requires.ready.valid c.valid_is_safe.ensures c.requires.ready.few c.turn.invariant.0.turn room c.in-Spots.first c.in-Spots.size here

pub turn-smaller-in-Ok-variable : goal.turn-smaller-in-Ok-variable
turn-smaller-in-Ok-variable g c =
    let at = turn.stands c.requires.ready.valid c.valid_is_safe.ensures c.turn.invariant.0.turn c.index-ahead-0.result c.args.code.now.ops.items refl (turn.first c.args.code.now.ops.items c.turn.pc c.turn.invariant.1 c.index-ahead-0.is) in
    let here = at ∙ ap Some (roles.told (role.Spots c.in-Spots.first c.in-Spots.size) (instruction_of c.index-ahead-0.result) (sym c.in-Spots.is ∙ c.role_of.ensures)) in
    let room = subst (λ n. suc c.args.code.now.depth * c.args.code.now.stack ≤ n) (sym c.turn.auto.stack) c.requires.ready.room in
    let after = spots.after c.requires.ready.valid c.valid_is_safe.ensures c.requires.ready.few c.turn.invariant.0.turn room c.in-Spots.first c.in-Spots.size here in
    let next = turn.stands c.requires.ready.valid c.valid_is_safe.ensures after c.index-ahead-1.result c.args.code.now.ops.items refl (turn.second c.args.code.now.ops.items c.turn.pc c.turn.invariant.1 c.index-ahead-1.is) in
    let load_at = next ∙ ap Some (c.is_load.ensures c.if-is_load.true) in
    spots.loads_nearer c.requires.ready.valid c.valid_is_safe.ensures c.requires.ready.few c.turn.invariant.0.turn room c.in-Spots.first c.in-Spots.size here load_at

pub turn-preserved-in-Ok-variable : goal.turn-preserved-in-Ok-variable
turn-preserved-in-Ok-variable g c =
    let at = turn.stands c.requires.ready.valid c.valid_is_safe.ensures c.turn.invariant.0.turn c.index-ahead-0.result c.args.code.now.ops.items refl (turn.first c.args.code.now.ops.items c.turn.pc c.turn.invariant.1 c.index-ahead-0.is) in
    let here = at ∙ ap Some (roles.told (role.Spots c.in-Spots.first c.in-Spots.size) (instruction_of c.index-ahead-0.result) (sym c.in-Spots.is ∙ c.role_of.ensures)) in
    let room = subst (λ n. suc c.args.code.now.depth * c.args.code.now.stack ≤ n) (sym c.turn.auto.stack) c.requires.ready.room in
    let after = spots.after c.requires.ready.valid c.valid_is_safe.ensures c.requires.ready.few c.turn.invariant.0.turn room c.in-Spots.first c.in-Spots.size here in
    let next = turn.stands c.requires.ready.valid c.valid_is_safe.ensures after c.index-ahead-1.result c.args.code.now.ops.items refl (turn.second c.args.code.now.ops.items c.turn.pc c.turn.invariant.1 c.index-ahead-1.is) in
    let load_at = next ∙ ap Some (c.is_load.ensures c.if-is_load.true) in
    (keeps_on c.turn.invariant.0 (spots.loads_on c.requires.ready.valid c.valid_is_safe.ensures c.requires.ready.few c.turn.invariant.0.turn room c.in-Spots.first c.in-Spots.size here load_at (c.in-Ok-variable.ensures.works c.in-Spots.size) c.in-Ok-variable.ensures.room), turn.further c.args.code.now.ops.items c.turn.pc 2 c.turn.invariant.1 c.code_from-ahead-in-Ok-variable.ensures.is)

pub returns-in-Err-variable : goal.returns-in-Err-variable
returns-in-Err-variable g c =
    let at = turn.stands c.requires.ready.valid c.valid_is_safe.ensures c.turn.invariant.0.turn c.index-ahead-0.result c.args.code.now.ops.items refl (turn.first c.args.code.now.ops.items c.turn.pc c.turn.invariant.1 c.index-ahead-0.is) in
    let here = at ∙ ap Some (roles.told (role.Spots c.in-Spots.first c.in-Spots.size) (instruction_of c.index-ahead-0.result) (sym c.in-Spots.is ∙ c.role_of.ensures)) in
    let room = subst (λ n. suc c.args.code.now.depth * c.args.code.now.stack ≤ n) (sym c.turn.auto.stack) c.requires.ready.room in
    let after = spots.after c.requires.ready.valid c.valid_is_safe.ensures c.requires.ready.few c.turn.invariant.0.turn room c.in-Spots.first c.in-Spots.size here in
    let next = turn.stands c.requires.ready.valid c.valid_is_safe.ensures after c.index-ahead-1.result c.args.code.now.ops.items refl (turn.second c.args.code.now.ops.items c.turn.pc c.turn.invariant.1 c.index-ahead-1.is) in
    let load_at = next ∙ ap Some (c.is_load.ensures c.if-is_load.true) in
    answered g.S.Source.left g.K.Sink.puts g.S.Source.faults g.K.Sink.faults c.args.input.now c.turn.input c.args.out.now c.turn.out c.args.code.now c.args.steps _ _ _ _ c.halted-in-Err-variable.ensures.end (whole c.turn.invariant.0 c.requires.unread _ _ _ (turn.holds_over c.requires.ready.valid c.valid_is_safe.ensures after load_at c.halted-in-Err-variable.ensures.counts (c.in-Err-variable.ensures.works c.in-Spots.size)))

pub variable_turn-requires-clause-unit : goal.variable_turn-requires-clause-unit
variable_turn-requires-clause-unit g c =
    let at = turn.stands c.requires.ready.valid c.valid_is_safe.ensures c.turn.invariant.0.turn c.index-ahead-0.result c.args.code.now.ops.items refl (turn.first c.args.code.now.ops.items c.turn.pc c.turn.invariant.1 c.index-ahead-0.is) in
    let here = at ∙ ap Some (roles.told (role.Spots c.in-Spots.first c.in-Spots.size) (instruction_of c.index-ahead-0.result) (sym c.in-Spots.is ∙ c.role_of.ensures)) in
    let room = subst (λ n. suc c.args.code.now.depth * c.args.code.now.stack ≤ n) (sym c.turn.auto.stack) c.requires.ready.room in
    spots.unit_there c.requires.ready.valid c.valid_is_safe.ensures c.requires.ready.few c.turn.invariant.0.turn room c.in-Spots.first c.in-Spots.size here

pub variable_turn-requires-clause-limit : goal.variable_turn-requires-clause-limit
variable_turn-requires-clause-limit g c =
    let at = turn.stands c.requires.ready.valid c.valid_is_safe.ensures c.turn.invariant.0.turn c.index-ahead-0.result c.args.code.now.ops.items refl (turn.first c.args.code.now.ops.items c.turn.pc c.turn.invariant.1 c.index-ahead-0.is) in
    let here = at ∙ ap Some (roles.told (role.Spots c.in-Spots.first c.in-Spots.size) (instruction_of c.index-ahead-0.result) (sym c.in-Spots.is ∙ c.role_of.ensures)) in
    let room = subst (λ n. suc c.args.code.now.depth * c.args.code.now.stack ≤ n) (sym c.turn.auto.stack) c.requires.ready.room in
    let after = spots.after c.requires.ready.valid c.valid_is_safe.ensures c.requires.ready.few c.turn.invariant.0.turn room c.in-Spots.first c.in-Spots.size here in
    let there = turn.stands c.requires.ready.valid c.valid_is_safe.ensures after c.index-ahead-1-else-is_load.result c.args.code.now.ops.items refl (turn.second c.args.code.now.ops.items c.turn.pc c.turn.invariant.1 c.index-ahead-1-else-is_load.is) ∙ ap Some c.in-Some.ensures in
    subst (λ n. c.in-Some.limit < n) (sym after.units) (roles.loop_units (code_of c.args.code.now.ops.items) (length c.args.code.now.plans.items) c.args.code.now.units (c.turn.pc + 1) c.in-Some.limit c.in-Some.step c.in-Some.to (turn.in_range c.requires.ready.valid c.valid_is_safe.ensures after there)).0

pub variable_turn-requires-clause-step : goal.variable_turn-requires-clause-step
variable_turn-requires-clause-step g c =
    let at = turn.stands c.requires.ready.valid c.valid_is_safe.ensures c.turn.invariant.0.turn c.index-ahead-0.result c.args.code.now.ops.items refl (turn.first c.args.code.now.ops.items c.turn.pc c.turn.invariant.1 c.index-ahead-0.is) in
    let here = at ∙ ap Some (roles.told (role.Spots c.in-Spots.first c.in-Spots.size) (instruction_of c.index-ahead-0.result) (sym c.in-Spots.is ∙ c.role_of.ensures)) in
    let room = subst (λ n. suc c.args.code.now.depth * c.args.code.now.stack ≤ n) (sym c.turn.auto.stack) c.requires.ready.room in
    let after = spots.after c.requires.ready.valid c.valid_is_safe.ensures c.requires.ready.few c.turn.invariant.0.turn room c.in-Spots.first c.in-Spots.size here in
    let there = turn.stands c.requires.ready.valid c.valid_is_safe.ensures after c.index-ahead-1-else-is_load.result c.args.code.now.ops.items refl (turn.second c.args.code.now.ops.items c.turn.pc c.turn.invariant.1 c.index-ahead-1-else-is_load.is) ∙ ap Some c.in-Some.ensures in
    subst (λ n. c.in-Some.step < n) (sym after.units) (roles.loop_units (code_of c.args.code.now.ops.items) (length c.args.code.now.plans.items) c.args.code.now.units (c.turn.pc + 1) c.in-Some.limit c.in-Some.step c.in-Some.to (turn.in_range c.requires.ready.valid c.valid_is_safe.ensures after there)).1

pub variable_turn-requires-clause-agrees : goal.variable_turn-requires-clause-agrees
variable_turn-requires-clause-agrees g c =
    (_, (c.turn.invariant.0.turn.held []).live.agrees)

pub turn-smaller-in-Ok-variable_turn : goal.turn-smaller-in-Ok-variable_turn
turn-smaller-in-Ok-variable_turn g c =
    let at = turn.stands c.requires.ready.valid c.valid_is_safe.ensures c.turn.invariant.0.turn c.index-ahead-0.result c.args.code.now.ops.items refl (turn.first c.args.code.now.ops.items c.turn.pc c.turn.invariant.1 c.index-ahead-0.is) in
    let here = at ∙ ap Some (roles.told (role.Spots c.in-Spots.first c.in-Spots.size) (instruction_of c.index-ahead-0.result) (sym c.in-Spots.is ∙ c.role_of.ensures)) in
    let room = subst (λ n. suc c.args.code.now.depth * c.args.code.now.stack ≤ n) (sym c.turn.auto.stack) c.requires.ready.room in
    let after = spots.after c.requires.ready.valid c.valid_is_safe.ensures c.requires.ready.few c.turn.invariant.0.turn room c.in-Spots.first c.in-Spots.size here in
    let there = turn.stands c.requires.ready.valid c.valid_is_safe.ensures after c.index-ahead-1-else-is_load.result c.args.code.now.ops.items refl (turn.second c.args.code.now.ops.items c.turn.pc c.turn.invariant.1 c.index-ahead-1-else-is_load.is) ∙ ap Some c.in-Some.ensures in
    let one = turn.nearer_next c.requires.ready.valid c.valid_is_safe.ensures c.turn.invariant.0.turn here refl in
    let two = turn.nearer_end c.requires.ready.valid c.valid_is_safe.ensures after there refl c.in-Ok-variable_turn.ensures.way in
    omega (arith, one, two)

pub turn-preserved-in-Ok-variable_turn : goal.turn-preserved-in-Ok-variable_turn
turn-preserved-in-Ok-variable_turn g c =
    let at = turn.stands c.requires.ready.valid c.valid_is_safe.ensures c.turn.invariant.0.turn c.index-ahead-0.result c.args.code.now.ops.items refl (turn.first c.args.code.now.ops.items c.turn.pc c.turn.invariant.1 c.index-ahead-0.is) in
    let here = at ∙ ap Some (roles.told (role.Spots c.in-Spots.first c.in-Spots.size) (instruction_of c.index-ahead-0.result) (sym c.in-Spots.is ∙ c.role_of.ensures)) in
    let room = subst (λ n. suc c.args.code.now.depth * c.args.code.now.stack ≤ n) (sym c.turn.auto.stack) c.requires.ready.room in
    let after = spots.after c.requires.ready.valid c.valid_is_safe.ensures c.requires.ready.few c.turn.invariant.0.turn room c.in-Spots.first c.in-Spots.size here in
    let there = turn.stands c.requires.ready.valid c.valid_is_safe.ensures after c.index-ahead-1-else-is_load.result c.args.code.now.ops.items refl (turn.second c.args.code.now.ops.items c.turn.pc c.turn.invariant.1 c.index-ahead-1-else-is_load.is) ∙ ap Some c.in-Some.ensures in
    let low = c.in-Ok-variable_turn.ensures.top in
    let high = after.within in
    (keeps_on c.turn.invariant.0 (spots.unwritten c.requires.ready.valid c.valid_is_safe.ensures c.requires.ready.few c.turn.invariant.0.turn room c.in-Spots.first c.in-Spots.size here (omega (arith, low)) (turn.loops_on c.requires.ready.valid c.valid_is_safe.ensures after there c.counted-done-in-Ok-variable_turn.ensures c.in-Ok-variable_turn.ensures.way refl (c.in-Ok-variable_turn.ensures.leaps c.turn.stack c.in-Spots.size (spots.has_room c.requires.ready.valid c.valid_is_safe.ensures c.requires.ready.few c.turn.invariant.0.turn room c.in-Spots.first c.in-Spots.size here) (spots.ranges c.requires.ready.valid c.valid_is_safe.ensures c.requires.ready.few c.turn.invariant.0.turn room c.in-Spots.first c.in-Spots.size here).0) (omega (arith, low, high)) (omega arith))), c.code_from-ahead-in-Ok-variable_turn.ensures.is ∙ ap (drop c.in-Ok-variable_turn.next) c.deref-ops.ensures.value)

pub code_from-ahead-requires-in-Ok-variable_turn : goal.code_from-ahead-requires-in-Ok-variable_turn
code_from-ahead-requires-in-Ok-variable_turn g c =
    let at = turn.stands c.requires.ready.valid c.valid_is_safe.ensures c.turn.invariant.0.turn c.index-ahead-0.result c.args.code.now.ops.items refl (turn.first c.args.code.now.ops.items c.turn.pc c.turn.invariant.1 c.index-ahead-0.is) in
    let here = at ∙ ap Some (roles.told (role.Spots c.in-Spots.first c.in-Spots.size) (instruction_of c.index-ahead-0.result) (sym c.in-Spots.is ∙ c.role_of.ensures)) in
    let room = subst (λ n. suc c.args.code.now.depth * c.args.code.now.stack ≤ n) (sym c.turn.auto.stack) c.requires.ready.room in
    let after = spots.after c.requires.ready.valid c.valid_is_safe.ensures c.requires.ready.few c.turn.invariant.0.turn room c.in-Spots.first c.in-Spots.size here in
    let there = turn.stands c.requires.ready.valid c.valid_is_safe.ensures after c.index-ahead-1-else-is_load.result c.args.code.now.ops.items refl (turn.second c.args.code.now.ops.items c.turn.pc c.turn.invariant.1 c.index-ahead-1-else-is_load.is) ∙ ap Some c.in-Some.ensures in
    let low = c.in-Ok-variable_turn.ensures.top in
    let high = after.within in
    let there = turn.within c.requires.ready.valid c.valid_is_safe.ensures (spots.unwritten c.requires.ready.valid c.valid_is_safe.ensures c.requires.ready.few c.turn.invariant.0.turn room c.in-Spots.first c.in-Spots.size here (omega (arith, low)) (turn.loops_on c.requires.ready.valid c.valid_is_safe.ensures after there c.counted-done-in-Ok-variable_turn.ensures c.in-Ok-variable_turn.ensures.way refl (c.in-Ok-variable_turn.ensures.leaps c.turn.stack c.in-Spots.size (spots.has_room c.requires.ready.valid c.valid_is_safe.ensures c.requires.ready.few c.turn.invariant.0.turn room c.in-Spots.first c.in-Spots.size here) (spots.ranges c.requires.ready.valid c.valid_is_safe.ensures c.requires.ready.few c.turn.invariant.0.turn room c.in-Spots.first c.in-Spots.size here).0) (omega (arith, low, high)) (omega arith))) in
    let same = ap length c.deref-ops.ensures.value in
    omega (arith, there, same)

pub returns-in-Err-variable_turn : goal.returns-in-Err-variable_turn
returns-in-Err-variable_turn g c =
    let at = turn.stands c.requires.ready.valid c.valid_is_safe.ensures c.turn.invariant.0.turn c.index-ahead-0.result c.args.code.now.ops.items refl (turn.first c.args.code.now.ops.items c.turn.pc c.turn.invariant.1 c.index-ahead-0.is) in
    let here = at ∙ ap Some (roles.told (role.Spots c.in-Spots.first c.in-Spots.size) (instruction_of c.index-ahead-0.result) (sym c.in-Spots.is ∙ c.role_of.ensures)) in
    let room = subst (λ n. suc c.args.code.now.depth * c.args.code.now.stack ≤ n) (sym c.turn.auto.stack) c.requires.ready.room in
    let after = spots.after c.requires.ready.valid c.valid_is_safe.ensures c.requires.ready.few c.turn.invariant.0.turn room c.in-Spots.first c.in-Spots.size here in
    let there = turn.stands c.requires.ready.valid c.valid_is_safe.ensures after c.index-ahead-1-else-is_load.result c.args.code.now.ops.items refl (turn.second c.args.code.now.ops.items c.turn.pc c.turn.invariant.1 c.index-ahead-1-else-is_load.is) ∙ ap Some c.in-Some.ensures in
    answered g.S.Source.left g.K.Sink.puts g.S.Source.faults g.K.Sink.faults c.args.input.now c.turn.input c.args.out.now c.turn.out c.args.code.now c.args.steps _ _ _ _ c.halted-in-Err-variable_turn.ensures.end (whole c.turn.invariant.0 c.requires.unread _ _ _ (turn.loops_over c.requires.ready.valid c.valid_is_safe.ensures after there c.halted-in-Err-variable_turn.ensures.counts (c.in-Err-variable_turn.ensures.leaps c.turn.stack c.in-Spots.size (spots.has_room c.requires.ready.valid c.valid_is_safe.ensures c.requires.ready.few c.turn.invariant.0.turn room c.in-Spots.first c.in-Spots.size here) (spots.ranges c.requires.ready.valid c.valid_is_safe.ensures c.requires.ready.few c.turn.invariant.0.turn room c.in-Spots.first c.in-Spots.size here).0)))

pub push_spot-top-requires-clause-some : goal.push_spot-top-requires-clause-some
push_spot-top-requires-clause-some g c =
    let at = turn.stands c.requires.ready.valid c.valid_is_safe.ensures c.turn.invariant.0.turn c.index-ahead-0.result c.args.code.now.ops.items refl (turn.first c.args.code.now.ops.items c.turn.pc c.turn.invariant.1 c.index-ahead-0.is) in
    let here = at ∙ ap Some (roles.told (role.Spots c.in-Spots.first c.in-Spots.size) (instruction_of c.index-ahead-0.result) (sym c.in-Spots.is ∙ c.role_of.ensures)) in
    let room = subst (λ n. suc c.args.code.now.depth * c.args.code.now.stack ≤ n) (sym c.turn.auto.stack) c.requires.ready.room in
    (spots.ranges c.requires.ready.valid c.valid_is_safe.ensures c.requires.ready.few c.turn.invariant.0.turn room c.in-Spots.first c.in-Spots.size here).0

pub push_spot-top-requires-clause-few : goal.push_spot-top-requires-clause-few
push_spot-top-requires-clause-few g c =
    let at = turn.stands c.requires.ready.valid c.valid_is_safe.ensures c.turn.invariant.0.turn c.index-ahead-0.result c.args.code.now.ops.items refl (turn.first c.args.code.now.ops.items c.turn.pc c.turn.invariant.1 c.index-ahead-0.is) in
    let here = at ∙ ap Some (roles.told (role.Spots c.in-Spots.first c.in-Spots.size) (instruction_of c.index-ahead-0.result) (sym c.in-Spots.is ∙ c.role_of.ensures)) in
    let room = subst (λ n. suc c.args.code.now.depth * c.args.code.now.stack ≤ n) (sym c.turn.auto.stack) c.requires.ready.room in
    (spots.ranges c.requires.ready.valid c.valid_is_safe.ensures c.requires.ready.few c.turn.invariant.0.turn room c.in-Spots.first c.in-Spots.size here).1

pub push_spot-top-requires-clause-work : goal.push_spot-top-requires-clause-work
push_spot-top-requires-clause-work g c =
    let at = turn.stands c.requires.ready.valid c.valid_is_safe.ensures c.turn.invariant.0.turn c.index-ahead-0.result c.args.code.now.ops.items refl (turn.first c.args.code.now.ops.items c.turn.pc c.turn.invariant.1 c.index-ahead-0.is) in
    let here = at ∙ ap Some (roles.told (role.Spots c.in-Spots.first c.in-Spots.size) (instruction_of c.index-ahead-0.result) (sym c.in-Spots.is ∙ c.role_of.ensures)) in
    let room = subst (λ n. suc c.args.code.now.depth * c.args.code.now.stack ≤ n) (sym c.turn.auto.stack) c.requires.ready.room in
    turn.may_work c.requires.ready.valid c.valid_is_safe.ensures c.turn.invariant.0.turn here room

pub turn-smaller-in-Other : goal.turn-smaller-in-Other
turn-smaller-in-Other g c =
    let at = turn.stands c.requires.ready.valid c.valid_is_safe.ensures c.turn.invariant.0.turn c.index-ahead-0.result c.args.code.now.ops.items refl (turn.first c.args.code.now.ops.items c.turn.pc c.turn.invariant.1 c.index-ahead-0.is) in
    let here = at ∙ ap Some (roles.told (role.Spots c.in-Spots.first c.in-Spots.size) (instruction_of c.index-ahead-0.result) (sym c.in-Spots.is ∙ c.role_of.ensures)) in
    let room = subst (λ n. suc c.args.code.now.depth * c.args.code.now.stack ≤ n) (sym c.turn.auto.stack) c.requires.ready.room in
    turn.nearer_next c.requires.ready.valid c.valid_is_safe.ensures c.turn.invariant.0.turn here refl

pub turn-preserved-in-Other : goal.turn-preserved-in-Other
turn-preserved-in-Other g c =
    let at = turn.stands c.requires.ready.valid c.valid_is_safe.ensures c.turn.invariant.0.turn c.index-ahead-0.result c.args.code.now.ops.items refl (turn.first c.args.code.now.ops.items c.turn.pc c.turn.invariant.1 c.index-ahead-0.is) in
    let here = at ∙ ap Some (roles.told (role.Spots c.in-Spots.first c.in-Spots.size) (instruction_of c.index-ahead-0.result) (sym c.in-Spots.is ∙ c.role_of.ensures)) in
    let room = subst (λ n. suc c.args.code.now.depth * c.args.code.now.stack ≤ n) (sym c.turn.auto.stack) c.requires.ready.room in
    (keeps_on c.turn.invariant.0 (turn.works_on c.requires.ready.valid c.valid_is_safe.ensures c.turn.invariant.0.turn here refl c.push_spot-top.ensures.works c.push_spot-top.ensures.room), turn.further c.args.code.now.ops.items c.turn.pc 1 c.turn.invariant.1 c.code_from-ahead-in-Other.ensures.is)

pub subscript-requires : goal.subscript-requires
subscript-requires g c =
    let at = turn.stands c.requires.ready.valid c.valid_is_safe.ensures c.turn.invariant.0.turn c.index-ahead-0.result c.args.code.now.ops.items refl (turn.first c.args.code.now.ops.items c.turn.pc c.turn.invariant.1 c.index-ahead-0.is) in
    let here = at ∙ ap Some (roles.told (role.Spots c.in-Spots.first c.in-Spots.size) (instruction_of c.index-ahead-0.result) (sym c.in-Spots.is ∙ c.role_of.ensures)) in
    let room = subst (λ n. suc c.args.code.now.depth * c.args.code.now.stack ≤ n) (sym c.turn.auto.stack) c.requires.ready.room in
    let by = elements.subscripts_in c.args.code.now.ops.items c.args.code.now c.turn.pc _ _ c.turn.invariant.1 refl c.in-One.is c.subscripts_behind.ensures in
    elements.first_unit c.requires.ready.valid c.valid_is_safe.ensures c.requires.ready.few c.turn.invariant.0.turn room c.in-Spots.first c.in-Spots.size here c.in-One.unit by.subscript

pub returns-in-Err-subscript : goal.returns-in-Err-subscript
returns-in-Err-subscript g c =
    let at = turn.stands c.requires.ready.valid c.valid_is_safe.ensures c.turn.invariant.0.turn c.index-ahead-0.result c.args.code.now.ops.items refl (turn.first c.args.code.now.ops.items c.turn.pc c.turn.invariant.1 c.index-ahead-0.is) in
    let here = at ∙ ap Some (roles.told (role.Spots c.in-Spots.first c.in-Spots.size) (instruction_of c.index-ahead-0.result) (sym c.in-Spots.is ∙ c.role_of.ensures)) in
    let room = subst (λ n. suc c.args.code.now.depth * c.args.code.now.stack ≤ n) (sym c.turn.auto.stack) c.requires.ready.room in
    let by = elements.subscripts_in c.args.code.now.ops.items c.args.code.now c.turn.pc _ _ c.turn.invariant.1 refl c.in-One.is c.subscripts_behind.ensures in
    answered g.S.Source.left g.K.Sink.puts g.S.Source.faults g.K.Sink.faults c.args.input.now c.turn.input c.args.out.now c.turn.out c.args.code.now c.args.steps _ _ _ _ c.halted-in-Err-subscript.ensures.end (whole c.turn.invariant.0 c.requires.unread _ _ _ (elements.first_undefined c.requires.ready.valid c.valid_is_safe.ensures c.requires.ready.few c.turn.invariant.0.turn room c.in-Spots.first c.in-Spots.size here c.in-One.unit by.subscript c.halted-in-Err-subscript.ensures.counts c.in-Err-subscript.ensures))

pub element_by_one-requires-clause-some : goal.element_by_one-requires-clause-some
element_by_one-requires-clause-some g c =
    let at = turn.stands c.requires.ready.valid c.valid_is_safe.ensures c.turn.invariant.0.turn c.index-ahead-0.result c.args.code.now.ops.items refl (turn.first c.args.code.now.ops.items c.turn.pc c.turn.invariant.1 c.index-ahead-0.is) in
    let here = at ∙ ap Some (roles.told (role.Spots c.in-Spots.first c.in-Spots.size) (instruction_of c.index-ahead-0.result) (sym c.in-Spots.is ∙ c.role_of.ensures)) in
    let room = subst (λ n. suc c.args.code.now.depth * c.args.code.now.stack ≤ n) (sym c.turn.auto.stack) c.requires.ready.room in
    (spots.ranges c.requires.ready.valid c.valid_is_safe.ensures c.requires.ready.few c.turn.invariant.0.turn room c.in-Spots.first c.in-Spots.size here).0

pub element_by_one-requires-clause-few : goal.element_by_one-requires-clause-few
element_by_one-requires-clause-few g c =
    let at = turn.stands c.requires.ready.valid c.valid_is_safe.ensures c.turn.invariant.0.turn c.index-ahead-0.result c.args.code.now.ops.items refl (turn.first c.args.code.now.ops.items c.turn.pc c.turn.invariant.1 c.index-ahead-0.is) in
    let here = at ∙ ap Some (roles.told (role.Spots c.in-Spots.first c.in-Spots.size) (instruction_of c.index-ahead-0.result) (sym c.in-Spots.is ∙ c.role_of.ensures)) in
    let room = subst (λ n. suc c.args.code.now.depth * c.args.code.now.stack ≤ n) (sym c.turn.auto.stack) c.requires.ready.room in
    (spots.ranges c.requires.ready.valid c.valid_is_safe.ensures c.requires.ready.few c.turn.invariant.0.turn room c.in-Spots.first c.in-Spots.size here).1

pub element_by_one-requires-clause-room : goal.element_by_one-requires-clause-room
element_by_one-requires-clause-room g c =
    let at = turn.stands c.requires.ready.valid c.valid_is_safe.ensures c.turn.invariant.0.turn c.index-ahead-0.result c.args.code.now.ops.items refl (turn.first c.args.code.now.ops.items c.turn.pc c.turn.invariant.1 c.index-ahead-0.is) in
    let here = at ∙ ap Some (roles.told (role.Spots c.in-Spots.first c.in-Spots.size) (instruction_of c.index-ahead-0.result) (sym c.in-Spots.is ∙ c.role_of.ensures)) in
    let room = subst (λ n. suc c.args.code.now.depth * c.args.code.now.stack ≤ n) (sym c.turn.auto.stack) c.requires.ready.room in
    spots.has_room c.requires.ready.valid c.valid_is_safe.ensures c.requires.ready.few c.turn.invariant.0.turn room c.in-Spots.first c.in-Spots.size here

pub element_by_one-requires-clause-extent : goal.element_by_one-requires-clause-extent
element_by_one-requires-clause-extent g c =
    let at = turn.stands c.requires.ready.valid c.valid_is_safe.ensures c.turn.invariant.0.turn c.index-ahead-0.result c.args.code.now.ops.items refl (turn.first c.args.code.now.ops.items c.turn.pc c.turn.invariant.1 c.index-ahead-0.is) in
    let here = at ∙ ap Some (roles.told (role.Spots c.in-Spots.first c.in-Spots.size) (instruction_of c.index-ahead-0.result) (sym c.in-Spots.is ∙ c.role_of.ensures)) in
    let room = subst (λ n. suc c.args.code.now.depth * c.args.code.now.stack ≤ n) (sym c.turn.auto.stack) c.requires.ready.room in
    let by = elements.subscripts_in c.args.code.now.ops.items c.args.code.now c.turn.pc _ _ c.turn.invariant.1 refl c.in-One.is c.subscripts_behind.ensures in
    let fits : SFits w64 c.in-One.extent = search rules in
    subst IsInRange (sym (to_z-of_z w64 c.in-One.extent fits)) (elements.extent_small c.requires.ready.valid c.valid_is_safe.ensures c.requires.ready.few c.turn.invariant.0.turn room c.in-Spots.first c.in-Spots.size here c.in-One.unit by.subscript c.in-Ok-subscript.value c.in-Ok-subscript.ensures c.in-One.extent by)

pub code_from-ahead-requires-in-Ok-element_by_one : goal.code_from-ahead-requires-in-Ok-element_by_one
code_from-ahead-requires-in-Ok-element_by_one g c =
    let by = elements.subscripts_in c.args.code.now.ops.items c.args.code.now c.turn.pc _ _ c.turn.invariant.1 refl c.in-One.is c.subscripts_behind.ensures in
    turn.reaches_to c.args.code.now.ops.items c.turn.pc (c.turn.pc + 1 + 3) 5 c.turn.invariant.1 by.element (omega arith)

pub turn-smaller-in-Ok-element_by_one : goal.turn-smaller-in-Ok-element_by_one
turn-smaller-in-Ok-element_by_one g c =
    let at = turn.stands c.requires.ready.valid c.valid_is_safe.ensures c.turn.invariant.0.turn c.index-ahead-0.result c.args.code.now.ops.items refl (turn.first c.args.code.now.ops.items c.turn.pc c.turn.invariant.1 c.index-ahead-0.is) in
    let here = at ∙ ap Some (roles.told (role.Spots c.in-Spots.first c.in-Spots.size) (instruction_of c.index-ahead-0.result) (sym c.in-Spots.is ∙ c.role_of.ensures)) in
    let room = subst (λ n. suc c.args.code.now.depth * c.args.code.now.stack ≤ n) (sym c.turn.auto.stack) c.requires.ready.room in
    let by = elements.subscripts_in c.args.code.now.ops.items c.args.code.now c.turn.pc _ _ c.turn.invariant.1 refl c.in-One.is c.subscripts_behind.ensures in
    elements.one_nearer c.requires.ready.valid c.valid_is_safe.ensures c.requires.ready.few c.turn.invariant.0.turn room c.in-Spots.first c.in-Spots.size here c.in-One.unit by.subscript c.in-Ok-subscript.value c.in-Ok-subscript.ensures c.in-One.extent by

pub turn-preserved-in-Ok-element_by_one : goal.turn-preserved-in-Ok-element_by_one
turn-preserved-in-Ok-element_by_one g c =
    let at = turn.stands c.requires.ready.valid c.valid_is_safe.ensures c.turn.invariant.0.turn c.index-ahead-0.result c.args.code.now.ops.items refl (turn.first c.args.code.now.ops.items c.turn.pc c.turn.invariant.1 c.index-ahead-0.is) in
    let here = at ∙ ap Some (roles.told (role.Spots c.in-Spots.first c.in-Spots.size) (instruction_of c.index-ahead-0.result) (sym c.in-Spots.is ∙ c.role_of.ensures)) in
    let room = subst (λ n. suc c.args.code.now.depth * c.args.code.now.stack ≤ n) (sym c.turn.auto.stack) c.requires.ready.room in
    let by = elements.subscripts_in c.args.code.now.ops.items c.args.code.now c.turn.pc _ _ c.turn.invariant.1 refl c.in-One.is c.subscripts_behind.ensures in
    let fits : SFits w64 c.in-One.extent = search rules in
    (keeps_on c.turn.invariant.0 (elements.one_on c.requires.ready.valid c.valid_is_safe.ensures c.requires.ready.few c.turn.invariant.0.turn room c.in-Spots.first c.in-Spots.size here c.in-One.unit by.subscript c.in-Ok-subscript.value c.in-Ok-subscript.ensures c.in-One.extent by (c.in-Ok-element_by_one.ensures.works _ (subst (λ z. IsLaidOne c.in-Spots.first c.in-Spots.size c.in-Ok-subscript.value z c.turn.stack c.turn.top (elements.stack3 c.requires.ready.valid c.valid_is_safe.ensures c.requires.ready.few c.turn.invariant.0.turn room c.in-Spots.first c.in-Spots.size here c.in-One.unit by.subscript c.in-Ok-subscript.value c.in-Ok-subscript.ensures c.in-One.extent by)) (sym (to_z-of_z w64 c.in-One.extent fits)) (elements.laid_one c.requires.ready.valid c.valid_is_safe.ensures c.requires.ready.few c.turn.invariant.0.turn room c.in-Spots.first c.in-Spots.size here c.in-One.unit by.subscript c.in-Ok-subscript.value c.in-Ok-subscript.ensures c.in-One.extent by))) c.in-Ok-element_by_one.ensures.room), turn.further c.args.code.now.ops.items c.turn.pc 5 c.turn.invariant.1 c.code_from-ahead-in-Ok-element_by_one.ensures.is)

pub returns-in-Err-element_by_one : goal.returns-in-Err-element_by_one
returns-in-Err-element_by_one g c =
    let at = turn.stands c.requires.ready.valid c.valid_is_safe.ensures c.turn.invariant.0.turn c.index-ahead-0.result c.args.code.now.ops.items refl (turn.first c.args.code.now.ops.items c.turn.pc c.turn.invariant.1 c.index-ahead-0.is) in
    let here = at ∙ ap Some (roles.told (role.Spots c.in-Spots.first c.in-Spots.size) (instruction_of c.index-ahead-0.result) (sym c.in-Spots.is ∙ c.role_of.ensures)) in
    let room = subst (λ n. suc c.args.code.now.depth * c.args.code.now.stack ≤ n) (sym c.turn.auto.stack) c.requires.ready.room in
    let by = elements.subscripts_in c.args.code.now.ops.items c.args.code.now c.turn.pc _ _ c.turn.invariant.1 refl c.in-One.is c.subscripts_behind.ensures in
    let fits : SFits w64 c.in-One.extent = search rules in
    answered g.S.Source.left g.K.Sink.puts g.S.Source.faults g.K.Sink.faults c.args.input.now c.turn.input c.args.out.now c.turn.out c.args.code.now c.args.steps _ _ _ _ c.halted-in-Err-element_by_one.ensures.end (whole c.turn.invariant.0 c.requires.unread _ _ _ (elements.one_over c.requires.ready.valid c.valid_is_safe.ensures c.requires.ready.few c.turn.invariant.0.turn room c.in-Spots.first c.in-Spots.size here c.in-One.unit by.subscript c.in-Ok-subscript.value c.in-Ok-subscript.ensures c.in-One.extent by c.element_by_one.new.stack c.halted-in-Err-element_by_one.ensures.counts (c.in-Err-element_by_one.ensures.works _ (subst (λ z. IsLaidOne c.in-Spots.first c.in-Spots.size c.in-Ok-subscript.value z c.turn.stack c.turn.top (elements.stack3 c.requires.ready.valid c.valid_is_safe.ensures c.requires.ready.few c.turn.invariant.0.turn room c.in-Spots.first c.in-Spots.size here c.in-One.unit by.subscript c.in-Ok-subscript.value c.in-Ok-subscript.ensures c.in-One.extent by)) (sym (to_z-of_z w64 c.in-One.extent fits)) (elements.laid_one c.requires.ready.valid c.valid_is_safe.ensures c.requires.ready.few c.turn.invariant.0.turn room c.in-Spots.first c.in-Spots.size here c.in-One.unit by.subscript c.in-Ok-subscript.value c.in-Ok-subscript.ensures c.in-One.extent by)))))

pub subscript-requires-in-Two : goal.subscript-requires-in-Two
subscript-requires-in-Two g c =
    let at = turn.stands c.requires.ready.valid c.valid_is_safe.ensures c.turn.invariant.0.turn c.index-ahead-0.result c.args.code.now.ops.items refl (turn.first c.args.code.now.ops.items c.turn.pc c.turn.invariant.1 c.index-ahead-0.is) in
    let here = at ∙ ap Some (roles.told (role.Spots c.in-Spots.first c.in-Spots.size) (instruction_of c.index-ahead-0.result) (sym c.in-Spots.is ∙ c.role_of.ensures)) in
    let room = subst (λ n. suc c.args.code.now.depth * c.args.code.now.stack ≤ n) (sym c.turn.auto.stack) c.requires.ready.room in
    let by = elements.subscripts_in c.args.code.now.ops.items c.args.code.now c.turn.pc _ _ c.turn.invariant.1 refl c.in-Two.is c.subscripts_behind.ensures in
    elements.first_unit c.requires.ready.valid c.valid_is_safe.ensures c.requires.ready.few c.turn.invariant.0.turn room c.in-Spots.first c.in-Spots.size here c.in-Two.one by.first

pub returns-in-Err-subscript-2 : goal.returns-in-Err-subscript-2
returns-in-Err-subscript-2 g c =
    let at = turn.stands c.requires.ready.valid c.valid_is_safe.ensures c.turn.invariant.0.turn c.index-ahead-0.result c.args.code.now.ops.items refl (turn.first c.args.code.now.ops.items c.turn.pc c.turn.invariant.1 c.index-ahead-0.is) in
    let here = at ∙ ap Some (roles.told (role.Spots c.in-Spots.first c.in-Spots.size) (instruction_of c.index-ahead-0.result) (sym c.in-Spots.is ∙ c.role_of.ensures)) in
    let room = subst (λ n. suc c.args.code.now.depth * c.args.code.now.stack ≤ n) (sym c.turn.auto.stack) c.requires.ready.room in
    let by = elements.subscripts_in c.args.code.now.ops.items c.args.code.now c.turn.pc _ _ c.turn.invariant.1 refl c.in-Two.is c.subscripts_behind.ensures in
    answered g.S.Source.left g.K.Sink.puts g.S.Source.faults g.K.Sink.faults c.args.input.now c.turn.input c.args.out.now c.turn.out c.args.code.now c.args.steps _ _ _ _ c.halted-in-Err-subscript-2.ensures.end (whole c.turn.invariant.0 c.requires.unread _ _ _ (elements.first_undefined c.requires.ready.valid c.valid_is_safe.ensures c.requires.ready.few c.turn.invariant.0.turn room c.in-Spots.first c.in-Spots.size here c.in-Two.one by.first c.halted-in-Err-subscript-2.ensures.counts c.in-Err-subscript-2.ensures))

pub subscript-requires-in-Ok-subscript-2 : goal.subscript-requires-in-Ok-subscript-2
subscript-requires-in-Ok-subscript-2 g c =
    let at = turn.stands c.requires.ready.valid c.valid_is_safe.ensures c.turn.invariant.0.turn c.index-ahead-0.result c.args.code.now.ops.items refl (turn.first c.args.code.now.ops.items c.turn.pc c.turn.invariant.1 c.index-ahead-0.is) in
    let here = at ∙ ap Some (roles.told (role.Spots c.in-Spots.first c.in-Spots.size) (instruction_of c.index-ahead-0.result) (sym c.in-Spots.is ∙ c.role_of.ensures)) in
    let room = subst (λ n. suc c.args.code.now.depth * c.args.code.now.stack ≤ n) (sym c.turn.auto.stack) c.requires.ready.room in
    let by = elements.subscripts_in c.args.code.now.ops.items c.args.code.now c.turn.pc _ _ c.turn.invariant.1 refl c.in-Two.is c.subscripts_behind.ensures in
    elements.second_unit c.requires.ready.valid c.valid_is_safe.ensures c.requires.ready.few c.turn.invariant.0.turn room c.in-Spots.first c.in-Spots.size here c.in-Two.one by.first c.in-Ok-subscript-2.x c.in-Ok-subscript-2.ensures c.in-Two.two by.second

pub returns-in-Err-subscript-3 : goal.returns-in-Err-subscript-3
returns-in-Err-subscript-3 g c =
    let at = turn.stands c.requires.ready.valid c.valid_is_safe.ensures c.turn.invariant.0.turn c.index-ahead-0.result c.args.code.now.ops.items refl (turn.first c.args.code.now.ops.items c.turn.pc c.turn.invariant.1 c.index-ahead-0.is) in
    let here = at ∙ ap Some (roles.told (role.Spots c.in-Spots.first c.in-Spots.size) (instruction_of c.index-ahead-0.result) (sym c.in-Spots.is ∙ c.role_of.ensures)) in
    let room = subst (λ n. suc c.args.code.now.depth * c.args.code.now.stack ≤ n) (sym c.turn.auto.stack) c.requires.ready.room in
    let by = elements.subscripts_in c.args.code.now.ops.items c.args.code.now c.turn.pc _ _ c.turn.invariant.1 refl c.in-Two.is c.subscripts_behind.ensures in
    answered g.S.Source.left g.K.Sink.puts g.S.Source.faults g.K.Sink.faults c.args.input.now c.turn.input c.args.out.now c.turn.out c.args.code.now c.args.steps _ _ _ _ c.halted-in-Err-subscript-3.ensures.end (whole c.turn.invariant.0 c.requires.unread _ _ _ (elements.second_undefined c.requires.ready.valid c.valid_is_safe.ensures c.requires.ready.few c.turn.invariant.0.turn room c.in-Spots.first c.in-Spots.size here c.in-Two.one by.first c.in-Ok-subscript-2.x c.in-Ok-subscript-2.ensures c.in-Two.two by.second c.halted-in-Err-subscript-3.ensures.counts c.in-Err-subscript-3.ensures))

pub element_by_two-requires-clause-some : goal.element_by_two-requires-clause-some
element_by_two-requires-clause-some g c =
    let at = turn.stands c.requires.ready.valid c.valid_is_safe.ensures c.turn.invariant.0.turn c.index-ahead-0.result c.args.code.now.ops.items refl (turn.first c.args.code.now.ops.items c.turn.pc c.turn.invariant.1 c.index-ahead-0.is) in
    let here = at ∙ ap Some (roles.told (role.Spots c.in-Spots.first c.in-Spots.size) (instruction_of c.index-ahead-0.result) (sym c.in-Spots.is ∙ c.role_of.ensures)) in
    let room = subst (λ n. suc c.args.code.now.depth * c.args.code.now.stack ≤ n) (sym c.turn.auto.stack) c.requires.ready.room in
    (spots.ranges c.requires.ready.valid c.valid_is_safe.ensures c.requires.ready.few c.turn.invariant.0.turn room c.in-Spots.first c.in-Spots.size here).0

pub element_by_two-requires-clause-few : goal.element_by_two-requires-clause-few
element_by_two-requires-clause-few g c =
    let at = turn.stands c.requires.ready.valid c.valid_is_safe.ensures c.turn.invariant.0.turn c.index-ahead-0.result c.args.code.now.ops.items refl (turn.first c.args.code.now.ops.items c.turn.pc c.turn.invariant.1 c.index-ahead-0.is) in
    let here = at ∙ ap Some (roles.told (role.Spots c.in-Spots.first c.in-Spots.size) (instruction_of c.index-ahead-0.result) (sym c.in-Spots.is ∙ c.role_of.ensures)) in
    let room = subst (λ n. suc c.args.code.now.depth * c.args.code.now.stack ≤ n) (sym c.turn.auto.stack) c.requires.ready.room in
    (spots.ranges c.requires.ready.valid c.valid_is_safe.ensures c.requires.ready.few c.turn.invariant.0.turn room c.in-Spots.first c.in-Spots.size here).1

pub element_by_two-requires-clause-room : goal.element_by_two-requires-clause-room
element_by_two-requires-clause-room g c =
    let at = turn.stands c.requires.ready.valid c.valid_is_safe.ensures c.turn.invariant.0.turn c.index-ahead-0.result c.args.code.now.ops.items refl (turn.first c.args.code.now.ops.items c.turn.pc c.turn.invariant.1 c.index-ahead-0.is) in
    let here = at ∙ ap Some (roles.told (role.Spots c.in-Spots.first c.in-Spots.size) (instruction_of c.index-ahead-0.result) (sym c.in-Spots.is ∙ c.role_of.ensures)) in
    let room = subst (λ n. suc c.args.code.now.depth * c.args.code.now.stack ≤ n) (sym c.turn.auto.stack) c.requires.ready.room in
    spots.has_room c.requires.ready.valid c.valid_is_safe.ensures c.requires.ready.few c.turn.invariant.0.turn room c.in-Spots.first c.in-Spots.size here

pub element_by_two-requires-clause-rows : goal.element_by_two-requires-clause-rows
element_by_two-requires-clause-rows g c =
    let at = turn.stands c.requires.ready.valid c.valid_is_safe.ensures c.turn.invariant.0.turn c.index-ahead-0.result c.args.code.now.ops.items refl (turn.first c.args.code.now.ops.items c.turn.pc c.turn.invariant.1 c.index-ahead-0.is) in
    let here = at ∙ ap Some (roles.told (role.Spots c.in-Spots.first c.in-Spots.size) (instruction_of c.index-ahead-0.result) (sym c.in-Spots.is ∙ c.role_of.ensures)) in
    let room = subst (λ n. suc c.args.code.now.depth * c.args.code.now.stack ≤ n) (sym c.turn.auto.stack) c.requires.ready.room in
    let by = elements.subscripts_in c.args.code.now.ops.items c.args.code.now c.turn.pc _ _ c.turn.invariant.1 refl c.in-Two.is c.subscripts_behind.ensures in
    let fits : SFits w64 c.in-Two.rows = search rules in
    let fits1 : SFits w64 c.in-Two.columns = search rules in
    subst IsInRange (sym (to_z-of_z w64 c.in-Two.rows fits)) (elements.rows_small c.requires.ready.valid c.valid_is_safe.ensures c.requires.ready.few c.turn.invariant.0.turn room c.in-Spots.first c.in-Spots.size here c.in-Two.one by.first c.in-Ok-subscript-2.x c.in-Ok-subscript-2.ensures c.in-Two.two by.second c.in-Ok-subscript-3.y c.in-Ok-subscript-3.ensures c.in-Two.rows c.in-Two.columns by)

pub element_by_two-requires-clause-columns : goal.element_by_two-requires-clause-columns
element_by_two-requires-clause-columns g c =
    let at = turn.stands c.requires.ready.valid c.valid_is_safe.ensures c.turn.invariant.0.turn c.index-ahead-0.result c.args.code.now.ops.items refl (turn.first c.args.code.now.ops.items c.turn.pc c.turn.invariant.1 c.index-ahead-0.is) in
    let here = at ∙ ap Some (roles.told (role.Spots c.in-Spots.first c.in-Spots.size) (instruction_of c.index-ahead-0.result) (sym c.in-Spots.is ∙ c.role_of.ensures)) in
    let room = subst (λ n. suc c.args.code.now.depth * c.args.code.now.stack ≤ n) (sym c.turn.auto.stack) c.requires.ready.room in
    let by = elements.subscripts_in c.args.code.now.ops.items c.args.code.now c.turn.pc _ _ c.turn.invariant.1 refl c.in-Two.is c.subscripts_behind.ensures in
    let fits : SFits w64 c.in-Two.rows = search rules in
    let fits1 : SFits w64 c.in-Two.columns = search rules in
    subst IsInRange (sym (to_z-of_z w64 c.in-Two.columns fits1)) (elements.columns_small c.requires.ready.valid c.valid_is_safe.ensures c.requires.ready.few c.turn.invariant.0.turn room c.in-Spots.first c.in-Spots.size here c.in-Two.one by.first c.in-Ok-subscript-2.x c.in-Ok-subscript-2.ensures c.in-Two.two by.second c.in-Ok-subscript-3.y c.in-Ok-subscript-3.ensures c.in-Two.rows c.in-Two.columns by)

pub code_from-ahead-requires-in-Ok-element_by_two : goal.code_from-ahead-requires-in-Ok-element_by_two
code_from-ahead-requires-in-Ok-element_by_two g c =
    let by = elements.subscripts_in c.args.code.now.ops.items c.args.code.now c.turn.pc _ _ c.turn.invariant.1 refl c.in-Two.is c.subscripts_behind.ensures in
    turn.reaches_to c.args.code.now.ops.items c.turn.pc (c.turn.pc + 1 + 6) 8 c.turn.invariant.1 by.element (omega arith)

pub turn-smaller-in-Ok-element_by_two : goal.turn-smaller-in-Ok-element_by_two
turn-smaller-in-Ok-element_by_two g c =
    let at = turn.stands c.requires.ready.valid c.valid_is_safe.ensures c.turn.invariant.0.turn c.index-ahead-0.result c.args.code.now.ops.items refl (turn.first c.args.code.now.ops.items c.turn.pc c.turn.invariant.1 c.index-ahead-0.is) in
    let here = at ∙ ap Some (roles.told (role.Spots c.in-Spots.first c.in-Spots.size) (instruction_of c.index-ahead-0.result) (sym c.in-Spots.is ∙ c.role_of.ensures)) in
    let room = subst (λ n. suc c.args.code.now.depth * c.args.code.now.stack ≤ n) (sym c.turn.auto.stack) c.requires.ready.room in
    let by = elements.subscripts_in c.args.code.now.ops.items c.args.code.now c.turn.pc _ _ c.turn.invariant.1 refl c.in-Two.is c.subscripts_behind.ensures in
    elements.two_nearer c.requires.ready.valid c.valid_is_safe.ensures c.requires.ready.few c.turn.invariant.0.turn room c.in-Spots.first c.in-Spots.size here c.in-Two.one by.first c.in-Ok-subscript-2.x c.in-Ok-subscript-2.ensures c.in-Two.two by.second c.in-Ok-subscript-3.y c.in-Ok-subscript-3.ensures c.in-Two.rows c.in-Two.columns by

pub turn-preserved-in-Ok-element_by_two : goal.turn-preserved-in-Ok-element_by_two
turn-preserved-in-Ok-element_by_two g c =
    let at = turn.stands c.requires.ready.valid c.valid_is_safe.ensures c.turn.invariant.0.turn c.index-ahead-0.result c.args.code.now.ops.items refl (turn.first c.args.code.now.ops.items c.turn.pc c.turn.invariant.1 c.index-ahead-0.is) in
    let here = at ∙ ap Some (roles.told (role.Spots c.in-Spots.first c.in-Spots.size) (instruction_of c.index-ahead-0.result) (sym c.in-Spots.is ∙ c.role_of.ensures)) in
    let room = subst (λ n. suc c.args.code.now.depth * c.args.code.now.stack ≤ n) (sym c.turn.auto.stack) c.requires.ready.room in
    let by = elements.subscripts_in c.args.code.now.ops.items c.args.code.now c.turn.pc _ _ c.turn.invariant.1 refl c.in-Two.is c.subscripts_behind.ensures in
    let fits : SFits w64 c.in-Two.rows = search rules in
    let fits1 : SFits w64 c.in-Two.columns = search rules in
    (keeps_on c.turn.invariant.0 (elements.two_on c.requires.ready.valid c.valid_is_safe.ensures c.requires.ready.few c.turn.invariant.0.turn room c.in-Spots.first c.in-Spots.size here c.in-Two.one by.first c.in-Ok-subscript-2.x c.in-Ok-subscript-2.ensures c.in-Two.two by.second c.in-Ok-subscript-3.y c.in-Ok-subscript-3.ensures c.in-Two.rows c.in-Two.columns by (c.in-Ok-element_by_two.ensures.works _ (subst (λ z. AreLaidTwo c.in-Spots.first c.in-Spots.size c.in-Ok-subscript-2.x c.in-Ok-subscript-3.y z (to_z w64 (of_z w64 c.in-Two.columns)) c.turn.stack c.turn.top (elements.pair5 c.requires.ready.valid c.valid_is_safe.ensures c.requires.ready.few c.turn.invariant.0.turn room c.in-Spots.first c.in-Spots.size here c.in-Two.one by.first c.in-Ok-subscript-2.x c.in-Ok-subscript-2.ensures c.in-Two.two by.second c.in-Ok-subscript-3.y c.in-Ok-subscript-3.ensures c.in-Two.rows c.in-Two.columns by)) (sym (to_z-of_z w64 c.in-Two.rows fits)) (subst (λ z. AreLaidTwo c.in-Spots.first c.in-Spots.size c.in-Ok-subscript-2.x c.in-Ok-subscript-3.y c.in-Two.rows z c.turn.stack c.turn.top (elements.pair5 c.requires.ready.valid c.valid_is_safe.ensures c.requires.ready.few c.turn.invariant.0.turn room c.in-Spots.first c.in-Spots.size here c.in-Two.one by.first c.in-Ok-subscript-2.x c.in-Ok-subscript-2.ensures c.in-Two.two by.second c.in-Ok-subscript-3.y c.in-Ok-subscript-3.ensures c.in-Two.rows c.in-Two.columns by)) (sym (to_z-of_z w64 c.in-Two.columns fits1)) (elements.laid_two c.requires.ready.valid c.valid_is_safe.ensures c.requires.ready.few c.turn.invariant.0.turn room c.in-Spots.first c.in-Spots.size here c.in-Two.one by.first c.in-Ok-subscript-2.x c.in-Ok-subscript-2.ensures c.in-Two.two by.second c.in-Ok-subscript-3.y c.in-Ok-subscript-3.ensures c.in-Two.rows c.in-Two.columns by)))) c.in-Ok-element_by_two.ensures.room), turn.further c.args.code.now.ops.items c.turn.pc 8 c.turn.invariant.1 c.code_from-ahead-in-Ok-element_by_two.ensures.is)

pub returns-in-Err-element_by_two : goal.returns-in-Err-element_by_two
returns-in-Err-element_by_two g c =
    let at = turn.stands c.requires.ready.valid c.valid_is_safe.ensures c.turn.invariant.0.turn c.index-ahead-0.result c.args.code.now.ops.items refl (turn.first c.args.code.now.ops.items c.turn.pc c.turn.invariant.1 c.index-ahead-0.is) in
    let here = at ∙ ap Some (roles.told (role.Spots c.in-Spots.first c.in-Spots.size) (instruction_of c.index-ahead-0.result) (sym c.in-Spots.is ∙ c.role_of.ensures)) in
    let room = subst (λ n. suc c.args.code.now.depth * c.args.code.now.stack ≤ n) (sym c.turn.auto.stack) c.requires.ready.room in
    let by = elements.subscripts_in c.args.code.now.ops.items c.args.code.now c.turn.pc _ _ c.turn.invariant.1 refl c.in-Two.is c.subscripts_behind.ensures in
    let fits : SFits w64 c.in-Two.rows = search rules in
    let fits1 : SFits w64 c.in-Two.columns = search rules in
    answered g.S.Source.left g.K.Sink.puts g.S.Source.faults g.K.Sink.faults c.args.input.now c.turn.input c.args.out.now c.turn.out c.args.code.now c.args.steps _ _ _ _ c.halted-in-Err-element_by_two.ensures.end (whole c.turn.invariant.0 c.requires.unread _ _ _ (elements.two_over c.requires.ready.valid c.valid_is_safe.ensures c.requires.ready.few c.turn.invariant.0.turn room c.in-Spots.first c.in-Spots.size here c.in-Two.one by.first c.in-Ok-subscript-2.x c.in-Ok-subscript-2.ensures c.in-Two.two by.second c.in-Ok-subscript-3.y c.in-Ok-subscript-3.ensures c.in-Two.rows c.in-Two.columns by c.element_by_two.new.stack c.halted-in-Err-element_by_two.ensures.counts (c.in-Err-element_by_two.ensures.works _ (subst (λ z. AreLaidTwo c.in-Spots.first c.in-Spots.size c.in-Ok-subscript-2.x c.in-Ok-subscript-3.y z (to_z w64 (of_z w64 c.in-Two.columns)) c.turn.stack c.turn.top (elements.pair5 c.requires.ready.valid c.valid_is_safe.ensures c.requires.ready.few c.turn.invariant.0.turn room c.in-Spots.first c.in-Spots.size here c.in-Two.one by.first c.in-Ok-subscript-2.x c.in-Ok-subscript-2.ensures c.in-Two.two by.second c.in-Ok-subscript-3.y c.in-Ok-subscript-3.ensures c.in-Two.rows c.in-Two.columns by)) (sym (to_z-of_z w64 c.in-Two.rows fits)) (subst (λ z. AreLaidTwo c.in-Spots.first c.in-Spots.size c.in-Ok-subscript-2.x c.in-Ok-subscript-3.y c.in-Two.rows z c.turn.stack c.turn.top (elements.pair5 c.requires.ready.valid c.valid_is_safe.ensures c.requires.ready.few c.turn.invariant.0.turn room c.in-Spots.first c.in-Spots.size here c.in-Two.one by.first c.in-Ok-subscript-2.x c.in-Ok-subscript-2.ensures c.in-Two.two by.second c.in-Ok-subscript-3.y c.in-Ok-subscript-3.ensures c.in-Two.rows c.in-Two.columns by)) (sym (to_z-of_z w64 c.in-Two.columns fits1)) (elements.laid_two c.requires.ready.valid c.valid_is_safe.ensures c.requires.ready.few c.turn.invariant.0.turn room c.in-Spots.first c.in-Spots.size here c.in-Two.one by.first c.in-Ok-subscript-2.x c.in-Ok-subscript-2.ensures c.in-Two.two by.second c.in-Ok-subscript-3.y c.in-Ok-subscript-3.ensures c.in-Two.rows c.in-Two.columns by))))))

pub work-requires-clause-ranges : goal.work-requires-clause-ranges
work-requires-clause-ranges g c =
    let at = turn.stands c.requires.ready.valid c.valid_is_safe.ensures c.turn.invariant.0.turn c.index-ahead-0.result c.args.code.now.ops.items refl (turn.first c.args.code.now.ops.items c.turn.pc c.turn.invariant.1 c.index-ahead-0.is) in
    roles.range_of (code_of c.args.code.now.ops.items) (length c.args.code.now.plans.items) c.args.code.now.units c.turn.pc (instruction_of c.index-ahead-0.result) c.requires.ready.few (turn.in_range c.requires.ready.valid c.valid_is_safe.ensures c.turn.invariant.0.turn at)

pub work-requires-clause-work : goal.work-requires-clause-work
work-requires-clause-work g c =
    let at = turn.stands c.requires.ready.valid c.valid_is_safe.ensures c.turn.invariant.0.turn c.index-ahead-0.result c.args.code.now.ops.items refl (turn.first c.args.code.now.ops.items c.turn.pc c.turn.invariant.1 c.index-ahead-0.is) in
    let room = subst (λ n. suc c.args.code.now.depth * c.args.code.now.stack ≤ n) (sym c.turn.auto.stack) c.requires.ready.room in
    turn.may_work c.requires.ready.valid c.valid_is_safe.ensures c.turn.invariant.0.turn at room

pub turn-smaller-in-Ok-work : goal.turn-smaller-in-Ok-work
turn-smaller-in-Ok-work g c =
    let at = turn.stands c.requires.ready.valid c.valid_is_safe.ensures c.turn.invariant.0.turn c.index-ahead-0.result c.args.code.now.ops.items refl (turn.first c.args.code.now.ops.items c.turn.pc c.turn.invariant.1 c.index-ahead-0.is) in
    let told = roles.told role.Works (instruction_of c.index-ahead-0.result) (sym c.in-Works.is ∙ c.role_of.ensures) in
    turn.nearer_next c.requires.ready.valid c.valid_is_safe.ensures c.turn.invariant.0.turn at told

pub turn-preserved-in-Ok-work : goal.turn-preserved-in-Ok-work
turn-preserved-in-Ok-work g c =
    let at = turn.stands c.requires.ready.valid c.valid_is_safe.ensures c.turn.invariant.0.turn c.index-ahead-0.result c.args.code.now.ops.items refl (turn.first c.args.code.now.ops.items c.turn.pc c.turn.invariant.1 c.index-ahead-0.is) in
    (keeps_on c.turn.invariant.0 (turn.works_on c.requires.ready.valid c.valid_is_safe.ensures c.turn.invariant.0.turn at (ap is_straight (sym c.role_of.ensures ∙ c.in-Works.is)) c.in-Ok-work.ensures.works c.in-Ok-work.ensures.room), turn.further c.args.code.now.ops.items c.turn.pc 1 c.turn.invariant.1 c.code_from-ahead-in-Ok-work.ensures.is)

pub returns-in-Err-work : goal.returns-in-Err-work
returns-in-Err-work g c =
    let at = turn.stands c.requires.ready.valid c.valid_is_safe.ensures c.turn.invariant.0.turn c.index-ahead-0.result c.args.code.now.ops.items refl (turn.first c.args.code.now.ops.items c.turn.pc c.turn.invariant.1 c.index-ahead-0.is) in
    answered g.S.Source.left g.K.Sink.puts g.S.Source.faults g.K.Sink.faults c.args.input.now c.turn.input c.args.out.now c.turn.out c.args.code.now c.args.steps _ _ _ _ c.halted-in-Err-work.ensures.end (whole c.turn.invariant.0 c.requires.unread _ _ _ (turn.works_over c.requires.ready.valid c.valid_is_safe.ensures c.turn.invariant.0.turn at c.halted-in-Err-work.ensures.counts c.in-Err-work.ensures.works))

pub operation-requires-clause-work : goal.operation-requires-clause-work
operation-requires-clause-work g c =
    let at = turn.stands c.requires.ready.valid c.valid_is_safe.ensures c.turn.invariant.0.turn c.index-ahead-0.result c.args.code.now.ops.items refl (turn.first c.args.code.now.ops.items c.turn.pc c.turn.invariant.1 c.index-ahead-0.is) in
    let room = subst (λ n. suc c.args.code.now.depth * c.args.code.now.stack ≤ n) (sym c.turn.auto.stack) c.requires.ready.room in
    turn.may_work c.requires.ready.valid c.valid_is_safe.ensures c.turn.invariant.0.turn at room

pub turn-smaller-in-Ok-operation : goal.turn-smaller-in-Ok-operation
turn-smaller-in-Ok-operation g c =
    let at = turn.stands c.requires.ready.valid c.valid_is_safe.ensures c.turn.invariant.0.turn c.index-ahead-0.result c.args.code.now.ops.items refl (turn.first c.args.code.now.ops.items c.turn.pc c.turn.invariant.1 c.index-ahead-0.is) in
    let told = roles.told role.Operates (instruction_of c.index-ahead-0.result) (sym c.in-Operates.is ∙ c.role_of.ensures) in
    turn.nearer_next c.requires.ready.valid c.valid_is_safe.ensures c.turn.invariant.0.turn at told

pub turn-preserved-in-Ok-operation : goal.turn-preserved-in-Ok-operation
turn-preserved-in-Ok-operation g c =
    let at = turn.stands c.requires.ready.valid c.valid_is_safe.ensures c.turn.invariant.0.turn c.index-ahead-0.result c.args.code.now.ops.items refl (turn.first c.args.code.now.ops.items c.turn.pc c.turn.invariant.1 c.index-ahead-0.is) in
    (keeps_on c.turn.invariant.0 (turn.works_on c.requires.ready.valid c.valid_is_safe.ensures c.turn.invariant.0.turn at (ap is_straight (sym c.role_of.ensures ∙ c.in-Operates.is)) c.in-Ok-operation.ensures.works c.in-Ok-operation.ensures.room), turn.further c.args.code.now.ops.items c.turn.pc 1 c.turn.invariant.1 c.code_from-ahead-in-Ok-operation.ensures.is)

pub returns-in-Err-operation : goal.returns-in-Err-operation
returns-in-Err-operation g c =
    let at = turn.stands c.requires.ready.valid c.valid_is_safe.ensures c.turn.invariant.0.turn c.index-ahead-0.result c.args.code.now.ops.items refl (turn.first c.args.code.now.ops.items c.turn.pc c.turn.invariant.1 c.index-ahead-0.is) in
    answered g.S.Source.left g.K.Sink.puts g.S.Source.faults g.K.Sink.faults c.args.input.now c.turn.input c.args.out.now c.turn.out c.args.code.now c.args.steps _ _ _ _ c.halted-in-Err-operation.ensures.end (whole c.turn.invariant.0 c.requires.unread _ _ _ (turn.works_over c.requires.ready.valid c.valid_is_safe.ensures c.turn.invariant.0.turn at c.halted-in-Err-operation.ensures.counts c.in-Err-operation.ensures.works))

pub store-requires : goal.store-requires
store-requires g c =
    let at = turn.stands c.requires.ready.valid c.valid_is_safe.ensures c.turn.invariant.0.turn c.index-ahead-0.result c.args.code.now.ops.items refl (turn.first c.args.code.now.ops.items c.turn.pc c.turn.invariant.1 c.index-ahead-0.is) in
    let here = at ∙ ap Some (roles.told role.Stores (instruction_of c.index-ahead-0.result) (sym c.in-Stores.is ∙ c.role_of.ensures)) in
    let room = subst (λ n. suc c.args.code.now.depth * c.args.code.now.stack ≤ n) (sym c.turn.auto.stack) c.requires.ready.room in
    turn.may_hold c.requires.ready.valid c.valid_is_safe.ensures c.turn.invariant.0.turn here room

pub turn-smaller-in-Ok-store : goal.turn-smaller-in-Ok-store
turn-smaller-in-Ok-store g c =
    let at = turn.stands c.requires.ready.valid c.valid_is_safe.ensures c.turn.invariant.0.turn c.index-ahead-0.result c.args.code.now.ops.items refl (turn.first c.args.code.now.ops.items c.turn.pc c.turn.invariant.1 c.index-ahead-0.is) in
    let here = at ∙ ap Some (roles.told role.Stores (instruction_of c.index-ahead-0.result) (sym c.in-Stores.is ∙ c.role_of.ensures)) in
    turn.nearer_next c.requires.ready.valid c.valid_is_safe.ensures c.turn.invariant.0.turn here refl

pub turn-preserved-in-Ok-store : goal.turn-preserved-in-Ok-store
turn-preserved-in-Ok-store g c =
    let at = turn.stands c.requires.ready.valid c.valid_is_safe.ensures c.turn.invariant.0.turn c.index-ahead-0.result c.args.code.now.ops.items refl (turn.first c.args.code.now.ops.items c.turn.pc c.turn.invariant.1 c.index-ahead-0.is) in
    let here = at ∙ ap Some (roles.told role.Stores (instruction_of c.index-ahead-0.result) (sym c.in-Stores.is ∙ c.role_of.ensures)) in
    (keeps_on c.turn.invariant.0 (turn.holds_on c.requires.ready.valid c.valid_is_safe.ensures c.turn.invariant.0.turn here refl c.in-Ok-store.ensures.works c.in-Ok-store.ensures.room (omega arith)), turn.further c.args.code.now.ops.items c.turn.pc 1 c.turn.invariant.1 c.code_from-ahead-in-Ok-store.ensures.is)

pub returns-in-Err-store : goal.returns-in-Err-store
returns-in-Err-store g c =
    let at = turn.stands c.requires.ready.valid c.valid_is_safe.ensures c.turn.invariant.0.turn c.index-ahead-0.result c.args.code.now.ops.items refl (turn.first c.args.code.now.ops.items c.turn.pc c.turn.invariant.1 c.index-ahead-0.is) in
    let here = at ∙ ap Some (roles.told role.Stores (instruction_of c.index-ahead-0.result) (sym c.in-Stores.is ∙ c.role_of.ensures)) in
    answered g.S.Source.left g.K.Sink.puts g.S.Source.faults g.K.Sink.faults c.args.input.now c.turn.input c.args.out.now c.turn.out c.args.code.now c.args.steps _ _ _ _ c.halted-in-Err-store.ensures.end (whole c.turn.invariant.0 c.requires.unread _ _ _ (turn.holds_over c.requires.ready.valid c.valid_is_safe.ensures c.turn.invariant.0.turn here c.halted-in-Err-store.ensures.counts c.in-Err-store.ensures.works))

pub hold-requires-clause-ranges : goal.hold-requires-clause-ranges
hold-requires-clause-ranges g c =
    let at = turn.stands c.requires.ready.valid c.valid_is_safe.ensures c.turn.invariant.0.turn c.index-ahead-0.result c.args.code.now.ops.items refl (turn.first c.args.code.now.ops.items c.turn.pc c.turn.invariant.1 c.index-ahead-0.is) in
    subst (HasUnits (instruction_of c.index-ahead-0.result)) (sym c.turn.invariant.0.turn.units) (roles.units_of (code_of c.args.code.now.ops.items) (length c.args.code.now.plans.items) c.args.code.now.units c.turn.pc (instruction_of c.index-ahead-0.result) (turn.in_range c.requires.ready.valid c.valid_is_safe.ensures c.turn.invariant.0.turn at))

pub hold-requires-clause-hold : goal.hold-requires-clause-hold
hold-requires-clause-hold g c =
    let at = turn.stands c.requires.ready.valid c.valid_is_safe.ensures c.turn.invariant.0.turn c.index-ahead-0.result c.args.code.now.ops.items refl (turn.first c.args.code.now.ops.items c.turn.pc c.turn.invariant.1 c.index-ahead-0.is) in
    let room = subst (λ n. suc c.args.code.now.depth * c.args.code.now.stack ≤ n) (sym c.turn.auto.stack) c.requires.ready.room in
    turn.may_hold c.requires.ready.valid c.valid_is_safe.ensures c.turn.invariant.0.turn at room

pub turn-smaller-in-Ok-hold : goal.turn-smaller-in-Ok-hold
turn-smaller-in-Ok-hold g c =
    let at = turn.stands c.requires.ready.valid c.valid_is_safe.ensures c.turn.invariant.0.turn c.index-ahead-0.result c.args.code.now.ops.items refl (turn.first c.args.code.now.ops.items c.turn.pc c.turn.invariant.1 c.index-ahead-0.is) in
    let told = roles.told role.Holds (instruction_of c.index-ahead-0.result) (sym c.in-Holds.is ∙ c.role_of.ensures) in
    turn.nearer_next c.requires.ready.valid c.valid_is_safe.ensures c.turn.invariant.0.turn at told

pub turn-preserved-in-Ok-hold : goal.turn-preserved-in-Ok-hold
turn-preserved-in-Ok-hold g c =
    let at = turn.stands c.requires.ready.valid c.valid_is_safe.ensures c.turn.invariant.0.turn c.index-ahead-0.result c.args.code.now.ops.items refl (turn.first c.args.code.now.ops.items c.turn.pc c.turn.invariant.1 c.index-ahead-0.is) in
    (keeps_on c.turn.invariant.0 (turn.holds_on c.requires.ready.valid c.valid_is_safe.ensures c.turn.invariant.0.turn at (ap is_straight (sym c.role_of.ensures ∙ c.in-Holds.is)) c.in-Ok-hold.ensures.works c.in-Ok-hold.ensures.room (omega arith)), turn.further c.args.code.now.ops.items c.turn.pc 1 c.turn.invariant.1 c.code_from-ahead-in-Ok-hold.ensures.is)

pub returns-in-Err-hold : goal.returns-in-Err-hold
returns-in-Err-hold g c =
    let at = turn.stands c.requires.ready.valid c.valid_is_safe.ensures c.turn.invariant.0.turn c.index-ahead-0.result c.args.code.now.ops.items refl (turn.first c.args.code.now.ops.items c.turn.pc c.turn.invariant.1 c.index-ahead-0.is) in
    answered g.S.Source.left g.K.Sink.puts g.S.Source.faults g.K.Sink.faults c.args.input.now c.turn.input c.args.out.now c.turn.out c.args.code.now c.args.steps _ _ _ _ c.halted-in-Err-hold.ensures.end (whole c.turn.invariant.0 c.requires.unread _ _ _ (turn.holds_over c.requires.ready.valid c.valid_is_safe.ensures c.turn.invariant.0.turn at c.halted-in-Err-hold.ensures.counts c.in-Err-hold.ensures.works))

pub loop_turn-requires-clause-limit : goal.loop_turn-requires-clause-limit
loop_turn-requires-clause-limit g c =
    let at = turn.stands c.requires.ready.valid c.valid_is_safe.ensures c.turn.invariant.0.turn c.index-ahead-0.result c.args.code.now.ops.items refl (turn.first c.args.code.now.ops.items c.turn.pc c.turn.invariant.1 c.index-ahead-0.is) in
    let here = at ∙ ap Some (roles.told (role.Loops c.in-Loops.limit c.in-Loops.step c.in-Loops.to) (instruction_of c.index-ahead-0.result) (sym c.in-Loops.is ∙ c.role_of.ensures)) in
    subst (λ n. c.in-Loops.limit < n) (sym c.turn.invariant.0.turn.units) (roles.loop_units (code_of c.args.code.now.ops.items) (length c.args.code.now.plans.items) c.args.code.now.units c.turn.pc c.in-Loops.limit c.in-Loops.step c.in-Loops.to (turn.in_range c.requires.ready.valid c.valid_is_safe.ensures c.turn.invariant.0.turn here)).0

pub loop_turn-requires-clause-step : goal.loop_turn-requires-clause-step
loop_turn-requires-clause-step g c =
    let at = turn.stands c.requires.ready.valid c.valid_is_safe.ensures c.turn.invariant.0.turn c.index-ahead-0.result c.args.code.now.ops.items refl (turn.first c.args.code.now.ops.items c.turn.pc c.turn.invariant.1 c.index-ahead-0.is) in
    let here = at ∙ ap Some (roles.told (role.Loops c.in-Loops.limit c.in-Loops.step c.in-Loops.to) (instruction_of c.index-ahead-0.result) (sym c.in-Loops.is ∙ c.role_of.ensures)) in
    subst (λ n. c.in-Loops.step < n) (sym c.turn.invariant.0.turn.units) (roles.loop_units (code_of c.args.code.now.ops.items) (length c.args.code.now.plans.items) c.args.code.now.units c.turn.pc c.in-Loops.limit c.in-Loops.step c.in-Loops.to (turn.in_range c.requires.ready.valid c.valid_is_safe.ensures c.turn.invariant.0.turn here)).1

pub loop_turn-requires-clause-hold : goal.loop_turn-requires-clause-hold
loop_turn-requires-clause-hold g c =
    let at = turn.stands c.requires.ready.valid c.valid_is_safe.ensures c.turn.invariant.0.turn c.index-ahead-0.result c.args.code.now.ops.items refl (turn.first c.args.code.now.ops.items c.turn.pc c.turn.invariant.1 c.index-ahead-0.is) in
    let here = at ∙ ap Some (roles.told (role.Loops c.in-Loops.limit c.in-Loops.step c.in-Loops.to) (instruction_of c.index-ahead-0.result) (sym c.in-Loops.is ∙ c.role_of.ensures)) in
    let room = subst (λ n. suc c.args.code.now.depth * c.args.code.now.stack ≤ n) (sym c.turn.auto.stack) c.requires.ready.room in
    turn.may_hold c.requires.ready.valid c.valid_is_safe.ensures c.turn.invariant.0.turn here room

pub turn-smaller-in-Ok-loop_turn : goal.turn-smaller-in-Ok-loop_turn
turn-smaller-in-Ok-loop_turn g c =
    let at = turn.stands c.requires.ready.valid c.valid_is_safe.ensures c.turn.invariant.0.turn c.index-ahead-0.result c.args.code.now.ops.items refl (turn.first c.args.code.now.ops.items c.turn.pc c.turn.invariant.1 c.index-ahead-0.is) in
    let here = at ∙ ap Some (roles.told (role.Loops c.in-Loops.limit c.in-Loops.step c.in-Loops.to) (instruction_of c.index-ahead-0.result) (sym c.in-Loops.is ∙ c.role_of.ensures)) in
    turn.nearer_end c.requires.ready.valid c.valid_is_safe.ensures c.turn.invariant.0.turn here refl c.in-Ok-loop_turn.ensures.way

pub turn-preserved-in-Ok-loop_turn : goal.turn-preserved-in-Ok-loop_turn
turn-preserved-in-Ok-loop_turn g c =
    let at = turn.stands c.requires.ready.valid c.valid_is_safe.ensures c.turn.invariant.0.turn c.index-ahead-0.result c.args.code.now.ops.items refl (turn.first c.args.code.now.ops.items c.turn.pc c.turn.invariant.1 c.index-ahead-0.is) in
    let here = at ∙ ap Some (roles.told (role.Loops c.in-Loops.limit c.in-Loops.step c.in-Loops.to) (instruction_of c.index-ahead-0.result) (sym c.in-Loops.is ∙ c.role_of.ensures)) in
    (keeps_on c.turn.invariant.0 (turn.loops_on c.requires.ready.valid c.valid_is_safe.ensures c.turn.invariant.0.turn here c.counted-done-in-Ok-loop_turn.ensures c.in-Ok-loop_turn.ensures.way refl c.in-Ok-loop_turn.ensures.leaps c.in-Ok-loop_turn.ensures.room (omega arith)), c.code_from-ahead-in-Ok-loop_turn.ensures.is ∙ ap (drop c.in-Ok-loop_turn.next) c.deref-ops.ensures.value)

pub code_from-ahead-requires-in-Ok-loop_turn : goal.code_from-ahead-requires-in-Ok-loop_turn
code_from-ahead-requires-in-Ok-loop_turn g c =
    let at = turn.stands c.requires.ready.valid c.valid_is_safe.ensures c.turn.invariant.0.turn c.index-ahead-0.result c.args.code.now.ops.items refl (turn.first c.args.code.now.ops.items c.turn.pc c.turn.invariant.1 c.index-ahead-0.is) in
    let here = at ∙ ap Some (roles.told (role.Loops c.in-Loops.limit c.in-Loops.step c.in-Loops.to) (instruction_of c.index-ahead-0.result) (sym c.in-Loops.is ∙ c.role_of.ensures)) in
    let there = turn.within c.requires.ready.valid c.valid_is_safe.ensures (turn.loops_on c.requires.ready.valid c.valid_is_safe.ensures c.turn.invariant.0.turn here c.counted-done-in-Ok-loop_turn.ensures c.in-Ok-loop_turn.ensures.way refl c.in-Ok-loop_turn.ensures.leaps c.in-Ok-loop_turn.ensures.room (omega arith)) in
    let same = ap length c.deref-ops.ensures.value in
    omega (arith, there, same)

pub returns-in-Err-loop_turn : goal.returns-in-Err-loop_turn
returns-in-Err-loop_turn g c =
    let at = turn.stands c.requires.ready.valid c.valid_is_safe.ensures c.turn.invariant.0.turn c.index-ahead-0.result c.args.code.now.ops.items refl (turn.first c.args.code.now.ops.items c.turn.pc c.turn.invariant.1 c.index-ahead-0.is) in
    let here = at ∙ ap Some (roles.told (role.Loops c.in-Loops.limit c.in-Loops.step c.in-Loops.to) (instruction_of c.index-ahead-0.result) (sym c.in-Loops.is ∙ c.role_of.ensures)) in
    answered g.S.Source.left g.K.Sink.puts g.S.Source.faults g.K.Sink.faults c.args.input.now c.turn.input c.args.out.now c.turn.out c.args.code.now c.args.steps _ _ _ _ c.halted-in-Err-loop_turn.ensures.end (whole c.turn.invariant.0 c.requires.unread _ _ _ (turn.loops_over c.requires.ready.valid c.valid_is_safe.ensures c.turn.invariant.0.turn here c.halted-in-Err-loop_turn.ensures.counts c.in-Err-loop_turn.ensures.leaps))

pub dummy-top-requires : goal.dummy-top-requires
dummy-top-requires g c =
    let at = turn.stands c.requires.ready.valid c.valid_is_safe.ensures c.turn.invariant.0.turn c.index-ahead-0.result c.args.code.now.ops.items refl (turn.first c.args.code.now.ops.items c.turn.pc c.turn.invariant.1 c.index-ahead-0.is) in
    let here = at ∙ ap Some (roles.told (role.Dummies c.in-Dummies.number) (instruction_of c.index-ahead-0.result) (sym c.in-Dummies.is ∙ c.role_of.ensures)) in
    let room = subst (λ n. suc c.args.code.now.depth * c.args.code.now.stack ≤ n) (sym c.turn.auto.stack) c.requires.ready.room in
    calls.may_find c.requires.ready.valid c.valid_is_safe.ensures c.turn.invariant.0.turn here room

pub turn-smaller-in-Dummies : goal.turn-smaller-in-Dummies
turn-smaller-in-Dummies g c =
    let at = turn.stands c.requires.ready.valid c.valid_is_safe.ensures c.turn.invariant.0.turn c.index-ahead-0.result c.args.code.now.ops.items refl (turn.first c.args.code.now.ops.items c.turn.pc c.turn.invariant.1 c.index-ahead-0.is) in
    let here = at ∙ ap Some (roles.told (role.Dummies c.in-Dummies.number) (instruction_of c.index-ahead-0.result) (sym c.in-Dummies.is ∙ c.role_of.ensures)) in
    turn.nearer_next c.requires.ready.valid c.valid_is_safe.ensures c.turn.invariant.0.turn here refl

pub turn-preserved-in-Dummies : goal.turn-preserved-in-Dummies
turn-preserved-in-Dummies g c =
    let at = turn.stands c.requires.ready.valid c.valid_is_safe.ensures c.turn.invariant.0.turn c.index-ahead-0.result c.args.code.now.ops.items refl (turn.first c.args.code.now.ops.items c.turn.pc c.turn.invariant.1 c.index-ahead-0.is) in
    let here = at ∙ ap Some (roles.told (role.Dummies c.in-Dummies.number) (instruction_of c.index-ahead-0.result) (sym c.in-Dummies.is ∙ c.role_of.ensures)) in
    (keeps_on c.turn.invariant.0 (calls.finds_on c.requires.ready.valid c.valid_is_safe.ensures c.turn.invariant.0.turn here c.dummy-top.ensures.finds c.dummy-top.ensures.room), turn.further c.args.code.now.ops.items c.turn.pc 1 c.turn.invariant.1 c.code_from-ahead-in-Dummies.ensures.is)

pub overflow_add-above : goal.overflow_add-above
overflow_add-above g c =
    let at = turn.stands c.requires.ready.valid c.valid_is_safe.ensures c.turn.invariant.0.turn c.index-ahead-0.result c.args.code.now.ops.items refl (turn.first c.args.code.now.ops.items c.turn.pc c.turn.invariant.1 c.index-ahead-0.is) in
    let here = at ∙ ap Some (roles.told (role.Calls c.in-Calls.to c.in-Calls.count) (instruction_of c.index-ahead-0.result) (sym c.in-Calls.is ∙ c.role_of.ensures)) in
    let room = subst (λ n. suc c.args.code.now.depth * c.args.code.now.dummies ≤ n) (sym c.turn.auto.spots) c.requires.ready.dummies in
    let enough = calls.call_room c.requires.ready.valid c.valid_is_safe.ensures c.turn.invariant.0.turn here room in
    omega arith

pub call-top-requires-clause-tall : goal.call-top-requires-clause-tall
call-top-requires-clause-tall g c =
    let at = turn.stands c.requires.ready.valid c.valid_is_safe.ensures c.turn.invariant.0.turn c.index-ahead-0.result c.args.code.now.ops.items refl (turn.first c.args.code.now.ops.items c.turn.pc c.turn.invariant.1 c.index-ahead-0.is) in
    let here = at ∙ ap Some (roles.told (role.Calls c.in-Calls.to c.in-Calls.count) (instruction_of c.index-ahead-0.result) (sym c.in-Calls.is ∙ c.role_of.ensures)) in
    calls.call_tall c.requires.ready.valid c.valid_is_safe.ensures c.turn.invariant.0.turn here

pub call-top-requires-clause-spots : goal.call-top-requires-clause-spots
call-top-requires-clause-spots g c =
    let at = turn.stands c.requires.ready.valid c.valid_is_safe.ensures c.turn.invariant.0.turn c.index-ahead-0.result c.args.code.now.ops.items refl (turn.first c.args.code.now.ops.items c.turn.pc c.turn.invariant.1 c.index-ahead-0.is) in
    let here = at ∙ ap Some (roles.told (role.Calls c.in-Calls.to c.in-Calls.count) (instruction_of c.index-ahead-0.result) (sym c.in-Calls.is ∙ c.role_of.ensures)) in
    let room = subst (λ n. suc c.args.code.now.depth * c.args.code.now.dummies ≤ n) (sym c.turn.auto.spots) c.requires.ready.dummies in
    calls.call_room c.requires.ready.valid c.valid_is_safe.ensures c.turn.invariant.0.turn here room

pub keep_caller-requires : goal.keep_caller-requires
keep_caller-requires g c =
    let at = turn.stands c.requires.ready.valid c.valid_is_safe.ensures c.turn.invariant.0.turn c.index-ahead-0.result c.args.code.now.ops.items refl (turn.first c.args.code.now.ops.items c.turn.pc c.turn.invariant.1 c.index-ahead-0.is) in
    let here = at ∙ ap Some (roles.told (role.Calls c.in-Calls.to c.in-Calls.count) (instruction_of c.index-ahead-0.result) (sym c.in-Calls.is ∙ c.role_of.ensures)) in
    let levels = subst (λ n. c.args.code.now.depth ≤ n) (sym c.turn.auto.resumes) c.requires.ready.callers in
    let deep = calls.call_deep c.requires.ready.valid c.valid_is_safe.ensures c.turn.invariant.0.turn here in
    omega arith

pub overflow_add-level : goal.overflow_add-level
overflow_add-level g c =
    let at = turn.stands c.requires.ready.valid c.valid_is_safe.ensures c.turn.invariant.0.turn c.index-ahead-0.result c.args.code.now.ops.items refl (turn.first c.args.code.now.ops.items c.turn.pc c.turn.invariant.1 c.index-ahead-0.is) in
    let here = at ∙ ap Some (roles.told (role.Calls c.in-Calls.to c.in-Calls.count) (instruction_of c.index-ahead-0.result) (sym c.in-Calls.is ∙ c.role_of.ensures)) in
    let deep = calls.call_deep c.requires.ready.valid c.valid_is_safe.ensures c.turn.invariant.0.turn here in
    omega arith

pub turn-smaller-in-Calls : goal.turn-smaller-in-Calls
turn-smaller-in-Calls g c =
    let at = turn.stands c.requires.ready.valid c.valid_is_safe.ensures c.turn.invariant.0.turn c.index-ahead-0.result c.args.code.now.ops.items refl (turn.first c.args.code.now.ops.items c.turn.pc c.turn.invariant.1 c.index-ahead-0.is) in
    let here = at ∙ ap Some (roles.told (role.Calls c.in-Calls.to c.in-Calls.count) (instruction_of c.index-ahead-0.result) (sym c.in-Calls.is ∙ c.role_of.ensures)) in
    nearer_call (code_of c.args.code.now.ops.items) c.turn.pc c.in-Calls.to c.turn.left c.turn.level (calls.call_counted c.requires.ready.valid c.valid_is_safe.ensures c.turn.invariant.0.turn here) (ap is_counted here)

pub turn-preserved-in-Calls : goal.turn-preserved-in-Calls
turn-preserved-in-Calls g c =
    let at = turn.stands c.requires.ready.valid c.valid_is_safe.ensures c.turn.invariant.0.turn c.index-ahead-0.result c.args.code.now.ops.items refl (turn.first c.args.code.now.ops.items c.turn.pc c.turn.invariant.1 c.index-ahead-0.is) in
    let here = at ∙ ap Some (roles.told (role.Calls c.in-Calls.to c.in-Calls.count) (instruction_of c.index-ahead-0.result) (sym c.in-Calls.is ∙ c.role_of.ensures)) in
    let levels = subst (λ n. c.args.code.now.depth ≤ n) (sym c.turn.auto.resumes) c.requires.ready.callers in
    let deep = calls.call_deep c.requires.ready.valid c.valid_is_safe.ensures c.turn.invariant.0.turn here in
    (keeps_on c.turn.invariant.0 (calls.calls_on c.requires.ready.valid c.valid_is_safe.ensures c.turn.invariant.0.turn here c.call-top.ensures.top c.call-top.ensures.handed (frames.kept_as (code_of c.args.code.now.ops.items) c.turn.level _ _ _ c.keep_caller.ensures) refl refl (frames.as_long (code_of c.args.code.now.ops.items) c.turn.level c.turn.resumes (omega arith)) c.counted-done-in-Calls.ensures), c.code_from-ahead-in-Calls.ensures.is ∙ ap (drop c.in-Calls.to) c.deref-ops.ensures.value)

pub code_from-ahead-requires-in-Calls : goal.code_from-ahead-requires-in-Calls
code_from-ahead-requires-in-Calls g c =
    let at = turn.stands c.requires.ready.valid c.valid_is_safe.ensures c.turn.invariant.0.turn c.index-ahead-0.result c.args.code.now.ops.items refl (turn.first c.args.code.now.ops.items c.turn.pc c.turn.invariant.1 c.index-ahead-0.is) in
    let here = at ∙ ap Some (roles.told (role.Calls c.in-Calls.to c.in-Calls.count) (instruction_of c.index-ahead-0.result) (sym c.in-Calls.is ∙ c.role_of.ensures)) in
    let levels = subst (λ n. c.args.code.now.depth ≤ n) (sym c.turn.auto.resumes) c.requires.ready.callers in
    let deep = calls.call_deep c.requires.ready.valid c.valid_is_safe.ensures c.turn.invariant.0.turn here in
    let there = turn.within c.requires.ready.valid c.valid_is_safe.ensures (calls.calls_on c.requires.ready.valid c.valid_is_safe.ensures c.turn.invariant.0.turn here c.call-top.ensures.top c.call-top.ensures.handed (frames.kept_as (code_of c.args.code.now.ops.items) c.turn.level _ _ _ c.keep_caller.ensures) refl refl (frames.as_long (code_of c.args.code.now.ops.items) c.turn.level c.turn.resumes (omega arith)) c.counted-done-in-Calls.ensures) in
    let same = ap length c.deref-ops.ensures.value in
    omega (arith, there, same)

pub caller_below-resume-requires-clause-some : goal.caller_below-resume-requires-clause-some
caller_below-resume-requires-clause-some g c =
    let at = turn.stands c.requires.ready.valid c.valid_is_safe.ensures c.turn.invariant.0.turn c.index-ahead-0.result c.args.code.now.ops.items refl (turn.first c.args.code.now.ops.items c.turn.pc c.turn.invariant.1 c.index-ahead-0.is) in
    let here = at ∙ ap Some (roles.told role.Returns (instruction_of c.index-ahead-0.result) (sym c.in-Returns.is ∙ c.role_of.ensures)) in
    calls.returns_some c.requires.ready.valid c.valid_is_safe.ensures c.turn.invariant.0.turn here

pub caller_below-resume-requires-clause-within : goal.caller_below-resume-requires-clause-within
caller_below-resume-requires-clause-within g c =
    let levels = subst (λ n. c.args.code.now.depth ≤ n) (sym c.turn.auto.resumes) c.requires.ready.callers in
    let deep = calls.deep c.requires.ready.valid c.valid_is_safe.ensures c.turn.invariant.0.turn in
    omega arith

pub overflow_sub-level : goal.overflow_sub-level
overflow_sub-level g c =
    let at = turn.stands c.requires.ready.valid c.valid_is_safe.ensures c.turn.invariant.0.turn c.index-ahead-0.result c.args.code.now.ops.items refl (turn.first c.args.code.now.ops.items c.turn.pc c.turn.invariant.1 c.index-ahead-0.is) in
    let here = at ∙ ap Some (roles.told role.Returns (instruction_of c.index-ahead-0.result) (sym c.in-Returns.is ∙ c.role_of.ensures)) in
    calls.returns_some c.requires.ready.valid c.valid_is_safe.ensures c.turn.invariant.0.turn here

pub overflow_sub-base : goal.overflow_sub-base
overflow_sub-base g c =
    let at = turn.stands c.requires.ready.valid c.valid_is_safe.ensures c.turn.invariant.0.turn c.index-ahead-0.result c.args.code.now.ops.items refl (turn.first c.args.code.now.ops.items c.turn.pc c.turn.invariant.1 c.index-ahead-0.is) in
    let here = at ∙ ap Some (roles.told role.Returns (instruction_of c.index-ahead-0.result) (sym c.in-Returns.is ∙ c.role_of.ensures)) in
    calls.returns_low c.requires.ready.valid c.valid_is_safe.ensures c.turn.invariant.0.turn here

pub turn-smaller-in-Returns : goal.turn-smaller-in-Returns
turn-smaller-in-Returns g c =
    let at = turn.stands c.requires.ready.valid c.valid_is_safe.ensures c.turn.invariant.0.turn c.index-ahead-0.result c.args.code.now.ops.items refl (turn.first c.args.code.now.ops.items c.turn.pc c.turn.invariant.1 c.index-ahead-0.is) in
    let here = at ∙ ap Some (roles.told role.Returns (instruction_of c.index-ahead-0.result) (sym c.in-Returns.is ∙ c.role_of.ensures)) in
    nearer_return (code_of c.args.code.now.ops.items) c.turn.pc c.caller_below-resume.result.at c.turn.left c.turn.level (calls.returns_some c.requires.ready.valid c.valid_is_safe.ensures c.turn.invariant.0.turn here) (ap is_counted here)

pub turn-preserved-in-Returns : goal.turn-preserved-in-Returns
turn-preserved-in-Returns g c =
    let at = turn.stands c.requires.ready.valid c.valid_is_safe.ensures c.turn.invariant.0.turn c.index-ahead-0.result c.args.code.now.ops.items refl (turn.first c.args.code.now.ops.items c.turn.pc c.turn.invariant.1 c.index-ahead-0.is) in
    let here = at ∙ ap Some (roles.told role.Returns (instruction_of c.index-ahead-0.result) (sym c.in-Returns.is ∙ c.role_of.ensures)) in
    (keeps_on c.turn.invariant.0 (calls.returns_on c.requires.ready.valid c.valid_is_safe.ensures c.turn.invariant.0.turn here (frames.back_as (code_of c.args.code.now.ops.items) (c.turn.level - 1) c.turn.resumes c.caller_below-resume.result c.caller_below-resume.ensures) c.counted-done-in-Returns.ensures), c.code_from-ahead-in-Returns.ensures.is ∙ ap (drop c.caller_below-resume.result.at) c.deref-ops.ensures.value)

pub code_from-ahead-requires-in-Returns : goal.code_from-ahead-requires-in-Returns
code_from-ahead-requires-in-Returns g c =
    let at = turn.stands c.requires.ready.valid c.valid_is_safe.ensures c.turn.invariant.0.turn c.index-ahead-0.result c.args.code.now.ops.items refl (turn.first c.args.code.now.ops.items c.turn.pc c.turn.invariant.1 c.index-ahead-0.is) in
    let here = at ∙ ap Some (roles.told role.Returns (instruction_of c.index-ahead-0.result) (sym c.in-Returns.is ∙ c.role_of.ensures)) in
    let there = turn.within c.requires.ready.valid c.valid_is_safe.ensures (calls.returns_on c.requires.ready.valid c.valid_is_safe.ensures c.turn.invariant.0.turn here (frames.back_as (code_of c.args.code.now.ops.items) (c.turn.level - 1) c.turn.resumes c.caller_below-resume.result c.caller_below-resume.ensures) c.counted-done-in-Returns.ensures) in
    let same = ap length c.deref-ops.ensures.value in
    omega (arith, there, same)

pub record_step-requires-clause-hold : goal.record_step-requires-clause-hold
record_step-requires-clause-hold g c =
    let at = turn.stands c.requires.ready.valid c.valid_is_safe.ensures c.turn.invariant.0.turn c.index-ahead-0.result c.args.code.now.ops.items refl (turn.first c.args.code.now.ops.items c.turn.pc c.turn.invariant.1 c.index-ahead-0.is) in
    let room = subst (λ n. suc c.args.code.now.depth * c.args.code.now.stack ≤ n) (sym c.turn.auto.stack) c.requires.ready.room in
    turn.may_hold c.requires.ready.valid c.valid_is_safe.ensures c.turn.invariant.0.turn at room

pub record_step-requires-clause-act : goal.record_step-requires-clause-act
record_step-requires-clause-act g c =
    let at = turn.stands c.requires.ready.valid c.valid_is_safe.ensures c.turn.invariant.0.turn c.index-ahead-0.result c.args.code.now.ops.items refl (turn.first c.args.code.now.ops.items c.turn.pc c.turn.invariant.1 c.index-ahead-0.is) in
    let told = roles.told role.Records (instruction_of c.index-ahead-0.result) (sym c.in-Records.is ∙ c.role_of.ensures) in
    subst (λ ps. MayAct ps (instruction_of c.index-ahead-0.result) c.turn.plan c.turn.flow.stand) (sym c.deref.ensures.value)
    (may_act c.requires.ready.valid c.valid_is_safe.ensures c.turn.invariant.0 at told.1 (roles.plan_of (code_of c.args.code.now.ops.items) (length c.args.code.now.plans.items) c.args.code.now.units c.turn.pc (instruction_of c.index-ahead-0.result) (turn.in_range c.requires.ready.valid c.valid_is_safe.ensures c.turn.invariant.0.turn at)))

pub turn-smaller : goal.turn-smaller
turn-smaller g c =
    let at = turn.stands c.requires.ready.valid c.valid_is_safe.ensures c.turn.invariant.0.turn c.index-ahead-0.result c.args.code.now.ops.items refl (turn.first c.args.code.now.ops.items c.turn.pc c.turn.invariant.1 c.index-ahead-0.is) in
    let told = roles.told role.Records (instruction_of c.index-ahead-0.result) (sym c.in-Records.is ∙ c.role_of.ensures) in
    turn.nearer_next c.requires.ready.valid c.valid_is_safe.ensures c.turn.invariant.0.turn at told.0

pub turn-preserved : goal.turn-preserved
turn-preserved g c =
    let at = turn.stands c.requires.ready.valid c.valid_is_safe.ensures c.turn.invariant.0.turn c.index-ahead-0.result c.args.code.now.ops.items refl (turn.first c.args.code.now.ops.items c.turn.pc c.turn.invariant.1 c.index-ahead-0.is) in
    let told = roles.told role.Records (instruction_of c.index-ahead-0.result) (sym c.in-Records.is ∙ c.role_of.ensures) in
    (acts_on c.requires.ready.valid c.valid_is_safe.ensures c.turn.invariant.0 at told.1 g.met.K.Sink.in_a_row c.record_step.new.input c.record_step.new.out c.record_step.new.flow c.record_step.new.stack c.record_step.new.cells c.deref.result.now c.deref.ensures.value {r = (c.in-Ok-record_step.rest, c.in-Ok-record_step.number)} c.in-Ok-record_step.ensures.acts c.in-Ok-record_step.ensures.room (omega arith), turn.further c.args.code.now.ops.items c.turn.pc 1 c.turn.invariant.1 c.code_from-ahead-in-Ok-record_step.ensures.is)

pub returns-in-Err-record_step : goal.returns-in-Err-record_step
returns-in-Err-record_step g c =
    let at = turn.stands c.requires.ready.valid c.valid_is_safe.ensures c.turn.invariant.0.turn c.index-ahead-0.result c.args.code.now.ops.items refl (turn.first c.args.code.now.ops.items c.turn.pc c.turn.invariant.1 c.index-ahead-0.is) in
    let told = roles.told role.Records (instruction_of c.index-ahead-0.result) (sym c.in-Records.is ∙ c.role_of.ensures) in
    answered g.S.Source.left g.K.Sink.puts g.S.Source.faults g.K.Sink.faults c.args.input.now c.record_step.new.input c.args.out.now c.record_step.new.out c.args.code.now c.args.steps _ _ _ _ c.over-in-Err-record_step.ensures (subst (IsEnd g.S.Source.left g.K.Sink.puts g.S.Source.faults g.K.Sink.faults c.args.input.now c.record_step.new.input c.args.out.now c.record_step.new.out c.args.code.now c.args.steps c.turn.left c.counted-in-Err-record_step.result) (sym (c.end_at.ensures ∙ ap (end_in c.in-Err-record_step.stop) c.place_of.ensures)) (acts_over c.requires.ready.valid c.valid_is_safe.ensures c.turn.invariant.0 at told.1 g.met.K.Sink.in_a_row c.record_step.new.input c.record_step.new.out c.record_step.new.flow c.record_step.new.stack c.record_step.new.cells c.deref.result.now c.deref.ensures.value c.counted-in-Err-record_step.ensures c.requires.unread c.in-Err-record_step.stop c.in-Err-record_step.ensures.acts))
