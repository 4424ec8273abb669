-- What Ratfor units do (Kernighan, Ratfor: A Preprocessor for a Rational Fortran, 1975; its plain statements are those of
-- X3.9-1966). The work adds one for each statement begun, turn, jump, case expression compared, label passed, argument,
-- item, and node of an expression evaluated.
use Rattle.std.specs.Prelude.{ℕ, zero, suc, ◌+◌, Bool, false, nat_eq, ◌||◌, if◌then◌else◌, List, [], ◌∷◌, Option, Some, None, ⊤}
use Rattle.ground.specs.declared.place.Place.{Place}
use Rattle.ground.specs.declared.value.Kind.TheVariants.{Integer}
use Rattle.ground.specs.Content.{Content}
use Rattle.f66_tree.specs.declared.expression.Operator.TheVariants.{Eq}
use Rattle.f66_tree.specs.Syntax.{Text, Formula, Formulas, NoFormula, AndFormula, Act, Return, Line}
use Rattle.f66_tree.specs.World.{Record, World, GoesOn, Lost, Out, Gives, Halts, bind, settle, choose, counted, Shown, shown}
use Rattle.f66_tree.specs.Units.{is_note, is_main, name_of, Spot, Linkage, Setting, Frame, moved_to, around}
use Rattle.f66_tree.specs.Evaluation.{base, asked, operate, truth_in, store_at, value_of, asks}
use Rattle.f66_tree.specs.Statements.{Exit, Normal, To, Back, LoopParameters, loop_start, loop_turn, does}
use Rattle.f66_tree.specs.Execution.{has_label, runnable, Stand, stand, no_loops, nowhere, first_state, past_end, fetch}
use Rattle.rat_tree.specs.Syntax.{Command, Empty, Block, If, IfElse, While, For, Repeat, RepeatUntil, Do, Switch, Break, Next, Plain, Labelled, Commands, NoCommand, AndCommand, Clauses, NoClause, AndClause}
use Rattle.rat_tree.specs.Syntax as ratfor_tree

-- how a statement is left: as usual, for a label, for the caller, or by leaving or turning a loop
pub data Course : Type 0 where
  Went : Course
  Jumps : ℕ → Course
  Backs : Course
  Leave : ℕ → Course
  Again : ℕ → Course

abbrev pub course_of : Exit → Course
course_of Normal = Went
course_of (To l) = Jumps l
course_of Back = Backs

abbrev pub Flow : Type 0
Flow = Out Course

abbrev pub Continuation : Type 0
Continuation = World → Flow

abbrev pub went : Continuation
went w = Gives Went w

abbrev pub stays : Continuation
stays w = Halts GoesOn w

-- what comes after a statement that has ended as usual
abbrev pub after : Continuation → Course → Continuation
after go Went w = go w
after go c w = Gives c w

abbrev pub then_do : Flow → Continuation → Flow
then_do flow go = bind flow (after go)

-- what comes after a turn: it has ended as usual or by `next`, or `break` leaves the loop
abbrev pub after_turn : Continuation → Course → Continuation
after_turn go Went w = go w
after_turn go (Leave zero) w = Gives Went w
after_turn go (Leave (suc k)) w = Gives (Leave k) w
after_turn go (Again zero) w = go w
after_turn go (Again (suc k)) w = Gives (Again k) w
after_turn go c w = Gives c w

abbrev pub turned : Flow → Continuation → Flow
turned flow go = bind flow (after_turn go)

abbrev pub pred_of : ℕ → ℕ
pred_of zero = zero
pred_of (suc n) = n

-- at most n turns of a loop: a test, the turn, and what stands after each turn, which may leave the loop
abbrev pub turns : ℕ → (Continuation → Continuation → Continuation) → Continuation → (Continuation → Continuation → Continuation) → Continuation
turns zero top body bottom w = top stays went w
turns (suc n) top body bottom w = top (λ w1. turned (body (counted w1)) (bottom (turns n top body bottom) went)) went w

abbrev pub always : Continuation → Continuation → Continuation
always go leave w = go w

-- whether a statement has this label, and whether one does that stands directly in a list
abbrev pub has_own_label : ℕ → Command → Bool
has_own_label l (Plain m p a) = if is_note a then false else has_label l m
has_own_label l (Labelled m p s) = nat_eq m l
has_own_label l _ = false

abbrev pub stands : ℕ → Commands → Bool
stands l NoCommand = false
stands l (AndCommand s ss) = has_own_label l s || stands l ss

-- jumps to a label that stands directly in this list, at most n of them
abbrev pub landing : ℕ → Commands → (ℕ → Continuation) → Course → Continuation
landing zero ss go (Jumps l) w = if stands l ss then Halts GoesOn w else Gives (Jumps l) w
landing (suc n) ss go (Jumps l) w = if stands l ss then bind (go l (counted w)) (landing n ss go) else Gives (Jumps l) w
landing n ss go c w = Gives c w

abbrev pub landed : ℕ → Commands → (ℕ → Continuation) → Flow → Flow
landed n ss go flow = bind flow (landing n ss go)

-- where the nodes of expressions add nothing to the work
abbrev pub quiet : Setting → Setting
quiet s = record { linked = s.linked; call = s.call; begin = s.begin; most = s.most; tick = λ n. n }

module _ (s : Setting) (f : Frame) where
  -- chooses by a condition in the statement at p
  abbrev pub decides : Place → Formula → Continuation → Continuation → Continuation
  decides p e yea nay w = bind (asks s (moved_to p f) e w) (λ holds w1. choose holds (yea w1) (nay w1))

  -- a plain statement begins; a statement that is not executed does nothing
  abbrev pub plain_statement : Place → Act → Continuation
  plain_statement p a w = if is_note a then Gives Went w else bind (does s (moved_to p f) a (counted w)) (λ y w1. Gives (course_of y) w1)

  -- the label of a statement that is executed is passed, which adds one to the work
  abbrev pub passed_label : Option ℕ → Place → Act → Continuation
  passed_label None p a w = plain_statement p a w
  passed_label (Some l) p a w = if is_note a then Gives Went w else plain_statement p a (counted w)

  -- the part of a loop before a turn, and the part after it; a missing one does nothing
  abbrev pub tested : Place → Option Formula → Continuation → Continuation → Continuation
  tested p None yea nay w = yea w
  tested p (Some e) yea nay w = decides p e yea nay w

  abbrev pub performed : Place → Option Act → Continuation → Continuation
  performed p None go w = go w
  performed p (Some a) go w = then_do (plain_statement p a w) go

  -- what stands after a turn of a `for`, and of a `repeat` with `until`
  abbrev pub stepped : Place → Option Act → Continuation → Continuation → Continuation
  stepped p a go leave w = performed p a go w

  abbrev pub until : Place → Formula → Continuation → Continuation → Continuation
  until p e go leave w = decides p e leave go w

  -- at most n turns of a `do`
  abbrev pub do_turns : ℕ → Place → Text → LoopParameters → Continuation → Continuation
  do_turns zero p x k body w = stays w
  do_turns (suc n) p x k body w =
      turned (body (counted w)) (λ w1. bind (loop_turn s (moved_to p f) x k w1) (λ goes_on w2. choose goes_on (do_turns n p x k body w2) (Gives Went w2)))

  -- `return (e)` stores in the function's name, and returns
  abbrev pub gives_back : Place → Option Formula → Continuation
  gives_back p None w = plain_statement p Return w
  gives_back p (Some e) w =
      bind (settle p (base s f (name_of (around s f).header)) (counted w)) (λ spot w1. bind (value_of s (moved_to p f) e w1) (λ v w2.
      bind (store_at s (moved_to p f) spot v w2) (λ _ w3. bind (does s (moved_to p f) Return w3) (λ y w4. Gives (course_of y) w4))))

  -- A switch takes its value once. It reads it as an integer for each case expression, in order, and compares.
  abbrev pub is_case : Place → Content → Formula → World → Out Bool
  is_case p v e w =
      bind (settle p (asked Integer v) w) (λ v1 w1. bind (value_of s (moved_to p f) e w1) (λ u w2. bind (settle p (operate Eq v1 u) w2) (λ t w3. settle p (truth_in t) w3)))

  abbrev pub fits_case : Place → Content → Formulas → Continuation → Continuation → Continuation
  fits_case p v NoFormula yea nay w = nay w
  fits_case p v (AndFormula e es) yea nay w = bind (is_case p v e (counted w)) (λ holds w1. choose holds (yea w1) (fits_case p v es yea nay w1))

  -- what a statement does, where each loop makes at most b turns in one entry, and each list at most b jumps
  module _ (b : ℕ) where
    abbrev mutual
      pub meaning : Command → World → Flow
      meaning (Empty p) w = Gives Went (counted w)
      meaning (Block p ss) w = landed b ss (λ l. run_from ss (Some l)) (run_from ss None (counted w))
      meaning (If p e c) w = decides p e (meaning c) went (counted w)
      meaning (IfElse p e c d) w = decides p e (meaning c) (meaning d) (counted w)
      meaning (While p e c) w = turns b (tested p (Some e)) (meaning c) always (counted w)
      meaning (For p first e step c) w = performed p first (turns b (tested p e) (meaning c) (stepped p step)) (counted w)
      meaning (Repeat p c) w = turns b (tested p None) (meaning c) always (counted w)
      meaning (RepeatUntil p c e q) w = turns b (tested p None) (meaning c) (until q e) (counted w)
      meaning (Do p x a z d c) w = bind (loop_start s (moved_to p f) x a z d (counted w)) (λ k w1. do_turns b p x k (meaning c) w1)
      meaning (Switch p e cs) w = bind (value_of s (moved_to p f) e (counted w)) (λ v w1. picked v cs (defaulted cs) w1)
      meaning (Break p n) w = Gives (Leave (pred_of n)) (counted w)
      meaning (Next p n) w = Gives (Again (pred_of n)) (counted w)
      meaning (ratfor_tree.Return p e) w = gives_back p e w
      meaning (Plain l p a) w = passed_label l p a w
      meaning (Labelled l p c) w = meaning c (counted w)

      -- a list from its start, or from a label that stands directly in it
      pub run_from : Commands → Option ℕ → World → Flow
      run_from NoCommand from w = Gives Went w
      run_from (AndCommand c ss) None w = then_do (meaning c w) (run_from ss None)
      run_from (AndCommand c ss) (Some l) w = if has_own_label l c then (then_do (meaning c w) (run_from ss None)) else (run_from ss (Some l) w)

      -- the first clause whose tests fit, else the default
      pub picked : Content → Clauses → Continuation → World → Flow
      picked v NoClause other w = other w
      picked v (AndClause es fallback ss p cs) other w =
          fits_case p v es (λ w1. landed b ss (λ l. run_from ss (Some l)) (run_from ss None w1)) (picked v cs other) w

      pub defaulted : Clauses → World → Flow
      defaulted NoClause w = Gives Went w
      defaulted (AndClause es fallback ss p cs) w =
          if fallback then (landed b ss (λ l. run_from ss (Some l)) (run_from ss None w)) else defaulted cs w

    abbrev pub all_meaning : Commands → World → Flow
    all_meaning ss w = landed b ss (λ l. run_from ss (Some l)) (run_from ss None w)

-- past its last statement a unit does as RETURN does, which in a main is STOP
abbrev pub ended_by : Bool → Course → World → Out ⊤
ended_by main Went w = past_end main w
ended_by main Backs w = Gives tt w
ended_by main c w = Halts Lost w

abbrev pub ended : Bool → Flow → Out ⊤
ended main flow = bind flow (ended_by main)

-- a unit's body: of the program's own, or of a unit beside them, which stands as it is
pub data Body : Type 0 where
  Ours : Commands → Body
  Theirs : List Line → Body

-- a further statement would begin, or the unit has ended
abbrev pub waiting : Bool → List Line → World → Out ⊤
waiting main [] w = past_end main w
waiting main (line ∷ rest) w = Halts GoesOn w

-- at most n statements of a unit beside, each of which adds to the work
abbrev pub beside : Setting → Frame → List Line → ℕ → Stand → World → Out ⊤
beside s f code zero at w = waiting (is_main (around s f).header) (runnable at.rest) w
beside s f code (suc n) at w = fetch s f code (runnable at.rest) (beside s f code n) at.loops w

module _ (l : Linkage) (bodies : ℕ → Body) (b : ℕ) where
  -- the setting of a source, by what its calls do
  abbrev pub source : (ℕ → List Spot → World → Out ⊤) → Setting
  source call = record { linked = l; call = call; begin = λ w. Gives tt (counted w); most = b; tick = λ n. n + 1 }

  abbrev pub does_body : Setting → Frame → Body → World → Out ⊤
  does_body s f (Ours ss) w = ended (is_main (around s f).header) (all_meaning s f b ss w)
  does_body s f (Theirs code) w = beside (quiet s) f code b (stand code no_loops) w

  -- calls at most k deep; the call graph has no cycle, so as many as there are units are enough
  abbrev pub source_call : ℕ → ℕ → List Spot → World → Out ⊤
  source_call zero v ps w = Halts Lost w
  source_call (suc k) v ps w = does_body (source (source_call k)) (record { unit = v; actuals = ps; place = nowhere }) (bodies v) w

  -- a program's run over these input records
  abbrev pub ratfor : List Record → Shown
  ratfor input = shown (source_call l.deep l.main [] (record { state = first_state l input; left = 0; count = 0 }))
