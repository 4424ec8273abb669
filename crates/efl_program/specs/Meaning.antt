-- What EFL programs do (Feldman, The Programming Language EFL). The work adds one for each statement begun, turn, jump, case
-- constant compared, label passed, argument, item, field, and node of an expression, where each part of a place is a node.
use Rattle.std.specs.Prelude.{ℕ, zero, suc, ℤ, pos, Bool, true, false, nat_eq, ◌||◌, if◌then◌else◌, List, [], ◌∷◌, Option, Some, None, ⊤}
use Rattle.std.specs.Str.{bytes_eq}
use Rattle.ground.specs.declared.place.Place.{Place}
use Rattle.ground.specs.declared.value.Kind.{Kind}
use Rattle.ground.specs.declared.value.Kind.TheVariants.{Integer, Logical}
use Rattle.ground.specs.Content.{Content, Whole}
use Rattle.f66_tree.specs.declared.editing.EditKind.TheVariants as edits
use Rattle.f66_tree.specs.declared.editing.Way.TheVariants.{Reading, Writing}
use Rattle.f66_tree.specs.declared.expression.Operator.TheVariants.{Add, Le, Eq}
use Rattle.f66_tree.specs.Fields.{Step, Takes, Blanks, Chars, Fields, NoField, Single}
use Rattle.f66_tree.specs.Syntax.{Text}
use Rattle.f66_tree.specs.World.{Record, World, Done, Ended, GoesOn, Lost, Out, Gives, Halts, bind, settle, choose, counted, holding, put_in, Shown, shown, first_tape}
use Rattle.f66_tree.specs.Records.{opened, due, put, take, closed}
use Rattle.f66_tree.specs.Evaluation.{operate, truth_in}
use Rattle.f66_tree.specs.Statements.{taped, taken_content, on_unit}
use Rattle.f66_tree.specs.Execution.{nowhere}
use Rattle.efl_program.specs.Typed as typed
use Rattle.efl_tree.specs.declared.statement.LoopKind.{LoopKind}
use Rattle.efl_tree.specs.declared.statement.LoopKind.TheVariants as loop_kinds
use Rattle.efl_program.specs.Typed.{Expr, Exprs, Site, Action, Evaluate, Invoke, Edit, AsInteger as WholeEdit, AsLogical as TruthEdit, AsCharacter as LetterEdit, WriteItem, Value, Skip, ReadItem, Take, Pass, Stmt, Empty, Block, Act, If, IfElse, While, For, Repeat, RepeatUntil, Do, Switch, Break, Next, Return, Goto, Write, Read, Labelled, Stmts, NoStmt, AndStmt, Clauses, NoClause, AndClause}
use Rattle.efl_program.specs.Setting.{Spot, Linkage, Setting, Frame, moved_to, base, load, store_at}
use Rattle.efl_program.specs.Values.{value_of, reach, placed, spots_of, asks}

-- how a statement is left: as usual, for a label, for the caller, or by leaving or turning so many loops or switches more than
-- the innermost, of a kind or of any
pub data Course : Type 0 where
  Went : Course
  Jumps : Text → Course
  Backs : Course
  Leave : ℕ → Option LoopKind → Course
  Again : ℕ → Option LoopKind → Course

abbrev pub Flow : Type 0
Flow = Out Course

abbrev pub Continuation : Type 0
Continuation = World → Flow

abbrev pub went : Continuation
went w = Gives Went w

abbrev pub stays : Continuation
stays w = Halts GoesOn w

abbrev pub after : Continuation → Course → Continuation
after go Went w = go w
after go c w = Gives c w

abbrev pub then_do : Flow → Continuation → Flow
then_do flow go = bind flow (after go)

-- whether `break` counts a loop or switch of this kind, and whether `next` does
abbrev pub same_kind : LoopKind → LoopKind → Bool
same_kind loop_kinds.While loop_kinds.While = true
same_kind loop_kinds.For loop_kinds.For = true
same_kind loop_kinds.Repeat loop_kinds.Repeat = true
same_kind loop_kinds.Do loop_kinds.Do = true
same_kind loop_kinds.Switch loop_kinds.Switch = true
same_kind _ _ = false

abbrev pub leaves : Option LoopKind → LoopKind → Bool
leaves None k = true
leaves (Some j) k = same_kind j k

abbrev pub turns_one : Option LoopKind → LoopKind → Bool
turns_one o loop_kinds.Switch = false
turns_one o k = leaves o k

abbrev pub left : ℕ → Option LoopKind → World → Flow
left zero o w = Gives Went w
left (suc n) o w = Gives (Leave n o) w

abbrev pub again : Continuation → ℕ → Option LoopKind → World → Flow
again go zero o w = go w
again go (suc n) o w = Gives (Again n o) w

-- a count of one is the innermost
abbrev pub pred_of : ℕ → ℕ
pred_of zero = zero
pred_of (suc n) = n

-- what comes after the statements of a loop or switch of this kind
abbrev pub after_turn : LoopKind → Continuation → Course → Continuation
after_turn k go Went w = go w
after_turn k go (Leave n o) w = if leaves o k then left n o w else Gives (Leave n o) w
after_turn k go (Again n o) w = if turns_one o k then again go n o w else Gives (Again n o) w
after_turn k go c w = Gives c w

abbrev pub turned : LoopKind → Flow → Continuation → Flow
turned k flow go = bind flow (after_turn k go)

-- at most n turns of a loop: a test, the turn, and what stands after each turn, which may leave the loop
abbrev pub turns : LoopKind → ℕ → (Continuation → Continuation → Continuation) → Continuation → (Continuation → Continuation → Continuation) → Continuation
turns k zero top body bottom w = top stays went w
turns k (suc n) top body bottom w = top (λ w1. turned k (body (counted w1)) (bottom (turns k n top body bottom) went)) went w

abbrev pub has_own_label : Text → Stmt → Bool
has_own_label l (Labelled m p s) = bytes_eq m l || has_own_label l s
has_own_label l _ = false

abbrev pub stands : Text → Stmts → Bool
stands l NoStmt = false
stands l (AndStmt s ss) = has_own_label l s || stands l ss

-- jumps to a label that stands directly in this list, at most n of them
abbrev pub landing : ℕ → Stmts → (Text → Continuation) → Course → Continuation
landing zero ss go (Jumps l) w = if stands l ss then Halts GoesOn w else Gives (Jumps l) w
landing (suc n) ss go (Jumps l) w = if stands l ss then bind (go l (counted w)) (landing n ss go) else Gives (Jumps l) w
landing n ss go c w = Gives c w

abbrev pub landed : ℕ → Stmts → (Text → Continuation) → Flow → Flow
landed n ss go flow = bind flow (landing n ss go)

-- ---- records ----

abbrev pub step_by : Edit → Step
step_by (WholeEdit w) = Takes edits.Whole w
step_by (TruthEdit w) = Takes edits.Truth w
step_by LetterEdit = Takes edits.Letter 1

abbrev pub kind_by : Edit → Kind
kind_by (WholeEdit w) = Integer
kind_by (TruthEdit w) = Logical
kind_by LetterEdit = Integer

abbrev pub written_by : List WriteItem → Fields
written_by [] = NoField
written_by (Value e d ∷ items) = Single 1 (step_by d) (written_by items)
written_by (Skip n ∷ items) = Single 1 (Blanks n) (written_by items)
written_by (typed.Chars t ∷ items) = Single 1 (Chars t) (written_by items)

abbrev pub read_by : List ReadItem → Fields
read_by [] = NoField
read_by (Take x d ∷ items) = Single 1 (step_by d) (read_by items)
read_by (Pass n ∷ items) = Single 1 (Blanks n) (read_by items)

-- values go to the record in hand, each by its edit
abbrev pub put_all : Place → List (Kind × Content) → World → Out ⊤
put_all p [] w = Gives tt w
put_all p (v ∷ vs) w = bind (taped p (due v.0) w) (λ _ w1. bind (taped p (put v.1) w1) (λ _ w2. put_all p vs w2))

-- contents come from the record in hand, each by the edit of its place
abbrev pub take_all : Place → List (Kind × Spot) → World → Out (List (Spot × Content))
take_all p [] w = Gives [] w
take_all p (x ∷ xs) w =
    bind (taped p (due x.0) w) (λ _ w1. bind (taken_content p take w1) (λ c w2. bind (take_all p xs w2) (λ cs w3. Gives ((x.1, c) ∷ cs) w3)))

module _ (s : Setting) (f : Frame) where
  abbrev pub decides : Place → Expr → Continuation → Continuation → Continuation
  decides p e yea nay w = bind (asks s (moved_to p f) e w) (λ holds w1. choose holds (yea w1) (nay w1))

  abbrev pub tested : Place → Option Expr → Continuation → Continuation → Continuation
  tested p None yea nay w = yea w
  tested p (Some e) yea nay w = decides p e yea nay w

  -- an act begins
  abbrev pub acts : Place → Action → World → Out ⊤
  acts p (Evaluate e) w = bind (value_of s (moved_to p f) e w) (λ _ w1. Gives tt w1)
  acts p (Invoke v es) w = bind (spots_of s (moved_to p f) es (counted w)) (λ ps w1. s.call v ps w1)

  abbrev pub performed : Place → Option Action → Continuation → Continuation
  performed p None go w = go w
  performed p (Some a) go w = bind (acts p a w) (λ _ w1. go w1)

  abbrev pub stepped : Place → Option Action → Continuation → Continuation → Continuation
  stepped p a go leave w = performed p a go w

  abbrev pub until : Place → Expr → Continuation → Continuation → Continuation
  until p e go leave w = decides p e leave go w

  abbrev pub always : Continuation → Continuation → Continuation
  always go leave w = go w

  -- ---- do ----

  abbrev pub value_or_one : Place → Option Expr → World → Out Content
  value_or_one p None w = Gives (Whole (pos 1)) w
  value_or_one p (Some e) w = value_of s (moved_to p f) e w

  -- an operator with an integer variable's value and another one
  abbrev pub with_value : Place → ℕ → (Content → World → Out Content) → World → Out Content
  with_value p v go w = bind (settle p (base s f v) w) (λ q w1. bind (load s (moved_to p f) Integer q w1) go)

  abbrev pub in_limit : Place → ℕ → Content → Continuation → Continuation → Continuation
  in_limit p v limit yea nay w =
      bind (with_value p v (λ a w1. settle p (operate Le a limit) w1) w) (λ t w1. bind (settle p (truth_in t) w1) (λ holds w2. choose holds (yea w2) (nay w2)))

  abbrev pub counts_on : Place → ℕ → Content → Continuation → Continuation → Continuation
  counts_on p v by go leave w =
      bind (with_value p v (λ a w1. settle p (operate Add a by) w1) w) (λ c w1. bind (settle p (base s f v) w1) (λ q w2. bind (store_at s (moved_to p f) q c w2) (λ _ w3. go w3)))

  -- ---- records ----

  abbrev pub unit_of : Place → ℤ → Option Expr → World → Out Content
  unit_of p z None w = Gives (Whole z) w
  unit_of p z (Some e) w = value_of s (moved_to p f) e w

  -- an item counts for itself and for its field
  abbrev pub values_in : Place → List WriteItem → World → Out (List (Kind × Content))
  values_in p [] w = Gives [] w
  values_in p (Value e d ∷ items) w =
      bind (value_of s (moved_to p f) e (counted (counted w))) (λ v w1. bind (values_in p items w1) (λ vs w2. Gives ((kind_by d, v) ∷ vs) w2))
  values_in p (Skip n ∷ items) w = values_in p items (counted w)
  values_in p (typed.Chars t ∷ items) w = values_in p items (counted w)

  abbrev pub spots_in : Place → List ReadItem → World → Out (List (Kind × Spot))
  spots_in p [] w = Gives [] w
  spots_in p (Take x d ∷ items) w =
      bind (reach s (moved_to p f) x (counted (counted w))) (λ r w1. bind (placed s (moved_to p f) r w1) (λ q w2. bind (spots_in p items w2) (λ qs w3. Gives ((kind_by d, q) ∷ qs) w3)))
  spots_in p (Pass n ∷ items) w = spots_in p items (counted w)

  abbrev pub store_all : Place → List (Spot × Content) → Continuation
  store_all p [] w = Gives Went w
  store_all p (x ∷ xs) w = bind (store_at s (moved_to p f) x.0 x.1 w) (λ _ w1. store_all p xs w1)

  -- the unit and the items in order, the test of the unit, and one record
  abbrev pub writes : Place → Option Expr → List WriteItem → Continuation
  writes p u items w =
      bind (unit_of p (pos 6) u w) (λ z w1. bind (values_in p items w1) (λ vs w2. bind (settle p (on_unit Writing z) w2) (λ _ w3.
      bind (taped p (opened Writing (written_by items)) w3) (λ _ w4. bind (put_all p vs w4) (λ _ w5. bind (taped p closed w5) (λ _ w6. Gives Went w6))))))

  -- the unit and the places in order, the test of the unit, one record, all its fields, and then the stores in order
  abbrev pub reads : Place → Option Expr → List ReadItem → Continuation
  reads p u items w =
      bind (unit_of p (pos 5) u w) (λ z w1. bind (spots_in p items w1) (λ qs w2. bind (settle p (on_unit Reading z) w2) (λ _ w3.
      bind (taped p (opened Reading (read_by items)) w3) (λ _ w4. bind (take_all p qs w4) (λ cs w5. bind (taped p closed w5) (λ _ w6. store_all p cs w6))))))

  -- the main ends by `return`, and a procedure goes back; `return (e)` gives it its value
  abbrev pub returned : Bool → Continuation
  returned true w = Halts (Ended Done) w
  returned false w = Gives Backs w

  abbrev pub gives_back : Place → Option Expr → Continuation
  gives_back p None w = returned (nat_eq f.unit s.linked.main) w
  gives_back p (Some e) w = bind (value_of s (moved_to p f) e w) (λ v w1. returned (nat_eq f.unit s.linked.main) (holding (put_in (s.linked.result f.unit) v w1.state.store) w1))

  -- the value of a switch against the constants of a clause, in order
  abbrev pub fits_constant : Place → Content → List ℤ → Continuation → Continuation → Continuation
  fits_constant p v [] yea nay w = nay w
  fits_constant p v (c ∷ cs) yea nay w =
      bind (settle p (operate Eq v (Whole c)) (counted w)) (λ t w1. bind (settle p (truth_in t) w1) (λ holds w2. choose holds (yea w2) (fits_constant p v cs yea nay w2)))

  -- what a statement does, where each loop makes at most b turns in one entry, and each list at most b jumps
  module _ (b : ℕ) where
    abbrev mutual
      pub meaning : Stmt → World → Flow
      meaning (Empty p) w = Gives Went (counted w)
      meaning (Block p ss) w = landed b ss (λ l. run_from ss (Some l)) (run_from ss None (counted w))
      meaning (Act p a) w = bind (acts p a (counted w)) (λ _ w1. Gives Went w1)
      meaning (If p e c) w = decides p e (meaning c) went (counted w)
      meaning (IfElse p e c d) w = decides p e (meaning c) (meaning d) (counted w)
      meaning (While p e c) w = turns loop_kinds.While b (tested p (Some e)) (meaning c) always (counted w)
      meaning (For p first e step c) w = performed p first (turns loop_kinds.For b (tested p e) (meaning c) (stepped p step)) (counted w)
      meaning (Repeat p c) w = turns loop_kinds.Repeat b (tested p None) (meaning c) always (counted w)
      meaning (RepeatUntil p c e q) w = turns loop_kinds.Repeat b (tested p None) (meaning c) (until q e) (counted w)
      meaning (Do p v a z d c) w =
          bind (value_of s (moved_to p f) z (counted w)) (λ limit w1. bind (value_or_one p d w1) (λ by w2. bind (settle p (base s f v) w2) (λ q w3.
          bind (value_of s (moved_to p f) a w3) (λ first w4. bind (store_at s (moved_to p f) q first w4) (λ _ w5.
          turns loop_kinds.Do b (in_limit p v limit) (meaning c) (counts_on p v by) w5)))))
      meaning (Switch p e cs) w = bind (value_of s (moved_to p f) e (counted w)) (λ v w1. turned loop_kinds.Switch (picked p v cs (defaulted cs) w1) went)
      meaning (Break p n o) w = Gives (Leave (pred_of n) o) (counted w)
      meaning (Next p n o) w = Gives (Again (pred_of n) o) (counted w)
      meaning (Return p e) w = gives_back p e (counted w)
      meaning (Goto p l) w = Gives (Jumps l) (counted w)
      meaning (Write p u items) w = writes p u items (counted w)
      meaning (Read p u items) w = reads p u items (counted w)
      meaning (Labelled l p c) w = meaning c (counted w)

      -- a list from its start, or from a label that stands directly in it
      pub run_from : Stmts → Option Text → World → Flow
      run_from NoStmt from w = Gives Went w
      run_from (AndStmt c ss) None w = then_do (meaning c w) (run_from ss None)
      run_from (AndStmt c ss) (Some l) w = if has_own_label l c then (then_do (meaning c w) (run_from ss None)) else (run_from ss (Some l) w)

      -- the first clause that has a constant like the value, else the default
      pub picked : Place → Content → Clauses → Continuation → World → Flow
      picked q v NoClause other w = other w
      picked q v (AndClause es fallback ss p cs) other w =
          fits_constant q v es (λ w1. landed b ss (λ l. run_from ss (Some l)) (run_from ss None w1)) (picked q v cs other) w

      pub defaulted : Clauses → World → Flow
      defaulted NoClause w = Gives Went w
      defaulted (AndClause es fallback ss p cs) w =
          if fallback then (landed b ss (λ l. run_from ss (Some l)) (run_from ss None w)) else defaulted cs w

    abbrev pub all_meaning : Stmts → World → Flow
    all_meaning ss w = landed b ss (λ l. run_from ss (Some l)) (run_from ss None w)

-- past its last statement a procedure goes back, and the main ends
abbrev pub ended_by : Bool → Course → World → Out ⊤
ended_by true Went w = Halts (Ended Done) w
ended_by false Went w = Gives tt w
ended_by main Backs w = Gives tt w
ended_by main c w = Halts Lost w

module _ (l : Linkage) (bodies : ℕ → Stmts) (b : ℕ) where
  -- calls at most k deep; the call graph has no cycle, so as many as there are procedures are enough
  abbrev pub efl_call : ℕ → ℕ → List Spot → World → Out ⊤
  efl_call zero v ps w = Halts Lost w
  efl_call (suc k) v ps w =
      bind (all_meaning (record { linked = l; call = efl_call k }) (record { unit = v; actuals = ps; place = nowhere }) b (bodies v) w) (ended_by (nat_eq v l.main))

  -- a program's run over these input records
  abbrev pub efl : List Record → Shown
  efl input = shown (efl_call l.deep l.main [] (record { state = record { store = l.first; tape = first_tape input }; left = 0; count = 0 }))
