-- The names that a part without faults uses, where its forms are built: each variable is declared or has a type by its letter, and no
-- structure is laid over a place.
use Rattle.std.proofs.Common.{◌≡◌, false, true≢false, List, [], ◌∷◌, ◌++◌, Option, None, Some}
use Rattle.std.specs.Prelude.{⊤, not, ◌||◌, flat_map}
use Rattle.std.specs.List.{list_any}
use Rattle.ground.specs.declared.value.Kind.{Kind}
use Rattle.ground.specs.declared.value.Kind.TheVariants as kinds
use Rattle.efl_tree.specs.Syntax as efl
use Rattle.efl_tree.specs.Syntax.{Text, EflExpr, Int, Truth, At, Call, Group, Plus, Minus, Not, Up, Down, Pair, Assign, EflExprs, NoExpr, AndExpr, EflPlace, Path, NoStep, Member, Overlay, WriteItem, Value, Chars, ReadItem, Take, EflKind, Empty, Block, Act, If, IfElse, While, For, Repeat, RepeatUntil, Do, Switch, Break, Next, Return, Goto, Write, Read}
use Rattle.efl_scope.specs.Uses.{Use, Named, Applied, Laid, named, uses_of, uses_of_all, uses_at, uses_if, uses_written, uses_read, uses_by}
use Rattle.efl_types.specs.Signatures.{Names}
use Rattle.efl_types.specs.Types.{operand, named_type, ends}
use Rattle.efl_types.specs.Expressions.{variable_faults, name_faults, wants, wants_single, store_wants, faults, faults_of_all, place_faults, step_faults}
use Rattle.efl_types.specs.Statements.{edited, act_faults, act_if, value_faults, value_if, returns, return_faults, written_faults, read_faults, statement_faults}
use Rattle.efl_typed.proofs.Each.{Each}
use Rattle.efl_typed.proofs.FoundLemmas.{neither}
use Rattle.efl_lowered.proofs.TypedRules.{none_left, none_right, none_of_three, none_of_four, none_of_five}
use Rattle.efl_lowered.proofs.TypedChecks.{each_on}
use Rattle.efl_built.specs.Unbuilt.{unbuilt_target, unbuilt_expr, unbuilt_exprs, unbuilt_place, unbuilt_if_any, unbuilt_edit, unbuilt_written, unbuilt_read, unbuilt_by}

-- a variable's name breaks no rule, and nothing is laid over a place
abbrev pub IsFine : Names → Use → Type 0
IsFine n (Named x) = variable_faults n x ≡ []
IsFine n (Applied x) = ⊤
IsFine n (Laid x) = ⊥

module _ (n : Names) where
  abbrev pub AreFine : List Use → Type 0
  AreFine ws = Each (IsFine n) ws

  both : (xs ys : List Use) → AreFine xs → AreFine ys → AreFine (xs ++ ys)
  both xs ys h k = each_on (IsFine n) xs ys h k

  -- ---- expressions ----

  name_fine : (x : Text) (es : EflExprs) → name_faults n x es ≡ [] → IsFine n (named x es)
  name_fine x NoExpr f = f
  name_fine x (AndExpr e es) f = tt

  target_fine : (p : EflPlace) → unbuilt_target p ≡ false → place_faults n p ≡ [] → AreFine (uses_at p)
  target_fine (Path x NoExpr NoStep) h f = (none_left _ _ (none_left _ _ (none_left _ _ f)), tt)
  target_fine (Path x NoExpr (Member y es rest)) h f = absurd (true≢false h)
  target_fine (Path x NoExpr (Overlay y rest)) h f = absurd (true≢false h)
  target_fine (Path x (AndExpr e es) steps) h f = absurd (true≢false h)

  mutual
    pub expr_fine : (e : EflExpr) → unbuilt_expr e ≡ false → faults n e ≡ [] → AreFine (uses_of e)
    expr_fine (Int z) h f = tt
    expr_fine (Truth b) h f = tt
    expr_fine (At p) h f = place_fine p h f
    expr_fine (Call x es) h f = (tt, exprs_fine es h (none_right _ (faults_of_all n es) f))
    expr_fine (Group a) h f = expr_fine a h (none_right (wants_single n a) (faults n a) f)
    expr_fine (Plus a) h f = expr_fine a h (none_right (wants n kinds.Integer a) (faults n a) f)
    expr_fine (Minus a) h f = expr_fine a h (none_right (wants n kinds.Integer a) (faults n a) f)
    expr_fine (Not a) h f = expr_fine a h (none_right (wants n kinds.Logical a) (faults n a) f)
    expr_fine (Up p) h f = target_fine p h (none_right (store_wants n kinds.Integer p) (place_faults n p) f)
    expr_fine (Down p) h f = target_fine p h (none_right (store_wants n kinds.Integer p) (place_faults n p) f)
    expr_fine (Pair o a b) h f =
        let g = neither (unbuilt_expr a) (unbuilt_expr b) h in
        let fs = none_of_four (wants n (operand o) a) (wants n (operand o) b) (faults n a) (faults n b) f in
        both (uses_of a) (uses_of b) (expr_fine a g.0 fs.2) (expr_fine b g.1 fs.3)
    expr_fine (Assign None p a) h f =
        let g = neither (unbuilt_target p) (unbuilt_expr a) h in
        both (uses_at p) (uses_of a) (target_fine p g.0 (none_right _ (place_faults n p) (none_left _ (faults n a) f))) (expr_fine a g.1 (none_right _ (faults n a) f))
    expr_fine (Assign (Some o) p a) h f =
        let g = neither (unbuilt_target p) (unbuilt_expr a) h in
        both (uses_at p) (uses_of a) (target_fine p g.0 (none_right _ (place_faults n p) (none_left _ (faults n a) f))) (expr_fine a g.1 (none_right _ (faults n a) f))

    exprs_fine : (es : EflExprs) → unbuilt_exprs es ≡ false → faults_of_all n es ≡ [] → AreFine (uses_of_all es)
    exprs_fine NoExpr h f = tt
    exprs_fine (AndExpr e es) h f =
        let g = neither (unbuilt_expr e) (unbuilt_exprs es) h in
        both (uses_of e) (uses_of_all es) (expr_fine e g.0 (none_left (faults n e) (faults_of_all n es) f)) (exprs_fine es g.1 (none_right (faults n e) (faults_of_all n es) f))

    place_fine : (p : EflPlace) → unbuilt_place p ≡ false → place_faults n p ≡ [] → AreFine (uses_at p)
    place_fine (Path x es NoStep) h f =
        let g = neither (unbuilt_exprs es) (not (ends NoStep)) h in
        let fs = none_left _ (step_faults n (named_type n x es) NoStep) f in
        let first = none_left (name_faults n x es) _ (none_left _ (faults_of_all n es) fs) in
        (name_fine x es first, both (uses_of_all es) [] (exprs_fine es g.0 (none_right _ (faults_of_all n es) fs)) tt)
    place_fine (Path x es (Member y fs rest)) h f = absurd (true≢false (neither (unbuilt_exprs es) (not (ends (Member y fs rest))) h).1)
    place_fine (Path x es (Overlay y rest)) h f = absurd (true≢false (neither (unbuilt_exprs es) (not (ends (Overlay y rest))) h).1)

  -- ---- acts and values ----

  pub value_fine : (k : Kind) (e : EflExpr) → unbuilt_expr e ≡ false → value_faults n k e ≡ [] → AreFine (uses_of e)
  value_fine k e h f = expr_fine e h (none_right (wants n k e) (faults n e) f)

  value_if_fine : (k : Kind) (o : Option EflExpr) → unbuilt_if_any o ≡ false → value_if n k o ≡ [] → AreFine (uses_if o)
  value_if_fine k None h f = tt
  value_if_fine k (Some e) h f = value_fine k e h f

  act_fine : (e : EflExpr) → unbuilt_expr e ≡ false → act_faults n e ≡ [] → AreFine (uses_of e)
  act_fine (Call x es) h f = (tt, exprs_fine es h (none_right _ (faults_of_all n es) f))
  act_fine e h f = expr_fine e h f

  act_if_fine : (o : Option EflExpr) → unbuilt_if_any o ≡ false → act_if n o ≡ [] → AreFine (uses_if o)
  act_if_fine None h f = tt
  act_if_fine (Some e) h f = act_fine e h f

  return_fine : (o : Option EflExpr) → unbuilt_if_any o ≡ false → return_faults n o ≡ [] → AreFine (uses_if o)
  return_fine None h f = tt
  return_fine (Some e) h f = expr_fine e h (none_right (returns n n.result e) (faults n e) f)

  -- ---- items ----

  written_fine : (i : WriteItem) → unbuilt_written i ≡ false → written_faults n i ≡ [] → AreFine (uses_written i)
  written_fine (Value e k) h f = value_fine (edited k) e (neither (unbuilt_expr e) (unbuilt_edit k) h).0 f
  written_fine (efl.WriteItem.Skip z) h f = tt
  written_fine (Chars x) h f = tt

  all_written_fine : (xs : List WriteItem) → list_any unbuilt_written xs ≡ false → flat_map (written_faults n) xs ≡ [] → AreFine (flat_map uses_written xs)
  all_written_fine [] h f = tt
  all_written_fine (i ∷ xs) h f =
      let g = neither (unbuilt_written i) (list_any unbuilt_written xs) h in
      let rest = flat_map (written_faults n) xs in
      both (uses_written i) (flat_map uses_written xs) (written_fine i g.0 (none_left (written_faults n i) rest f)) (all_written_fine xs g.1 (none_right (written_faults n i) rest f))

  read_fine : (i : ReadItem) → unbuilt_read i ≡ false → read_faults n i ≡ [] → AreFine (uses_read i)
  read_fine (Take p k) h f = target_fine p (neither (unbuilt_target p) (unbuilt_edit k) h).0 (none_right (store_wants n (edited k) p) (place_faults n p) f)
  read_fine (efl.ReadItem.Skip z) h f = tt

  all_read_fine : (xs : List ReadItem) → list_any unbuilt_read xs ≡ false → flat_map (read_faults n) xs ≡ [] → AreFine (flat_map uses_read xs)
  all_read_fine [] h f = tt
  all_read_fine (i ∷ xs) h f =
      let g = neither (unbuilt_read i) (list_any unbuilt_read xs) h in
      let rest = flat_map (read_faults n) xs in
      both (uses_read i) (flat_map uses_read xs) (read_fine i g.0 (none_left (read_faults n i) rest f)) (all_read_fine xs g.1 (none_right (read_faults n i) rest f))

  -- ---- statements ----

  pub statement_fine : (k : EflKind) → unbuilt_by k ≡ false → statement_faults n k ≡ [] → AreFine (uses_by k)
  statement_fine Empty h f = tt
  statement_fine (Block ds ss) h f = tt
  statement_fine (Act e) h f = act_fine e h f
  statement_fine (If e s) h f = value_fine kinds.Logical e h f
  statement_fine (IfElse e s t) h f = value_fine kinds.Logical e h f
  statement_fine (While e s) h f = value_fine kinds.Logical e h f
  statement_fine (For a e b s) h f =
      let g = neither (unbuilt_if_any a) (unbuilt_if_any e || unbuilt_if_any b) h in
      let k = neither (unbuilt_if_any e) (unbuilt_if_any b) g.1 in
      let fs = none_of_three (act_if n a) (value_if n kinds.Logical e) (act_if n b) f in
      both (uses_if a) (uses_if e ++ uses_if b) (act_if_fine a g.0 fs.0) (both (uses_if e) (uses_if b) (value_if_fine kinds.Logical e k.0 fs.1) (act_if_fine b k.1 fs.2))
  statement_fine (Repeat s) h f = tt
  statement_fine (RepeatUntil s e p) h f = tt
  statement_fine (Do x a b c s) h f =
      let g = neither (unbuilt_expr a) (unbuilt_expr b || unbuilt_if_any c) h in
      let k = neither (unbuilt_expr b) (unbuilt_if_any c) g.1 in
      let fs = none_of_five _ (variable_faults n x) (value_faults n kinds.Integer a) (value_faults n kinds.Integer b) (value_if n kinds.Integer c) f in (
        fs.1,
        both (uses_of a) (uses_of b ++ uses_if c) (value_fine kinds.Integer a g.0 fs.2) (both (uses_of b) (uses_if c) (value_fine kinds.Integer b k.0 fs.3) (value_if_fine kinds.Integer c k.1 fs.4)),
      )
  statement_fine (Switch e cs) h f = value_fine kinds.Integer e h f
  statement_fine (Break i o) h f = tt
  statement_fine (Next i o) h f = tt
  statement_fine (Return e) h f = return_fine e h f
  statement_fine (Goto l) h f = tt
  statement_fine (Write e xs) h f =
      let g = neither (unbuilt_if_any e) (list_any unbuilt_written xs) h in
      let fs = none_of_three (value_if n kinds.Integer e) (flat_map (written_faults n) xs) _ f in
      both (uses_if e) (flat_map uses_written xs) (value_if_fine kinds.Integer e g.0 fs.0) (all_written_fine xs g.1 fs.1)
  statement_fine (Read e xs) h f =
      let g = neither (unbuilt_if_any e) (list_any unbuilt_read xs) h in
      let fs = none_of_three (value_if n kinds.Integer e) (flat_map (read_faults n) xs) _ f in
      both (uses_if e) (flat_map uses_read xs) (value_if_fine kinds.Integer e g.0 fs.0) (all_read_fine xs g.1 fs.1)
