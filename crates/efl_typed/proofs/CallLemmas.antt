-- The procedures that an expression of the typed tree calls are those that the names of the text call.
use Rattle.std.proofs.Common.{◌≡◌, ℕ, Bool, true, false, List, [], ◌∷◌, Option, Some, None, refl, sym, true≢false}
use Rattle.std.specs.Prelude.{map, option_map, flat_map}
use Rattle.efl_tree.specs.Syntax as efl
use Rattle.efl_tree.specs.Syntax.{Text, EflExpr, EflExprs, EflPlace, Path, EflSteps}
use Rattle.efl_scope.specs.DataTypes.{DataType}
use Rattle.efl_scope.specs.Scopes.{structured, shape_named}
use Rattle.efl_scope.specs.Uses.{Use, uses_of, uses_of_all, uses_at, uses_behind, uses_if, uses_written, uses_read}
use Rattle.efl_types.specs.Signatures.{many}
use Rattle.efl_types.specs.Types.{subscripted, member_type, named_type, is_target_call}
use Rattle.efl_types.specs.Whole.{called_by}
use Rattle.efl_program.specs.Typed.{Exprs, Site, Member, Overlay, Variable as Whole}
use Rattle.efl_program.specs.Scoped.{Down_in, Down_all, Down_at, Down_act, Down_any, Act_any, Down_items, Down_taken}
use Rattle.efl_typed.specs.Typing.{Context, called, call_of, expr_of, exprs_of, value_at, site_of, site_behind, invoke, action_of, written, taken, sort_of, numbered, variable_named, member_index}
use Rattle.efl_typed.proofs.Each.{Each, OfAny, each_left, each_right}

module _ (D : ℕ → Type 0) (c : Context) where
  -- what a use calls goes down
  abbrev pub Goes : Use → Type 0
  Goes u = OfAny D (called_by c.procedures c.names u)

  call_down : (x : Text) (o : Option ℕ) (es : Exprs) → OfAny D o → Down_all D es → Down_in D (call_of c x o es)
  call_down x None es h k = k
  call_down x (Some n) es h k = (h, k)

  mutual
    pub expr_down : (e : EflExpr) → Each Goes (uses_of e) → Down_in D (expr_of c e)
    expr_down (efl.Int z) h = tt
    expr_down (efl.Truth b) h = tt
    expr_down (efl.At p) h = value_down (is_target_call c.names p) p refl h
    expr_down (efl.Call x es) h = call_down x (called c x) (exprs_of c es) h.0 (exprs_down es h.1)
    expr_down (efl.Group a) h = expr_down a h
    expr_down (efl.Plus a) h = expr_down a h
    expr_down (efl.Minus a) h = expr_down a h
    expr_down (efl.Not a) h = expr_down a h
    expr_down (efl.Up p) h = site_down p h
    expr_down (efl.Down p) h = site_down p h
    expr_down (efl.Pair o a b) h = (expr_down a (each_left Goes (uses_of a) (uses_of b) h), expr_down b (each_right Goes (uses_of a) (uses_of b) h))
    expr_down (efl.Assign o p a) h = (site_down p (each_left Goes (uses_at p) (uses_of a) h), expr_down a (each_right Goes (uses_at p) (uses_of a) h))

    pub exprs_down : (es : EflExprs) → Each Goes (uses_of_all es) → Down_all D (exprs_of c es)
    exprs_down efl.NoExpr h = tt
    exprs_down (efl.AndExpr e es) h = (expr_down e (each_left Goes (uses_of e) (uses_of_all es) h), exprs_down es (each_right Goes (uses_of e) (uses_of_all es) h))

    value_down : (b : Bool) (p : EflPlace) → is_target_call c.names p ≡ b → Each Goes (uses_at p) → Down_in D (value_at c b p)
    value_down true (Path x efl.NoExpr steps) e h = absurd (true≢false (sym e))
    value_down true (Path x (efl.AndExpr a es) steps) e h =
        call_down x (called c x) (exprs_of c (efl.AndExpr a es)) h.0 (exprs_down (efl.AndExpr a es) (each_left Goes (uses_of_all (efl.AndExpr a es)) (uses_behind steps) h.1))
    value_down false (Path x es steps) e h =
        behind_down (Whole (numbered c x) (sort_of (variable_named c x).kind) (exprs_of c es)) (named_type c.names x es) steps
        (exprs_down es (each_left Goes (uses_of_all es) (uses_behind steps) h.1)) (each_right Goes (uses_of_all es) (uses_behind steps) h.1)

    pub site_down : (p : EflPlace) → Each Goes (uses_at p) → Down_at D (site_of c p)
    site_down (Path x es steps) h =
        behind_down (Whole (numbered c x) (sort_of (variable_named c x).kind) (exprs_of c es)) (named_type c.names x es) steps
        (exprs_down es (each_left Goes (uses_of_all es) (uses_behind steps) h.1)) (each_right Goes (uses_of_all es) (uses_behind steps) h.1)

    behind_down : (s : Site) (t : DataType) (steps : EflSteps) → Down_at D s → Each Goes (uses_behind steps) → Down_at D (site_behind c s t steps)
    behind_down s t efl.NoStep k h = k
    behind_down s t (efl.Member x es steps) k h =
        behind_down (Member s (member_index x t) (sort_of (member_type x t)) (exprs_of c es)) (subscripted (member_type x t) (many es)) steps
        (k, exprs_down es (each_left Goes (uses_of_all es) (uses_behind steps) h)) (each_right Goes (uses_of_all es) (uses_behind steps) h)
    behind_down s t (efl.Overlay x steps) k h =
        behind_down (Overlay s (sort_of (structured (shape_named c.names.blocks x)))) (structured (shape_named c.names.blocks x)) steps k h.1

  invoke_down : (o : Option ℕ) (es : Exprs) → OfAny D o → Down_all D es → Down_act D (invoke o es)
  invoke_down None es h k = tt
  invoke_down (Some n) es h k = (h, k)

  pub act_down : (e : EflExpr) → Each Goes (uses_of e) → Down_act D (action_of c e)
  act_down (efl.Call x es) h = invoke_down (called c x) (exprs_of c es) h.0 (exprs_down es h.1)
  act_down e h = expr_down e h

  pub expr_if_down : (o : Option EflExpr) → Each Goes (uses_if o) → Down_any D (option_map (expr_of c) o)
  expr_if_down None h = tt
  expr_if_down (Some e) h = expr_down e h

  pub act_if_down : (o : Option EflExpr) → Each Goes (uses_if o) → Act_any D (option_map (action_of c) o)
  act_if_down None h = tt
  act_if_down (Some e) h = act_down e h

  pub items_down : (xs : List efl.WriteItem) → Each Goes (flat_map uses_written xs) → Down_items D (map (written c) xs)
  items_down [] h = tt
  items_down (efl.Value e f ∷ xs) h = (expr_down e (each_left Goes (uses_of e) (flat_map uses_written xs) h), items_down xs (each_right Goes (uses_of e) (flat_map uses_written xs) h))
  items_down (efl.WriteItem.Skip n ∷ xs) h = items_down xs h
  items_down (efl.Chars x ∷ xs) h = items_down xs h

  pub taken_down : (xs : List efl.ReadItem) → Each Goes (flat_map uses_read xs) → Down_taken D (map (taken c) xs)
  taken_down [] h = tt
  taken_down (efl.Take p f ∷ xs) h = (site_down p (each_left Goes (uses_at p) (flat_map uses_read xs) h), taken_down xs (each_right Goes (uses_at p) (flat_map uses_read xs) h))
  taken_down (efl.ReadItem.Skip n ∷ xs) h = taken_down xs h
