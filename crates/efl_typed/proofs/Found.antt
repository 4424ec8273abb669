-- Where no part of a statement breaks a rule of labels or loops, and its calls go down, its typed statement has where to go.
use Rattle.std.proofs.Common.{◌≡◌, ℕ, ◌+◌, Bool, true, false, List, [], ◌∷◌, ◌++◌, Some, subst, sym}
use Rattle.std.specs.Prelude.{◌⊎◌, ℤ, ◌||◌, flat_map, filter_map, option_map, unwrap_or}
use Rattle.std.specs.List.{slice_get}
use Rattle.ground.specs.declared.place.Place.{Place}
use Rattle.efl_tree.specs.declared.statement.LoopKind.{LoopKind}
use Rattle.efl_tree.specs.declared.statement.LoopKind.TheVariants as loops
use Rattle.efl_tree.specs.Syntax.{Text, EflStmt, Statement, EflKind, Empty, Block, Act, If, IfElse, While, For, Repeat, RepeatUntil, Do, Switch, Break, Next, Return, Goto, Write, Read, EflStmts, NoStmt, AndStmt, EflCases, NoCase, AndCase, EflProcedure}
use Rattle.efl_scope.specs.Parts.{States, Until, Part, Around, part, into, in_loop, in_list, opening, opened, declarations_in, parts_of, parts_within, parts_in, clauses_in}
use Rattle.efl_scope.specs.ScopeRules.{holds, misses_label, misses_loop}
use Rattle.efl_scope.specs.Uses.{uses_in, uses_of, uses_if, uses_written, uses_read, uses_by}
use Rattle.efl_scope.specs.Marks.{Located}
use Rattle.efl_types.specs.Whole.{called_by, called_in}
use Rattle.efl_program.specs.Typed.{Stmt}
use Rattle.efl_program.specs.Meaning.{stands}
use Rattle.efl_program.specs.Scoped.{Scoped, AllScoped, ClausesScoped}
use Rattle.efl_typed.specs.Typing.{Context, stmt_of, kind_of, labelled, stmts_from, clauses_from, context_in, base_names}
use Rattle.efl_typed.proofs.Each.{Each, each_left, each_right, each_filtered}
use Rattle.efl_typed.proofs.FoundLemmas.{denied, break_found, next_found, label_found}
use Rattle.efl_typed.proofs.CallLemmas.{Goes, expr_down, act_down, expr_if_down, act_if_down, items_down, taken_down}

-- the labels of the lists around are those of which R holds
abbrev pub Reach : List Text → (Text → Type 0) → Type 0
Reach ls R = (l : Text) → holds ls l ≡ true → R l

behind_labels : (D : ℕ → Type 0) (ls : List Text) (p : Place) (s : Stmt) (ks : List LoopKind) (R : Text → Type 0) → Scoped D s ks R → Scoped D (labelled ls p s) ks R
behind_labels D [] p s ks R h = h
behind_labels D (l ∷ ls) p s ks R h = behind_labels D ls p s ks R h

-- a part's jump reaches its label, its `break` or `next` has its loop, and its calls go down by E
pub record Finds (us : List EflProcedure) (E : ℕ → ℕ → Type 0) (v : Part) : Type 0 where
  pub label : misses_label v.around.labels v.form ≡ false
  pub loop : misses_loop v.around.loops v.form ≡ false
  pub calls : Each (E v.around.unit) (called_in us v)

-- the procedures, their variables, and one of them
module _ (us : List EflProcedure) (xs : List Located) (n : ℕ) (u : EflProcedure) (here : slice_get us n ≡ Some u) (E : ℕ → ℕ → Type 0) where
  abbrev D : ℕ → Type 0
  D = E n

  abbrev pub at : Around → Context
  at a = context_in us xs (base_names us u) a

  abbrev pub AllFind : List Part → Type 0
  AllFind vs = Each (Finds us E) vs

  uses_go : (v : Part) → v.around.unit ≡ n → Finds us E v → Each (Goes D (at v.around)) (uses_in v.form)
  uses_go v same f =
      let chosen : slice_get us v.around.unit ≡ Some u = subst (λ m. slice_get us m ≡ Some u) (sym same) here in
      each_filtered D (called_by us (at v.around).names) (uses_in v.form)
      (subst (λ o. Each D (unwrap_or (option_map (λ w. filter_map (called_by us (record (base_names us w) { blocks = v.around.blocks })) (uses_in v.form)) o) [])) chosen (subst (λ m. Each (E m) (called_in us v)) same f.calls))

  mutual
    pub stmt_scoped : (a : Around) → a.unit ≡ n → (s : EflStmt) (R : Text → Type 0) → AllFind (parts_of a s) → Reach a.labels R → Scoped D (stmt_of (at a) s) a.loops R
    stmt_scoped a same (Statement ls p k) R h f =
        behind_labels D ls p (kind_of (at a) p k) a.loops R (kind_scoped a same ls p k R h.0 (uses_go (part a p (States ls k)) same h.0) h.1 f)

    kind_scoped : (a : Around) → a.unit ≡ n → (ls : List Text) (p : Place) (k : EflKind) (R : Text → Type 0) →
        Finds us E (part a p (States ls k)) → Each (Goes D (at a)) (uses_by k) → AllFind (parts_within a k) → Reach a.labels R → Scoped D (kind_of (at a) p k) a.loops R
    kind_scoped a same ls p Empty R own g h f = tt
    kind_scoped a same ls p (Block ds ss) R own g h f =
        let e = in_list ss (opened ds a) in
        stmts_scoped 0 e same ss (λ l. (stands l (stmts_from 0 (at e) ss) ≡ true) ⊎ R l)
        (each_right (Finds us E) (declarations_in (opening ds a) [] ds) (parts_in 0 e ss) h) (λ l. label_found 0 (at e) l ss a.labels R f)
    kind_scoped a same ls p (Act e) R own g h f = act_down D (at a) e g
    kind_scoped a same ls p (If e s) R own g h f = (expr_down D (at a) e g, stmt_scoped a same s R h f)
    kind_scoped a same ls p (IfElse e s t) R own g h f = (
      expr_down D (at a) e g,
      stmt_scoped (into 0 a) same s R (each_left (Finds us E) (parts_of (into 0 a) s) (parts_of (into 1 a) t) h) f,
      stmt_scoped (into 1 a) same t R (each_right (Finds us E) (parts_of (into 0 a) s) (parts_of (into 1 a) t) h) f,
    )
    kind_scoped a same ls p (While e s) R own g h f = (expr_down D (at a) e g, stmt_scoped (in_loop loops.While a) same s R h f)
    kind_scoped a same ls p (For b e d s) R own g h f =
        let rest = each_right (Goes D (at a)) (uses_if b) (uses_if e ++ uses_if d) g in (
          act_if_down D (at a) b (each_left (Goes D (at a)) (uses_if b) (uses_if e ++ uses_if d) g),
          expr_if_down D (at a) e (each_left (Goes D (at a)) (uses_if e) (uses_if d) rest),
          act_if_down D (at a) d (each_right (Goes D (at a)) (uses_if e) (uses_if d) rest),
          stmt_scoped (in_loop loops.For a) same s R h f,
        )
    kind_scoped a same ls p (Repeat s) R own g h f = stmt_scoped (in_loop loops.Repeat a) same s R h f
    kind_scoped a same ls p (RepeatUntil s e q) R own g h f =
        let last = each_right (Finds us E) (parts_of (in_loop loops.Repeat a) s) (part a q (Until e) ∷ []) h in (
          expr_down D (at a) e (uses_go (part a q (Until e)) same last.0),
          stmt_scoped (in_loop loops.Repeat a) same s R (each_left (Finds us E) (parts_of (in_loop loops.Repeat a) s) (part a q (Until e) ∷ []) h) f,
        )
    kind_scoped a same ls p (Do x b e d s) R own g h f =
        let rest = each_right (Goes D (at a)) (uses_of b) (uses_of e ++ uses_if d) g.1 in (
          expr_down D (at a) b (each_left (Goes D (at a)) (uses_of b) (uses_of e ++ uses_if d) g.1),
          expr_down D (at a) e (each_left (Goes D (at a)) (uses_of e) (uses_if d) rest),
          expr_if_down D (at a) d (each_right (Goes D (at a)) (uses_of e) (uses_if d) rest),
          stmt_scoped (in_loop loops.Do a) same s R h f,
        )
    kind_scoped a same ls p (Switch e cs) R own g h f = (expr_down D (at a) e g, clauses_scoped 0 (in_loop loops.Switch a) same [] false cs R h f)
    kind_scoped a same ls p (Break m o) R own g h f = break_found o a.loops m own.loop
    kind_scoped a same ls p (Next m o) R own g h f = next_found o a.loops m own.loop
    kind_scoped a same ls p (Return e) R own g h f = expr_if_down D (at a) e g
    kind_scoped a same ls p (Goto l) R own g h f = f l (denied (holds a.labels l) own.label)
    kind_scoped a same ls p (Write e is') R own g h f =
        (expr_if_down D (at a) e (each_left (Goes D (at a)) (uses_if e) (flat_map uses_written is') g), items_down D (at a) is' (each_right (Goes D (at a)) (uses_if e) (flat_map uses_written is') g))
    kind_scoped a same ls p (Read e is') R own g h f =
        (expr_if_down D (at a) e (each_left (Goes D (at a)) (uses_if e) (flat_map uses_read is') g), taken_down D (at a) is' (each_right (Goes D (at a)) (uses_if e) (flat_map uses_read is') g))

    pub stmts_scoped : (m : ℕ) (a : Around) → a.unit ≡ n → (ss : EflStmts) (R : Text → Type 0) → AllFind (parts_in m a ss) → Reach a.labels R → AllScoped D (stmts_from m (at a) ss) a.loops R
    stmts_scoped m a same NoStmt R h f = tt
    stmts_scoped m a same (AndStmt s ss) R h f = (
      stmt_scoped (into m a) same s R (each_left (Finds us E) (parts_of (into m a) s) (parts_in (m + 1) a ss) h) f,
      stmts_scoped (m + 1) a same ss R (each_right (Finds us E) (parts_of (into m a) s) (parts_in (m + 1) a ss) h) f,
    )

    clauses_scoped : (m : ℕ) (a : Around) → a.unit ≡ n → (zs : List ℤ) (seen : Bool) (cs : EflCases) (R : Text → Type 0) →
        AllFind (clauses_in m a zs seen cs) → Reach a.labels R → ClausesScoped D (clauses_from m (at a) cs) a.loops R
    clauses_scoped m a same zs seen NoCase R h f = tt
    clauses_scoped m a same zs seen (AndCase es fallback ss p cs) R h f =
        let e = in_list ss (into m a) in let rest = clauses_in (m + 1) a (zs ++ es) (seen || fallback) cs in (
          stmts_scoped 0 e same ss (λ l. (stands l (stmts_from 0 (at e) ss) ≡ true) ⊎ R l) (each_left (Finds us E) (parts_in 0 e ss) rest h.1) (λ l. label_found 0 (at e) l ss a.labels R f),
          clauses_scoped (m + 1) a same (zs ++ es) (seen || fallback) cs R (each_right (Finds us E) (parts_in 0 e ss) rest h.1) f,
        )
