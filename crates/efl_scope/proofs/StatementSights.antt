-- What a walk sees of statements and of a procedure is what it notes of their parts.
use Rattle.std.proofs.Common.{◌≡◌, ℕ, ◌+◌, ℤ, Bool, false, ◌||◌, List, [], ◌∷◌, ◌++◌, Option, Some, None, refl, sym, ap, ◌∙◌}
use Rattle.std.specs.Str.{bytes_eq}
use Rattle.std.proofs.lemmas.List.Folds.{list_any-append}
use Rattle.efl_tree.specs.declared.statement.LoopKind.TheVariants as loops
use Rattle.efl_tree.specs.Syntax.{Text, EflType, EflDecl, EflStmt, Statement, EflKind, Empty, Block, Act, If, IfElse, While, For, Repeat, RepeatUntil, Do, Switch, Break, Next, Return, Goto, Write, Read, EflStmts, NoStmt, AndStmt, EflCases, NoCase, AndCase, EflProcedure}
use Rattle.efl_scope.specs.Scopes.{entering, outer, behind_all}
use Rattle.efl_scope.specs.Parts.{Around, part, Header, States, Until, Chooses, among, into, in_loop, labels_in, in_list, opening, opened, declarations_in, parts_of, parts_within, parts_in, clauses_in, header_type_groups, around_unit, parts_by}
use Rattle.efl_scope.specs.ScopeRules.{Names, no_name, holds, is_structure}
use Rattle.efl_scope.specs.Sights.{with_names, either, nothing_declared, declaring_all, Walk, starting, declarations_seen, opening_seen, hiding, Setting, labels_of, reaching, knowing, statement_seen, within_seen, statements_seen, clauses_seen, header_type_seen, body_seen, procedure_seen}
use Rattle.efl_scope.proofs.NameLemmas.{or_swap, or_false, or_assoc, with_names-holds, declaring_all-names}
use Rattle.efl_scope.proofs.BlockLemmas.{entering-known, outer-known}
use Rattle.efl_scope.proofs.PartLemmas.{note_part, noting_all, noting-append, statement_noted, until_noted, clause_noted, header_noted}
use Rattle.efl_scope.proofs.TypeSights.{sight, once, type_seen-parts}
use Rattle.efl_scope.proofs.DeclarationSights.{declarations_seen-parts}

-- what is around a part
abbrev pub setting : Around → Setting
setting a = record { known = is_structure a.blocks; reach = holds a.labels; loops = a.loops }

-- ---- labels in reach ----

labels-holds : (ss : EflStmts) (ns : Names) (y : Text) → labels_of ss ns y ≡ (holds (labels_in ss) y || ns y)
labels-holds NoStmt ns y = refl
labels-holds (AndStmt (Statement ls p k) ss) ns y =
    labels-holds ss (with_names ls ns) y ∙ ap (λ b. holds (labels_in ss) y || b) (with_names-holds ls ns y)
    ∙ or_swap (holds (labels_in ss) y) (holds ls y) (ns y) ∙ or_assoc (holds ls y) (holds (labels_in ss) y) (ns y)
    ∙ ap (λ b. b || ns y) (sym (list_any-append (bytes_eq y) ls (labels_in ss)))

reach_in : (ss : EflStmts) (ls : List Text) → either (labels_of ss no_name) (holds ls) ≡ holds (labels_in ss ++ ls)
reach_in ss ls i y =
    (ap (λ b. b || holds ls y) (labels-holds ss no_name y ∙ or_false (holds (labels_in ss) y)) ∙ sym (list_any-append (bytes_eq y) (labels_in ss) ls)) i

reaching_in : (ss : EflStmts) (a : Around) → reaching ss (setting a) ≡ setting (in_list ss a)
reaching_in ss a = ap (λ r. record { known = is_structure a.blocks; reach = r; loops = a.loops }) (reach_in ss a.labels)

module _ (agreeing : Names) where
  block_seen : (ds : List EflDecl) (a : Around) (w : Walk) →
      (declarations_seen agreeing no_name ds (opening_seen (hiding ds (is_structure a.blocks)) w)).sight
      ≡ sight (behind_all (entering a.position ds a.blocks) ds) (noting_all agreeing (declarations_in (opening ds a) [] ds) w)
  block_seen ds a w =
      ap (λ known. (declarations_seen agreeing no_name ds (opening_seen known w)).sight) (sym (entering-known a.position ds a.blocks))
      ∙ declarations_seen-parts agreeing no_name ds (opening ds a) [] nothing_declared w refl refl refl

  mutual
    pub statement_seen-parts : (s : EflStmt) (a : Around) (w : Walk) → statement_seen agreeing (setting a) s w ≡ noting_all agreeing (parts_of a s) w
    statement_seen-parts (Statement ls p k) a w =
        ap (within_seen agreeing (setting a) k) (sym (statement_noted agreeing a p w ls k)) ∙ within_seen-parts k a (note_part agreeing (part a p (States ls k)) w)

    pub within_seen-parts : (k : EflKind) (a : Around) (w : Walk) → within_seen agreeing (setting a) k w ≡ noting_all agreeing (parts_within a k) w
    within_seen-parts Empty a w = refl
    within_seen-parts (Block ds ss) a w =
        let inside = in_list ss (opened ds a) in
        let w1 = noting_all agreeing (declarations_in (opening ds a) [] ds) w in
        ap (λ s. statements_seen agreeing (reaching ss (knowing s.known (setting a))) ss s.walk) (block_seen ds a w)
        ∙ ap (λ x. statements_seen agreeing x ss w1) (reaching_in ss (opened ds a))
        ∙ statements_seen-parts ss 0 inside w1
        ∙ sym (noting-append agreeing (declarations_in (opening ds a) [] ds) (parts_in 0 inside ss) w)
    within_seen-parts (Act e) a w = refl
    within_seen-parts (If e s) a w = statement_seen-parts s a w
    within_seen-parts (IfElse e s t) a w =
        ap (statement_seen agreeing (setting a) t) (statement_seen-parts s (into 0 a) w)
        ∙ statement_seen-parts t (into 1 a) (noting_all agreeing (parts_of (into 0 a) s) w)
        ∙ sym (noting-append agreeing (parts_of (into 0 a) s) (parts_of (into 1 a) t) w)
    within_seen-parts (While e s) a w = statement_seen-parts s (in_loop loops.While a) w
    within_seen-parts (For b e c s) a w = statement_seen-parts s (in_loop loops.For a) w
    within_seen-parts (Repeat s) a w = statement_seen-parts s (in_loop loops.Repeat a) w
    within_seen-parts (RepeatUntil s e p) a w =
        let inside = parts_of (in_loop loops.Repeat a) s in
        sym (until_noted agreeing a p (statement_seen agreeing (setting (in_loop loops.Repeat a)) s w) e)
        ∙ ap (note_part agreeing (part a p (Until e))) (statement_seen-parts s (in_loop loops.Repeat a) w)
        ∙ sym (noting-append agreeing inside (part a p (Until e) ∷ []) w)
    within_seen-parts (Do x b c d s) a w = statement_seen-parts s (in_loop loops.Do a) w
    within_seen-parts (Switch e cs) a w = clauses_seen-parts cs 0 (in_loop loops.Switch a) [] false w
    within_seen-parts (Break n o) a w = refl
    within_seen-parts (Next n o) a w = refl
    within_seen-parts (Return e) a w = refl
    within_seen-parts (Goto l) a w = refl
    within_seen-parts (Write e is') a w = refl
    within_seen-parts (Read e is') a w = refl

    pub statements_seen-parts : (ss : EflStmts) (n : ℕ) (a : Around) (w : Walk) → statements_seen agreeing (setting a) ss w ≡ noting_all agreeing (parts_in n a ss) w
    statements_seen-parts NoStmt n a w = refl
    statements_seen-parts (AndStmt s ss) n a w =
        ap (statements_seen agreeing (setting a) ss) (statement_seen-parts s (into n a) w)
        ∙ statements_seen-parts ss (n + 1) a (noting_all agreeing (parts_of (into n a) s) w)
        ∙ sym (noting-append agreeing (parts_of (into n a) s) (parts_in (n + 1) a ss) w)

    pub clauses_seen-parts : (cs : EflCases) (n : ℕ) (a : Around) (zs : List ℤ) (seen : Bool) (w : Walk) →
        clauses_seen agreeing (setting a) cs w ≡ noting_all agreeing (clauses_in n a zs seen cs) w
    clauses_seen-parts NoCase n a zs seen w = refl
    clauses_seen-parts (AndCase es fallback ss p cs) n a zs seen w =
        let inside = parts_in 0 (in_list ss (into n a)) ss in
        let w1 = note_part agreeing (part a p (Chooses es fallback zs seen)) w in
        ap (λ v. clauses_seen agreeing (setting a) cs (statements_seen agreeing (reaching ss (setting a)) ss v)) (sym (clause_noted agreeing a p w es fallback zs seen))
        ∙ ap (λ x. clauses_seen agreeing (setting a) cs (statements_seen agreeing x ss w1)) (reaching_in ss (into n a))
        ∙ ap (clauses_seen agreeing (setting a) cs) (statements_seen-parts ss 0 (in_list ss (into n a)) w1)
        ∙ clauses_seen-parts cs (n + 1) a (zs ++ es) (seen || fallback) (noting_all agreeing inside w1)
        ∙ sym (noting-append agreeing inside (clauses_in (n + 1) a (zs ++ es) (seen || fallback) cs) w1)

  -- ---- procedures ----

  header_seen : (o : Option EflType) (a : Around) (w : Walk) → header_type_seen o w ≡ noting_all agreeing (header_type_groups a o) w
  header_seen None a w = refl
  header_seen (Some t) a w = ap (λ s. s.walk) (type_seen-parts agreeing t (among [] a) w)

  pub procedure_seen-parts : (n : ℕ) (u : EflProcedure) → procedure_seen agreeing u ≡ noting_all agreeing (parts_by n u) starting
  procedure_seen-parts n u =
      let a = around_unit n u in
      let f = declaring_all no_name u.formals nothing_declared in
      let out = either f.names no_name in
      let w1 = note_part agreeing (part a u.place (Header u.result u.formals)) starting in
      let w2 = noting_all agreeing (header_type_groups a u.result) w1 in
      let w3 = noting_all agreeing (declarations_in a [] u.declarations) w2 in
      ap (λ v. body_seen agreeing u.body (declarations_seen agreeing out u.declarations (opening_seen no_name (header_type_seen u.result v))))
      (sym (header_noted agreeing a u.place starting u.result u.formals f.again (sym (once no_name u.formals [] no_name (λ y. refl)))))
      ∙ ap (λ v. body_seen agreeing u.body (declarations_seen agreeing out u.declarations (opening_seen no_name v))) (header_seen u.result a w1)
      ∙ ap (λ known. body_seen agreeing u.body (declarations_seen agreeing out u.declarations (opening_seen known w2))) (sym (outer-known u))
      ∙ ap (λ s. statements_seen agreeing (reaching u.body (record { known = s.known; reach = no_name; loops = [] })) u.body s.walk)
      (declarations_seen-parts agreeing out u.declarations a [] nothing_declared w2 (formals_are u.formals) refl refl)
      ∙ ap (λ r. statements_seen agreeing (record { known = is_structure (behind_all (outer u) u.declarations); reach = r; loops = [] }) u.body w3) (own_labels u.body)
      ∙ statements_seen-parts u.body 0 (among (behind_all (outer u) u.declarations) a) w3
      ∙ ap (noting_all agreeing (parts_in 0 (among (behind_all (outer u) u.declarations) a) u.body)) (sym (noting-append agreeing (header_type_groups a u.result) (declarations_in a [] u.declarations) w1))
      ∙ sym (noting-append agreeing (header_type_groups a u.result ++ declarations_in a [] u.declarations) (parts_in 0 (among (behind_all (outer u) u.declarations) a) u.body) w1)
    where
      formals_are : (fs : List Text) → holds fs ≡ either (declaring_all no_name fs nothing_declared).names no_name
      formals_are fs i y =
          sym (or_false ((declaring_all no_name fs nothing_declared).names y) ∙ ap (λ ns. ns y) (declaring_all-names no_name fs nothing_declared)
          ∙ with_names-holds fs no_name y ∙ or_false (holds fs y)) i

      own_labels : (ss : EflStmts) → either (labels_of ss no_name) no_name ≡ holds (labels_in ss)
      own_labels ss i y = (or_false (labels_of ss no_name y) ∙ labels-holds ss no_name y ∙ or_false (holds (labels_in ss) y)) i
