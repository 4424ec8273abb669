-- The names that a unit uses are among those of what it says, and so is its own where it returns a value.
use Rattle.std.proofs.Common.{◌≡◌, ◌∙◌, ◌++◌, ℕ, suc, false, true≢false, List, [], ◌∷◌, map, Option, None, Some, sym, ap, subst}
use Rattle.std.specs.Prelude.{⊤, Bool, ◌||◌}
use Rattle.std.specs.List.{AllByRecursion, slice_get}
use Rattle.ground.specs.declared.place.Place.{Place}
use Rattle.f66_tree.specs.Syntax.{Formula, Formulas, NoFormula, AndFormula, Header, MainUnit, SubUnit, FuncUnit, DataUnit, Act, Line, Routine}
use Rattle.f66_tree.specs.Units.{name_of}
use Rattle.f66_tree.specs.Uses.{Using, NamesBy, NamesOfAllBy, NameOfPar, NamesOfActBy, NamesOfLinesBy}
use Rattle.f66_soundness.proofs.KindLemmas.{some_same}
use Rattle.linked_soundness.proofs.PartLemmas.{all_parts}
use Rattle.renumbering.specs.Bodies.{HasPlaces, InUnit, names_in, WhereReturned, AllWhereReturned, ClausesWhereReturned}
use Rattle.rat_tree.specs.Syntax.{Command, Empty, Block, If, IfElse, While, For, Repeat, RepeatUntil, Do, Switch, Break, Next, Return, Plain, Labelled, Commands, NoCommand, AndCommand, Clauses, NoClause, AndClause}
use Rattle.rat_tree.specs.Uses.{NamesIfAnyBy, ActIfAnyBy, NamesOfCommandBy, NamesOfCommandsBy, NamesOfClausesBy}
use Rattle.rat_check.specs.Parts.{Form, Bare, RepeatHead, Statement, Condition, Selector, CaseList, ForHead, DoHead, LoopExit, ReturnHead, Labels, Part, part, with_labels, with_mark, parts_of, parts_in, clause_parts}
use Rattle.rat_check.specs.Rules.{returns_wrong}
use Rattle.rat_check.specs.Said.{condition_if_any, said_if_any, value_acts, returned_act, said_by}
use Rattle.rat_said.specs.Said.{or_continue, said_line, part_lines, said_lines}
use Rattle.rat_linked.specs.Made.{IsProper}

module _ (U : Using) (P : Type 0) where
  -- the names of a part, and P where it returns a value
  abbrev IsUsed : Form → Type 0
  IsUsed (Statement a) = NamesOfActBy U a
  IsUsed (Condition e) = NamesBy U e
  IsUsed (Selector e) = NamesBy U e
  IsUsed (CaseList es second) = NamesOfAllBy U es
  IsUsed (ForHead a e b) = ActIfAnyBy U a × NamesIfAnyBy U e × ActIfAnyBy U b
  IsUsed (DoHead x a b c) = U.alone x × NameOfPar U.alone a × NameOfPar U.alone b × NameOfPar U.alone c
  IsUsed (ReturnHead None) = ⊤
  IsUsed (ReturnHead (Some e)) = NamesBy U e × P
  IsUsed _ = ⊤

  abbrev IsUsedPart : Part → Type 0
  IsUsedPart v = IsUsed v.form

  abbrev AreUsed : List Part → Type 0
  AreUsed vs = AllByRecursion IsUsedPart vs

  behind_mark : (k : ℕ) (r : Labels) (l : Option ℕ) (p : Place) (vs : List Part) → AreUsed (with_mark k r l p vs) → AreUsed vs
  behind_mark k r None p vs h = h
  behind_mark k r (Some m) p vs h = h.1

  -- ---- the parts of a statement ----

  mutual
    command_used : (c : Command) (k : ℕ) (r : Labels) (l : Option ℕ) → AreUsed (parts_of k r l c) → NamesOfCommandBy U c × WhereReturned P c
    command_used (Empty p) k r l h = (tt, tt)
    command_used (Block p ss) k r l h = commands_used ss k (with_labels ss r) h.1
    command_used (If p e c) k r l h = let b = command_used c k r None h.1 in ((h.0, b.0), b.1)
    command_used (IfElse p e c d) k r l h =
        let both = all_parts IsUsedPart (parts_of k r None c) (parts_of k r None d) h.1 in
        let b = command_used c k r None both.0 in
        let o = command_used d k r None both.1 in
        ((h.0, b.0, o.0), (b.1, o.1))
    command_used (While p e c) k r l h = let b = command_used c (suc k) r None h.1 in ((h.0, b.0), b.1)
    command_used (For p a e s c) k r l h = let b = command_used c (suc k) r None h.1 in ((h.0.0, h.0.1, h.0.2, b.0), b.1)
    command_used (Repeat p c) k r l h = command_used c (suc k) r None h.1
    command_used (RepeatUntil p c e q) k r l h =
        let both = all_parts IsUsedPart (parts_of (suc k) r None c) (part k r None q (Condition e) ∷ []) h.1 in
        let b = command_used c (suc k) r None both.0 in
        ((b.0, both.1.0), b.1)
    command_used (Do p x a z d c) k r l h = let b = command_used c (suc k) r None h.1 in ((h.0.0, h.0.1, h.0.2, h.0.3, b.0), b.1)
    command_used (Switch p e cs) k r l h = let b = clauses_used cs k r false h.1 in ((h.0, b.0), b.1)
    command_used (Break p n) k r l h = (tt, tt)
    command_used (Next p n) k r l h = (tt, tt)
    command_used (Return p None) k r l h = (tt, tt)
    command_used (Return p (Some e)) k r l h = (h.0.0, h.0.1)
    command_used (Plain m p a) k r l h = ((behind_mark k r l p (part k r m p (Statement a) ∷ []) h).0, tt)
    command_used (Labelled m p c) k r l h = command_used c k r (Some m) (behind_mark k r l p (parts_of k r (Some m) c) h)

    pub commands_used : (ss : Commands) (k : ℕ) (r : Labels) → AreUsed (parts_in k r ss) → NamesOfCommandsBy U ss × AllWhereReturned P ss
    commands_used NoCommand k r h = (tt, tt)
    commands_used (AndCommand c ss) k r h =
        let both = all_parts IsUsedPart (parts_of k r None c) (parts_in k r ss) h in
        let b = command_used c k r None both.0 in
        let o = commands_used ss k r both.1 in
        ((b.0, o.0), (b.1, o.1))

    clauses_used : (cs : Clauses) (k : ℕ) (r : Labels) (seen : Bool) → AreUsed (clause_parts k r seen cs) → NamesOfClausesBy U cs × ClausesWhereReturned P cs
    clauses_used NoClause k r seen h = (tt, tt)
    clauses_used (AndClause es fallback ss p cs) k r seen h =
        let both = all_parts IsUsedPart (parts_in k (with_labels ss r) ss) (clause_parts k r (seen || fallback) cs) h.1 in
        let b = commands_used ss k (with_labels ss r) both.0 in
        let o = clauses_used cs k r (seen || fallback) both.1 in
        ((h.0, b.0, o.0), (b.1, o.1))

  -- ---- the lines that a part says ----

  abbrev Acts : List Act → Type 0
  Acts acts = AllByRecursion (NamesOfActBy U) acts

  lines_both : (xs ys : List Line) → NamesOfLinesBy U (xs ++ ys) → NamesOfLinesBy U xs × NamesOfLinesBy U ys
  lines_both [] ys h = (tt, h)
  lines_both (x ∷ xs) ys h = let k = lines_both xs ys h.1 in ((h.0, k.0), k.1)

  line_acts : (v : Part) (acts : List Act) → NamesOfLinesBy U (map (said_line v) acts) → Acts acts
  line_acts v [] h = tt
  line_acts v (a ∷ acts) h = (h.0, line_acts v acts h.1)

  but_continue : (acts : List Act) → Acts (or_continue acts) → Acts acts
  but_continue [] h = tt
  but_continue (a ∷ acts) h = h

  values_used : (es : Formulas) → Acts (value_acts es) → NamesOfAllBy U es
  values_used NoFormula h = tt
  values_used (AndFormula e es) h = (h.0, values_used es h.1)

  act_used : (o : Option Act) → Acts (said_if_any o) → ActIfAnyBy U o
  act_used None h = tt
  act_used (Some a) h = h.0

  condition_used : (o : Option Formula) → Acts (condition_if_any o) → NamesIfAnyBy U o
  condition_used None h = tt
  condition_used (Some e) h = h.0.0

  module _ (own : Header) (value : (e : Formula) → returns_wrong own (ReturnHead (Some e)) ≡ false → NamesOfActBy U (returned_act own e) → NamesBy U e × P) where
    form_used : (form : Form) → returns_wrong own form ≡ false → Acts (said_by own form) → IsUsed form
    form_used Bare w h = tt
    form_used RepeatHead w h = tt
    form_used (Statement a) w h = h.0
    form_used (Condition e) w h = h.0.0
    form_used (Selector e) w h = h.0
    form_used (CaseList es second) w h = values_used es h
    form_used (ForHead a e b) w h =
        let first = all_parts (NamesOfActBy U) (said_if_any a) (condition_if_any e ++ said_if_any b) h in
        let rest = all_parts (NamesOfActBy U) (condition_if_any e) (said_if_any b) first.1 in
        (act_used a first.0, condition_used e rest.0, act_used b rest.1)
    form_used (DoHead x a b c) w h = h.0
    form_used (LoopExit k) w h = tt
    form_used (ReturnHead None) w h = tt
    form_used (ReturnHead (Some e)) w h = value e w h.0

    pub parts_used : (vs : List Part) → AllByRecursion (IsProper own) vs → NamesOfLinesBy U (said_lines own vs) → AreUsed vs
    parts_used [] w h = tt
    parts_used (v ∷ vs) w h =
        let k = lines_both (part_lines own v) (said_lines own vs) h in
        (form_used v.form w.0.returned (but_continue (said_by own v.form) (line_acts v (or_continue (said_by own v.form)) k.0)), parts_used vs w.1 k.1)

-- only a function returns a value, whose own name has places then
pub returned_own : (rs : List Routine) (u : ℕ) (r : Routine) → slice_get rs u ≡ Some r → (own : Header) → r.header ≡ own → (e : Formula) → returns_wrong own (ReturnHead (Some e)) ≡ false →
    NamesOfActBy (names_in rs u) (returned_act own e) → NamesBy (names_in rs u) e × InUnit rs u (λ q. HasPlaces q (name_of q.header))
returned_own rs u r here MainUnit same e w h = absurd (true≢false w)
returned_own rs u r here (SubUnit x ds) same e w h = absurd (true≢false w)
returned_own rs u r here (FuncUnit t x ds) same e w h = (h.1, λ q there. subst (HasPlaces q) (sym (ap name_of same) ∙ ap (λ (s : Routine). name_of s.header) (some_same (sym here ∙ there))) (h.0 q there))
returned_own rs u r here DataUnit same e w h = absurd (true≢false w)
