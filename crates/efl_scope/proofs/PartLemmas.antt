-- A walk takes the parts one by one: of each it notes what it breaks, by what it keeps in mind of those before.
use Rattle.std.proofs.Common.{◌≡◌, ℤ, Bool, true, false, ◌||◌, List, [], ◌∷◌, ◌++◌, Option, Some, None, find, refl, ap, ◌∙◌, if◌then◌else◌}
use Rattle.std.specs.List.{list_any}
use Rattle.std.specs.Option.{option_or}
use Rattle.rule_table.specs.Words.{is_some_and}
use Rattle.ground.specs.declared.place.Place.{Place}
use Rattle.efl_tree.specs.Syntax.{Text, EflExpr, EflVar, EflType, EflDeclKind, Implicit, Initial, Variables, Area, Structure, EflKind}
use Rattle.efl_scope.specs.declared.rule.ScopeRule.{ScopeRule}
use Rattle.efl_scope.specs.declared.rule.ScopeRule.TheVariants.{OutOfProfileType, DuplicateName, BadLabel, BadBreak, CommonMismatch}
use Rattle.efl_scope.specs.Parts.{Form, Header, Declares, Groups, States, Until, Chooses, Part, Around, part, names_of, shapes_in}
use Rattle.efl_scope.specs.Uses.{uses_of, uses_declared}
use Rattle.efl_scope.specs.ScopeRules.{Names, no_name, holds, again, is_structure, is_out, lays_none, misuses, scope_rules, has_other_type, is_duplicate, misses_label, misses_loop, area_declared, area_of, declares_again}
use Rattle.efl_scope.specs.Sights.{Walk, noting, or_rule, rule_of_uses, rule_of_type, with_labels, with_area, noting_statement, rule_of_header, rule_declared, declaration_noted, clashes}
use Rattle.efl_scope.proofs.NameLemmas.{or_false}

-- ---- what a part breaks, where these areas agree ----

abbrev pub breaks_in : Names → Walk → Part → Bool → ScopeRule → Bool
breaks_in agreeing w v again OutOfProfileType = has_other_type v
breaks_in agreeing w v again DuplicateName = is_duplicate v
breaks_in agreeing w v again BadLabel = again || misses_label v.around.labels v.form
breaks_in agreeing w v again BadBreak = misses_loop v.around.loops v.form
breaks_in agreeing w v again CommonMismatch = is_some_and (clashes agreeing w.areas) (area_declared v.form)

abbrev pub part_rule : Names → Walk → Part → Bool → Option ScopeRule
part_rule agreeing w v again = find (breaks_in agreeing w v again) scope_rules

-- the labels of a statement come, and of any other part none
abbrev pub taking : Form → Walk → Walk
taking (States ls k) w = with_labels ls w
taking _ w = w

abbrev pub stands_again : Form → Walk → Bool
stands_again (States ls k) w = w.labels.again
stands_again _ w = false

abbrev pub taken : Names → Part → Walk → Walk
taken agreeing v w = with_area (area_declared v.form) (noting v.place (part_rule agreeing w v (stands_again v.form w)) w)

abbrev pub note_part : Names → Part → Walk → Walk
note_part agreeing v w = taken agreeing v (taking v.form w)

abbrev pub noting_all : Names → List Part → Walk → Walk
noting_all agreeing [] w = w
noting_all agreeing (v ∷ vs) w = noting_all agreeing vs (note_part agreeing v w)

pub noting-append : (agreeing : Names) (vs ws : List Part) (w : Walk) → noting_all agreeing (vs ++ ws) w ≡ noting_all agreeing ws (noting_all agreeing vs w)
noting-append agreeing [] ws w = refl
noting-append agreeing (v ∷ vs) ws w = noting-append agreeing vs ws (note_part agreeing v w)

-- ---- the first of the rules that are broken ----

abbrev five : Bool → Bool → Bool → Bool → Bool → Option ScopeRule
five a b c d e = or_rule (or_rule (or_rule (or_rule (or_rule None a OutOfProfileType) b DuplicateName) c BadLabel) d BadBreak) e CommonMismatch

-- the first rule of the table that is broken, by the five tests
first-five : (test : ScopeRule → Bool) → find test scope_rules ≡ five (test OutOfProfileType) (test DuplicateName) (test BadLabel) (test BadBreak) (test CommonMismatch)
first-five test = by (test OutOfProfileType) (test DuplicateName) (test BadLabel) (test BadBreak) (test CommonMismatch)
  where
    by : (a b c d e : Bool) →
        (if a then Some OutOfProfileType else (if b then Some DuplicateName else (if c then Some BadLabel else (if d then Some BadBreak else (if e then Some CommonMismatch else None))))) ≡ five a b c d e
    by true b c d e = refl
    by false true c d e = refl
    by false false true d e = refl
    by false false false true e = refl
    by false false false false true = refl
    by false false false false false = refl

-- a rule that is not broken changes nothing
or_rule-none : (o : Option ScopeRule) (r : ScopeRule) → or_rule o false r ≡ o
or_rule-none None r = refl
or_rule-none (Some q) r = refl

-- rules on types and names alone
two : (a b : Bool) → five a b false false false ≡ or_rule (or_rule None a OutOfProfileType) b DuplicateName
two true b = refl
two false true = refl
two false false = refl

three : (a b e : Bool) → five a b false false e ≡ or_rule (or_rule (or_rule None a OutOfProfileType) b DuplicateName) e CommonMismatch
three true b e = refl
three false true e = refl
three false false e = refl

pub or_nothing : {V : Type 0} (o : Option V) → option_or o None ≡ o
or_nothing None = refl
or_nothing (Some v) = refl

nothing_noted : (p : Place) (w : Walk) → noting p None w ≡ w
nothing_noted p w = ap (λ o. record w { fault = o }) (or_nothing w.fault)

-- ---- the kinds of parts ----

module _ (agreeing : Names) (a : Around) (p : Place) (w : Walk) where
  pub group_noted : (before : List Text) (t : EflType) (vs : List EflVar) (again_is : Bool) → again before (names_of vs) ≡ again_is →
      note_part agreeing (part a p (Groups before t vs)) w ≡ noting p (rule_of_type (is_structure a.blocks) t again_is) w
  group_noted before t vs again_is is =
      ap (λ o. noting p o w)
      (first-five (breaks_in agreeing w (part a p (Groups before t vs)) false)
      ∙ ap (λ x. five x (again before (names_of vs) || false) false false false) (or_false (is_out (is_structure a.blocks) t))
      ∙ ap (λ x. five (is_out (is_structure a.blocks) t) x false false false) (or_false (again before (names_of vs)) ∙ is)
      ∙ two (is_out (is_structure a.blocks) t) again_is)

  pub header_noted : (o : Option EflType) (fs : List Text) (again_is : Bool) → again [] fs ≡ again_is →
      note_part agreeing (part a p (Header o fs)) w ≡ noting p (rule_of_header o again_is) w
  header_noted o fs again_is is =
      let out = is_some_and (is_out no_name) o in
      ap (λ o. noting p o w)
      (first-five (breaks_in agreeing w (part a p (Header o fs)) false)
      ∙ ap (λ x. five x (again [] fs || false) false false false) (or_false out)
      ∙ ap (λ x. five out x false false false) (or_false (again [] fs) ∙ is)
      ∙ two out again_is)

  pub until_noted : (e : EflExpr) → note_part agreeing (part a p (Until e)) w ≡ noting p (rule_of_uses (is_structure a.blocks) (uses_of e)) w
  until_noted e =
      let laid = list_any (lays_none (is_structure a.blocks)) (uses_of e) in
      let misused = list_any (misuses (is_structure a.blocks)) (uses_of e) in
      ap (λ o. noting p o w) (first-five (breaks_in agreeing w (part a p (Until e)) false) ∙ two laid misused)

  pub clause_noted : (es : List ℤ) (fallback : Bool) (before : List ℤ) (seen : Bool) → note_part agreeing (part a p (Chooses es fallback before seen)) w ≡ w
  clause_noted es fallback before seen = ap (λ o. noting p o w) (first-five (breaks_in agreeing w (part a p (Chooses es fallback before seen)) false)) ∙ nothing_noted p w

  pub statement_noted : (ls : List Text) (k : EflKind) →
      note_part agreeing (part a p (States ls k)) w ≡ noting_statement (record { known = is_structure a.blocks; reach = holds a.labels; loops = a.loops }) p k (with_labels ls w)
  statement_noted ls k =
      let w1 = with_labels ls w in
      let rule = breaks_in agreeing w1 (part a p (States ls k)) w1.labels.again in
      ap (λ o. noting p o w1) (first-five rule ∙ or_rule-none _ CommonMismatch)

  pub declaration_noted-is : (before : List Text) (k : EflDeclKind) (again_is : Bool) → declares_again a.formals before k ≡ again_is →
      note_part agreeing (part a p (Declares before k)) w ≡ declaration_noted agreeing (record { kind = k; place = p }) (is_structure a.blocks) again_is w
  declaration_noted-is before k again_is is = ap (λ o. with_area (area_of k) (noting p o w)) (first-five (breaks_in agreeing w (part a p (Declares before k)) false) ∙ by k is)
    where
      by : (l : EflDeclKind) → declares_again a.formals before l ≡ again_is →
          five (breaks_in agreeing w (part a p (Declares before l)) false OutOfProfileType) (breaks_in agreeing w (part a p (Declares before l)) false DuplicateName) false false
          (is_some_and (clashes agreeing w.areas) (area_of l)) ≡ rule_declared agreeing w.areas l (is_structure a.blocks) again_is
      by (Implicit rs t) e =
          ap (λ x. five x (again (a.formals ++ before) (shapes_in t) || false) false false false) (or_false (is_out (is_structure a.blocks) t))
          ∙ ap (λ x. five (is_out (is_structure a.blocks) t) x false false false) (or_false _ ∙ e) ∙ two (is_out (is_structure a.blocks) t) again_is
      by (Initial ps) e = two (list_any (lays_none (is_structure a.blocks)) (uses_declared (Initial ps))) (list_any (misuses (is_structure a.blocks)) (uses_declared (Initial ps)))
      by (Variables None t vs) e =
          ap (λ x. five x (declares_again a.formals before (Variables None t vs) || false) false false false) (or_false (is_out (is_structure a.blocks) t))
          ∙ ap (λ x. five (is_out (is_structure a.blocks) t) x false false false) (or_false _ ∙ e) ∙ two (is_out (is_structure a.blocks) t) again_is
      by (Variables (Some q) t vs) e =
          ap (λ x. five x (declares_again a.formals before (Variables (Some q) t vs) || false) false false (clashes agreeing w.areas q)) (or_false (is_out (is_structure a.blocks) t))
          ∙ ap (λ x. five (is_out (is_structure a.blocks) t) x false false (clashes agreeing w.areas q)) (or_false _ ∙ e)
          ∙ three (is_out (is_structure a.blocks) t) again_is (clashes agreeing w.areas q)
      by (Area q gs) e =
          ap (λ x. five false x false false (clashes agreeing w.areas q)) (or_false _ ∙ e) ∙ three false again_is (clashes agreeing w.areas q)
      by (Structure x gs) e = ap (λ y. five false y false false false) (or_false _ ∙ e) ∙ two false again_is
