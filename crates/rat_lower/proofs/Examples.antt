-- Small units, by computation: what mains mean, what their units do and how they are printed, that they are checked, and what
-- is refused.
use Rattle.std.proofs.Common.{◌≡◌, ◌≢◌, ℕ, ◌+◌, ◌≤◌, Bool, true, false, true≢false, List, [], ◌∷◌, Some, None, refl, sym, ap, ◌∙◌, arith}
use Rattle.std.specs.Prelude.{pos, nat_eq, codes, map}
use Rattle.std.specs.Fmt.{digits}
use Rattle.std.specs.Str.{bytes_eq}
use Rattle.std.proofs.lemmas.Bool.{ne_eqb}
use Rattle.std.proofs.lemmas.Slice.Eq.{bytes_eq-Decides}
use Rattle.rule_table.specs.FaultRules.{fault_of}
use Rattle.rule_table.specs.declared.rule.Rule.TheVariants.{NameTooLong, OutOfProfileType, BadLabel, BadBreak}
use Rattle.f66_tree.specs.declared.expression.Operator.TheVariants.{Add, Lt, Eq}
use Rattle.f66_tree.specs.Syntax.{Text, Pair, NoFormula, AndFormula, Header, MainUnit, SubUnit, FuncUnit, DataUnit, Constant, Act, Goto, Stop, Invoke, Dimension, Common, Line}
use Rattle.f66_tree.specs.World.{Shown, Ended, Done, GoesOn}
use Rattle.f66_tree.specs.OneUnit.{one_unit, executed}
use Rattle.stmt_text.specs.Texts.{statement_text}
use Rattle.f66_tree.proofs.ExampleParts.{here, i, k, num, var, set, write, i3}
use Rattle.rat_tree.specs.Syntax.{Command, Block, If, Repeat, RepeatUntil, Do, Switch, Break, Next, Return, Plain, Commands, NoCommand, AndCommand, NoClause, AndClause}
use Rattle.rat_tree.specs.Meaning.{Ours, ratfor}
use Rattle.rat_check.specs.Parts.{unit_parts}
use Rattle.rat_check.specs.FirstFault.{fault_of_parts}
use Rattle.name_alloc.specs.MadeNames.{next_name, unused, keeping_all}
use Rattle.rat_lower.specs.Emitted.{unit_names}
use Rattle.rat_lower.specs.Notes.{notes_of_unit}
use Rattle.rat_lower.specs.Checked.{bit, all_given, Lacks, IsChecked}
use Rattle.rat_lower.specs.Lowered.{source_labels, lowered}

abbrev all : List Command → Commands
all [] = NoCommand
all (c ∷ cs) = AndCommand c (all cs)

abbrev plain : ℕ → Act → Command
plain p a = Plain None (here p) a

abbrev block : ℕ → List Command → Command
block p cs = Block (here p) (all cs)

-- 9 format(i3)
abbrev format : Command
format = Plain i3.label i3.place i3.act

abbrev z : Text
z = codes "Z00001"

abbrev under : Header → List Command → List Line
under h cs = lowered (source_labels (all cs)) (record { header = h; body = all cs; place = here 1 }) (here 99)

abbrev unit : List Command → List Line
unit cs = under MainUnit cs

abbrev shows : List Command → ℕ → Shown
shows cs b = ratfor (one_unit (notes_of_unit (all cs))) (λ u. Ours (all cs)) b []

abbrev runs : List Command → ℕ → Shown
runs cs most = executed (unit cs) [] most

abbrev printed : List Command → List (List ℕ)
printed cs = map (λ (s : Line). statement_text s.act) (unit cs)

-- ---- a switch ----

-- i = 2; switch (i) { case 1: k = 1; case 3, 2: k = 7; default: k = 9 }; write(6,9) k
abbrev switch : List Command
switch =
    plain 1 (set i (num (pos 2)))
    ∷ Switch (here 2) (var i)
    (AndClause (AndFormula (num (pos 1)) NoFormula) false (all (plain 3 (set k (num (pos 1))) ∷ [])) (here 3)
    (AndClause (AndFormula (num (pos 3)) (AndFormula (num (pos 2)) NoFormula)) false (all (plain 4 (set k (num (pos 7))) ∷ [])) (here 4)
    (AndClause NoFormula true (all (plain 5 (set k (num (pos 9))) ∷ [])) (here 5) NoClause)))
    ∷ plain 6 (write (k ∷ [])) ∷ format ∷ []

switch_means : (shows switch 1).records ≡ codes "  7" ∷ []
unfolding digits
switch_means = refl

switch_runs : (runs switch 40).records ≡ codes "  7" ∷ []
unfolding digits
switch_runs = refl

switch_ends : (runs switch 40).end ≡ Ended Done
unfolding digits
switch_ends = refl

switch_printed :
    printed switch ≡ codes "INTEGER Z00001" ∷ codes "I=2" ∷ codes "Z00001=I" ∷ codes "IF(Z00001.EQ.(1))GO TO 23001" ∷ codes "IF(Z00001.EQ.(3))GO TO 23002" ∷ codes "IF(Z00001.EQ.(2))GO TO 23002" ∷ codes "GO TO 23003"
    ∷ codes "CONTINUE" ∷ codes "K=1" ∷ codes "GO TO 23000" ∷ codes "CONTINUE" ∷ codes "K=7" ∷ codes "GO TO 23000" ∷ codes "CONTINUE" ∷ codes "K=9" ∷ codes "GO TO 23000" ∷ codes "CONTINUE"
    ∷ codes "WRITE(6,9)K" ∷ codes "FORMAT(I3)" ∷ codes "STOP" ∷ []
unfolding digits
switch_printed = refl

-- the theorem's premises can be met
differs : (x y : Text) → bytes_eq x y ≡ false → x ≢ y
differs x y e same = absurd (true≢false (sym ((bytes_eq-Decides x y).1 same) ∙ e))

one_label : (l : ℕ) → all_given l (all switch) ≤ 1
one_label l = by_number (nat_eq 9 l)
  where
    by_number : (v : Bool) → 0 + (0 + (0 + (bit v + 0))) ≤ 1
    by_number true = omega arith
    by_number false = omega arith

other_i : i ≢ z
other_i = differs i z refl

other_k : k ≢ z
other_k = differs k z refl

lacks_z : Lacks z MainUnit (all switch)
lacks_z = record {
  own = differs [] z refl;
  dummies = refl;
  statements = ((other_i, tt), ((other_i, ((tt, tt), ((other_k, tt), tt), ((tt, (tt, tt)), ((other_k, tt), tt), (tt, ((other_k, tt), tt), tt)))), ((tt, (other_k, tt)), (tt, tt))));
  dimensions = (tt, tt);
}

switch_checked : IsChecked (λ j. 23000 + j) z MainUnit (all switch)
switch_checked = record {
  built = (tt, (((tt, tt), ((tt, tt), ((tt, tt), tt))), (tt, (tt, tt))));
  fits = (tt, (((tt, tt), ((tt, tt), ((tt, tt), tt))), (tt, (tt, tt))));
  lands = (tt, (((tt, tt), ((tt, tt), ((tt, tt), tt))), (tt, (tt, tt))));
  once = one_label;
  rises = λ a b lt. omega arith;
  unused = λ j. ap (λ v. 0 + (0 + (0 + (bit v + 0)))) (ne_eqb 9 (23000 + j) (λ e. omega (arith, e)));
  spared = λ there. lacks_z;
}

-- ---- loops, labels and jumps ----

-- do i = 1, 3 { if (i == 2) next; write(6,9) i }; k = 0; 20 k = k + 1; if (k < 3) goto 20; write(6,9) k; stop
abbrev loops : List Command
loops =
    Do (here 1) i (Constant (pos 1)) (Constant (pos 3)) (Constant (pos 1)) (block 1 (If (here 2) (Pair Eq (var i) (num (pos 2))) (Next (here 2) 1) ∷ plain 3 (write (i ∷ [])) ∷ []))
    ∷ plain 4 (set k (num (pos 0))) ∷ Plain (Some 20) (here 5) (set k (Pair Add (var k) (num (pos 1)))) ∷ If (here 6) (Pair Lt (var k) (num (pos 3))) (plain 6 (Goto 20)) ∷ plain 7 (write (k ∷ [])) ∷ plain 8 (Stop None) ∷ format ∷ []

loops_accepted : fault_of_parts MainUnit (here 0) (unit_parts (all loops)) ≡ None
unfolding digits
loops_accepted = refl

loops_printed :
    printed loops ≡ codes "DO 23000 I=1,3" ∷ codes "IF(.NOT.(I.EQ.2))GO TO 23002" ∷ codes "GO TO 23000" ∷ codes "CONTINUE" ∷ codes "WRITE(6,9)I" ∷ codes "CONTINUE" ∷ codes "CONTINUE"
    ∷ codes "K=0" ∷ codes "K=K+1" ∷ codes "IF(.NOT.(K.LT.3))GO TO 23003" ∷ codes "GO TO 20" ∷ codes "CONTINUE" ∷ codes "WRITE(6,9)K" ∷ codes "STOP" ∷ codes "FORMAT(I3)" ∷ []
unfolding digits
loops_printed = refl

loops_mean : (shows loops 3).records ≡ codes "  1" ∷ codes "  3" ∷ codes "  3" ∷ []
unfolding digits
loops_mean = refl

loops_run : (runs loops 60).records ≡ codes "  1" ∷ codes "  3" ∷ codes "  3" ∷ []
unfolding digits
loops_run = refl

loops_go_on : (runs loops 9).end ≡ GoesOn
unfolding digits
loops_go_on = refl

-- ---- refusals ----

-- break 2 in one loop
abbrev too_far : Command
too_far = Repeat (here 2) (block 2 (Break (here 3) 2 ∷ []))

loop_refused : fault_of_parts MainUnit (here 0) (unit_parts (all (plain 1 (set i (num (pos 1))) ∷ too_far ∷ []))) ≡ Some (fault_of (here 3) BadBreak)
unfolding digits
loop_refused = refl

-- goto 10 to a label within braces
label_refused : fault_of_parts MainUnit (here 0) (unit_parts (all (plain 1 (Goto 10) ∷ block 2 (Plain (Some 10) (here 2) (set i (num (pos 1))) ∷ []) ∷ []))) ≡ Some (fault_of (here 1) BadLabel)
unfolding digits
label_refused = refl

-- a label that stands twice
second_refused : fault_of_parts MainUnit (here 0) (unit_parts (all (Plain (Some 10) (here 1) (set i (num (pos 1))) ∷ Plain (Some 10) (here 2) (set i (num (pos 1))) ∷ []))) ≡ Some (fault_of (here 2) BadLabel)
unfolding digits
second_refused = refl

-- a name of seven letters that would be real, and one of one letter
long_refused : fault_of_parts MainUnit (here 0) (unit_parts (all (plain 1 (set i (var (codes "ABCDEFG"))) ∷ []))) ≡ Some (fault_of (here 1) NameTooLong)
unfolding digits
long_refused = refl

real_refused : fault_of_parts MainUnit (here 0) (unit_parts (all (plain 1 (set i (var (codes "A"))) ∷ []))) ≡ Some (fault_of (here 1) OutOfProfileType)
unfolding digits
real_refused = refl

-- a WRITE whose format is missing, and the condition of until after the faults of its body
format_refused : fault_of_parts MainUnit (here 0) (unit_parts (all (plain 1 (write (i ∷ [])) ∷ []))) ≡ Some (fault_of (here 1) BadLabel)
unfolding digits
format_refused = refl

body_first : fault_of_parts MainUnit (here 0) (unit_parts (all (RepeatUntil (here 1) (block 1 (Break (here 2) 0 ∷ [])) (Pair Lt (var (codes "A")) (num (pos 3))) (here 3) ∷ []))) ≡ Some (fault_of (here 2) BadBreak)
unfolding digits
body_first = refl

switch_accepted : fault_of_parts MainUnit (here 0) (unit_parts (all switch)) ≡ None
unfolding digits
switch_accepted = refl

-- ---- units with headers ----

abbrev printed_under : Header → List Command → List (List ℕ)
printed_under h cs = map (λ (s : Line). statement_text s.act) (under h cs)

-- a function returns a value by its name, and a RETURN ends it unless one does already
value_returned : printed_under (FuncUnit None (codes "KIND") (k ∷ [])) (If (here 1) (Pair Lt (var k) (num (pos 3))) (Return (here 1) (Some (var k))) ∷ plain 2 (set (codes "KIND") (num (pos 3))) ∷ [])
    ≡ codes "IF(.NOT.(K.LT.3))GO TO 23000" ∷ codes "KIND=K" ∷ codes "RETURN" ∷ codes "CONTINUE" ∷ codes "KIND=3" ∷ codes "RETURN" ∷ []
unfolding digits
value_returned = refl

returned_once : printed_under (SubUnit (codes "S") []) (Return (here 1) None ∷ []) ≡ codes "RETURN" ∷ []
returned_once = refl

-- nothing ends BLOCK DATA
nothing_added : printed_under DataUnit (plain 1 (Dimension (record { name = k; sizes = Constant (pos 3) ∷ [] } ∷ [])) ∷ []) ≡ codes "DIMENSION K(3)" ∷ []
unfolding digits
nothing_added = refl

-- ---- spare names ----

abbrev spare_of : Header → Text
spare_of h = next_name (keeping_all (unit_names (record { header = h; body = all switch; place = here 1 })) unused)

-- a main has the first, unless the unit itself or a dummy is named so
first_spare : spare_of MainUnit ≡ z
first_spare = refl

past_own : spare_of (FuncUnit None z []) ≡ codes "Z00002"
past_own = refl

past_dummies : spare_of (SubUnit (codes "S") (codes "Z00002" ∷ z ∷ [])) ≡ codes "Z00003"
past_dummies = refl

-- or a CALL or a COMMON names so
past_called : next_name (keeping_all (unit_names (record { header = MainUnit; body = all (plain 1 (Invoke z (AndFormula (var (codes "Z00002")) NoFormula)) ∷ switch); place = here 1 })) unused) ≡ codes "Z00003"
past_called = refl

past_common : next_name (keeping_all (unit_names (record { header = MainUnit; body = all (plain 1 (Common (record { name = None; list = record { name = z; sizes = [] } ∷ [] } ∷ [])) ∷ switch); place = here 1 })) unused) ≡ codes "Z00002"
past_common = refl
