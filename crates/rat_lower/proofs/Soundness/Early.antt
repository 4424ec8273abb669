-- The specifications of a unit stand before its executable statements where those of its source do.
use Rattle.std.proofs.Common.{◌≡◌, ℕ, zero, suc, ◌+◌, Bool, true, false, true≢false, List, [], ◌∷◌, ◌++◌, Option, Some, None, refl, sym, ap, ◌∙◌, subst, arith}
use Rattle.std.specs.Prelude.{◌&&◌, ◌||◌, not, cond, option_map, ⊤}
use Rattle.std.specs.List.{slice_get}
use Rattle.std.proofs.lemmas.Bool.Decides.{nat_tests}
use Rattle.std.proofs.lemmas.Bool.{or_parts, or_from, and_left, and_right, le-ltb}
use Rattle.ground.specs.declared.place.Place.{Place}
use Rattle.rule_table.specs.Words.{first_place, is_below}
use Rattle.f66_tree.specs.Syntax.{Header, MainUnit, SubUnit, FuncUnit, DataUnit, Text, Formula, Act, Format, Typed, Dimension, Common, Equivalence, Line}
use Rattle.f66_tree.specs.Units.{name_of}
use Rattle.f66_flow.specs.Acts.{is_executable, is_specification, is_data, is_format}
use Rattle.f66_flow.specs.FlowRules.{is_late as is_late_line}
use Rattle.rat_tree.specs.Syntax.{Command, Empty, Block, If, IfElse, While, For, Repeat, RepeatUntil, Do, Switch, Break, Next, Return, Plain, Labelled, Commands, NoCommand, AndCommand}
use Rattle.rat_check.specs.Parts.{Form, Bare, RepeatHead, Statement, Condition, Selector, CaseList, ForHead, DoHead, LoopExit, ReturnHead, Labels, Part, part, with_mark, with_labels, parts_of, parts_in, clause_parts}
use Rattle.rat_check.specs.Said.{said_by, returned_act}
use Rattle.rat_check.specs.Rules.{is_ratfor, Before, begins, behind, UnitRules, is_late_form}
use Rattle.rat_check.proofs.CleanLemmas.{AllKeep}
use Rattle.rat_lower.specs.Code.{Rings, labels, here, code_of, all_code, end_unless}
use Rattle.rat_lower.proofs.Accepted.NoFault.{AllParts, split, Fine, AllFine, AllOf, SaysSo, values_so, prepared_so}
use Rattle.rat_lower.proofs.Soundness.Kept.{AllSay, Keeps, KeepsValues, good_code}
use Rattle.rat_lower.proofs.Soundness.Says.{any_return, both_good, good}

-- ---- lines ----

-- behind an executable statement or a DATA no specification comes
abbrev pub begins_line : Act → Bool
begins_line a = is_executable a || is_data a

abbrev pub Early : Bool → List Line → Type 0
Early begun [] = ⊤
Early begun (s ∷ rest) = ((is_specification s.act && begun) ≡ false) × Early (begins_line s.act || begun) rest

-- one place further
pub below_shifted : (i : ℕ) (o : Option ℕ) → is_below (suc i) (option_map (λ n. n + 1) o) ≡ is_below i o
below_shifted i None = refl
below_shifted i (Some m) = grind (arith, nat_tests)

pub none_below : (o : Option ℕ) → is_below 0 o ≡ false
none_below None = refl
none_below (Some m) = le-ltb m 0 (omega arith)

past : (v : Bool) (i : ℕ) (o : Option ℕ) → v ≡ false → is_below i o ≡ false → is_below (suc i) (cond v (Some 0) (option_map (λ n. n + 1) o)) ≡ false
past true i o e h = absurd (true≢false e)
past false i o e h = below_shifted i o ∙ h

record Unbegun (begun : Bool) (i : ℕ) (code : List Line) : Type 0 where
  pub before : begun ≡ false
  pub executable : is_below i (first_place (λ s. is_executable s.act) code) ≡ false
  pub data_none : is_below i (first_place (λ s. is_data s.act) code) ≡ false

unbegun : (begun : Bool) (code : List Line) (i : ℕ) (s : Line) → Early begun code → slice_get code i ≡ Some s → is_specification s.act ≡ true → Unbegun begun i code
unbegun begun [] i s h e is = absurd (cc)
unbegun begun (x ∷ rest) zero s h e is =
    let same : x ≡ s = cc in
    let special : is_specification x.act ≡ true = ap (λ y. is_specification y.act) same ∙ is in
    record {
      before = sym (ap (λ b. b && begun) special) ∙ h.0;
      executable = none_below (first_place (λ t. is_executable t.act) (x ∷ rest));
      data_none = none_below (first_place (λ t. is_data t.act) (x ∷ rest));
    }
unbegun begun (x ∷ rest) (suc i) s h e is =
    let k = unbegun (begins_line x.act || begun) rest i s h.1 e is in
    let both = or_parts (begins_line x.act) begun k.before in
    let each = or_parts (is_executable x.act) (is_data x.act) both.0 in
    record {
      before = both.1;
      executable = past (is_executable x.act) i (first_place (λ t. is_executable t.act) rest) each.0 k.executable;
      data_none = past (is_data x.act) i (first_place (λ t. is_data t.act) rest) each.1 k.data_none;
    }

pub not_late : (code : List Line) → Early false code → (i : ℕ) (s : Line) → slice_get code i ≡ Some s → is_late_line code i s.act ≡ false
not_late code h i s e = by (is_specification s.act) refl
  where
    by : (v : Bool) → is_specification s.act ≡ v → is_late_line code i s.act ≡ false
    by true is = let k = unbegun false code i s h e is in and_right (is_specification s.act) _ (or_from _ _ k.executable k.data_none)
    by false is = and_left (is_specification s.act) _ is

-- ---- statements that are no specifications ----

abbrev NotSpecial : Act → Type 0
NotSpecial a = is_specification a ≡ false

-- where no statement is one, none is late
none_late : (begun : Bool) (code : List Line) → AllSay NotSpecial code → Early begun code
none_late begun [] h = tt
none_late begun (s ∷ rest) h = (and_left (is_specification s.act) begun h.0, none_late (begins_line s.act || begun) rest h.1)

-- and none is one that stands behind an executable statement
right_is : (a b : Bool) → b ≡ true → (a || b) ≡ true
right_is true b e = refl
right_is false b e = e

all_begun : (begun : Bool) (code : List Line) → begun ≡ true → Early begun code → AllSay NotSpecial code
all_begun begun [] e h = tt
all_begun begun (s ∷ rest) e h = (by (is_specification s.act) begun e h.0, all_begun (begins_line s.act || begun) rest (right_is (begins_line s.act) begun e) h.1)
  where
    by : (v b : Bool) → b ≡ true → (v && b) ≡ false → v ≡ false
    by true b t f = absurd (true≢false (sym t ∙ f))
    by false b t f = refl

special_keeps : Keeps NotSpecial
special_keeps = record { passes = refl; goes = λ l. refl; stops = refl; denied = λ e l h. refl; counts = λ l x a b c h. refl }

special_values : (spare : Text) → KeepsValues NotSpecial spare
special_values spare = record { compared = λ e l h. refl; stored = λ e h. refl }

-- ---- parts ----

abbrev pub EarlyParts : Bool → List Part → Type 0
EarlyParts begun [] = ⊤
EarlyParts begun (v ∷ vs) = (is_late_form begun v.form ≡ false) × EarlyParts (begins v.label v.form || begun) vs

-- whether the executable statements have begun behind these parts
abbrev after : Bool → List Part → Bool
after begun [] = begun
after begun (v ∷ vs) = after (begins v.label v.form || begun) vs

or_turned : (a b : Bool) → (a || b) ≡ (b || a)
or_turned true true = refl
or_turned true false = refl
or_turned false true = refl
or_turned false false = refl

pub early_parts : (u : UnitRules) (b : Before) (vs : List Part) → AllKeep u b vs → EarlyParts b.begun vs
early_parts u b [] h = tt
early_parts u b (v ∷ vs) h = (h.0.early, subst (λ x. EarlyParts x vs) (or_turned b.begun (begins v.label v.form)) (early_parts u (behind u.context.header b v) vs h.1))

early_split : (begun : Bool) (xs ys : List Part) → EarlyParts begun (xs ++ ys) → EarlyParts begun xs × EarlyParts (after begun xs) ys
early_split begun [] ys h = (tt, h)
early_split begun (x ∷ xs) ys h = let k = early_split (begins x.label x.form || begun) xs ys h.1 in ((h.0, k.0), k.1)

after_append : (begun : Bool) (xs ys : List Part) → after begun (xs ++ ys) ≡ after (after begun xs) ys
after_append begun [] ys = refl
after_append begun (x ∷ xs) ys = after_append (begins x.label x.form || begun) xs ys

stays : (vs : List Part) (begun : Bool) → begun ≡ true → after begun vs ≡ true
stays [] begun e = e
stays (v ∷ vs) begun e = stays vs (begins v.label v.form || begun) (right_is (begins v.label v.form) begun e)

abbrev Quiet : Part → Type 0
Quiet v = is_late_form true v.form ≡ false

late_true : (begun : Bool) (form : Form) → begun ≡ true → is_late_form begun form ≡ false → is_late_form true form ≡ false
late_true begun form e h = sym (ap (λ b. is_late_form b form) e) ∙ h

all_quiet : (vs : List Part) (begun : Bool) → begun ≡ true → EarlyParts begun vs → AllParts Quiet vs
all_quiet [] begun e h = tt
all_quiet (v ∷ vs) begun e h = (late_true begun v.form e h.0, all_quiet vs (begins v.label v.form || begun) (right_is (begins v.label v.form) begun e) h.1)

-- ---- what quiet parts say ----

and_one : (a : Bool) → (a && true) ≡ false → a ≡ false
and_one true e = e
and_one false e = refl

returned_quiet : (k : Header) (e : Formula) → NotSpecial (returned_act k e)
returned_quiet MainUnit e = refl
returned_quiet (SubUnit x ds) e = refl
returned_quiet (FuncUnit t x ds) e = refl
returned_quiet DataUnit e = refl

quiet_so : (k : Header) (form : Form) → is_ratfor form ≡ true → is_late_form true form ≡ false → AllOf NotSpecial (said_by k form)
quiet_so k Bare is h = tt
quiet_so k RepeatHead is h = tt
quiet_so k (Statement a) is h = (and_one (is_specification a) h, tt)
quiet_so k (Condition e) is h = (refl, tt)
quiet_so k (Selector e) is h = (refl, tt)
quiet_so k (CaseList es second) is h = values_so NotSpecial (λ e. refl) es
quiet_so k (ForHead a e b) is h = prepared_so NotSpecial (λ x f. refl) (λ x es. refl) (λ f. refl) a e b is
quiet_so k (DoHead x a b c) is h = (refl, tt)
quiet_so k (LoopExit n) is h = tt
quiet_so k (ReturnHead None) is h = tt
quiet_so k (ReturnHead (Some e)) is h = (returned_quiet k e, tt)

all_quiet_so : (u : UnitRules) (vs : List Part) → AllFine u vs → AllParts Quiet vs → AllParts (SaysSo u.context.header NotSpecial) vs
all_quiet_so u [] h q = tt
all_quiet_so u (v ∷ vs) h q = (quiet_so u.context.header v.form h.0.ratfor q.0, all_quiet_so u vs h.1 q.1)

-- ---- which statements begin the executable ones ----

-- a control statement and a jump do
abbrev starts : Command → Bool
starts (Empty p) = false
starts (Block p ss) = false
starts (Plain m p a) = false
starts (Labelled m p c) = false
starts _ = true

-- a form by itself
abbrev opens : Form → Bool
opens Bare = false
opens (Statement a) = false
opens _ = true

opened : (l : Option ℕ) (form : Form) → opens form ≡ true → begins l form ≡ true
opened None Bare e = absurd (true≢false (sym e))
opened (Some l) Bare e = absurd (true≢false (sym e))
opened None (Statement a) e = absurd (true≢false (sym e))
opened (Some l) (Statement a) e = absurd (true≢false (sym e))
opened None _ e = refl
opened (Some l) _ e = refl

left_is : (a b : Bool) → a ≡ true → (a || b) ≡ true
left_is a b e = ap (λ v. v || b) e

-- what is executed is no specification and no FORMAT, and neither is a DATA
executed : (a : Act) → begins_line a ≡ true → not (is_specification a || is_format a) ≡ true
executed (Typed t ds) e = absurd (true≢false (sym e))
executed (Dimension ds) e = absurd (true≢false (sym e))
executed (Common areas) e = absurd (true≢false (sym e))
executed (Equivalence es) e = absurd (true≢false (sym e))
executed (Format f) e = absurd (true≢false (sym e))
executed _ e = refl

or_case : {A : Type 0} (a b : Bool) → (a || b) ≡ true → (a ≡ true → A) → (b ≡ true → A) → A
or_case true b e left right = left refl
or_case false b e left right = right e

-- what is executed begins
says_begins : (m : Option ℕ) (a : Act) → begins_line a ≡ true → begins m (Statement a) ≡ true
says_begins None a e = executed a e
says_begins (Some m) a e = executed a e

record Begun (begun : Bool) (vs : List Part) : Type 0 where
  pub quiet : AllParts Quiet vs
  pub ends : after begun vs ≡ true

behind_first : (begun : Bool) (v : Part) (vs : List Part) → begins v.label v.form ≡ true → Quiet v → EarlyParts begun (v ∷ vs) → Begun begun (v ∷ vs)
behind_first begun v vs e q h =
    let open_now = left_is (begins v.label v.form) begun e in
    record { quiet = (q, all_quiet vs (begins v.label v.form || begun) open_now h.1); ends = stays vs (begins v.label v.form || begun) open_now }

started : (c : Command) (k : ℕ) (r : Labels) (l : Option ℕ) (begun : Bool) → starts c ≡ true → EarlyParts begun (parts_of k r l c) → Begun begun (parts_of k r l c)
started (If p e c) k r l begun is h = behind_first begun (part k r l p (Condition e)) (parts_of k r None c) (opened l (Condition e) refl) refl h
started (IfElse p e c d) k r l begun is h = behind_first begun (part k r l p (Condition e)) (parts_of k r None c ++ parts_of k r None d) (opened l (Condition e) refl) refl h
started (While p e c) k r l begun is h = behind_first begun (part k r l p (Condition e)) (parts_of (suc k) r None c) (opened l (Condition e) refl) refl h
started (For p a e b c) k r l begun is h = behind_first begun (part k r l p (ForHead a e b)) (parts_of (suc k) r None c) (opened l (ForHead a e b) refl) refl h
started (Repeat p c) k r l begun is h = behind_first begun (part k r l p RepeatHead) (parts_of (suc k) r None c) (opened l RepeatHead refl) refl h
started (RepeatUntil p c e q) k r l begun is h = behind_first begun (part k r l p RepeatHead) (parts_of (suc k) r None c ++ part k r None q (Condition e) ∷ []) (opened l RepeatHead refl) refl h
started (Do p x a b d c) k r l begun is h = behind_first begun (part k r l p (DoHead x a b d)) (parts_of (suc k) r None c) (opened l (DoHead x a b d) refl) refl h
started (Switch p e cs) k r l begun is h = behind_first begun (part k r l p (Selector e)) (clause_parts k r false cs) (opened l (Selector e) refl) refl h
started (Break p n) k r l begun is h = behind_first begun (part k r l p (LoopExit n)) [] (opened l (LoopExit n) refl) refl h
started (Next p n) k r l begun is h = behind_first begun (part k r l p (LoopExit n)) [] (opened l (LoopExit n) refl) refl h
started (Return p e) k r l begun is h = behind_first begun (part k r l p (ReturnHead e)) [] (opened l (ReturnHead e) refl) refl h
started (Empty p) k r l begun is h = absurd (true≢false (sym is))
started (Block p ss) k r l begun is h = absurd (true≢false (sym is))
started (Plain m p a) k r l begun is h = absurd (true≢false (sym is))
started (Labelled m p c) k r l begun is h = absurd (true≢false (sym is))

-- behind a label all has begun
labelled : (c : Command) (k : ℕ) (r : Labels) (m : ℕ) (begun : Bool) → EarlyParts begun (parts_of k r (Some m) c) → Begun begun (parts_of k r (Some m) c)
labelled (Empty p) k r m begun h = behind_first begun (part k r (Some m) p Bare) [] refl refl h
labelled (Block p ss) k r m begun h = behind_first begun (part k r (Some m) p Bare) (parts_in k (with_labels ss r) ss) refl refl h
labelled (Plain n p a) k r m begun h = behind_first begun (part k r (Some m) p Bare) (part k r n p (Statement a) ∷ []) refl refl h
labelled (Labelled n p c) k r m begun h = behind_first begun (part k r (Some m) p Bare) (parts_of k r (Some n) c) refl refl h
labelled (If p e c) k r m begun h = started (If p e c) k r (Some m) begun refl h
labelled (IfElse p e c d) k r m begun h = started (IfElse p e c d) k r (Some m) begun refl h
labelled (While p e c) k r m begun h = started (While p e c) k r (Some m) begun refl h
labelled (For p a e b c) k r m begun h = started (For p a e b c) k r (Some m) begun refl h
labelled (Repeat p c) k r m begun h = started (Repeat p c) k r (Some m) begun refl h
labelled (RepeatUntil p c e q) k r m begun h = started (RepeatUntil p c e q) k r (Some m) begun refl h
labelled (Do p x a b d c) k r m begun h = started (Do p x a b d c) k r (Some m) begun refl h
labelled (Switch p e cs) k r m begun h = started (Switch p e cs) k r (Some m) begun refl h
labelled (Break p n) k r m begun h = started (Break p n) k r (Some m) begun refl h
labelled (Next p n) k r m begun h = started (Next p n) k r (Some m) begun refl h
labelled (Return p e) k r m begun h = started (Return p e) k r (Some m) begun refl h

-- ---- statements ----

-- the target has begun only where the source has
abbrev Within : Bool → Bool → Type 0
Within inner outer = inner ≡ true → outer ≡ true

module _ (u : UnitRules) (made : ℕ → ℕ) (spare : Text) where
  abbrev own : Text
  own = name_of u.context.header

  abbrev P : Part → Type 0
  P = Fine u

  -- a statement that has begun, before others
  quiet_code : (c : Command) (k : ℕ) (r : Labels) (l : Option ℕ) (begun inner : Bool) (n : ℕ) (ls : Rings) (next : List Line) →
      AllFine u (parts_of k r l c) → Begun begun (parts_of k r l c) → ((d : Bool) → Within d (after begun (parts_of k r l c)) → Early d next) → Early inner (code_of made spare own c n ls next)
  quiet_code c k r l begun inner n ls next fine h rest =
      let says = good NotSpecial u c k r l (both_good NotSpecial u (parts_of k r l c) fine (all_quiet_so u (parts_of k r l c) fine h.quiet) (any_return NotSpecial u refl (parts_of k r l c))) in
      none_late inner (code_of made spare own c n ls next)
      (good_code NotSpecial made spare own special_keeps c n ls next (λ e. special_values spare) says (all_begun true next refl (rest true (λ e. h.ends))))

  mutual
    early_code : (c : Command) (k : ℕ) (r : Labels) (l : Option ℕ) (begun inner : Bool) (n : ℕ) (ls : Rings) (next : List Line) → Within inner begun →
        AllFine u (parts_of k r l c) → EarlyParts begun (parts_of k r l c) → ((d : Bool) → Within d (after begun (parts_of k r l c)) → Early d next) → Early inner (code_of made spare own c n ls next)
    early_code (Empty p) k r l begun inner n ls next may fine h rest = rest inner (λ e. right_is (begins l Bare) begun (may e))
    early_code (Block p ss) k r l begun inner n ls next may fine h rest =
        early_all ss k (with_labels ss r) (begins l Bare || begun) inner n ls next (λ e. right_is (begins l Bare) begun (may e)) fine.1 h.1 rest
    early_code (Plain m p a) k r (Some l) begun inner n ls next may fine h rest = quiet_code (Plain m p a) k r (Some l) begun inner n ls next fine (labelled (Plain m p a) k r l begun h) rest
    early_code (Plain m p a) k r None begun inner n ls next may fine h rest =
        (by (is_specification a) inner may h.0, rest (begins_line a || inner) (still m a may))
      where
        by : (v b : Bool) → (b ≡ true → begun ≡ true) → (v && begun) ≡ false → (v && b) ≡ false
        by true true w e = absurd (true≢false (sym (w refl) ∙ e))
        by true false w e = refl
        by false b w e = refl

        still : (m : Option ℕ) (a : Act) → (inner ≡ true → begun ≡ true) → (begins_line a || inner) ≡ true → (begins m (Statement a) || begun) ≡ true
        still m a w e = or_case (begins_line a) inner e (λ t. left_is (begins m (Statement a)) begun (says_begins m a t)) (λ t. right_is (begins m (Statement a)) begun (w t))
    early_code (Labelled m p c) k r l begun inner n ls next may fine h rest = marked l fine h rest
      where
        marked : (o : Option ℕ) → AllFine u (with_mark k r o p (parts_of k r (Some m) c)) → EarlyParts begun (with_mark k r o p (parts_of k r (Some m) c)) →
            ((d : Bool) → Within d (after begun (with_mark k r o p (parts_of k r (Some m) c))) → Early d next) → Early inner (here m p ∷ code_of made spare own c n ls next)
        marked None f g go = (refl, quiet_code c k r (Some m) begun true n ls next f (labelled c k r m begun g) go)
        marked (Some o) f g go = (refl, quiet_code c k r (Some m) true true n ls next f.1 (labelled c k r m true g.1) go)
    early_code (If p e c) k r l begun inner n ls next may fine h rest = quiet_code (If p e c) k r l begun inner n ls next fine (started (If p e c) k r l begun refl h) rest
    early_code (IfElse p e c d) k r l begun inner n ls next may fine h rest = quiet_code (IfElse p e c d) k r l begun inner n ls next fine (started (IfElse p e c d) k r l begun refl h) rest
    early_code (While p e c) k r l begun inner n ls next may fine h rest = quiet_code (While p e c) k r l begun inner n ls next fine (started (While p e c) k r l begun refl h) rest
    early_code (For p a e b c) k r l begun inner n ls next may fine h rest = quiet_code (For p a e b c) k r l begun inner n ls next fine (started (For p a e b c) k r l begun refl h) rest
    early_code (Repeat p c) k r l begun inner n ls next may fine h rest = quiet_code (Repeat p c) k r l begun inner n ls next fine (started (Repeat p c) k r l begun refl h) rest
    early_code (RepeatUntil p c e q) k r l begun inner n ls next may fine h rest = quiet_code (RepeatUntil p c e q) k r l begun inner n ls next fine (started (RepeatUntil p c e q) k r l begun refl h) rest
    early_code (Do p x a b d c) k r l begun inner n ls next may fine h rest = quiet_code (Do p x a b d c) k r l begun inner n ls next fine (started (Do p x a b d c) k r l begun refl h) rest
    early_code (Switch p e cs) k r l begun inner n ls next may fine h rest = quiet_code (Switch p e cs) k r l begun inner n ls next fine (started (Switch p e cs) k r l begun refl h) rest
    early_code (Break p m) k r l begun inner n ls next may fine h rest = quiet_code (Break p m) k r l begun inner n ls next fine (started (Break p m) k r l begun refl h) rest
    early_code (Next p m) k r l begun inner n ls next may fine h rest = quiet_code (Next p m) k r l begun inner n ls next fine (started (Next p m) k r l begun refl h) rest
    early_code (Return p e) k r l begun inner n ls next may fine h rest = quiet_code (Return p e) k r l begun inner n ls next fine (started (Return p e) k r l begun refl h) rest

    early_all : (ss : Commands) (k : ℕ) (r : Labels) (begun inner : Bool) (n : ℕ) (ls : Rings) (next : List Line) → Within inner begun →
        AllFine u (parts_in k r ss) → EarlyParts begun (parts_in k r ss) → ((d : Bool) → Within d (after begun (parts_in k r ss)) → Early d next) → Early inner (all_code made spare own ss n ls next)
    early_all NoCommand k r begun inner n ls next may fine h rest = rest inner may
    early_all (AndCommand c ss) k r begun inner n ls next may fine h rest =
        let these = parts_of k r None c in
        let others = parts_in k r ss in
        let f = split P these others fine in
        let g = early_split begun these others h in
        early_code c k r None begun inner n ls (all_code made spare own ss (n + labels c) ls next) may f.0 g.0
        (λ d w. early_all ss k r (after begun these) d (n + labels c) ls next w f.1 g.1 (λ d1 w1. rest d1 (λ e. after_append begun these others ∙ w1 e)))

  early_end : (main v d : Bool) (p : Place) → Early d (end_unless main v p)
  early_end true true d p = tt
  early_end true false d p = (refl, tt)
  early_end false true d p = tt
  early_end false false d p = (refl, tt)

  -- the statements of a whole unit, without a declaration before them
  pub early_unit : (ss : Commands) (main v : Bool) (p : Place) (r : Labels) → AllFine u (parts_in 0 r ss) → EarlyParts false (parts_in 0 r ss) → Early false (all_code made spare own ss 0 [] (end_unless main v p))
  early_unit ss main v p r fine h = early_all ss 0 r false false 0 [] (end_unless main v p) (λ e. e) fine h (λ d w. early_end main v d p)
