-- Statements that lead where they may break no rule on order, labels and DO ranges.
use Rattle.std.proofs.Common.{◌≡◌, ℕ, zero, suc, ◌+◌, ◌≤◌, ◌<◌, Bool, true, false, true≢false, List, [], ◌∷◌, Option, Some, None, refl, sym, ap, ◌∙◌, subst, arith}
use Rattle.std.specs.Prelude.{nat_lt, not, ◌&&◌, ◌||◌, ◌==◌, cond, is_none, option_map, if◌then◌else◌}
use Rattle.std.specs.Option.{option_or}
use Rattle.std.specs.List.{slice_get, list_any}
use Rattle.std.proofs.lemmas.Bool.{or_from, or_parts, and_left, and_right, le-ltb, lt-ltb}
use Rattle.rule_table.specs.declared.rule.Rule.{Rule}
use Rattle.rule_table.specs.declared.rule.Rule.TheVariants.{Syntax, BadLabel, DoNesting}
use Rattle.rule_table.specs.First.{IsClean}
use Rattle.rule_table.specs.Words.{first_place, last_place, is_some_and, is_below, is_number}
use Rattle.f66_tree.specs.Syntax.{Header, MainUnit, SubUnit, FuncUnit, DataUnit, Act, Loop, Line}
use Rattle.f66_tree.specs.Units.{is_note}
use Rattle.f66_tree.specs.Execution.{has_label, from_label}
use Rattle.f66_flow.specs.Acts.{is_executable, is_format, is_misplaced, is_transfer, ends_no_range, branches, formats_named}
use Rattle.f66_flow.specs.Ranges as range_words
use Rattle.f66_flow.specs.Ranges.{label_place, named, range_end, range_ends, end_at, holds, some_below}
use Rattle.f66_flow.specs.FlowRules.{is_late, lacks_transfer, has_bad_label, leads_nowhere, names_no_format, leads_wrong, has_no_end, ends_wrong, overlaps, enters_at, enters, breaks_flow, breaks_flow_at, header_breaks_flow}
use Rattle.f66_flow.specs.declared.scope.Scope.TheVariants.{Whole}
use Rattle.f66_flow.proofs.NestLemmas.{none_below, held_parts, held_by}
use Rattle.f66_flow.proofs.EarlierLemmas.{end_of}
use Rattle.rat_lower.specs.Checked.{bit}
use Rattle.rat_lower.specs.Code as code_words
use Rattle.rat_lower.proofs.Simulation.Counts.{same_number, occurs, names, ends}
use Rattle.rat_lower.proofs.Simulation.Labels.{AreUnique}
use Rattle.rat_lower.proofs.Soundness.Kept.{AllSay}
use Rattle.rat_lower.proofs.Soundness.Targets.{Target, AllTargets, Ending, EndsRight, Leads, AllLead}

-- ---- the statements from a place on ----

abbrev from : ℕ → List Line → List Line
from zero code = code
from (suc i) [] = []
from (suc i) (s ∷ rest) = from i rest

from_there : (code : List Line) (i : ℕ) (s : Line) → slice_get code i ≡ Some s → from i code ≡ s ∷ from (suc i) code
from_there [] i s e = absurd (cc)
from_there (t ∷ rest) zero s e = let same : t ≡ s = cc in ap (λ x. x ∷ rest) same
from_there (t ∷ rest) (suc i) s e = from_there rest i s e

-- a count of the statements that pass a test
module _ (test : Line → Bool) (count : List Line → ℕ) (step : (s : Line) (rest : List Line) → count (s ∷ rest) ≡ bit (test s) + count rest) where
  none_more : (code : List Line) (p : ℕ) → count (from p code) ≤ count code
  none_more code zero = omega arith
  none_more [] (suc p) = omega arith
  none_more (s ∷ rest) (suc p) = omega (arith, none_more rest p, step s rest)

  -- it counts the statement at a place from there and from earlier places on, and not from later ones on
  counted_at : (code : List Line) (d p : ℕ) (s : Line) → slice_get code d ≡ Some s → test s ≡ true → p ≤ d → 1 ≤ count (from p code)
  counted_at [] d p s e t le = absurd (cc)
  counted_at (x ∷ rest) zero zero s e t le = let same : x ≡ s = cc in omega (arith, step x rest, ap (λ y. bit (test y)) same, ap bit t)
  counted_at (x ∷ rest) zero (suc p) s e t le = absurd (omega arith)
  counted_at (x ∷ rest) (suc d) zero s e t le = let h : 1 ≤ count rest = counted_at rest d zero s e t (omega arith) in omega (arith, step x rest)
  counted_at (x ∷ rest) (suc d) (suc p) s e t le = counted_at rest d p s e t (omega arith)

  counted_past : (code : List Line) (d p : ℕ) (s : Line) → slice_get code d ≡ Some s → test s ≡ true → d < p → count (from p code) + 1 ≤ count code
  counted_past [] d p s e t lt = absurd (cc)
  counted_past (x ∷ rest) d zero s e t lt = absurd (omega arith)
  counted_past (x ∷ rest) zero (suc p) s e t lt = let same : x ≡ s = cc in omega (arith, none_more rest p, step x rest, ap (λ y. bit (test y)) same, ap bit t)
  counted_past (x ∷ rest) (suc d) (suc p) s e t lt = omega (arith, counted_past rest d p s e t (omega arith), step x rest)

-- ---- the place of a label ----

record Placed (code : List Line) (l : ℕ) (t : Line) (behind : List Line) : Type 0 where
  pub place : ℕ
  pub is : label_place code l ≡ Some place
  pub there : slice_get code place ≡ Some t
  pub on : from place code ≡ t ∷ behind
  pub named_so : named code l ≡ Some t

placed : (code : List Line) (l : ℕ) (t : Line) (behind : List Line) → from_label l code ≡ t ∷ behind → Placed code l t behind
placed [] l t behind e = absurd (cc)
placed (s ∷ rest) l t behind e = by (has_label l s.label) refl (λ f. placed rest l t behind f)
  where
    by : (v : Bool) → has_label l s.label ≡ v → (from_label l rest ≡ t ∷ behind → Placed rest l t behind) → Placed (s ∷ rest) l t behind
    by true h later =
        let found : s ∷ rest ≡ t ∷ behind = sym (ap (λ v. if v then (s ∷ rest) else from_label l rest) h) ∙ e in
        let same : s ≡ t = cc in
        record {
          place = 0;
          is = ap (λ v. cond v (Some 0) (option_map (λ n. n + 1) (label_place rest l))) h;
          there = ap (λ x. Some x) same;
          on = found;
          named_so = ap (λ v. cond v (Some s) (named rest l)) h ∙ ap (λ x. Some x) same;
        }
    by false h later =
        let r : Placed rest l t behind = later (sym (ap (λ v. if v then (s ∷ rest) else from_label l rest) h) ∙ e) in
        let more : r.place + 1 ≡ suc r.place = omega arith in
        record {
          place = suc r.place;
          is = ap (λ v. cond v (Some 0) (option_map (λ n. n + 1) (label_place rest l))) h ∙ ap (option_map (λ n. n + 1)) r.is ∙ ap (λ n. Some n) more;
          there = r.there;
          on = r.on;
          named_so = ap (λ v. cond v (Some s) (named rest l)) h ∙ r.named_so;
        }

-- the statement that a label names has it
record Has (code : List Line) (l p : ℕ) : Type 0 where
  pub line : Line
  pub there : slice_get code p ≡ Some line
  pub has : has_label l line.label ≡ true

has_it : (code : List Line) (l p : ℕ) → label_place code l ≡ Some p → Has code l p
has_it [] l p e = absurd (cc)
has_it (s ∷ rest) l p e = by (has_label l s.label) refl (label_place rest l) refl (λ n f. has_it rest l n f)
  where
    by : (v : Bool) → has_label l s.label ≡ v → (o : Option ℕ) → label_place rest l ≡ o → ((n : ℕ) → label_place rest l ≡ Some n → Has rest l n) → Has (s ∷ rest) l p
    by true h o f later =
        let zero_is : 0 ≡ p = let q : Some 0 ≡ Some p = sym (ap (λ v. cond v (Some 0) (option_map (λ n. n + 1) (label_place rest l))) h) ∙ e in cc in
        subst (λ n. Has (s ∷ rest) l n) zero_is (record { line = s; there = refl; has = h })
    by false h None f later = let q : None ≡ Some p = sym (ap (λ v. cond v (Some 0) (option_map (λ n. n + 1) (label_place rest l))) h ∙ ap (option_map (λ n. n + 1)) f) ∙ e in absurd (cc)
    by false h (Some n) f later =
        let q : Some (n + 1) ≡ Some p = sym (ap (λ v. cond v (Some 0) (option_map (λ n. n + 1) (label_place rest l))) h ∙ ap (option_map (λ n. n + 1)) f) ∙ e in
        let m : n + 1 ≡ p = cc in
        let more : suc n ≡ p = omega (arith, m) in
        let r : Has rest l n = later n f in
        subst (λ k. Has (s ∷ rest) l k) more (record { line = r.line; there = r.there; has = r.has })

-- ---- the last statement that is executed ----

same_transfer : (a : Act) → code_words.is_transfer a ≡ is_transfer a
same_transfer (Loop l x a b c) = refl
same_transfer _ = refl

abbrev Runs : Line → Bool
Runs s = is_executable s.act

record LastRight (code : List Line) (other : Bool) (o : Option ℕ) : Type 0 where
  pub none : o ≡ None → other ≡ true
  pub some : (i : ℕ) (s : Line) → o ≡ Some i → slice_get code i ≡ Some s → is_transfer s.act ≡ true

last_right : (code : List Line) (other : Bool) → code_words.ends_so other code ≡ true → LastRight code other (last_place Runs code)
last_right [] other e = record { none = λ f. e; some = λ i s f g. absurd (cc) }
last_right (x ∷ rest) other e = by (is_note x.act) refl (last_place Runs rest) refl (λ b h. last_right rest b h)
  where
    behind : ((b : Bool) → code_words.ends_so b rest ≡ true → LastRight rest b (last_place Runs rest)) → (b : Bool) → code_words.ends_so b rest ≡ true → (o : Option ℕ) → last_place Runs rest ≡ o → LastRight rest b o
    behind later b h o f = subst (λ p. LastRight rest b p) f (later b h)

    by : (v : Bool) → is_note x.act ≡ v → (o : Option ℕ) → last_place Runs rest ≡ o → ((b : Bool) → code_words.ends_so b rest ≡ true → LastRight rest b (last_place Runs rest)) → LastRight (x ∷ rest) other (last_place Runs (x ∷ rest))
    by true h None f ih =
        let r = behind ih other (sym (ap (λ b. if b then code_words.ends_so other rest else code_words.ends_so (code_words.is_transfer x.act) rest) h) ∙ e) None f in
        let is : last_place Runs (x ∷ rest) ≡ None = ap (λ p. option_or (option_map (λ n. n + 1) p) (cond (not (is_note x.act)) (Some 0) None)) f ∙ ap (λ b. cond (not b) (Some 0) None) h in
        record { none = λ g. r.none refl; some = λ i s g t. absurd (let no : None ≡ Some i = sym is ∙ g in cc) }
    by false h None f ih =
        let r = behind ih (code_words.is_transfer x.act) (sym (ap (λ b. if b then code_words.ends_so other rest else code_words.ends_so (code_words.is_transfer x.act) rest) h) ∙ e) None f in
        let is : last_place Runs (x ∷ rest) ≡ Some 0 = ap (λ p. option_or (option_map (λ n. n + 1) p) (cond (not (is_note x.act)) (Some 0) None)) f ∙ ap (λ b. cond (not b) (Some 0) None) h in
        record {
          none = λ g. absurd (let no : Some 0 ≡ None = sym is ∙ g in cc);
          some = λ i s g t.
              let z : 0 ≡ i = let q : Some 0 ≡ Some i = sym is ∙ g in cc in
              let there : Some x ≡ Some s = ap (slice_get (x ∷ rest)) z ∙ t in
              let same : x ≡ s = cc in
              ap (λ y. is_transfer y.act) (sym same) ∙ sym (same_transfer x.act) ∙ r.none refl;
        }
    by v h (Some n) f ih =
        let r = behind ih (if is_note x.act then other else code_words.is_transfer x.act) (later (is_note x.act) e) (Some n) f in
        let is : last_place Runs (x ∷ rest) ≡ Some (n + 1) = ap (λ p. option_or (option_map (λ n1. n1 + 1) p) (cond (not (is_note x.act)) (Some 0) None)) f in
        record {
          none = λ g. absurd (let no : Some (n + 1) ≡ None = sym is ∙ g in cc);
          some = λ i s g t.
              let z : n + 1 ≡ i = let q : Some (n + 1) ≡ Some i = sym is ∙ g in cc in
              let more : i ≡ suc n = omega (arith, z) in
              r.some n s refl (sym (ap (slice_get (x ∷ rest)) more) ∙ t);
        }
      where
        later : (b : Bool) → (if b then code_words.ends_so other rest else code_words.ends_so (code_words.is_transfer x.act) rest) ≡ true → code_words.ends_so (if b then other else code_words.is_transfer x.act) rest ≡ true
        later true k = k
        later false k = k

none_first : (code : List Line) → first_place Runs code ≡ None → (other : Bool) → code_words.ends_so other code ≡ other
none_first [] e other = refl
none_first (x ∷ rest) e other = by (is_note x.act) refl (first_place Runs rest) refl (λ f. none_first rest f other)
  where
    by : (v : Bool) → is_note x.act ≡ v → (o : Option ℕ) → first_place Runs rest ≡ o → (first_place Runs rest ≡ None → code_words.ends_so other rest ≡ other) → code_words.ends_so other (x ∷ rest) ≡ other
    by true h None f later = ap (λ b. if b then code_words.ends_so other rest else code_words.ends_so (code_words.is_transfer x.act) rest) h ∙ later f
    by true h (Some n) f later = absurd (let no : Some (n + 1) ≡ None = sym (ap (λ b. cond (not b) (Some 0) (option_map (λ n1. n1 + 1) (first_place Runs rest))) h ∙ ap (option_map (λ n1. n1 + 1)) f) ∙ e in cc)
    by false h o f later = absurd (let no : Some 0 ≡ None = sym (ap (λ b. cond (not b) (Some 0) (option_map (λ n1. n1 + 1) (first_place Runs rest))) h) ∙ e in cc)

-- the last statement that is executed is a transfer
finished_last : (code : List Line) → code_words.ends_so false code ≡ true → (i : ℕ) (s : Line) → slice_get code i ≡ Some s → lacks_transfer code i s.act ≡ false
finished_last code finished i s is = by (last_place Runs code) refl
  where
    right : LastRight code false (last_place Runs code)
    right = last_right code false finished

    by : (o : Option ℕ) → last_place Runs code ≡ o → (is_number i (last_place Runs code) && not (is_transfer s.act)) ≡ false
    by None f = and_left _ _ (ap (is_number i) f)
    by (Some m) f = at (m == i) refl
      where
        equal : (a b : ℕ) → (a == b) ≡ true → a ≡ b
        equal a b e = grind (arith, e)

        at : (v : Bool) → (m == i) ≡ v → (is_number i (last_place Runs code) && not (is_transfer s.act)) ≡ false
        at true e = and_right _ (not (is_transfer s.act)) (ap not (right.some m s f (ap (slice_get code) (equal m i e) ∙ is)))
        at false e = and_left _ _ (ap (is_number i) f ∙ e)

-- there is one
finished_head : (code : List Line) → code_words.ends_so false code ≡ true → (k : Rule) → header_breaks_flow Whole MainUnit code k ≡ false
finished_head code finished Syntax = by (first_place Runs code) refl
  where
    by : (o : Option ℕ) → first_place Runs code ≡ o → is_none o ≡ false
    by None e = absurd (true≢false (sym finished ∙ none_first code e false))
    by (Some n) e = refl
finished_head code finished _ = refl

-- BLOCK DATA has none
abbrev pub IsPlaced : Header → Act → Type 0
IsPlaced h a = is_misplaced h a ≡ false

none_last : (code : List Line) → AllSay (IsPlaced DataUnit) code → last_place Runs code ≡ None
none_last [] h = refl
none_last (x ∷ rest) h =
    ap (λ o. option_or (option_map (λ n. n + 1) o) (cond (is_executable x.act) (Some 0) None)) (none_last rest h.1)
    ∙ ap (λ b. cond b (Some 0) None) (or_parts (is_executable x.act) (is_format x.act) h.0).0

none_lacks : (code : List Line) → AllSay (IsPlaced DataUnit) code → (i : ℕ) (a : Act) → lacks_transfer code i a ≡ false
none_lacks code h i a = and_left (is_number i (last_place Runs code)) (not (is_transfer a)) (ap (is_number i) (none_last code h))

data_head : (code : List Line) (k : Rule) → header_breaks_flow Whole DataUnit code k ≡ false
data_head code Syntax = refl
data_head code _ = refl

-- ---- the rules ----

-- neither the header nor a statement breaks a rule on order, labels or DO ranges (X3.9-1966, sections 3.4, 7.1.2, 7.2 and 9.1)
pub record KeepsFlow (h : Header) (lines : List Line) : Type 0 where
  pub header : (k : Rule) → header_breaks_flow Whole h lines k ≡ false
  pub statements : IsClean (breaks_flow_at Whole h lines)

-- what is asked of the statements of a unit besides where they lead
pub record Orderly (h : Header) (code : List Line) : Type 0 where
  pub once : (l : ℕ) → ends l code ≤ 1
  pub ranged : (l : ℕ) → 1 ≤ occurs l code → (1 ≤ l) × (l ≤ 99999)
  pub early : (i : ℕ) (s : Line) → slice_get code i ≡ Some s → is_late code i s.act ≡ false
  pub formats : (i : ℕ) (s : Line) → slice_get code i ≡ Some s → list_any (names_no_format code) (formats_named s.act) ≡ false
  pub placed : AllSay (IsPlaced h) code
  pub last : code_words.ends_itself h code ≡ true

placed_at : (h : Header) (code : List Line) → AllSay (IsPlaced h) code → (i : ℕ) (s : Line) → slice_get code i ≡ Some s → is_misplaced h s.act ≡ false
placed_at h [] k i s e = absurd (cc)
placed_at h (x ∷ rest) k zero s e = let same : x ≡ s = cc in subst (λ (y : Line). is_misplaced h y.act ≡ false) same k.0
placed_at h (x ∷ rest) k (suc i) s e = placed_at h rest k.1 i s e

-- by the kind of the unit
last_at : (h : Header) (code : List Line) → code_words.ends_itself h code ≡ true → AllSay (IsPlaced h) code → (i : ℕ) (s : Line) → slice_get code i ≡ Some s → lacks_transfer code i s.act ≡ false
last_at MainUnit code e k i s is = finished_last code e i s is
last_at (SubUnit x ds) code e k i s is = finished_last code e i s is
last_at (FuncUnit t x ds) code e k i s is = finished_last code e i s is
last_at DataUnit code e k i s is = none_lacks code k i s.act

head_at : (h : Header) (code : List Line) → code_words.ends_itself h code ≡ true → (k : Rule) → header_breaks_flow Whole h code k ≡ false
head_at MainUnit code e k = finished_head code e k
head_at (SubUnit x ds) code e Syntax = finished_head code e Syntax
head_at (SubUnit x ds) code e _ = refl
head_at (FuncUnit t x ds) code e Syntax = finished_head code e Syntax
head_at (FuncUnit t x ds) code e _ = refl
head_at DataUnit code e k = data_head code k

module _ (code : List Line) (unique : AreUnique code) (IsEnd : ℕ → Type 0) (is_end : (q : ℕ) → 1 ≤ ends q code → IsEnd q) (h : Header) (orderly : Orderly h code) (leads : AllLead code unique IsEnd code) where
  lead_at : (rest : List Line) → AllLead code unique IsEnd rest → (i : ℕ) (s : Line) → slice_get rest i ≡ Some s → Leads code unique IsEnd s (from (suc i) rest)
  lead_at [] k i s e = absurd (cc)
  lead_at (x ∷ rest) k zero s e = let same : x ≡ s = cc in subst (λ y. Leads code unique IsEnd y rest) same k.0
  lead_at (x ∷ rest) k (suc i) s e = lead_at rest k.1 i s e

  abbrev all_ends : List ℕ
  all_ends = range_ends code

  -- labels and DOs by their counts
  labelled_at : (l d p : ℕ) (s : Line) → slice_get code d ≡ Some s → has_label l s.label ≡ true → p ≤ d → 1 ≤ occurs l (from p code)
  labelled_at l d p s e t le = counted_at (λ s. has_label l s.label) (occurs l) (λ s rest. refl) code d p s e t le

  labelled_past : (l d p : ℕ) (s : Line) → slice_get code d ≡ Some s → has_label l s.label ≡ true → d < p → occurs l (from p code) ≡ 0
  labelled_past l d p s e t lt = omega (arith, counted_past (λ s. has_label l s.label) (occurs l) (λ s rest. refl) code d p s e t lt, unique l)

  label_most : (l p : ℕ) → occurs l (from p code) ≤ 1
  label_most l p = omega (arith, none_more (λ s. has_label l s.label) (occurs l) (λ s rest. refl) code p, unique l)

  -- what a DO range holds: the places behind its DO with its end still ahead
  record Ranged (d : ℕ) : Type 0 where
    pub label : ℕ
    pub is : IsEnd label
    pub inside : (p : ℕ) → holds all_ends d p ≡ true → (ends label (from p code) ≡ 0) × (1 ≤ occurs label (from p code))
    pub back : (p : ℕ) → ends label (from p code) ≡ 0 → 1 ≤ occurs label (from p code) → holds all_ends d p ≡ true

  do_range : (d : ℕ) (s : Line) (l : ℕ) → slice_get code d ≡ Some s → names l s.act ≡ true → Ending code unique IsEnd (s ∷ from (suc d) code) l (from (suc d) code) → ((t : ℕ) → label_place code l ≡ Some t → end_at all_ends d ≡ t) → Ranged d
  do_range d s l is name ending ends_at =
      let P = placed code l (code_words.here l ending.place) ending.behind ending.found in
      let count : (p : ℕ) → p ≤ d → 1 ≤ ends l (from p code) = λ p le. counted_at (λ s1. names l s1.act) (ends l) (λ s1 rest. refl) code d p s is name le in
      let past : (p : ℕ) → d < p → ends l (from p code) + 1 ≤ ends l code = λ p lt. counted_past (λ s1. names l s1.act) (ends l) (λ s1 rest. refl) code d p s is name lt in
      let ends_there : end_at all_ends d ≡ P.place = ends_at P.place P.is in
      record {
        label = l;
        is = is_end l (count 0 (omega arith));
        inside = λ p h. let k = held_parts all_ends d p h in
            (omega (arith, past p k.0, orderly.once l), labelled_at l P.place p (code_words.here l ending.place) P.there (same_number l) (omega (arith, k.1, ends_there)));
        back = λ p e o.
            let after : ¬ (p ≤ d) = λ le. absurd (omega (arith, count p le, e)) in
            let before : ¬ (P.place < p) = λ lt. absurd (omega (arith, labelled_past l P.place p (code_words.here l ending.place) P.there (same_number l) lt, o)) in
            let a : d < p = omega arith in
            let b : p ≤ end_at all_ends d = omega (arith, ends_there) in
            held_by all_ends d p a b;
      }

  range_at : (d p : ℕ) → holds all_ends d p ≡ true → Ranged d
  range_at d p h = by (slice_get code d) refl
    where
      parts : (d < p) × (p ≤ end_at all_ends d)
      parts = held_parts all_ends d p h

      by_act : (s : Line) → slice_get code d ≡ Some s → (a : Act) → s.act ≡ a → Ranged d
      by_act s is (Loop l x a b c) act =
          do_range d s l is (ap (names l) act ∙ same_number l)
          (subst (λ y. EndsRight code unique IsEnd (s ∷ from (suc d) code) y (from (suc d) code)) act (lead_at code leads d s is).ending)
          (λ t e. end_of code d (Some s) is ∙ ap (range_end code) act ∙ place_is t e)
        where
          place_is : (t : ℕ) → label_place code l ≡ Some t → range_end code (Loop l x a b c) ≡ t
          place_is t e = ap range_words.place_or_zero e
      by_act s is a act = absurd (let none : end_at all_ends d ≡ 0 = end_of code d (Some s) is ∙ ap (range_end code) act in omega (arith, parts.0, parts.1))

      by : (o : Option Line) → slice_get code d ≡ o → Ranged d
      by None is = absurd (let none : end_at all_ends d ≡ 0 = end_of code d None is in omega (arith, parts.0, parts.1))
      by (Some s) is = by_act s is s.act refl

  -- a branch and what it leads to
  module _ (i : ℕ) (s : Line) (is : slice_get code i ≡ Some s) where
    abbrev here_on : List Line
    here_on = s ∷ from (suc i) code

    on : from i code ≡ here_on
    on = from_there code i s is

    lead_here : Leads code unique IsEnd s (from (suc i) code)
    lead_here = lead_at code leads i s is

    finds : (m : ℕ) → Target code unique IsEnd here_on m → leads_nowhere code m ≡ false
    finds m t = let P = placed code m t.line t.behind t.found in ap (λ o. not (is_some_and Runs o)) P.named_so ∙ ap not t.runs

    enters_none : (m : ℕ) → Target code unique IsEnd here_on m → enters code i m ≡ false
    enters_none m t = ap (is_some_and (enters_at code i)) P.is ∙ none_below P.place _ (λ d lt. by d (holds all_ends d P.place) refl)
      where
        P : Placed code m t.line t.behind
        P = placed code m t.line t.behind t.found

        still : (d : ℕ) → holds all_ends d P.place ≡ true → holds all_ends d i ≡ true
        still d h =
            let r = range_at d P.place h in
            let k = r.inside P.place h in
            let q = r.label in
            let e1 = ap (ends q) P.on in
            let e2 = ap (occurs q) P.on in
            let e3 = ap (ends q) on in
            let e4 = ap (occurs q) on in
            let none : ends q (from i code) ≡ 0 = omega (arith, t.enters q r.is, k.0, k.1, e1, e2, e3, e4, label_most q i) in
            let some : 1 ≤ occurs q (from i code) = omega (arith, t.enters q r.is, k.0, k.1, e1, e2, e3, e4) in
            r.back i none some

        by : (d : ℕ) (v : Bool) → holds all_ends d P.place ≡ v → (holds all_ends d P.place && not (holds all_ends d i)) ≡ false
        by d true h = and_right (holds all_ends d P.place) (not (holds all_ends d i)) (ap not (still d h))
        by d false h = and_left (holds all_ends d P.place) (not (holds all_ends d i)) h

    none_of : (test : ℕ → Bool) → ((m : ℕ) → Target code unique IsEnd here_on m → test m ≡ false) → (ms : List ℕ) → AllTargets code unique IsEnd here_on ms → list_any test ms ≡ false
    none_of test each [] ts = refl
    none_of test each (m ∷ ms) ts = or_from (test m) (list_any test ms) (each m ts.0) (none_of test each ms ts.1)

    -- the range of a DO here
    module _ (l : ℕ) (ending : Ending code unique IsEnd here_on l (from (suc i) code)) where
      P : Placed code l (code_words.here l ending.place) ending.behind
      P = placed code l (code_words.here l ending.place) ending.behind ending.found

      ends_there : leads_nowhere code l ≡ false
      ends_there = ap (λ o. not (is_some_and Runs o)) P.named_so

      behind_it : i < P.place
      behind_it =
          let past : ¬ (P.place < suc i) = λ lt. absurd (omega (arith, labelled_past l P.place (suc i) (code_words.here l ending.place) P.there (same_number l) lt, ending.later)) in
          omega arith

      end_right : (not (is_some_and (λ t. nat_lt i t) (label_place code l)) || is_some_and (λ t. ends_no_range t.act) (named code l)) ≡ false
      end_right =
          or_from _ _ (ap (λ o. not (is_some_and (λ t. nat_lt i t) o)) P.is ∙ ap not (lt-ltb i P.place behind_it))
          (ap (is_some_and (λ t. ends_no_range t.act)) P.named_so)

      no_overlap : some_below i (λ d. holds all_ends d i && nat_lt (end_at all_ends d) (range_words.place_or_zero (label_place code l))) ≡ false
      no_overlap = none_below i _ (λ d lt. by d (holds all_ends d i) refl)
        where
          later : (d : ℕ) → holds all_ends d i ≡ true → P.place ≤ end_at all_ends d
          later d h =
              let r = range_at d i h in
              let k = r.inside i h in
              let q = r.label in
              let e1 = ap (ends q) P.on in
              let e2 = ap (occurs q) P.on in
              let e3 = ap (ends q) on in
              let e4 = ap (occurs q) on in
              let none : ends q (from P.place code) ≡ 0 = omega (arith, ending.leaves q r.is, k.0, k.1, e1, e2, e3, e4, label_most q P.place) in
              let some : 1 ≤ occurs q (from P.place code) = omega (arith, ending.leaves q r.is, k.0, k.1, e1, e2, e3, e4) in
              (held_parts all_ends d P.place (r.back P.place none some)).1

          by : (d : ℕ) (v : Bool) → holds all_ends d i ≡ v → (holds all_ends d i && nat_lt (end_at all_ends d) (range_words.place_or_zero (label_place code l))) ≡ false
          by d true h = and_right (holds all_ends d i) _ (ap (λ o. nat_lt (end_at all_ends d) (range_words.place_or_zero o)) P.is ∙ le-ltb (end_at all_ends d) P.place (later d h))
          by d false h = and_left (holds all_ends d i) _ h

    -- each rule of ranges, by the statement
    ranges_right : (a : Act) → EndsRight code unique IsEnd here_on a (from (suc i) code) → (has_no_end code a ≡ false) × ((ends_wrong code i a || overlaps code i a) ≡ false)
    ranges_right (Loop l x a b c) ending = (ends_there l ending, or_from _ _ (end_right l ending) (no_overlap l ending))
    ranges_right _ ending = (refl, none_below i _ (λ d lt. and_right (holds all_ends d i) (nat_lt (end_at all_ends d) 0) (le-ltb (end_at all_ends d) 0 (omega arith))))

    label_right : (o : Option ℕ) → s.label ≡ o → has_bad_label code i s ≡ false
    label_right None e = ap (is_some_and _) e
    label_right (Some l) e =
        ap (is_some_and (λ l. l == 0 || (nat_lt 99999 l || is_below i (label_place code l)))) e
        ∙ or_from (l == 0) _ (not_zero l range.0) (or_from (nat_lt 99999 l) _ (le-ltb 99999 l range.1) (not_before (label_place code l) refl))
      where
        mine : has_label l s.label ≡ true
        mine = ap (has_label l) e ∙ same_number l

        range : (1 ≤ l) × (l ≤ 99999)
        range = orderly.ranged l (labelled_at l i 0 s is mine (omega arith))

        not_zero : (n : ℕ) → 1 ≤ n → (n == 0) ≡ false
        not_zero n le = grind (arith, le)

        not_before : (o : Option ℕ) → label_place code l ≡ o → is_below i o ≡ false
        not_before None f = refl
        not_before (Some p) f =
            let t = has_it code l p f in
            let no : ¬ (p < i) = λ lt. absurd (omega (arith, labelled_past l p i t.line t.there t.has lt, labelled_at l i i s is mine (omega arith))) in
            le-ltb p i (omega arith)

    rule_kept : (k : Rule) → breaks_flow Whole h code i s k ≡ false
    rule_kept Syntax = or_from (is_misplaced h s.act) _ (placed_at h code orderly.placed i s is) (or_from (is_late code i s.act) _ (orderly.early i s is) (last_at h code orderly.last orderly.placed i s is))
    rule_kept BadLabel =
        let r = ranges_right s.act lead_here.ending in
        or_from (has_bad_label code i s) _ (label_right s.label refl)
        (or_from (leads_wrong code s.act) _ (or_from _ _ (none_of (leads_nowhere code) finds (branches s.act) lead_here.targets) (orderly.formats i s is)) r.0)
    rule_kept DoNesting =
        let r = ranges_right s.act lead_here.ending in
        let two = or_parts (ends_wrong code i s.act) (overlaps code i s.act) r.1 in
        or_from (ends_wrong code i s.act) _ two.0 (or_from (overlaps code i s.act) _ two.1 (none_of (enters code i) enters_none (branches s.act) lead_here.targets))
    rule_kept _ = refl

  -- no rule is broken
  statements_kept : (i : ℕ) (k : Rule) → breaks_flow_at Whole h code i k ≡ false
  statements_kept i k = by (slice_get code i) refl
    where
      by : (o : Option Line) → slice_get code i ≡ o → is_some_and (λ s. breaks_flow Whole h code i s k) o ≡ false
      by None e = refl
      by (Some s) e = rule_kept i s e k

  pub flow_kept : KeepsFlow h code
  flow_kept = record { header = head_at h code orderly.last; statements = statements_kept }
