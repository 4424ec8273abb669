-- The statements of a unit that are not executed, by its parts: what they name, and that each label of a format has one.
use Rattle.std.proofs.Common.{◌≡◌, ℕ, suc, Bool, true, false, true≢false, List, [], ◌∷◌, ◌++◌, ◌⊎◌, inl, inr, Option, Some, None, refl, sym, ap, ◌∙◌, subst}
use Rattle.std.specs.Prelude.{is_some, nat_eq, ◌||◌, if◌then◌else◌}
use Rattle.ground.specs.declared.place.Place.{Place}
use Rattle.f66_tree.specs.Fields.{Fields}
use Rattle.f66_tree.specs.Syntax.{Header, Text, Act, Assign, Invoke, Format}
use Rattle.f66_tree.specs.Units.{is_note, Note, format_by, format_of}
use Rattle.rat_tree.specs.Syntax.{Command, Empty, Block, If, IfElse, While, For, Repeat, RepeatUntil, Do, Switch, Break, Next, Return, Plain, Labelled, Commands, NoCommand, AndCommand, Clauses, NoClause, AndClause}
use Rattle.rat_check.specs.Parts.{Form, Bare, RepeatHead, Statement, Condition, Selector, CaseList, ForHead, DoHead, LoopExit, ReturnHead, Labels, no_label, with_label, Part, part, with_mark, with_labels, parts_of, parts_in, clause_parts, unit_parts}
use Rattle.rat_check.specs.Said.{said_by}
use Rattle.rat_check.specs.Rules.{is_simple, UnitRules}
use Rattle.rat_check.specs.FirstFault.{format_label, with_formats}
use Rattle.rat_check.proofs.CleanLemmas.{and_true}
use Rattle.rat_lower.specs.Notes.{note_then, note_if_any, notes_in, all_notes, clause_notes, notes_of_unit}
use Rattle.rat_lower.specs.Checked.{NamesOfNote, NamesOfNotes}
use Rattle.rat_lower.proofs.Accepted.NoFault.{AllParts, split, unmarked, Fine, AllFine, AllOf, SaysSo}
use Rattle.rat_lower.proofs.Accepted.Reached.{or_true, eq_turned}

-- ---- the notes of parts ----

abbrev pub form_note : Option ℕ → Form → List Note → List Note
form_note l (Statement a) rest = note_then l a rest
form_note l Bare rest = rest
form_note l RepeatHead rest = rest
form_note l (Condition e) rest = rest
form_note l (Selector e) rest = rest
form_note l (CaseList es second) rest = rest
form_note l (ForHead a e b) rest = rest
form_note l (DoHead x a b c) rest = rest
form_note l (LoopExit n) rest = rest
form_note l (ReturnHead e) rest = rest

abbrev pub part_notes : List Part → List Note → List Note
part_notes [] rest = rest
part_notes (v ∷ vs) rest = form_note v.label v.form (part_notes vs rest)

notes_append : (xs ys : List Part) (rest : List Note) → part_notes (xs ++ ys) rest ≡ part_notes xs (part_notes ys rest)
notes_append [] ys rest = refl
notes_append (x ∷ xs) ys rest = ap (form_note x.label x.form) (notes_append xs ys rest)

notes_mark : (k : ℕ) (r : Labels) (o : Option ℕ) (p : Place) (vs : List Part) (rest : List Note) → part_notes (with_mark k r o p vs) rest ≡ part_notes vs rest
notes_mark k r None p vs rest = refl
notes_mark k r (Some l) p vs rest = refl

no_note : (o : Option Act) → is_simple o ≡ true → (rest : List Note) → note_if_any o rest ≡ rest
no_note None e rest = refl
no_note (Some (Assign x f)) e rest = refl
no_note (Some (Invoke x es)) e rest = refl
no_note (Some _) e rest = absurd (true≢false (sym e))

module _ (u : UnitRules) where
  abbrev P : Part → Type 0
  P = Fine u

  mutual
    notes_by : (c : Command) (k : ℕ) (r : Labels) (o : Option ℕ) → AllFine u (parts_of k r o c) → (rest : List Note) → notes_in c rest ≡ part_notes (parts_of k r o c) rest
    notes_by (Empty p) k r o h rest = refl
    notes_by (Block p ss) k r o h rest = notes_by_all ss k (with_labels ss r) h.1 rest
    notes_by (If p e c) k r o h rest = notes_by c k r None h.1 rest
    notes_by (IfElse p e c d) k r o h rest =
        let both = split P (parts_of k r None c) (parts_of k r None d) h.1 in
        ap (notes_in c) (notes_by d k r None both.1 rest) ∙ notes_by c k r None both.0 (part_notes (parts_of k r None d) rest) ∙ sym (notes_append (parts_of k r None c) (parts_of k r None d) rest)
    notes_by (While p e c) k r o h rest = notes_by c (suc k) r None h.1 rest
    notes_by (For p first e step c) k r o h rest =
        let form = and_true (is_simple first) (is_simple step) h.0.ratfor in
        no_note first form.0 (notes_in c (note_if_any step rest)) ∙ ap (notes_in c) (no_note step form.1 rest) ∙ notes_by c (suc k) r None h.1 rest
    notes_by (Repeat p c) k r o h rest = notes_by c (suc k) r None h.1 rest
    notes_by (RepeatUntil p c e q) k r o h rest =
        let both = split P (parts_of (suc k) r None c) (part k r None q (Condition e) ∷ []) h.1 in
        notes_by c (suc k) r None both.0 rest ∙ sym (notes_append (parts_of (suc k) r None c) (part k r None q (Condition e) ∷ []) rest)
    notes_by (Do p x i j m c) k r o h rest = notes_by c (suc k) r None h.1 rest
    notes_by (Switch p e cs) k r o h rest = notes_by_clauses cs k r false h.1 rest
    notes_by (Break p n) k r o h rest = refl
    notes_by (Next p n) k r o h rest = refl
    notes_by (Return p e) k r o h rest = refl
    notes_by (Plain m p a) k r o h rest = sym (notes_mark k r o p (part k r m p (Statement a) ∷ []) rest)
    notes_by (Labelled m p c) k r o h rest =
        notes_by c k r (Some m) (unmarked P k r o p (parts_of k r (Some m) c) h) rest ∙ sym (notes_mark k r o p (parts_of k r (Some m) c) rest)

    notes_by_all : (ss : Commands) (k : ℕ) (r : Labels) → AllFine u (parts_in k r ss) → (rest : List Note) → all_notes ss rest ≡ part_notes (parts_in k r ss) rest
    notes_by_all NoCommand k r h rest = refl
    notes_by_all (AndCommand c ss) k r h rest =
        let both = split P (parts_of k r None c) (parts_in k r ss) h in
        ap (notes_in c) (notes_by_all ss k r both.1 rest) ∙ notes_by c k r None both.0 (part_notes (parts_in k r ss) rest) ∙ sym (notes_append (parts_of k r None c) (parts_in k r ss) rest)

    notes_by_clauses : (cs : Clauses) (k : ℕ) (r : Labels) (seen : Bool) → AllFine u (clause_parts k r seen cs) → (rest : List Note) → clause_notes cs rest ≡ part_notes (clause_parts k r seen cs) rest
    notes_by_clauses NoClause k r seen h rest = refl
    notes_by_clauses (AndClause es fallback ss p cs) k r seen h rest =
        let own = parts_in k (with_labels ss r) ss in
        let others = clause_parts k r (seen || fallback) cs in
        let both = split P own others h.1 in
        ap (all_notes ss) (notes_by_clauses cs k r (seen || fallback) both.1 rest) ∙ notes_by_all ss k (with_labels ss r) both.0 (part_notes others rest) ∙ sym (notes_append own others rest)

  pub unit_notes : (ss : Commands) → AllFine u (unit_parts ss) → notes_of_unit ss ≡ part_notes (unit_parts ss) []
  unit_notes ss h = notes_by_all ss 0 (with_labels ss no_label) h []

-- ---- what they name ----

module _ (header : Header) (K : Text → Type 0) where
  note_names : (v : Bool) (l : Option ℕ) (a : Act) (rest : List Note) → NamesOfNote K a → NamesOfNotes K rest → NamesOfNotes K (if v then (record { label = l; act = a } ∷ rest) else rest)
  note_names true l a rest h k = (h, k)
  note_names false l a rest h k = k

  form_names : (l : Option ℕ) (form : Form) (rest : List Note) → AllOf (NamesOfNote K) (said_by header form) → NamesOfNotes K rest → NamesOfNotes K (form_note l form rest)
  form_names l (Statement a) rest h k = note_names (is_note a) l a rest h.0 k
  form_names l Bare rest h k = k
  form_names l RepeatHead rest h k = k
  form_names l (Condition e) rest h k = k
  form_names l (Selector e) rest h k = k
  form_names l (CaseList es second) rest h k = k
  form_names l (ForHead a e b) rest h k = k
  form_names l (DoHead x a b c) rest h k = k
  form_names l (LoopExit n) rest h k = k
  form_names l (ReturnHead e) rest h k = k

  names_of_parts : (vs : List Part) → AllParts (SaysSo header (NamesOfNote K)) vs → NamesOfNotes K (part_notes vs [])
  names_of_parts [] h = tt
  names_of_parts (v ∷ vs) h = form_names v.label v.form (part_notes vs []) h.0 (names_of_parts vs h.1)

  pub names_of_notes : (u : UnitRules) (ss : Commands) → AllFine u (unit_parts ss) → AllParts (SaysSo header (NamesOfNote K)) (unit_parts ss) → NamesOfNotes K (notes_of_unit ss)
  names_of_notes u ss fine h = subst (λ notes. NamesOfNotes K notes) (sym (unit_notes u ss fine)) (names_of_parts (unit_parts ss) h)

-- ---- the formats that a WRITE may name ----

abbrev Has : ℕ → List Note → Type 0
Has m notes = is_some (format_of m notes) ≡ true

module _ (m : ℕ) (rest : List Note) where
  -- with one note more
  one_format : (l : Option ℕ) (a : Act) → Has m rest → is_some (format_by m l a (format_of m rest)) ≡ true
  one_format None a h = h
  one_format (Some l) (Format f) h = by (nat_eq l m)
    where
      by : (v : Bool) → is_some (if v then Some f else format_of m rest) ≡ true
      by true = refl
      by false = h
  one_format (Some l) _ h = h

  still_has : (v : Bool) (l : Option ℕ) (a : Act) → Has m rest → Has m (if v then (record { label = l; act = a } ∷ rest) else rest)
  still_has true l a h = one_format l a h
  still_has false l a h = h

  form_has : (l : Option ℕ) (form : Form) → Has m rest → Has m (form_note l form rest)
  form_has l (Statement a) h = still_has (is_note a) l a h
  form_has l Bare h = h
  form_has l RepeatHead h = h
  form_has l (Condition e) h = h
  form_has l (Selector e) h = h
  form_has l (CaseList es second) h = h
  form_has l (ForHead a e b) h = h
  form_has l (DoHead x a b c) h = h
  form_has l (LoopExit n) h = h
  form_has l (ReturnHead e) h = h

  -- the label of a format
  own_format : (l : ℕ) (f : Fields) → nat_eq m l ≡ true → is_some (if nat_eq l m then Some f else format_of m rest) ≡ true
  own_format l f same = ap (λ v. is_some (if v then Some f else format_of m rest)) (eq_turned l m ∙ same)

  act_has : (l : ℕ) (ls : Labels) (a : Act) → with_label (format_label (Some l) (Statement a)) ls m ≡ true → (ls m ≡ true) ⊎ Has m (note_then (Some l) a rest)
  act_has l ls (Format f) h = by (or_true (nat_eq m l) (ls m) h)
    where
      by : (nat_eq m l ≡ true) ⊎ (ls m ≡ true) → (ls m ≡ true) ⊎ Has m (note_then (Some l) (Format f) rest)
      by (inl same) = inr (own_format l f same)
      by (inr k) = inl k
  act_has l ls _ h = inl h

  label_has : (l : Option ℕ) (form : Form) (ls : Labels) → with_label (format_label l form) ls m ≡ true → (ls m ≡ true) ⊎ Has m (form_note l form rest)
  label_has None form ls h = inl h
  label_has (Some l) (Statement a) ls h = act_has l ls a h
  label_has (Some l) Bare ls h = inl h
  label_has (Some l) RepeatHead ls h = inl h
  label_has (Some l) (Condition e) ls h = inl h
  label_has (Some l) (Selector e) ls h = inl h
  label_has (Some l) (CaseList es second) ls h = inl h
  label_has (Some l) (ForHead a e b) ls h = inl h
  label_has (Some l) (DoHead x a b c) ls h = inl h
  label_has (Some l) (LoopExit n) ls h = inl h
  label_has (Some l) (ReturnHead e) ls h = inl h

formats_have : (m : ℕ) (vs : List Part) (ls : Labels) → with_formats vs ls m ≡ true → (ls m ≡ true) ⊎ Has m (part_notes vs [])
formats_have m [] ls e = inl e
formats_have m (v ∷ vs) ls e = by (formats_have m vs (with_label (format_label v.label v.form) ls) e)
  where
    by : (with_label (format_label v.label v.form) ls m ≡ true) ⊎ Has m (part_notes vs []) → (ls m ≡ true) ⊎ Has m (part_notes (v ∷ vs) [])
    by (inl k) = label_has m (part_notes vs []) v.label v.form ls k
    by (inr k) = inr (form_has m (part_notes vs []) v.label v.form k)

-- a label of a format is that of a format
pub has_format : (u : UnitRules) (ss : Commands) → AllFine u (unit_parts ss) → (m : ℕ) → with_formats (unit_parts ss) no_label m ≡ true → is_some (format_of m (notes_of_unit ss)) ≡ true
has_format u ss h m e = ap (λ notes. is_some (format_of m notes)) (unit_notes u ss h) ∙ by (formats_have m (unit_parts ss) no_label e)
  where
    by : (false ≡ true) ⊎ Has m (part_notes (unit_parts ss) []) → Has m (part_notes (unit_parts ss) [])
    by (inl k) = absurd (true≢false (sym k))
    by (inr k) = k
