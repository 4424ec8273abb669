-- The statements of a unit that are not executed are those that its parts say.
use Rattle.std.proofs.Common.{◌≡◌, ℕ, suc, Bool, true, false, true≢false, List, [], ◌∷◌, ◌++◌, map, Option, Some, None, refl, sym, ap, ◌∙◌}
use Rattle.std.specs.Prelude.{◌&&◌, ◌||◌, if◌then◌else◌}
use Rattle.std.specs.List.{AllByRecursion}
use Rattle.std.proofs.lemmas.Grind.{flat_map-append}
use Rattle.std.proofs.lemmas.Bool.{or_parts}
use Rattle.std.proofs.lemmas.List.{append_assoc}
use Rattle.ground.specs.declared.place.Place.{Place}
use Rattle.f66_tree.specs.Syntax.{Formula, Formulas, NoFormula, AndFormula, Header, MainUnit, SubUnit, FuncUnit, DataUnit, Act, Line}
use Rattle.f66_tree.specs.Units.{Note, is_note, notes_of}
use Rattle.rat_tree.specs.Syntax.{Command, Empty, Block, If, IfElse, While, For, Repeat, RepeatUntil, Do, Switch, Break, Next, Return, Plain, Labelled, Commands, NoCommand, AndCommand, Clauses, NoClause, AndClause}
use Rattle.rat_check.specs.Parts.{Statement, Condition, Selector, CaseList, ForHead, DoHead, ReturnHead, RepeatHead, Bare, Labels, Part, part, with_mark, with_labels, parts_of, parts_in, clause_parts}
use Rattle.rat_check.specs.Said.{said_by, value_acts, said_if_any, condition_if_any, returned_if_any}
use Rattle.rat_said.specs.Said.{or_continue, said_line, part_lines, said_lines}
use Rattle.rat_lower.specs.Notes.{note_if_any, notes_in, all_notes, clause_notes}
use Rattle.rat_linked.specs.Made.{is_note_if_any, IsProper}
use Rattle.rat_linked.proofs.Parts.{halves, unmarked}

-- ---- notes of lines ----

one_note : (l : Option ℕ) (a : Act) (xs ys : List Note) (v : Bool) →
    (if v then (record { label = l; act = a } ∷ (xs ++ ys)) else (xs ++ ys)) ≡ (if v then (record { label = l; act = a } ∷ xs) else xs) ++ ys
one_note l a xs ys true = refl
one_note l a xs ys false = refl

pub notes_joined : (xs ys : List Line) → notes_of (xs ++ ys) ≡ notes_of xs ++ notes_of ys
notes_joined [] ys = refl
notes_joined (s ∷ xs) ys = ap (λ ns. if is_note s.act then (record { label = s.label; act = s.act } ∷ ns) else ns) (notes_joined xs ys) ∙ one_note s.label s.act (notes_of xs) (notes_of ys) (is_note s.act)

-- acts that are executed are no notes
abbrev NoNotes : List Act → Type 0
NoNotes acts = AllByRecursion (λ a. is_note a ≡ false) acts

dropped : (l : Option ℕ) (a : Act) (ns : List Note) (v : Bool) → v ≡ false → (if v then (record { label = l; act = a } ∷ ns) else ns) ≡ ns
dropped l a ns true e = absurd (true≢false e)
dropped l a ns false e = refl

no_notes : (v : Part) (acts : List Act) → NoNotes acts → notes_of (map (said_line v) acts) ≡ []
no_notes v [] h = refl
no_notes v (a ∷ acts) h = dropped v.label a (notes_of (map (said_line v) acts)) (is_note a) h.0 ∙ no_notes v acts h.1

continued : (acts : List Act) → NoNotes acts → NoNotes (or_continue acts)
continued [] h = (refl, tt)
continued (a ∷ acts) h = h

module _ (h : Header) where
  executed : (v : Part) → NoNotes (said_by h v.form) → notes_of (part_lines h v) ≡ []
  executed v n = no_notes v (or_continue (said_by h v.form)) (continued (said_by h v.form) n)

  values : (es : Formulas) → NoNotes (value_acts es)
  values NoFormula = tt
  values (AndFormula e es) = (refl, values es)

  if_any : (o : Option Act) (more : List Act) → is_note_if_any o ≡ false → NoNotes more → NoNotes (said_if_any o ++ more)
  if_any None more e n = n
  if_any (Some a) more e n = (e, n)

  last : (o : Option Act) → is_note_if_any o ≡ false → NoNotes (said_if_any o)
  last None e = tt
  last (Some a) e = (e, tt)

  condition : (o : Option Formula) (more : List Act) → NoNotes more → NoNotes (condition_if_any o ++ more)
  condition None more n = n
  condition (Some e) more n = (refl, n)

  returned : (k : Header) (o : Option Formula) → NoNotes (returned_if_any k o)
  returned k None = tt
  returned MainUnit (Some e) = (refl, tt)
  returned (SubUnit x ds) (Some e) = (refl, tt)
  returned (FuncUnit t x ds) (Some e) = (refl, tt)
  returned DataUnit (Some e) = (refl, tt)

  -- ---- notes of parts ----

  abbrev N : List Part → List Note
  N vs = notes_of (said_lines h vs)

  joined : (xs ys : List Part) → N (xs ++ ys) ≡ N xs ++ N ys
  joined xs ys = ap notes_of (flat_map-append (part_lines h) xs ys) ∙ notes_joined (said_lines h xs) (said_lines h ys)

  behind : (v : Part) (vs : List Part) → NoNotes (said_by h v.form) → N (v ∷ vs) ≡ N vs
  behind v vs n = notes_joined (part_lines h v) (said_lines h vs) ∙ ap (λ ns. ns ++ N vs) (executed v n)

  marked : (k : ℕ) (r : Labels) (o : Option ℕ) (p : Place) (vs : List Part) → N (with_mark k r o p vs) ≡ N vs
  marked k r None p vs = refl
  marked k r (Some l) p vs = behind (part k r (Some l) p Bare) vs tt

  no_note : (o : Option Act) → is_note_if_any o ≡ false → (rest : List Note) → note_if_any o rest ≡ rest
  no_note None e rest = refl
  no_note (Some a) e rest = dropped None a rest (is_note a) e

  plain_note : (l : Option ℕ) (a : Act) (rest : List Note) (v : Bool) →
      (if v then (record { label = l; act = a } ∷ rest) else rest) ≡ (if v then (record { label = l; act = a } ∷ []) else []) ++ rest
  plain_note l a rest true = refl
  plain_note l a rest false = refl

  abbrev Proper : List Part → Type 0
  Proper vs = AllByRecursion (IsProper h) vs

  -- notes before others, of parts one behind the other
  chain : (xs ys : List Part) (rest : List Note) → N xs ++ (N ys ++ rest) ≡ N (xs ++ ys) ++ rest
  chain xs ys rest = sym (append_assoc (N xs) (N ys) rest) ∙ ap (λ ns. ns ++ rest) (sym (joined xs ys))

  mutual
    noted : (c : Command) (k : ℕ) (r : Labels) (o : Option ℕ) → Proper (parts_of k r o c) → (rest : List Note) → notes_in c rest ≡ N (parts_of k r o c) ++ rest
    noted (Empty p) k r o w rest = refl
    noted (Block p ss) k r o w rest = all_noted ss k (with_labels ss r) w.1 rest ∙ ap (λ ns. ns ++ rest) (sym (behind (part k r o p Bare) (parts_in k (with_labels ss r) ss) tt))
    noted (If p e c) k r o w rest = noted c k r None w.1 rest ∙ ap (λ ns. ns ++ rest) (sym (behind (part k r o p (Condition e)) (parts_of k r None c) (refl, tt)))
    noted (IfElse p e c d) k r o w rest =
        let both = halves (IsProper h) (parts_of k r None c) (parts_of k r None d) w.1 in
        ap (notes_in c) (noted d k r None both.1 rest) ∙ noted c k r None both.0 (N (parts_of k r None d) ++ rest) ∙ chain (parts_of k r None c) (parts_of k r None d) rest
        ∙ ap (λ ns. ns ++ rest) (sym (behind (part k r o p (Condition e)) (parts_of k r None c ++ parts_of k r None d) (refl, tt)))
    noted (While p e c) k r o w rest = noted c (suc k) r None w.1 rest ∙ ap (λ ns. ns ++ rest) (sym (behind (part k r o p (Condition e)) (parts_of (suc k) r None c) (refl, tt)))
    noted (For p first e step c) k r o w rest =
        let form = or_parts (is_note_if_any first) (is_note_if_any step) w.0.executed in
        no_note first form.0 (notes_in c (note_if_any step rest)) ∙ ap (notes_in c) (no_note step form.1 rest) ∙ noted c (suc k) r None w.1 rest
        ∙ ap (λ ns. ns ++ rest)
        (sym (behind (part k r o p (ForHead first e step)) (parts_of (suc k) r None c) (if_any first (condition_if_any e ++ said_if_any step) form.0 (condition e (said_if_any step) (last step form.1)))))
    noted (Repeat p c) k r o w rest = noted c (suc k) r None w.1 rest ∙ ap (λ ns. ns ++ rest) (sym (behind (part k r o p RepeatHead) (parts_of (suc k) r None c) tt))
    noted (RepeatUntil p c e q) k r o w rest =
        let both = halves (IsProper h) (parts_of (suc k) r None c) (part k r None q (Condition e) ∷ []) w.1 in
        noted c (suc k) r None both.0 rest ∙ chain (parts_of (suc k) r None c) (part k r None q (Condition e) ∷ []) rest
        ∙ ap (λ ns. ns ++ rest) (sym (behind (part k r o p RepeatHead) (parts_of (suc k) r None c ++ part k r None q (Condition e) ∷ []) tt))
    noted (Do p x i j m c) k r o w rest = noted c (suc k) r None w.1 rest ∙ ap (λ ns. ns ++ rest) (sym (behind (part k r o p (DoHead x i j m)) (parts_of (suc k) r None c) (refl, tt)))
    noted (Switch p e cs) k r o w rest = clauses_noted cs k r false w.1 rest ∙ ap (λ ns. ns ++ rest) (sym (behind (part k r o p (Selector e)) (clause_parts k r false cs) (refl, tt)))
    noted (Break p n) k r o w rest = refl
    noted (Next p n) k r o w rest = refl
    noted (Return p e) k r o w rest = ap (λ ns. ns ++ rest) (sym (behind (part k r o p (ReturnHead e)) [] (returned h e)))
    noted (Plain m p a) k r o w rest = plain_note m a rest (is_note a) ∙ ap (λ ns. ns ++ rest) (sym (marked k r o p (part k r m p (Statement a) ∷ [])))
    noted (Labelled m p c) k r o w rest =
        noted c k r (Some m) (unmarked (IsProper h) k r o p (parts_of k r (Some m) c) w) rest ∙ ap (λ ns. ns ++ rest) (sym (marked k r o p (parts_of k r (Some m) c)))

    pub all_noted : (ss : Commands) (k : ℕ) (r : Labels) → Proper (parts_in k r ss) → (rest : List Note) → all_notes ss rest ≡ N (parts_in k r ss) ++ rest
    all_noted NoCommand k r w rest = refl
    all_noted (AndCommand c ss) k r w rest =
        let both = halves (IsProper h) (parts_of k r None c) (parts_in k r ss) w in
        ap (notes_in c) (all_noted ss k r both.1 rest) ∙ noted c k r None both.0 (N (parts_in k r ss) ++ rest) ∙ chain (parts_of k r None c) (parts_in k r ss) rest

    clauses_noted : (cs : Clauses) (k : ℕ) (r : Labels) (seen : Bool) → Proper (clause_parts k r seen cs) → (rest : List Note) → clause_notes cs rest ≡ N (clause_parts k r seen cs) ++ rest
    clauses_noted NoClause k r seen w rest = refl
    clauses_noted (AndClause es fallback ss p cs) k r seen w rest =
        let own = parts_in k (with_labels ss r) ss in
        let others = clause_parts k r (seen || fallback) cs in
        let both = halves (IsProper h) own others w.1 in
        ap (all_notes ss) (clauses_noted cs k r (seen || fallback) both.1 rest) ∙ all_noted ss k (with_labels ss r) both.0 (N others ++ rest) ∙ chain own others rest
        ∙ ap (λ ns. ns ++ rest) (sym (behind (part k r None p (CaseList es (seen && fallback))) (own ++ others) (values es)))
