-- What one part more of a unit says.
use Rattle.std.proofs.Common.{◌≡◌, Bool, List, [], ◌∷◌, ◌++◌, map, refl, sym, ap, ◌∙◌, subst, append-nil, append_assoc}
use Rattle.std.proofs.lemmas.List.{map-append}
use Rattle.std.proofs.lemmas.List.Concat.{flat_map-append}
use Rattle.std.proofs.lemmas.List.Elements.{filter-append}
use Rattle.f66_tree.specs.Syntax.{Text, Header, Act, Continue, Line}
use Rattle.f66_tree.specs.Units.{Context, is_note}
use Rattle.rat_check.specs.Parts.{Part}
use Rattle.rat_check.specs.Said.{said_by}
use Rattle.rat_said.specs.Said.{or_continue, said_line, part_lines, said_lines}
use Rattle.rat_said.specs.Brief.{IsTelling, declared_lines}
use Rattle.rat_said.proofs.Telling.{left_out}

-- ---- lines ----

pub more_said : (h : Header) (vs : List Part) (v : Part) → said_lines h (vs ++ v ∷ []) ≡ said_lines h vs ++ part_lines h v
more_said h vs v = flat_map-append (part_lines h) vs (v ∷ []) ∙ ap (λ ls. said_lines h vs ++ ls) (append-nil (part_lines h v))

-- ---- declarations ----

joined : (xs ys : List Line) → declared_lines (xs ++ ys) ≡ declared_lines xs ++ declared_lines ys
joined xs ys = filter-append (λ s. is_note s.act) xs ys

-- a CONTINUE is none
continue_apart : (v : Part) (acts : List Act) → declared_lines (map (said_line v) (or_continue acts)) ≡ declared_lines (map (said_line v) acts)
continue_apart v [] = refl
continue_apart v (a ∷ acts) = refl

pub more_declared : (h : Header) (vs : List Part) (v : Part) (acts : List Act) → acts ≡ said_by h v.form → declared_lines (said_lines h (vs ++ v ∷ [])) ≡ declared_lines (said_lines h vs) ++ declared_lines (map (said_line v) acts)
more_declared h vs v acts e =
    ap declared_lines (more_said h vs v) ∙ joined (said_lines h vs) (part_lines h v)
    ∙ ap (λ ls. declared_lines (said_lines h vs) ++ ls) (continue_apart v (said_by h v.form) ∙ ap (λ bs. declared_lines (map (said_line v) bs)) (sym e))

pub one_declared : (f : Act → Line) (acts : List Act) (a : Act) → declared_lines (map f (acts ++ a ∷ [])) ≡ declared_lines (map f acts) ++ declared_lines (f a ∷ [])
one_declared f acts a = ap declared_lines (map-append f acts (a ∷ [])) ∙ joined (map f acts) (f a ∷ [])

-- ---- telling ----

-- a part that says nothing is a CONTINUE, which mentions nothing
continue_left : (c : Context) (said told : List Line) (seen : Text → Bool) (v : Part) (acts : List Act) → IsTelling c (said ++ map (said_line v) acts) told seen → IsTelling c (said ++ map (said_line v) (or_continue acts)) told seen
continue_left c said told seen v [] t = left_out c said told seen (subst (λ ls. IsTelling c ls told seen) (append-nil said) t) (said_line v Continue) (λ m e i. absurd i)
continue_left c said told seen v (a ∷ acts) t = t

pub part_told : (c : Context) (h : Header) (vs : List Part) (v : Part) (told : List Line) (seen : Text → Bool) (acts : List Act) → acts ≡ said_by h v.form →
    IsTelling c (said_lines h vs ++ map (said_line v) acts) told seen → IsTelling c (said_lines h (vs ++ v ∷ [])) told seen
part_told c h vs v told seen acts e t =
    subst (λ ls. IsTelling c ls told seen) (sym (more_said h vs v))
    (subst (λ bs. IsTelling c (said_lines h vs ++ map (said_line v) (or_continue bs)) told seen) e (continue_left c (said_lines h vs) told seen v acts t))

pub one_told : (said : List Line) (f : Act → Line) (acts : List Act) (a : Act) → (said ++ map f acts) ++ f a ∷ [] ≡ said ++ map f (acts ++ a ∷ [])
one_told said f acts a = append_assoc said (map f acts) (f a ∷ []) ∙ ap (λ ls. said ++ ls) (sym (map-append f acts (a ∷ [])))
