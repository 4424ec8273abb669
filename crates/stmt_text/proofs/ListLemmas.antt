-- Lists with commas between their members.
use Rattle.std.proofs.Common.{◌≡◌, ℕ, zero, suc, false, Vec, Box, Global, List, [], ◌∷◌, ◌++◌, ◌<◌, length, get_or, drop, drop-cons, Option, Some, None, map, sym, ap, subst, refl, ◌∙◌}
use Rattle.std.specs.Prelude.{nat_eq}
use Rattle.f66_tree.specs.declared.expression.Expr.{Expr}
use Rattle.f66_tree.specs.declared.expression.Expr.TheVariants.{Item}
use Rattle.f66_tree.specs.declared.declaration.Par.{Par}
use Rattle.f66_tree.specs.declared.statement.Entry.{Entry}
use Rattle.f66_tree.specs.declared.statement.Entry.TheVariants as n
use Rattle.f66_tree.specs.Syntax as forms
use Rattle.f66_tree.specs.Syntax.{Text, Formula, Formulas, Many, Entries}
use Rattle.f66_tree.specs.Views.{chained, formula_of, formulas_of, par_of, entry_of, entries_of, listed}
use Rattle.f66_tree.proofs.Rows.{item_seen, many_entry}
use Rattle.stmt_text.specs.Emitting.{Emits}
use Rattle.stmt_text.specs.Texts.{arguments_text, member, commas, in_parentheses, more_commas, formula_text, formulas_text, more_formulas_text, entry_text, entries_text, more_entries_text}

-- what is left of a list, of which so many members are there
abbrev pub left_text : ℕ → Formulas → List ℕ → List ℕ
left_text zero es k = formulas_text es k
left_text (suc i) es k = more_formulas_text es k

-- the list in a tree is the list that its code goes over
pub item_text : {A : Type 0} (r : Option A) (old new : List ℕ) (a : Expr) (item : Box (Text × Vec Expr Global) Global) (pair : Text × Vec Expr Global) (seen : List Expr) → a ≡ Item item → pair ≡ item.value → seen ≡ pair.1.items
    → Emits r old new (formula_text (forms.Item pair.0 (formulas_of seen))) → Emits r old new (formula_text (formula_of a))
item_text r old new a item pair seen is same at emits =
    subst (λ (f : Formula). Emits r old new (formula_text f)) (item_seen (λ f. f) a item pair seen is same at) emits

abbrev pub left_commas : {A : Type 0} → ℕ → (A → List ℕ → List ℕ) → List A → List ℕ → List ℕ
left_commas zero text all k = commas text all k
left_commas (suc i) text all k = more_commas text all k

-- a list that has members is in parentheses
pub in_parentheses_some : {A : Type 0} (text : A → List ℕ → List ℕ) (all : List A) (k : List ℕ) → nat_eq (length all) 0 ≡ false → in_parentheses text all k ≡ 40 ∷ commas text all (41 ∷ k)
in_parentheses_some text [] k some = absurd cc
in_parentheses_some text (a ∷ all) k some = refl

pub arguments_some : (all : List Formula) (k : List ℕ) → nat_eq (length all) 0 ≡ false → arguments_text (chained all) k ≡ 40 ∷ formulas_text (chained all) (41 ∷ k)
arguments_some [] k some = absurd cc
arguments_some (a ∷ all) k some = refl

-- what adds the same emits the same
pub emits_same : {A : Type 0} (r : Option A) (old new : List ℕ) (f g : List ℕ → List ℕ) → ((k : List ℕ) → f k ≡ g k) → Emits r old new f → Emits r old new g
emits_same (Some done) old new f g same emits = λ k. ap (λ (x : List ℕ). old ++ x) (sym (same k)) ∙ emits k
emits_same None old new f g same emits = λ k. subst (λ (x : List ℕ). 1320 < length (old ++ x)) (same k) (emits k)

left_member : {A : Type 0} (i : ℕ) (text : A → List ℕ → List ℕ) (a : A) (all : List A) (k : List ℕ) → left_commas i text (a ∷ all) k ≡ member i (text a (more_commas text all k))
left_member zero text a all k = refl
left_member (suc i) text a all k = refl

-- where a member makes the text too long, the list does
pub list_too_long : {A B C : Type 0} (r : Option C) (f : A → B) (text : B → List ℕ → List ℕ) (list : List A) (i : ℕ) (a : A) (begun old new : List ℕ) → r ≡ None → i < length list → a ≡ get_or list i a
    → ((k : List ℕ) → begun ++ commas text (map f list) k ≡ old ++ left_commas i text (map f (drop i list)) k) → ((k : List ℕ) → 1320 < length (old ++ member i (text (f a) k)))
    → Emits r begun new (commas text (map f list))
list_too_long {A} {B} {C} r f text list i a begun old new none lt is inv long =
    subst (λ (q : Option C). Emits q begun new (commas text (map f list))) (sym none)
    (λ k. subst (λ (x : List ℕ). 1320 < length x) (sym (inv k ∙ ap (λ (x : List ℕ). old ++ x) (at k))) (long (more_commas text (map f (drop (suc i) list)) k)))
  where
    front : drop i list ≡ a ∷ drop (suc i) list
    front = drop-cons list i a lt ∙ ap (λ (x : A). x ∷ drop (suc i) list) (sym is)

    at : (k : List ℕ) → left_commas i text (map f (drop i list)) k ≡ member i (text (f a) (more_commas text (map f (drop (suc i) list)) k))
    at k = ap (λ (all : List A). left_commas i text (map f all) k) front ∙ left_member i text (f a) (map f (drop (suc i) list)) k

more_are_commas : (all : List Formula) (k : List ℕ) → more_formulas_text (chained all) k ≡ more_commas formula_text all k
more_are_commas [] k = refl
more_are_commas (a ∷ all) k = ap (λ (x : List ℕ). 44 ∷ formula_text a x) (more_are_commas all k)

pub formulas_are_commas : (all : List Formula) (k : List ℕ) → formulas_text (chained all) k ≡ commas formula_text all k
formulas_are_commas [] k = refl
formulas_are_commas (a ∷ all) k = ap (formula_text a) (more_are_commas all k)

abbrev pub left_entries : ℕ → Entries → List ℕ → List ℕ
left_entries zero es k = entries_text es k
left_entries (suc i) es k = more_entries_text es k

-- the list in an implied DO is the one that its code goes over
pub many_text : {A : Type 0} (r : Option A) (old new : List ℕ) (e : Entry) (list : Vec Entry Global) (seen : List Entry) (x : Text) (a b c : Par) → e ≡ n.Many list x a b c → seen ≡ list.items
    → Emits r old new (entry_text (Many (listed (map entry_of seen)) x (par_of a) (par_of b) (par_of c))) → Emits r old new (entry_text (entry_of e))
many_text r old new e list seen x a b c is same emits =
    let tree : Many (listed (map entry_of seen)) x (par_of a) (par_of b) (par_of c) ≡ entry_of e =
    ap (λ (es : List Entry). Many (entries_of es) x (par_of a) (par_of b) (par_of c)) same ∙ sym (many_entry list x a b c) ∙ ap entry_of (sym is) in
    subst (λ (f : forms.Entry). Emits r old new (entry_text f)) tree emits

-- where the beginning of a text is too long, all of it is
pub emits_too_long : {A : Type 0} (r : Option A) (old new : List ℕ) (f g rest : List ℕ → List ℕ) → r ≡ None → ((k : List ℕ) → g k ≡ f (rest k)) → ((k : List ℕ) → 1320 < length (old ++ f k)) → Emits r old new g
emits_too_long {A} r old new f g rest none same long =
    subst (λ (q : Option A). Emits q old new g) (sym none) (λ k. subst (λ (x : List ℕ). 1320 < length (old ++ x)) (sym (same k)) (long (rest k)))

-- what comes behind a text that was added
pub emits_after : {A : Type 0} (r : Option A) (old middle new : List ℕ) (f g : List ℕ → List ℕ) → ((k : List ℕ) → old ++ f k ≡ middle ++ k) → Emits r middle new g → Emits r old new (λ k. f (g k))
emits_after (Some done) old middle new f g first emits = λ k. first (g k) ∙ emits k
emits_after None old middle new f g first emits = λ k. subst (λ (x : List ℕ). 1320 < length x) (sym (first (g k))) (emits k)
