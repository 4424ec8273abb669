-- What stands behind CALL, and behind a computed GO TO, is read exactly.
use Rattle.std.proofs.Common.{◌≡◌, ℕ, Bool, true, false, List, [], ◌∷◌, ◌++◌, Option, Some, None, refl, sym, ap, subst, ◌∙◌}
use Rattle.std.specs.List.{AllByRecursion}
use Rattle.f66_tree.specs.Syntax.{Text, Formula, NoFormula, Act, Invoke, Computed}
use Rattle.f66_tree.specs.Views.{chained}
use Rattle.stmt_reader.specs.declared.token.Token.{Token}
use Rattle.stmt_reader.specs.declared.token.Token.TheVariants as t
use Rattle.stmt_reader.specs.Spelling.{spell, spell_others, spell_members}
use Rattle.stmt_reader.specs.Spelled.{spell_label}
use Rattle.stmt_reader.specs.Exactness.{IsProper, SpellsList, SpellsCall, alone, with_arguments, SpellsChoice, labels}
use Rattle.stmt_reader.specs.Cutting.{is_comma, is_close, Halves, fronted, cut}
use Rattle.stmt_reader.specs.Splitting.{list_of}
use Rattle.stmt_reader.specs.Statements.{then_if, argument_of, call_with, call_of, label_of, selects_with, computed_of}
use Rattle.stmt_reader.proofs.Assignments.{spell-append, cut_is, then_some, proper_front}
use Rattle.stmt_reader.proofs.CutLemmas.{cut_spelled, close_outside, fronted_twice, token_then}
use Rattle.stmt_reader.proofs.ListReads.{IsMember, list_spelled, list_taken}
use Rattle.stmt_reader.proofs.DeclaredReads.{comma_is}
use Rattle.stmt_reader.proofs.ArgumentReads.{arguments_spelled, arguments_taken}

-- ---- lists before a parenthesis ----

fronted_none : (r : Option Halves) → r ≡ fronted (λ y. y) r
fronted_none None = refl
fronted_none (Some h) = refl

module _ {A : Type 0} (p : Token → Bool) (no_comma : p t.Comma ≡ false) (spelling : A → List Token → List Token) (one : (a : A) (k : List Token) → cut p 0 (spelling a k) ≡ fronted (spelling a) (cut p 0 k)) where
  pub cut_others : (all : List A) (k : List Token) → cut p 0 (spell_others spelling t.Comma all k) ≡ fronted (spell_others spelling t.Comma all) (cut p 0 k)
  cut_others [] k = fronted_none (cut p 0 k)
  cut_others (a ∷ all) k =
      token_then p 0 t.Comma (spelling a (spell_others spelling t.Comma all k)) (λ y. spelling a (spell_others spelling t.Comma all y)) (cut p 0 k) no_comma
      (one a (spell_others spelling t.Comma all k) ∙ ap (fronted (spelling a)) (cut_others all k) ∙ fronted_twice (spelling a) (spell_others spelling t.Comma all) (cut p 0 k))

  pub cut_members : (a : A) (all : List A) (k : List Token) → cut p 0 (spell_members spelling t.Comma a all k) ≡ fronted (spell_members spelling t.Comma a all) (cut p 0 k)
  cut_members a all k = one a (spell_others spelling t.Comma all k) ∙ ap (fronted (spelling a)) (cut_others all k) ∙ fronted_twice (spelling a) (spell_others spelling t.Comma all) (cut p 0 k)

module _ {A : Type 0} (spelling : A → List Token → List Token) (appends : (a : A) (k m : List Token) → spelling a (k ++ m) ≡ spelling a k ++ m) where
  others_append : (all : List A) (k m : List Token) → spell_others spelling t.Comma all (k ++ m) ≡ spell_others spelling t.Comma all k ++ m
  others_append [] k m = refl
  others_append (a ∷ all) k m = ap (λ (y : List Token). t.Comma ∷ y) (ap (spelling a) (others_append all k m) ∙ appends a (spell_others spelling t.Comma all k) m)

  pub members_append : (a : A) (all : List A) (k m : List Token) → spell_members spelling t.Comma a all (k ++ m) ≡ spell_members spelling t.Comma a all k ++ m
  members_append a all k m = ap (spelling a) (others_append all k m) ∙ appends a (spell_others spelling t.Comma all k) m

pub close_is : (token : Token) → is_close token ≡ true → token ≡ t.Close
close_is t.Close is = refl
close_is t.Equals is = absurd cc
close_is (t.Word x) is = absurd cc
close_is (t.Number n) is = absurd cc
close_is (t.Chars x) is = absurd cc
close_is (t.Truth b) is = absurd cc
close_is t.Not is = absurd cc
close_is (t.Joint op) is = absurd cc
close_is t.Open is = absurd cc
close_is t.Comma is = absurd cc
close_is t.Strange is = absurd cc

-- what stands before and behind a closing parenthesis
pub closed_parts : (tokens : List Token) (h : Halves) → cut is_close 0 tokens ≡ Some h → tokens ≡ h.0 ++ t.Close ∷ h.1
closed_parts tokens h is = let c = cut_is is_close tokens 0 h is in c.parts ∙ ap (λ (x : Token). h.0 ++ x ∷ h.1) (close_is c.at c.cuts)

-- ---- CALL ----

pub call_spelled : (tokens : List Token) (a : Act) → SpellsCall tokens a → call_of tokens ≡ Some a
call_spelled tokens a (alone x) = refl
call_spelled tokens a (with_arguments x e es first others) =
    let halves : cut is_close 0 (spell_members spell t.Comma e es (t.Close ∷ [])) ≡ Some (spell_members spell t.Comma e es [], []) =
    cut_members is_close refl spell (λ b k. cut_spelled is_close close_outside b 0 k) e es (t.Close ∷ []) in
    ap (λ (o : Option Halves). then_if o (λ h. call_with x h.0 h.1)) halves
    ∙ ap (λ (o : Option (List Formula)). then_if o (λ all. Some (Invoke x (chained all)))) (arguments_spelled e es first others)

call_back : (x : Text) (arguments rest : List Token) (a : Act) → AllByRecursion IsProper arguments → call_with x arguments rest ≡ Some a → SpellsCall (t.Word x ∷ t.Open ∷ arguments ++ t.Close ∷ rest) a
call_back x arguments [] a proper is =
    let c = then_some (list_of argument_of is_comma arguments) (λ es. Some (Invoke x (chained es))) a is in
    let l = arguments_taken arguments c.0 proper c.1 in
    let made : Invoke x (chained c.0) ≡ a = cc (c.2) in
    let whole : spell_members spell t.Comma l.first l.others (t.Close ∷ []) ≡ arguments ++ t.Close ∷ [] =
    members_append spell spell-append l.first l.others [] (t.Close ∷ []) ∙ ap (λ (y : List Token). y ++ t.Close ∷ []) (sym l.spelled) in
    subst (λ (b : Act). SpellsCall (t.Word x ∷ t.Open ∷ arguments ++ t.Close ∷ []) b) (ap (λ (all : List Formula). Invoke x (chained all)) (sym l.is) ∙ made)
    (subst (λ (y : List Token). SpellsCall (t.Word x ∷ t.Open ∷ y) (Invoke x (chained (l.first ∷ l.others)))) whole (with_arguments x l.first l.others l.first_good l.others_good))
call_back x arguments (token ∷ rest) a proper is = absurd cc

call_opened : (x : Text) (tokens : List Token) (a : Act) → AllByRecursion IsProper tokens → then_if (cut is_close 0 tokens) (λ h. call_with x h.0 h.1) ≡ Some a → SpellsCall (t.Word x ∷ t.Open ∷ tokens) a
call_opened x tokens a proper is =
    let c = then_some (cut is_close 0 tokens) (λ h. call_with x h.0 h.1) a is in
    let parts = closed_parts tokens c.0 c.1 in
    let p = proper_front c.0.0 t.Close c.0.1 (subst (AllByRecursion IsProper) parts proper) in
    subst (λ (y : List Token). SpellsCall (t.Word x ∷ t.Open ∷ y) a) (sym parts) (call_back x c.0.0 c.0.1 a p.0 c.2)

pub call_taken : (tokens : List Token) (a : Act) → AllByRecursion IsProper tokens → call_of tokens ≡ Some a → SpellsCall tokens a
call_taken [] a proper is = absurd cc
call_taken (t.Word x ∷ []) a proper is = let made : Invoke x NoFormula ≡ a = cc in subst (SpellsCall (t.Word x ∷ [])) made (alone x)
call_taken (t.Word x ∷ t.Open ∷ tokens) a proper is = call_opened x tokens a proper.1.1 is
call_taken (t.Word x ∷ t.Word y ∷ tokens) a proper is = absurd cc
call_taken (t.Word x ∷ t.Number n ∷ tokens) a proper is = absurd cc
call_taken (t.Word x ∷ t.Chars y ∷ tokens) a proper is = absurd cc
call_taken (t.Word x ∷ t.Truth b ∷ tokens) a proper is = absurd cc
call_taken (t.Word x ∷ t.Not ∷ tokens) a proper is = absurd cc
call_taken (t.Word x ∷ t.Joint op ∷ tokens) a proper is = absurd cc
call_taken (t.Word x ∷ t.Close ∷ tokens) a proper is = absurd cc
call_taken (t.Word x ∷ t.Comma ∷ tokens) a proper is = absurd cc
call_taken (t.Word x ∷ t.Equals ∷ tokens) a proper is = absurd cc
call_taken (t.Word x ∷ t.Strange ∷ tokens) a proper is = absurd cc
call_taken (t.Number n ∷ tokens) a proper is = absurd cc
call_taken (t.Chars y ∷ tokens) a proper is = absurd cc
call_taken (t.Truth b ∷ tokens) a proper is = absurd cc
call_taken (t.Not ∷ tokens) a proper is = absurd cc
call_taken (t.Joint op ∷ tokens) a proper is = absurd cc
call_taken (t.Open ∷ tokens) a proper is = absurd cc
call_taken (t.Close ∷ tokens) a proper is = absurd cc
call_taken (t.Comma ∷ tokens) a proper is = absurd cc
call_taken (t.Equals ∷ tokens) a proper is = absurd cc
call_taken (t.Strange ∷ tokens) a proper is = absurd cc

-- ---- computed GO TO ----

label_member : (l : ℕ) → IsMember is_comma label_of spell_label l
label_member l = record { is_read = refl; passes = λ k. refl }

label_members : (ls : List ℕ) → AllByRecursion (IsMember is_comma label_of spell_label) ls
label_members [] = tt
label_members (l ∷ ls) = (label_member l, label_members ls)

pub choice_spelled : (tokens : List Token) (a : Act) → SpellsChoice tokens a → computed_of tokens ≡ Some a
choice_spelled tokens a (labels l ls x) =
    let halves : cut is_close 0 (spell_members spell_label t.Comma l ls (t.Close ∷ t.Comma ∷ t.Word x ∷ [])) ≡ Some (spell_members spell_label t.Comma l ls [], t.Comma ∷ t.Word x ∷ []) =
    cut_members is_close refl spell_label (λ b k. refl) l ls (t.Close ∷ t.Comma ∷ t.Word x ∷ []) in
    ap (λ (o : Option Halves). then_if o (λ h. selects_with h.0 h.1)) halves
    ∙ ap (λ (o : Option (List ℕ)). then_if o (λ all. Some (Computed all x))) (list_spelled is_comma t.Comma refl label_of spell_label l ls (label_member l) (label_members ls))

label_taken : (piece : List Token) (l : ℕ) → AllByRecursion IsProper piece → label_of piece ≡ Some l → Unit {0} × (spell_label l [] ≡ piece)
label_taken [] l proper is = absurd cc
label_taken (t.Number m ∷ []) l proper is = let same : m ≡ l = cc in (tt, ap (λ (k : ℕ). t.Number k ∷ []) (sym same))
label_taken (t.Number m ∷ token ∷ tokens) l proper is = absurd cc
label_taken (t.Word y ∷ tokens) l proper is = absurd cc
label_taken (t.Chars y ∷ tokens) l proper is = absurd cc
label_taken (t.Truth b ∷ tokens) l proper is = absurd cc
label_taken (t.Not ∷ tokens) l proper is = absurd cc
label_taken (t.Joint op ∷ tokens) l proper is = absurd cc
label_taken (t.Open ∷ tokens) l proper is = absurd cc
label_taken (t.Close ∷ tokens) l proper is = absurd cc
label_taken (t.Comma ∷ tokens) l proper is = absurd cc
label_taken (t.Equals ∷ tokens) l proper is = absurd cc
label_taken (t.Strange ∷ tokens) l proper is = absurd cc

pub labels_taken : (tokens : List Token) (ls : List ℕ) → AllByRecursion IsProper tokens → list_of label_of is_comma tokens ≡ Some ls → SpellsList (λ l. Unit {0}) spell_label t.Comma tokens ls
labels_taken tokens ls proper is = list_taken is_comma t.Comma comma_is label_of spell_label (λ l. Unit {0}) label_taken (λ l k. refl) tokens ls proper is

pub labels_spelled : (l : ℕ) (ls : List ℕ) → list_of label_of is_comma (spell_members spell_label t.Comma l ls []) ≡ Some (l ∷ ls)
labels_spelled l ls = list_spelled is_comma t.Comma refl label_of spell_label l ls (label_member l) (label_members ls)

choice_end : (x : Text) (front : List Token) (a : Act) → AllByRecursion IsProper front → then_if (list_of label_of is_comma front) (λ ls. Some (Computed ls x)) ≡ Some a → SpellsChoice (t.Open ∷ front ++ t.Close ∷ t.Comma ∷ t.Word x ∷ []) a
choice_end x front a proper is =
    let c = then_some (list_of label_of is_comma front) (λ ls. Some (Computed ls x)) a is in
    let l = labels_taken front c.0 proper c.1 in
    let made : Computed c.0 x ≡ a = cc (c.2) in
    let rest : List Token = t.Close ∷ t.Comma ∷ t.Word x ∷ [] in
    let whole : spell_members spell_label t.Comma l.first l.others rest ≡ front ++ rest = members_append spell_label (λ b k m. refl) l.first l.others [] rest ∙ ap (λ (y : List Token). y ++ rest) (sym l.spelled) in
    subst (λ (b : Act). SpellsChoice (t.Open ∷ front ++ rest) b) (ap (λ (all : List ℕ). Computed all x) (sym l.is) ∙ made)
    (subst (λ (y : List Token). SpellsChoice (t.Open ∷ y) (Computed (l.first ∷ l.others) x)) whole (labels l.first l.others x))

choice_back : (front rest : List Token) (a : Act) → AllByRecursion IsProper front → selects_with front rest ≡ Some a → SpellsChoice (t.Open ∷ front ++ t.Close ∷ rest) a
choice_back front [] a proper is = absurd cc
choice_back front (t.Comma ∷ []) a proper is = absurd cc
choice_back front (t.Comma ∷ t.Word x ∷ []) a proper is = choice_end x front a proper is
choice_back front (t.Comma ∷ t.Word x ∷ token ∷ tokens) a proper is = absurd cc
choice_back front (t.Comma ∷ t.Number n ∷ tokens) a proper is = absurd cc
choice_back front (t.Comma ∷ t.Chars y ∷ tokens) a proper is = absurd cc
choice_back front (t.Comma ∷ t.Truth b ∷ tokens) a proper is = absurd cc
choice_back front (t.Comma ∷ t.Not ∷ tokens) a proper is = absurd cc
choice_back front (t.Comma ∷ t.Joint op ∷ tokens) a proper is = absurd cc
choice_back front (t.Comma ∷ t.Open ∷ tokens) a proper is = absurd cc
choice_back front (t.Comma ∷ t.Close ∷ tokens) a proper is = absurd cc
choice_back front (t.Comma ∷ t.Comma ∷ tokens) a proper is = absurd cc
choice_back front (t.Comma ∷ t.Equals ∷ tokens) a proper is = absurd cc
choice_back front (t.Comma ∷ t.Strange ∷ tokens) a proper is = absurd cc
choice_back front (t.Word y ∷ tokens) a proper is = absurd cc
choice_back front (t.Number n ∷ tokens) a proper is = absurd cc
choice_back front (t.Chars y ∷ tokens) a proper is = absurd cc
choice_back front (t.Truth b ∷ tokens) a proper is = absurd cc
choice_back front (t.Not ∷ tokens) a proper is = absurd cc
choice_back front (t.Joint op ∷ tokens) a proper is = absurd cc
choice_back front (t.Open ∷ tokens) a proper is = absurd cc
choice_back front (t.Close ∷ tokens) a proper is = absurd cc
choice_back front (t.Equals ∷ tokens) a proper is = absurd cc
choice_back front (t.Strange ∷ tokens) a proper is = absurd cc

choice_opened : (tokens : List Token) (a : Act) → AllByRecursion IsProper tokens → then_if (cut is_close 0 tokens) (λ h. selects_with h.0 h.1) ≡ Some a → SpellsChoice (t.Open ∷ tokens) a
choice_opened tokens a proper is =
    let c = then_some (cut is_close 0 tokens) (λ h. selects_with h.0 h.1) a is in
    let parts = closed_parts tokens c.0 c.1 in
    let p = proper_front c.0.0 t.Close c.0.1 (subst (AllByRecursion IsProper) parts proper) in
    subst (λ (y : List Token). SpellsChoice (t.Open ∷ y) a) (sym parts) (choice_back c.0.0 c.0.1 a p.0 c.2)

pub choice_taken : (tokens : List Token) (a : Act) → AllByRecursion IsProper tokens → computed_of tokens ≡ Some a → SpellsChoice tokens a
choice_taken [] a proper is = absurd cc
choice_taken (t.Open ∷ tokens) a proper is = choice_opened tokens a proper.1 is
choice_taken (t.Word y ∷ tokens) a proper is = absurd cc
choice_taken (t.Number n ∷ tokens) a proper is = absurd cc
choice_taken (t.Chars y ∷ tokens) a proper is = absurd cc
choice_taken (t.Truth b ∷ tokens) a proper is = absurd cc
choice_taken (t.Not ∷ tokens) a proper is = absurd cc
choice_taken (t.Joint op ∷ tokens) a proper is = absurd cc
choice_taken (t.Close ∷ tokens) a proper is = absurd cc
choice_taken (t.Comma ∷ tokens) a proper is = absurd cc
choice_taken (t.Equals ∷ tokens) a proper is = absurd cc
choice_taken (t.Strange ∷ tokens) a proper is = absurd cc
