-- A condition in parentheses is read exactly, and what follows it; and the arithmetic IF.
use Rattle.std.proofs.Common.{◌≡◌, ℕ, true, List, [], ◌∷◌, ◌++◌, Option, Some, refl, sym, ap, subst, ◌∙◌}
use Rattle.std.specs.List.{AllByRecursion}
use Rattle.f66_tree.specs.Syntax.{Formula, Act, Sign}
use Rattle.stmt_reader.specs.declared.token.Token.{Token}
use Rattle.stmt_reader.specs.declared.token.Token.TheVariants as t
use Rattle.stmt_reader.specs.Levels.{stands}
use Rattle.stmt_reader.specs.Spelling.{spell, spell_members}
use Rattle.stmt_reader.specs.Spelled.{spell_label}
use Rattle.stmt_reader.specs.Exactness.{IsProper, SpellsCondition, SpellsSign, signs, SpellsList}
use Rattle.stmt_reader.specs.Machine.{expression_of}
use Rattle.stmt_reader.specs.Cutting.{cut, is_close, is_comma}
use Rattle.stmt_reader.specs.Splitting.{list_of}
use Rattle.stmt_reader.specs.Statements.{then_if, condition_of, label_of, signs_with, signs_of, sign_of}
use Rattle.stmt_reader.proofs.Assignments.{spell-append, then_some, proper_front}
use Rattle.stmt_reader.proofs.Sound.{expression_taken}
use Rattle.stmt_reader.proofs.CallReads.{closed_parts, labels_taken, labels_spelled}
use Rattle.stmt_reader.proofs.Complete.{expression_spelled}
use Rattle.stmt_reader.proofs.CutLemmas.{cut_spelled, close_outside}

pub condition_spelled : (e : Formula) (rest : List Token) → stands 0 e ≡ true → condition_of (t.Open ∷ spell e (t.Close ∷ rest)) ≡ Some (e, rest)
condition_spelled e rest is =
    let halves : cut is_close 0 (spell e (t.Close ∷ rest)) ≡ Some (spell e [], rest) = cut_spelled is_close close_outside e 0 (t.Close ∷ rest) in
    let condition = expression_spelled e is in
    rw (halves, condition) refl

condition_opened : (tokens : List Token) (c : Formula × List Token) → AllByRecursion IsProper tokens → then_if (cut is_close 0 tokens) (λ h. then_if (expression_of h.0) (λ e. Some (e, h.1))) ≡ Some c → SpellsCondition (t.Open ∷ tokens) c
condition_opened tokens c proper is =
    let h = then_some (cut is_close 0 tokens) (λ h. then_if (expression_of h.0) (λ e. Some (e, h.1))) c is in
    let e = then_some (expression_of h.0.0) (λ e. Some (e, h.0.1)) c h.2 in
    let parts = closed_parts tokens h.0 h.1 in
    let p = proper_front h.0.0 t.Close h.0.1 (subst (AllByRecursion IsProper) parts proper) in
    let taken = expression_taken h.0.0 e.0 p.0 e.1 in
    let pair : Formula × List Token = (e.0, h.0.1) in
    let made : pair ≡ c = cc (e.2) in
    let whole : tokens ≡ spell e.0 (t.Close ∷ h.0.1) = parts ∙ ap (λ (x : List Token). x ++ t.Close ∷ h.0.1) (sym taken.1) ∙ sym (spell-append e.0 [] (t.Close ∷ h.0.1)) in
    subst (SpellsCondition (t.Open ∷ tokens)) made (record { stands = taken.0; spelled = ap (λ (x : List Token). t.Open ∷ x) whole })

pub condition_taken : (tokens : List Token) (c : Formula × List Token) → AllByRecursion IsProper tokens → condition_of tokens ≡ Some c → SpellsCondition tokens c
condition_taken [] c proper is = absurd cc
condition_taken (t.Open ∷ tokens) c proper is = condition_opened tokens c proper.1 is
condition_taken (t.Word y ∷ tokens) c proper is = absurd cc
condition_taken (t.Number n ∷ tokens) c proper is = absurd cc
condition_taken (t.Chars y ∷ tokens) c proper is = absurd cc
condition_taken (t.Truth b ∷ tokens) c proper is = absurd cc
condition_taken (t.Not ∷ tokens) c proper is = absurd cc
condition_taken (t.Joint op ∷ tokens) c proper is = absurd cc
condition_taken (t.Close ∷ tokens) c proper is = absurd cc
condition_taken (t.Comma ∷ tokens) c proper is = absurd cc
condition_taken (t.Equals ∷ tokens) c proper is = absurd cc
condition_taken (t.Strange ∷ tokens) c proper is = absurd cc

-- ---- the arithmetic IF ----

pub sign_spelled : (tokens : List Token) (a : Act) → SpellsSign tokens a → sign_of tokens ≡ Some a
sign_spelled tokens a (signs e l m n is) =
    ap (λ (o : Option (Formula × List Token)). then_if o (λ c. signs_of c.0 c.1)) (condition_spelled e (spell_members spell_label t.Comma l (m ∷ n ∷ []) []) is)
    ∙ ap (λ (o : Option (List ℕ)). then_if o (signs_with e)) (labels_spelled l (m ∷ n ∷ []))

signs_back : (e : Formula) (all : List ℕ) (tokens : List Token) (a : Act) → stands 0 e ≡ true → SpellsList (λ l. Unit {0}) spell_label t.Comma tokens all → signs_with e all ≡ Some a → SpellsSign (t.Open ∷ spell e (t.Close ∷ tokens)) a
signs_back e [] tokens a st list is = absurd cc
signs_back e (l ∷ []) tokens a st list is = absurd cc
signs_back e (l ∷ m ∷ []) tokens a st list is = absurd cc
signs_back e (l ∷ m ∷ n ∷ []) tokens a st list is =
    let made : Sign e l m n ≡ a = cc (is) in
    let firsts : l ≡ list.first = cc (list.is) in
    let others : m ∷ n ∷ [] ≡ list.others = cc (list.is) in
    let whole : spell_members spell_label t.Comma l (m ∷ n ∷ []) [] ≡ tokens =
    ap (λ (k : ℕ). spell_members spell_label t.Comma k (m ∷ n ∷ []) []) firsts ∙ ap (λ (ks : List ℕ). spell_members spell_label t.Comma list.first ks []) others ∙ sym list.spelled in
    subst (SpellsSign (t.Open ∷ spell e (t.Close ∷ tokens))) made (subst (λ (x : List Token). SpellsSign (t.Open ∷ spell e (t.Close ∷ x)) (Sign e l m n)) whole (signs e l m n st))
signs_back e (l ∷ m ∷ n ∷ o ∷ more) tokens a st list is = absurd cc

tail_proper : (e : Formula) (rest tokens : List Token) → tokens ≡ t.Open ∷ spell e (t.Close ∷ rest) → AllByRecursion IsProper tokens → AllByRecursion IsProper rest
tail_proper e rest tokens is proper =
    let inside : AllByRecursion IsProper (t.Open ∷ (spell e [] ++ t.Close ∷ rest)) = subst (AllByRecursion IsProper) (is ∙ ap (λ (x : List Token). t.Open ∷ x) (spell-append e [] (t.Close ∷ rest))) proper in
    (proper_front (spell e []) t.Close rest inside.1).1

pub sign_taken : (tokens : List Token) (a : Act) → AllByRecursion IsProper tokens → sign_of tokens ≡ Some a → SpellsSign tokens a
sign_taken tokens a proper is =
    let c = then_some (condition_of tokens) (λ c. signs_of c.0 c.1) a is in
    let s = condition_taken tokens c.0 proper c.1 in
    let l = then_some (list_of label_of is_comma c.0.1) (signs_with c.0.0) a c.2 in
    let list = labels_taken c.0.1 l.0 (tail_proper c.0.0 c.0.1 tokens s.spelled proper) l.1 in
    subst (λ (x : List Token). SpellsSign x a) (sym s.spelled) (signs_back c.0.0 l.0 c.0.1 a s.stands list l.2)
