-- The texts of statements that a logical IF may hold, and the text of the IF that holds one, are read as these statements.
use Rattle.std.proofs.Common.{◌≡◌, ℕ, true, false, List, [], ◌∷◌, ◌++◌, Option, Some, None, refl, ap, ◌∙◌, codes}
use Rattle.std.specs.Prelude.{decimal}
use Rattle.std.specs.List.{AllByRecursion}
use Rattle.std.proofs.lemmas.Bool.{and_from}
use Rattle.f66_tree.specs.Syntax.{Text, Formula, Ref, Item, NoFormula, AndFormula, Act, Assign, Goto, When, Invoke, Continue, Stop, Return}
use Rattle.f66_tree.specs.Views.{chained}
use Rattle.stmt_text.specs.Texts.{formula_text, formulas_text, act_text, statement_text}
use Rattle.stmt_reader.specs.declared.token.Token.{Token}
use Rattle.stmt_reader.specs.declared.token.Token.TheVariants as t
use Rattle.stmt_reader.specs.Levels.{is_name, stands, stand_all}
use Rattle.stmt_reader.specs.Spelling.{spell, spell_members, spell_others}
use Rattle.stmt_reader.specs.Exactness.{IsArgument, with_arguments}
use Rattle.stmt_reader.specs.Lexing.{lexed, tokens_of}
use Rattle.stmt_reader.specs.declared.lexer.Part.TheVariants.{Clear}
use Rattle.stmt_reader.specs.Cutting.{Halves, fronted, cut, is_equals}
use Rattle.stmt_reader.specs.Machine.{final, expression_of}
use Rattle.stmt_reader.specs.Statements.{or_else, then_if, place_if, after_word, assignment_of, goto_of, computed_of, call_of, condition_of, signs_of, sign_of, branch_of, statement_of}
use Rattle.stmt_reader.proofs.Complete.{run_spelled}
use Rattle.stmt_reader.proofs.Sound.{stays_stuck}
use Rattle.stmt_reader.proofs.CutLemmas.{cut_spelled, equals_outside, fronted_twice}
use Rattle.stmt_reader.proofs.Assignments.{assignment_spelled}
use Rattle.stmt_reader.proofs.CallReads.{call_spelled}
use Rattle.stmt_reader.proofs.Conditions.{condition_spelled}
use Rattle.deck.specs.Readable.{is_readable_argument}
use Rattle.deck.specs.ReadableStatements.{IsReadable, IsLabelInRange}
use Rattle.deck.proofs.AsBranch.{ReadsAsBranch}
use Rattle.deck.proofs.KnownTokens.{spell_known, arguments_known}
use Rattle.deck.proofs.TextsRead.{text_lexed}
use Rattle.deck.proofs.BranchesRead.{goto_lexed, goto_behind}
use Rattle.deck.proofs.CallsRead.{call_behind, call_is_none, arguments_lexed}

-- ---- the statements that it may hold ----

assigned : (tokens : List Token) (a : Act) → assignment_of tokens ≡ Some a → branch_of tokens ≡ Some a
assigned tokens a is = rw is refl

pub assignment_lexed : (x e : Formula) → IsReadable x → IsReadable e → tokens_of (statement_text (Assign x e)) ≡ spell x (t.Equals ∷ spell e [])
assignment_lexed x e left right =
    text_lexed x false (61 ∷ formula_text e []) left.readable (refl, refl, refl, refl) ∙ ap (λ (k : List Token). spell x (t.Equals ∷ k)) (text_lexed e false [] right.readable tt)

pub assignment_branch : (x e : Formula) → place_if x ≡ Some x → IsReadable x → IsReadable e → ReadsAsBranch (Assign x e)
assignment_branch (Ref x) e place left right = record {
  word = x;
  others = t.Equals ∷ spell e [];
  tokens = assignment_lexed (Ref x) e left right;
  known = spell_known e [] refl;
  read = assigned (t.Word x ∷ t.Equals ∷ spell e []) (Assign (Ref x) e) (assignment_spelled (Ref x) e place left.stands right.stands);
}
assignment_branch (Item x es) e place left right = record {
  word = x;
  others = _;
  tokens = assignment_lexed (Item x es) e left right;
  known = spell_known (Item x es) (t.Equals ∷ spell e []) (spell_known e [] refl);
  read = assigned (spell (Item x es) (t.Equals ∷ spell e [])) (Assign (Item x es) e) (assignment_spelled (Item x es) e place left.stands right.stands);
}
assignment_branch _ e place left right = absurd cc

pub goto_branch : (l : ℕ) → IsLabelInRange l → ReadsAsBranch (Goto l)
goto_branch l small = record {
  word = 71 ∷ 79 ∷ 84 ∷ 79 ∷ decimal l;
  others = [];
  tokens = goto_lexed l small;
  known = refl;
  read = ap (λ (o : Option (List Token)). or_else (then_if o (λ rest. or_else (goto_of rest) (computed_of rest))) None) (goto_behind l small);
}

held : (o c r : Option Act) (a : Act) → o ≡ None → c ≡ Some a → or_else o (or_else None (or_else None (or_else c r))) ≡ Some a
held (Some b) c r a none is = absurd cc
held None c r a none is = ap (λ (x : Option Act). or_else x r) is

pub bare_call_branch : (x : Text) → is_name x ≡ true → ReadsAsBranch (Invoke x NoFormula)
bare_call_branch x name =
    let p = call_behind x [] [] name tt refl in
    record {
      word = codes "CALL" ++ x;
      others = [];
      tokens = p.0;
      known = refl;
      read = held (assignment_of (t.Word (codes "CALL" ++ x) ∷ [])) (then_if (after_word (codes "CALL") (t.Word (codes "CALL" ++ x) ∷ [])) call_of) _ (Invoke x NoFormula) refl (ap (λ (o : Option (List Token)). then_if o call_of) p.1);
    }

pub call_branch : (x : Text) (e : Formula) (es : List Formula) → is_name x ≡ true → IsArgument e → AllByRecursion IsArgument es → is_readable_argument e ≡ true → AllByRecursion (λ a. is_readable_argument a ≡ true) es
    → ReadsAsBranch (Invoke x (chained (e ∷ es)))
call_branch x e es name first others first_readable readable =
    let tail : List Token = t.Open ∷ spell_members spell t.Comma e es (t.Close ∷ []) in
    let inside : lexed (Clear false) (40 ∷ formulas_text (chained (e ∷ es)) (41 ∷ [])) ≡ tail =
    ap (λ (y : List Token). t.Open ∷ y) (arguments_lexed e es (41 ∷ []) first_readable readable (refl, refl, refl, refl)) in
    let p = call_behind x (40 ∷ formulas_text (chained (e ∷ es)) (41 ∷ [])) tail name (refl, refl, refl, refl) inside in
    record {
      word = codes "CALL" ++ x;
      others = tail;
      tokens = p.0;
      known = spell_known e (spell_others spell t.Comma es (t.Close ∷ [])) (arguments_known es (t.Close ∷ []) refl);
      read = held (assignment_of (t.Word (codes "CALL" ++ x) ∷ tail)) (then_if (after_word (codes "CALL") (t.Word (codes "CALL" ++ x) ∷ tail)) call_of) _ (Invoke x (chained (e ∷ es))) (call_is_none (codes "CALL" ++ x) e es)
          (ap (λ (o : Option (List Token)). then_if o call_of) p.1 ∙ call_spelled _ _ (with_arguments x e es first others));
    }

pub continue_branch : ReadsAsBranch Continue
continue_branch = record { word = codes "CONTINUE"; others = []; tokens = refl; known = refl; read = refl }

pub stop_alone_branch : ReadsAsBranch (Stop None)
stop_alone_branch = record { word = codes "STOP"; others = []; tokens = refl; known = refl; read = refl }

pub return_branch : ReadsAsBranch Return
return_branch = record { word = codes "RETURN"; others = []; tokens = refl; known = refl; read = refl }

-- ---- the logical IF ----

-- the condition as the argument of the word
abbrev asked : Formula → Formula
asked e = Item (codes "IF") (AndFormula e NoFormula)

asked_stands : (e : Formula) → stands 0 e ≡ true → stands 0 (asked e) ≡ true
asked_stands e is = and_from (stands 0 e) (stand_all NoFormula) is refl

-- a word behind the condition belongs to no expression
no_expression : (e : Formula) (w : List ℕ) (k : List Token) → stands 0 e ≡ true → expression_of (spell (asked e) (t.Word w ∷ k)) ≡ None
no_expression e w k is = ap final (run_spelled (asked e) [] (t.Word w ∷ k) (asked_stands e is) ∙ stays_stuck k)

conditional_is_none : (e : Formula) (w : List ℕ) (ks : List Token) → stands 0 e ≡ true → assignment_of (spell (asked e) (t.Word w ∷ ks)) ≡ None
conditional_is_none e w ks is =
    ap (λ (o : Option Halves). then_if o (λ h. then_if (expression_of h.0) (λ a. then_if (place_if a) (λ x. then_if (expression_of h.1) (λ v. Some (Assign x v))))))
    (cut_spelled is_equals equals_outside (asked e) 0 (t.Word w ∷ ks) ∙ fronted_twice (spell (asked e)) (λ y. t.Word w ∷ y) (cut is_equals 0 ks))
    ∙ none_by (cut is_equals 0 ks)
  where
    none_by : (o : Option Halves) → then_if (fronted (λ y. spell (asked e) (t.Word w ∷ y)) o) (λ h. then_if (expression_of h.0) (λ a. then_if (place_if a) (λ x. then_if (expression_of h.1) (λ v. Some (Assign x v))))) ≡ None
    none_by None = refl
    none_by (Some h) = ap (λ (o : Option Formula). then_if o (λ a. then_if (place_if a) (λ x. then_if (expression_of h.1) (λ v. Some (Assign x v))))) (no_expression e w h.0 is)

-- what begins with a word is no list of labels
no_signs : (e : Formula) (w : List ℕ) (ks : List Token) → stands 0 e ≡ true → sign_of (t.Open ∷ spell e (t.Close ∷ t.Word w ∷ ks)) ≡ None
no_signs e w ks is = ap (λ (o : Option (Formula × List Token)). then_if o (λ c. signs_of c.0 c.1)) (condition_spelled e (t.Word w ∷ ks) is)

chosen : (o s c r : Option Act) (a : Act) → o ≡ None → s ≡ None → c ≡ Some a → or_else o (or_else None (or_else (or_else o (or_else None (or_else s None))) (or_else c r))) ≡ Some a
chosen (Some b) s c r a none unsigned is = absurd cc
chosen None (Some b) c r a none unsigned is = absurd cc
chosen None None c r a none unsigned is = ap (λ (x : Option Act). or_else x r) is

pub conditional_lexed : (e : Formula) (a : Act) → IsReadable e → (r : ReadsAsBranch a) → tokens_of (statement_text (When e a)) ≡ t.Word (codes "IF") ∷ t.Open ∷ spell e (t.Close ∷ t.Word r.word ∷ r.others)
conditional_lexed e a fine r =
    ap (λ (y : List Token). t.Word (codes "IF") ∷ t.Open ∷ y) (text_lexed e true (41 ∷ act_text a []) fine.readable (refl, refl, refl, refl) ∙ ap (λ (y : List Token). spell e (t.Close ∷ y)) r.tokens)

pub conditional_read : (e : Formula) (a : Act) → IsReadable e → ReadsAsBranch a → statement_of (tokens_of (statement_text (When e a))) ≡ Some (When e a)
conditional_read e a fine r =
    let inside : List Token = t.Word r.word ∷ r.others in
    ap statement_of (conditional_lexed e a fine r)
    ∙ chosen (assignment_of (t.Word (codes "IF") ∷ t.Open ∷ spell e (t.Close ∷ inside))) (sign_of (t.Open ∷ spell e (t.Close ∷ inside)))
    (then_if (condition_of (t.Open ∷ spell e (t.Close ∷ inside))) (λ c. then_if (branch_of c.1) (λ b. Some (When c.0 b)))) _ (When e a)
    (conditional_is_none e r.word r.others fine.stands) (no_signs e r.word r.others fine.stands)
    (ap (λ (o : Option (Formula × List Token)). then_if o (λ c. then_if (branch_of c.1) (λ b. Some (When c.0 b)))) (condition_spelled e inside fine.stands) ∙ ap (λ (o : Option Act). then_if o (λ b. Some (When e b))) r.read)
