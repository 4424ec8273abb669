-- The texts of a computed GO TO, an arithmetic IF and STOP are read as these statements.
use Rattle.std.proofs.Common.{◌≡◌, ℕ, zero, suc, pos, ◌+◌, ◌-◌, ◌*◌, ◌/◌, ◌%◌, ◌^◌, ◌≤◌, ◌<◌, Bool, true, false, List, [], ◌∷◌, ◌++◌, length, Option, Some, None, refl, sym, ap, subst, ◌∙◌, codes, arith, append_assoc}
use Rattle.std.specs.Prelude.{decimal, nat_le, nat_lt}
use Rattle.std.specs.Fmt.{digits}
use Rattle.std.specs.List.{list_all, AllByRecursion}
use Rattle.std.proofs.lemmas.Bool.Decides.{nat_tests}
use Rattle.std.proofs.lemmas.Bool.{le-leb, and_from, and_parts, ltb-true, ltb-false}
use Rattle.std.proofs.lemmas.List.{length-append}
use Rattle.f66_tree.specs.Syntax.{Text, Formula, Int, Item, NoFormula, AndFormula, Act, Computed, Sign, Stop}
use Rattle.f66_tree.specs.Views.{chained}
use Rattle.stmt_text.specs.Texts.{label_text, commas, more_commas, statement_text}
use Rattle.stmt_text.proofs.Octal.{octal_one, octal_more}
use Rattle.stmt_reader.specs.declared.token.Token.{Token}
use Rattle.stmt_reader.specs.declared.token.Token.TheVariants as t
use Rattle.stmt_reader.specs.declared.lexer.Part.TheVariants.{Clear}
use Rattle.stmt_reader.specs.Levels.{is_name}
use Rattle.stmt_reader.specs.Spelling.{spell, spell_more, spell_members, spell_others}
use Rattle.stmt_reader.specs.Spelled.{spell_label}
use Rattle.stmt_reader.specs.Exactness.{labels, signs}
use Rattle.stmt_reader.specs.Lexing.{lexed, tokens_of}
use Rattle.stmt_reader.specs.Cutting.{cut, is_equals}
use Rattle.stmt_reader.specs.Statements.{or_else, assignment_of, computed_of, sign_of, is_octal, octal_after, stop_with, statement_of}
use Rattle.stmt_reader.proofs.CutLemmas.{cut_spelled, equals_outside}
use Rattle.stmt_reader.proofs.CallReads.{choice_spelled}
use Rattle.stmt_reader.proofs.Conditions.{sign_spelled}
use Rattle.deck.specs.ReadableStatements.{IsReadable, IsLabelInRange}
use Rattle.deck.proofs.AsBranch.{ReadsAsBranch}
use Rattle.deck.proofs.KnownTokens.{spell_known, labels_known}
use Rattle.deck.proofs.LexingLemmas.{IsBreak, is_alnum, word_goes_on, name_begins, word_ends, number_begins, number_ends}
use Rattle.deck.proofs.CallsRead.{no_equals}
use Rattle.deck.proofs.TextsRead.{text_lexed}
use Rattle.deck.proofs.TypesRead.{more_break}

-- ---- labels ----

more_labels : (ls : List ℕ) (k : List ℕ) → AllByRecursion IsLabelInRange ls → IsBreak k → lexed (Clear false) (more_commas label_text ls k) ≡ spell_others spell_label t.Comma ls (lexed (Clear false) k)
more_labels [] k all b = refl
more_labels (l ∷ ls) k all b =
    ap (λ (y : List Token). t.Comma ∷ y)
    (number_begins true l (more_commas label_text ls k) all.0 ∙ number_ends true l (more_commas label_text ls k) (more_break label_text ls k b) ∙ ap (λ (y : List Token). t.Number l ∷ y) (more_labels ls k all.1 b))

pub labels_lexed : (h : Bool) (l : ℕ) (ls : List ℕ) (k : List ℕ) → IsLabelInRange l → AllByRecursion IsLabelInRange ls → IsBreak k
    → lexed (Clear h) (commas label_text (l ∷ ls) k) ≡ spell_members spell_label t.Comma l ls (lexed (Clear false) k)
labels_lexed h l ls k small all b =
    number_begins h l (more_commas label_text ls k) small ∙ number_ends h l (more_commas label_text ls k) (more_break label_text ls k b) ∙ ap (λ (y : List Token). t.Number l ∷ y) (more_labels ls k all b)

-- labels are spelled as numbers of a list
abbrev numbers : List ℕ → List Formula
numbers [] = []
numbers (l ∷ ls) = Int (pos l) ∷ numbers ls

more_numbers : (ls : List ℕ) (k : List Token) → spell_others spell_label t.Comma ls k ≡ spell_more (chained (numbers ls)) k
more_numbers [] k = refl
more_numbers (l ∷ ls) k = ap (λ (y : List Token). t.Comma ∷ t.Number l ∷ y) (more_numbers ls k)

-- ---- computed GO TO ----

pub jumped : (o c r1 r2 : Option Act) (a : Act) → o ≡ None → c ≡ Some a → or_else o (or_else None (or_else (or_else o (or_else c r1)) r2)) ≡ Some a
jumped (Some b) c r1 r2 a none is = absurd cc
jumped None c r1 r2 a none is = ap (λ (x : Option Act). or_else (or_else x r1) r2) is

pub branched : (o c r : Option Act) (a : Act) → o ≡ None → c ≡ Some a → or_else o (or_else c r) ≡ Some a
branched (Some b) c r a none is = absurd cc
branched None c r a none is = ap (λ (x : Option Act). or_else x r) is

abbrev pub choice_tokens : ℕ → List ℕ → Text → List Token
choice_tokens l ls x = t.Open ∷ spell_members spell_label t.Comma l ls (t.Close ∷ t.Comma ∷ t.Word x ∷ [])

pub choice_lexed : (l : ℕ) (ls : List ℕ) (x : Text) → IsLabelInRange l → AllByRecursion IsLabelInRange ls → is_name x ≡ true
    → tokens_of (statement_text (Computed (l ∷ ls) x)) ≡ t.Word (codes "GOTO") ∷ choice_tokens l ls x
choice_lexed l ls x small all name =
    ap (λ (y : List Token). t.Word (codes "GOTO") ∷ t.Open ∷ y)
    (labels_lexed true l ls (41 ∷ 44 ∷ (x ++ [])) small all (refl, refl, refl, refl)
    ∙ ap (λ (y : List Token). spell_members spell_label t.Comma l ls (t.Close ∷ t.Comma ∷ y)) (name_begins true x [] name ∙ word_ends x [] tt))

choice_is_none : (l : ℕ) (ls : List ℕ) (x : Text) → assignment_of (t.Word (codes "GOTO") ∷ choice_tokens l ls x) ≡ None
choice_is_none l ls x =
    no_equals (t.Word (codes "GOTO") ∷ choice_tokens l ls x)
    (ap (λ (y : List Token). cut is_equals 0 (t.Word (codes "GOTO") ∷ t.Open ∷ t.Number l ∷ y)) (more_numbers ls (t.Close ∷ t.Comma ∷ t.Word x ∷ []))
    ∙ cut_spelled is_equals equals_outside (Item (codes "GOTO") (chained (numbers (l ∷ ls)))) 0 (t.Comma ∷ t.Word x ∷ []))

choice_is : (l : ℕ) (ls : List ℕ) (x : Text) → computed_of (choice_tokens l ls x) ≡ Some (Computed (l ∷ ls) x)
choice_is l ls x = choice_spelled (choice_tokens l ls x) (Computed (l ∷ ls) x) (labels l ls x)

pub choice_branch : (l : ℕ) (ls : List ℕ) (x : Text) → IsLabelInRange l → AllByRecursion IsLabelInRange ls → is_name x ≡ true → ReadsAsBranch (Computed (l ∷ ls) x)
choice_branch l ls x small all name = record {
  word = codes "GOTO";
  others = choice_tokens l ls x;
  tokens = choice_lexed l ls x small all name;
  known = labels_known ls (t.Close ∷ t.Comma ∷ t.Word x ∷ []) refl;
  read = branched (assignment_of (t.Word (codes "GOTO") ∷ choice_tokens l ls x)) (computed_of (choice_tokens l ls x)) _ (Computed (l ∷ ls) x) (choice_is_none l ls x) (choice_is l ls x);
}

pub choice_read : (l : ℕ) (ls : List ℕ) (x : Text) → IsLabelInRange l → AllByRecursion IsLabelInRange ls → is_name x ≡ true → statement_of (tokens_of (statement_text (Computed (l ∷ ls) x))) ≡ Some (Computed (l ∷ ls) x)
choice_read l ls x small all name =
    ap statement_of (choice_lexed l ls x small all name)
    ∙ jumped (assignment_of (t.Word (codes "GOTO") ∷ choice_tokens l ls x)) (computed_of (choice_tokens l ls x)) _ _ (Computed (l ∷ ls) x) (choice_is_none l ls x) (choice_is l ls x)

-- ---- arithmetic IF ----

abbrev pub sign_tokens : Formula → ℕ → ℕ → ℕ → List Token
sign_tokens e l m n = t.Open ∷ spell e (t.Close ∷ spell_members spell_label t.Comma l (m ∷ n ∷ []) [])

signs_text : (a b c : List ℕ) → ((a ++ 44 ∷ b) ++ 44 ∷ c) ++ [] ≡ a ++ 44 ∷ (b ++ 44 ∷ (c ++ []))
signs_text a b c = append_assoc (a ++ 44 ∷ b) (44 ∷ c) [] ∙ append_assoc a (44 ∷ b) (44 ∷ (c ++ []))

pub sign_lexed : (e : Formula) (l m n : ℕ) → IsReadable e → IsLabelInRange l → IsLabelInRange m → IsLabelInRange n → tokens_of (statement_text (Sign e l m n)) ≡ t.Word (codes "IF") ∷ sign_tokens e l m n
sign_lexed e l m n fine below zero_label above =
    ap (λ (y : List Token). t.Word (codes "IF") ∷ t.Open ∷ y)
    (text_lexed e true (41 ∷ (((decimal l ++ 44 ∷ decimal m) ++ 44 ∷ decimal n) ++ [])) fine.readable (refl, refl, refl, refl)
    ∙ ap (λ (y : List Token). spell e (t.Close ∷ y))
    (ap (lexed (Clear false)) (signs_text (decimal l) (decimal m) (decimal n)) ∙ labels_lexed false l (m ∷ n ∷ []) [] below (zero_label, (above, tt)) tt))

sign_is_none : (e : Formula) (l m n : ℕ) → assignment_of (t.Word (codes "IF") ∷ sign_tokens e l m n) ≡ None
sign_is_none e l m n =
    no_equals (t.Word (codes "IF") ∷ sign_tokens e l m n) (cut_spelled is_equals equals_outside (Item (codes "IF") (AndFormula e NoFormula)) 0 (spell_members spell_label t.Comma l (m ∷ n ∷ []) []))

sign_is : (e : Formula) (l m n : ℕ) → IsReadable e → sign_of (sign_tokens e l m n) ≡ Some (Sign e l m n)
sign_is e l m n fine = sign_spelled (sign_tokens e l m n) (Sign e l m n) (signs e l m n fine.stands)

pub sign_branch : (e : Formula) (l m n : ℕ) → IsReadable e → IsLabelInRange l → IsLabelInRange m → IsLabelInRange n → ReadsAsBranch (Sign e l m n)
sign_branch e l m n fine below zero_label above = record {
  word = codes "IF";
  others = sign_tokens e l m n;
  tokens = sign_lexed e l m n fine below zero_label above;
  known = spell_known e (t.Close ∷ spell_members spell_label t.Comma l (m ∷ n ∷ []) []) refl;
  read = branched (assignment_of (t.Word (codes "IF") ∷ sign_tokens e l m n)) (sign_of (sign_tokens e l m n)) _ (Sign e l m n) (sign_is_none e l m n) (sign_is e l m n fine);
}

pub sign_read : (e : Formula) (l m n : ℕ) → IsReadable e → IsLabelInRange l → IsLabelInRange m → IsLabelInRange n → statement_of (tokens_of (statement_text (Sign e l m n))) ≡ Some (Sign e l m n)
sign_read e l m n fine below zero_label above =
    ap statement_of (sign_lexed e l m n fine below zero_label above)
    ∙ jumped (assignment_of (t.Word (codes "IF") ∷ sign_tokens e l m n)) (sign_of (sign_tokens e l m n)) _ _ (Sign e l m n) (sign_is_none e l m n) (sign_is e l m n fine)

-- ---- STOP ----

-- the octal digits of a number that has at most so many
record IsOctal (k n : ℕ) (ds : List ℕ) : Type 0 where
  some : 1 ≤ length ds
  few : length ds ≤ k
  all : list_all is_octal ds ≡ true
  letters : list_all is_alnum ds ≡ true
  value : octal_after 0 ds ≡ n

octal_digit : (d : ℕ) → d < 8 → is_octal (48 + d) ≡ true
octal_digit d lt = and_from (nat_le 48 (48 + d)) (nat_le (48 + d) 55) (le-leb 48 (48 + d) (omega arith)) (le-leb (48 + d) 55 (omega (arith, lt)))

octal_letter : (c : ℕ) → is_octal c ≡ true → is_alnum c ≡ true
octal_letter c is = grind (arith, nat_tests, is)

octal_behind : (m : ℕ) (ds : List ℕ) (c : ℕ) → octal_after m (ds ++ c ∷ []) ≡ octal_after m ds * 8 + (c - 48)
octal_behind m [] c = refl
octal_behind m (d ∷ ds) c = octal_behind (m * 8 + (d - 48)) ds c

all_behind : (p : ℕ → Bool) (ds : List ℕ) (c : ℕ) → list_all p ds ≡ true → p c ≡ true → list_all p (ds ++ c ∷ []) ≡ true
all_behind p [] c all is = and_from (p c) true is refl
all_behind p (d ∷ ds) c all is = let b = and_parts (p d) (list_all p ds) all in and_from (p d) (list_all p (ds ++ c ∷ [])) b.0 (all_behind p ds c b.1 is)

one_octal : (k n : ℕ) → n < 8 → IsOctal (suc k) n (digits 8 false n)
one_octal k n lt =
    let is : is_octal (48 + n % 8) ≡ true = octal_digit (n % 8) (omega arith) in
    let digit : IsOctal (suc k) n ((48 + n % 8) ∷ []) = record {
      some = omega arith;
      few = omega arith;
      all = and_from (is_octal (48 + n % 8)) true is refl;
      letters = and_from (is_alnum (48 + n % 8)) true (octal_letter (48 + n % 8) is) refl;
      value = omega (arith, lt);
    } in
    subst (IsOctal (suc k) n) (sym (octal_one n lt)) digit

more_octal : (k n : ℕ) (ds : List ℕ) → 8 ≤ n → IsOctal (suc k) (n / 8) ds → IsOctal (suc (suc k)) n (ds ++ (48 + n % 8) ∷ [])
more_octal k n ds many r =
    let is : is_octal (48 + n % 8) ≡ true = octal_digit (n % 8) (omega arith) in
    let long : length (ds ++ (48 + n % 8) ∷ []) ≡ length ds + 1 = length-append ds ((48 + n % 8) ∷ []) in
    record {
      some = omega (arith, long);
      few = omega (arith, long, r.few);
      all = all_behind is_octal ds (48 + n % 8) r.all is;
      letters = all_behind is_alnum ds (48 + n % 8) r.letters (octal_letter (48 + n % 8) is);
      value = octal_behind 0 ds (48 + n % 8) ∙ omega (arith, r.value);
    }

octal_by : (k n : ℕ) (b : Bool) → nat_lt n 8 ≡ b → n < 65536 → IsOctal (suc k) (n / 8) (digits 8 false (n / 8)) → IsOctal (suc (suc k)) n (digits 8 false n)
octal_by k n true is small r = one_octal (suc k) n (ltb-true n 8 is)
octal_by k n false is small r =
    let many : 8 ≤ n = ltb-false n 8 is in
    subst (IsOctal (suc (suc k)) n) (sym (octal_more n many small)) (more_octal k n (digits 8 false (n / 8)) many r)

octal_digits : (k n : ℕ) → n < 8 ^ suc k → n < 65536 → IsOctal (suc k) n (digits 8 false n)
octal_digits zero n lt small = one_octal zero n (omega (arith, lt))
octal_digits (suc k) n lt small = octal_by k n (nat_lt n 8) refl small (octal_digits k (n / 8) (omega (arith, lt)) (omega (arith, small)))

stopped : (n : ℕ) (ds : List ℕ) → IsOctal 5 n ds → stop_with ds ≡ Some (Stop (Some n))
stopped n [] r = absurd (omega (arith, r.some))
stopped n (c ∷ cs) r =
    let short : nat_le (length (c ∷ cs)) 5 ≡ true = le-leb (length (c ∷ cs)) 5 r.few in
    let all = r.all in
    let value = r.value in
    rw (short, all, value) refl

either : (c r1 r2 : Option Act) (a : Act) → c ≡ Some a → or_else (or_else c r1) r2 ≡ Some a
either c r1 r2 a is = ap (λ (x : Option Act). or_else (or_else x r1) r2) is

first : (c r : Option Act) (a : Act) → c ≡ Some a → or_else c r ≡ Some a
first c r a is = ap (λ (x : Option Act). or_else x r) is

stop_lexed : (n : ℕ) → IsOctal 5 n (digits 8 false n) → tokens_of (statement_text (Stop (Some n))) ≡ t.Word (codes "STOP" ++ digits 8 false n) ∷ []
stop_lexed n r = word_goes_on (codes "STOP") (digits 8 false n) [] r.letters

pub stop_letters : (n : ℕ) → n < 32768 → list_all is_alnum (digits 8 false n) ≡ true
stop_letters n small = (octal_digits 4 n (omega (arith, small)) (omega (arith, small))).letters

pub stop_tokens : (n : ℕ) → n < 32768 → tokens_of (statement_text (Stop (Some n))) ≡ t.Word (codes "STOP" ++ digits 8 false n) ∷ []
stop_tokens n small = stop_lexed n (octal_digits 4 n (omega (arith, small)) (omega (arith, small)))

pub stop_branch : (n : ℕ) → n < 32768 → ReadsAsBranch (Stop (Some n))
stop_branch n small =
    let r = octal_digits 4 n (omega (arith, small)) (omega (arith, small)) in
    record {
      word = codes "STOP" ++ digits 8 false n;
      others = [];
      tokens = stop_lexed n r;
      known = refl;
      read = first (stop_with (digits 8 false n)) _ (Stop (Some n)) (stopped n (digits 8 false n) r);
    }

pub stop_read : (n : ℕ) → n < 32768 → statement_of (tokens_of (statement_text (Stop (Some n)))) ≡ Some (Stop (Some n))
stop_read n small =
    let r = octal_digits 4 n (omega (arith, small)) (omega (arith, small)) in
    ap statement_of (stop_lexed n r) ∙ either (stop_with (digits 8 false n)) _ _ (Stop (Some n)) (stopped n (digits 8 false n) r)
