-- Tokens that are spelled have no more open parentheses than what they spell.
use Rattle.std.proofs.Common.{◌≡◌, ℕ, suc, ◌+◌, ◌≤◌, pos, negsuc, Bool, true, false, cond, List, [], ◌∷◌, Some, None, refl, sym, ap, subst, arith}
use Rattle.std.specs.Prelude.{max, unsigned_abs, nat_lt, ◌==◌, ◌||◌, decimal}
use Rattle.std.proofs.lemmas.Bool.{ltb-false, le-ltb}
use Rattle.f66_tree.specs.declared.expression.Operator.TheVariants.{Add, Sub, Div}
use Rattle.f66_tree.specs.Fields.{Step, Takes, Blanks, Chars, Slash, Fields, NoField, Single, Group as Nested}
use Rattle.f66_tree.specs.Syntax.{Text, Formula, Int, Truth, Letter, Ref, Item, Group, Plus, Minus, Not, Pair, Formulas, NoFormula, AndFormula, Par, Constant, Named, Declared, Entry, One, Many, Entries, NoEntry, AndEntry}
use Rattle.f66_tree.specs.Views.{chained}
use Rattle.stmt_text.specs.Texts.{edit_letter, is_one, is_slash}
use Rattle.stmt_reader.specs.declared.token.Token.{Token}
use Rattle.stmt_reader.specs.declared.token.Token.TheVariants as t
use Rattle.stmt_reader.specs.Cutting.{depth}
use Rattle.stmt_reader.specs.Faults.{is_too_deep}
use Rattle.stmt_reader.specs.Formats.{Items, Then, Point, count_tokens, spell_item, spell_items}
use Rattle.stmt_reader.specs.Spelling.{spell, spell_list, spell_more, spell_others}
use Rattle.stmt_reader.specs.Spelled.{par_formulas, sized_formula, spell_declared, spell_label}
use Rattle.deck.proofs.BranchesRead.{par_token}
use Rattle.deck.proofs.EntriesRead.{step_then, spell_entry, spell_entries, more_entries}
use Rattle.deck.proofs.ListsRead.{spell_some}
use Rattle.deck.proofs.FormatTexts.{item_of, pointed, written}
use Rattle.deck_laws.specs.Nesting.{deepest, nesting, nesting_all, sizes_nesting, declared_nesting, entry_nesting, entries_nesting, fields_nesting}

-- no more than 110 parentheses are open anywhere, where so many are
abbrev pub StayShallow : ℕ → List Token → Type 0
StayShallow d k = is_too_deep d k ≡ false

parts : (a b : Bool) → (a || b) ≡ false → (a ≡ false) × (b ≡ false)
parts true b is = absurd cc
parts false b is = (refl, is)

low : (d : ℕ) (k : List Token) → StayShallow d k → d ≤ 110
low d [] is = ltb-false 110 d is
low d (token ∷ k) is = ltb-false 110 d (parts (nat_lt 110 d) (is_too_deep (depth d token) k) is).0

next : (d : ℕ) (token : Token) (k : List Token) → d ≤ 110 → StayShallow (depth d token) k → StayShallow d (token ∷ k)
next d token k small is = let no : nat_lt 110 d ≡ false = le-ltb 110 d small in rw (no, is) refl

-- a token that is no parenthesis
pub keeps : (d : ℕ) (token : Token) (k : List Token) → depth d token ≡ d → StayShallow d k → StayShallow d (token ∷ k)
keeps d token k same is = next d token k (low d k is) (subst (λ (n : ℕ). StayShallow n k) (sym same) is)

pub opens : (d : ℕ) (k : List Token) → StayShallow (suc d) k → StayShallow d (t.Open ∷ k)
opens d k is = let small : suc d ≤ 110 = low (suc d) k is in next d t.Open k (omega (arith, small)) is

pub closes : (d : ℕ) (k : List Token) → suc d ≤ 110 → StayShallow d k → StayShallow (suc d) (t.Close ∷ k)
closes d k small is = next (suc d) t.Close k small is

-- ---- expressions ----

mutual
  pub spell_shallow : (e : Formula) (d : ℕ) (k : List Token) → nesting e + d ≤ 110 → StayShallow d k → StayShallow d (spell e k)
  spell_shallow (Int z) d k room is = keeps d (t.Number (unsigned_abs z)) k refl is
  spell_shallow (Truth b) d k room is = keeps d (t.Truth b) k refl is
  spell_shallow (Letter c) d k room is = keeps d (t.Chars (c ∷ [])) k refl is
  spell_shallow (Ref x) d k room is = keeps d (t.Word x) k refl is
  spell_shallow (Item x es) d k room is =
      keeps d (t.Word x) (t.Open ∷ spell_list es (t.Close ∷ k)) refl (opens d (spell_list es (t.Close ∷ k)) (list_shallow es (suc d) (t.Close ∷ k) (omega (arith, room)) (closes d k (omega (arith, room)) is)))
  spell_shallow (Group a) d k room is = opens d (spell a (t.Close ∷ k)) (spell_shallow a (suc d) (t.Close ∷ k) (omega (arith, room)) (closes d k (omega (arith, room)) is))
  spell_shallow (Plus a) d k room is = keeps d (t.Joint Add) (spell a k) refl (spell_shallow a d k room is)
  spell_shallow (Minus a) d k room is = keeps d (t.Joint Sub) (spell a k) refl (spell_shallow a d k room is)
  spell_shallow (Not a) d k room is = keeps d t.Not (spell a k) refl (spell_shallow a d k room is)
  spell_shallow (Pair op a b) d k room is =
      spell_shallow a d (t.Joint op ∷ spell b k) (omega (arith, room)) (keeps d (t.Joint op) (spell b k) refl (spell_shallow b d k (omega (arith, room)) is))

  pub list_shallow : (es : Formulas) (d : ℕ) (k : List Token) → nesting_all es + d ≤ 110 → StayShallow d k → StayShallow d (spell_list es k)
  list_shallow NoFormula d k room is = is
  list_shallow (AndFormula e es) d k room is = spell_shallow e d (spell_more es k) (omega (arith, room)) (more_shallow es d k (omega (arith, room)) is)

  more_shallow : (es : Formulas) (d : ℕ) (k : List Token) → nesting_all es + d ≤ 110 → StayShallow d k → StayShallow d (spell_more es k)
  more_shallow NoFormula d k room is = is
  more_shallow (AndFormula e es) d k room is = keeps d t.Comma (spell e (spell_more es k)) refl (spell_shallow e d (spell_more es k) (omega (arith, room)) (more_shallow es d k (omega (arith, room)) is))

-- ---- lists ----

pub labels_shallow : (ls : List ℕ) (d : ℕ) (k : List Token) → StayShallow d k → StayShallow d (spell_others spell_label t.Comma ls k)
labels_shallow [] d k is = is
labels_shallow (l ∷ ls) d k is = keeps d t.Comma (t.Number l ∷ spell_others spell_label t.Comma ls k) refl (keeps d (t.Number l) (spell_others spell_label t.Comma ls k) refl (labels_shallow ls d k is))

pub arguments_shallow : (es : List Formula) (d : ℕ) (k : List Token) → nesting_all (chained es) + d ≤ 110 → StayShallow d k → StayShallow d (spell_others spell t.Comma es k)
arguments_shallow [] d k room is = is
arguments_shallow (e ∷ es) d k room is =
    keeps d t.Comma (spell e (spell_others spell t.Comma es k)) refl (spell_shallow e d (spell_others spell t.Comma es k) (omega (arith, room)) (arguments_shallow es d k (omega (arith, room)) is))

pars_nesting : (ps : List Par) → nesting_all (par_formulas ps) ≡ 0
pars_nesting [] = refl
pars_nesting (Constant z ∷ ps) = ap (max 0) (pars_nesting ps)
pars_nesting (Named x ∷ ps) = ap (max 0) (pars_nesting ps)

sized_nesting : (x : Text) (sizes : List Par) → nesting (sized_formula x sizes) ≡ sizes_nesting sizes
sized_nesting x [] = refl
sized_nesting x (p ∷ ps) = ap suc (pars_nesting (p ∷ ps))

pub sized_shallow : (x : Text) (sizes : List Par) (d : ℕ) (k : List Token) → sizes_nesting sizes + d ≤ 110 → StayShallow d k → StayShallow d (spell (sized_formula x sizes) k)
sized_shallow x sizes d k room is = let same : nesting (sized_formula x sizes) ≡ sizes_nesting sizes = sized_nesting x sizes in spell_shallow (sized_formula x sizes) d k (omega (arith, room, same)) is

pub names_shallow : (ds : List Declared) (d : ℕ) (k : List Token) → deepest declared_nesting ds + d ≤ 110 → StayShallow d k → StayShallow d (spell_others spell_declared t.Comma ds k)
names_shallow [] d k room is = is
names_shallow (n ∷ ns) d k room is =
    keeps d t.Comma (spell_declared n (spell_others spell_declared t.Comma ns k)) refl
    (sized_shallow n.name n.sizes d (spell_others spell_declared t.Comma ns k) (omega (arith, room)) (names_shallow ns d k (omega (arith, room)) is))

-- a list by its members
module _ {A : Type 0} (deep : A → ℕ) (spelling : A → List Token → List Token) (member : (a : A) (d : ℕ) (k : List Token) → deep a + d ≤ 110 → StayShallow d k → StayShallow d (spelling a k)) where
  pub others_shallow : (all : List A) (d : ℕ) (k : List Token) → deepest deep all + d ≤ 110 → StayShallow d k → StayShallow d (spell_others spelling t.Comma all k)
  others_shallow [] d k room is = is
  others_shallow (a ∷ all) d k room is =
      keeps d t.Comma (spelling a (spell_others spelling t.Comma all k)) refl (member a d (spell_others spelling t.Comma all k) (omega (arith, room)) (others_shallow all d k (omega (arith, room)) is))

  pub some_shallow : (all : List A) (d : ℕ) (k : List Token) → deepest deep all + d ≤ 110 → StayShallow d k → StayShallow d (spell_some spelling all k)
  some_shallow [] d k room is = is
  some_shallow (a ∷ all) d k room is = member a d (spell_others spelling t.Comma all k) (omega (arith, room)) (others_shallow all d k (omega (arith, room)) is)

-- ---- what READ and WRITE go over ----

pub par_shallow : (p : Par) (d : ℕ) (k : List Token) → StayShallow d k → StayShallow d (par_token p ∷ k)
par_shallow (Constant (pos n)) d k is = keeps d (t.Number n) k refl is
par_shallow (Constant (negsuc n)) d k is = keeps d t.Strange k refl is
par_shallow (Named x) d k is = keeps d (t.Word x) k refl is

pub step_shallow : (c : Par) (one : Bool) (d : ℕ) (k : List Token) → StayShallow d k → StayShallow d (cond one k (t.Comma ∷ par_token c ∷ k))
step_shallow c true d k is = is
step_shallow c false d k is = keeps d t.Comma (par_token c ∷ k) refl (par_shallow c d k is)

control_shallow : (x : Text) (a b c : Par) (d : ℕ) (k : List Token) → StayShallow d k → StayShallow d (t.Comma ∷ t.Word x ∷ t.Equals ∷ par_token a ∷ t.Comma ∷ par_token b ∷ step_then c k)
control_shallow x a b c d k is =
    keeps d t.Comma (t.Word x ∷ t.Equals ∷ par_token a ∷ t.Comma ∷ par_token b ∷ step_then c k) refl
    (keeps d (t.Word x) (t.Equals ∷ par_token a ∷ t.Comma ∷ par_token b ∷ step_then c k) refl
    (keeps d t.Equals (par_token a ∷ t.Comma ∷ par_token b ∷ step_then c k) refl
    (par_shallow a d (t.Comma ∷ par_token b ∷ step_then c k) (keeps d t.Comma (par_token b ∷ step_then c k) refl (par_shallow b d (step_then c k) (step_shallow c (is_one c) d k is))))))

mutual
  entry_shallow : (e : Entry) (d : ℕ) (k : List Token) → entry_nesting e + d ≤ 110 → StayShallow d k → StayShallow d (spell_entry e k)
  entry_shallow (One e) d k room is = spell_shallow e d k room is
  entry_shallow (Many es x a b c) d k room is =
      opens d (spell_entries es (t.Comma ∷ t.Word x ∷ t.Equals ∷ par_token a ∷ t.Comma ∷ par_token b ∷ step_then c (t.Close ∷ k)))
      (entries_shallow es (suc d) _ (omega (arith, room)) (control_shallow x a b c (suc d) (t.Close ∷ k) (closes d k (omega (arith, room)) is)))

  pub entries_shallow : (es : Entries) (d : ℕ) (k : List Token) → entries_nesting es + d ≤ 110 → StayShallow d k → StayShallow d (spell_entries es k)
  entries_shallow NoEntry d k room is = is
  entries_shallow (AndEntry e es) d k room is = entry_shallow e d (more_entries es k) (omega (arith, room)) (entries_more es d k (omega (arith, room)) is)

  entries_more : (es : Entries) (d : ℕ) (k : List Token) → entries_nesting es + d ≤ 110 → StayShallow d k → StayShallow d (more_entries es k)
  entries_more NoEntry d k room is = is
  entries_more (AndEntry e es) d k room is = keeps d t.Comma (spell_entry e (more_entries es k)) refl (entry_shallow e d (more_entries es k) (omega (arith, room)) (entries_more es d k (omega (arith, room)) is))

-- ---- formats ----

count_shallow : (n : ℕ) (one : Bool) (d : ℕ) (k : List Token) → StayShallow d k → StayShallow d (count_tokens (cond one None (Some n)) k)
count_shallow n true d k is = is
count_shallow n false d k is = keeps d (t.Number n) k refl is

item_shallow : (n : ℕ) (s : Step) (d : ℕ) (k : List Token) → StayShallow d k → StayShallow d (spell_item (item_of n s) k)
item_shallow n (Takes kind w) d k is = count_shallow n (n == 1) d (t.Word (edit_letter kind ∷ decimal w) ∷ k) (keeps d (t.Word (edit_letter kind ∷ decimal w)) k refl is)
item_shallow n (Blanks m) d k is = keeps d (t.Number m) (t.Word (88 ∷ []) ∷ k) refl (keeps d (t.Word (88 ∷ [])) k refl is)
item_shallow n (Chars text) d k is = keeps d (t.Chars text) k refl is
item_shallow n Slash d k is = keeps d (t.Joint Div) k refl is

point_shallow : (beside : Bool) (all : Items) (d : ℕ) (k : List Token) → StayShallow d (spell_items all k) → StayShallow d (spell_items (cond beside all (Then Point all)) k)
point_shallow true all d k is = is
point_shallow false all d k is = keeps d t.Comma (spell_items all k) refl is

pointed_shallow : (beside : Bool) (rest : Fields) (all : Items) (d : ℕ) (k : List Token) → StayShallow d (spell_items all k) → StayShallow d (spell_items (pointed beside rest all) k)
pointed_shallow beside NoField all d k is = is
pointed_shallow beside (Single n s rest) all d k is = point_shallow (beside || is_slash s) all d k is
pointed_shallow beside (Nested n inside rest) all d k is = point_shallow beside all d k is

pub fields_shallow : (fs : Fields) (d : ℕ) (k : List Token) → fields_nesting fs + d ≤ 110 → StayShallow d k → StayShallow d (spell_items (written fs) k)
fields_shallow NoField d k room is = is
fields_shallow (Single n s rest) d k room is =
    item_shallow n s d (spell_items (pointed (is_slash s) rest (written rest)) k) (pointed_shallow (is_slash s) rest (written rest) d k (fields_shallow rest d k room is))
fields_shallow (Nested n inside rest) d k room is =
    let further : List Token = spell_items (pointed false rest (written rest)) k in
    let behind_it : StayShallow d (spell_items (pointed false rest (written rest)) k) = pointed_shallow false rest (written rest) d k (fields_shallow rest d k (omega (arith, room)) is) in
    count_shallow n (n == 1) d (t.Open ∷ spell_items (written inside) (t.Close ∷ further))
    (opens d (spell_items (written inside) (t.Close ∷ further)) (fields_shallow inside (suc d) (t.Close ∷ further) (omega (arith, room)) (closes d further (omega (arith, room)) behind_it)))
