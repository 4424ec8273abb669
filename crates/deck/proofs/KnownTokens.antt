-- Tokens that some statement has.
use Rattle.std.proofs.Common.{◌≡◌, ℕ, pos, negsuc, Bool, true, false, cond, List, [], ◌∷◌, Some, None}
use Rattle.std.specs.List.{list_all}
use Rattle.f66_tree.specs.Syntax.{Formula, Int, Truth, Letter, Ref, Item, Group, Plus, Minus, Not, Pair, Formulas, NoFormula, AndFormula, Par, Constant, Named, Declared}
use Rattle.stmt_reader.specs.declared.token.Token.{Token}
use Rattle.stmt_reader.specs.declared.token.Token.TheVariants as t
use Rattle.stmt_reader.specs.Spelling.{spell, spell_list, spell_more, spell_others}
use Rattle.stmt_reader.specs.Spelled.{declared_formula, spell_declared, spell_label}
use Rattle.stmt_reader.specs.Formats.{Item as FormatItem, Edit, Words, Stroke, Point, Nest, Items, Ends, Then, spell_item, spell_items}
use Rattle.deck.specs.Readable.{is_readable_par}
use Rattle.deck.proofs.BranchesRead.{par_token}

abbrev pub is_known : Token → Bool
is_known t.Strange = false
is_known _ = true

abbrev pub AreKnown : List Token → Type 0
AreKnown tokens = list_all is_known tokens ≡ true

mutual
  pub spell_known : (e : Formula) (k : List Token) → list_all is_known k ≡ true → list_all is_known (spell e k) ≡ true
  spell_known (Int z) k all = all
  spell_known (Truth b) k all = all
  spell_known (Letter c) k all = all
  spell_known (Ref x) k all = all
  spell_known (Item x es) k all = list_known es (t.Close ∷ k) all
  spell_known (Group a) k all = spell_known a (t.Close ∷ k) all
  spell_known (Plus a) k all = spell_known a k all
  spell_known (Minus a) k all = spell_known a k all
  spell_known (Not a) k all = spell_known a k all
  spell_known (Pair op a b) k all = spell_known a (t.Joint op ∷ spell b k) (spell_known b k all)

  list_known : (es : Formulas) (k : List Token) → list_all is_known k ≡ true → list_all is_known (spell_list es k) ≡ true
  list_known NoFormula k all = all
  list_known (AndFormula e es) k all = spell_known e (spell_more es k) (more_known es k all)

  more_known : (es : Formulas) (k : List Token) → list_all is_known k ≡ true → list_all is_known (spell_more es k) ≡ true
  more_known NoFormula k all = all
  more_known (AndFormula e es) k all = spell_known e (spell_more es k) (more_known es k all)

pub labels_known : (ls : List ℕ) (k : List Token) → AreKnown k → AreKnown (spell_others spell_label t.Comma ls k)
labels_known [] k all = all
labels_known (l ∷ ls) k all = labels_known ls k all

pub arguments_known : (es : List Formula) (k : List Token) → AreKnown k → AreKnown (spell_others spell t.Comma es k)
arguments_known [] k all = all
arguments_known (e ∷ es) k all = spell_known e (spell_others spell t.Comma es k) (arguments_known es k all)

pub names_known : (ds : List Declared) (k : List Token) → AreKnown k → AreKnown (spell_others spell_declared t.Comma ds k)
names_known [] k all = all
names_known (d ∷ ds) k all = spell_known (declared_formula d) (spell_others spell_declared t.Comma ds k) (names_known ds k all)

pub par_known : (p : Par) (k : List Token) → is_readable_par p ≡ true → AreKnown k → AreKnown (par_token p ∷ k)
par_known (Constant (pos n)) k is all = all
par_known (Constant (negsuc n)) k is all = absurd cc
par_known (Named x) k is all = all

pub step_known : (c : Par) (one : Bool) (k : List Token) → is_readable_par c ≡ true → AreKnown k → AreKnown (cond one k (t.Comma ∷ par_token c ∷ k))
step_known c true k is all = all
step_known c false k is all = par_known c k is all

mutual
  item_known : (i : FormatItem) (k : List Token) → AreKnown k → AreKnown (spell_item i k)
  item_known (Edit None w) k all = all
  item_known (Edit (Some n) w) k all = all
  item_known (Words text) k all = all
  item_known Stroke k all = all
  item_known Point k all = all
  item_known (Nest None inside) k all = items_known inside (t.Close ∷ k) all
  item_known (Nest (Some n) inside) k all = items_known inside (t.Close ∷ k) all

  pub items_known : (is : Items) (k : List Token) → AreKnown k → AreKnown (spell_items is k)
  items_known Ends k all = all
  items_known (Then i is) k all = item_known i (spell_items is k) (items_known is k all)
