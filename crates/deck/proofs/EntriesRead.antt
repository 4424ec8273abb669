-- The machine that reads the list of a READ or WRITE takes each entry that is spelled. Within the parentheses of an item it
-- gathers the item's tokens; behind an entry it has the entry among those before, and then wants another, or is at its end.
use Rattle.std.proofs.Common.{◌≡◌, ℕ, zero, suc, pos, Bool, true, false, cond, List, [], ◌∷◌, ◌++◌, Option, Some, refl, sym, ap, ◌∙◌, append_assoc}
use Rattle.std.proofs.lemmas.List.{append-nil}
use Rattle.f66_tree.specs.Syntax.{Text, Formula, Int, Truth, Letter, Ref, Item, Group, Plus, Minus, Not, Pair, Formulas, NoFormula, AndFormula, Par, Constant, Entry, One, Many, Entries, NoEntry, AndEntry}
use Rattle.f66_tree.specs.Views.{listed}
use Rattle.f66_tree.specs.declared.expression.Operator.TheVariants.{Add, Sub}
use Rattle.stmt_text.specs.Texts.{is_one}
use Rattle.stmt_reader.specs.declared.token.Token.{Token}
use Rattle.stmt_reader.specs.declared.token.Token.TheVariants as t
use Rattle.stmt_reader.specs.Spelling.{spell, spell_list, spell_more}
use Rattle.stmt_reader.specs.Taking.{then_if, place_if}
use Rattle.stmt_reader.specs.Entries.{Lists, State, Wants, Within, Behind, Counted, add, add_item, wants_if, counts, run, all_of, final, entries_of}
use Rattle.stmt_reader.proofs.Complete.{expression_spelled}
use Rattle.stmt_reader.proofs.Assignments.{spell-append}
use Rattle.deck.specs.Readable.{is_readable_par}
use Rattle.deck.specs.ReadableStatements.{IsReadable, IsReadableEntry, AreReadableEntries}
use Rattle.deck.proofs.BranchesRead.{par_token, par_is, one_is}

-- ---- how entries are spelled ----

-- the step of an implied DO, which is left out where it is 1
abbrev pub step_then : Par → List Token → List Token
step_then c k = cond (is_one c) k (t.Comma ∷ par_token c ∷ k)

abbrev mutual
  pub spell_entry : Entry → List Token → List Token
  spell_entry (One e) k = spell e k
  spell_entry (Many es x a b c) k = t.Open ∷ spell_entries es (t.Comma ∷ t.Word x ∷ t.Equals ∷ par_token a ∷ t.Comma ∷ par_token b ∷ step_then c (t.Close ∷ k))

  pub spell_entries : Entries → List Token → List Token
  spell_entries NoEntry k = k
  spell_entries (AndEntry e es) k = spell_entry e (more_entries es k)

  pub more_entries : Entries → List Token → List Token
  more_entries NoEntry k = k
  more_entries (AndEntry e es) k = t.Comma ∷ spell_entry e (more_entries es k)

-- ---- the tokens of an item ----

more_then : (es : Formulas) (m : List Token) → spell_more es m ≡ spell_more es [] ++ m
more_then NoFormula m = refl
more_then (AndFormula e es) m = ap (λ (y : List Token). t.Comma ∷ y) (ap (spell e) (more_then es m) ∙ spell-append e (spell_more es []) m)

list_then : (es : Formulas) (m : List Token) → spell_list es m ≡ spell_list es [] ++ m
list_then NoFormula m = refl
list_then (AndFormula e es) m = ap (spell e) (more_then es m) ∙ spell-append e (spell_more es []) m

abbrev gathered : Lists → ℕ → List Token → List Token → State
gathered l d tokens k = run (Within l (suc d) tokens) k

-- tokens behind others
behind_one : (acc m : List Token) (a : Token) → (acc ++ a ∷ []) ++ m ≡ acc ++ a ∷ m
behind_one acc m a = append_assoc acc (a ∷ []) m

behind_both : (acc k m : List Token) (a : Token) → ((acc ++ a ∷ []) ++ k) ++ m ≡ acc ++ a ∷ (k ++ m)
behind_both acc k m a = append_assoc (acc ++ a ∷ []) k m ∙ behind_one acc (k ++ m) a

mutual
  deep : (e : Formula) (l : Lists) (d : ℕ) (acc k : List Token) → gathered l d acc (spell e k) ≡ gathered l d (acc ++ spell e []) k
  deep (Int z) l d acc k = refl
  deep (Truth b) l d acc k = refl
  deep (Letter c) l d acc k = refl
  deep (Ref x) l d acc k = refl
  deep (Item x es) l d acc k =
      deep_list es l (suc d) ((acc ++ t.Word x ∷ []) ++ t.Open ∷ []) (t.Close ∷ k)
      ∙ ap (λ (y : List Token). gathered l d y k)
      (behind_both (acc ++ t.Word x ∷ []) (spell_list es []) (t.Close ∷ []) t.Open ∙ behind_one acc (t.Open ∷ (spell_list es [] ++ t.Close ∷ [])) (t.Word x)
      ∙ ap (λ (y : List Token). acc ++ t.Word x ∷ t.Open ∷ y) (sym (list_then es (t.Close ∷ []))))
  deep (Group a) l d acc k =
      deep a l (suc d) (acc ++ t.Open ∷ []) (t.Close ∷ k)
      ∙ ap (λ (y : List Token). gathered l d y k) (behind_both acc (spell a []) (t.Close ∷ []) t.Open ∙ ap (λ (y : List Token). acc ++ t.Open ∷ y) (sym (spell-append a [] (t.Close ∷ []))))
  deep (Plus a) l d acc k = deep a l d (acc ++ t.Joint Add ∷ []) k ∙ ap (λ (y : List Token). gathered l d y k) (behind_one acc (spell a []) (t.Joint Add))
  deep (Minus a) l d acc k = deep a l d (acc ++ t.Joint Sub ∷ []) k ∙ ap (λ (y : List Token). gathered l d y k) (behind_one acc (spell a []) (t.Joint Sub))
  deep (Not a) l d acc k = deep a l d (acc ++ t.Not ∷ []) k ∙ ap (λ (y : List Token). gathered l d y k) (behind_one acc (spell a []) t.Not)
  deep (Pair op a b) l d acc k =
      deep a l d acc (t.Joint op ∷ spell b k)
      ∙ deep b l d ((acc ++ spell a []) ++ t.Joint op ∷ []) k
      ∙ ap (λ (y : List Token). gathered l d y k)
      (behind_one (acc ++ spell a []) (spell b []) (t.Joint op) ∙ append_assoc acc (spell a []) (t.Joint op ∷ spell b []) ∙ ap (λ (y : List Token). acc ++ y) (sym (spell-append a [] (t.Joint op ∷ spell b []))))

  deep_list : (es : Formulas) (l : Lists) (d : ℕ) (acc k : List Token) → gathered l d acc (spell_list es k) ≡ gathered l d (acc ++ spell_list es []) k
  deep_list NoFormula l d acc k = ap (λ (y : List Token). gathered l d y k) (sym (append-nil acc))
  deep_list (AndFormula e es) l d acc k =
      deep e l d acc (spell_more es k)
      ∙ deep_more es l d (acc ++ spell e []) k
      ∙ ap (λ (y : List Token). gathered l d y k) (append_assoc acc (spell e []) (spell_more es []) ∙ ap (λ (y : List Token). acc ++ y) (sym (spell-append e [] (spell_more es []))))

  deep_more : (es : Formulas) (l : Lists) (d : ℕ) (acc k : List Token) → gathered l d acc (spell_more es k) ≡ gathered l d (acc ++ spell_more es []) k
  deep_more NoFormula l d acc k = ap (λ (y : List Token). gathered l d y k) (sym (append-nil acc))
  deep_more (AndFormula e es) l d acc k =
      deep e l d (acc ++ t.Comma ∷ []) (spell_more es k)
      ∙ deep_more es l d ((acc ++ t.Comma ∷ []) ++ spell e []) k
      ∙ ap (λ (y : List Token). gathered l d y k)
      (behind_both acc (spell e []) (spell_more es []) t.Comma ∙ ap (λ (y : List Token). acc ++ t.Comma ∷ y) (sym (spell-append e [] (spell_more es []))))

-- a variable or an element
item_run : (e : Formula) (l : Lists) (k : List Token) → place_if e ≡ Some e → run (Wants l) (spell e k) ≡ run (Within l zero (spell e [])) k
item_run (Ref x) l k is = refl
item_run (Item x es) l k is =
    deep_list es l zero (t.Word x ∷ t.Open ∷ []) (t.Close ∷ k)
    ∙ ap (λ (y : List Token). run (Within l zero (t.Word x ∷ t.Open ∷ y)) k) (sym (list_then es (t.Close ∷ [])))
item_run _ l k is = absurd cc

item_added : (e : Formula) (l : Lists) → place_if e ≡ Some e → IsReadable e → add_item l (spell e []) ≡ Some (add l (One e))
item_added e l place fine =
    ap (λ (o : Option Formula). then_if o (λ a. then_if (place_if a) (λ x. Some (add l (One x))))) (expression_spelled e fine.stands)
    ∙ ap (λ (o : Option Formula). then_if o (λ x. Some (add l (One x)))) place

-- ---- what stands behind entries ----

abbrev after : Lists → Entry → State
after l (One e) = Within l zero (spell e [])
after l (Many es x a b c) = Behind (add l (Many es x a b c))

abbrev after_list : Lists → Entry → Entries → State
after_list l e NoEntry = after l e
after_list l e (AndEntry f es) = after_list (add l e) f es

abbrev added : Lists → Entry → Entries → Lists
added l e NoEntry = add l e
added l e (AndEntry f es) = added (add l e) f es

abbrev entry_list : Entries → List Entry
entry_list NoEntry = []
entry_list (AndEntry e es) = e ∷ entry_list es

listed_again : (es : Entries) → listed (entry_list es) ≡ es
listed_again NoEntry = refl
listed_again (AndEntry e es) = ap (AndEntry e) (listed_again es)

added_is : (es : Entries) (e : Entry) (here : List Entry) (around : List (List Entry)) → added (record { here = here; around = around }) e es ≡ record { here = here ++ e ∷ entry_list es; around = around }
added_is NoEntry e here around = refl
added_is (AndEntry f es) e here around = added_is es f (here ++ e ∷ []) around ∙ ap (λ (y : List Entry). record { here = y; around = around }) (append_assoc here (e ∷ []) (f ∷ entry_list es))

comma_after : (e : Entry) (l : Lists) (k : List Token) → IsReadableEntry e → run (after l e) (t.Comma ∷ k) ≡ run (Wants (add l e)) k
comma_after (One e) l k fine = ap (λ (o : Option Lists). run (wants_if o) k) (item_added e l fine.0 fine.1)
comma_after (Many es x a b c) l k fine = refl

comma_behind : (es : Entries) (e : Entry) (l : Lists) (k : List Token) → IsReadableEntry e → AreReadableEntries es → run (after_list l e es) (t.Comma ∷ k) ≡ run (Wants (added l e es)) k
comma_behind NoEntry e l k first all = comma_after e l k first
comma_behind (AndEntry f es) e l k first all = comma_behind es f (add l e) k all.0 all.1

end_after : (e : Entry) (l : Lists) → IsReadableEntry e → final (after l e) ≡ all_of (add l e)
end_after (One e) l fine = ap (λ (o : Option Lists). then_if o all_of) (item_added e l fine.0 fine.1)
end_after (Many es x a b c) l fine = refl

end_behind : (es : Entries) (e : Entry) (l : Lists) → IsReadableEntry e → AreReadableEntries es → final (after_list l e es) ≡ all_of (added l e es)
end_behind NoEntry e l first all = end_after e l first
end_behind (AndEntry f es) e l first all = end_behind es f (add l e) all.0 all.1

-- ---- the control of an implied DO ----

-- two parameters
two_counted : (e : Entry) (es : Entries) (here : List Entry) (around : List (List Entry)) (x : Text) (a b : Par) (rest : List Token) → is_readable_par a ≡ true → is_readable_par b ≡ true
    → run (Wants (record { here = e ∷ entry_list es; around = here ∷ around })) (t.Word x ∷ t.Equals ∷ par_token a ∷ t.Comma ∷ par_token b ∷ rest)
    ≡ run (Counted (record { here = e ∷ entry_list es; around = here ∷ around }) x (a ∷ b ∷ [])) rest
two_counted e es here around x a b rest ra rb =
    let l : Lists = record { here = e ∷ entry_list es; around = here ∷ around } in
    ap (λ (o : Option Par). run (counts l x [] o) (t.Comma ∷ par_token b ∷ rest)) (par_is a ra) ∙ ap (λ (o : Option Par). run (counts l x (a ∷ []) o) rest) (par_is b rb)

control_run : (e : Entry) (es : Entries) (here : List Entry) (around : List (List Entry)) (x : Text) (a b c : Par) (one : Bool) (k : List Token) → is_one c ≡ one → is_readable_par a ≡ true → is_readable_par b ≡ true → is_readable_par c ≡ true
    → run (Wants (record { here = e ∷ entry_list es; around = here ∷ around })) (t.Word x ∷ t.Equals ∷ par_token a ∷ t.Comma ∷ par_token b ∷ cond one (t.Close ∷ k) (t.Comma ∷ par_token c ∷ t.Close ∷ k))
    ≡ run (Behind (record { here = here ++ Many (AndEntry e es) x a b c ∷ []; around = around })) k
control_run e es here around x a b c true k is ra rb rc =
    two_counted e es here around x a b (t.Close ∷ k) ra rb
    ∙ ap (λ (y : Entries). run (Behind (record { here = here ++ Many (AndEntry e y) x a b (Constant (pos 1)) ∷ []; around = around })) k) (listed_again es)
    ∙ ap (λ (s : Par). run (Behind (record { here = here ++ Many (AndEntry e es) x a b s ∷ []; around = around })) k) (sym (one_is c is))
control_run e es here around x a b c false k is ra rb rc =
    let l : Lists = record { here = e ∷ entry_list es; around = here ∷ around } in
    two_counted e es here around x a b (t.Comma ∷ par_token c ∷ t.Close ∷ k) ra rb
    ∙ ap (λ (o : Option Par). run (counts l x (a ∷ b ∷ []) o) (t.Close ∷ k)) (par_is c rc)
    ∙ ap (λ (y : Entries). run (Behind (record { here = here ++ Many (AndEntry e y) x a b c ∷ []; around = around })) k) (listed_again es)

mutual
  entry_run : (e : Entry) (l : Lists) (k : List Token) → IsReadableEntry e → run (Wants l) (spell_entry e k) ≡ run (after l e) k
  entry_run (One e) l k fine = item_run e l k fine.0
  entry_run (Many NoEntry x a b c) l k fine = absurd fine.0
  entry_run (Many (AndEntry e es) x a b c) l k fine =
      let inner : Lists = record { here = []; around = l.here ∷ l.around } in
      let control : List Token = t.Word x ∷ t.Equals ∷ par_token a ∷ t.Comma ∷ par_token b ∷ step_then c (t.Close ∷ k) in
      entry_run e inner (more_entries es (t.Comma ∷ control)) fine.0.0
      ∙ more_run es e inner (t.Comma ∷ control) fine.0.0 fine.0.1
      ∙ comma_behind es e inner control fine.0.0 fine.0.1
      ∙ ap (λ (y : Lists). run (Wants y) control) (added_is es e [] (l.here ∷ l.around))
      ∙ control_run e es l.here l.around x a b c (is_one c) k refl fine.2 fine.3 fine.4

  -- the entries behind one
  more_run : (es : Entries) (e : Entry) (l : Lists) (k : List Token) → IsReadableEntry e → AreReadableEntries es → run (after l e) (more_entries es k) ≡ run (after_list l e es) k
  more_run NoEntry e l k first all = refl
  more_run (AndEntry f es) e l k first all =
      comma_after e l (spell_entry f (more_entries es k)) first ∙ entry_run f (add l e) (more_entries es k) all.0 ∙ more_run es f (add l e) k all.0 all.1

-- ---- the list ----

abbrev start : Lists
start = record { here = []; around = [] }

-- what is spelled is not empty
entries_begin : (e : Entry) (k : List Token) → IsReadableEntry e → entries_of (spell_entry e k) ≡ final (run (Wants start) (spell_entry e k))
entries_begin (One (Ref x)) k fine = refl
entries_begin (One (Item x es)) k fine = refl
entries_begin (One (Int z)) k fine = absurd (let no = fine.0 in cc)
entries_begin (One (Truth b)) k fine = absurd (let no = fine.0 in cc)
entries_begin (One (Letter c)) k fine = absurd (let no = fine.0 in cc)
entries_begin (One (Group a)) k fine = absurd (let no = fine.0 in cc)
entries_begin (One (Plus a)) k fine = absurd (let no = fine.0 in cc)
entries_begin (One (Minus a)) k fine = absurd (let no = fine.0 in cc)
entries_begin (One (Not a)) k fine = absurd (let no = fine.0 in cc)
entries_begin (One (Pair op a b)) k fine = absurd (let no = fine.0 in cc)
entries_begin (Many es x a b c) k fine = refl

pub entries_spelled : (es : Entries) → AreReadableEntries es → entries_of (spell_entries es []) ≡ Some es
entries_spelled NoEntry all = refl
entries_spelled (AndEntry e es) all =
    entries_begin e (more_entries es []) all.0
    ∙ ap final (entry_run e start (more_entries es []) all.0 ∙ more_run es e start [] all.0 all.1)
    ∙ end_behind es e start all.0 all.1
    ∙ ap all_of (added_is es e [] [])
    ∙ ap (λ (y : Entries). Some (AndEntry e y)) (listed_again es)
