-- What the rules say of a list of READ or WRITE, handed on from it to each of its items.
use Rattle.std.proofs.Common.{◌≡◌, Bool, true, false}
use Rattle.std.specs.Prelude.{not, ◌||◌}
use Rattle.std.proofs.lemmas.Bool.{and_parts}
use Rattle.f66_tree.specs.declared.editing.Way.{Way}
use Rattle.f66_tree.specs.declared.editing.Way.TheVariants.{Reading, Writing}
use Rattle.f66_tree.specs.Syntax.{Text, Item, Formulas, Par, Entry, Many, Entries, NoEntry, AndEntry}
use Rattle.f66_tree.specs.Units.{Context}
use Rattle.f66_names.specs.Shapes.{is_item, are_items, are_some_items}
use Rattle.f66_names.specs.Sorts.{is_array_name}
use Rattle.f66_names.specs.Uses.{uses_of_entry, uses_of_entries}
use Rattle.f66_names.specs.Kinds.{are_subscripts, is_listed, is_entry, are_entries}
use Rattle.f66_names.specs.NameRules.{miscounts}
use Rattle.f66_names.specs.StoreRules.{stores_item, stores_entry, store_entries}
use Rattle.f66_soundness.proofs.KindLemmas.{none_of_both}
use Rattle.f66_soundness.proofs.ValueLemmas.{FitCounts}

-- a list by which the rules are kept
pub record FitEntries (way : Way) (c : Context) (es : Entries) : Type 0 where
  pub shapes : are_items es ≡ true
  pub kinds : are_entries way c es ≡ true
  pub stores : store_entries way c es ≡ true
  pub counts : FitCounts c (uses_of_entries es)

-- and that of one item or implied DO
pub record FitEntry (way : Way) (c : Context) (e : Entry) : Type 0 where
  pub shape : is_item e ≡ true
  pub kind : is_entry way c e ≡ true
  pub store : stores_entry way c e ≡ true
  pub count : FitCounts c (uses_of_entry e)

pub first_fit : (way : Way) (c : Context) (e : Entry) (es : Entries) → FitEntries way c (AndEntry e es) → FitEntry way c e
first_fit way c e es h = record {
  shape = (and_parts (is_item e) _ h.shapes).0;
  kind = (and_parts (is_entry way c e) _ h.kinds).0;
  store = (and_parts (stores_entry way c e) _ h.stores).0;
  count = (none_of_both (miscounts c) (uses_of_entry e) (uses_of_entries es) h.counts).0;
}

pub others_fit : (way : Way) (c : Context) (e : Entry) (es : Entries) → FitEntries way c (AndEntry e es) → FitEntries way c es
others_fit way c e es h = record {
  shapes = (and_parts (is_item e) _ h.shapes).1;
  kinds = (and_parts (is_entry way c e) _ h.kinds).1;
  stores = (and_parts (stores_entry way c e) _ h.stores).1;
  counts = (none_of_both (miscounts c) (uses_of_entry e) (uses_of_entries es) h.counts).1;
}

pub some_are_items : (es : Entries) → are_some_items es ≡ true → are_items es ≡ true
some_are_items NoEntry e = cc
some_are_items (AndEntry a es) e = e

pub inner_fit : (way : Way) (c : Context) (es : Entries) (x : Text) (p q r : Par) → FitEntry way c (Many es x p q r) → FitEntries way c es
inner_fit way c es x p q r h = record {
  shapes = some_are_items es (and_parts (are_some_items es) _ h.shape).0;
  kinds = (and_parts (are_entries way c es) _ h.kind).0;
  stores = (and_parts (store_entries way c es) _ h.store).0;
  counts = (none_of_both (miscounts c) (uses_of_entries es) _ h.count).0;
}

-- an item with parentheses is an element, with fit subscripts
pub element_fit : (way : Way) (c : Context) (x : Text) (es : Formulas) → is_listed way c (Item x es) ≡ true → stores_item way c (Item x es) ≡ true → (is_array_name c x ≡ true) × (are_subscripts c es ≡ true)
element_fit Writing c x es e h = and_parts (is_array_name c x) _ e
element_fit Reading c x es e h = (h, subscripted (is_array_name c x) _ h e)
  where
    subscripted : (b d : Bool) → b ≡ true → (not b || d) ≡ true → d ≡ true
    subscripted true d i j = j
    subscripted false d i j = cc
