-- READ and WRITE, each of its parts.
use Rattle.std.proofs.Common.{◌≡◌, ℕ, suc, ◌+◌, ◌<◌, ◌≤◌, List, [], ◌∷◌, ◌++◌, ℤ, Option, Some, None, length, drop, get_or, map, refl, sym, ap, subst, ◌∙◌, append_assoc, arith, pos}
use Rattle.std.proofs.lemmas.List.{map-append}
use Rattle.std.proofs.Math.Seq.{drop-cons}
use Rattle.std.proofs.Math.ListN.{drop_of_length-le}
use Rattle.ground.specs.declared.place.Place.{Place}
use Rattle.ground.specs.declared.value.Kind.{Kind}
use Rattle.f66_tree.specs.declared.editing.Way.TheVariants.{Reading, Writing}
use Rattle.f66_tree.specs.declared.statement.Entry.{Entry}
use Rattle.f66_tree.specs.declared.format.Field.{Field}
use Rattle.f66_tree.specs.Fields.{Fields}
use Rattle.f66_tree.specs.Syntax as f66
use Rattle.f66_tree.specs.Syntax.{Formula, Ref, Assign, Line, Entries, NoEntry, AndEntry, One, Format, unlabelled_line, labelled_line}
use Rattle.f66_tree.specs.Views.{entry_of, entries_of, listed, field_then, fields_of, strung}
use Rattle.efl_program.specs.Typed as typed
use Rattle.efl_program.specs.Typed.{Expr, Edit, WriteItem, Value, Skip, ReadItem, Take, Pass}
use Rattle.efl_program.specs.Meaning.{kind_by, read_by, written_by}
use Rattle.efl_typed_tree.specs.declared.statement.TypedWriteItem.{TypedWriteItem}
use Rattle.efl_typed_tree.specs.declared.statement.TypedReadItem.{TypedReadItem}
use Rattle.efl_typed_tree.specs.Views.{write_item_of, write_items_of, read_item_of, read_items_of}
use Rattle.routes.specs.Routes.{InTurn, Transfer, Routes, NoRoute, AndRoute}
use Rattle.routes.specs.Code.{Behind}
use Rattle.efl_routes.specs.Expressions.{made, sets}
use Rattle.efl_routes.specs.Statements.{made_if_any, par_of, unit_par, store_routes, read_entries}
use Rattle.efl_emit.specs.declared.naming.Naming.{Naming}
use Rattle.efl_emit.specs.declared.operand.Operand.{Operand}
use Rattle.efl_emit.specs.declared.operand.Operand.TheVariants as operands
use Rattle.efl_emit.specs.declared.operand.Evaluated.{Evaluated}
use Rattle.efl_emit.specs.Emitted.{Emission, Puts, Makes, EmittedIn, Emitted}
use Rattle.efl_emit.specs.Names.{home_of, temp_of, callee_of, label_of, own_of, made_of, operand_of}
use Rattle.efl_emit.specs.Parts.{routes_of, value_of, place_formula, IsSet, IsEvaluated}
use Rattle.efl_emit.specs.Words.{routes_if_any, value_or, IsEvaluatedIfAny}
use Rattle.efl_emit.specs.Statements.{route_of}
use Rattle.efl_emit.specs.Transfers.{written_field, read_field, unit_of, IsItem, AreItems, AddsItem, AddsRead, IsStored, item_route, made_item, item_entries, taken, taken_entries, store_of, items_of, write_entries_of, read_entries_of, stores_of}
use Rattle.efl_emit.proofs.Emitting.{SoFar, one_more, all_done, split_first, both, in_turn, transferred}
use Rattle.efl_emit.proofs.Operands.{set_behind}

pub item_done : {s : Naming} {p : Place} {e : Expr} {d : Edit} {k : Kind} {n : ℕ} {r q : Evaluated} {x : Formula} {a b c : Emission} → k ≡ kind_by d →
    IsEvaluated s p e n r a b → IsSet p k r.next x q b c → x ≡ operand_of r.operand → IsItem s p e d n q a c
item_done {s} {p} {e} {d} {k} {n} {r} {q} {x} {a} {b} {c} of h set is =
    let g = subst (λ v. IsSet p v r.next x q b c) of set in
    record {
      emitted = set_behind (routes_of s p e n) (n + made e) (value_of s e n) h.emitted g h.next (is ∙ h.operand);
      operand = g.operand ∙ ap (λ m. Ref (temp_of (kind_by d) m)) h.next;
      next = omega (arith, g.next, h.next);
    }

abbrev par_at : Naming → Formula → f66.Par
par_at s x = par_of (home_of s) temp_of (callee_of s) (label_of s) (own_of s) x

abbrev unit_at : Naming → ℤ → Option Expr → ℕ → f66.Par
unit_at s z u n = unit_par (home_of s) temp_of (callee_of s) (label_of s) (own_of s) z u n

operand_unit : (s : Naming) (o : Operand) → unit_of o ≡ par_at s (operand_of o)
operand_unit s (operands.Int z) = refl
operand_unit s (operands.Truth b) = refl
operand_unit s (operands.Temp k n) = refl

unit_value : (s : Naming) (u : Option Expr) (z : ℤ) (n : ℕ) → par_at s (value_or s u (f66.Int z) n) ≡ unit_at s z u n
unit_value s None z n = refl
unit_value s (Some y) z n = refl

-- the unit of a `write` or `read`
unit_is : (s : Naming) (o : Operand) (u : Option Expr) (z : ℤ) (n : ℕ) → operand_of o ≡ value_or s u (f66.Int z) n → unit_of o ≡ unit_at s z u n
unit_is s o u z n e = operand_unit s o ∙ ap (par_at s) e ∙ unit_value s u z n

pub write_done : {s : Naming} {p : Place} {u : Option Expr} {items : List WriteItem} {n m l : ℕ} {o : Operand} {list : List Entry} {fs : Fields} {r : Evaluated} {a b c d f g : Emission} →
    r.operand ≡ o → r.next ≡ m → IsEvaluatedIfAny s p u (f66.Int (pos 6)) n r a b → AreItems s p items m list b c → Makes (made_of s) l c d →
    Puts (unlabelled_line p (f66.Write (unit_of o) l (entries_of list))) d f → fs ≡ written_by items → Puts (labelled_line l p (Format fs)) f g → Emitted (made_of s) (AndRoute (route_of s (typed.Write p u items) [] n)) a g
write_done {s} {p} {u} {items} {n} {m} {l} {o} {list} {fs} {r} {a} {b} {c} {d} {f} {g} same_operand same_next h all label put is format =
    let k = n + made_if_any u in
    let m_is : m ≡ k = sym same_next ∙ h.next in
    let unit = unit_is s o u (pos 6) n (ap operand_of (sym same_operand) ∙ h.operand) in
    let entries = all.entries ∙ ap (write_entries_of s items) m_is in
    let act = ap (λ v. f66.Write v l (entries_of list)) unit ∙ ap (λ v. f66.Write (unit_at s (pos 6) u n) l v) entries in
    let x = subst (λ v. AreItems s p items v list b c) m_is all in
    let transfer = Transfer p Writing (unit_at s (pos 6) u n) (written_by items) (write_entries_of s items k) in
    record {
      within =
          λ ls. in_turn (λ rest. routes_if_any s p u n (items_of s p items k (AndRoute transfer rest)))
          (both (routes_if_any s p u n) (λ rest. items_of s p items k (AndRoute transfer rest)) (h.emitted.within ls)
          (both (items_of s p items k) (AndRoute transfer) (x.emitted.within ls)
          (transferred p Writing (unit_at s (pos 6) u n) (written_by items) (write_entries_of s items k) l label (subst (λ v. Puts (unlabelled_line p v) d f) act put) (subst (λ v. Puts (labelled_line l p (Format v)) f g) is format))));
    }

stores_same : (s : Naming) (p : Place) (items : List ReadItem) (n : ℕ) → store_routes (home_of s) temp_of (callee_of s) (label_of s) (own_of s) p items n ≡ stores_of s p items n NoRoute
stores_same s p [] n = refl
stores_same s p (Take x d ∷ items) n = ap (AndRoute (sets p (place_formula s x) (Ref (temp_of (kind_by d) n)))) (stores_same s p items (n + 1))
stores_same s p (Pass i ∷ items) n = stores_same s p items n

reads_same : (s : Naming) (items : List ReadItem) (n : ℕ) → read_entries_of items n ≡ read_entries (home_of s) temp_of (callee_of s) (label_of s) (own_of s) items n
reads_same s [] n = refl
reads_same s (Take x d ∷ items) n = ap (AndEntry (One (Ref (temp_of (kind_by d) n)))) (reads_same s items (n + 1))
reads_same s (Pass i ∷ items) n = reads_same s items n

pub read_done : {s : Naming} {p : Place} {u : Option Expr} (items : List ReadItem) {n l : ℕ} {es : Entries} {fs : Fields} {r : Evaluated} {a b c d f g : Emission} →
    IsEvaluatedIfAny s p u (f66.Int (pos 5)) n r a b → Makes (made_of s) l b c → es ≡ read_entries_of items r.next → Puts (unlabelled_line p (f66.Read (unit_of r.operand) l es)) c d → fs ≡ read_by items →
    Puts (labelled_line l p (Format fs)) d f → Emitted (made_of s) (stores_of s p items r.next) f g → Emitted (made_of s) (AndRoute (route_of s (typed.Read p u items) [] n)) a g
read_done {s} {p} {u} items {n} {l} {es} {fs} {r} {a} {b} {c} {d} {f} {g} h label is_entries put is format stores =
    let k = n + made_if_any u in
    let list = read_entries (home_of s) temp_of (callee_of s) (label_of s) (own_of s) items k in
    let unit = unit_is s r.operand u (pos 5) n h.operand in
    let entries = is_entries ∙ ap (read_entries_of items) h.next ∙ reads_same s items k in
    let act = ap (λ v. f66.Read v l es) unit ∙ ap (λ v. f66.Read (unit_at s (pos 5) u n) l v) entries in
    let x = subst (λ v. Emitted (made_of s) (stores_of s p items v) f g) h.next stores in
    let transfer = Transfer p Reading (unit_at s (pos 5) u n) (read_by items) list in
    record {
      within =
          λ ls. subst (λ rs. EmittedIn (made_of s) (AndRoute (InTurn (routes_if_any s p u n (AndRoute transfer rs)))) ls a g) (sym (stores_same s p items k))
          (in_turn (λ rest. routes_if_any s p u n (AndRoute transfer (stores_of s p items k rest)))
          (both (routes_if_any s p u n) (λ rest. AndRoute transfer (stores_of s p items k rest)) (h.emitted.within ls)
          (both (AndRoute transfer) (stores_of s p items k)
          (transferred p Reading (unit_at s (pos 5) u n) (read_by items) list l label (subst (λ v. Puts (unlabelled_line p v) c d) act put) (subst (λ v. Puts (labelled_line l p (Format v)) d f) is format)) (x.within ls))));
    }

-- ---- lists of items ----

-- entries before others
abbrev before_entries : List f66.Entry → Entries → Entries
before_entries [] es = es
before_entries (x ∷ xs) es = AndEntry x (before_entries xs es)

entries_joined : (xs ys : List f66.Entry) (es : Entries) → before_entries (xs ++ ys) es ≡ before_entries xs (before_entries ys es)
entries_joined [] ys es = refl
entries_joined (x ∷ xs) ys es = ap (AndEntry x) (entries_joined xs ys es)

entries_alone : (xs : List f66.Entry) → before_entries xs NoEntry ≡ listed xs
entries_alone [] = refl
entries_alone (x ∷ xs) = ap (AndEntry x) (entries_alone xs)

pub record ItemsSoFar (s : Naming) (p : Place) (all left : List WriteItem) (n m : ℕ) (list : List Entry) (before now : Emission) : Type 0 where
  pub emitted : (ls : Behind) → SoFar (made_of s) (items_of s p all n) (items_of s p left m) ls before now
  pub entries : write_entries_of s all n ≡ before_entries (map entry_of list) (write_entries_of s left m)

none_more : (n : ℕ) → n ≡ n + 0
none_more n = omega arith

-- a list of items by its first
routes_first : (s : Naming) (p : Place) (x : WriteItem) (xs : List WriteItem) (n : ℕ) (rest : Routes) → items_of s p (x ∷ xs) n rest ≡ item_route s p x n (items_of s p xs (n + made_item x) rest)
routes_first s p (Value e d) xs n rest = refl
routes_first s p (Skip i) xs n rest = ap (λ k. items_of s p xs k rest) (none_more n)
routes_first s p (typed.Chars t) xs n rest = ap (λ k. items_of s p xs k rest) (none_more n)

entries_first : (s : Naming) (x : WriteItem) (xs : List WriteItem) (n : ℕ) → write_entries_of s (x ∷ xs) n ≡ before_entries (item_entries x n) (write_entries_of s xs (n + made_item x))
entries_first s (Value e d) xs n = refl
entries_first s (Skip i) xs n = ap (write_entries_of s xs) (none_more n)
entries_first s (typed.Chars t) xs n = ap (write_entries_of s xs) (none_more n)

pub items_more : {s : Naming} {p : Place} {all here left : List WriteItem} {x : WriteItem} {n m k : ℕ} {list more : List Entry} {a b c : Emission} → here ≡ x ∷ left →
    ItemsSoFar s p all here n m list a b → AddsItem s p x m k list more b c → ItemsSoFar s p all left n k more a c
items_more {s} {p} {all} {here} {left} {x} {n} {m} {k} {list} {more} {a} {b} {c} is h g =
    let so_far = subst (λ v. ItemsSoFar s p all v n m list a b) is h in
    let j = m + made_item x in
    subst (λ v. ItemsSoFar s p all left n v more a c) (sym g.next)
    (record {
      emitted = λ ls. one_more (items_of s p all n) (items_of s p left j) (item_route s p x m) (split_first (routes_first s p x left m) (so_far.emitted ls)) (g.emitted.within ls);
      entries =
          so_far.entries ∙ ap (before_entries (map entry_of list)) (entries_first s x left m) ∙ sym (entries_joined (map entry_of list) (item_entries x m) (write_entries_of s left j))
          ∙ ap (λ v. before_entries v (write_entries_of s left j)) (sym g.list);
    })

pub items_over : {s : Naming} {p : Place} {all here : List WriteItem} {n m : ℕ} {list : List Entry} {a b : Emission} → here ≡ [] → ItemsSoFar s p all here n m list a b → AreItems s p all n list a b
items_over {s} {p} {all} {here} {n} {m} {list} {a} {b} is h =
    let so_far = subst (λ v. ItemsSoFar s p all v n m list a b) is h in
    record {
      emitted = record { within = λ ls. all_done (items_of s p all n) (so_far.emitted ls) };
      entries = sym (so_far.entries ∙ entries_alone (map entry_of list));
    }

pub record ReadsSoFar (all left : List ReadItem) (n m : ℕ) (list : List Entry) : Type 0 where
  pub entries : read_entries_of all n ≡ before_entries (map entry_of list) (read_entries_of left m)

reads_first : (x : ReadItem) (xs : List ReadItem) (n : ℕ) → read_entries_of (x ∷ xs) n ≡ before_entries (taken_entries x n) (read_entries_of xs (n + taken x))
reads_first (Take x d) xs n = refl
reads_first (Pass i) xs n = ap (read_entries_of xs) (none_more n)

pub reads_more : {all here left : List ReadItem} {x : ReadItem} {n m k : ℕ} {list more : List Entry} → here ≡ x ∷ left → ReadsSoFar all here n m list → AddsRead x m k list more → ReadsSoFar all left n k more
reads_more {all} {here} {left} {x} {n} {m} {k} {list} {more} is h g =
    let so_far = subst (λ v. ReadsSoFar all v n m list) is h in
    subst (λ v. ReadsSoFar all left n v more) (sym g.next)
    (record {
      entries =
          so_far.entries ∙ ap (before_entries (map entry_of list)) (reads_first x left m) ∙ sym (entries_joined (map entry_of list) (taken_entries x m) (read_entries_of left (m + taken x)))
          ∙ ap (λ v. before_entries v (read_entries_of left (m + taken x))) (sym g.list);
    })

pub reads_over : {all here : List ReadItem} {n m : ℕ} {list : List Entry} → here ≡ [] → ReadsSoFar all here n m list → entries_of list ≡ read_entries_of all n
reads_over {all} {here} {n} {m} {list} is h = let so_far = subst (λ v. ReadsSoFar all v n m list) is h in sym (so_far.entries ∙ entries_alone (map entry_of list))

-- ---- stores ----

pub stores_more : {s : Naming} {p : Place} (all : List ReadItem) {here left : List ReadItem} {x : ReadItem} (n : ℕ) {m k : ℕ} {a b c : Emission} → here ≡ x ∷ left →
    ((ls : Behind) → SoFar (made_of s) (stores_of s p all n) (stores_of s p here m) ls a b) → IsStored s p x m k b c → (ls : Behind) → SoFar (made_of s) (stores_of s p all n) (stores_of s p left k) ls a c
stores_more {s} {p} all {here} {left} {x} n {m} {k} {a} {b} {c} is h g ls =
    subst (λ v. SoFar (made_of s) (stores_of s p all n) (stores_of s p left v) ls a c) (sym g.next)
    (one_more (stores_of s p all n) (stores_of s p left (m + taken x)) (store_of s p x m) (split_first (first_of_stores x) (subst (λ v. SoFar (made_of s) (stores_of s p all n) (stores_of s p v m) ls a b) is (h ls))) (g.emitted.within ls))
  where
    first_of_stores : (y : ReadItem) (rest : Routes) → stores_of s p (y ∷ left) m rest ≡ store_of s p y m (stores_of s p left (m + taken y) rest)
    first_of_stores (Take y d) rest = refl
    first_of_stores (Pass i) rest = ap (λ k. stores_of s p left k rest) (none_more m)

pub stores_over : (s : Naming) (p : Place) (all : List ReadItem) {here : List ReadItem} (n : ℕ) (m : ℕ) {a b : Emission} → here ≡ [] → ((ls : Behind) → SoFar (made_of s) (stores_of s p all n) (stores_of s p here m) ls a b) → Emitted (made_of s) (stores_of s p all n) a b
stores_over s p all {here} n m {a} {b} is h = record { within = λ ls. all_done (stores_of s p all n) (subst (λ v. SoFar (made_of s) (stores_of s p all n) (stores_of s p v m) ls a b) is (h ls)) }

-- ---- the members of a list ----

pub next_written : (list : List TypedWriteItem) (i : ℕ) (x : TypedWriteItem) → i < length list → x ≡ get_or list i x → write_items_of (drop i list) ≡ write_item_of x ∷ write_items_of (drop (i + 1) list)
next_written list i x lt is =
    let k : suc i ≡ i + 1 = omega arith in
    ap write_items_of (drop-cons list i x lt) ∙ ap (λ y. write_item_of y ∷ write_items_of (drop (suc i) list)) (sym is) ∙ ap (λ m. write_item_of x ∷ write_items_of (drop m list)) k

pub last_written : (list : List TypedWriteItem) (i : ℕ) → length list ≤ i → write_items_of (drop i list) ≡ []
last_written list i le = ap write_items_of (drop_of_length-le list le)

pub next_read : (list : List TypedReadItem) (i : ℕ) (d : TypedReadItem) → i < length list → read_items_of (drop i list) ≡ read_item_of (get_or list i d) ∷ read_items_of (drop (i + 1) list)
next_read list i d lt =
    let k : suc i ≡ i + 1 = omega arith in
    ap read_items_of (drop-cons list i d lt) ∙ ap (λ m. read_item_of (get_or list i d) ∷ read_items_of (drop m list)) k

pub last_read : (list : List TypedReadItem) (i : ℕ) → length list ≤ i → read_items_of (drop i list) ≡ []
last_read list i le = ap read_items_of (drop_of_length-le list le)

-- ---- fields ----

pub fields_more : (list more : List Field) (f : Field) (h : Fields → Fields) (from left : List (Fields → Fields)) → more ≡ list ++ f ∷ [] → field_then f ≡ h → from ≡ h ∷ left →
    strung (map field_then more ++ left) ≡ strung (map field_then list ++ from)
fields_more list more f h from left longer same is =
    ap (λ all. strung (map field_then all ++ left)) longer
    ∙ ap (λ all. strung (all ++ left)) (map-append field_then list (f ∷ []))
    ∙ ap strung (append_assoc (map field_then list) (field_then f ∷ []) left)
    ∙ ap (λ v. strung (map field_then list ++ v ∷ left)) same
    ∙ ap (λ all. strung (map field_then list ++ all)) (sym is)

abbrev pub written_fields : List TypedWriteItem → List (Fields → Fields)
written_fields items = map (λ x. written_field (write_item_of x)) items

abbrev pub read_fields : List TypedReadItem → List (Fields → Fields)
read_fields items = map (λ x. read_field (read_item_of x)) items

written_first : (x : WriteItem) (xs : List WriteItem) → written_by (x ∷ xs) ≡ written_field x (written_by xs)
written_first (Value e d) xs = refl
written_first (Skip n) xs = refl
written_first (typed.Chars t) xs = refl

read_first : (x : ReadItem) (xs : List ReadItem) → read_by (x ∷ xs) ≡ read_field x (read_by xs)
read_first (Take x d) xs = refl
read_first (Pass n) xs = refl

written_same : (items : List TypedWriteItem) → strung (written_fields items) ≡ written_by (write_items_of items)
written_same [] = refl
written_same (x ∷ xs) = ap (written_field (write_item_of x)) (written_same xs) ∙ sym (written_first (write_item_of x) (write_items_of xs))

read_same : (items : List TypedReadItem) → strung (read_fields items) ≡ read_by (read_items_of items)
read_same [] = refl
read_same (x ∷ xs) = ap (read_field (read_item_of x)) (read_same xs) ∙ sym (read_first (read_item_of x) (read_items_of xs))

fields_over : (list : List Field) (all from : List (Fields → Fields)) → from ≡ [] → strung (map field_then list ++ from) ≡ strung all → fields_of list ≡ strung all
fields_over list all from is h = ap strung (sym (append_nil (map field_then list)) ∙ ap (λ v. map field_then list ++ v) (sym is)) ∙ h
  where
    append_nil : (xs : List (Fields → Fields)) → xs ++ [] ≡ xs
    append_nil [] = refl
    append_nil (x ∷ xs) = ap (λ v. x ∷ v) (append_nil xs)

pub written_over : (list : List Field) (items : List TypedWriteItem) (i : ℕ) → length items ≤ i → strung (map field_then list ++ written_fields (drop i items)) ≡ strung (written_fields items) → fields_of list ≡ written_by (write_items_of items)
written_over list items i le h = fields_over list (written_fields items) (written_fields (drop i items)) (ap written_fields (drop_of_length-le items le)) h ∙ written_same items

pub read_over : (list : List Field) (items : List TypedReadItem) (i : ℕ) → length items ≤ i → strung (map field_then list ++ read_fields (drop i items)) ≡ strung (read_fields items) → fields_of list ≡ read_by (read_items_of items)
read_over list items i le h = fields_over list (read_fields items) (read_fields (drop i items)) (ap read_fields (drop_of_length-le items le)) h ∙ read_same items

pub value_added : {s : Naming} {p : Place} {e : Expr} {d : Edit} {n : ℕ} {r : Evaluated} {list more : List Entry} (x : Entry) {a b : Emission} → IsItem s p e d n r a b → more ≡ list ++ x ∷ [] → entry_of x ≡ One (operand_of r.operand) →
    AddsItem s p (Value e d) n r.next list more a b
value_added {s} {p} {e} {d} {n} {r} {list} {more} x h longer is = record {
  emitted = h.emitted;
  next = h.next;
  list = ap (map entry_of) longer ∙ map-append entry_of list (x ∷ []) ∙ ap (λ v. map entry_of list ++ v ∷ []) (is ∙ ap One h.operand);
}
