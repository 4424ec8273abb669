-- The table of macros as its names and texts.
use Rattle.std.proofs.Common.{◌≡◌, ℕ, Bool, true, false, List, [], ◌∷◌, ◌++◌, ◌||◌, map, position, refl, ap, sym, ◌∙◌, if◌then◌else◌}
use Rattle.std.specs.Prelude.{Vec}
use Rattle.std.specs.Str.{bytes_eq}
use Rattle.std.specs.declared.alloc.Global.{Global}
use Rattle.indexmap.specs.IndexMap.{insert_entry}
use Rattle.indexmap.specs.IndexSet.{insert_key}
use Rattle.std.specs.List.{list_any, position_from}
use Rattle.std.specs.Map.{keys_of}
use Rattle.ground.specs.declared.token.TokenKind.{TokenKind}
use Rattle.macro_define.specs.Macros.{number_of}
use Rattle.macro_define.proofs.ListLemmas.{position-from, position-map}

abbrev shown : Vec ℕ Global × Vec TokenKind Global → List ℕ × List TokenKind
shown e = (e.0.items, e.1.items)

with_entry : (es : List (Vec ℕ Global × Vec TokenKind Global)) (e : Vec ℕ Global × Vec TokenKind Global) (k : Vec ℕ Global) (v : Vec TokenKind Global) (b : Bool)
    → map shown (insert_entry (λ x y. bytes_eq x.items y.items) es k v) ≡ insert_entry bytes_eq (map shown es) k.items v.items
    → map shown (if b then (e.0, v) ∷ es else e ∷ insert_entry (λ x y. bytes_eq x.items y.items) es k v)
    ≡ (if b then (e.0.items, v.items) ∷ map shown es else shown e ∷ insert_entry bytes_eq (map shown es) k.items v.items)
with_entry es e k v true h = refl
with_entry es e k v false h = ap (λ l. shown e ∷ l) h

-- a macro put into the table
pub table-insert : (es : List (Vec ℕ Global × Vec TokenKind Global)) (k : Vec ℕ Global) (v : Vec TokenKind Global)
    → map shown (insert_entry (λ x y. bytes_eq x.items y.items) es k v) ≡ insert_entry bytes_eq (map shown es) k.items v.items
table-insert [] k v = refl
table-insert (e ∷ es) k v = with_entry es e k v (bytes_eq k.items e.0.items) (table-insert es k v)

any-shown : (ks : List (Vec ℕ Global)) (k : Vec ℕ Global) → list_any (λ x. bytes_eq k.items x.items) ks ≡ list_any (bytes_eq k.items) (map (λ x. x.items) ks)
any-shown [] k = refl
any-shown (x ∷ xs) k = ap (λ b. bytes_eq k.items x.items || b) (any-shown xs k)

shown-push : (ks : List (Vec ℕ Global)) (k : Vec ℕ Global) → map (λ x. x.items) (ks ++ k ∷ []) ≡ map (λ x. x.items) ks ++ k.items ∷ []
shown-push [] k = refl
shown-push (x ∷ xs) k = ap (λ l. x.items ∷ l) (shown-push xs k)

with_key : (ks : List (Vec ℕ Global)) (k : Vec ℕ Global) (b : Bool)
    → map (λ x. x.items) (if b then ks else ks ++ k ∷ []) ≡ (if b then map (λ x. x.items) ks else map (λ x. x.items) ks ++ k.items ∷ [])
with_key ks k true = refl
with_key ks k false = shown-push ks k

-- a name put into the list of files
pub keys-insert : (ks : List (Vec ℕ Global)) (k : Vec ℕ Global)
    → map (λ x. x.items) (insert_key (λ x y. bytes_eq x.items y.items) ks k) ≡ insert_key bytes_eq (map (λ x. x.items) ks) k.items
keys-insert ks k =
    with_key ks k (list_any (λ x. bytes_eq k.items x.items) ks)
    ∙ ap (λ b. if b then map (λ x. x.items) ks else map (λ x. x.items) ks ++ k.items ∷ []) (any-shown ks k)

-- the number of a macro is the place of its key
pub number_of_key : (es : List (Vec ℕ Global × Vec TokenKind Global)) (key : List ℕ) → number_of (map shown es) key ≡ position (λ k. bytes_eq key k.items) (keys_of es)
number_of_key es key =
    position-map (bytes_eq key) (λ m. m.0) (map shown es) ∙ position-map (λ m. bytes_eq key m.0) shown es
    ∙ sym (position-map (λ k. bytes_eq key k.items) (λ e. e.0) es)

pub number_from_keys : (es : List (Vec ℕ Global × Vec TokenKind Global)) (key : List ℕ) → number_of (map shown es) key ≡ position_from (λ k. bytes_eq key k.items) 0 (keys_of es)
number_from_keys es key = number_of_key es key ∙ position-from (λ k. bytes_eq key k.items) (keys_of es)
