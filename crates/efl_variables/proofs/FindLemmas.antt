-- What is found of a variable by the numbers of its parts.
use Rattle.std.proofs.Common.{◌≡◌, ◌+◌, ◌<◌, ℕ, List, [], ◌∷◌, ◌++◌, length, take, drop, get_or, reverse, Some, None, sym, ap, ◌∙◌}
use Rattle.std.proofs.lemmas.List.{reverse-append, take-append-drop}
use Rattle.efl_tree.specs.Syntax.{Text}
use Rattle.efl_scoped.specs.Numbers.{Table}
use Rattle.efl_variables.specs.Keys.{pair, list_number, key_of}
use Rattle.efl_variables.proofs.KeyLemmas.{turned_more}

-- a list has no number where its end has none
list_none : (f : Table) (ws vs : List ℕ) → list_number f vs ≡ None → list_number f (ws ++ vs) ≡ None
list_none f [] vs none = none
list_none f (w ∷ ws) vs none = ap (pair f (Some w)) (list_none f ws vs none)

-- one letter more
pub found_more : (f : Table) (xs : List ℕ) (i d k : ℕ) → i < length xs → list_number f (reverse (take i xs)) ≡ Some k →
    list_number f (reverse (take (i + 1) xs)) ≡ f (get_or xs i d) k
found_more f xs i d k lt is = ap (list_number f) (turned_more xs i d lt) ∙ ap (pair f (Some (get_or xs i d))) is

-- a name has no number where the letters before have none
pub none_later : (f : Table) (xs : List ℕ) (i : ℕ) → list_number f (reverse (take i xs)) ≡ None → list_number f (reverse xs) ≡ None
none_later f xs i none =
    ap (λ ys. list_number f (reverse ys)) (sym (take-append-drop i xs)) ∙ ap (list_number f) (reverse-append (take i xs) (drop i xs))
    ∙ list_none f (reverse (drop i xs)) (reverse (take i xs)) none

-- a variable has the number of the pair of its block's and its name's
pub key_by_parts : (f : Table) (u home : ℕ) (h : List ℕ) (x : Text) → list_number f h ≡ Some home → key_of f u h x ≡ pair f (f u home) (list_number f (reverse x))
key_by_parts f u home h x is = ap (λ o. pair f (pair f (Some u) o) (list_number f (reverse x))) is

-- a variable whose block has no number has none
pub key_nowhere : (f : Table) (u : ℕ) (h : List ℕ) (x : Text) → list_number f h ≡ None → key_of f u h x ≡ None
key_nowhere f u h x is = ap (λ o. pair f (pair f (Some u) o) (list_number f (reverse x))) is
