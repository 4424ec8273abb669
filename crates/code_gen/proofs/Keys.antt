-- The DO statements of a unit by the numbers of statements behind them, which name the units that keep their limits and steps.
use Rattle.std.proofs.Common.{cond, ℕ, ◌<◌, ◌≤◌, inl, inr, nat_eq, Bool, true, false, List, [], ◌∷◌, ◌++◌, length, Option, Some, None, refl, arith}
use Rattle.f66_tree.specs.Syntax.{Act, Loop, Line}
use Rattle.f66_tree.specs.Execution.{Closer, closer_of, closers, closers_at}
use Rattle.code_gen.specs.Behaves.{IsAmong}

abbrev pub key_by : Act → ℕ → List ℕ → List ℕ
key_by (Loop l x a b d) key keys = key ∷ keys
key_by _ key keys = keys

abbrev pub loop_keys : List Line → List ℕ
loop_keys [] = []
loop_keys (s ∷ rest) = key_by s.act (length rest) (loop_keys rest)

key_within : (a : Act) (key j : ℕ) (keys : List ℕ) → (IsAmong j keys → j < key) → IsAmong j (key_by a key keys) → j ≤ key
key_within (Loop l x a b d) key j keys h (inl e) = omega arith
key_within (Loop l x a b d) key j keys h (inr m) = let lt = h m in omega arith
key_within _ key j keys h m = let lt = h m in omega arith

pub keys_within : (rest : List Line) (j : ℕ) → IsAmong j (loop_keys rest) → j < length rest
keys_within [] j m = absurd m
keys_within (s ∷ rest) j m = let le = key_within s.act (length rest) j (loop_keys rest) (keys_within rest j) m in omega arith

-- each DO that ends somewhere is one of them
abbrev pub AreKeys : List Closer → List ℕ → Type 0
AreKeys [] keys = Unit {0}
AreKeys (k ∷ ks) keys = IsAmong (length k.inner) keys × AreKeys ks keys

keys_more : (a : Act) (key : ℕ) (keys : List ℕ) (ks : List Closer) → AreKeys ks keys → AreKeys ks (key_by a key keys)
keys_more a key keys [] h = tt
keys_more (Loop l x a b d) key keys (k ∷ ks) h = (inr h.0, keys_more (Loop l x a b d) key keys ks h.1)
keys_more a key keys (k ∷ ks) h = h

keys_append : (ks js : List Closer) (keys : List ℕ) → AreKeys ks keys → AreKeys js keys → AreKeys (ks ++ js) keys
keys_append [] js keys h i1 = i1
keys_append (k ∷ ks) js keys h i1 = (h.0, keys_append ks js keys h.1 i1)

keys_if : (b : Bool) (k : Closer) (found : List Closer) (keys : List ℕ) → IsAmong (length k.inner) keys → AreKeys found keys → AreKeys (cond b (found ++ k ∷ []) found) keys
keys_if true k found keys h all = keys_append found (k ∷ []) keys all (h, tt)
keys_if false k found keys h all = all

keys_of : (l : ℕ) (a : Act) (rest : List Line) (found : List Closer) (keys : List ℕ) → AreKeys found keys → AreKeys (closer_of l a rest found) (key_by a (length rest) keys)
keys_of l (Loop m x a b d) rest found keys all = keys_if (nat_eq m l) (record { variable = x; inner = rest }) found (length rest ∷ keys) (inl refl) (keys_more (Loop m x a b d) (length rest) keys found all)
keys_of l _ rest found keys all = all

pub closer_keys : (l : ℕ) (rest : List Line) → AreKeys (closers l rest) (loop_keys rest)
closer_keys l [] = tt
closer_keys l (s ∷ rest) = keys_of l s.act rest (closers l rest) (loop_keys rest) (closer_keys l rest)

pub closer_keys_at : (o : Option ℕ) (rest : List Line) → AreKeys (closers_at o rest) (loop_keys rest)
closer_keys_at None rest = tt
closer_keys_at (Some l) rest = closer_keys l rest
