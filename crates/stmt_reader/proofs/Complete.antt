-- An expression of the grammar is what its tokens give. Once its tokens are taken, the machine has the expression's last
-- prime, with the frames of what stands before it; closing the frames above a level gives the expression.
use Rattle.std.proofs.Common.{◌≡◌, ℕ, ◌≤◌, ◌<◌, pos, negsuc, true, false, List, [], ◌∷◌, ◌++◌, Some, refl, ap, ◌∙◌, arith}
use Rattle.std.specs.Prelude.{◌&&◌}
use Rattle.std.proofs.lemmas.Bool.{le-leb, lt-ltb, le-ltb, and_parts}
use Rattle.f66_tree.specs.Syntax.{Text, Formula, Int, Truth, Letter, Ref, Item, Group, Plus, Minus, Not, Pair, Formulas, NoFormula, AndFormula}
use Rattle.f66_tree.specs.Views.{chained}
use Rattle.stmt_reader.specs.declared.token.Token.{Token}
use Rattle.stmt_reader.specs.declared.token.Token.TheVariants as t
use Rattle.stmt_reader.specs.Levels.{level, left_level, right_level, is_name, stands, stand_all}
use Rattle.stmt_reader.specs.Spelling.{spell, spell_more}
use Rattle.stmt_reader.specs.Machine.{Frame, Before, Raised, Lowered, Denied, Opened, Within, State, Wants, Has, floor_of, floor, closed, reduced, unless_above, joint, comma, close, run, whole, final, expression_of}
use Rattle.stmt_reader.proofs.LevelLemmas.{right_is, left_above, stands_lower, joined_level, joined_left, joined_right, within_level, within_part}

-- the last prime of an expression, and the frames of what stands before it
abbrev pub prime_of : Formula → Formula
prime_of (Plus a) = prime_of a
prime_of (Minus a) = prime_of a
prime_of (Not a) = prime_of a
prime_of (Pair op a b) = prime_of b
prime_of (Int z) = Int z
prime_of (Truth b) = Truth b
prime_of (Letter c) = Letter c
prime_of (Ref x) = Ref x
prime_of (Item x es) = Item x es
prime_of (Group a) = Group a

abbrev pub path : Formula → List Frame → List Frame
path (Plus a) fs = path a (Raised ∷ fs)
path (Minus a) fs = path a (Lowered ∷ fs)
path (Not a) fs = path a (Denied ∷ fs)
path (Pair op a b) fs = path b (Before op a ∷ fs)
path (Int z) fs = fs
path (Truth b) fs = fs
path (Letter c) fs = fs
path (Ref x) fs = fs
path (Item x es) fs = fs
path (Group a) fs = fs

-- frames at a level or below it stay
pub reduced_stays : (n : ℕ) (fs : List Frame) (a : Formula) → floor fs ≤ n → reduced n fs a ≡ Has a fs
reduced_stays n [] a h = refl
reduced_stays n (f ∷ fs) a h = let no = le-ltb n (floor_of f) h in rw no refl

-- a frame above a level is closed
pub closes : (n : ℕ) (f : Frame) (fs : List Frame) (a : Formula) → n < floor_of f → reduced n (f ∷ fs) a ≡ reduced n fs (closed f a)
closes n f fs a h = let yes = lt-ltb n (floor_of f) h in rw yes refl

-- closing the frames of an expression gives the expression
pub reduced_path : (n : ℕ) (e : Formula) (fs : List Frame) → stands n e ≡ true → reduced n (path e fs) (prime_of e) ≡ reduced n fs e
reduced_path n (Int z) fs is = refl
reduced_path n (Truth b) fs is = refl
reduced_path n (Letter c) fs is = refl
reduced_path n (Ref x) fs is = refl
reduced_path n (Item x es) fs is = refl
reduced_path n (Group a) fs is = refl
reduced_path n (Plus a) fs is =
    let low = within_level n 4 (stands 5 a) is in
    reduced_path n a (Raised ∷ fs) (stands_lower 5 n a (omega (arith, low)) (within_part n 4 (stands 5 a) is)) ∙ closes n Raised fs a (omega (arith, low))
reduced_path n (Minus a) fs is =
    let low = within_level n 4 (stands 5 a) is in
    reduced_path n a (Lowered ∷ fs) (stands_lower 5 n a (omega (arith, low)) (within_part n 4 (stands 5 a) is)) ∙ closes n Lowered fs a (omega (arith, low))
reduced_path n (Not a) fs is =
    let low = within_level n 2 (stands 3 a) is in
    reduced_path n a (Denied ∷ fs) (stands_lower 3 n a (omega (arith, low)) (within_part n 2 (stands 3 a) is)) ∙ closes n Denied fs a (omega (arith, low))
reduced_path n (Pair op a b) fs is =
    let low = joined_level n op a b is in
    let right = right_is op in
    let above : n < right_level op = omega (arith, low, right) in
    reduced_path n b (Before op a ∷ fs) (stands_lower (right_level op) n b (omega (arith, above)) (joined_right n op a b is)) ∙ closes n (Before op a) fs b above

-- a frame that may stand here
pub opens : (fs : List Frame) (n : ℕ) (f : Frame) → floor fs ≤ n → unless_above fs n f ≡ Wants (f ∷ fs)
opens fs n f h = let yes = le-leb (floor fs) n h in rw yes refl

-- arguments behind others
abbrev linked : List Formula → Formulas → Formulas
linked [] es = es
linked (a ∷ before) es = AndFormula a (linked before es)

linked_one : (before : List Formula) (e : Formula) → chained (before ++ e ∷ []) ≡ linked before (AndFormula e NoFormula)
linked_one [] e = refl
linked_one (a ∷ before) e = ap (AndFormula a) (linked_one before e)

linked_more : (before : List Formula) (e : Formula) (es : Formulas) → linked (before ++ e ∷ []) es ≡ linked before (AndFormula e es)
linked_more [] e es = refl
linked_more (a ∷ before) e es = ap (AndFormula a) (linked_more before e es)

-- behind an expression in parentheses or among arguments, its frames are closed
gathered : (e : Formula) (f : Frame) (fs : List Frame) → floor_of f ≡ 0 → stands 0 e ≡ true → reduced 0 (path e (f ∷ fs)) (prime_of e) ≡ Has e (f ∷ fs)
gathered e f fs none is = reduced_path 0 e (f ∷ fs) is ∙ reduced_stays 0 (f ∷ fs) e (omega (arith, none))

mutual
  -- the tokens of an expression lead to its last prime
  pub run_spelled : (e : Formula) (fs : List Frame) (k : List Token) → stands (floor fs) e ≡ true → run (Wants fs) (spell e k) ≡ run (Has (prime_of e) (path e fs)) k
  run_spelled (Int (pos n)) fs k is = refl
  run_spelled (Int (negsuc n)) fs k is = absurd cc
  run_spelled (Truth b) fs k is = refl
  run_spelled (Letter c) fs k is = absurd cc
  run_spelled (Ref x) fs k is = refl
  run_spelled (Item x NoFormula) fs k is = absurd (let no = (and_parts (is_name x) false is).1 in cc)
  run_spelled (Item x (AndFormula e es)) fs k is =
      let args = (and_parts (is_name x) (stands 0 e && stand_all es) is).1 in
      let p = and_parts (stands 0 e) (stand_all es) args in
      run_spelled e (Within x [] ∷ fs) (spell_more es (t.Close ∷ k)) p.0 ∙ run_more es e x [] fs k p.0 p.1
  run_spelled (Group a) fs k is =
      run_spelled a (Opened ∷ fs) (t.Close ∷ k) is ∙ ap (λ (s : State). run (close s) k) (gathered a Opened fs refl is)
  run_spelled (Plus a) fs k is =
      ap (λ (s : State). run s (spell a k)) (opens fs 4 Raised (within_level (floor fs) 4 (stands 5 a) is)) ∙ run_spelled a (Raised ∷ fs) k (within_part (floor fs) 4 (stands 5 a) is)
  run_spelled (Minus a) fs k is =
      ap (λ (s : State). run s (spell a k)) (opens fs 4 Lowered (within_level (floor fs) 4 (stands 5 a) is)) ∙ run_spelled a (Lowered ∷ fs) k (within_part (floor fs) 4 (stands 5 a) is)
  run_spelled (Not a) fs k is =
      ap (λ (s : State). run s (spell a k)) (opens fs 2 Denied (within_level (floor fs) 2 (stands 3 a) is)) ∙ run_spelled a (Denied ∷ fs) k (within_part (floor fs) 2 (stands 3 a) is)
  run_spelled (Pair op a b) fs k is =
      let low = joined_level (floor fs) op a b is in
      let above : floor fs ≤ left_level op = omega (arith, low, left_above op) in
      let left = joined_left (floor fs) op a b is in
      let closing : reduced (left_level op) (path a fs) (prime_of a) ≡ Has a fs = reduced_path (left_level op) a fs left ∙ reduced_stays (left_level op) fs a above in
      run_spelled a fs (t.Joint op ∷ spell b k) (stands_lower (left_level op) (floor fs) a above left)
      ∙ ap (λ (s : State). run (joint op s) (spell b k)) closing
      ∙ ap (λ (s : State). run s (spell b k)) (opens fs (level op) (Before op a) low)
      ∙ run_spelled b (Before op a ∷ fs) k (joined_right (floor fs) op a b is)

  -- the arguments behind one, and the parenthesis that closes
  pub run_more : (es : Formulas) (e : Formula) (x : Text) (before : List Formula) (fs : List Frame) (k : List Token) → stands 0 e ≡ true → stand_all es ≡ true
      → run (Has (prime_of e) (path e (Within x before ∷ fs))) (spell_more es (t.Close ∷ k)) ≡ run (Has (Item x (linked before (AndFormula e es))) fs) k
  run_more NoFormula e x before fs k here all =
      ap (λ (s : State). run (close s) k) (gathered e (Within x before) fs refl here) ∙ ap (λ (args : Formulas). run (Has (Item x args) fs) k) (linked_one before e)
  run_more (AndFormula a es) e x before fs k here all =
      let p = and_parts (stands 0 a) (stand_all es) all in
      ap (λ (s : State). run (comma s) (spell a (spell_more es (t.Close ∷ k)))) (gathered e (Within x before) fs refl here)
      ∙ run_spelled a (Within x (before ++ e ∷ []) ∷ fs) (spell_more es (t.Close ∷ k)) p.0
      ∙ run_more es a x (before ++ e ∷ []) fs k p.0 p.1
      ∙ ap (λ (args : Formulas). run (Has (Item x args) fs) k) (linked_more before e (AndFormula a es))

-- the tokens that spell an expression of the grammar give it
pub expression_spelled : (e : Formula) → stands 0 e ≡ true → expression_of (spell e []) ≡ Some e
expression_spelled e is = ap final (run_spelled e [] [] is) ∙ ap whole (reduced_path 0 e [] is)
