-- What tokens give is an expression of the grammar, and they are the tokens that spell it. What the machine has says which
-- tokens it took: the frames, the outermost first, and then the operand.
use Rattle.std.proofs.Common.{◌≡◌, ℕ, ◌≤◌, ◌<◌, Bool, true, false, cond, List, [], ◌∷◌, ◌++◌, Some, refl, sym, ap, subst, ◌∙◌, arith}
use Rattle.std.specs.Prelude.{nat_le, nat_lt, ◌&&◌}
use Rattle.std.specs.List.{list_all, AllByRecursion}
use Rattle.std.proofs.lemmas.Bool.{leb-true, ltb-true, ltb-false, le-leb, and_parts, and_from}
use Rattle.f66_tree.specs.declared.expression.Operator.{Operator}
use Rattle.f66_tree.specs.declared.expression.Operator.TheVariants.{Add, Sub, Mul, Div, Power, Lt, Le, Eq, Ne, Ge, Gt, And, Or}
use Rattle.f66_tree.specs.Syntax.{Formula, Int, Truth, Letter, Ref, Item, Group, Plus, Minus, Not, Pair}
use Rattle.f66_tree.specs.Views.{chained}
use Rattle.stmt_reader.specs.declared.token.Token.{Token}
use Rattle.stmt_reader.specs.declared.token.Token.TheVariants as t
use Rattle.stmt_reader.specs.Levels.{level, left_level, right_level, is_name, stands, stand_all, are_arguments}
use Rattle.stmt_reader.specs.Exactness.{IsProper}
use Rattle.stmt_reader.specs.Spelling.{spell, spell_list}
use Rattle.stmt_reader.specs.Machine.{Frame, Before, Raised, Lowered, Denied, Opened, Within, State, Wants, Has, Stuck, floor_of, floor, closed, reduced, unless_above, joint, comma, close, within, sign, step, run, whole, final, expression_of}
use Rattle.stmt_reader.proofs.LevelLemmas.{right_is, left_below, stands_lower}
use Rattle.stmt_reader.proofs.Complete.{reduced_stays, closes}

-- ---- what was taken ----

abbrev spell_before : List Formula → List Token → List Token
spell_before [] k = k
spell_before (a ∷ before) k = spell a (t.Comma ∷ spell_before before k)

abbrev said : List Frame → List Token → List Token
said [] k = k
said (Before op a ∷ fs) k = said fs (spell a (t.Joint op ∷ k))
said (Raised ∷ fs) k = said fs (t.Joint Add ∷ k)
said (Lowered ∷ fs) k = said fs (t.Joint Sub ∷ k)
said (Denied ∷ fs) k = said fs (t.Not ∷ k)
said (Opened ∷ fs) k = said fs (t.Open ∷ k)
said (Within x before ∷ fs) k = said fs (t.Word x ∷ t.Open ∷ spell_before before k)

abbrev told : State → List Token → List Token
told (Wants fs) k = said fs k
told (Has a fs) k = said fs (spell a k)
told Stuck k = k

before_one : (before : List Formula) (a : Formula) (k : List Token) → spell_before (before ++ a ∷ []) k ≡ spell_before before (spell a (t.Comma ∷ k))
before_one [] a k = refl
before_one (b ∷ before) a k = ap (λ (x : List Token). spell b (t.Comma ∷ x)) (before_one before a k)

arguments_close : (before : List Formula) (a : Formula) (k : List Token) → spell_list (chained (before ++ a ∷ [])) k ≡ spell_before before (spell a k)
arguments_close [] a k = refl
arguments_close (b ∷ []) a k = refl
arguments_close (b ∷ c ∷ before) a k = ap (λ (x : List Token). spell b (t.Comma ∷ x)) (arguments_close (c ∷ before) a k)

-- ---- what holds of it ----

abbrev Rests : List Frame → Type 0
Rests [] = Unit {0}
Rests (Before op a ∷ fs) = (stands (left_level op) a ≡ true) × (floor fs ≤ level op) × Rests fs
Rests (Raised ∷ fs) = (floor fs ≤ 4) × Rests fs
Rests (Lowered ∷ fs) = (floor fs ≤ 4) × Rests fs
Rests (Denied ∷ fs) = (floor fs ≤ 2) × Rests fs
Rests (Opened ∷ fs) = Rests fs
Rests (Within x before ∷ fs) = (is_name x ≡ true) × (list_all (stands 0) before ≡ true) × Rests fs

abbrev Holds : State → Type 0
Holds (Wants fs) = Rests fs
Holds (Has a fs) = (stands 7 a ≡ true) × Rests fs
Holds Stuck = Unit {0}

-- ---- closing frames ----

-- a frame that is closed
record Closes (f : Frame) (fs : List Frame) (a : Formula) (n : ℕ) : Type 0 where
  at_level : stands n (closed f a) ≡ true
  at_floor : stands (floor fs) (closed f a) ≡ true
  rests : Rests fs
  same : (k : List Token) → said fs (spell (closed f a) k) ≡ said (f ∷ fs) (spell a k)

closing : (f : Frame) (fs : List Frame) (a : Formula) (n : ℕ) → n < floor_of f → stands (floor_of f) a ≡ true → Rests (f ∷ fs) → Closes f fs a n
closing (Before op x) fs a n h is r =
    let below : n ≤ level op = omega (arith, h, right_is op) in
    let parts : (stands (left_level op) x && stands (right_level op) a) ≡ true = and_from (stands (left_level op) x) (stands (right_level op) a) r.0 is in
    record {
      at_level = and_from (nat_le n (level op)) (stands (left_level op) x && stands (right_level op) a) (le-leb n (level op) below) parts;
      at_floor = and_from (nat_le (floor fs) (level op)) (stands (left_level op) x && stands (right_level op) a) (le-leb (floor fs) (level op) r.1) parts;
      rests = r.2;
      same = λ k. refl;
    }
closing Raised fs a n h is r = record {
  at_level = and_from (nat_le n 4) (stands 5 a) (le-leb n 4 (omega (arith, h))) is;
  at_floor = and_from (nat_le (floor fs) 4) (stands 5 a) (le-leb (floor fs) 4 r.0) is;
  rests = r.1;
  same = λ k. refl;
}
closing Lowered fs a n h is r = record {
  at_level = and_from (nat_le n 4) (stands 5 a) (le-leb n 4 (omega (arith, h))) is;
  at_floor = and_from (nat_le (floor fs) 4) (stands 5 a) (le-leb (floor fs) 4 r.0) is;
  rests = r.1;
  same = λ k. refl;
}
closing Denied fs a n h is r = record {
  at_level = and_from (nat_le n 2) (stands 3 a) (le-leb n 2 (omega (arith, h))) is;
  at_floor = and_from (nat_le (floor fs) 2) (stands 3 a) (le-leb (floor fs) 2 r.0) is;
  rests = r.1;
  same = λ k. refl;
}
closing Opened fs a n h is r = absurd (omega (arith, h))
closing (Within x before) fs a n h is r = absurd (omega (arith, h))

-- what closing the frames above a level gives
abbrev Reduced : ℕ → List Frame → Formula → State → Type 0
Reduced n fs a (Has b gs) = (stands n b ≡ true) × (stands (floor gs) b ≡ true) × Rests gs × ((k : List Token) → said gs (spell b k) ≡ said fs (spell a k))
Reduced n fs a (Wants gs) = ⊥
Reduced n fs a Stuck = ⊥

via : (n : ℕ) (fs gs : List Frame) (a b : Formula) (s : State) → ((k : List Token) → said gs (spell b k) ≡ said fs (spell a k)) → Reduced n gs b s → Reduced n fs a s
via n fs gs a b (Has c hs) same r = (r.0, r.1, r.2, λ k. r.3 k ∙ same k)
via n fs gs a b (Wants hs) same r = r
via n fs gs a b Stuck same r = r

reducing_one : (n : ℕ) (f : Frame) (fs : List Frame) (a : Formula) (b : Bool) → nat_lt n (floor_of f) ≡ b → stands n a ≡ true → stands (floor_of f) a ≡ true → Rests (f ∷ fs)
    → (stands n (closed f a) ≡ true → stands (floor fs) (closed f a) ≡ true → Rests fs → Reduced n fs (closed f a) (reduced n fs (closed f a))) → Reduced n (f ∷ fs) a (reduced n (f ∷ fs) a)
reducing_one n f fs a true is here there r further =
    let h = ltb-true n (floor_of f) is in
    let c = closing f fs a n h there r in
    subst (Reduced n (f ∷ fs) a) (sym (closes n f fs a h)) (via n (f ∷ fs) fs a (closed f a) (reduced n fs (closed f a)) c.same (further c.at_level c.at_floor c.rests))
reducing_one n f fs a false is here there r further = subst (Reduced n (f ∷ fs) a) (sym (reduced_stays n (f ∷ fs) a (ltb-false n (floor_of f) is))) (here, there, r, λ k. refl)

reducing : (n : ℕ) (fs : List Frame) (a : Formula) → stands n a ≡ true → stands (floor fs) a ≡ true → Rests fs → Reduced n fs a (reduced n fs a)
reducing n [] a here there r = (here, there, r, λ k. refl)
reducing n (f ∷ fs) a here there r = reducing_one n f fs a (nat_lt n (floor_of f)) refl here there r (reducing n fs (closed f a))

-- ---- one token ----

-- what a step leads to
abbrev Goes : State → Token → State → Type 0
Goes s token (Wants gs) = Rests gs × ((k : List Token) → said gs k ≡ told s (token ∷ k))
Goes s token (Has b gs) = (stands 7 b ≡ true) × Rests gs × ((k : List Token) → said gs (spell b k) ≡ told s (token ∷ k))
Goes s token Stuck = Unit {0}

-- a new frame, if it may stand here
frame_goes : (s : State) (token : Token) (fs : List Frame) (n : ℕ) (f : Frame) → (floor fs ≤ n → Rests (f ∷ fs)) → ((k : List Token) → said (f ∷ fs) k ≡ told s (token ∷ k)) → Goes s token (unless_above fs n f)
frame_goes s token fs n f rests same = by_test (nat_le (floor fs) n) refl
  where
    by_test : (b : Bool) → nat_le (floor fs) n ≡ b → Goes s token (cond b (Wants (f ∷ fs)) Stuck)
    by_test true is = (rests (leb-true (floor fs) n is), same)
    by_test false is = tt

joint_goes : (op : Operator) (fs : List Frame) (a : Formula) (s : State) → Reduced (left_level op) fs a s → Goes (Has a fs) (t.Joint op) (joint op s)
joint_goes op fs a (Has b gs) r = frame_goes (Has a fs) (t.Joint op) gs (level op) (Before op b) (λ low. (r.0, low, r.2)) (λ k. r.3 (t.Joint op ∷ k))
joint_goes op fs a (Wants gs) r = tt
joint_goes op fs a Stuck r = tt

all_and_one : (before : List Formula) (a : Formula) → list_all (stands 0) before ≡ true → stands 0 a ≡ true → list_all (stands 0) (before ++ a ∷ []) ≡ true
all_and_one [] a all is = and_from (stands 0 a) true is refl
all_and_one (b ∷ before) a all is =
    let p = and_parts (stands 0 b) (list_all (stands 0) before) all in
    and_from (stands 0 b) (list_all (stands 0) (before ++ a ∷ [])) p.0 (all_and_one before a p.1 is)

stand_all_chained : (before : List Formula) → list_all (stands 0) before ≡ true → stand_all (chained before) ≡ true
stand_all_chained [] all = refl
stand_all_chained (b ∷ before) all =
    let p = and_parts (stands 0 b) (list_all (stands 0) before) all in
    and_from (stands 0 b) (stand_all (chained before)) p.0 (stand_all_chained before p.1)

some_arguments : (before : List Formula) (a : Formula) → list_all (stands 0) (before ++ a ∷ []) ≡ true → are_arguments (chained (before ++ a ∷ [])) ≡ true
some_arguments [] a all = stand_all_chained (a ∷ []) all
some_arguments (b ∷ before) a all = stand_all_chained (b ∷ (before ++ a ∷ [])) all

comma_goes : (fs : List Frame) (a : Formula) (s : State) → Reduced 0 fs a s → Goes (Has a fs) t.Comma (comma s)
comma_goes fs a (Has b []) r = tt
comma_goes fs a (Has b (Within x before ∷ gs)) r =
    ((r.2.0, all_and_one before b r.2.1 r.0, r.2.2), λ k. ap (λ (y : List Token). said gs (t.Word x ∷ t.Open ∷ y)) (before_one before b k) ∙ r.3 (t.Comma ∷ k))
comma_goes fs a (Has b (Before op c ∷ gs)) r = tt
comma_goes fs a (Has b (Raised ∷ gs)) r = tt
comma_goes fs a (Has b (Lowered ∷ gs)) r = tt
comma_goes fs a (Has b (Denied ∷ gs)) r = tt
comma_goes fs a (Has b (Opened ∷ gs)) r = tt
comma_goes fs a (Wants gs) r = tt
comma_goes fs a Stuck r = tt

close_goes : (fs : List Frame) (a : Formula) (s : State) → Reduced 0 fs a s → Goes (Has a fs) t.Close (close s)
close_goes fs a (Has b []) r = tt
close_goes fs a (Has b (Within x before ∷ gs)) r = (
  and_from (is_name x) (are_arguments (chained (before ++ b ∷ []))) r.2.0 (some_arguments before b (all_and_one before b r.2.1 r.0)),
  r.2.2,
  λ k. ap (λ (y : List Token). said gs (t.Word x ∷ t.Open ∷ y)) (arguments_close before b (t.Close ∷ k)) ∙ r.3 (t.Close ∷ k),
)
close_goes fs a (Has b (Opened ∷ gs)) r = (r.0, r.2, λ k. r.3 (t.Close ∷ k))
close_goes fs a (Has b (Before op c ∷ gs)) r = tt
close_goes fs a (Has b (Raised ∷ gs)) r = tt
close_goes fs a (Has b (Lowered ∷ gs)) r = tt
close_goes fs a (Has b (Denied ∷ gs)) r = tt
close_goes fs a (Wants gs) r = tt
close_goes fs a Stuck r = tt

within_goes : (a : Formula) (fs : List Frame) → stands 7 a ≡ true → Rests fs → Goes (Has a fs) t.Open (within a fs)
within_goes (Ref x) fs is r = ((is, refl, r), λ k. refl)
within_goes (Int z) fs is r = tt
within_goes (Truth b) fs is r = tt
within_goes (Letter c) fs is r = tt
within_goes (Item x es) fs is r = tt
within_goes (Group a) fs is r = tt
within_goes (Plus a) fs is r = tt
within_goes (Minus a) fs is r = tt
within_goes (Not a) fs is r = tt
within_goes (Pair op a b) fs is r = tt

sign_goes : (op : Operator) (fs : List Frame) → Rests fs → Goes (Wants fs) (t.Joint op) (sign op fs)
sign_goes Add fs r = frame_goes (Wants fs) (t.Joint Add) fs 4 Raised (λ low. (low, r)) (λ k. refl)
sign_goes Sub fs r = frame_goes (Wants fs) (t.Joint Sub) fs 4 Lowered (λ low. (low, r)) (λ k. refl)
sign_goes Mul fs r = tt
sign_goes Div fs r = tt
sign_goes Power fs r = tt
sign_goes Lt fs r = tt
sign_goes Le fs r = tt
sign_goes Eq fs r = tt
sign_goes Ne fs r = tt
sign_goes Ge fs r = tt
sign_goes Gt fs r = tt
sign_goes And fs r = tt
sign_goes Or fs r = tt

floor_below : (fs : List Frame) → floor fs ≤ 7
floor_below [] = omega arith
floor_below (Before op a ∷ fs) = right_below op
  where
    right_below : (op : Operator) → right_level op ≤ 7
    right_below Add = omega arith
    right_below Sub = omega arith
    right_below Mul = omega arith
    right_below Div = omega arith
    right_below Power = omega arith
    right_below Lt = omega arith
    right_below Le = omega arith
    right_below Eq = omega arith
    right_below Ne = omega arith
    right_below Ge = omega arith
    right_below Gt = omega arith
    right_below And = omega arith
    right_below Or = omega arith
floor_below (Raised ∷ fs) = omega arith
floor_below (Lowered ∷ fs) = omega arith
floor_below (Denied ∷ fs) = omega arith
floor_below (Opened ∷ fs) = omega arith
floor_below (Within x before ∷ fs) = omega arith

-- a prime, with the frames above a level closed
prime_reduced : (n : ℕ) (fs : List Frame) (a : Formula) → n ≤ 7 → stands 7 a ≡ true → Rests fs → Reduced n fs a (reduced n fs a)
prime_reduced n fs a h is r = reducing n fs a (stands_lower 7 n a h is) (stands_lower 7 (floor fs) a (floor_below fs) is) r

step_goes : (s : State) (token : Token) → IsProper token → Holds s → Goes s token (step s token)
step_goes (Wants fs) (t.Word x) proper h = (proper, h, λ k. refl)
step_goes (Wants fs) (t.Number n) proper h = (refl, h, λ k. refl)
step_goes (Wants fs) (t.Truth b) proper h = (refl, h, λ k. refl)
step_goes (Wants fs) t.Not proper h = frame_goes (Wants fs) t.Not fs 2 Denied (λ low. (low, h)) (λ k. refl)
step_goes (Wants fs) (t.Joint op) proper h = sign_goes op fs h
step_goes (Wants fs) t.Open proper h = (h, λ k. refl)
step_goes (Wants fs) (t.Chars c) proper h = tt
step_goes (Wants fs) t.Close proper h = tt
step_goes (Wants fs) t.Comma proper h = tt
step_goes (Wants fs) t.Equals proper h = tt
step_goes (Wants fs) t.Strange proper h = tt
step_goes (Has a fs) (t.Joint op) proper h = joint_goes op fs a (reduced (left_level op) fs a) (prime_reduced (left_level op) fs a (left_below op) h.0 h.1)
step_goes (Has a fs) t.Open proper h = within_goes a fs h.0 h.1
step_goes (Has a fs) t.Comma proper h = comma_goes fs a (reduced 0 fs a) (prime_reduced 0 fs a (omega arith) h.0 h.1)
step_goes (Has a fs) t.Close proper h = close_goes fs a (reduced 0 fs a) (prime_reduced 0 fs a (omega arith) h.0 h.1)
step_goes (Has a fs) (t.Word x) proper h = tt
step_goes (Has a fs) (t.Number n) proper h = tt
step_goes (Has a fs) (t.Truth b) proper h = tt
step_goes (Has a fs) t.Not proper h = tt
step_goes (Has a fs) (t.Chars c) proper h = tt
step_goes (Has a fs) t.Equals proper h = tt
step_goes (Has a fs) t.Strange proper h = tt
step_goes Stuck token proper h = tt

-- ---- all tokens ----

abbrev Taken : State → List Token → State → Type 0
Taken s tokens (Wants gs) = Rests gs × (said gs [] ≡ told s tokens)
Taken s tokens (Has b gs) = (stands 7 b ≡ true) × Rests gs × (said gs (spell b []) ≡ told s tokens)
Taken s tokens Stuck = Unit {0}

pub stays_stuck : (tokens : List Token) → run Stuck tokens ≡ Stuck
stays_stuck [] = refl
stays_stuck (token ∷ tokens) = stays_stuck tokens

taken_via : (s m : State) (all rest : List Token) (e : State) → told m rest ≡ told s all → Taken m rest e → Taken s all e
taken_via s m all rest (Wants gs) same h = (h.0, h.1 ∙ same)
taken_via s m all rest (Has b gs) same h = (h.0, h.1, h.2 ∙ same)
taken_via s m all rest Stuck same h = tt

goes_on : (s : State) (token : Token) (tokens : List Token) (m : State) → Goes s token m → (Holds m → Taken m tokens (run m tokens)) → Taken s (token ∷ tokens) (run m tokens)
goes_on s token tokens (Wants gs) g further = taken_via s (Wants gs) (token ∷ tokens) tokens (run (Wants gs) tokens) (g.1 tokens) (further g.0)
goes_on s token tokens (Has b gs) g further = taken_via s (Has b gs) (token ∷ tokens) tokens (run (Has b gs) tokens) (g.2 tokens) (further (g.0, g.1))
goes_on s token tokens Stuck g further = subst (Taken s (token ∷ tokens)) (sym (stays_stuck tokens)) tt

pub run_taken : (tokens : List Token) (s : State) → AllByRecursion IsProper tokens → Holds s → Taken s tokens (run s tokens)
run_taken [] (Wants fs) proper h = (h, refl)
run_taken [] (Has a fs) proper h = (h.0, h.1, refl)
run_taken [] Stuck proper h = tt
run_taken (token ∷ tokens) s proper h = goes_on s token tokens (step s token) (step_goes s token proper.0 h) (run_taken tokens (step s token) proper.1)

whole_is : (tokens : List Token) (fs : List Frame) (a e : Formula) (s : State) → Reduced 0 fs a s → said fs (spell a []) ≡ tokens → whole s ≡ Some e → (stands 0 e ≡ true) × (spell e [] ≡ tokens)
whole_is tokens fs a e (Has b []) r all is = let same : b ≡ e = cc in subst (λ (x : Formula). (stands 0 x ≡ true) × (spell x [] ≡ tokens)) same (r.0, r.3 [] ∙ all)
whole_is tokens fs a e (Has b (g ∷ gs)) r all is = absurd cc
whole_is tokens fs a e (Wants gs) r all is = absurd cc
whole_is tokens fs a e Stuck r all is = absurd cc

final_is : (tokens : List Token) (e : Formula) (s : State) → Taken (Wants []) tokens s → final s ≡ Some e → (stands 0 e ≡ true) × (spell e [] ≡ tokens)
final_is tokens e (Has a fs) taken is = whole_is tokens fs a e (reduced 0 fs a) (prime_reduced 0 fs a (omega arith) taken.0 taken.1) taken.2 is
final_is tokens e (Wants fs) taken is = absurd cc
final_is tokens e Stuck taken is = absurd cc

-- what tokens give is an expression of the grammar, which they spell
pub expression_taken : (tokens : List Token) (e : Formula) → AllByRecursion IsProper tokens → expression_of tokens ≡ Some e → (stands 0 e ≡ true) × (spell e [] ≡ tokens)
expression_taken tokens e proper is = final_is tokens e (run (Wants []) tokens) (run_taken tokens (Wants []) proper tt) is
