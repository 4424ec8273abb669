-- An assignment is read exactly: from the tokens that spell it, and from no others.
use Rattle.std.proofs.Common.{◌≡◌, ℕ, zero, suc, Bool, true, false, cond, List, [], ◌∷◌, ◌++◌, Option, Some, None, refl, sym, ap, subst, ◌∙◌}
use Rattle.std.specs.List.{AllByRecursion}
use Rattle.f66_tree.specs.declared.expression.Operator.TheVariants.{Add, Sub}
use Rattle.f66_tree.specs.Syntax.{Formula, Int, Truth, Letter, Ref, Item, Group, Plus, Minus, Not, Pair, Formulas, NoFormula, AndFormula, Act, Assign}
use Rattle.stmt_reader.specs.declared.token.Token.{Token}
use Rattle.stmt_reader.specs.declared.token.Token.TheVariants as t
use Rattle.stmt_reader.specs.Levels.{stands}
use Rattle.stmt_reader.specs.Spelling.{spell, spell_list, spell_more}
use Rattle.stmt_reader.specs.Exactness.{IsProper, SpellsAssignment}
use Rattle.stmt_reader.specs.Machine.{expression_of}
use Rattle.stmt_reader.specs.Cutting.{depth, is_equals, Halves, fronted, cuts, cut}
use Rattle.stmt_reader.specs.Statements.{then_if, place_if, assignment_of}
use Rattle.stmt_reader.proofs.Complete.{expression_spelled}
use Rattle.stmt_reader.proofs.Sound.{expression_taken}
use Rattle.stmt_reader.proofs.CutLemmas.{cut_spelled, equals_outside}

-- ---- what spells an assignment is one ----

pub assignment_spelled : (x e : Formula) → place_if x ≡ Some x → stands 0 x ≡ true → stands 0 e ≡ true → assignment_of (spell x (t.Equals ∷ spell e [])) ≡ Some (Assign x e)
assignment_spelled x e place left right =
    let halves : cut is_equals 0 (spell x (t.Equals ∷ spell e [])) ≡ Some (spell x [], spell e []) = cut_spelled is_equals equals_outside x 0 (t.Equals ∷ spell e []) in
    let first = expression_spelled x left in
    let second = expression_spelled e right in
    rw (halves, first, place, second) refl

-- ---- what is read as one spells it ----

mutual
  pub spell-append : (e : Formula) (k m : List Token) → spell e (k ++ m) ≡ spell e k ++ m
  spell-append (Int z) k m = refl
  spell-append (Truth b) k m = refl
  spell-append (Letter c) k m = refl
  spell-append (Ref x) k m = refl
  spell-append (Item x es) k m = ap (λ (y : List Token). t.Word x ∷ t.Open ∷ y) (spell_list-append es (t.Close ∷ k) m)
  spell-append (Group a) k m = ap (λ (y : List Token). t.Open ∷ y) (spell-append a (t.Close ∷ k) m)
  spell-append (Plus a) k m = ap (λ (y : List Token). t.Joint Add ∷ y) (spell-append a k m)
  spell-append (Minus a) k m = ap (λ (y : List Token). t.Joint Sub ∷ y) (spell-append a k m)
  spell-append (Not a) k m = ap (λ (y : List Token). t.Not ∷ y) (spell-append a k m)
  spell-append (Pair op a b) k m = ap (λ (y : List Token). spell a (t.Joint op ∷ y)) (spell-append b k m) ∙ spell-append a (t.Joint op ∷ spell b k) m

  spell_list-append : (es : Formulas) (k m : List Token) → spell_list es (k ++ m) ≡ spell_list es k ++ m
  spell_list-append NoFormula k m = refl
  spell_list-append (AndFormula e es) k m = ap (spell e) (spell_more-append es k m) ∙ spell-append e (spell_more es k) m

  spell_more-append : (es : Formulas) (k m : List Token) → spell_more es (k ++ m) ≡ spell_more es k ++ m
  spell_more-append NoFormula k m = refl
  spell_more-append (AndFormula e es) k m = ap (λ (y : List Token). t.Comma ∷ y) (ap (spell e) (spell_more-append es k m) ∙ spell-append e (spell_more es k) m)

-- what a cut says of the tokens
pub record IsCut (p : Token → Bool) (tokens front rest : List Token) : Type 0 where
  pub at : Token
  pub cuts : p at ≡ true
  pub parts : tokens ≡ front ++ at ∷ rest

pub cut_here : (p : Token → Bool) (d : ℕ) (token : Token) → cuts p d token ≡ true → p token ≡ true
cut_here p zero token is = is
cut_here p (suc d) token is = absurd cc

fronted_is : (token : Token) (r : Option Halves) (h : Halves) → fronted (λ front. token ∷ front) r ≡ Some h → (g : Halves) × (r ≡ Some g) × (token ∷ g.0 ≡ h.0) × (g.1 ≡ h.1)
fronted_is token None h is = absurd cc
fronted_is token (Some g) h is =
    let made : Halves = (token ∷ g.0, g.1) in
    let same : made ≡ h = cc in
    (g, refl, ap (λ (x : Halves). x.0) same, ap (λ (x : Halves). x.1) same)

cut_is_by : (p : Token → Bool) (d : ℕ) (token : Token) (tokens : List Token) (h : Halves) (b : Bool) → cuts p d token ≡ b → cond b (Some ([], tokens)) (fronted (λ front. token ∷ front) (cut p (depth d token) tokens)) ≡ Some h
    → ((g : Halves) → cut p (depth d token) tokens ≡ Some g → IsCut p tokens g.0 g.1) → IsCut p (token ∷ tokens) h.0 h.1
cut_is_by p d token tokens h true at is further =
    let here : Halves = ([], tokens) in
    let same : here ≡ h = cc in
    subst (λ (x : Halves). IsCut p (token ∷ tokens) x.0 x.1) same (record { at = token; cuts = cut_here p d token at; parts = refl })
cut_is_by p d token tokens h false at is further =
    let f = fronted_is token (cut p (depth d token) tokens) h is in
    let c = further f.0 f.1 in
    record { at = c.at; cuts = c.cuts; parts = ap (λ (x : List Token). token ∷ x) c.parts ∙ ap (λ (x : List Token). x ++ c.at ∷ f.0.1) f.2 ∙ ap (λ (x : List Token). h.0 ++ c.at ∷ x) f.3 }

pub cut_is : (p : Token → Bool) (tokens : List Token) (d : ℕ) (h : Halves) → cut p d tokens ≡ Some h → IsCut p tokens h.0 h.1
cut_is p [] d h is = absurd cc
cut_is p (token ∷ tokens) d h is = cut_is_by p d token tokens h (cuts p d token) refl is (λ g further. cut_is p tokens (depth d token) g further)

equals_is : (token : Token) → is_equals token ≡ true → token ≡ t.Equals
equals_is t.Equals is = refl
equals_is (t.Word x) is = absurd cc
equals_is (t.Number n) is = absurd cc
equals_is (t.Chars x) is = absurd cc
equals_is (t.Truth b) is = absurd cc
equals_is t.Not is = absurd cc
equals_is (t.Joint op) is = absurd cc
equals_is t.Open is = absurd cc
equals_is t.Close is = absurd cc
equals_is t.Comma is = absurd cc
equals_is t.Strange is = absurd cc

pub then_some : {A B : Type 0} (o : Option A) (f : A → Option B) (b : B) → then_if o f ≡ Some b → (a : A) × (o ≡ Some a) × (f a ≡ Some b)
then_some None f b is = absurd cc
then_some (Some a) f b is = (a, refl, is)

pub proper_front : (front : List Token) (token : Token) (rest : List Token) → AllByRecursion IsProper (front ++ token ∷ rest) → AllByRecursion IsProper front × AllByRecursion IsProper rest
proper_front [] token rest all = (tt, all.1)
proper_front (a ∷ front) token rest all = let p = proper_front front token rest all.1 in ((all.0, p.0), p.1)

place_is : (a x : Formula) → place_if a ≡ Some x → a ≡ x
place_is (Ref y) x is = cc
place_is (Item y es) x is = cc
place_is (Int z) x is = absurd cc
place_is (Truth b) x is = absurd cc
place_is (Letter c) x is = absurd cc
place_is (Group a) x is = absurd cc
place_is (Plus a) x is = absurd cc
place_is (Minus a) x is = absurd cc
place_is (Not a) x is = absurd cc
place_is (Pair op a b) x is = absurd cc

pub assignment_taken : (tokens : List Token) (act : Act) → AllByRecursion IsProper tokens → assignment_of tokens ≡ Some act → SpellsAssignment tokens act
assignment_taken tokens act proper is =
    let c = then_some (cut is_equals 0 tokens) (λ h. then_if (expression_of h.0) (λ a. then_if (place_if a) (λ x. then_if (expression_of h.1) (λ e. Some (Assign x e))))) act is in
    let h = c.0 in
    let l = then_some (expression_of h.0) (λ a. then_if (place_if a) (λ x. then_if (expression_of h.1) (λ e. Some (Assign x e)))) act c.2 in
    let p = then_some (place_if l.0) (λ x. then_if (expression_of h.1) (λ e. Some (Assign x e))) act l.2 in
    let r = then_some (expression_of h.1) (λ e. Some (Assign p.0 e)) act p.2 in
    let at = cut_is is_equals tokens 0 h c.1 in
    let parts : AllByRecursion IsProper h.0 × AllByRecursion IsProper h.1 = proper_front h.0 at.at h.1 (subst (AllByRecursion IsProper) at.parts proper) in
    let first = expression_taken h.0 l.0 parts.0 l.1 in
    let second = expression_taken h.1 r.0 parts.1 r.1 in
    let same : l.0 ≡ p.0 = place_is l.0 p.0 p.1 in
    let made : Assign p.0 r.0 ≡ act = cc (r.2) in
    let sign : at.at ≡ t.Equals = equals_is at.at at.cuts in
    let whole : tokens ≡ spell l.0 (t.Equals ∷ spell r.0 []) =
    at.parts ∙ ap (λ (x : Token). h.0 ++ x ∷ h.1) sign ∙ ap (λ (x : List Token). x ++ t.Equals ∷ h.1) (sym first.1) ∙ sym (spell-append l.0 [] (t.Equals ∷ h.1)) ∙ ap (λ (x : List Token). spell l.0 (t.Equals ∷ x)) (sym second.1) in
    record {
      place = p.0;
      value = r.0;
      is = sym made;
      is_place = subst (λ (x : Formula). place_if x ≡ Some p.0) same p.1;
      place_stands = subst (λ (x : Formula). stands 0 x ≡ true) same first.0;
      value_stands = second.0;
      spelled = subst (λ (x : Formula). tokens ≡ spell x (t.Equals ∷ spell r.0 [])) same whole;
    }
