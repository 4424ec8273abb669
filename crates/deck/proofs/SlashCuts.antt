-- Where tokens are split at slashes: within parentheses nothing is, nor is a place or a constant of DATA, nor a list of these.
use Rattle.std.proofs.Common.{◌≡◌, ℕ, suc, Bool, true, List, [], ◌∷◌, Some, refl, ap, ◌∙◌}
use Rattle.std.specs.List.{AllByRecursion}
use Rattle.f66_tree.specs.declared.expression.Operator.TheVariants.{Add, Sub}
use Rattle.f66_tree.specs.Syntax.{Formula, Int, Truth, Letter, Ref, Item, Group, Plus, Minus, Not, Pair, Formulas, NoFormula, AndFormula}
use Rattle.stmt_reader.specs.declared.token.Token.{Token}
use Rattle.stmt_reader.specs.declared.token.Token.TheVariants as t
use Rattle.stmt_reader.specs.Cutting.{fronted, cut}
use Rattle.stmt_reader.specs.Spelling.{spell, spell_list, spell_more, spell_others}
use Rattle.stmt_reader.specs.Splitting.{is_slash, split, split_behind}
use Rattle.stmt_reader.specs.Taking.{place_if}
use Rattle.stmt_reader.proofs.CutLemmas.{fronted_twice, token_then}
use Rattle.stmt_reader.proofs.ListReads.{front, passes_by_cut}
use Rattle.deck.specs.Readable.{is_readable_datum}
use Rattle.deck.specs.ReadableStatements.{AreSome}
use Rattle.deck.proofs.ListsRead.{all_same, spell_some}

-- within parentheses no cut is made, whatever the tokens are
mutual
  within : (p : Token → Bool) (e : Formula) (d : ℕ) (k : List Token) → cut p (suc d) (spell e k) ≡ fronted (spell e) (cut p (suc d) k)
  within p (Int z) d k = refl
  within p (Truth b) d k = refl
  within p (Letter c) d k = refl
  within p (Ref x) d k = refl
  within p (Item x es) d k =
      token_then p (suc d) (t.Word x) (t.Open ∷ spell_list es (t.Close ∷ k)) (λ y. t.Open ∷ spell_list es (t.Close ∷ y)) (cut p (suc d) k) refl
      (token_then p (suc d) t.Open (spell_list es (t.Close ∷ k)) (λ y. spell_list es (t.Close ∷ y)) (cut p (suc d) k) refl (within_list p es (suc d) (t.Close ∷ k) ∙ fronted_twice (spell_list es) (λ y. t.Close ∷ y) (cut p (suc d) k)))
  within p (Group a) d k =
      token_then p (suc d) t.Open (spell a (t.Close ∷ k)) (λ y. spell a (t.Close ∷ y)) (cut p (suc d) k) refl (within p a (suc d) (t.Close ∷ k) ∙ fronted_twice (spell a) (λ y. t.Close ∷ y) (cut p (suc d) k))
  within p (Plus a) d k = token_then p (suc d) (t.Joint Add) (spell a k) (spell a) (cut p (suc d) k) refl (within p a d k)
  within p (Minus a) d k = token_then p (suc d) (t.Joint Sub) (spell a k) (spell a) (cut p (suc d) k) refl (within p a d k)
  within p (Not a) d k = token_then p (suc d) t.Not (spell a k) (spell a) (cut p (suc d) k) refl (within p a d k)
  within p (Pair op a b) d k =
      within p a d (t.Joint op ∷ spell b k) ∙ ap (fronted (spell a)) (token_then p (suc d) (t.Joint op) (spell b k) (spell b) (cut p (suc d) k) refl (within p b d k)) ∙ fronted_twice (spell a) (λ y. t.Joint op ∷ spell b y) (cut p (suc d) k)

  pub within_list : (p : Token → Bool) (es : Formulas) (d : ℕ) (k : List Token) → cut p (suc d) (spell_list es k) ≡ fronted (spell_list es) (cut p (suc d) k)
  within_list p NoFormula d k = all_same (cut p (suc d) k)
  within_list p (AndFormula e es) d k = within p e d (spell_more es k) ∙ ap (fronted (spell e)) (within_more p es d k) ∙ fronted_twice (spell e) (spell_more es) (cut p (suc d) k)

  within_more : (p : Token → Bool) (es : Formulas) (d : ℕ) (k : List Token) → cut p (suc d) (spell_more es k) ≡ fronted (spell_more es) (cut p (suc d) k)
  within_more p NoFormula d k = all_same (cut p (suc d) k)
  within_more p (AndFormula e es) d k =
      token_then p (suc d) t.Comma (spell e (spell_more es k)) (λ y. spell e (spell_more es y)) (cut p (suc d) k) refl
      (within p e d (spell_more es k) ∙ ap (fronted (spell e)) (within_more p es d k) ∙ fronted_twice (spell e) (spell_more es) (cut p (suc d) k))

-- what has the form of a variable or an element
place_uncut : (e : Formula) (k : List Token) → place_if e ≡ Some e → cut is_slash 0 (spell e k) ≡ fronted (spell e) (cut is_slash 0 k)
place_uncut (Ref x) k is = refl
place_uncut (Item x es) k is =
    token_then is_slash 0 (t.Word x) (t.Open ∷ spell_list es (t.Close ∷ k)) (λ y. t.Open ∷ spell_list es (t.Close ∷ y)) (cut is_slash 0 k) refl
    (token_then is_slash 0 t.Open (spell_list es (t.Close ∷ k)) (λ y. spell_list es (t.Close ∷ y)) (cut is_slash 0 k) refl (within_list is_slash es 0 (t.Close ∷ k) ∙ fronted_twice (spell_list es) (λ y. t.Close ∷ y) (cut is_slash 0 k)))
place_uncut _ k is = absurd cc

-- a number with a sign or none, a truth value, or a Hollerith text
datum_uncut : (e : Formula) (k : List Token) → is_readable_datum e ≡ true → cut is_slash 0 (spell e k) ≡ fronted (spell e) (cut is_slash 0 k)
datum_uncut (Int z) k is = refl
datum_uncut (Truth b) k is = refl
datum_uncut (Letter c) k is = refl
datum_uncut (Plus (Int z)) k is = fronted_twice (λ y. t.Joint Add ∷ y) (spell (Int z)) (cut is_slash 0 k)
datum_uncut (Minus (Int z)) k is = fronted_twice (λ y. t.Joint Sub ∷ y) (spell (Int z)) (cut is_slash 0 k)
datum_uncut _ k is = absurd cc

-- ---- what is split ----

abbrev Passes : {A : Type 0} → (A → List Token → List Token) → (A → Type 0) → Type 0
Passes {A = A} spelling Good = (a : A) (k : List Token) → Good a → split is_slash 0 (spelling a k) ≡ front (spelling a) (split is_slash 0 k)

pub place_passes : (e : Formula) (k : List Token) → place_if e ≡ Some e → split is_slash 0 (spell e k) ≡ front (spell e) (split is_slash 0 k)
place_passes e k is = passes_by_cut is_slash (spell e) k (place_uncut e k is)

pub datum_passes : (e : Formula) (k : List Token) → is_readable_datum e ≡ true → split is_slash 0 (spell e k) ≡ front (spell e) (split is_slash 0 k)
datum_passes e k is = passes_by_cut is_slash (spell e) k (datum_uncut e k is)

module _ {A : Type 0} (spelling : A → List Token → List Token) (Good : A → Type 0) (one : Passes spelling Good) where
  others_pass : (all : List A) (k : List Token) → AllByRecursion Good all → split is_slash 0 (spell_others spelling t.Comma all k) ≡ front (spell_others spelling t.Comma all) (split is_slash 0 k)
  others_pass [] k good = refl
  others_pass (a ∷ all) k good = ap (split_behind t.Comma) (one a (spell_others spelling t.Comma all k) good.0 ∙ ap (front (spelling a)) (others_pass all k good.1))

  pub some_pass : (all : List A) (k : List Token) → AreSome Good all → split is_slash 0 (spell_some spelling all k) ≡ front (spell_some spelling all) (split is_slash 0 k)
  some_pass [] k good = absurd good
  some_pass (a ∷ all) k good = one a (spell_others spelling t.Comma all k) good.0 ∙ ap (front (spelling a)) (others_pass all k good.1)
