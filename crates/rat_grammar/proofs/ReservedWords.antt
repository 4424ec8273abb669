-- Reserved words by their capitals, for every table.
use Rattle.std.proofs.Common.{◌≡◌, ◌∙◌, ℕ, Bool, true, false, ◌&&◌, ◌==◌, List, [], ◌∷◌, Option, None, Some, ◌⊎◌, inl, inr, refl, sym, subst, ap, if◌then◌else◌}
use Rattle.std.proofs.lemmas.Bool.{eqb-true, eq-eqb}
use Rattle.std.specs.Char.{to_ascii_uppercase}
use Rattle.ground.specs.declared.token.TokenKind.{TokenKind}
use Rattle.ground.specs.declared.token.TokenKind.TheVariants as kinds
use Rattle.f66_tree.specs.Syntax.{Text}
use Rattle.rat_parse_table.specs.Words.{is_spelled}
use Rattle.rat_grammar.specs.Tokens.{capitals}
use Rattle.rat_grammar.proofs.Standing.{IsWord}

abbrev So : Bool → Type 0
So true = Unit {0}
So false = ⊥

pub untrue : false ≡ true → ⊥
untrue e = subst So (sym e) tt

-- ---- words of the same letters ----

abbrev pub same : Text → Text → Bool
same [] [] = true
same [] (c ∷ cs) = false
same (s ∷ ss) [] = false
same (s ∷ ss) (c ∷ cs) = (s == c) && same ss cs

and_both : (a b : Bool) → a ≡ true → b ≡ true → a && b ≡ true
and_both true b h g = g
and_both false b h g = absurd (untrue h)

pub same_self : (s : Text) → same s s ≡ true
same_self [] = refl
same_self (s ∷ ss) = and_both (s == s) (same ss ss) (eq-eqb s s refl) (same_self ss)

left : (a b : Bool) → a && b ≡ true → a ≡ true
left true b h = refl
left false b h = absurd (untrue h)

right : (a b : Bool) → a && b ≡ true → b ≡ true
right true b h = h
right false b h = absurd (untrue h)

cons_same : {s c : ℕ} {ss cs : Text} → s ≡ c → cs ≡ ss → c ∷ cs ≡ s ∷ ss
cons_same h k = cc

same_is : (s w : Text) → same s w ≡ true → w ≡ s
same_is [] [] h = refl
same_is [] (c ∷ cs) h = absurd (untrue h)
same_is (s ∷ ss) [] h = absurd (untrue h)
same_is (s ∷ ss) (c ∷ cs) h = cons_same (eqb-true s c (left (s == c) (same ss cs) h)) (same_is ss cs (right (s == c) (same ss cs) h))

spelled_same : (s w : Text) → is_spelled s w ≡ same s (capitals w)
spelled_same [] [] = refl
spelled_same [] (c ∷ cs) = refl
spelled_same (s ∷ ss) [] = refl
spelled_same (s ∷ ss) (c ∷ cs) = ap (λ b. (s == to_ascii_uppercase c) && b) (spelled_same ss cs)

-- whether a word is this one, where its capitals are known
pub is_other : (s x w : Text) → capitals w ≡ x → is_spelled s w ≡ same s x
is_other s x w h = spelled_same s w ∙ ap (same s) h

spelled_is : (s w : Text) → is_spelled s w ≡ true → capitals w ≡ s
spelled_is s w h = same_is s (capitals w) (subst (λ b. b ≡ true) (spelled_same s w) h)

-- ---- a list of words, and the terminal of each ----

module _ {T : Type 0} where
  -- by the word, as each table has it
  abbrev pub terminal_in : List (Text × T) → Text → Option T
  terminal_in [] w = None
  terminal_in (x ∷ xs) w = if is_spelled x.0 w then Some x.1 else terminal_in xs w

  -- by its capitals
  abbrev pub terminal_of : List (Text × T) → Text → Option T
  terminal_of [] w = None
  terminal_of (x ∷ xs) w = if same x.0 w then Some x.1 else terminal_of xs w

  by_capitals : (xs : List (Text × T)) (w : Text) → terminal_in xs w ≡ terminal_of xs (capitals w)
  by_capitals [] w = refl
  by_capitals (x ∷ xs) w =
      subst (λ b. (if is_spelled x.0 w then Some x.1 else terminal_in xs w) ≡ (if b then Some x.1 else terminal_of xs (capitals w))) (spelled_same x.0 w)
      (ap (λ o. if is_spelled x.0 w then Some x.1 else o) (by_capitals xs w))

  pub terminal_by : (xs : List (Text × T)) (x w : Text) {o : Option T} → capitals w ≡ x → terminal_of xs x ≡ o → terminal_in xs w ≡ o
  terminal_by xs x w h e = by_capitals xs w ∙ ap (terminal_of xs) h ∙ e

-- ---- what each terminal says of a word ----

module _ {T : Type 0} (Is : T → TokenKind → Type 0) where
  abbrev pub EachWord : List (Text × T) → Type 0
  EachWord [] = Unit {0}
  EachWord (x ∷ xs) = ((w : Text) → capitals w ≡ x.0 → Is x.1 (kinds.Word w)) × EachWord xs

  abbrev pub WordIs : Option T → Text → Type 0
  WordIs None w = Unit {0}
  WordIs (Some k) w = Is k (kinds.Word w)

  chosen_is : (b : Bool) (k : T) (later : Option T) (w : Text) → (b ≡ true → Is k (kinds.Word w)) → WordIs later w → WordIs (if b then Some k else later) w
  chosen_is true k later w h g = h refl
  chosen_is false k later w h g = g

  pub word_is : (xs : List (Text × T)) → EachWord xs → (w : Text) → WordIs (terminal_in xs w) w
  word_is [] each w = tt
  word_is (x ∷ xs) each w = chosen_is (is_spelled x.0 w) x.1 (terminal_in xs w) w (λ h. each.0 w (spelled_is x.0 w h)) (word_is xs each.1 w)

-- what is said of one word, before what is said of the others
infixr 20 ◌&◌
pub ◌&◌ : {A B : Type 0} → A → B → A × B
a & b = (a, b)

pub a_word : {x : Text} (w : Text) → capitals w ≡ x → IsWord x (kinds.Word w)
a_word w h = (w, refl, h)

-- one of two words
pub first_word : {x z : Text} (w : Text) → capitals w ≡ x → IsWord x (kinds.Word w) ⊎ IsWord z (kinds.Word w)
first_word w h = inl (a_word w h)

pub second_word : {x z : Text} (w : Text) → capitals w ≡ z → IsWord x (kinds.Word w) ⊎ IsWord z (kinds.Word w)
second_word w h = inr (a_word w h)
