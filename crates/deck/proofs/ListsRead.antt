-- Lists with commas between their members, as texts and as tokens.
use Rattle.std.proofs.Common.{◌≡◌, ℕ, Bool, true, false, List, [], ◌∷◌, Option, Some, None, refl, ap, ◌∙◌}
use Rattle.std.specs.List.{AllByRecursion}
use Rattle.stmt_text.specs.Texts.{commas, more_commas}
use Rattle.stmt_reader.specs.declared.token.Token.{Token}
use Rattle.stmt_reader.specs.declared.token.Token.TheVariants as t
use Rattle.stmt_reader.specs.declared.lexer.Part.TheVariants.{Clear}
use Rattle.stmt_reader.specs.Cutting.{Halves, fronted, cut, is_comma}
use Rattle.stmt_reader.specs.Lexing.{lexed}
use Rattle.stmt_reader.specs.Spelling.{spell_others, spell_members}
use Rattle.stmt_reader.specs.Splitting.{list_of}
use Rattle.stmt_reader.proofs.CallReads.{cut_members}
use Rattle.stmt_reader.proofs.ListReads.{IsMember, list_spelled}
use Rattle.deck.specs.ReadableStatements.{AreSome}
use Rattle.deck.proofs.KnownTokens.{AreKnown}
use Rattle.deck.proofs.LexingLemmas.{IsBreak}
use Rattle.deck.proofs.TypesRead.{more_break}

-- a list of one or more, before what comes next
abbrev pub spell_some : {A : Type 0} → (A → List Token → List Token) → List A → List Token → List Token
spell_some spelling [] k = k
spell_some spelling (a ∷ all) k = spell_members spelling t.Comma a all k

-- a member's text gives its tokens
abbrev pub IsLexed : {A : Type 0} → (A → List ℕ → List ℕ) → (A → List Token → List Token) → (A → Type 0) → Bool → Type 0
IsLexed {A = A} text spelling Good opens = (a : A) (k : List ℕ) → Good a → IsBreak k → lexed (Clear opens) (text a k) ≡ spelling a (lexed (Clear false) k)

module _ {A : Type 0} (text : A → List ℕ → List ℕ) (spelling : A → List Token → List Token) (Good : A → Type 0) (behind_comma : IsLexed text spelling Good true) where
  pub others_lexed : (all : List A) (k : List ℕ) → AllByRecursion Good all → IsBreak k → lexed (Clear false) (more_commas text all k) ≡ spell_others spelling t.Comma all (lexed (Clear false) k)
  others_lexed [] k good b = refl
  others_lexed (a ∷ all) k good b = ap (λ (y : List Token). t.Comma ∷ y) (behind_comma a (more_commas text all k) good.0 (more_break text all k b) ∙ ap (spelling a) (others_lexed all k good.1 b))

  -- where the first member may begin with a Hollerith text, and where it may not
  pub some_lexed : (opens : Bool) → IsLexed text spelling Good opens → (all : List A) (k : List ℕ) → AreSome Good all → IsBreak k → lexed (Clear opens) (commas text all k) ≡ spell_some spelling all (lexed (Clear false) k)
  some_lexed opens first [] k good b = absurd good
  some_lexed opens first (a ∷ all) k good b = first a (more_commas text all k) good.0 (more_break text all k b) ∙ ap (spelling a) (others_lexed all k good.1 b)

pub all_same : (r : Option Halves) → r ≡ fronted (λ y. y) r
all_same None = refl
all_same (Some h) = refl

-- where no member is cut, no list is
pub cut_some : {A : Type 0} (p : Token → Bool) → p t.Comma ≡ false → (spelling : A → List Token → List Token) → ((a : A) (k : List Token) → cut p 0 (spelling a k) ≡ fronted (spelling a) (cut p 0 k)) → (all : List A) (k : List Token)
    → cut p 0 (spell_some spelling all k) ≡ fronted (spell_some spelling all) (cut p 0 k)
cut_some p no_comma spelling one [] k = all_same (cut p 0 k)
cut_some p no_comma spelling one (a ∷ all) k = cut_members p no_comma spelling one a all k

module _ {A : Type 0} (f : List Token → Option A) (spelling : A → List Token → List Token) (Good : A → Type 0) (member : (a : A) → Good a → IsMember is_comma f spelling a) where
  members : (all : List A) → AllByRecursion Good all → AllByRecursion (IsMember is_comma f spelling) all
  members [] good = tt
  members (a ∷ all) good = (member a good.0, members all good.1)

  -- where each member is read, the list is
  pub some_read : (all : List A) → AreSome Good all → list_of f is_comma (spell_some spelling all []) ≡ Some all
  some_read [] good = absurd good
  some_read (a ∷ all) good = list_spelled is_comma t.Comma refl f spelling a all (member a good.0) (members all good.1)

module _ {A : Type 0} (spelling : A → List Token → List Token) (Good : A → Type 0) (member : (a : A) (k : List Token) → Good a → AreKnown k → AreKnown (spelling a k)) where
  pub others_known : (all : List A) (k : List Token) → AllByRecursion Good all → AreKnown k → AreKnown (spell_others spelling t.Comma all k)
  others_known [] k good known = known
  others_known (a ∷ all) k good known = member a (spell_others spelling t.Comma all k) good.0 (others_known all k good.1 known)

  pub some_known : (all : List A) (k : List Token) → AreSome Good all → AreKnown k → AreKnown (spell_some spelling all k)
  some_known [] k good known = absurd good
  some_known (a ∷ all) k good known = member a (spell_others spelling t.Comma all k) good.0 (others_known all k good.1 known)
