-- A token of which something is known, where it stands.
use Rattle.std.proofs.Common.{◌≡◌, List, [], ◌∷◌, ◌⊎◌, inl, inr, refl, sym, subst}
use Rattle.ground.specs.declared.place.Place.{Place}
use Rattle.ground.specs.declared.token.Token.{Token}
use Rattle.ground.specs.declared.token.TokenKind.{TokenKind}
use Rattle.ground.specs.declared.token.TokenKind.TheVariants as kinds
use Rattle.ground.specs.declared.token.Sign.{Sign as ASign}
use Rattle.f66_tree.specs.Syntax.{Text}
use Rattle.rat_grammar.specs.Tokens.{Tokens, token, One, one, capitals, Word, word, place_at, here, there, Sign, OneOf}

-- a token of a kind of which this holds
pub data Known (Is : TokenKind → Type 0) : Tokens → Tokens → Token → Type 0 where
  known : {y : Token} {ts : Tokens} → Is y.kind → Known Is (y ∷ ts) ts y

pub place_of : {Is : TokenKind → Type 0} {a b : Tokens} {y : Token} → Known Is a b y → y.place ≡ place_at a
place_of (known h) = refl

-- ---- one kind, or one of two ----

abbrev pub IsSign : ASign → TokenKind → Type 0
IsSign s k = k ≡ kinds.Sign s

pub data Exact (k : TokenKind) : Tokens → Tokens → Token → Type 0 where
  exact : {p : Place} {ts : Tokens} → Exact k (token k p ∷ ts) ts (token k p)

pub exactly : {k : TokenKind} {a b : Tokens} {y : Token} → Known (λ i. i ≡ k) a b y → Exact k a b y
exactly {k} (known {y = y} {ts = ts} h) = subst (λ j. Exact k (token j y.place ∷ ts) ts (token j y.place)) (sym h) exact

pub sole : {k : TokenKind} {a b : Tokens} {y : Token} → Known (λ i. i ≡ k) a b y → One k a b
sole {k} (known {y = y} {ts = ts} h) = subst (λ j. One k (token j y.place ∷ ts) ts) (sym h) one

pub data Either (j k : TokenKind) (a b : Tokens) (y : Token) : Type 0 where
  first : Exact j a b y → Either j k a b y
  second : Exact k a b y → Either j k a b y

pub either : {j k : TokenKind} {a b : Tokens} {y : Token} → Known (λ i. (i ≡ j) ⊎ (i ≡ k)) a b y → Either j k a b y
either (known (inl h)) = first (exactly (known h))
either (known (inr h)) = second (exactly (known h))

-- ---- a word, or one of two ----

abbrev pub IsWord : Text → TokenKind → Type 0
IsWord x k = (w : Text) × (k ≡ kinds.Word w) × (capitals w ≡ x)

pub word_of : {x : Text} {a b : Tokens} {y : Token} → Known (IsWord x) a b y → Word x a b
word_of {x} (known {y = y} {ts = ts} h) = subst (λ j. Word x (token j y.place ∷ ts) ts) (sym h.1) (word h.2)

pub data Spelled (x : Text) : Tokens → Tokens → Token → Type 0 where
  spelled : {w : Text} {p : Place} {ts : Tokens} → capitals w ≡ x → Spelled x (token (kinds.Word w) p ∷ ts) ts (token (kinds.Word w) p)

pub spelling : {x : Text} {a b : Tokens} {y : Token} → Known (IsWord x) a b y → Spelled x a b y
spelling {x} (known {y = y} {ts = ts} h) = subst (λ j. Spelled x (token j y.place ∷ ts) ts (token j y.place)) (sym h.1) (spelled h.2)

pub data Choice (x z : Text) (a b : Tokens) (y : Token) : Type 0 where
  this : Spelled x a b y → Choice x z a b y
  that : Spelled z a b y → Choice x z a b y

pub choice : {x z : Text} {a b : Tokens} {y : Token} → Known (λ i. IsWord x i ⊎ IsWord z i) a b y → Choice x z a b y
choice (known (inl h)) = this (spelling (known h))
choice (known (inr h)) = that (spelling (known h))

-- ---- one of some signs ----

-- this holds of each sign and what stands beside it
abbrev pub EachSign : {A : Type 0} → (ASign → A → Type 0) → List (ASign × A) → Type 0
EachSign P [] = Unit {0}
EachSign P (c ∷ cs) = P c.0 c.1 × EachSign P cs

-- so it holds of the one that stands here
pub data SignHere {A : Type 0} (P : ASign → A → Type 0) : Tokens → Tokens → A → Type 0 where
  stands : {s : ASign} {x : A} {a b : Tokens} → Sign s a b → P s x → SignHere P a b x

pub sign_here : {A : Type 0} (P : ASign → A → Type 0) {choices : List (ASign × A)} {a b : Tokens} {x : A} → OneOf choices a b x → EachSign P choices → SignHere P a b x
sign_here P (here q) each = stands q each.0
sign_here P (there q) each = sign_here P q each.1
