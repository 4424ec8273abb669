-- What is known of the names of a unit: each is of one class alone, variables and functions have types, and the header and the type
-- statements are of such names.
use Rattle.std.specs.Prelude.{◌≡◌, ◌⊎◌, ◌<◌, true, false, List, [], ◌∷◌, map, length, Option, Some, None, ⊤}
use Rattle.std.specs.List.{All}
use Rattle.std.specs.Str.{bytes_eq}
use Rattle.ground.specs.declared.value.Kind.{Kind}
use Rattle.ground.specs.declared.value.Kind.TheVariants.{Integer, Logical}
use Rattle.rule_table.specs.Words.{repeats}
use Rattle.f66_tree.specs.declared.declaration.TypeWord.{TypeWord}
use Rattle.f66_tree.specs.declared.declaration.TypeWord.TheVariants as words
use Rattle.f66_tree.specs.Syntax.{Text, Declared, Header, MainUnit, SubUnit, FuncUnit, Act, Typed, Line}
use Rattle.f66_tree.specs.Units.{Context, kind_of}
use Rattle.f66_tree.specs.Evaluation.{Intrinsic, AnIntrinsic, sort_of}
use Rattle.f66_names.specs.declared.name_form.NameForm.TheVariants as forms
use Rattle.f66_names.specs.Declaring.{typed_in}
use Rattle.f66_names.specs.NameRules.{is_long}
use Rattle.f66_names.specs.Shapes.{is_name}
use Rattle.f66_names.specs.Sorts.{name_form, is_real_by_letter}
use Rattle.unit_rules.specs.declared.roles.Role.{Role}
use Rattle.unit_rules.specs.declared.roles.Role.TheVariants.{Variable}
use Rattle.unit_rules.specs.Heads.{is_settled}
use Rattle.unit_rules.specs.Roles.{role_held}
use Rattle.plain_units.specs.Plain.{name_of}

abbrev pub word_of : Kind → TypeWord
word_of Integer = words.Integer
word_of Logical = words.Logical

-- a name of the grammar with six characters at most
pub record IsShort (x : Text) : Type 0 where
  pub name : is_name x ≡ true
  pub short : is_long x ≡ false

-- a name that is no array's and no intrinsic function's, with a type of its own
pub record IsTyped (c : Context) (x : Text) (k : Kind) : Type 0 where
  pub text : IsShort x
  pub form : name_form c x ≡ forms.Plain
  pub kind : kind_of c x ≡ k
  pub declared : is_real_by_letter c x ≡ false

-- no class, or that of variables
abbrev pub IsVariable : Option Role → Type 0
IsVariable None = ⊤
IsVariable (Some r) = r ≡ Variable

pub record IsCalled (c : Context) (x : Text) : Type 0 where
  pub text : IsShort x
  pub form : name_form c x ≡ forms.Plain
  pub held : role_held c.header x ≡ None

pub record IsKnown (c : Context) (g : Intrinsic) : Type 0 where
  pub sort : sort_of c (name_of g) ≡ AnIntrinsic g
  pub kind : kind_of c (name_of g) ≡ Integer
  pub declared : is_real_by_letter c (name_of g) ≡ false
  pub held : role_held c.header (name_of g) ≡ None

module _ (V F : Text → Kind → Type 0) (S : Text → Type 0) where
  pub record AreKnown (c : Context) : Type 0 where
    pub variables : (x : Text) (k : Kind) → V x k → IsTyped c x k × IsVariable (role_held c.header x)
    pub functions : (x : Text) (k : Kind) → F x k → IsTyped c x k × (role_held c.header x ≡ None)
    pub called : (x : Text) → S x → IsCalled c x
    pub intrinsics : (g : Intrinsic) → IsKnown c g
    pub no_function : (x y : Text) (k j : Kind) → V x k → F y j → bytes_eq x y ≡ false
    pub no_variable : (x y : Text) (k : Kind) → V x k → S y → bytes_eq x y ≡ false
    pub no_value : (x y : Text) (k : Kind) → F x k → S y → bytes_eq x y ≡ false

  -- ---- headers ----

  abbrev pub AreDummies : List Text → Type 0
  AreDummies [] = ⊤
  AreDummies (x ∷ xs) = ((k : Kind) × V x k) × AreDummies xs

  abbrev pub IsPlainHeader : Header → Type 0
  IsPlainHeader MainUnit = ⊤
  IsPlainHeader (SubUnit x ds) = IsShort x × (repeats (x ∷ ds) ≡ false) × AreDummies ds
  IsPlainHeader (FuncUnit (Some t) x ds) = ((k : Kind) × (t ≡ word_of k) × V x k) × (0 < length ds) × (repeats (x ∷ ds) ≡ false) × AreDummies ds
  IsPlainHeader h = ⊥

  -- ---- type statements ----

  -- a variable or function of this type without dimensions, which does not stand for the unit itself
  pub record IsGiven (h : Header) (k : Kind) (d : Declared) : Type 0 where
    pub is : V d.name k ⊎ F d.name k
    pub sizes : d.sizes ≡ []
    pub other : is_settled h d.name ≡ false

  abbrev pub IsTyping : Header → Act → Type 0
  IsTyping h (Typed t ds) = (k : Kind) × (t ≡ word_of k) × (0 < length ds) × All (λ d. IsGiven h k d) ds
  IsTyping h a = ⊥

  pub record IsHead (h : Header) (s : Line) : Type 0 where
    pub label : s.label ≡ None
    pub typing : IsTyping h s.act

abbrev pub typed_names : Line → List Text
typed_names s = map (λ d. d.name) (typed_in s.act)
