-- Structures that become known in a block.
use Rattle.std.proofs.Common.{◌≡◌, Bool, true, false, cond, List, [], ◌∷◌, ◌++◌, Option, Some, None, refl, sym, ap, subst, ◌∙◌, if◌then◌else◌}
use Rattle.std.specs.Option.{option_or}
use Rattle.std.specs.Map.{update}
use Rattle.std.specs.Str.{bytes_eq}
use Rattle.std.proofs.lemmas.Slice.Eq.{bytes_eq-Decides}
use Rattle.efl_scope.proofs.TableLemmas.{bytes_eq-turned}
use Rattle.rule_table.specs.Words.{find_map}
use Rattle.efl_tree.specs.Syntax.{Text, EflType, Integer, Logical, Real, Complex, Named, Shape}
use Rattle.efl_scope.specs.DataTypes.{Structured, Members}
use Rattle.efl_scope.specs.Scopes.{Variable, Shaped, Meaning, IsVariable, IsStructure, structure_of, variable_of, in_block, meaning, knowing, data_type, structured, shape_named}
use Rattle.efl_scope.specs.Scopes as scopes
use Rattle.efl_scoped.specs.Seen.{table_of}
use Rattle.efl_expressions.specs.declared.types.DataType as types
use Rattle.efl_expressions.specs.declared.names.Meaning as meanings
use Rattle.efl_expressions.specs.declared.names.Meaning.TheVariants as m
use Rattle.efl_expressions.specs.declared.names.Block.{Block}
use Rattle.efl_expressions.specs.declared.names.Blocks.{Blocks}
use Rattle.efl_expressions.specs.NameViews.{entry_in, meaning_in, IsMeaningIfAny}
use Rattle.efl_blocks.specs.declared.types.Types.{Types}
use Rattle.efl_blocks.specs.Within.{IsIn, IsPlain, Within, learned, learned_if, is_structure_in}

-- ---- the innermost block before those around it ----

abbrev IsMeant : Types → Option Meaning → Option meanings.Meaning → Type 0
IsMeant y n o = IsMeaningIfAny (table_of y.numbers) y.structures.list.items n o

either_meant : (y : Types) (n k : Option Meaning) (o p : Option meanings.Meaning) → IsMeant y n o → IsMeant y k p → IsMeant y (option_or n k) (option_or o p)
either_meant y None k None p one two = two
either_meant y (Some n) k (Some o) p one two = one
either_meant y None k (Some o) p one two = absurd one
either_meant y (Some n) k None p one two = absurd one

pub within_known : (y : Types) (bs : scopes.Blocks) (block : Block) (beyond : Blocks) → Within y bs block beyond →
    (x : Text) → IsMeant y (meaning bs x) (option_or (entry_in block x) (meaning_in beyond x))
within_known y [] block beyond is x = absurd is
within_known y (b ∷ bs) block beyond is x = either_meant y (in_block x b) (meaning bs x) (entry_in block x) (meaning_in beyond x) (is.0 x) (is.1 x)

-- ---- one more structure ----

or_none : {X : Type 0} (o : Option X) → option_or o None ≡ o
or_none None = refl
or_none (Some x) = refl

or_on : {X : Type 0} (a b c : Option X) → option_or (option_or a b) c ≡ option_or a (option_or b c)
or_on None b c = refl
or_on (Some x) b c = refl

more_structures : (x : Text) (ss : List Shaped) (n : Shaped) → find_map (structure_of x) (ss ++ n ∷ []) ≡ option_or (find_map (structure_of x) ss) (structure_of x n)
more_structures x [] n = or_none (structure_of x n)
more_structures x (s ∷ ss) n = ap (option_or (structure_of x s)) (more_structures x ss n) ∙ sym (or_on (structure_of x s) (find_map (structure_of x) ss) (structure_of x n))

abbrev AreStructures : Option Meaning → Type 0
AreStructures (Some (IsVariable v)) = ⊥
AreStructures _ = Unit {0}

abbrev AreVariables : Option Meaning → Type 0
AreVariables (Some (IsStructure ms)) = ⊥
AreVariables _ = Unit {0}

structures_found : (x : Text) (ss : List Shaped) → AreStructures (find_map (structure_of x) ss)
structures_found x [] = tt
structures_found x (s ∷ ss) = each (bytes_eq x s.name) (find_map (structure_of x) ss) (structures_found x ss)
  where
    each : (b : Bool) (o : Option Meaning) → AreStructures o → AreStructures (option_or (if b then Some (IsStructure s.members) else None) o)
    each true o are = tt
    each false o are = are

variables_found : (x : Text) (vs : List Variable) → AreVariables (find_map (variable_of x) vs)
variables_found x [] = tt
variables_found x (v ∷ vs) = each (bytes_eq x v.name) (find_map (variable_of x) vs) (variables_found x vs)
  where
    each : (b : Bool) (o : Option Meaning) → AreVariables o → AreVariables (option_or (if b then Some (IsVariable v) else None) o)
    each true o are = tt
    each false o are = are

one_learned : (y : Types) (s v : Option Meaning) (o : Option meanings.Meaning) (b : Bool) (ms : Members) (d : types.DataType) → AreStructures s → AreVariables v → IsIn y (Structured ms) d →
    IsMeant y (option_or s v) o → IsMeant y (option_or (option_or s (if b then Some (IsStructure ms) else None)) v) (learned b d o)
one_learned y s v o false ms d are others made is = subst (λ p. IsMeant y (option_or p v) o) (sym (or_none s)) is
one_learned y (Some (IsVariable w)) v o true ms d are others made is = absurd are
one_learned y (Some (IsStructure ns)) v (Some (m.Structure e)) true ms d are others made is = is
one_learned y (Some (IsStructure ns)) v (Some (m.Variable e)) true ms d are others made is = absurd is
one_learned y (Some (IsStructure ns)) v None true ms d are others made is = absurd is
one_learned y None (Some (IsStructure ns)) o true ms d are others made is = absurd others
one_learned y None (Some (IsVariable w)) (Some (m.Structure e)) true ms d are others made is = absurd is
one_learned y None (Some (IsVariable w)) (Some (m.Variable e)) true ms d are others made is = made
one_learned y None (Some (IsVariable w)) None true ms d are others made is = absurd is
one_learned y None None None true ms d are others made is = made
one_learned y None None (Some o) true ms d are others made is = absurd is

-- a structure becomes known, where it has a name
pub within_learned : (y : Types) (bs : scopes.Blocks) (block after : Block) (beyond : Blocks) (o : Option Text) (ms : Members) (d : types.DataType) → Within y bs block beyond →
    IsIn y (Structured ms) d → ((x : Text) → entry_in after x ≡ learned_if o x d (entry_in block x)) → Within y (knowing o ms bs) after beyond
within_learned y [] block after beyond o ms d is made comes = absurd is
within_learned y (b ∷ bs) block after beyond None ms d is made comes = (λ x. subst (IsMeant y (in_block x b)) (sym (comes x)) (is.0 x), is.1)
within_learned y (b ∷ bs) block after beyond (Some z) ms d is made comes = (each, is.1)
  where
    each : (x : Text) →
        IsMeant y (option_or (find_map (structure_of x) (b.structures ++ record { name = z; members = ms } ∷ [])) (find_map (variable_of x) b.variables)) (entry_in after x)
    each x =
        let n : Shaped = record { name = z; members = ms } in
        subst (λ p. IsMeant y (option_or p (find_map (variable_of x) b.variables)) (entry_in after x)) (sym (more_structures x b.structures n))
        (subst (IsMeant y (option_or (option_or (find_map (structure_of x) b.structures) (if bytes_eq x z then Some (IsStructure ms) else None)) (find_map (variable_of x) b.variables))) (sym (comes x))
        (one_learned y (find_map (structure_of x) b.structures) (find_map (variable_of x) b.variables) (entry_in block x) (bytes_eq x z) ms d
        (structures_found x b.structures) (variables_found x b.variables) made (is.0 x)))

-- ---- the table ----

-- a name comes, or takes the place of a variable
pub learned_now : (old new : Text → Option meanings.Meaning) (y : Text) (d : types.DataType) → is_structure_in (old y) ≡ false →
    ((q : Text) → new q ≡ update bytes_eq old y (Some (m.Structure d)) q) → (q : Text) → new q ≡ learned (bytes_eq q y) d (old q)
learned_now old new y d none is q = is q ∙ each (bytes_eq y q) (old q) absent ∙ ap (λ b. learned b d (old q)) (bytes_eq-turned y q)
  where
    absent : bytes_eq y q ≡ true → is_structure_in (old q) ≡ false
    absent same = ap (λ p. is_structure_in (old p)) ((bytes_eq-Decides q y).0 (sym (bytes_eq-turned y q) ∙ same)) ∙ none

    each : (b : Bool) (o : Option meanings.Meaning) → (b ≡ true → is_structure_in o ≡ false) → cond b (Some (m.Structure d)) o ≡ learned b d o
    each false o missing = refl
    each true None missing = refl
    each true (Some (m.Variable e)) missing = refl
    each true (Some (m.Structure e)) missing = absurd (let f : true ≡ false = missing refl in cc)

pub learned_still : (old : Text → Option meanings.Meaning) (y : Text) (d : types.DataType) → is_structure_in (old y) ≡ true → (q : Text) → old q ≡ learned (bytes_eq q y) d (old q)
learned_still old y d there q = each (bytes_eq q y) (old q) (λ same. ap (λ p. is_structure_in (old p)) ((bytes_eq-Decides q y).0 same) ∙ there)
  where
    each : (b : Bool) (o : Option meanings.Meaning) → (b ≡ true → is_structure_in o ≡ true) → o ≡ learned b d o
    each false o is = refl
    each true (Some (m.Structure e)) is = refl
    each true None is = absurd (let f : false ≡ true = is refl in cc)
    each true (Some (m.Variable e)) is = absurd (let f : false ≡ true = is refl in cc)

-- ---- types of texts ----

structured_plain : (o : Option Members) → IsPlain (structured o)
structured_plain None = tt
structured_plain (Some ms) = tt

pub type_plain : (bs : scopes.Blocks) (t : EflType) → IsPlain (data_type bs t)
type_plain bs Integer = tt
type_plain bs Logical = tt
type_plain bs (Real b) = tt
type_plain bs (Complex b) = tt
type_plain bs (Named x) = structured_plain (shape_named bs x)
type_plain bs (Shape o gs) = tt
