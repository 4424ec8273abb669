-- What stands in memory stays there while types are made.
use Rattle.std.proofs.Common.{◌≡◌, ℕ, List, [], ◌∷◌, Option, Some, None, refl, sym, subst}
use Rattle.std.specs.List.{slice_get}
use Rattle.efl_tree.specs.declared.declaration.EflBound.{EflBound}
use Rattle.efl_scope.specs.DataTypes.{DataType, Scalar, Structured, Array, NoType, Members, NoMember, AndMember}
use Rattle.efl_scope.specs.Scopes.{Meaning, IsVariable, IsStructure, meaning, in_block}
use Rattle.efl_scope.specs.Scopes as scopes
use Rattle.efl_scoped.specs.Told.{Tells}
use Rattle.efl_scoped.specs.Seen.{table_of}
use Rattle.efl_scoped.proofs.WordLemmas.{grows_same, grows_on}
use Rattle.efl_scoped.proofs.MemberLemmas.{tells_later}
use Rattle.efl_expressions.specs.declared.types.DataType as types
use Rattle.efl_expressions.specs.declared.types.Element.{Element}
use Rattle.efl_expressions.specs.declared.types.Element.TheVariants as elements
use Rattle.efl_expressions.specs.declared.types.Structure.{Structure}
use Rattle.efl_expressions.specs.declared.types.Member.{Member}
use Rattle.efl_expressions.specs.declared.names.Meaning as meanings
use Rattle.efl_expressions.specs.declared.names.Meaning.TheVariants as meant
use Rattle.efl_expressions.specs.declared.names.Block.{Block}
use Rattle.efl_expressions.specs.declared.names.Blocks.{Blocks}
use Rattle.efl_expressions.specs.TypeViews.{IsThere, Is}
use Rattle.efl_expressions.specs.NameViews.{entry_in, meaning_in, IsMeaningIfAny, Know}
use Rattle.efl_blocks.specs.declared.types.Types.{Types}
use Rattle.efl_blocks.specs.Within.{IsIn, AreIn, Later, Within}

pub later_same : (y : Types) → Later y y
later_same y = record { grows = grows_same (table_of y.numbers); kept = λ i s is. is }

pub later_on : (x y z : Types) → Later x y → Later y z → Later x z
later_on x y z one two = record {
  grows = grows_on (table_of x.numbers) (table_of y.numbers) (table_of z.numbers) one.grows two.grows;
  kept = λ i s is. two.kept i s (one.kept i s is);
}

-- ---- types ----

module _ (y z : Types) (more : Later y z) where
  there_later : (ms : Members) (i : ℕ) → ((all : List Member) → AreIn y ms all → AreIn z ms all) → (o : Option Structure) → slice_get y.structures.list.items i ≡ o →
      IsThere (λ s. Tells (table_of y.numbers) (Structured ms) s.summary × AreIn y ms s.members.items) o →
      IsThere (λ s. Tells (table_of z.numbers) (Structured ms) s.summary × AreIn z ms s.members.items) (slice_get z.structures.list.items i)
  there_later ms i each None is it = absurd it
  there_later ms i each (Some s) is it =
      subst (IsThere (λ r. Tells (table_of z.numbers) (Structured ms) r.summary × AreIn z ms r.members.items)) (sym (more.kept i s is))
      (tells_later (table_of y.numbers) (table_of z.numbers) (Structured ms) s.summary more.grows it.0, each s.members.items it.1)

  mutual
    pub is_later : (t : DataType) (cs : List EflBound) (e : Element) → Is (table_of y.numbers) y.structures.list.items t cs e → Is (table_of z.numbers) z.structures.list.items t cs e
    is_later (Array bs t) cs e made = (made.0, made.1, is_later t [] e made.2)
    is_later (Scalar k) cs e made = made
    is_later NoType cs e made = made
    is_later (Structured ms) cs (elements.Structured i) made = (made.0, there_later ms i (λ all made. members_later ms all made) (slice_get y.structures.list.items i) refl made.1)
    is_later (Structured ms) cs elements.NoType made = absurd made
    is_later (Structured ms) cs (elements.Scalar k) made = absurd made

    pub members_later : (ms : Members) (all : List Member) → AreIn y ms all → AreIn z ms all
    members_later NoMember [] made = tt
    members_later NoMember (m ∷ all) made = absurd made
    members_later (AndMember x t ms) [] made = absurd made
    members_later (AndMember x t ms) (m ∷ all) made = (
      made.0,
      is_later t m.kind.bounds.now m.kind.element made.1,
      tells_later (table_of y.numbers) (table_of z.numbers) t m.kind.summary more.grows made.2,
      members_later ms all made.3,
    )

  pub type_later : (t : DataType) (d : types.DataType) → IsIn y t d → IsIn z t d
  type_later t d made = record {
    made = is_later t d.bounds.now d.element made.made;
    told = tells_later (table_of y.numbers) (table_of z.numbers) t d.summary more.grows made.told;
  }

  -- ---- names ----

  pub meaning_later : (n : Option Meaning) (o : Option meanings.Meaning) →
      IsMeaningIfAny (table_of y.numbers) y.structures.list.items n o → IsMeaningIfAny (table_of z.numbers) z.structures.list.items n o
  meaning_later None None is = tt
  meaning_later (Some (IsVariable v)) (Some (meant.Variable d)) is = type_later v.kind d is
  meaning_later (Some (IsStructure ms)) (Some (meant.Structure d)) is = type_later (Structured ms) d is
  meaning_later (Some (IsVariable v)) (Some (meant.Structure d)) is = absurd is
  meaning_later (Some (IsStructure ms)) (Some (meant.Variable d)) is = absurd is
  meaning_later None (Some o) is = absurd is
  meaning_later (Some n) None is = absurd is

  pub know_later : (bs : scopes.Blocks) (blocks : Blocks) → Know (table_of y.numbers) y.structures.list.items bs blocks → Know (table_of z.numbers) z.structures.list.items bs blocks
  know_later bs blocks known x = meaning_later (meaning bs x) (meaning_in blocks x) (known x)

  pub within_later : (bs : scopes.Blocks) (block : Block) (beyond : Blocks) → Within y bs block beyond → Within z bs block beyond
  within_later [] block beyond is = absurd is
  within_later (b ∷ bs) block beyond is = (λ x. meaning_later (in_block x b) (entry_in block x) (is.0 x), know_later bs beyond is.1)
