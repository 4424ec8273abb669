-- Types that texts give, as their groups come.
use Rattle.std.proofs.Common.{◌≡◌, List, [], Option, refl, sym, ap, subst, ◌∙◌}
use Rattle.ground.specs.declared.place.Place.{Place}
use Rattle.efl_tree.specs.Syntax.{Text, EflVar, EflType, Shape, EflGroups, NoGroup, AndGroup}
use Rattle.efl_scope.specs.DataTypes.{DataType, Members, NoMember}
use Rattle.efl_scope.specs.Scopes.{data_type, shape, behind, behind_groups, members_of}
use Rattle.efl_scope.specs.Scopes as scopes
use Rattle.efl_scoped.specs.declared.summaries.Summary.{Summary}
use Rattle.efl_scoped.specs.Told.{Continues}
use Rattle.efl_scoped.specs.Seen.{table_of}
use Rattle.efl_scoped.proofs.MemberLemmas.{continues_later, continues_same, continues_on}
use Rattle.efl_expressions.specs.declared.types.DataType as types
use Rattle.efl_expressions.specs.declared.types.Member.{Member}
use Rattle.efl_expressions.specs.declared.names.Block.{Block}
use Rattle.efl_expressions.specs.declared.names.Blocks.{Blocks}
use Rattle.efl_expressions.specs.NameViews.{entry_in}
use Rattle.efl_blocks.specs.declared.types.Types.{Types}
use Rattle.efl_blocks.specs.Within.{IsIn, AreIn, Later, Within, learned_if}
use Rattle.efl_blocks.specs.Made.{joined, MakesType, MakesStructure, TakesMembers, AddsStructure}
use Rattle.efl_blocks.proofs.LaterLemmas.{later_same, later_on, members_later, within_later}
use Rattle.efl_blocks.proofs.WithinLemmas.{within_learned, type_plain}
use Rattle.efl_blocks.proofs.MemberLemmas.{beginning, all_told, members_split, joined_on, joined_none}

pub plain_made : (y : Types) (block : Block) (beyond : Blocks) (t : EflType) (d : types.DataType) → ((bs : scopes.Blocks) → Within y bs block beyond → IsIn y (data_type bs t) d) →
    ((bs : scopes.Blocks) → behind bs t ≡ bs) → MakesType y block beyond t y block d
plain_made y block beyond t d made stays = record {
  later = later_same y;
  makes = made;
  knows = λ bs is. subst (λ cs. Within y cs block beyond) (sym (stays bs)) is;
}

pub shape_made : (y z : Types) (before between after : Block) (beyond : Blocks) (o : Option Text) (gs : EflGroups) (d : types.DataType) → MakesStructure y before beyond gs z between d →
    ((x : Text) → entry_in after x ≡ learned_if o x d (entry_in between x)) → MakesType y before beyond (Shape o gs) z after d
shape_made y z before between after beyond o gs d made comes = record {
  later = made.later;
  makes = made.makes;
  knows = λ bs is. within_learned z (behind_groups bs gs) between after beyond o (shape bs gs) d (made.knows bs is) (made.makes bs is) comes;
}

-- ---- groups ----

-- the groups before have come, among the blocks that are now
pub record GroupsAt (gs : EflGroups) (bs : scopes.Blocks) (z : Types) (after : Block) (beyond : Blocks) (rest : EflGroups) (all : List Member) (b : Summary) : Type 0 where
  pub now : scopes.Blocks
  pub knows : Within z now after beyond
  pub ahead : behind_groups bs gs ≡ behind_groups now rest
  pub members : Members
  pub made : AreIn z members all
  pub whole : shape bs gs ≡ joined members (shape now rest)
  pub told : Continues (table_of z.numbers) (shape bs gs) beginning (shape now rest) b

pub record GroupsLeft (y : Types) (before : Block) (beyond : Blocks) (gs : EflGroups) (z : Types) (after : Block) (rest : EflGroups) (all : List Member) (b : Summary) : Type 0 where
  pub later : Later y z
  pub left : (bs : scopes.Blocks) → Within y bs before beyond → GroupsAt gs bs z after beyond rest all b

pub groups_begun : (y : Types) (block : Block) (beyond : Blocks) (gs : EflGroups) (all : List Member) → all ≡ [] → GroupsLeft y block beyond gs y block gs all beginning
groups_begun y block beyond gs all none = record {
  later = later_same y;
  left = λ bs is. record {
    now = bs;
    knows = is;
    ahead = refl;
    members = NoMember;
    made = subst (AreIn y NoMember) (sym none) tt;
    whole = refl;
    told = continues_same (table_of y.numbers) (shape bs gs) beginning;
  };
}

pub group_passed : (y z w v : Types) (before between after : Block) (beyond : Blocks) (gs : EflGroups) (t : EflType) (vs : List EflVar) (p : Place) (rest : EflGroups) (old new : List Member)
    (b c : Summary) (d : types.DataType) → GroupsLeft y before beyond gs z between (AndGroup t vs p rest) old b → MakesType z between beyond t w after d → TakesMembers w b d vs old v c new →
    GroupsLeft y before beyond gs v after rest new c
group_passed y z w v before between after beyond gs t vs p rest old new b c d left seen took = record {
  later = later_on y w v (later_on y z w left.later seen.later) took.later;
  left = each;
}
  where
    each : (bs : scopes.Blocks) → Within y bs before beyond → GroupsAt gs bs v after beyond rest new c
    each bs is =
        let at = left.left bs is in
        let kind : DataType = data_type at.now t in
        let rest_shape : Members = shape (behind at.now t) rest in
        let made : IsIn w kind d = seen.makes at.now at.knows in
        record {
          now = behind at.now t;
          knows = within_later w v took.later (behind at.now t) after beyond (seen.knows at.now at.knows);
          ahead = at.ahead;
          members = joined at.members (members_of kind vs NoMember);
          made = took.adds kind at.members (type_plain at.now t) made (members_later z w seen.later at.members old at.made);
          whole = at.whole ∙ ap (joined at.members) (members_split kind vs rest_shape) ∙ sym (joined_on at.members (members_of kind vs NoMember) rest_shape);
          told = continues_on (table_of v.numbers) (shape bs gs) beginning (shape at.now (AndGroup t vs p rest)) b rest_shape c
              (continues_later (table_of z.numbers) (table_of v.numbers) (shape bs gs) beginning (shape at.now (AndGroup t vs p rest)) b (later_on z w v seen.later took.later).grows at.told)
              (took.tells kind rest_shape made);
        }

pub groups_ended : (y z w : Types) (before after : Block) (beyond : Blocks) (gs : EflGroups) (all : List Member) (b : Summary) (d : types.DataType) →
    GroupsLeft y before beyond gs z after NoGroup all b → AddsStructure z b all w d → MakesStructure y before beyond gs w after d
groups_ended y z w before after beyond gs all b d left added = record {
  later = later_on y z w left.later added.later;
  makes = λ bs is.
      let at = left.left bs is in
      added.makes (shape bs gs) (all_told (table_of z.numbers) (shape bs gs) b at.told) (subst (λ ms. AreIn z ms all) (sym (at.whole ∙ joined_none at.members)) at.made);
  knows = λ bs is. let at = left.left bs is in subst (λ cs. Within w cs after beyond) (sym at.ahead) (within_later z w added.later at.now after beyond at.knows);
}
