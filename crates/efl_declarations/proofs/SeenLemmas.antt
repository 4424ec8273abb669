-- The first fault of groups, group by group, with the types that are made.
use Rattle.std.proofs.Common.{◌≡◌, ℕ, List, [], Option, Some, None, refl, sym, ap, subst, ◌∙◌}
use Rattle.std.specs.Option.{option_or}
use Rattle.ground.specs.declared.fault.Fault.{Fault}
use Rattle.ground.specs.declared.place.Place.{Place}
use Rattle.efl_tree.specs.Syntax.{Text, EflVar, EflType, Shape, EflGroups, NoGroup, AndGroup, EflPreset, Implicit, Initial, Variables, Area, Structure}
use Rattle.efl_scope.specs.DataTypes.{DataType}
use Rattle.efl_scope.specs.Scopes.{data_type, behind, behind_groups}
use Rattle.efl_scope.specs.Scopes as scopes
use Rattle.efl_scope.proofs.WalkLemmas.{option_or_assoc}
use Rattle.efl_scoped.specs.Told.{Tells}
use Rattle.efl_scoped.specs.Seen.{table_of}
use Rattle.efl_types.specs.declared.rule.TypeRule.{TypeRule}
use Rattle.efl_types.specs.Declarations.{variable_sizes}
use Rattle.efl_expressions.specs.declared.types.DataType as types
use Rattle.efl_expressions.specs.declared.names.Block.{Block}
use Rattle.efl_expressions.specs.declared.names.Blocks.{Blocks}
use Rattle.efl_expressions.specs.NameViews.{entry_in}
use Rattle.efl_expressions.specs.FirstRule.{first_rule}
use Rattle.efl_blocks.specs.declared.types.Types.{Types}
use Rattle.efl_blocks.specs.Within.{Later, Within, learned_if}
use Rattle.efl_blocks.specs.Made.{MakesType}
use Rattle.efl_blocks.proofs.LaterLemmas.{later_same, later_on, type_later, within_later}
use Rattle.efl_blocks.proofs.ShapeLemmas.{shape_made}
use Rattle.efl_declarations.specs.declared.types.Seen.{Seen}
use Rattle.efl_reading.specs.Reading.{fault_at}
use Rattle.efl_declarations.specs.GroupFaults.{sizes_fault, type_fault, groups_fault}
use Rattle.efl_declarations.specs.Sees.{SeesType, SeesStructure, SeesSizes, SeesList, SeesGroups, SeesNamed, SeesDeclaration}

-- ---- types ----

pub shape_seen : (y z : Types) (before between after : Block) (beyond : Blocks) (o : Option Text) (gs : EflGroups) (s : Seen) → SeesStructure y before beyond gs z between s →
    ((x : Text) → entry_in after x ≡ learned_if o x s.kind (entry_in between x)) → SeesType y before beyond (Shape o gs) z after s
shape_seen y z before between after beyond o gs s seen comes = record {
  made = shape_made y z before between after beyond o gs s.kind seen.made comes;
  tells = seen.tells;
}

-- ---- variables ----

pub sizes_seen : (y z : Types) (p : Place) (formals : List Text) (s : Seen) (vs : List EflVar) (rule : Option TypeRule) (own f : Option Fault) → Later y z →
    ((t : DataType) → Tells (table_of y.numbers) t s.kind.summary → rule ≡ first_rule (variable_sizes formals t vs)) → own ≡ fault_at p rule → f ≡ option_or own s.fault →
    SeesSizes y p formals s vs z f
sizes_seen y z p formals s vs rule own f later first told is = record {
  later = later;
  tells = λ t made. is ∙ ap (λ o. option_or o s.fault) (told ∙ ap (fault_at p) (first t made.told));
}

pub list_seen : (y z w : Types) (before after : Block) (beyond : Blocks) (p : Place) (formals : List Text) (t : EflType) (vs : List EflVar) (s : Seen) (f : Option Fault) →
    SeesType y before beyond t z after s → SeesSizes z p formals s vs w f → SeesList y before beyond p formals t vs w after f
list_seen y z w before after beyond p formals t vs s f seen sized = record {
  later = later_on y z w seen.made.later sized.later;
  knows = λ bs is. within_later z w sized.later (behind bs t) after beyond (seen.made.knows bs is);
  tells = λ bs is. sized.tells (data_type bs t) (seen.made.makes bs is) ∙ ap (option_or (sizes_fault p formals (data_type bs t) vs)) (seen.tells bs is);
}

-- what was seen of a type and of variables, where more types are made
pub made_later : (y z w : Types) (before after : Block) (beyond : Blocks) (t : EflType) (d : types.DataType) → MakesType y before beyond t z after d → Later z w →
    MakesType y before beyond t w after d
made_later y z w before after beyond t d made more = record {
  later = later_on y z w made.later more;
  makes = λ bs is. type_later z w more (data_type bs t) d (made.makes bs is);
  knows = λ bs is. within_later z w more (behind bs t) after beyond (made.knows bs is);
}

pub list_later : (y z w : Types) (before after : Block) (beyond : Blocks) (p : Place) (formals : List Text) (t : EflType) (vs : List EflVar) (f : Option Fault) →
    SeesList y before beyond p formals t vs z after f → Later z w → SeesList y before beyond p formals t vs w after f
list_later y z w before after beyond p formals t vs f seen more = record {
  later = later_on y z w seen.later more;
  knows = λ bs is. within_later z w more (behind bs t) after beyond (seen.knows bs is);
  tells = seen.tells;
}

-- ---- groups ----

-- the first fault of the groups before, among the blocks that are now
pub record FaultsAt (gs : EflGroups) (bs : scopes.Blocks) (z : Types) (after : Block) (beyond : Blocks) (rest : EflGroups) (f : Option Fault) : Type 0 where
  pub now : scopes.Blocks
  pub knows : Within z now after beyond
  pub ahead : behind_groups bs gs ≡ behind_groups now rest
  pub tells : groups_fault bs gs ≡ option_or f (groups_fault now rest)

pub record FaultsLeft (y : Types) (before : Block) (beyond : Blocks) (gs : EflGroups) (z : Types) (after : Block) (rest : EflGroups) (f : Option Fault) : Type 0 where
  pub later : Later y z
  pub left : (bs : scopes.Blocks) → Within y bs before beyond → FaultsAt gs bs z after beyond rest f

pub faults_begun : (y : Types) (block : Block) (beyond : Blocks) (gs : EflGroups) → FaultsLeft y block beyond gs y block gs None
faults_begun y block beyond gs = record { later = later_same y; left = λ bs is. record { now = bs; knows = is; ahead = refl; tells = refl } }

first_of_four : (f own inner more rest : Option Fault) → more ≡ option_or own inner → option_or f (option_or own (option_or inner rest)) ≡ option_or (option_or f more) rest
first_of_four f own inner more rest is =
    ap (option_or f) (option_or_assoc own inner rest) ∙ option_or_assoc f (option_or own inner) rest ∙ ap (λ o. option_or (option_or f o) rest) (sym is)

pub fault_passed : (y z w : Types) (before between after : Block) (beyond : Blocks) (gs : EflGroups) (t : EflType) (vs : List EflVar) (p : Place) (rest : EflGroups) (f more : Option Fault) →
    FaultsLeft y before beyond gs z between (AndGroup t vs p rest) f → SeesList z between beyond p [] t vs w after more → FaultsLeft y before beyond gs w after rest (option_or f more)
fault_passed y z w before between after beyond gs t vs p rest f more passed seen = record {
  later = later_on y z w passed.later seen.later;
  left = λ bs is.
      let at = passed.left bs is in
      record {
        now = behind at.now t;
        knows = seen.knows at.now at.knows;
        ahead = at.ahead;
        tells = at.tells ∙ first_of_four f (sizes_fault p [] (data_type at.now t) vs) (type_fault at.now t) more (groups_fault (behind at.now t) rest) (seen.tells at.now at.knows);
      };
}

or_none : (f : Option Fault) → option_or f None ≡ f
or_none None = refl
or_none (Some f) = refl

pub faults_told : (y z : Types) (before after : Block) (beyond : Blocks) (gs : EflGroups) (f : Option Fault) → FaultsLeft y before beyond gs z after NoGroup f →
    (bs : scopes.Blocks) → Within y bs before beyond → f ≡ groups_fault bs gs
faults_told y z before after beyond gs f all bs is = sym ((all.left bs is).tells ∙ or_none f)

pub groups_seen : (y z : Types) (before after : Block) (beyond : Blocks) (gs : EflGroups) (f : Option Fault) → FaultsLeft y before beyond gs z after NoGroup f →
    SeesGroups y before beyond gs z after f
groups_seen y z before after beyond gs f all = record {
  later = all.later;
  knows = λ bs is. let at = all.left bs is in subst (λ cs. Within z cs after beyond) (sym at.ahead) at.knows;
  tells = faults_told y z before after beyond gs f all;
}

-- ---- declarations ----

pub implicit_seen : (y z : Types) (before after : Block) (beyond : Blocks) (p : Place) (formals : List Text) (rs : List (ℕ × ℕ)) (t : EflType) (s : Seen) → SeesType y before beyond t z after s →
    SeesDeclaration y before beyond p formals (Implicit rs t) z after s.fault
implicit_seen y z before after beyond p formals rs t s seen = record { later = seen.made.later; knows = seen.made.knows; tells = seen.tells }

pub initial_seen : (y : Types) (block : Block) (beyond : Blocks) (p : Place) (formals : List Text) (ps : List EflPreset) → SeesDeclaration y block beyond p formals (Initial ps) y block None
initial_seen y block beyond p formals ps = record { later = later_same y; knows = λ bs is. is; tells = λ bs is. refl }

pub variables_seen : (y z : Types) (before after : Block) (beyond : Blocks) (p : Place) (formals : List Text) (q : Option Text) (t : EflType) (vs : List EflVar) (f : Option Fault) →
    SeesList y before beyond p formals t vs z after f → SeesDeclaration y before beyond p formals (Variables q t vs) z after f
variables_seen y z before after beyond p formals q t vs f seen = record { later = seen.later; knows = seen.knows; tells = seen.tells }

pub area_seen : (y z : Types) (before after : Block) (beyond : Blocks) (p : Place) (formals : List Text) (q : Text) (gs : EflGroups) (f : Option Fault) →
    SeesGroups y before beyond gs z after f → SeesDeclaration y before beyond p formals (Area q gs) z after f
area_seen y z before after beyond p formals q gs f seen = record { later = seen.later; knows = seen.knows; tells = seen.tells }

pub structure_seen : (y z : Types) (before after : Block) (beyond : Blocks) (p : Place) (formals : List Text) (x : Text) (gs : EflGroups) (f : Option Fault) →
    SeesNamed y before beyond x gs z after f → SeesDeclaration y before beyond p formals (Structure x gs) z after f
structure_seen y z before after beyond p formals x gs f seen = record { later = seen.knows.later; knows = seen.knows.knows; tells = seen.tells }
