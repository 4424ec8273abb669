-- What is told of structures, as types come.
use Rattle.std.proofs.Common.{◌≡◌, cond, is_some, ◌≤◌, ◌+◌, Bool, true, false, ◌&&◌, List, [], ◌∷◌, ◌++◌, length, Option, Some, None, refl, sym, ap, subst, ◌∙◌, arith, if◌then◌else◌}
use Rattle.std.specs.Option.{option_map, option_or}
use Rattle.std.specs.Str.{bytes_eq}
use Rattle.std.specs.Map.{update}
use Rattle.std.proofs.lemmas.Slice.Eq.{bytes_eq-Decides}
use Rattle.efl_scope.proofs.TableLemmas.{bytes_eq-turned}
use Rattle.rule_table.specs.Words.{find_map}
use Rattle.ground.specs.declared.place.Place.{Place}
use Rattle.efl_tree.specs.Syntax.{Text, EflVar, EflType, Shape, EflGroups, NoGroup, AndGroup, EflDecl}
use Rattle.efl_scope.specs.DataTypes.{Structured, NoType, Members, NoMember, are_sound, all_places}
use Rattle.efl_scope.specs.Scopes.{Blocks, Block, Shaped, Variable, Meaning, IsStructure, IsVariable, structure_of, variable_of, members_if, shape_named, structured, naming, knowing, data_type, shape, behind, behind_groups}
use Rattle.efl_scoped.specs.declared.summaries.Summary.{Summary}
use Rattle.efl_scoped.specs.declared.shapes.Shapes.{Shapes}
use Rattle.efl_scoped.specs.Numbers.{Table, Grows}
use Rattle.efl_scoped.specs.Told.{capped, Tells, Continues, TellsIfAny, Knows, shape_in, shape_if}
use Rattle.efl_scoped.specs.Seen.{SeesType, SeesGroups, AddsMembers}
use Rattle.efl_scoped.proofs.WordLemmas.{grows_same, grows_on}
use Rattle.efl_scoped.proofs.MemberLemmas.{tells_later, continues_later, continues_on, continues_same}

-- ---- the structures of one block ----

abbrev named_in : Text → Shaped → Option Members
named_in x s = if bytes_eq x s.name then Some s.members else None

or_none : {X : Type 0} (o : Option X) → option_or o None ≡ o
or_none None = refl
or_none (Some x) = refl

or_on : {X : Type 0} (a b c : Option X) → option_or (option_or a b) c ≡ option_or a (option_or b c)
or_on None b c = refl
or_on (Some x) b c = refl

structures_are : (x : Text) (ss : List Shaped) → find_map (structure_of x) ss ≡ option_map IsStructure (find_map (named_in x) ss)
structures_are x [] = refl
structures_are x (s ∷ ss) = each (bytes_eq x s.name) (find_map (structure_of x) ss) (find_map (named_in x) ss) (structures_are x ss)
  where
    each : (b : Bool) (o : Option Meaning) (p : Option Members) → o ≡ option_map IsStructure p →
        option_or (if b then Some (IsStructure s.members) else None) o ≡ option_map IsStructure (option_or (if b then Some s.members else None) p)
    each true o p is = refl
    each false o p is = is

variables_are : (x : Text) (vs : List Variable) → members_if (find_map (variable_of x) vs) ≡ None
variables_are x [] = refl
variables_are x (v ∷ vs) = each (bytes_eq x v.name) (find_map (variable_of x) vs) (variables_are x vs)
  where
    each : (b : Bool) (o : Option Meaning) → members_if o ≡ None → members_if (option_or (if b then Some (IsVariable v) else None) o) ≡ None
    each true o none = refl
    each false o none = none

block_shape : (x : Text) (b : Block) → shape_named (b ∷ []) x ≡ find_map (named_in x) b.structures
block_shape x b = each (find_map (structure_of x) b.structures) (find_map (named_in x) b.structures) (find_map (variable_of x) b.variables) (structures_are x b.structures) (variables_are x b.variables)
  where
    last : (v : Option Meaning) → members_if v ≡ None → members_if (option_or v None) ≡ None
    last None none = refl
    last (Some m) none = none

    each : (o : Option Meaning) (p : Option Members) (v : Option Meaning) → o ≡ option_map IsStructure p → members_if v ≡ None → members_if (option_or (option_or o v) None) ≡ p
    each o (Some ms) v is none = ap (λ q. members_if (option_or (option_or q v) None)) is
    each o None v is none = ap (λ q. members_if (option_or (option_or q v) None)) is ∙ last v none

one_more : (x : Text) (ss : List Shaped) (n : Shaped) → find_map (named_in x) (ss ++ n ∷ []) ≡ option_or (find_map (named_in x) ss) (named_in x n)
one_more x [] n = or_none (named_in x n)
one_more x (s ∷ ss) n = ap (option_or (named_in x s)) (one_more x ss n) ∙ sym (or_on (named_in x s) (find_map (named_in x) ss) (named_in x n))

-- ---- structures that become known ----

pub if_any_later : (f g : Table) (o : Option Members) (p : Option Summary) → Grows f g → TellsIfAny f o p → TellsIfAny g o p
if_any_later f g None None grows told = told
if_any_later f g (Some ms) (Some s) grows told = tells_later f g (Structured ms) s grows told
if_any_later f g None (Some s) grows told = absurd told
if_any_later f g (Some ms) None grows told = absurd told

pub knows_later : (f g : Table) (known : Shapes) (bs : Blocks) → Grows f g → Knows f known bs → Knows g known bs
knows_later f g known bs grows k = record { alone = k.alone; named = λ x. if_any_later f g (shape_named bs x) (shape_in known x) grows (k.named x) }

more_told : (g : Table) (o : Option Members) (p : Option Summary) (b : Bool) (ms : Members) (s : Summary) → TellsIfAny g o p → Tells g (Structured ms) s →
    TellsIfAny g (option_or o (if b then Some ms else None)) (option_or p (if b then Some s else None))
more_told g None None true ms s was told = told
more_told g None None false ms s was told = tt
more_told g (Some m) (Some r) b ms s was told = was
more_told g None (Some r) b ms s was told = absurd was
more_told g (Some m) None b ms s was told = absurd was

abbrev pub Comes : Shapes → Option Text → Summary → Shapes → Type 0
Comes known o s after = (x : Text) → shape_in after x ≡ option_or (shape_in known x) (shape_if o s x)

pub none_there : {X : Type 0} (o : Option X) → is_some o ≡ false → None ≡ o
none_there None is = refl
none_there (Some x) is = absurd cc

-- a name comes that was not known
pub comes_now : (known after : Shapes) (y : Text) (s : Summary) → None ≡ shape_in known y → ((q : Text) → shape_in after q ≡ update bytes_eq (shape_in known) y (Some s) q) →
    Comes known (Some y) s after
comes_now known after y s none is q = is q ∙ each (bytes_eq y q) (shape_in known q) absent ∙ ap (λ b. option_or (shape_in known q) (if b then Some s else None)) (bytes_eq-turned y q)
  where
    absent : bytes_eq y q ≡ true → shape_in known q ≡ None
    absent same = ap (shape_in known) ((bytes_eq-Decides q y).0 (sym (bytes_eq-turned y q) ∙ same)) ∙ sym none

    each : (b : Bool) (o : Option Summary) → (b ≡ true → o ≡ None) → cond b (Some s) o ≡ option_or o (if b then Some s else None)
    each true o missing = sym (ap (λ p. option_or p (Some s)) (missing refl))
    each false o missing = sym (or_none o)

-- a name that is not known gives no type
pub none_named : (f : Table) (known : Shapes) (bs : Blocks) (x : Text) (s : Summary) → Knows f known bs → None ≡ shape_in known x → Tells f NoType s → Tells f (structured (shape_named bs x)) s
none_named f known bs x s k none told = each (shape_named bs x) (subst (TellsIfAny f (shape_named bs x)) (sym none) (k.named x))
  where
    each : (o : Option Members) → TellsIfAny f o None → Tells f (structured o) s
    each None was = told
    each (Some ms) was = absurd was

pub knows_named : (g : Table) (known after : Shapes) (bs : Blocks) (o : Option Text) (ms : Members) (s : Summary) → Knows g known bs → Tells g (Structured ms) s → Comes known o s after →
    Knows g after (knowing o ms bs)
knows_named g known after bs None ms s k told comes = record {
  alone = k.alone;
  named = λ x. subst (TellsIfAny g (shape_named bs x)) (sym (comes x ∙ or_none (shape_in known x))) (k.named x);
}
knows_named g known after [] (Some y) ms s k told comes = absurd (let e : 0 ≡ 1 = k.alone in omega (arith, e))
knows_named g known after (b ∷ c ∷ bs) (Some y) ms s k told comes = absurd (let e : length (b ∷ c ∷ bs) ≡ 1 = k.alone in grind (arith, e))
knows_named g known after (b ∷ []) (Some y) ms s k told comes = record { alone = refl; named = each }
  where
    n : Shaped
    n = record { name = y; members = ms }

    each : (x : Text) → TellsIfAny g (shape_named (knowing (Some y) ms (b ∷ [])) x) (shape_in after x)
    each x =
        let was : TellsIfAny g (find_map (named_in x) b.structures) (shape_in known x) = subst (λ o. TellsIfAny g o (shape_in known x)) (block_shape x b) (k.named x) in
        let new : Block = record b { structures = b.structures ++ record { name = y; members = ms } ∷ [] } in
        let named : shape_named (new ∷ []) x ≡ option_or (find_map (named_in x) b.structures) (if bytes_eq x y then Some ms else None) =
        block_shape x new ∙ one_more x b.structures (record { name = y; members = ms }) in
        subst (λ o. TellsIfAny g o (shape_in after x)) (sym named)
        (subst (TellsIfAny g (option_or (find_map (named_in x) b.structures) (if bytes_eq x y then Some ms else None))) (sym (comes x))
        (more_told g (find_map (named_in x) b.structures) (shape_in known x) (bytes_eq x y) ms s was told))

-- before the first declaration
pub knows_none : (f : Table) (known : Shapes) (ds : List EflDecl) → ((x : Text) → shape_in known x ≡ None) → Knows f known (naming ds ∷ [])
knows_none f known ds nothing = record {
  alone = refl;
  named = λ x. subst (λ o. TellsIfAny f o (shape_in known x)) (sym (block_shape x (naming ds))) (subst (TellsIfAny f None) (sym (nothing x)) tt);
}

-- ---- types ----

pub plain_seen : (f : Table) (known : Shapes) (t : EflType) (s : Summary) → ((bs : Blocks) → Knows f known bs → Tells f (data_type bs t) s) → ((bs : Blocks) → behind bs t ≡ bs) →
    SeesType f known t f known s
plain_seen f known t s told stays = record {
  grows = grows_same f;
  tells = told;
  knows = λ bs k. subst (Knows f known) (sym (stays bs)) k;
}

pub shape_seen : (f g : Table) (known between after : Shapes) (o : Option Text) (gs : EflGroups) (s : Summary) → SeesGroups f known gs g between s → Comes between o s after →
    SeesType f known (Shape o gs) g after s
shape_seen f g known between after o gs s seen comes = record {
  grows = seen.grows;
  tells = seen.tells;
  knows = λ bs k. knows_named g between after (behind_groups bs gs) o (shape bs gs) s (seen.knows bs k) (seen.tells bs k) comes;
}

-- ---- groups ----

-- the groups before are told of, among the blocks that are now
pub record GroupsAt (gs : EflGroups) (a : Summary) (bs : Blocks) (f : Table) (known : Shapes) (rest : EflGroups) (b : Summary) : Type 0 where
  pub now : Blocks
  pub knows : Knows f known now
  pub shapes : Continues f (shape bs gs) a (shape now rest) b
  pub ahead : behind_groups bs gs ≡ behind_groups now rest

pub record GroupsLeft (f : Table) (known : Shapes) (gs : EflGroups) (a : Summary) (g : Table) (after : Shapes) (rest : EflGroups) (b : Summary) : Type 0 where
  pub grows : Grows f g
  pub left : (bs : Blocks) → Knows f known bs → GroupsAt gs a bs g after rest b

-- before the first member of a structure
abbrev pub beginning : Summary
beginning = record { number = 2; sound = true; places = 0 }

pub groups_begun : (f : Table) (known : Shapes) (gs : EflGroups) (a : Summary) → GroupsLeft f known gs a f known gs a
groups_begun f known gs a = record {
  grows = grows_same f;
  left = λ bs k. record { now = bs; knows = k; shapes = continues_same f (shape bs gs) a; ahead = refl };
}

pub group_passed : (f g h i : Table) (known between after : Shapes) (gs : EflGroups) (a b c s : Summary) (t : EflType) (vs : List EflVar) (p : Place) (rest : EflGroups) →
    GroupsLeft f known gs a g between (AndGroup t vs p rest) b → SeesType g between t h after s → AddsMembers h b s vs i c → GroupsLeft f known gs a i after rest c
group_passed f g h i known between after gs a b c s t vs p rest left seen added = record {
  grows = grows_on f h i (grows_on f g h left.grows seen.grows) added.grows;
  left = each;
}
  where
    each : (bs : Blocks) → Knows f known bs → GroupsAt gs a bs i after rest c
    each bs k =
        let at = left.left bs k in
        record {
          now = behind at.now t;
          knows = knows_later h i after (behind at.now t) added.grows (seen.knows at.now at.knows);
          shapes = continues_on i (shape bs gs) a (shape at.now (AndGroup t vs p rest)) b (shape (behind at.now t) rest) c
              (continues_later g i (shape bs gs) a (shape at.now (AndGroup t vs p rest)) b (grows_on g h i seen.grows added.grows) at.shapes)
              (added.adds (data_type at.now t) (shape (behind at.now t) rest) (seen.tells at.now at.knows));
          ahead = at.ahead;
        }

and_true : (a : Bool) → (a && true) ≡ a
and_true true = refl
and_true false = refl

all_told : (g : Table) (ms : Members) (b : Summary) → Continues g ms beginning NoMember b → Tells g (Structured ms) b
all_told g ms b c =
    let same : b.sound ≡ are_sound ms = sym (c.sound ∙ and_true b.sound) in
    record {
      sound = same;
      places = let e : capped (0 + all_places ms) ≡ capped (b.places + 0) = c.places in
          let few : b.places ≤ 32768 = c.small (let z : 0 ≤ 32768 = omega arith in z) in
          omega (arith, e, few);
      numbered = λ is h more. c.numbered (same ∙ is) h more;
    }

pub groups_ended : (f g : Table) (known after : Shapes) (gs : EflGroups) (b : Summary) → GroupsLeft f known gs beginning g after NoGroup b → SeesGroups f known gs g after b
groups_ended f g known after gs b left = record {
  grows = left.grows;
  tells = λ bs k. all_told g (shape bs gs) b (left.left bs k).shapes;
  knows = λ bs k. let at = left.left bs k in subst (Knows g after) (sym at.ahead) at.knows;
}
