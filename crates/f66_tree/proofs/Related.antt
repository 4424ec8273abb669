-- One induction for all relations between two runs of the same statements. There are two sides: what a call does, what a
-- statement that begins costs, how many turns an implied DO may make and what a node counts may differ between them, and on
-- the first side they may depend on an index, such as its fuel. A relation between the parts of a run on both sides that
-- holds of results and ends, is kept where one part follows another, and holds of each read, store, step of editing, node
-- and call, holds of every value, every plain statement, and every statement that has begun.
--
-- The relation may rest on what names are used: K says which in each unit, Listed which of them with a list of subscripts or
-- arguments, Called which of them as what is called, and Fair of which spots a read or a store may then be. And the places of
-- statements may differ between the sides, as At says.
--
-- The node or the statement that a call stands in counts before the call does. A relation that has to reckon with what a
-- call costs may hold of the call only where it does so: W is the relation within a statement that has counted, and Node the one
-- within a node. Where nodes don't count, what holds of a function that is called may rest on the load of its value.
use Rattle.std.proofs.Common.{◌≡◌, ℕ, zero, suc, ◌+◌, pos, Bool, true, false, List, [], ◌∷◌, Option, Some, None, refl, sym, ap, subst}
use Rattle.std.specs.Prelude.{if◌then◌else◌, ◌+ℤ◌, int_le, nat_lt, ⊤}
use Rattle.std.specs.Str.{bytes_eq}
use Rattle.ground.specs.declared.place.Place.{Place}
use Rattle.ground.specs.declared.trap.Trap.{Trap}
use Rattle.ground.specs.declared.trap.Trap.TheVariants.{Subscript}
use Rattle.ground.specs.declared.value.Kind.{Kind}
use Rattle.ground.specs.declared.value.Kind.TheVariants.{Integer}
use Rattle.ground.specs.Content.{Content, Nothing, Whole, Truth}
use Rattle.f66_tree.specs.declared.editing.Way.{Way}
use Rattle.f66_tree.specs.declared.editing.Way.TheVariants.{Reading, Writing}
use Rattle.f66_tree.specs.Fields.{Fields}
use Rattle.f66_tree.specs.Syntax.{Text, Formula, Int, Letter, Ref, Item, Group, Plus, Minus, Not, Pair, Formulas, NoFormula, AndFormula, Par, Constant, Named, Entry, One, Many, Entries, NoEntry, AndEntry, Act, Assign, Goto, Computed, Sign, When, Loop, Invoke, Continue, Stop, Return, Read, Write, Format, Typed, Dimension, Common, Equivalence, Preset}
use Rattle.f66_tree.specs.World.{Record, Tape, World, Done, Stopped, Trapped, Finish, Ended, Wrong, Out, Gives, Halts, bind, Try, Yields, Traps, Fails, IfYields, Move, AfterMove, settle, choose}
use Rattle.f66_tree.specs.Records.{due, put, take, closed}
use Rattle.f66_tree.specs.FirstLaws.{Keeps, longer, Unasked, SameTake}
use Rattle.f66_tree.specs.Units.{is_main, kind_of, format_of, sizes_of, places_of, position, dummies_of, Spot, Held, Lent, Linkage, Setting, Frame}
use Rattle.f66_tree.specs.Uses.{Using, Names, NamesBy, NamesOfAll, NamesOfAllBy, NameOfPar, NamesOfPars, NamesOfEntryBy, NamesOfEntriesBy, NamesOfActBy}
use Rattle.f66_tree.specs.Evaluation.{Intrinsic, Sort, AnArray, AnIntrinsic, AFunction, known, intrinsics, array_or, is_array, sort_of, base, base_by, load, store_at, variable_in, par_in, pars_in, distance, moved, element, called, referred, place_by, place_of, names_place, actual_of, operate, opposite, denied, same_whole, intrinsic, truth_in, ticked, value_of, values_of, subscripts_of, spots_of, locate, asks}
use Rattle.f66_tree.specs.Statements.{Exit, Normal, To, Back, LoopParameters, fit_loop_in, loop_start, turn_of, loop_turn, transfer, edited, taped, taken_content, row, extent, one_or_row, item, item_turns, items, entry, on_unit, opened_by, record_by, label_at, by_sign_of, returned, invoked, does}
use Rattle.f66_tree.proofs.EditingLemmas.{records_stay}
use Rattle.f66_tree.proofs.Unasked.{records_unasked}
use Rattle.f66_tree.proofs.Posts.{Post, post_any, post_settle, AllFair, IsScope, base_fair, moved_fair, element_fair, place_fair, spots_fair}
use Rattle.f66_tree.specs.Syntax as f66

-- both sides of a comparison
pub record Sides (I : Type 0) : Type 1 where
  pub linked1 : Linkage
  pub linked2 : Linkage
  pub call1 : I → ℕ → List Spot → World → Out ⊤
  pub begin1 : I → World → Out ⊤
  pub most1 : I → ℕ
  pub tick1 : I → ℕ → ℕ
  pub call2 : ℕ → List Spot → World → Out ⊤
  pub begin2 : World → Out ⊤
  pub most2 : ℕ
  pub tick2 : ℕ → ℕ
  pub K : ℕ → Text → Type 0
  pub Listed : ℕ → Text → Type 0
  pub Called : ℕ → Text → Type 0
  pub Fair : Spot → Type 0
  pub At : Place → Place → Type 0

abbrev pub using : {I : Type 0} → Sides I → ℕ → Using
using d u = record { alone = d.K u; listed = d.Listed u; called = d.Called u }

abbrev pub side1 : {I : Type 0} → Sides I → I → Setting
side1 d i = record { linked = d.linked1; call = d.call1 i; begin = d.begin1 i; most = d.most1 i; tick = d.tick1 i }

abbrev pub side2 : {I : Type 0} → Sides I → Setting
side2 d = record { linked = d.linked2; call = d.call2; begin = d.begin2; most = d.most2; tick = d.tick2 }

-- what the uses of names have to do with one another: a name with a list that is no array and no intrinsic is called
pub record IsUse (K Listed Called : ℕ → Text → Type 0) (l : Linkage) : Type 0 where
  pub listed : (u : ℕ) (x : Text) → Listed u x → K u x
  pub called : (u : ℕ) (x : Text) → Called u x → K u x
  pub function : (u : ℕ) (x : Text) → Listed u x → sort_of (l.context u) x ≡ AFunction → Called u x

pub however_used : (K : ℕ → Text → Type 0) (l : Linkage) → IsUse K K K l
however_used K l = record { listed = λ u x used. used; called = λ u x used. used; function = λ u x used e. used }

-- the same names, whatever their use
mutual
  known_names_of : (U : Using) → ((x : Text) → U.listed x → U.alone x) → (e : Formula) → NamesBy U e → Names U.alone e
  known_names_of U h (Int z) used = tt
  known_names_of U h (f66.Truth b) used = tt
  known_names_of U h (Letter c) used = tt
  known_names_of U h (Ref x) used = used
  known_names_of U h (Item x es) used = (h x used.0, known_names_of_all U h es used.1)
  known_names_of U h (Group a) used = known_names_of U h a used
  known_names_of U h (Plus a) used = known_names_of U h a used
  known_names_of U h (Minus a) used = known_names_of U h a used
  known_names_of U h (Not a) used = known_names_of U h a used
  known_names_of U h (Pair op a b) used = (known_names_of U h a used.0, known_names_of U h b used.1)

  known_names_of_all : (U : Using) → ((x : Text) → U.listed x → U.alone x) → (es : Formulas) → NamesOfAllBy U es → NamesOfAll U.alone es
  known_names_of_all U h NoFormula used = tt
  known_names_of_all U h (AndFormula e es) used = (known_names_of U h e used.0, known_names_of_all U h es used.1)

-- The two linkages may differ in the numbers of storage units, and in names that are not used.
pub record SameNames (K : ℕ → Text → Type 0) (Fair : Spot → Type 0) (l1 l2 : Linkage) : Type 0 where
  pub find : (u : ℕ) (x : Text) → K u x → l1.find x ≡ l2.find x
  pub header : (u : ℕ) → (l1.context u).header ≡ (l2.context u).header
  pub sizes : (u : ℕ) (x : Text) → K u x → sizes_of x (l1.context u).notes ≡ sizes_of x (l2.context u).notes
  pub kinds : (u : ℕ) (x : Text) → K u x → kind_of (l1.context u) x ≡ kind_of (l2.context u) x
  pub formats : (u m : ℕ) → format_of m (l1.context u).notes ≡ format_of m (l2.context u).notes
  pub extents : (u : ℕ) (x : Text) (o : ℕ) → Fair (Held u x o) → sizes_of x (l1.context u).notes ≡ sizes_of x (l2.context u).notes

pub same_names : (K : ℕ → Text → Type 0) (Fair : Spot → Type 0) (l : Linkage) → SameNames K Fair l l
same_names K Fair l = record { find = λ u x used. refl; header = λ u. refl; sizes = λ u x used. refl; kinds = λ u x used. refl; formats = λ u m. refl; extents = λ u x o fair. refl }

moved_same : (K : ℕ → Text → Type 0) (Fair : Spot → Type 0) (l1 l2 : Linkage) → SameNames K Fair l1 l2 → (p : Spot) (n : ℕ) → Fair p → moved l1 p n ≡ moved l2 p n
moved_same K Fair l1 l2 h (Held u x o) n fair = ap (λ ns. if nat_lt (o + n) (places_of ns) then Yields (Held u x (o + n)) else Traps Subscript) (h.extents u x o fair)
moved_same K Fair l1 l2 h (Lent c) zero fair = refl
moved_same K Fair l1 l2 h (Lent c) (suc n) fair = refl

-- a frame on both sides, which differ in the place alone
pub record Frames : Type 0 where
  pub unit : ℕ
  pub actuals : List Spot
  pub here : Place
  pub there : Place

abbrev pub one : Frames → Frame
one f = record { unit = f.unit; actuals = f.actuals; place = f.here }

abbrev pub two : Frames → Frame
two f = record { unit = f.unit; actuals = f.actuals; place = f.there }

-- a frame that may come up
pub record Good {I : Type 0} (d : Sides I) (f : Frames) : Type 0 where
  pub places : d.At f.here f.there
  pub actuals : AllFair d.Fair f.actuals

-- a step of editing: the records written stay, and records that are not asked for change nothing
pub record IsStep (h : Tape → Move) : Type 0 where
  pub keeps : (t : Tape) → AfterMove (Keeps t) (h t)
  pub unasked : (more : List Record) (t : Tape) → Unasked more (h t) (h (longer more t))

pub record IsTake (h : Tape → Try (Content × Tape)) : Type 0 where
  pub keeps : (t : Tape) → IfYields (λ x. Keeps t x.1) (h t)
  pub unasked : (more : List Record) (t : Tape) → SameTake more (h t) (h (longer more t))

pub due_steps : (k : Kind) → IsStep (due k)
due_steps k = record { keeps = records_stay.dues k; unasked = λ more t. records_unasked.dues more k t }

pub put_steps : (c : Content) → IsStep (put c)
put_steps c = record { keeps = records_stay.puts c; unasked = λ more t. records_unasked.puts more c t }

pub take_steps : IsTake take
take_steps = record { keeps = records_stay.takes; unasked = records_unasked.takes }

pub closed_steps : IsStep closed
closed_steps = record { keeps = records_stay.closes; unasked = records_unasked.closes }

pub opened_steps : (way : Way) (o : Option Fields) → IsStep (opened_by way o)
opened_steps way (Some fs) = record { keeps = records_stay.opens way fs; unasked = λ more t. records_unasked.opens more way fs t }
opened_steps way None = record { keeps = λ t. tt; unasked = λ more t. refl }

-- the names in an array's dimensions
abbrev SortNames : (Text → Type 0) → Sort → Type 0
SortNames K (AnArray ns) = NamesOfPars K ns
SortNames K (AnIntrinsic g) = ⊤
SortNames K AFunction = ⊤

known_names : (K : Text → Type 0) (es : List (Text × Intrinsic)) (x : Text) → SortNames K (known es x)
known_names K [] x = tt
known_names K (e ∷ es) x = by_name (bytes_eq e.0 x) (known es x) (known_names K es x)
  where
    by_name : (b : Bool) (o : Sort) → SortNames K o → SortNames K (if b then AnIntrinsic e.1 else o)
    by_name true o h = tt
    by_name false o h = h

sort_names : (K : Text → Type 0) (ns : List Par) (x : Text) → NamesOfPars K ns → SortNames K (array_or ns x)
sort_names K [] x h = known_names K intrinsics x
sort_names K (n ∷ ns) x h = h

module _ (I : Type 0) (d : Sides I) (R W : (A : Type 0) → (I → World → Out A) → (World → Out A) → Type 0) where
  abbrev l1 : Linkage
  l1 = d.linked1

  abbrev l : Linkage
  l = d.linked2

  abbrev s1 : I → Setting
  s1 i = side1 d i

  abbrev s2 : Setting
  s2 = side2 d

  -- what is kept where nothing is called
  pub record Parts : Type 1 where
    pub scope : IsScope d.K d.Fair d.linked2
    pub same : SameNames d.K d.Fair d.linked1 d.linked2
    pub uses : IsUse d.K d.Listed d.Called d.linked2
    pub gives : {A : Type 0} → (a : A) → R A (λ i w. Gives a w) (λ w. Gives a w)
    pub ends : {A : Type 0} → (e : Finish) → R A (λ i w. Halts (Ended e) w) (λ w. Halts (Ended e) w)
    pub traps : {A : Type 0} → (t : Trap) (p q : Place) → d.At p q → R A (λ i w. Halts (Ended (Trapped t p)) w) (λ w. Halts (Ended (Trapped t q)) w)
    pub binds : {A B : Type 0} {P : A → Type 0} {m1 : I → World → Out A} {m2 : World → Out A} {g1 : A → I → World → Out B} {g2 : A → World → Out B} → R A m1 m2 → Post P m2 → ((a : A) → P a → R B (g1 a) (g2 a)) → R B (λ i w. bind (m1 i w) (λ a w1. g1 a i w1)) (λ w. bind (m2 w) (λ a w1. g2 a w1))
    pub loads : (f : Frames) → Good d f → (k : Kind) (p : Spot) → d.Fair p → R Content (λ i. load (s1 i) (one f) k p) (load s2 (two f) k p)
    pub stores : (f : Frames) → Good d f → (p : Spot) → d.Fair p → (c : Content) → R ⊤ (λ i. store_at (s1 i) (one f) p c) (store_at s2 (two f) p c)
    pub tapes : (f : Frames) → Good d f → (h : Tape → Move) → IsStep h → R ⊤ (λ i. taped f.here h) (taped f.there h)
    pub takes : (f : Frames) → Good d f → (h : Tape → Try (Content × Tape)) → IsTake h → R Content (λ i. taken_content f.here h) (taken_content f.there h)

  -- a function is called: its name is undefined at first, and its value is read at the end
  abbrev pub answered1 : (f : Frames) (x : Text) (v : ℕ) (ps : List Spot) (k : Kind) → I → World → Out Content
  answered1 f x v ps k i w = bind (store_at (s1 i) (one f) (Held v x 0) Nothing w) (λ _ w1. bind (d.call1 i v ps w1) (λ _ w2. load (s1 i) (one f) k (Held v x 0) w2))

  abbrev pub answered2 : (f : Frames) (x : Text) (v : ℕ) (ps : List Spot) (k : Kind) → World → Out Content
  answered2 f x v ps k w = bind (store_at s2 (two f) (Held v x 0) Nothing w) (λ _ w1. bind (d.call2 v ps w1) (λ _ w2. load s2 (two f) k (Held v x 0) w2))

  pub record Holds : Type 1 where
    pub parts : Parts
    pub Node : (A : Type 0) → (I → World → Out A) → (World → Out A) → Type 0
    pub node : {A : Type 0} {m1 : I → World → Out A} {m2 : World → Out A} → R A m1 m2 → Node A m1 m2
    pub then_node : {A B : Type 0} {P : A → Type 0} {m1 : I → World → Out A} {m2 : World → Out A} {g1 : A → I → World → Out B} {g2 : A → World → Out B} → R A m1 m2 → Post P m2 → ((a : A) → P a → Node B (g1 a) (g2 a)) → Node B (λ i w. bind (m1 i w) (λ a w1. g1 a i w1)) (λ w. bind (m2 w) (λ a w1. g2 a w1))
    pub ticks : {A : Type 0} {m1 : I → World → Out A} {m2 : World → Out A} → Node A m1 m2 → R A (λ i w. m1 i (ticked (s1 i) w)) (λ w. m2 (ticked s2 w))
    pub functions : (f : Frames) → Good d f → (x : Text) (v : ℕ) (ps : List Spot) (k : Kind) → d.Called f.unit x → d.linked2.find x ≡ Some v → AllFair d.Fair ps → Node Content (answered1 f x v ps k) (answered2 f x v ps k)
    pub within : {A : Type 0} {m1 : I → World → Out A} {m2 : World → Out A} → R A m1 m2 → W A m1 m2
    pub then_within : {A B : Type 0} {P : A → Type 0} {m1 : I → World → Out A} {m2 : World → Out A} {g1 : A → I → World → Out B} {g2 : A → World → Out B} → R A m1 m2 → Post P m2 → ((a : A) → P a → W B (g1 a) (g2 a)) → W B (λ i w. bind (m1 i w) (λ a w1. g1 a i w1)) (λ w. bind (m2 w) (λ a w1. g2 a w1))
    pub within_then : {A B : Type 0} {m1 : I → World → Out A} {m2 : World → Out A} {g1 : A → I → World → Out B} {g2 : A → World → Out B} → W A m1 m2 → ((a : A) → R B (g1 a) (g2 a)) → W B (λ i w. bind (m1 i w) (λ a w1. g1 a i w1)) (λ w. bind (m2 w) (λ a w1. g2 a w1))
    pub calls : (u : ℕ) (x : Text) (v : ℕ) (ps : List Spot) → d.Called u x → d.linked2.find x ≡ Some v → AllFair d.Fair ps → W ⊤ (λ i. d.call1 i v ps) (d.call2 v ps)

  -- where a node pays for a call as a statement does
  pub record Pays : Type 1 where
    pub parts : Parts
    pub within : {A : Type 0} {m1 : I → World → Out A} {m2 : World → Out A} → R A m1 m2 → W A m1 m2
    pub then_within : {A B : Type 0} {P : A → Type 0} {m1 : I → World → Out A} {m2 : World → Out A} {g1 : A → I → World → Out B} {g2 : A → World → Out B} → R A m1 m2 → Post P m2 → ((a : A) → P a → W B (g1 a) (g2 a)) → W B (λ i w. bind (m1 i w) (λ a w1. g1 a i w1)) (λ w. bind (m2 w) (λ a w1. g2 a w1))
    pub within_then : {A B : Type 0} {m1 : I → World → Out A} {m2 : World → Out A} {g1 : A → I → World → Out B} {g2 : A → World → Out B} → W A m1 m2 → ((a : A) → R B (g1 a) (g2 a)) → W B (λ i w. bind (m1 i w) (λ a w1. g1 a i w1)) (λ w. bind (m2 w) (λ a w1. g2 a w1))
    pub ticks : {A : Type 0} {m1 : I → World → Out A} {m2 : World → Out A} → W A m1 m2 → R A (λ i w. m1 i (ticked (s1 i) w)) (λ w. m2 (ticked s2 w))
    pub calls : (u : ℕ) (x : Text) (v : ℕ) (ps : List Spot) → d.Called u x → d.linked2.find x ≡ Some v → AllFair d.Fair ps → W ⊤ (λ i. d.call1 i v ps) (d.call2 v ps)

  pub paid : Pays → Holds
  paid q = record {
    parts = q.parts;
    Node = W;
    node = λ {A} {m1} {m2} h. q.within {A = A} {m1 = m1} {m2 = m2} h;
    then_node = λ {A} {B} {P} {m1} {m2} {g1} {g2} h post k. q.then_within {A = A} {B = B} {P = P} {m1 = m1} {m2 = m2} {g1 = g1} {g2 = g2} h post k;
    ticks = λ {A} {m1} {m2} h. q.ticks {A = A} {m1 = m1} {m2 = m2} h;
    functions = λ f g x v ps k used e all.
        let own : d.Fair (Held v x 0) = q.parts.scope.callee f.unit x v (q.parts.uses.called f.unit x used) e in
        q.then_within {P = λ _. ⊤} (q.parts.stores f g (Held v x 0) own Nothing) (λ w. post_any (store_at s2 (two f) (Held v x 0) Nothing w)) (λ _ _. q.within_then (q.calls f.unit x v ps used e all) (λ _. q.parts.loads f g k (Held v x 0) own));
    within = λ {A} {m1} {m2} h. q.within {A = A} {m1 = m1} {m2 = m2} h;
    then_within = λ {A} {B} {P} {m1} {m2} {g1} {g2} h post k. q.then_within {A = A} {B = B} {P = P} {m1 = m1} {m2 = m2} {g1 = g1} {g2 = g2} h post k;
    within_then = λ {A} {B} {m1} {m2} {g1} {g2} h k. q.within_then {A = A} {B = B} {m1 = m1} {m2 = m2} {g1 = g1} {g2 = g2} h k;
    calls = q.calls;
  }

  module _ (r : Holds) where
    -- a node whose parts call nothing by themselves
    counts : {A : Type 0} {m1 : I → World → Out A} {m2 : World → Out A} → R A m1 m2 → R A (λ i w. m1 i (ticked (s1 i) w)) (λ w. m2 (ticked s2 w))
    counts h = r.ticks (r.node h)

    -- whatever the first part gives
    pub thens : {A B : Type 0} {m1 : I → World → Out A} {m2 : World → Out A} {g1 : A → I → World → Out B} {g2 : A → World → Out B} → R A m1 m2 → ((a : A) → R B (g1 a) (g2 a)) → R B (λ i w. bind (m1 i w) (λ a w1. g1 a i w1)) (λ w. bind (m2 w) (λ a w1. g2 a w1))
    thens {A} {m2} h k = r.parts.binds {P = λ _. ⊤} h (λ w. post_any (m2 w)) (λ a _. k a)

    pub settles : {A : Type 0} → (f : Frames) → Good d f → (o : Try A) → R A (λ i. settle f.here o) (settle f.there o)
    settles f g (Yields a) = r.parts.gives a
    settles f g (Traps t) = r.parts.traps t f.here f.there g.places
    settles f g Fails = r.parts.ends Wrong

    -- an operation that is the same on both sides, and a read of the same type
    settles_as : {A : Type 0} → (f : Frames) → Good d f → (o1 o2 : Try A) → o1 ≡ o2 → R A (λ i. settle f.here o1) (settle f.there o2)
    settles_as {A} f g o1 o2 e = subst (λ o. R A (λ i. settle f.here o) (settle f.there o2)) (sym e) (settles f g o2)

    loads_as : (f : Frames) → Good d f → (k1 k2 : Kind) → k1 ≡ k2 → (p : Spot) → d.Fair p → R Content (λ i. load (s1 i) (one f) k1 p) (load s2 (two f) k2 p)
    loads_as f g k1 k2 e p fair = subst (λ k. R Content (λ i. load (s1 i) (one f) k p) (load s2 (two f) k2 p)) (sym e) (r.parts.loads f g k2 p fair)

    base_same : (f : Frames) (x : Text) → base_by (position x (dummies_of (l1.context f.unit).header)) f.unit f.actuals x ≡ base_by (position x (dummies_of (l.context f.unit).header)) f.unit f.actuals x
    base_same f x = ap (λ h. base_by (position x (dummies_of h)) f.unit f.actuals x) (r.parts.same.header f.unit)

    sort_same : (f : Frames) (x : Text) → d.K f.unit x → sort_of (l1.context f.unit) x ≡ sort_of (l.context f.unit) x
    sort_same f x used = ap (λ ns. array_or ns x) (r.parts.same.sizes f.unit x used)

    place_same : (f : Frames) (e : Formula) → NamesBy (using d f.unit) e → names_place (l1.context f.unit) e ≡ names_place (l.context f.unit) e
    place_same f (Int z) used = refl
    place_same f (f66.Truth b) used = refl
    place_same f (Letter c) used = refl
    place_same f (Ref x) used = refl
    place_same f (Item x es) used = ap is_array (sort_same f x (r.parts.uses.listed f.unit x used.0))
    place_same f (Group a) used = refl
    place_same f (Plus a) used = refl
    place_same f (Minus a) used = refl
    place_same f (Not a) used = refl
    place_same f (Pair op a b) used = refl

    pub choice : {A : Type 0} {m1 n1 : I → World → Out A} {m2 n2 : World → Out A} → (b : Bool) → R A m1 m2 → R A n1 n2 → R A (λ i w. choose b (m1 i w) (n1 i w)) (λ w. choose b (m2 w) (n2 w))
    choice true h k = h
    choice false h k = k

    choice_if : {A : Type 0} {m1 n1 : I → World → Out A} {m2 n2 : World → Out A} → (b : Bool) → R A m1 m2 → R A n1 n2 → R A (λ i w. if b then (m1 i w) else (n1 i w)) (λ w. if b then (m2 w) else (n2 w))
    choice_if true h k = h
    choice_if false h k = k

    -- the place of a name, and what is done with it
    pub base_then : {B : Type 0} {g1 : Spot → I → World → Out B} {g2 : Spot → World → Out B} → (f : Frames) → Good d f → (x : Text) → d.K f.unit x → ((p : Spot) → d.Fair p → R B (g1 p) (g2 p)) → R B (λ i w. bind (settle f.here (base (s1 i) (one f) x) w) (λ p w1. g1 p i w1)) (λ w. bind (settle f.there (base s2 (two f) x) w) (λ p w1. g2 p w1))
    base_then f g x used k =
        r.parts.binds {P = d.Fair} (settles_as f g _ _ (base_same f x)) (post_settle d.Fair f.there (base s2 (two f) x) (base_fair d.K d.Fair s2 r.parts.scope (two f) x used g.actuals)) k

    pub variable_holds : (f : Frames) → Good d f → (x : Text) → d.K f.unit x → R Content (λ i. variable_in (s1 i) (one f) x) (variable_in s2 (two f) x)
    variable_holds f g x used = base_then f g x used (λ p fair. loads_as f g _ _ (r.parts.same.kinds f.unit x used) p fair)

    pub par_holds : (f : Frames) → Good d f → (n : Par) → NameOfPar (d.K f.unit) n → R Content (λ i. par_in (s1 i) (one f) n) (par_in s2 (two f) n)
    par_holds f g (Constant z) used = r.parts.gives (Whole z)
    par_holds f g (Named x) used = variable_holds f g x used

    pars_hold : (f : Frames) → Good d f → (ns : List Par) → NamesOfPars (d.K f.unit) ns → R (List Content) (λ i. pars_in (s1 i) (one f) ns) (pars_in s2 (two f) ns)
    pars_hold f g [] used = r.parts.gives []
    pars_hold f g (n ∷ ns) used = thens (par_holds f g n used.0) (λ v. thens (pars_hold f g ns used.1) (λ vs. r.parts.gives (v ∷ vs)))

    element_holds : (f : Frames) → Good d f → (x : Text) → d.K f.unit x → (ns : List Par) → NamesOfPars (d.K f.unit) ns → {m1 : I → World → Out (List Content)} {m2 : World → Out (List Content)} → R (List Content) m1 m2 → R Spot (λ i. element (s1 i) (one f) x ns (m1 i)) (element s2 (two f) x ns m2)
    element_holds f g x used ns sizes h =
        base_then f g x used (λ p fair. thens h (λ vs. thens (pars_hold f g ns sizes) (λ ds. thens (settles f g (distance 1 vs ds)) (λ n. settles_as f g (moved l1 p n) (moved l p n) (moved_same d.K d.Fair l1 l r.parts.same p n fair)))))

    -- an element is fair: the last step leads on from the place of its name
    element_then : {B : Type 0} {g1 : Spot → I → World → Out B} {g2 : Spot → World → Out B} → (f : Frames) → Good d f → (x : Text) → d.K f.unit x → (ns : List Par) → NamesOfPars (d.K f.unit) ns → {m1 : I → World → Out (List Content)} {m2 : World → Out (List Content)} → R (List Content) m1 m2 → ((p : Spot) → d.Fair p → R B (g1 p) (g2 p)) → R B (λ i w. bind (element (s1 i) (one f) x ns (m1 i) w) (λ p w1. g1 p i w1)) (λ w. bind (element s2 (two f) x ns m2 w) (λ p w1. g2 p w1))
    element_then f g x used ns sizes {m1} {m2} h k = r.parts.binds {P = d.Fair} (element_holds f g x used ns sizes h) (element_fair d.K d.Fair s2 r.parts.scope (two f) x ns m2 used g.actuals) k

    called_holds : (f : Frames) → Good d f → (x : Text) → d.Called f.unit x → (o : Option ℕ) → l.find x ≡ o → {m1 : I → World → Out (List Spot)} {m2 : World → Out (List Spot)} → R (List Spot) m1 m2 → Post (AllFair d.Fair) m2 → r.Node Content (λ i. called (s1 i) (one f) x o (m1 i)) (called s2 (two f) x o m2)
    called_holds f g x used None e h fair = r.node (r.parts.ends Wrong)
    called_holds f g x used (Some v) e h fair =
        let known : d.K f.unit x = r.parts.uses.called f.unit x used in
        r.then_node {P = AllFair d.Fair} h fair (λ ps all.
        subst (λ k. r.Node Content (answered1 f x v ps k) (answered2 f x v ps (kind_of (l.context f.unit) x))) (sym (r.parts.same.kinds f.unit x known)) (r.functions f g x v ps (kind_of (l.context f.unit) x) used e all))

    sized : (f : Frames) (x : Text) → d.K f.unit x → SortNames (d.K f.unit) (sort_of (l.context f.unit) x)
    sized f x used = sort_names (d.K f.unit) (sizes_of x (l.context f.unit).notes) x (r.parts.scope.dimensions f.unit x used)

    referred_holds : (f : Frames) → Good d f → (x : Text) → d.Listed f.unit x → (o : Sort) → sort_of (l.context f.unit) x ≡ o → SortNames (d.K f.unit) o → {m1 : I → World → Out (List Content)} {m2 : World → Out (List Content)} {n1 : I → World → Out (List Spot)} {n2 : World → Out (List Spot)} → R (List Content) m1 m2 → R (List Spot) n1 n2 → Post (AllFair d.Fair) n2 → r.Node Content (λ i. referred (s1 i) (one f) x o (m1 i) (n1 i)) (referred s2 (two f) x o m2 n2)
    referred_holds f g x used (AnArray ns) is sizes h k fair =
        r.node (element_then f g x (r.parts.uses.listed f.unit x used) ns sizes h (λ p ok. loads_as f g _ _ (r.parts.same.kinds f.unit x (r.parts.uses.listed f.unit x used)) p ok))
    referred_holds f g x used (AnIntrinsic q) is sizes h k fair = r.node (thens h (λ vs. settles f g (intrinsic q vs)))
    referred_holds f g x used AFunction is sizes {m1} {m2} {n1} {n2} h k fair =
        subst (λ o. r.Node Content (λ i. called (s1 i) (one f) x o (n1 i)) (called s2 (two f) x (l.find x) n2)) (sym (r.parts.same.find f.unit x (r.parts.uses.listed f.unit x used))) (called_holds f g x (r.parts.uses.function f.unit x used is) (l.find x) refl k fair)

    place_holds : (f : Frames) → Good d f → (e : Formula) → NamesBy (using d f.unit) e → {m1 : I → World → Out (List Content)} {m2 : World → Out (List Content)} → R (List Content) m1 m2 → R Spot (λ i. place_of (s1 i) (one f) e (m1 i)) (place_of s2 (two f) e m2)
    place_holds f g (Int z) used h = r.parts.ends Wrong
    place_holds f g (f66.Truth b) used h = r.parts.ends Wrong
    place_holds f g (Letter c) used h = r.parts.ends Wrong
    place_holds f g (Ref x) used h = counts (settles_as f g _ _ (base_same f x))
    place_holds f g (Item x es) used {m1} {m2} h =
        counts (subst (λ o. R Spot (λ i. place_by (s1 i) (one f) x o (m1 i)) (place_by s2 (two f) x (sort_of (l.context f.unit) x) m2)) (sym (sort_same f x known)) (by_sort (sort_of (l.context f.unit) x) (sized f x known)))
      where
        known : d.K f.unit x
        known = r.parts.uses.listed f.unit x used.0

        by_sort : (o : Sort) → SortNames (d.K f.unit) o → R Spot (λ i. place_by (s1 i) (one f) x o (m1 i)) (place_by s2 (two f) x o m2)
        by_sort (AnArray ns) sizes = element_holds f g x known ns sizes h
        by_sort (AnIntrinsic q) sizes = r.parts.ends Wrong
        by_sort AFunction sizes = r.parts.ends Wrong
    place_holds f g (Group a) used h = r.parts.ends Wrong
    place_holds f g (Plus a) used h = r.parts.ends Wrong
    place_holds f g (Minus a) used h = r.parts.ends Wrong
    place_holds f g (Not a) used h = r.parts.ends Wrong
    place_holds f g (Pair op a b) used h = r.parts.ends Wrong

    actual_holds : (b : Bool) {m1 : I → World → Out Spot} {m2 : World → Out Spot} {n1 : I → World → Out Content} {n2 : World → Out Content} → R Spot m1 m2 → R Content n1 n2 → R Spot (λ i. actual_of b (m1 i) (n1 i)) (actual_of b m2 n2)
    actual_holds true h k = h
    actual_holds false h k = thens k (λ v. r.parts.gives (Lent v))

    all_fair : (f : Frames) → Good d f → (es : Formulas) → NamesOfAllBy (using d f.unit) es → Post (AllFair d.Fair) (spots_of s2 (two f) es)
    all_fair f g es used = spots_fair d.K d.Fair s2 r.parts.scope (two f) es (known_names_of_all (using d f.unit) (r.parts.uses.listed f.unit) es used) g.actuals

    mutual
      pub value_holds : (f : Frames) → Good d f → (e : Formula) → NamesBy (using d f.unit) e → R Content (λ i. value_of (s1 i) (one f) e) (value_of s2 (two f) e)
      value_holds f g (Int z) used = counts (r.parts.gives (Whole z))
      value_holds f g (f66.Truth b) used = counts (r.parts.gives (Truth b))
      value_holds f g (Letter c) used = counts (r.parts.gives (Whole (pos c)))
      value_holds f g (Ref x) used = counts (variable_holds f g x used)
      value_holds f g (Item x es) used =
          r.ticks (subst (λ o. r.Node Content (λ i. referred (s1 i) (one f) x o (values_of (s1 i) (one f) es) (spots_of (s1 i) (one f) es)) (referred s2 (two f) x (sort_of (l.context f.unit) x) (values_of s2 (two f) es) (spots_of s2 (two f) es))) (sym (sort_same f x (r.parts.uses.listed f.unit x used.0)))
          (referred_holds f g x used.0 (sort_of (l.context f.unit) x) refl (sized f x (r.parts.uses.listed f.unit x used.0)) (values_hold f g es used.1) (spots_hold f g es used.1) (all_fair f g es used.1)))
      value_holds f g (Group a) used = counts (value_holds f g a used)
      value_holds f g (Plus a) used = thens (counts (value_holds f g a used)) (λ v. settles f g (same_whole v))
      value_holds f g (Minus a) used = thens (counts (value_holds f g a used)) (λ v. settles f g (opposite v))
      value_holds f g (Not a) used = thens (counts (value_holds f g a used)) (λ v. settles f g (denied v))
      value_holds f g (Pair op a b) used = thens (counts (value_holds f g a used.0)) (λ x. thens (value_holds f g b used.1) (λ y. settles f g (operate op x y)))

      pub values_hold : (f : Frames) → Good d f → (es : Formulas) → NamesOfAllBy (using d f.unit) es → R (List Content) (λ i. values_of (s1 i) (one f) es) (values_of s2 (two f) es)
      values_hold f g NoFormula used = r.parts.gives []
      values_hold f g (AndFormula e es) used = thens (value_holds f g e used.0) (λ v. thens (values_hold f g es used.1) (λ vs. r.parts.gives (v ∷ vs)))

      subscripts_hold : (f : Frames) → Good d f → (e : Formula) → NamesBy (using d f.unit) e → R (List Content) (λ i. subscripts_of (s1 i) (one f) e) (subscripts_of s2 (two f) e)
      subscripts_hold f g (Item x es) used = values_hold f g es used.1
      subscripts_hold f g (Int z) used = r.parts.gives []
      subscripts_hold f g (f66.Truth b) used = r.parts.gives []
      subscripts_hold f g (Letter c) used = r.parts.gives []
      subscripts_hold f g (Ref x) used = r.parts.gives []
      subscripts_hold f g (Group a) used = r.parts.gives []
      subscripts_hold f g (Plus a) used = r.parts.gives []
      subscripts_hold f g (Minus a) used = r.parts.gives []
      subscripts_hold f g (Not a) used = r.parts.gives []
      subscripts_hold f g (Pair op a b) used = r.parts.gives []

      pub spots_hold : (f : Frames) → Good d f → (es : Formulas) → NamesOfAllBy (using d f.unit) es → R (List Spot) (λ i. spots_of (s1 i) (one f) es) (spots_of s2 (two f) es)
      spots_hold f g NoFormula used = r.parts.gives []
      spots_hold f g (AndFormula e es) used =
          thens (counts (subst (λ b. R Spot (λ i. actual_of b (place_of (s1 i) (one f) e (subscripts_of (s1 i) (one f) e)) (value_of (s1 i) (one f) e)) (actual_of (names_place (l.context f.unit) e) (place_of s2 (two f) e (subscripts_of s2 (two f) e)) (value_of s2 (two f) e))) (sym (place_same f e used.0)) (actual_holds (names_place (l.context f.unit) e) (place_holds f g e used.0 (subscripts_hold f g e used.0)) (value_holds f g e used.0)))) (λ p. thens (spots_hold f g es used.1) (λ ps. r.parts.gives (p ∷ ps)))

    pub locate_holds : (f : Frames) → Good d f → (e : Formula) → NamesBy (using d f.unit) e → R Spot (λ i. locate (s1 i) (one f) e) (locate s2 (two f) e)
    locate_holds f g e used = place_holds f g e used (subscripts_hold f g e used)

    locate_then : {B : Type 0} {g1 : Spot → I → World → Out B} {g2 : Spot → World → Out B} → (f : Frames) → Good d f → (e : Formula) → NamesBy (using d f.unit) e → ((p : Spot) → d.Fair p → R B (g1 p) (g2 p)) → R B (λ i w. bind (locate (s1 i) (one f) e w) (λ p w1. g1 p i w1)) (λ w. bind (locate s2 (two f) e w) (λ p w1. g2 p w1))
    locate_then f g e used k = r.parts.binds {P = d.Fair} (locate_holds f g e used) (place_fair d.K d.Fair s2 r.parts.scope (two f) e (subscripts_of s2 (two f) e) (known_names_of (using d f.unit) (r.parts.uses.listed f.unit) e used) g.actuals) k

    pub asks_hold : (f : Frames) → Good d f → (e : Formula) → NamesBy (using d f.unit) e → R Bool (λ i. asks (s1 i) (one f) e) (asks s2 (two f) e)
    asks_hold f g e used = thens (value_holds f g e used) (λ v. settles f g (truth_in v))

    pub start_holds : (f : Frames) → Good d f → (x : Text) (a b c : Par) → d.K f.unit x → NameOfPar (d.K f.unit) a → NameOfPar (d.K f.unit) b → NameOfPar (d.K f.unit) c → R LoopParameters (λ i. loop_start (s1 i) (one f) x a b c) (loop_start s2 (two f) x a b c)
    start_holds f g x a b c used ua ub uc =
        base_then f g x used (λ p fair. thens (par_holds f g a ua) (λ va. thens (par_holds f g b ub) (λ vb. thens (par_holds f g c uc) (λ vc.
        thens (settles f g (fit_loop_in va vb vc)) (λ k. thens (r.parts.stores f g p fair va) (λ _. r.parts.gives k))))))

    pub turn_holds : (f : Frames) → Good d f → (x : Text) → d.K f.unit x → (k : LoopParameters) → R Bool (λ i. loop_turn (s1 i) (one f) x k) (loop_turn s2 (two f) x k)
    turn_holds f g x used k = base_then f g x used (λ p fair. thens (r.parts.loads f g Integer p fair) (λ v. by_content p fair v))
      where
        by_content : (p : Spot) → d.Fair p → (v : Content) → R Bool (λ i. turn_of (s1 i) (one f) p k v) (turn_of s2 (two f) p k v)
        by_content p fair (Whole z) = choice_if (int_le (z +ℤ k.step) k.limit) (thens (r.parts.stores f g p fair (Whole (z +ℤ k.step))) (λ _. r.parts.gives true)) (thens (r.parts.stores f g p fair Nothing) (λ _. r.parts.gives false))
        by_content p fair Nothing = r.parts.ends Wrong
        by_content p fair (Truth b) = r.parts.ends Wrong

    transfer_holds : (f : Frames) → Good d f → (way : Way) (k : Kind) (p : Spot) → d.Fair p → R ⊤ (λ i. transfer (s1 i) (one f) way k p) (transfer s2 (two f) way k p)
    transfer_holds f g Reading k p fair = thens (r.parts.takes f g take take_steps) (λ c. r.parts.stores f g p fair c)
    transfer_holds f g Writing k p fair = thens (r.parts.loads f g k p fair) (λ c. r.parts.tapes f g (put c) (put_steps c))

    edited_holds : (f : Frames) → Good d f → (way : Way) (k : Kind) (p : Spot) → d.Fair p → R ⊤ (λ i. edited (s1 i) (one f) way k p) (edited s2 (two f) way k p)
    edited_holds f g way k p fair = thens (r.parts.tapes f g (due k) (due_steps k)) (λ _. transfer_holds f g way k p fair)

    row_holds : (f : Frames) → Good d f → (way : Way) (k : Kind) (p : Spot) → d.Fair p → (n j : ℕ) → R ⊤ (λ i. row (s1 i) (one f) way k p n j) (row s2 (two f) way k p n j)
    row_holds f g way k p fair zero j = r.parts.gives tt
    row_holds f g way k p fair (suc n) j =
        r.parts.binds {P = d.Fair} (settles_as f g (moved l1 p j) (moved l p j) (moved_same d.K d.Fair l1 l r.parts.same p j fair)) (post_settle d.Fair f.there (moved l p j) (moved_fair d.K d.Fair s2 r.parts.scope p j fair)) (λ q ok. thens (edited_holds f g way k q ok) (λ _. row_holds f g way k p fair n (j + 1)))

    one_holds : (f : Frames) → Good d f → (way : Way) (k : Kind) (ns : List Par) → NamesOfPars (d.K f.unit) ns → (p : Spot) → d.Fair p → R ⊤ (λ i. one_or_row (s1 i) (one f) way k ns p) (one_or_row s2 (two f) way k ns p)
    one_holds f g way k [] sizes p fair = edited_holds f g way k p fair
    one_holds f g way k (n ∷ ns) sizes p fair = thens (pars_hold f g (n ∷ ns) sizes) (λ ds. thens (settles f g (extent ds)) (λ m. row_holds f g way k p fair m 0))

    item_holds : (f : Frames) → Good d f → (way : Way) (e : Formula) → NamesBy (using d f.unit) e → R ⊤ (λ i. item (s1 i) (one f) way e) (item s2 (two f) way e)
    item_holds f g way (Ref x) used =
        locate_then f g (Ref x) used (λ p fair.
        subst (λ k. R ⊤ (λ i. one_or_row (s1 i) (one f) way k (sizes_of x (l1.context f.unit).notes) p) (one_or_row s2 (two f) way (kind_of (l.context f.unit) x) (sizes_of x (l.context f.unit).notes) p)) (sym (r.parts.same.kinds f.unit x used))
        (subst (λ ns. R ⊤ (λ i. one_or_row (s1 i) (one f) way (kind_of (l.context f.unit) x) ns p) (one_or_row s2 (two f) way (kind_of (l.context f.unit) x) (sizes_of x (l.context f.unit).notes) p)) (sym (r.parts.same.sizes f.unit x used))
        (one_holds f g way (kind_of (l.context f.unit) x) (sizes_of x (l.context f.unit).notes) (r.parts.scope.dimensions f.unit x used) p fair)))
    item_holds f g way (Item x es) used =
        locate_then f g (Item x es) used (λ p fair.
        subst (λ k. R ⊤ (λ i. edited (s1 i) (one f) way k p) (edited s2 (two f) way (kind_of (l.context f.unit) x) p)) (sym (r.parts.same.kinds f.unit x (r.parts.uses.listed f.unit x used.0))) (edited_holds f g way (kind_of (l.context f.unit) x) p fair))
    item_holds f g way (Int z) used = r.parts.ends Wrong
    item_holds f g way (f66.Truth b) used = r.parts.ends Wrong
    item_holds f g way (Letter c) used = r.parts.ends Wrong
    item_holds f g way (Group a) used = r.parts.ends Wrong
    item_holds f g way (Plus a) used = r.parts.ends Wrong
    item_holds f g way (Minus a) used = r.parts.ends Wrong
    item_holds f g way (Not a) used = r.parts.ends Wrong
    item_holds f g way (Pair op a b) used = r.parts.ends Wrong

    module _ (many : (f : Frames) → Good d f → (x : Text) → d.K f.unit x → (k : LoopParameters) (m1 : I → World → Out ⊤) (m2 : World → Out ⊤) → R ⊤ m1 m2 → R ⊤ (λ i. item_turns (d.most1 i) (s1 i) (one f) x k (m1 i)) (item_turns d.most2 s2 (two f) x k m2)) where
      mutual
        items_hold : (f : Frames) → Good d f → (way : Way) (es : Entries) → NamesOfEntriesBy (using d f.unit) es → R ⊤ (λ i. items (s1 i) (one f) way es) (items s2 (two f) way es)
        items_hold f g way NoEntry used = r.parts.gives tt
        items_hold f g way (AndEntry e es) used = thens (counts (entry_holds f g way e used.0)) (λ _. items_hold f g way es used.1)

        entry_holds : (f : Frames) → Good d f → (way : Way) (e : Entry) → NamesOfEntryBy (using d f.unit) e → R ⊤ (λ i. entry (s1 i) (one f) way e) (entry s2 (two f) way e)
        entry_holds f g way (One e) used = item_holds f g way e used
        entry_holds f g way (Many es x a b c) used = thens (start_holds f g x a b c used.1 used.2 used.3 used.4) (λ k. many f g x used.1 k _ _ (items_hold f g way es used.0))

      record_holds : (f : Frames) → Good d f → (way : Way) (u : Par) (m : ℕ) (es : Entries) → NameOfPar (d.K f.unit) u → NamesOfEntriesBy (using d f.unit) es → R Exit (λ i. record_by (s1 i) (one f) way u m es) (record_by s2 (two f) way u m es)
      record_holds f g way u m es uu used =
          thens (par_holds f g u uu) (λ v. thens (settles f g (on_unit way v)) (λ _.
          thens (subst (λ o. R ⊤ (λ i. taped f.here (opened_by way o)) (taped f.there (opened_by way (format_of m (l.context f.unit).notes)))) (sym (r.parts.same.formats f.unit m)) (r.parts.tapes f g (opened_by way (format_of m (l.context f.unit).notes)) (opened_steps way (format_of m (l.context f.unit).notes)))) (λ _. thens (items_hold f g way es used) (λ _.
          thens (r.parts.tapes f g closed closed_steps) (λ _. r.parts.gives Normal)))))

      invoked_holds : (f : Frames) (x : Text) → d.Called f.unit x → (o : Option ℕ) → l.find x ≡ o → {m1 : I → World → Out (List Spot)} {m2 : World → Out (List Spot)} → R (List Spot) m1 m2 → Post (AllFair d.Fair) m2 → W Exit (λ i. invoked (s1 i) o (m1 i)) (invoked s2 o m2)
      invoked_holds f x used None e h fair = r.within (r.parts.ends Wrong)
      invoked_holds f x used (Some v) e h fair = r.then_within {P = AllFair d.Fair} h fair (λ ps all. r.within_then (r.calls f.unit x v ps used e all) (λ _. r.parts.gives Normal))

      returned_holds : (b : Bool) → R Exit (λ i. returned b) (returned b)
      returned_holds true = r.parts.ends Done
      returned_holds false = r.parts.gives Back

      pub does_holds : (f : Frames) → Good d f → (a : Act) → NamesOfActBy (using d f.unit) a → W Exit (λ i. does (s1 i) (one f) a) (does s2 (two f) a)
      does_holds f g (Assign x e) used = r.within (locate_then f g x used.0 (λ p fair. thens (value_holds f g e used.1) (λ v. thens (r.parts.stores f g p fair v) (λ _. r.parts.gives Normal))))
      does_holds f g (Goto m) used = r.within (r.parts.gives (To m))
      does_holds f g (Computed ls x) used = r.within (thens (variable_holds f g x used) (λ v. thens (settles f g (label_at ls v)) (λ m. r.parts.gives (To m))))
      does_holds f g (Sign e n m k) used = r.within (thens (value_holds f g e used) (λ v. thens (settles f g (by_sign_of n m k v)) (λ j. r.parts.gives (To j))))
      does_holds f g (When e a) used = r.within (r.parts.gives Normal)
      does_holds f g (Loop m x a b c) used = r.within (r.parts.gives Normal)
      does_holds f g (Invoke x es) used =
          subst (λ o. W Exit (λ i. invoked (s1 i) o (spots_of (s1 i) (one f) es)) (invoked s2 (l.find x) (spots_of s2 (two f) es))) (sym (r.parts.same.find f.unit x (r.parts.uses.called f.unit x used.0)))
          (invoked_holds f x used.0 (l.find x) refl (spots_hold f g es used.1) (all_fair f g es used.1))
      does_holds f g Continue used = r.within (r.parts.gives Normal)
      does_holds f g (Stop None) used = r.within (r.parts.ends Done)
      does_holds f g (Stop (Some n)) used = r.within (r.parts.ends (Stopped n))
      does_holds f g Return used = r.within (subst (λ h. R Exit (λ i. returned (is_main h)) (returned (is_main (l.context f.unit).header))) (sym (r.parts.same.header f.unit)) (returned_holds (is_main (l.context f.unit).header)))
      does_holds f g (Read u m es) used = r.within (record_holds f g Reading u m es used.0 used.1)
      does_holds f g (Write u m es) used = r.within (record_holds f g Writing u m es used.0 used.1)
      does_holds f g (Format fs) used = r.within (r.parts.gives Normal)
      does_holds f g (Typed t ds) used = r.within (r.parts.gives Normal)
      does_holds f g (Dimension ds) used = r.within (r.parts.gives Normal)
      does_holds f g (Common areas) used = r.within (r.parts.gives Normal)
      does_holds f g (Equivalence es) used = r.within (r.parts.gives Normal)
      does_holds f g (Preset ps) used = r.within (r.parts.gives Normal)

-- a relation that does not reckon with what a call costs
pub plainly : (I : Type 0) (d : Sides I) (R : (A : Type 0) → (I → World → Out A) → (World → Out A) → Type 0) (r : Parts I d R R) → ((A : Type 0) (m1 : I → World → Out A) (m2 : World → Out A) → R A m1 m2 → R A (λ i w. m1 i (ticked (side1 d i) w)) (λ w. m2 (ticked (side2 d) w))) →
    ((u : ℕ) (x : Text) (v : ℕ) (ps : List Spot) → d.Called u x → d.linked2.find x ≡ Some v → AllFair d.Fair ps → R ⊤ (λ i. d.call1 i v ps) (d.call2 v ps)) → Holds I d R R
plainly I d R r ticks calls = paid I d R R (record {
  parts = r;
  within = λ h. h;
  then_within = λ {A} {B} {P} {m1} {m2} {g1} {g2} h post k. r.binds {A = A} {B = B} {P = P} {m1 = m1} {m2 = m2} {g1 = g1} {g2 = g2} h post k;
  within_then = λ {A} {B} {m1} {m2} {g1} {g2} h k. r.binds {A = A} {B = B} {P = λ _. ⊤} {m1 = m1} {m2 = m2} {g1 = g1} {g2 = g2} h (λ w. post_any (m2 w)) (λ a _. k a);
  ticks = λ {A} {m1} {m2} h. ticks A m1 m2 h;
  calls = calls;
})
