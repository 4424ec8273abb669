-- No plain statement ends a run as Lost, and it goes to its own labels alone.
use Rattle.std.proofs.Common.{◌≡◌, ℕ, zero, suc, pos, negsuc, Bool, true, false, List, [], ◌∷◌, Option, Some, None}
use Rattle.std.specs.Prelude.{⊤}
use Rattle.ground.specs.declared.place.Place.{Place}
use Rattle.ground.specs.Content.{Content, Nothing, Whole, Truth}
use Rattle.f66_tree.specs.declared.editing.Way.{Way}
use Rattle.f66_tree.specs.declared.editing.Way.TheVariants.{Reading, Writing}
use Rattle.f66_tree.specs.Syntax.{Text, Formula, Par, Entries, Act, Assign, Goto, Computed, Sign, When, Loop, Invoke, Continue, Stop, Return, Read, Write, Format, Typed, Dimension, Common, Equivalence, Preset}
use Rattle.f66_tree.specs.World.{World, counted, Ended, GoesOn, Lost, Out, Gives, Halts, bind, Try, Yields, Traps, Fails, IfYields, Move, Moves, Breaks, Misses, settle, moving, choose, taping, holding}
use Rattle.f66_tree.specs.Units.{is_main, Spot, Linkage, Setting, Frame, format_of, around}
use Rattle.f66_tree.specs.Evaluation.{AFunction, sort_of, stored, store_at, par_in, spots_of, ticked, value_of, locate, asks, variable_in, asked, held}
use Rattle.f66_tree.specs.Statements.{Exit, Normal, To, Back, LoopParameters, loop_start, loop_turn, taped, items, item_turns, on_unit, opened_by, record_by, nth, label_at, by_sign_of, returned, invoked, does}
use Rattle.f66_tree.specs.Records.{closed}
use Rattle.f66_tree.proofs.Posts.{IfGives, post_any, post_bind, post_settle}
use Rattle.f66_tree.proofs.Related.{plainly, Sides, Frames, two, Good, Holds, same_names, does_holds, asks_hold, value_holds, start_holds, turn_holds}
use Rattle.f66_tree.specs.Uses.{Using, NamesBy, NamesOfActBy}
use Rattle.f66_tree.proofs.AnyNames.{Any, AnySpot, any_scope, any_par, any_fair}
use Rattle.rat_tree.specs.Syntax.{Commands}
use Rattle.rat_lower.specs.Checked.{stands_in, AllStandIn, ActLands}

-- a part that is not lost, of whose results P holds
abbrev pub Fine : {A : Type 0} → (A → Type 0) → Out A → Type 0
Fine P (Gives a w) = P a
Fine P (Halts (Ended f) w) = ⊤
Fine P (Halts GoesOn w) = ⊤
Fine P (Halts Lost w) = ⊥

abbrev pub Whatever : {A : Type 0} → A → Type 0
Whatever a = ⊤

pub fine_bind : {A B : Type 0} (P : A → Type 0) (Q : B → Type 0) (o : Out A) (k : A → World → Out B) → Fine P o → ((a : A) → P a → (w : World) → Fine Q (k a w)) → Fine Q (bind o k)
fine_bind P Q (Gives a w) k h n = n a h w
fine_bind P Q (Halts (Ended f) w) k h n = tt
fine_bind P Q (Halts GoesOn w) k h n = tt
fine_bind P Q (Halts Lost w) k h n = h

pub fine_both : {A : Type 0} (P : A → Type 0) (o : Out A) → Fine Whatever o → IfGives P o → Fine P o
fine_both P (Gives a w) h k = k
fine_both P (Halts (Ended f) w) h k = tt
fine_both P (Halts GoesOn w) h k = tt
fine_both P (Halts Lost w) h k = h

pub fine_settle : {A : Type 0} (p : Place) (o : Try A) (w : World) → Fine Whatever (settle p o w)
fine_settle p (Yields a) w = tt
fine_settle p (Traps t) w = tt
fine_settle p Fails w = tt

fine_moving : (p : Place) (m : Move) (w : World) → Fine Whatever (moving p m w)
fine_moving p (Moves t) w = tt
fine_moving p (Breaks e t) w = tt
fine_moving p Misses w = tt

-- A linkage, and the units whose calls are not lost.
module _ (l : Linkage) (call : ℕ → List Spot → World → Out ⊤) (IsFound : ℕ → Type 0) (finds : (v : ℕ) (ps : List Spot) → IsFound v → (w : World) → Fine Whatever (call v ps w)) (most : ℕ) (tick : ℕ → ℕ) where
  abbrev pub Leads : Text → Type 0
  Leads x = (v : ℕ) → l.find x ≡ Some v → IsFound v

  -- a name may stand anywhere, but one that is called leads to such units
  abbrev pub AsCalled : ℕ → Using
  AsCalled u = record { alone = Any; listed = λ x. sort_of (l.context u) x ≡ AFunction → Leads x; called = Leads }

  abbrev pub S : Setting
  S = record { linked = l; call = call; begin = λ w. Gives tt (counted w); most = most; tick = tick }

  abbrev pub twice : Sides ⊤
  twice = record {
    linked1 = l;
    linked2 = l;
    call1 = λ i. call;
    begin1 = λ i w. Gives tt (counted w);
    most1 = λ i. most;
    tick1 = λ i. tick;
    call2 = call;
    begin2 = λ w. Gives tt (counted w);
    most2 = most;
    tick2 = tick;
    K = λ u. Any;
    Listed = λ u x. sort_of (l.context u) x ≡ AFunction → Leads x;
    Called = λ u. Leads;
    Fair = AnySpot;
    At = λ p q. ⊤;
  }

  -- the part on the second side is not lost
  abbrev pub N : (A : Type 0) → (⊤ → World → Out A) → (World → Out A) → Type 0
  N A m1 m2 = (w : World) → Fine Whatever (m2 w)

  pub stores_fine : (p : Place) (q : Spot) (c : Content) (w : World) → Fine {A = ⊤} Whatever (bind (settle p (stored l q c w.state.store) w) (λ st w1. Gives tt (holding st w1)))
  stores_fine p q c w = fine_bind Whatever Whatever (settle p (stored l q c w.state.store) w) _ (fine_settle p (stored l q c w.state.store) w) (λ a _ w1. tt)

  pub holds_fine : Holds ⊤ twice N N
  holds_fine = plainly ⊤ twice N (record {
    scope = any_scope l;
    same = same_names (λ u. Any) AnySpot l;
    uses = record { listed = λ u x used. tt; called = λ u x used. tt; function = λ u x used is. used is };
    gives = λ a w. tt;
    ends = λ e w. tt;
    traps = λ t p q same w. tt;
    binds = λ {A} {B} {P} {m1} {m2} {g1} {g2} h post k w. fine_bind P Whatever (m2 w) (λ a w1. g2 a w1) (fine_both P (m2 w) (h w) (post w)) (λ a ok w1. k a ok w1);
    loads = λ f ok k p fair w. fine_settle f.there (asked k (held l p w.state.store)) w;
    stores = λ f ok p fair c w. stores_fine f.there p c w;
    tapes = λ f ok h step w. fine_moving f.there (h w.state.tape) w;
    takes = λ f ok h step w. fine_bind Whatever Whatever (settle f.there (h w.state.tape) w) (λ r w1. Gives r.0 (taping r.1 w1)) (fine_settle f.there (h w.state.tape) w) (λ a _ w1. tt);
  }) (λ A m1 m2 h w. h (ticked S w)) (λ u x v ps used e fair. finds v ps (used v e))

  abbrev pub both : Frame → Frames
  both f = record { unit = f.unit; actuals = f.actuals; here = f.place; there = f.place }

  pub free : (f : Frames) → Good twice f
  free f = record { places = tt; actuals = any_fair f.actuals }

  pub many_fine : (n : ℕ) (f : Frames) (x : Text) (k : LoopParameters) (m2 : World → Out ⊤) → ((w : World) → Fine Whatever (m2 w)) → (w : World) → Fine Whatever (item_turns n S (two f) x k m2 w)
  many_fine zero f x k m2 h w = tt
  many_fine (suc n) f x k m2 h w =
      fine_bind Whatever Whatever (m2 (counted w)) _ (h (counted w)) (λ _ _ w2.
      fine_bind Whatever Whatever (loop_turn S (two f) x k w2) _ (turn_holds ⊤ twice N N holds_fine f (free f) x tt k w2) (λ on _ w3. chosen on w3 (many_fine n f x k m2 h w3)))
    where
      chosen : (v : Bool) (w3 : World) → Fine Whatever (item_turns n S (two f) x k m2 w3) → Fine {A = ⊤} Whatever (choose v (item_turns n S (two f) x k m2 w3) (Gives tt w3))
      chosen true w3 g = g
      chosen false w3 g = tt

  pub value_fine : (f : Frame) (e : Formula) → NamesBy (AsCalled f.unit) e → (w : World) → Fine Whatever (value_of S f e w)
  value_fine f e used w = value_holds ⊤ twice N N holds_fine (both f) (free (both f)) e used w

  pub asks_fine : (f : Frame) (e : Formula) → NamesBy (AsCalled f.unit) e → (w : World) → Fine Whatever (asks S f e w)
  asks_fine f e used w = asks_hold ⊤ twice N N holds_fine (both f) (free (both f)) e used w

  pub start_fine : (f : Frame) (x : Text) (a b c : Par) (w : World) → Fine Whatever (loop_start S f x a b c w)
  start_fine f x a b c w = start_holds ⊤ twice N N holds_fine (both f) (free (both f)) x a b c tt (any_par a) (any_par b) (any_par c) w

  pub turn_fine : (f : Frame) (x : Text) (k : LoopParameters) (w : World) → Fine Whatever (loop_turn S f x k w)
  turn_fine f x k w = turn_holds ⊤ twice N N holds_fine (both f) (free (both f)) x tt k w

  does_not_lose : (f : Frame) (a : Act) → NamesOfActBy (AsCalled f.unit) a → (w : World) → Fine Whatever (does S f a w)
  does_not_lose f a used w = does_holds ⊤ twice N N holds_fine (λ f1 ok x used k m1 m2 h. many_fine most f1 x k m2 h) (both f) (free (both f)) a used w

  -- ---- where a plain statement leads ----

  module _ (lists : List Commands) where
    abbrev pub ExitLands : Exit → Type 0
    ExitLands Normal = ⊤
    ExitLands (To l) = stands_in l lists ≡ true
    ExitLands Back = ⊤

    abbrev IsIn : ℕ → Type 0
    IsIn l = stands_in l lists ≡ true

    nth_lands : (ls : List ℕ) (n : ℕ) → AllStandIn ls lists → IfYields IsIn (nth ls n)
    nth_lands [] n h = tt
    nth_lands (l1 ∷ ls) zero h = h.0
    nth_lands (l1 ∷ ls) (suc n) h = nth_lands ls n h.1

    label_lands : (ls : List ℕ) (v : Content) → AllStandIn ls lists → IfYields IsIn (label_at ls v)
    label_lands ls (Whole (pos zero)) h = tt
    label_lands ls (Whole (pos (suc n))) h = nth_lands ls n h
    label_lands ls (Whole (negsuc n)) h = tt
    label_lands ls Nothing h = tt
    label_lands ls (Truth b) h = tt

    sign_lands : (n m k : ℕ) (v : Content) → IsIn n × IsIn m × IsIn k → IfYields IsIn (by_sign_of n m k v)
    sign_lands n m k (Whole (pos zero)) h = h.1
    sign_lands n m k (Whole (pos (suc z))) h = h.2
    sign_lands n m k (Whole (negsuc z)) h = h.0
    sign_lands n m k Nothing h = tt
    sign_lands n m k (Truth b) h = tt

    through : {A : Type 0} (o : Out A) (k : A → World → Out Exit) → ((a : A) (w : World) → IfGives ExitLands (k a w)) → IfGives ExitLands (bind o k)
    through o k h = post_bind Whatever ExitLands o k (post_any o) (λ a _ w. h a w)

    to_label : (p : Place) (o : Try ℕ) (w : World) → IfYields IsIn o → IfGives ExitLands (bind (settle p o w) (λ l w2. Gives (To l) w2))
    to_label p o w h = post_bind IsIn ExitLands (settle p o w) (λ l w2. Gives (To l) w2) (post_settle IsIn p o h w) (λ l ok w2. ok)

    return_lands : (b : Bool) (w : World) → IfGives ExitLands (returned b w)
    return_lands true w = tt
    return_lands false w = tt

    call_lands : (o : Option ℕ) (spots : World → Out (List Spot)) (w : World) → IfGives ExitLands (invoked S o spots w)
    call_lands None spots w = tt
    call_lands (Some v) spots w = through (spots w) _ (λ ps w1. through (call v ps w1) _ (λ _ w2. tt))

    record_lands : (f : Frame) (way : Way) (u : Par) (m : ℕ) (es : Entries) (w : World) → IfGives ExitLands (record_by S f way u m es w)
    record_lands f way u m es w =
        through (par_in S f u w) _ (λ v w1. through (settle f.place (on_unit way v) w1) _ (λ _ w2.
        through (taped f.place (opened_by way (format_of m (around S f).notes)) w2) _ (λ _ w3. through (items S f way es w3) _ (λ _ w4.
        through (taped f.place closed w4) _ (λ _ w5. tt)))))

    lands : (f : Frame) (a : Act) (w : World) → ActLands lists a → IfGives ExitLands (does S f a w)
    lands f (Assign x e) w h = through (locate S f x w) _ (λ p w1. through (value_of S f e w1) _ (λ v w2. through (store_at S f p v w2) _ (λ _ w3. tt)))
    lands f (Goto m) w h = h
    lands f (Computed ls x) w h = through (variable_in S f x w) _ (λ v w1. to_label f.place (label_at ls v) w1 (label_lands ls v h))
    lands f (Sign e n m k) w h = through (value_of S f e w) _ (λ v w1. to_label f.place (by_sign_of n m k v) w1 (sign_lands n m k v h))
    lands f (When e a) w h = tt
    lands f (Loop m x a b c) w h = tt
    lands f (Invoke x es) w h = call_lands (l.find x) (spots_of S f es) w
    lands f Continue w h = tt
    lands f (Stop None) w h = tt
    lands f (Stop (Some n)) w h = tt
    lands f Return w h = return_lands (is_main (around S f).header) w
    lands f (Read u m es) w h = record_lands f Reading u m es w
    lands f (Write u m es) w h = record_lands f Writing u m es w
    lands f (Format fs) w h = tt
    lands f (Typed t ds) w h = tt
    lands f (Dimension ds) w h = tt
    lands f (Common areas) w h = tt
    lands f (Equivalence es) w h = tt
    lands f (Preset ps) w h = tt

    pub does_fine : (f : Frame) (a : Act) → NamesOfActBy (AsCalled f.unit) a → (w : World) → ActLands lists a → Fine ExitLands (does S f a w)
    does_fine f a used w h = fine_both ExitLands (does S f a w) (does_not_lose f a used w) (lands f a w h)
