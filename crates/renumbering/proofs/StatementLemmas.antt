-- The same of plain statements: the start and the turn of a DO, READ and WRITE, CALL, branches and assignments.
use Rattle.std.proofs.Common.{◌≡◌, ℕ, zero, suc, Bool, true, false, List, [], ◌∷◌, Option, Some, None, refl, sym, subst}
use Rattle.std.specs.Prelude.{◌+◌, ◌+ℤ◌, int_le, ⊤}
use Rattle.ground.specs.declared.value.Kind.{Kind}
use Rattle.ground.specs.declared.value.Kind.TheVariants.{Integer}
use Rattle.ground.specs.Content.{Content, Nothing, Whole, Truth}
use Rattle.f66_tree.specs.declared.editing.Way.{Way}
use Rattle.f66_tree.specs.declared.editing.Way.TheVariants.{Reading, Writing}
use Rattle.f66_tree.specs.Syntax.{Text, Formula, Ref, Item, Par, Entry, One, Many, Entries, NoEntry, AndEntry, Act, Assign, Goto, Computed, Sign, Invoke, Stop, Return, Read, Write}
use Rattle.f66_tree.specs.World.{World, Ended, Done, Stopped, GoesOn, Wrong, Out}
use Rattle.f66_tree.specs.Records.{due, put, take, closed}
use Rattle.f66_tree.specs.Units.{Context, is_main, kind_of, format_of, sizes_of, Spot, Setting, Frame}
use Rattle.f66_tree.specs.Uses.{NamesBy, NameOfPar, NamesOfPars, NamesOfEntryBy, NamesOfEntriesBy, NamesOfActBy}
use Rattle.f66_tree.specs.Evaluation.{store_at, spots_of}
use Rattle.f66_tree.specs.Statements.{Exit, Normal, To, Back, LoopParameters, fit_loop_in, loop_start, turn_of, loop_turn, taped, transfer, edited, row, extent, one_or_row, item, item_turns, items, entry, on_unit, opened_by, record_by, label_at, by_sign_of, returned, invoked, does}
use Rattle.renumbering.proofs.PairLemmas.{Twins, IsReal, AllReal, Pairs, Any, binds, thens, gives, halts, choice, choice_if, settles_any, seen, moves_on, loads, stores, tapes, takes}
use Rattle.renumbering.proofs.ValueLemmas.{Around, side1, side2, IsSite, counts, base_pairs, variable_pairs, par_pairs, pars_pairs, value_pairs, spots_pairs, locate_pairs}

module _ (t : Twins) (a : Around t) (f : Frame) (site : IsSite t f) where
  abbrev s1 : Setting
  s1 = side1 t a

  abbrev s2 : Setting
  s2 = side2 t a

  abbrev K : Text → Type 0
  K x = (t.used f.unit).alone x

  abbrev c2 : Context
  c2 = t.two.context f.unit

  as_seen : (Q : Context → Type 0) → Q c2 → Q (t.one.context f.unit)
  as_seen Q h = seen t f.unit site.inside Q h

  pub store_pairs : (p : Spot) (c : Content) → IsReal t p → Pairs t ⊤ Any (store_at s1 f p c) (store_at s2 f p c)
  store_pairs p c real = stores t f.place p c real

  -- ---- DO ----

  pub start_pairs : (x : Text) (p q r : Par) → K x → NameOfPar K p → NameOfPar K q → NameOfPar K r → Pairs t LoopParameters Any (loop_start s1 f x p q r) (loop_start s2 f x p q r)
  start_pairs x p q r used up uq ur =
      binds t (base_pairs t a f site x used) (λ spot real. thens t (par_pairs t a f site p up) (λ vp. thens t (par_pairs t a f site q uq) (λ vq. thens t (par_pairs t a f site r ur) (λ vr.
      thens t (settles_any t f.place (fit_loop_in vp vq vr)) (λ k. thens t (store_pairs spot vp real) (λ _. gives t Any k tt))))))

  turn_of_pairs : (p : Spot) → IsReal t p → (k : LoopParameters) (v : Content) → Pairs t Bool Any (turn_of s1 f p k v) (turn_of s2 f p k v)
  turn_of_pairs p real k (Whole z) =
      choice_if t (int_le (z +ℤ k.step) k.limit) (thens t (store_pairs p (Whole (z +ℤ k.step)) real) (λ _. gives t Any true tt)) (thens t (store_pairs p Nothing real) (λ _. gives t Any false tt))
  turn_of_pairs p real k Nothing = halts t Any (Ended Wrong)
  turn_of_pairs p real k (Truth b) = halts t Any (Ended Wrong)

  pub turn_pairs : (x : Text) → K x → (k : LoopParameters) → Pairs t Bool Any (loop_turn s1 f x k) (loop_turn s2 f x k)
  turn_pairs x used k = binds t (base_pairs t a f site x used) (λ p real. thens t (loads t f.place Integer p real) (λ v. turn_of_pairs p real k v))

  -- ---- READ and WRITE ----

  transfer_pairs : (way : Way) (k : Kind) (p : Spot) → IsReal t p → Pairs t ⊤ Any (transfer s1 f way k p) (transfer s2 f way k p)
  transfer_pairs Reading k p real = thens t (takes t f.place take) (λ c. store_pairs p c real)
  transfer_pairs Writing k p real = thens t (loads t f.place k p real) (λ c. tapes t f.place (put c))

  edited_pairs : (way : Way) (k : Kind) (p : Spot) → IsReal t p → Pairs t ⊤ Any (edited s1 f way k p) (edited s2 f way k p)
  edited_pairs way k p real = thens t (tapes t f.place (due k)) (λ _. transfer_pairs way k p real)

  row_pairs : (way : Way) (k : Kind) (p : Spot) → IsReal t p → (n j : ℕ) → Pairs t ⊤ Any (row s1 f way k p n j) (row s2 f way k p n j)
  row_pairs way k p real zero j = gives t Any (tt {0}) tt
  row_pairs way k p real (suc n) j = binds t (moves_on t f.place p j real) (λ q ok. thens t (edited_pairs way k q ok) (λ _. row_pairs way k p real n (j + 1)))

  one_or_row_pairs : (way : Way) (k : Kind) (ns : List Par) → NamesOfPars K ns → (p : Spot) → IsReal t p → Pairs t ⊤ Any (one_or_row s1 f way k ns p) (one_or_row s2 f way k ns p)
  one_or_row_pairs way k [] sizes p real = edited_pairs way k p real
  one_or_row_pairs way k (n ∷ ns) sizes p real = thens t (pars_pairs t a f site (n ∷ ns) sizes) (λ ds. thens t (settles_any t f.place (extent ds)) (λ m. row_pairs way k p real m 0))

  item_pairs : (way : Way) (e : Formula) → NamesBy (t.used f.unit) e → Pairs t ⊤ Any (item s1 f way e) (item s2 f way e)
  item_pairs way (Ref x) used =
      binds t (locate_pairs t a f site (Ref x) used) (λ p real.
      as_seen (λ c. Pairs t ⊤ Any (one_or_row s1 f way (kind_of c x) (sizes_of x c.notes) p) (one_or_row s2 f way (kind_of c2 x) (sizes_of x c2.notes) p))
      (one_or_row_pairs way (kind_of c2 x) (sizes_of x c2.notes) (t.dimensions f.unit x site.inside) p real))
  item_pairs way (Item x es) used =
      binds t (locate_pairs t a f site (Item x es) used) (λ p real. as_seen (λ c. Pairs t ⊤ Any (edited s1 f way (kind_of c x) p) (edited s2 f way (kind_of c2 x) p)) (edited_pairs way (kind_of c2 x) p real))
  item_pairs way _ used = halts t Any (Ended Wrong)

  pub turns_pairs : (n : ℕ) (x : Text) → K x → (k : LoopParameters) (m1 m2 : World → Out ⊤) → Pairs t ⊤ Any m1 m2 → Pairs t ⊤ Any (item_turns n s1 f x k m1) (item_turns n s2 f x k m2)
  turns_pairs zero x used k m1 m2 h = halts t Any GoesOn
  turns_pairs (suc n) x used k m1 m2 h =
      thens t a.begins (λ _. thens t h (λ _. thens t (turn_pairs x used k) (λ goes_on. choice t goes_on (turns_pairs n x used k m1 m2 h) (gives t Any (tt {0}) tt))))

  mutual
    items_pairs : (way : Way) (es : Entries) → NamesOfEntriesBy (t.used f.unit) es → Pairs t ⊤ Any (items s1 f way es) (items s2 f way es)
    items_pairs way NoEntry used = gives t Any (tt {0}) tt
    items_pairs way (AndEntry e es) used = thens t (counts t a (entry_pairs way e used.0)) (λ _. items_pairs way es used.1)

    entry_pairs : (way : Way) (e : Entry) → NamesOfEntryBy (t.used f.unit) e → Pairs t ⊤ Any (entry s1 f way e) (entry s2 f way e)
    entry_pairs way (One e) used = item_pairs way e used
    entry_pairs way (Many es x p q r) used = thens t (start_pairs x p q r used.1 used.2 used.3 used.4) (λ k. turns_pairs a.most x used.1 k _ _ (items_pairs way es used.0))

  record_pairs : (way : Way) (u : Par) (m : ℕ) (es : Entries) → NameOfPar K u → NamesOfEntriesBy (t.used f.unit) es → Pairs t Exit Any (record_by s1 f way u m es) (record_by s2 f way u m es)
  record_pairs way u m es uu used =
      thens t (par_pairs t a f site u uu) (λ v. thens t (settles_any t f.place (on_unit way v)) (λ _.
      thens t (as_seen (λ c. Pairs t ⊤ Any (taped f.place (opened_by way (format_of m c.notes))) (taped f.place (opened_by way (format_of m c2.notes)))) (tapes t f.place (opened_by way (format_of m c2.notes)))) (λ _.
      thens t (items_pairs way es used) (λ _. thens t (tapes t f.place closed) (λ _. gives t Any Normal tt)))))

  -- ---- CALL, and the others ----

  invoked_pairs : (o : Option ℕ) → ((v : ℕ) → o ≡ Some v → t.InRun v) → {m1 m2 : World → Out (List Spot)} → Pairs t (List Spot) (AllReal t) m1 m2 → Pairs t Exit Any (invoked s1 o m1) (invoked s2 o m2)
  invoked_pairs None there h = halts t Any (Ended Wrong)
  invoked_pairs (Some v) there h = binds t h (λ ps all. thens t (a.calls v (there v refl) ps all) (λ _. gives t Any Normal tt))

  returned_pairs : (b : Bool) → Pairs t Exit Any (returned b) (returned b)
  returned_pairs true = halts t Any (Ended Done)
  returned_pairs false = gives t Any Back tt

  pub does_pairs : (s : Act) → NamesOfActBy (t.used f.unit) s → Pairs t Exit Any (does s1 f s) (does s2 f s)
  does_pairs (Assign x e) used = binds t (locate_pairs t a f site x used.0) (λ p real. thens t (value_pairs t a f site e used.1) (λ v. thens t (store_pairs p v real) (λ _. gives t Any Normal tt)))
  does_pairs (Goto m) used = gives t Any (To m) tt
  does_pairs (Computed ls x) used = thens t (variable_pairs t a f site x used) (λ v. thens t (settles_any t f.place (label_at ls v)) (λ m. gives t Any (To m) tt))
  does_pairs (Sign e n m k) used = thens t (value_pairs t a f site e used) (λ v. thens t (settles_any t f.place (by_sign_of n m k v)) (λ j. gives t Any (To j) tt))
  does_pairs (Invoke x es) used =
      subst (λ o. Pairs t Exit Any (invoked s1 o (spots_of s1 f es)) (invoked s2 (t.two.find x) (spots_of s2 f es))) (sym (t.finds x)) (invoked_pairs (t.two.find x) (t.called x) (spots_pairs t a f site es used.1))
  does_pairs (Stop None) used = halts t Any (Ended Done)
  does_pairs (Stop (Some n)) used = halts t Any (Ended (Stopped n))
  does_pairs Return used = as_seen (λ c. Pairs t Exit Any (returned (is_main c.header)) (returned (is_main c2.header))) (returned_pairs (is_main c2.header))
  does_pairs (Read u m es) used = record_pairs Reading u m es used.0 used.1
  does_pairs (Write u m es) used = record_pairs Writing u m es used.0 used.1
  does_pairs _ used = gives t Any Normal tt
