-- The code of expressions, lists and statements is as long as is said without it.
use Rattle.std.proofs.Common.{◌≡◌, ℕ, ◌+◌, Bool, true, false, List, [], ◌∷◌, ◌++◌, length, Option, Some, None, Vec, Global, Result, Ok, Err, IfOk, refl, arith, length-append}
use Rattle.ground.specs.declared.value.Kind.{Kind}
use Rattle.f66_tree.specs.declared.editing.Way.{Way}
use Rattle.f66_tree.specs.declared.editing.Way.TheVariants.{Reading, Writing}
use Rattle.f66_tree.specs.declared.declaration.Par.{Par as MemoryPar}
use Rattle.f66_tree.specs.declared.statement.Entry.{Entry as MemoryEntry}
use Rattle.f66_tree.specs.declared.statement.Entry.TheVariants as entries
use Rattle.f66_tree.specs.Views.{par_of, entry_of, entries_of}
use Rattle.f66_tree.specs.Syntax as f66
use Rattle.f66_tree.specs.Syntax.{Text, Formula, Int, Letter, Ref, Item, Group, Plus, Minus, Not, Pair, Formulas, NoFormula, AndFormula, Par, Constant, Named, Entry, One, Many, Entries, NoEntry, AndEntry, Act, Assign, Goto, Computed, Sign, When, Loop, Invoke, Stop, Return, Read, Write}
use Rattle.f66_tree.specs.Units.{kind_of, sizes_of}
use Rattle.f66_tree.specs.Evaluation.{Sort, AnArray, AnIntrinsic, AFunction, sort_of, names_place}
use Rattle.stack_code.specs.Instructions as i
use Rattle.stack_code.specs.Instructions.{Instruction}
use Rattle.code_gen.specs.Layout.{Layout}
use Rattle.code_gen.specs.Expressions.{count, own_code, function_number, element_code, called_code, applied_code, place_by, place_code, actual_code, operator_code, value_code, values_code, actuals_code, par_code, pars_code, room_of, rooms_to_hand}
use Rattle.code_gen.specs.Statements as code
use Rattle.code_gen.specs.Statements.{whole_code, item_code, items_size, entry_size, invoked_code}
use Rattle.code_emit.specs.Sizes.{par_size, pars_size, element_size, called_size, invoked_size, applied_size, element_place, actual_size, value_size, values_size, place_size, actuals_size, item_size, list_size, part_size, act_size, counting_size}
use Rattle.code_emit.proofs.ListLemmas.{many_seen}

module _ (y : Layout) (u : ℕ) where
  par_sized : (n : Par) → length (par_code y u n) ≡ par_size n
  par_sized (Constant z) = refl
  par_sized (Named x) = refl

  pars_sized : (ns : List Par) → length (pars_code y u ns) ≡ pars_size ns
  pars_sized [] = refl
  pars_sized (n ∷ ns) = omega (arith, length-append (par_code y u n) (pars_code y u ns), par_sized n, pars_sized ns)

  element_sized : (x : Text) (ns : List Par) (vals : List Instruction) (n : ℕ) → length vals ≡ n → length (element_code y u x ns vals) ≡ element_size ns n
  element_sized x ns vals n e =
      let last = i.Element (length ns) ∷ [] in
      omega (arith, length-append vals (pars_code y u ns ++ last), length-append (pars_code y u ns) last, pars_sized ns)

  called_sized : (x : Text) (o : Option ℕ) (k : ℕ) (actuals : List Instruction) (n : ℕ) → length actuals ≡ n → length (called_code y u x o k actuals) ≡ called_size o n
  called_sized x None k actuals n e = refl
  called_sized x (Some v) k actuals n e = omega (arith, length-append actuals (own_code y v x ∷ i.Forget ∷ i.Call (y.entry v) k ∷ own_code y v x ∷ i.Load (kind_of (y.linked.context u) x) ∷ []), e)

  applied_sized : (x : Text) (so : Sort) (k : ℕ) (vals actuals : List Instruction) (n m : ℕ) → length vals ≡ n → length actuals ≡ m → length (applied_code y u x so k vals actuals) ≡ applied_size (y.linked.find x) so n m
  applied_sized x (AnArray ns) k vals actuals n m e f =
      let last = i.Load (kind_of (y.linked.context u) x) ∷ [] in
      omega (arith, length-append (element_code y u x ns vals) last, element_sized x ns vals n e)
  applied_sized x (AnIntrinsic g) k vals actuals n m e f = omega (arith, length-append vals (i.Known (function_number g) k ∷ []))
  applied_sized x AFunction k vals actuals n m e f = called_sized x (y.linked.find x) k actuals m f

  element_placed : (x : Text) (so : Sort) (vals : List Instruction) (n : ℕ) → length vals ≡ n → length (place_by y u x so vals) ≡ element_place so n
  element_placed x (AnArray ns) vals n e = element_sized x ns vals n e
  element_placed x (AnIntrinsic g) vals n e = refl
  element_placed x AFunction vals n e = refl

  actual_sized : (b : Bool) (q : ℕ) (place val : List Instruction) (n m : ℕ) → length place ≡ n → length val ≡ m → length (actual_code b q place val) ≡ actual_size b n m
  actual_sized true q place val n m e f = e
  actual_sized false q place val n m e f = omega (arith, length-append val (i.Lend q ∷ []))

  mutual
    pub value_sized : (e : Formula) → length (value_code y u e) ≡ value_size y u e
    value_sized (Int a) = refl
    value_sized (f66.Truth b) = refl
    value_sized (Letter a) = refl
    value_sized (Ref x) = refl
    value_sized (Item x es) = applied_sized x (sort_of (y.linked.context u) x) (count es) (values_code y u es) (actuals_code y u es) (values_size y u es) (actuals_size y u es) (values_sized es) (actuals_sized es)
    value_sized (Group a) = value_sized a
    value_sized (Plus a) = value_sized a
    value_sized (Minus a) = omega (arith, length-append (value_code y u a) (i.Minus ∷ []), value_sized a)
    value_sized (Not a) = omega (arith, length-append (value_code y u a) (i.Not ∷ []), value_sized a)
    value_sized (Pair op a b) =
        let last = operator_code op ∷ [] in
        omega (arith, length-append (value_code y u a) (value_code y u b ++ last), length-append (value_code y u b) last, value_sized a, value_sized b)

    values_sized : (es : Formulas) → length (values_code y u es) ≡ values_size y u es
    values_sized NoFormula = refl
    values_sized (AndFormula e es) = omega (arith, length-append (value_code y u e) (values_code y u es), value_sized e, values_sized es)

    place_sized : (e : Formula) → length (place_code y u e) ≡ place_size y u e
    place_sized (Ref x) = refl
    place_sized (Item x es) = element_placed x (sort_of (y.linked.context u) x) (values_code y u es) (values_size y u es) (values_sized es)
    place_sized _ = refl

    actuals_sized : (es : Formulas) → length (actuals_code y u es) ≡ actuals_size y u es
    actuals_sized NoFormula = refl
    actuals_sized (AndFormula e es) =
        let c = y.linked.context u in
        let q = y.spare u + (room_of c e + rooms_to_hand c es) in
        omega (arith, length-append (actual_code (names_place c e) q (place_code y u e) (value_code y u e)) (actuals_code y u es), actual_sized (names_place c e) q (place_code y u e) (value_code y u e) (place_size y u e) (value_size y u e) (place_sized e) (value_sized e), actuals_sized es)

  -- ---- lists ----

  whole_sized : (way : Way) (k : Kind) (ns : List Par) → length (whole_code y u way k ns) ≡ pars_size ns + 1
  whole_sized way k [] = refl
  whole_sized way k (n ∷ ns) = omega (arith, length-append (pars_code y u (n ∷ ns)) (i.Row way k (length (n ∷ ns)) ∷ []), pars_sized (n ∷ ns))

  item_sized : (way : Way) (e : Formula) → length (item_code y u way e) ≡ item_size y u e
  item_sized way (Ref x) = omega (arith, whole_sized way (kind_of (y.linked.context u) x) (sizes_of x (y.linked.context u).notes))
  item_sized way (Item x es) = omega (arith, length-append (place_code y u (Item x es)) (i.Item way (kind_of (y.linked.context u) x) ∷ []), place_sized (Item x es))
  item_sized way _ = refl

  mutual
    list_sized : (way : Way) (es : Entries) → items_size y u way es ≡ list_size y u es
    list_sized way NoEntry = refl
    list_sized way (AndEntry e es) = omega (arith, part_sized way e, list_sized way es)

    part_sized : (way : Way) (e : Entry) → entry_size y u way e ≡ part_size y u e
    part_sized way (One e) = item_sized way e
    part_sized way (Many es x a b d) = omega (arith, par_sized a, par_sized b, par_sized d, list_sized way es)

  -- ---- statements ----

  invoked_sized : (o : Option ℕ) (k : ℕ) (actuals : List Instruction) (n : ℕ) → length actuals ≡ n → length (invoked_code y u o k actuals) ≡ invoked_size o n
  invoked_sized None k actuals n e = refl
  invoked_sized (Some v) k actuals n e = omega (arith, length-append actuals (i.Call (y.entry v) k ∷ []))

  pub act_sized : (a : Act) → code.act_size y u a ≡ act_size y u a
  act_sized (Assign x e) = omega (arith, place_sized x, value_sized e)
  act_sized (Goto l) = refl
  act_sized (Computed ls x) = refl
  act_sized (Sign e n m k) = omega (arith, value_sized e)
  act_sized (When e a) = let h = act_sized a in omega (arith, value_sized e)
  act_sized (Loop l x a b d) = omega (arith, par_sized a, par_sized b, par_sized d)
  act_sized (Invoke x es) = invoked_sized (y.linked.find x) (count es) (actuals_code y u es) (actuals_size y u es) (actuals_sized es)
  act_sized (Stop n) = refl
  act_sized Return = refl
  act_sized (Read a l es) = omega (arith, par_sized a, list_sized Reading es)
  act_sized (Write a l es) = omega (arith, par_sized a, list_sized Writing es)
  act_sized _ = refl

-- how long an implied DO in memory is
pub many_sized : {E : Type 0} (y : Layout) (u : ℕ) (result : Result ℕ E) (e : MemoryEntry) (list : Vec MemoryEntry Global) (x : Text) (a b d : MemoryPar) (seen : List MemoryEntry) (size whole begin : ℕ) → e ≡ entries.Many list x a b d → seen ≡ list.items →
    size ≡ list_size y u (entries_of seen) → begin ≡ counting_size (par_of a) (par_of b) (par_of d) → whole ≡ size + begin → IfOk result (λ n. n ≡ whole + 3) → IfOk result (λ n. n ≡ part_size y u (entry_of e))
many_sized y u (Ok n) e list x a b d seen size whole begin is at sized first sum k = (let said = many_seen (part_size y u) e list x a b d seen is at in omega arith)
many_sized y u (Err n) e list x a b d seen size whole begin is at sized first sum k = k
