-- Lists of areas agree in memory as they do by the definition.
use Rattle.std.proofs.Common.{◌≡◌, ◌<◌, ◌≤◌, ◌+◌, cond, length, map, take, get_or, ℕ, nat_eq, Bool, true, false, not, ◌||◌, ◌&&◌, List, [], ◌∷◌, ◌++◌, find, Option, Some, None, refl, sym, ap, subst, ◌∙◌, arith, if◌then◌else◌}
use Rattle.std.specs.List.{list_any}
use Rattle.std.specs.Option.{option_or}
use Rattle.std.proofs.lemmas.List.Folds.{find-append}
use Rattle.rule_table.specs.Words.{is_some_and}
use Rattle.std.proofs.lemmas.List.{map-append, take_all, take_more}
use Rattle.efl_tree.specs.declared.procedure.EflProcedure as procedures
use Rattle.efl_tree.specs.Views.{procedure_of}
use Rattle.efl_tree.specs.Syntax.{Text, EflDecl, EflProcedure}
use Rattle.efl_scope.specs.declared.areas.Sort.{Sort}
use Rattle.efl_scope.specs.declared.areas.AreaLists.{AreaLists}
use Rattle.efl_scope.specs.DataTypes.{DataType, is_sound, is_large, is_faulty, same_type, agrees, agree}
use Rattle.efl_scope.specs.Scopes.{declared_in, naming}
use Rattle.efl_scope.specs.ScopeRules.{is_of, has_area, area_list, lists_agree}
use Rattle.efl_scope.specs.AreaViews.{sort_agrees, sorts_agree, sorts_of, agreeing_in, AreAgreements}
use Rattle.efl_scoped.specs.Numbers.{Table, Grows, AreDistinct, AreAbove}
use Rattle.efl_scoped.specs.Told.{TellsSort, TellList, TellAreas, TellEach, TellsFirst, TellFirsts, kinds_in, sorts_in, first_if}
use Rattle.efl_scoped.proofs.WordLemmas.{grows_same}
use Rattle.efl_scoped.proofs.SortLemmas.{list_later}
use Rattle.efl_scoped.proofs.DecodeLemmas.{some_of, type_shares, type_once}

-- ---- procedures one by one ----

pub areas_later : (f g : Table) (ds : List EflDecl) (lists : AreaLists) → Grows f g → TellAreas f ds lists → TellAreas g ds lists
areas_later f g ds lists grows t = record { told = λ q. list_later f g (kinds_in q (declared_in [] (naming ds ∷ []) ds)) (sorts_in lists q) grows (t.told q); named = t.named }

each_later : (f g : Table) (us : List EflProcedure) (lists : List AreaLists) → Grows f g → TellEach f us lists → TellEach g us lists
each_later f g [] [] grows told = tt
each_later f g (u ∷ us) (own ∷ lists) grows told = (areas_later f g u.declarations own grows told.0, each_later f g us lists grows told.1)
each_later f g [] (own ∷ lists) grows told = absurd told
each_later f g (u ∷ us) [] grows told = absurd told

each_more : (g : Table) (us : List EflProcedure) (lists : List AreaLists) (u : EflProcedure) (own : AreaLists) → TellEach g us lists → TellAreas g u.declarations own →
    TellEach g (us ++ u ∷ []) (lists ++ own ∷ [])
each_more g [] [] u own told one = (one, tt)
each_more g (v ∷ us) (l ∷ lists) u own told one = (told.0, each_more g us lists u own told.1 one)
each_more g [] (l ∷ lists) u own told one = absurd told
each_more g (v ∷ us) [] u own told one = absurd told

first_later : (f g : Table) (q : Text) (o : Option EflProcedure) (p : Option (List Sort)) → Grows f g → TellsFirst f q o p → TellsFirst g q o p
first_later f g q None None grows told = tt
first_later f g q (Some u) (Some ss) grows told = list_later f g (area_list q u) ss grows told
first_later f g q None (Some ss) grows told = absurd told
first_later f g q (Some u) None grows told = absurd told

first_more : (g : Table) (q : Text) (o : Option EflProcedure) (p : Option (List Sort)) (u : EflProcedure) (own : AreaLists) (has : Bool) → TellsFirst g q o p →
    TellList g (area_list q u) (sorts_in own q) → TellsFirst g q (option_or o (if has then Some u else None)) (option_or p (first_if own has q))
first_more g q None None u own true was told = told
first_more g q None None u own false was told = tt
first_more g q (Some v) (Some ss) u own has was told = was
first_more g q None (Some ss) u own has was told = absurd was
first_more g q (Some v) None u own has was told = absurd was

-- the first lists of these declarations come, where there are none
abbrev pub Adds : AreaLists → AreaLists → List EflDecl → AreaLists → Type 0
Adds old own ds new = (q : Text) → sorts_of new q ≡ option_or (sorts_of old q) (first_if own (list_any (λ d. is_of q d.kind) ds) q)

-- all is told of the areas of these procedures
pub record AllTold (g : Table) (us : List EflProcedure) (lists : List AreaLists) (first : AreaLists) : Type 0 where
  pub each : TellEach g us lists
  pub firsts : TellFirsts g us first

pub none_told : (g : Table) (firsts : AreaLists) → ((q : Text) → sorts_of firsts q ≡ None) → AllTold g [] [] firsts
none_told g firsts none = record { each = tt; firsts = λ q. subst (TellsFirst g q None) (sym (none q)) tt }

pub one_told : (f g : Table) (us : List EflProcedure) (lists : List AreaLists) (old new : AreaLists) (u : EflProcedure) (own : AreaLists) → AllTold f us lists old → Grows f g →
    TellAreas g u.declarations own → ((q : Text) → sorts_of new q ≡ option_or (sorts_of old q) (first_if own (has_area q u) q)) → AllTold g (us ++ u ∷ []) (lists ++ own ∷ []) new
one_told f g us lists old new u own told grows areas added = record {
  each = each_more g us lists u own (each_later f g us lists grows told.each) areas;
  firsts = λ q.
      subst (TellsFirst g q (find (has_area q) (us ++ u ∷ []))) (sym (added q))
      (subst (λ o. TellsFirst g q o (option_or (sorts_of old q) (first_if own (has_area q u) q))) (sym (find-append (has_area q) us (u ∷ []) ∙ ap (option_or (find (has_area q) us)) (one_found (has_area q u) u)))
      (first_more g q (find (has_area q) us) (sorts_of old q) u own (has_area q u) (first_later f g q (find (has_area q) us) (sorts_of old q) grows (told.firsts q)) (areas.told q)));
}
  where
    one_found : (b : Bool) (u : EflProcedure) → cond b (Some u) None ≡ (if b then Some u else None)
    one_found true u = refl
    one_found false u = refl

-- ---- agreement ----

either_way : (x y : Bool) → (x ≡ true → y ≡ true) → (y ≡ true → x ≡ true) → x ≡ y
either_way true y to from = sym (to refl)
either_way false true to from = from refl
either_way false false to from = refl

eq_same : (m n : ℕ) → nat_eq m n ≡ true → m ≡ n
eq_same m n is = grind (arith, is)

same_eq : (m n : ℕ) → m ≡ n → nat_eq m n ≡ true
same_eq m n is = grind (arith, is)

module _ (g : Table) (distinct : AreDistinct g) (above : AreAbove g) where
  faultless : (t : DataType) → is_faulty t ≡ false → is_sound t ≡ true
  faultless t no_fault = each (is_sound t) (is_large t) no_fault
    where
      each : (s l : Bool) → (not s || l) ≡ false → s ≡ true
      each true l is = refl
      each false l is = absurd cc

  pub sort_matches : (t u : DataType) (a b : Sort) → TellsSort g t a → TellsSort g u b → sort_agrees a b ≡ agrees t u
  sort_matches t u a b one two =
      ap (λ x. (x || b.faulty) || nat_eq a.number b.number) one.faulty ∙ ap (λ x. (is_faulty t || x) || nat_eq a.number b.number) two.faulty ∙ each (is_faulty t) (is_faulty u) refl refl
    where
      each : (x y : Bool) → is_faulty t ≡ x → is_faulty u ≡ y → ((x || y) || nat_eq a.number b.number) ≡ ((x || y) || same_type t u)
      each true y f h = refl
      each false true f h = refl
      each false false f h =
          let na = one.numbered f g (grows_same g) in
          let nb = two.numbered h g (grows_same g) in
          either_way (nat_eq a.number b.number) (same_type t u)
          (λ is. type_once g distinct above t u a.number (faultless t f) (faultless u h) na (nb ∙ ap (λ n. Some n) (sym (eq_same a.number b.number is))))
          (λ is. same_eq a.number b.number (some_of a.number b.number (sym na ∙ type_shares g t u is ∙ nb)))

  lists_match : (ts us : List DataType) (ss os : List Sort) → TellList g ts ss → TellList g us os → sorts_agree ss os ≡ agree ts us
  lists_match [] [] [] [] one two = refl
  lists_match [] (u ∷ us) [] (o ∷ os) one two = refl
  lists_match (t ∷ ts) [] (s ∷ ss) [] one two = refl
  lists_match (t ∷ ts) (u ∷ us) (s ∷ ss) (o ∷ os) one two =
      ap (λ b. b && sorts_agree ss os) (sort_matches t u s o one.0 two.0) ∙ ap (λ b. agrees t u && b) (lists_match ts us ss os one.1 two.1)
  lists_match [] us (s ∷ ss) os one two = absurd one
  lists_match (t ∷ ts) us [] os one two = absurd one
  lists_match [] [] [] (o ∷ os) one two = absurd two
  lists_match [] (u ∷ us) [] [] one two = absurd two
  lists_match (t ∷ ts) [] (s ∷ ss) (o ∷ os) one two = absurd two
  lists_match (t ∷ ts) (u ∷ us) (s ∷ ss) [] one two = absurd two

  module _ (firsts : AreaLists) (all : List EflProcedure) (first : TellFirsts g all firsts) where
    agreeing : (u : EflProcedure) (own : AreaLists) → TellAreas g u.declarations own → (q : Text) → agreeing_in firsts own q ≡ lists_agree all q u
    agreeing u own told q = each (find (has_area q) all) (sorts_of firsts q) (first q)
      where
        each : (o : Option EflProcedure) (p : Option (List Sort)) → TellsFirst g q o p →
            is_some_and (λ ss. sorts_agree ss (sorts_in own q)) p ≡ is_some_and (λ v. agree (area_list q v) (area_list q u)) o
        each None None is = refl
        each (Some v) (Some ss) is = lists_match (area_list q v) (area_list q u) ss (sorts_in own q) is (told.told q)
        each None (Some ss) is = absurd is
        each (Some v) None is = absurd is

    pub all_agree : (us : List EflProcedure) (lists : List AreaLists) → TellEach g us lists → AreAgreements firsts all lists us
    all_agree [] [] told = tt
    all_agree (u ∷ us) (own ∷ lists) told = (agreeing u own told.0, all_agree us lists told.1)
    all_agree [] (own ∷ lists) told = absurd told
    all_agree (u ∷ us) [] told = absurd told

-- ---- procedures before ----

pub procedures_next : (list : List procedures.EflProcedure) (i : ℕ) (u : procedures.EflProcedure) → i < length list → u ≡ get_or list i u →
    map procedure_of (take (i + 1) list) ≡ map procedure_of (take i list) ++ procedure_of u ∷ []
procedures_next list i u lt is = ap (map procedure_of) (take_more list i u lt) ∙ map-append procedure_of (take i list) (get_or list i u ∷ []) ∙ ap (λ v. map procedure_of (take i list) ++ procedure_of v ∷ []) (sym is)

pub procedures_all : (list : List procedures.EflProcedure) (i : ℕ) → length list ≤ i → map procedure_of (take i list) ≡ map procedure_of list
procedures_all list i long = ap (map procedure_of) (take_all i list long)
