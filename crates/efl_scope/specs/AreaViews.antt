-- Lists of areas in memory, which of them agree, and the first fault of procedures with their lists.
use Rattle.std.specs.Prelude.{◌≡◌, Bool, true, false, nat_eq, ◌&&◌, ◌||◌, List, [], ◌∷◌, Option, None, unwrap_or, option_map}
use Rattle.std.specs.HashMap.{get_by}
use Rattle.std.specs.Option.{option_or}
use Rattle.std.specs.Str.{bytes_eq}
use Rattle.rule_table.specs.Words.{is_some_and}
use Rattle.ground.specs.declared.fault.Fault.{Fault}
use Rattle.efl_tree.specs.Syntax.{Text, EflProcedure}
use Rattle.efl_scope.specs.declared.areas.Sort.{Sort}
use Rattle.efl_scope.specs.declared.areas.AreaLists.{AreaLists}
use Rattle.efl_scope.specs.declared.areas.Areas.{Areas}
use Rattle.efl_scope.specs.ScopeRules.{Names, lists_agree}
use Rattle.efl_scope.specs.Sights.{procedure_seen}

-- what has a fault agrees with anything
abbrev pub sort_agrees : Sort → Sort → Bool
sort_agrees a b = (a.faulty || b.faulty) || nat_eq a.number b.number

abbrev pub sorts_agree : List Sort → List Sort → Bool
sorts_agree [] [] = true
sorts_agree (a ∷ all) (b ∷ others) = sort_agrees a b && sorts_agree all others
sorts_agree _ _ = false

-- the list of an area, where the procedure has it
abbrev pub sorts_of : AreaLists → Text → Option (List Sort)
sorts_of lists q = option_map (λ v. v.items) (get_by (λ k. bytes_eq q k.now) lists.table)

-- the areas whose lists agree with the first ones
abbrev pub agreeing_in : AreaLists → AreaLists → Names
agreeing_in firsts own q = is_some_and (λ first. sorts_agree first (unwrap_or (sorts_of own q) [])) (sorts_of firsts q)

abbrev pub agreeing_of : Areas → Names
agreeing_of areas = agreeing_in areas.firsts.now areas.own.now

-- lists that tell of each procedure which of its areas agree with those of all procedures
abbrev pub AreAgreements : AreaLists → List EflProcedure → List AreaLists → List EflProcedure → Type 0
AreAgreements firsts all [] [] = Unit {0}
AreAgreements firsts all (own ∷ lists) (u ∷ us) = ((q : Text) → agreeing_in firsts own q ≡ lists_agree all q u) × AreAgreements firsts all lists us
AreAgreements firsts all _ _ = ⊥

-- of procedures, each with its lists
abbrev pub first_along : AreaLists → List AreaLists → List EflProcedure → Option Fault
first_along firsts (own ∷ lists) (u ∷ us) = option_or (procedure_seen (agreeing_in firsts own) u).fault (first_along firsts lists us)
first_along firsts _ _ = None
