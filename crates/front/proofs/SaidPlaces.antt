-- What a unit says that its checks accept has places by the rules of names, though its labels lead nowhere.
use Rattle.std.proofs.Common.{◌≡◌, ◌∙◌, ◌++◌, ℕ, Bool, false, List, [], ◌∷◌, map, Option, None, Some, refl, sym, ap, subst}
use Rattle.std.specs.Prelude.{not, ◌&&◌}
use Rattle.std.specs.Option.{option_or}
use Rattle.std.specs.List.{list_any, slice_get}
use Rattle.std.proofs.lemmas.Bool.{or_parts}
use Rattle.std.proofs.lemmas.List.{map-append}
use Rattle.std.proofs.lemmas.Option.{slice_get_within, get_or_from_slice_get}
use Rattle.rule_table.specs.declared.rule.Rule.{Rule}
use Rattle.rule_table.specs.declared.rule.Rule.TheVariants.{DuplicateName, BadConstant, NotAssignable}
use Rattle.rule_table.specs.Words.{find_map}
use Rattle.f66_tree.specs.Syntax.{Text, Formula, Ref, Item, Header, Act, Continue, Line}
use Rattle.f66_tree.specs.Units.{Context, sizes_of}
use Rattle.f66_names.specs.Sorts.{is_array_name}
use Rattle.f66_names.specs.StoreRules.{has_bad_size, has_bad_constant, stores_wrong}
use Rattle.f66_soundness.specs.SoundUnits.{acts_in_unit}
use Rattle.unit_rules.specs.Listed.{common_in, preset_in}
use Rattle.unit_rules.specs.Storage.{is_held, block_in, is_open_block, may_hold, are_within, takes_value, presets_wrong}
use Rattle.unit_rules.specs.UnitRules.{breaks_rule}
use Rattle.renumbering.specs.Placed.{IsPlaced}
use Rattle.rat_tree.specs.Syntax.{RatRoutine}
use Rattle.rat_check.specs.Parts.{Part, unit_parts}
use Rattle.rat_check.specs.Said.{said_by, said_in, context_of_parts}
use Rattle.rat_check.specs.FirstFault.{unit_fault}
use Rattle.rat_check.proofs.CleanLemmas.{passed}
use Rattle.rat_said.specs.Said.{or_continue, said_line, part_lines, said_lines, said_routine}
use Rattle.rat_link.proofs.ReadyLemmas.{same_context, said_keeps}

-- ---- a CONTINUE gives nothing ----

or_both : {V : Type 0} (a b c : Option V) → option_or a (option_or b c) ≡ option_or (option_or a b) c
or_both None b c = refl
or_both (Some v) b c = refl

module _ {V : Type 0} (f : Act → Option V) (idle : f Continue ≡ None) where
  found_both : (xs ys : List Act) → find_map f (xs ++ ys) ≡ option_or (find_map f xs) (find_map f ys)
  found_both [] ys = refl
  found_both (x ∷ xs) ys = ap (λ o. option_or (f x) o) (found_both xs ys) ∙ or_both (f x) (find_map f xs) (find_map f ys)

  found_continued : (acts : List Act) → find_map f (or_continue acts) ≡ find_map f acts
  found_continued [] = ap (λ o. option_or o None) idle
  found_continued (a ∷ acts) = refl

  found_part : (v : Part) (acts : List Act) → find_map f (acts_in_unit (map (said_line v) acts)) ≡ find_map f acts
  found_part v [] = refl
  found_part v (a ∷ acts) = ap (λ o. option_or (f a) o) (found_part v acts)

  found_so : (h : Header) (vs : List Part) → find_map f (acts_in_unit (said_lines h vs)) ≡ find_map f (said_in h vs)
  found_so h [] = refl
  found_so h (v ∷ vs) =
      let rest = find_map f (acts_in_unit (said_lines h vs)) in
      ap (find_map f) (map-append (λ (s : Line). s.act) (part_lines h v) (said_lines h vs)) ∙ found_both (acts_in_unit (part_lines h v)) (acts_in_unit (said_lines h vs))
      ∙ ap (λ o. option_or o rest) (found_part v (or_continue (said_by h v.form)) ∙ found_continued (said_by h v.form))
      ∙ ap (λ o. option_or (find_map f (said_by h v.form)) o) (found_so h vs) ∙ sym (found_both (said_by h v.form) (said_in h vs))

-- ---- DATA ----

module _ (h : Header) (vs : List Part) where
  abbrev c : Context
  c = context_of_parts h vs

  abbrev acts : List Act
  acts = acts_in_unit (said_lines h vs)

  abbrev said : List Act
  said = said_in h vs

  same_hold : (x : Text) → may_hold c acts x ≡ may_hold c said x
  same_hold x = ap (λ o. not (is_held h x) && is_open_block h o) (found_so (block_in x) refl h vs)

  same_takes : (e : Formula) → takes_value c acts e ≡ takes_value c said e
  same_takes (Ref x) = ap (λ b. not (is_array_name c x) && b) (same_hold x)
  same_takes (Item x es) = ap (λ b. is_array_name c x && (are_within (sizes_of x c.notes) es && b)) (same_hold x)
  same_takes _ = refl

  same_wrong : (a : Act) → presets_wrong c acts a ≡ presets_wrong c said a
  same_wrong a = ap (λ (f : Formula → Bool). list_any (λ p. not (f p)) (preset_in a)) (λ i e. same_takes e i)

-- ---- a unit ----

record IsRight (d : Context) (all : List Act) (a : Act) : Type 0 where
  sizes : has_bad_constant d a ≡ false
  shared : list_any (has_bad_size d) (common_in a) ≡ false
  filled : presets_wrong d all a ≡ false

right : (d : Context) (all : List Act) (n : ℕ) (a : Act) → ((k : Rule) → breaks_rule d all n a k ≡ false) → IsRight d all a
right d all n a keeps =
    let constants = or_parts (has_bad_constant d a) _ (keeps BadConstant) in
    record { sizes = constants.0; shared = (or_parts (list_any (has_bad_size d) (common_in a)) _ constants.1).0; filled = (or_parts (stores_wrong d a) _ (keeps NotAssignable)).1 }

module _ (u : RatRoutine) (clean : unit_fault u ≡ None) where
  abbrev h : Header
  h = u.header

  abbrev vs : List Part
  vs = unit_parts u.body

  abbrev lines : List Line
  lines = said_lines h vs

  right_at : (i : ℕ) (s : Line) → slice_get lines i ≡ Some s → IsRight (c h vs) (said h vs) s.act
  right_at i s is =
      let idle : IsRight (c h vs) (said h vs) Continue = record { sizes = refl; shared = refl; filled = refl } in
      subst (λ (t : Line). IsRight (c h vs) (said h vs) t.act) (get_or_from_slice_get lines i s s is)
      (said_keeps (IsRight (c h vs) (said h vs)) idle u clean (right (c h vs) (said h vs)) i s (slice_get_within lines i s is))

  pub said_is_placed : IsPlaced (said_routine u)
  said_is_placed = record {
    header = (passed h u.place vs clean).headed DuplicateName;
    sizes = λ i s is. subst (λ d. has_bad_constant d s.act ≡ false) (sym (same_context h vs)) (right_at i s is).sizes;
    shared = λ i s is. subst (λ d. list_any (has_bad_size d) (common_in s.act) ≡ false) (sym (same_context h vs)) (right_at i s is).shared;
    filled = λ i s is. subst (λ d. presets_wrong d (acts h vs) s.act ≡ false) (sym (same_context h vs)) (same_wrong h vs s.act ∙ (right_at i s is).filled);
  }
