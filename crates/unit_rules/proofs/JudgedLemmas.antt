-- A statement whose targets and items are places has all its names judged.
use Rattle.std.proofs.Common.{◌≡◌, true, false, [], ◌++◌, refl, ap, ◌∙◌}
use Rattle.std.specs.Prelude.{not, if◌then◌else◌}
use Rattle.std.proofs.lemmas.Bool.{and_parts, or_parts, not-false}
use Rattle.f66_tree.specs.declared.editing.Way.{Way}
use Rattle.f66_tree.specs.declared.editing.Way.TheVariants.{Reading, Writing}
use Rattle.f66_tree.specs.Syntax.{Formula, Item, Entry, One, Many, Entries, NoEntry, AndEntry, Act, Assign, When, Read, Write}
use Rattle.f66_tree.specs.Units.{Context}
use Rattle.f66_names.specs.Sorts.{is_array_name}
use Rattle.f66_names.specs.Kinds.{is_counting, is_listed, is_entry, are_entries}
use Rattle.f66_names.specs.StoreRules.{is_assignable, is_readable, stores_item, stores_entry, store_entries, stores_wrong}
use Rattle.f66_names.specs.Uses.{uses_of, uses_of_target, uses_of_par, uses_of_counting, uses_of_entry, uses_of_entries, uses_in}
use Rattle.unit_rules.specs.Judged.{judged_of_target, judged_of_entry, judged_of_entries, judged_uses}
use Rattle.unit_rules.specs.Types.{fits, clashes}

module _ (c : Context) where
  pub target_same : (e : Formula) → is_readable c e ≡ true → judged_of_target c e ≡ uses_of_target e
  target_same (Item x es) h = ap (λ b. if b then uses_of_target (Item x es) else []) h
  target_same _ h = refl

  assignable : (e : Formula) → is_assignable c e ≡ true → is_readable c e ≡ true
  assignable (Item x es) h = h
  assignable _ h = refl

  listed : (way : Way) (e : Formula) → is_listed way c e ≡ true → stores_item way c e ≡ true → is_readable c e ≡ true
  listed Reading e l s = s
  listed Writing (Item x es) l s = (and_parts (is_array_name c x) _ l).0
  listed Writing _ l s = refl

  mutual
    entry_same : (way : Way) (e : Entry) → is_entry way c e ≡ true → stores_entry way c e ≡ true → judged_of_entry c e ≡ uses_of_entry e
    entry_same way (One e) l s = target_same e (listed way e l s)
    entry_same way (Many es x p q r) l s =
        ap (λ us. us ++ uses_of_counting x p q r) (entries_same way es (and_parts (are_entries way c es) _ l).0 (and_parts (store_entries way c es) _ s).0)

    entries_same : (way : Way) (es : Entries) → are_entries way c es ≡ true → store_entries way c es ≡ true → judged_of_entries c es ≡ uses_of_entries es
    entries_same way NoEntry l s = refl
    entries_same way (AndEntry e es) l s =
        let p = and_parts (is_entry way c e) (are_entries way c es) l in
        let q = and_parts (stores_entry way c e) (store_entries way c es) s in
        ap (λ us. us ++ judged_of_entries c es) (entry_same way e p.0 q.0) ∙ ap (λ us. uses_of_entry e ++ us) (entries_same way es p.1 q.1)

  pub judged_same : (a : Act) → clashes c a ≡ false → stores_wrong c a ≡ false → judged_uses c a ≡ uses_in a
  judged_same (Assign x e) k s = ap (λ us. us ++ uses_of e) (target_same x (assignable x (not-false _ s)))
  judged_same (When e a) k s = ap (λ us. uses_of e ++ us) (judged_same a (or_parts (not (fits c e _)) _ k).1 s)
  judged_same (Read u l es) k s = ap (λ us. uses_of_par u ++ us) (entries_same Reading es (and_parts (is_counting c u) _ (not-false _ k)).1 (not-false _ s))
  judged_same (Write u l es) k s = ap (λ us. uses_of_par u ++ us) (entries_same Writing es (and_parts (is_counting c u) _ (not-false _ k)).1 (not-false _ s))
  judged_same _ k s = refl
