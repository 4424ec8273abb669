-- The types of letters, as rules come.
use Rattle.std.proofs.Common.{◌≡◌, ◌+◌, ◌<◌, ◌≤◌, Vec, Global, ℕ, nat_eq, nat_le, nat_lt, Bool, true, false, cond, ◌&&◌, List, [], ◌∷◌, ◌++◌, map, reverse, Option, Some, None, unwrap_or, refl, sym, ap, subst, ◌∙◌, append_assoc, arith, if◌then◌else◌}
use Rattle.std.specs.List.{slice_get}
use Rattle.std.specs.Option.{option_or}
use Rattle.std.proofs.lemmas.List.{append-nil, reverse-append}
use Rattle.rule_table.specs.Words.{find_map}
use Rattle.ground.specs.declared.value.Kind.{Kind}
use Rattle.ground.specs.declared.value.Kind.TheVariants.{Integer}
use Rattle.efl_tree.specs.declared.declaration.EflType as decl_types
use Rattle.efl_tree.specs.declared.declaration.EflDeclKind as decl_kinds
use Rattle.efl_tree.specs.declared.declaration.EflDeclKind.TheVariants as memory
use Rattle.efl_tree.specs.Views.{decl_kind_of}
use Rattle.efl_tree.specs.Syntax.{Text, EflType, Implicit, EflDecl}
use Rattle.efl_scope.specs.DataTypes.{DataType, Scalar, NoType}
use Rattle.efl_scope.specs.Scopes.{Blocks, Implied, gives, data_type, implied_by, implied_in}
use Rattle.efl_built.specs.Unbuilt.{is_plain, unbuilt_declaration}
use Rattle.efl_program.specs.Typed as typed
use Rattle.efl_typed.specs.Typing.{sort_of}
use Rattle.efl_bindings.specs.declared.letters.Letters.{Letters}
use Rattle.efl_bindings.specs.Bindings.{letter_in, letter_kind, kind_by, AreLetters}
use Rattle.efl_bindings.specs.Sites.{are_built}
use Rattle.efl_bindings.specs.Declarations.{GivesAll, Implies, ImpliesAll}
use Rattle.efl_bindings.proofs.BuiltLemmas.{not_false, first_built, rest_built, quiet}

-- ---- a rule, letter by letter ----

module _ (k : Kind) (o : Option Kind) where
  pub letters_begun : (first c : ℕ) → o ≡ (if nat_le first c && nat_lt c first then Some k else o)
  letters_begun first c = each (nat_le first c) (nat_lt c first) refl refl
    where
      each : (a b : Bool) → nat_le first c ≡ a → nat_lt c first ≡ b → o ≡ (if a && b then Some k else o)
      each true true low high = absurd (grind (arith, low, high))
      each true false low high = refl
      each false b low high = refl

  pub letters_next : (first i c : ℕ) → first ≤ i →
      cond (nat_eq i c) (Some k) (if nat_le first c && nat_lt c i then Some k else o) ≡ (if nat_le first c && nat_lt c (i + 1) then Some k else o)
  letters_next first i c from = each (nat_eq i c) (nat_le first c) (nat_lt c i) (nat_lt c (i + 1)) refl refl refl refl
    where
      each : (a b p q : Bool) → nat_eq i c ≡ a → nat_le first c ≡ b → nat_lt c i ≡ p → nat_lt c (i + 1) ≡ q →
          cond a (Some k) (if b && p then Some k else o) ≡ (if b && q then Some k else o)
      each true true p true same low before now = refl
      each true true p false same low before now = absurd (grind (arith, same, now))
      each true false p q same low before now = absurd (grind (arith, same, low, from))
      each false true true true same low before now = refl
      each false true true false same low before now = absurd (grind (arith, before, now))
      each false true false true same low before now = absurd (grind (arith, same, before, now))
      each false true false false same low before now = refl
      each false false p q same low before now = refl

  pub letters_ended : (first last i c : ℕ) → last + 1 ≤ i → (first ≤ last + 1 → i ≤ last + 1) → (last + 1 < first → i ≡ first) →
      (if nat_le first c && nat_lt c i then Some k else o) ≡ (if nat_le first c && nat_le c last then Some k else o)
  letters_ended first last i c past up none = each (nat_le first c) (nat_lt c i) (nat_le c last) refl refl refl
    where
      over : (b : Bool) → nat_le first (last + 1) ≡ b → nat_le first c ≡ true → nat_lt c i ≡ true → nat_le c last ≡ false → ⊥
      over true is low before now = let h : first ≤ last + 1 = grind (arith, is) in let e : i ≤ last + 1 = up h in grind (arith, e, before, now)
      over false is low before now = let h : last + 1 < first = grind (arith, is) in let e : i ≡ first = none h in grind (arith, e, before, low)

      each : (a b q : Bool) → nat_le first c ≡ a → nat_lt c i ≡ b → nat_le c last ≡ q → (if a && b then Some k else o) ≡ (if a && q then Some k else o)
      each true true true low before now = refl
      each true true false low before now = absurd (over (nat_le first (last + 1)) refl low before now)
      each true false true low before now = absurd (grind (arith, past, before, now))
      each true false false low before now = refl
      each false b q low before now = refl

-- ---- names ----

pub no_letter : (letters : Letters) (x : Text) → None ≡ slice_get x 0 → Integer ≡ kind_by letters x
no_letter letters [] none = refl
no_letter letters (c ∷ cs) none = absurd cc

pub first_letter : (letters : Letters) (x : Text) (c : ℕ) → Some c ≡ slice_get x 0 → letter_kind letters c ≡ kind_by letters x
first_letter letters [] c is = absurd cc
first_letter letters (b ∷ bs) c is = let e : c ≡ b = cc in ap (letter_kind letters) e

-- ---- rules ----

abbrev pub rule : Kind → ℕ × ℕ → Implied
rule k r = record { first = r.0; last = r.1; kind = Scalar k }

-- what is given without a rule is no logical
plain_sort : (b : Bool) → sort_of (if b then Scalar Integer else NoType) ≡ typed.Scalar Integer
plain_sort true = refl
plain_sort false = refl

pub no_rules : (letters : Letters) → ((c : ℕ) → letter_in letters c ≡ None) → AreLetters [] letters
no_rules letters none [] = refl
no_rules letters none (c ∷ cs) = plain_sort (nat_le 73 c && nat_le c 78) ∙ ap (λ o. typed.Scalar (unwrap_or o Integer)) (sym (none c))

one_given : (b : Bool) (o : Option DataType) (p : Option Kind) (t : DataType) (k : Kind) → sort_of (unwrap_or o t) ≡ typed.Scalar (unwrap_or p Integer) →
    sort_of (unwrap_or (option_or (if b then Some (Scalar k) else None) o) t) ≡ typed.Scalar (unwrap_or (if b then Some k else p) Integer)
one_given true o p t k is = refl
one_given false o p t k is = is

-- a range gives a type, whatever was there
abbrev pub GivesRange : Kind → Letters → ℕ × ℕ → Letters → Type 0
GivesRange k old r new = (c : ℕ) → letter_in new c ≡ (if nat_le r.0 c && nat_le c r.1 then Some k else letter_in old c)

rule_comes : (rules : List Implied) (old new : Letters) (r : ℕ × ℕ) (k : Kind) → AreLetters rules old → GivesRange k old r new → AreLetters (rules ++ rule k r ∷ []) new
rule_comes rules old new r k are comes [] = refl
rule_comes rules old new r k are comes (c ∷ cs) =
    let t : DataType = if nat_le 73 c && nat_le c 78 then Scalar Integer else NoType in
    let before : Option DataType = find_map (gives c) (reverse rules) in
    ap (λ o. sort_of (unwrap_or o t)) (ap (find_map (gives c)) (reverse-append rules (rule k r ∷ [])))
    ∙ one_given (nat_le r.0 c && nat_le c r.1) before (letter_in old c) t k (are (c ∷ []))
    ∙ ap (λ o. typed.Scalar (unwrap_or o Integer)) (sym (comes c))

-- those before have come
pub record RangesLeft (k : Kind) (old : Letters) (rs : List (ℕ × ℕ)) (now : Letters) (rest : List (ℕ × ℕ)) : Type 0 where
  pub left : (rules : List Implied) → AreLetters rules old → (us : List Implied) × AreLetters us now × (us ++ map (rule k) rest ≡ rules ++ map (rule k) rs)

pub ranges_begun : (k : Kind) (old : Letters) (rs : List (ℕ × ℕ)) → RangesLeft k old rs old rs
ranges_begun k old rs = record { left = λ rules are. (rules, are, refl) }

pub range_passed : (k : Kind) (old now new : Letters) (rs : List (ℕ × ℕ)) (r : ℕ × ℕ) (rest : List (ℕ × ℕ)) → RangesLeft k old rs now (r ∷ rest) → GivesRange k now r new →
    RangesLeft k old rs new rest
range_passed k old now new rs r rest before comes = record {
  left = λ rules are.
      let at = before.left rules are in
      (at.0 ++ rule k r ∷ [], rule_comes at.0 now new r k at.1 comes, append_assoc at.0 (rule k r ∷ []) (map (rule k) rest) ∙ at.2);
}

pub ranges_ended : (k : Kind) (old new : Letters) (rs : List (ℕ × ℕ)) → RangesLeft k old rs new [] → GivesAll k old rs new
ranges_ended k old new rs all rules are = let at = all.left rules are in subst (λ us. AreLetters us new) (sym (append-nil at.0) ∙ at.2) at.1

-- ---- declarations ----

pub ranges_implied : (old new : Letters) (rs : List (ℕ × ℕ)) (t : EflType) (k : Kind) → ((bs : Blocks) → is_plain t ≡ true → data_type bs t ≡ Scalar k) → GivesAll k old rs new →
    Implies old (Implicit rs t) new
ranges_implied old new rs t k typed_as all bs rules built are =
    subst (λ u. AreLetters (rules ++ map (λ r. record { first = r.0; last = r.1; kind = u }) rs) new) (sym (typed_as bs (not_false (is_plain t) built))) (all rules are)

other_implied : (k : decl_kinds.EflDeclKind) → ((rs : Vec (ℕ × ℕ) Global) (t : decl_types.EflType) → k ≡ memory.Implicit rs t → ⊥) → (bs : Blocks) → implied_by bs (decl_kind_of k) ≡ []
other_implied (memory.Implicit rs t) none bs = absurd (none rs t refl)
other_implied (memory.Initial ps) none bs = refl
other_implied (memory.Variables x t vs) none bs = refl
other_implied (memory.Area x gs) none bs = refl
other_implied (memory.Structure x gs) none bs = refl

pub none_implied : (letters : Letters) (k : decl_kinds.EflDeclKind) → ((rs : Vec (ℕ × ℕ) Global) (t : decl_types.EflType) → k ≡ memory.Implicit rs t → ⊥) →
    Implies letters (decl_kind_of k) letters
none_implied letters k none bs rules built are = subst (λ us. AreLetters us letters) (sym (ap (λ us. rules ++ us) (other_implied k none bs) ∙ append-nil rules)) are

-- those before have come
pub record RulesLeft (ds : List EflDecl) (now : Letters) (rest : List EflDecl) : Type 0 where
  pub left : (bs : Blocks) → are_built ds ≡ true → (us : List Implied) × AreLetters us now × (us ++ implied_in bs rest ≡ implied_in bs ds) × (are_built rest ≡ true)

pub rules_begun : (ds : List EflDecl) (empty : Letters) → ((c : ℕ) → letter_in empty c ≡ None) → RulesLeft ds empty ds
rules_begun ds empty none = record { left = λ bs built. ([], no_rules empty none, refl, built) }

pub rules_passed : (ds : List EflDecl) (now new : Letters) (d : EflDecl) (rest : List EflDecl) → RulesLeft ds now (d ∷ rest) → Implies now d.kind new → RulesLeft ds new rest
rules_passed ds now new d rest before implied = record {
  left = λ bs built.
      let at = before.left bs built in
      let own : unbuilt_declaration d.kind ≡ false = first_built d rest at.3 in (
        at.0 ++ implied_by bs d.kind,
        implied bs at.0 own at.1,
        append_assoc at.0 (implied_by bs d.kind) (implied_in bs rest)
            ∙ ap (λ cs. at.0 ++ (implied_by bs d.kind ++ implied_in cs rest)) (sym (quiet bs d.kind own))
            ∙ at.2,
        rest_built d rest at.3,
      );
}

pub rules_ended : (ds : List EflDecl) (new : Letters) → RulesLeft ds new [] → ImpliesAll ds new
rules_ended ds new all bs built = let at = all.left bs built in subst (λ us. AreLetters us new) (sym (append-nil at.0) ∙ at.2) at.1
