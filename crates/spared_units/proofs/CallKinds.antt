-- The types of names that are not the spare one, and with them what calls ask of the units that they lead to.
use Rattle.std.proofs.Common.{◌≡◌, ◌≢◌, inl, inr, Bool, true, false, List, [], ◌∷◌, Option, None, Some, refl, ap, ◌∙◌, subst}
use Rattle.std.specs.Prelude.{not, ◌&&◌, ◌||◌, if◌then◌else◌}
use Rattle.std.specs.Str.{bytes_eq}
use Rattle.std.proofs.lemmas.Slice.Eq.{bytes_eq-Decides}
use Rattle.ground.specs.declared.value.Kind.{Kind}
use Rattle.f66_tree.specs.declared.declaration.TypeWord.{TypeWord}
use Rattle.f66_tree.specs.declared.declaration.TypeWord.TheVariants as words
use Rattle.f66_tree.specs.Syntax.{Text, Formula, Int, Truth, Letter, Ref, Item, Group, Plus, Minus, Not, Pair, Formulas, NoFormula, AndFormula, Header, MainUnit, SubUnit, FuncUnit, DataUnit, Routine}
use Rattle.f66_tree.specs.Units.{Note, Context, notes_of, dummies_of, name_of, type_in, by_header, kind_by, kind_of}
use Rattle.f66_tree.specs.Evaluation.{Sort, AnArray, AnIntrinsic, AFunction, sort_of, is_array}
use Rattle.f66_program.specs.Mentions.{Mention, applied, context_of, mentions_of, mentions_of_all}
use Rattle.f66_program.specs.Calls.{Call, kind_applied, kind_in, same_kind, shape_applied, shape_alone, shape_of, takes_shape, agrees, agree_all, fits_header, clashes}
use Rattle.spared_units.specs.Spared.{with_spare, mention_name, Spared}
use Rattle.spared_units.proofs.Among.{Among, before, behind}
use Rattle.spared_units.proofs.SameSizes.{sorts}
use Rattle.spared_units.proofs.Units.{same_sizes}

-- a name that is not the spare one
abbrev pub IsOther : Option Text → Text → Type 0
IsOther o x = (y : Text) → o ≡ Some y → x ≢ y

abbrev pub AllOther : Option Text → List Mention → Type 0
AllOther o ms = (m : Mention) → Among ms m → IsOther o (mention_name m)

pub not_same : (x y : Text) → x ≢ y → bytes_eq x y ≡ false
not_same x y other = by_answer (bytes_eq x y) (bytes_eq-Decides x y).0
  where
    by_answer : (v : Bool) → (v ≡ true → x ≡ y) → v ≡ false
    by_answer true h = absurd (other (h refl))
    by_answer false h = refl

plain_types : (o : Option Text) (x : Text) (notes : List Note) (t : TypeWord) → IsOther o x → type_in x (with_spare o notes) t ≡ type_in x notes t
plain_types None x notes t other = refl
plain_types (Some y) x notes t other = ap (λ v. if v || false then words.Integer else type_in x notes t) (not_same x y (other y refl))

pub applied_name : (x : Text) (es : Formulas) (s : Sort) → mention_name (applied x es s) ≡ x
applied_name x es (AnArray ns) = refl
applied_name x es (AnIntrinsic g) = refl
applied_name x es AFunction = refl

module _ (spare : Option Text) (s r : Routine) (h : Spared spare s r) where
  abbrev c : Context
  c = context_of r

  abbrev d : Context
  d = context_of s

  pub same_kinds : (x : Text) → IsOther spare x → kind_of c x ≡ kind_of d x
  same_kinds x other =
      ap kind_by
      (ap (λ k. type_in x (notes_of r.lines) (by_header x k)) h.header ∙ ap (λ ns. type_in x ns (by_header x s.header)) h.notes ∙ plain_types spare x (notes_of s.lines) (by_header x s.header) other)

  pub same_sorts : (x : Text) → sort_of c x ≡ sort_of d x
  same_sorts x = sorts c d (same_sizes spare s r h) x

  applied_kind : (x : Text) (o : Sort) → IsOther spare x → kind_applied c x o ≡ kind_applied d x o
  applied_kind x (AnArray ns) other = same_kinds x other
  applied_kind x (AnIntrinsic g) other = refl
  applied_kind x AFunction other = same_kinds x other

  -- an actual, all names of which are others
  pub kinds_in : (e : Formula) → AllOther spare (mentions_of d e) → kind_in c e ≡ kind_in d e
  kinds_in (Int z) h1 = refl
  kinds_in (Truth b) h1 = refl
  kinds_in (Letter l) h1 = refl
  kinds_in (Ref x) h1 = same_kinds x (h1 _ (inl refl))
  kinds_in (Item x es) h1 =
      ap (kind_applied c x) (same_sorts x) ∙ applied_kind x (sort_of d x) (subst (IsOther spare) (applied_name x es (sort_of d x)) (h1 (applied x es (sort_of d x)) (inl refl)))
  kinds_in (Group a) h1 = kinds_in a h1
  kinds_in (Plus a) h1 = refl
  kinds_in (Minus a) h1 = refl
  kinds_in (Not a) h1 = refl
  kinds_in (Pair op a b) h1 = refl

  same_shape : (e : Formula) → shape_of c e ≡ shape_of d e
  same_shape (Ref x) = ap shape_alone (same_sorts x)
  same_shape (Item x es) = ap shape_applied (same_sorts x)
  same_shape _ = refl

  -- ---- in a unit that is called ----

  module _ (spare2 : Option Text) (s2 r2 : Routine) (h2 : Spared spare2 s2 r2) where
    abbrev c2 : Context
    c2 = context_of r2

    abbrev d2 : Context
    d2 = context_of s2

    kinds2 : (x : Text) → IsOther spare2 x → kind_of c2 x ≡ kind_of d2 x
    kinds2 x other = ap kind_by (ap (λ k. type_in x (notes_of r2.lines) (by_header x k)) h2.header ∙ ap (λ ns. type_in x ns (by_header x s2.header)) h2.notes ∙ plain_types spare2 x (notes_of s2.lines) (by_header x s2.header) other)

    sorts2 : (x : Text) → sort_of c2 x ≡ sort_of d2 x
    sorts2 x = sorts c2 d2 (same_sizes spare2 s2 r2 h2) x

    one_agrees : (e : Formula) (x : Text) → AllOther spare (mentions_of d e) → IsOther spare2 x → agrees c e c2 x ≡ agrees d e d2 x
    one_agrees e x he other =
        ap (λ k. same_kind k (kind_of c2 x) && takes_shape (is_array (sort_of c2 x)) (shape_of c e)) (kinds_in e he)
        ∙ ap (λ k. same_kind (kind_in d e) k && takes_shape (is_array (sort_of c2 x)) (shape_of c e)) (kinds2 x other)
        ∙ ap (λ o. same_kind (kind_in d e) (kind_of d2 x) && takes_shape (is_array o) (shape_of c e)) (sorts2 x)
        ∙ ap (λ o. same_kind (kind_in d e) (kind_of d2 x) && takes_shape (is_array (sort_of d2 x)) o) (same_shape e)

    all_agree : (es : Formulas) (ds : List Text) → AllOther spare (mentions_of_all d es) → ((x : Text) → Among ds x → IsOther spare2 x) → agree_all c es c2 ds ≡ agree_all d es d2 ds
    all_agree NoFormula ds he hd = refl
    all_agree (AndFormula e es) [] he hd = refl
    all_agree (AndFormula e es) (x ∷ ds) he hd =
        ap (λ b. b && agree_all c es c2 ds) (one_agrees e x (λ m k. he m (before (mentions_of d e) (mentions_of_all d es) m k)) (hd x (inl refl)))
        ∙ ap (λ b. agrees d e d2 x && b) (all_agree es ds (λ m k. he m (behind (mentions_of d e) (mentions_of_all d es) m k)) (λ y k. hd y (inr k)))

    -- the header is asked by its form, the types of the reference and of the function
    abbrev fits : Header → Bool → Kind → (Text → Kind) → Bool
    fits k called mine theirs = elim k [
      | SubUnit x ds ↦ called
      | FuncUnit t x ds ↦ not called && same_kind mine (theirs x)
      | _ ↦ false
    ]

    fits_so : (k : Header) (called : Bool) (mine : Kind) → IsOther spare2 (name_of k) → fits k called mine (kind_of c2) ≡ fits k called mine (kind_of d2)
    fits_so MainUnit called mine other = refl
    fits_so (SubUnit x ds) called mine other = refl
    fits_so (FuncUnit t x ds) called mine other = ap (λ z. not called && same_kind mine z) (kinds2 x other)
    fits_so DataUnit called mine other = refl

    pub same_clash : (k : Call) → IsOther spare k.name → AllOther spare (mentions_of_all d k.actuals) → IsOther spare2 (name_of s2.header) → ((x : Text) → Among (dummies_of s2.header) x → IsOther spare2 x) → clashes c k r2 ≡ clashes d k s2
    same_clash k name actuals own dummies =
        ap (λ b. not b || not (agree_all c k.actuals c2 (dummies_of r2.header)))
        (ap (λ z. fits r2.header k.by_call z (kind_of c2)) (same_kinds k.name name) ∙ ap (λ z. fits z k.by_call (kind_of d k.name) (kind_of c2)) h2.header ∙ fits_so s2.header k.by_call (kind_of d k.name) own)
        ∙ ap (λ b. not (fits_header d k d2) || not b)
        (ap (λ z. agree_all c k.actuals c2 (dummies_of z)) h2.header ∙ all_agree k.actuals (dummies_of s2.header) actuals dummies)
