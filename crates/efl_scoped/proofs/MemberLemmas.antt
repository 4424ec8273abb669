-- What is told of types and members, as members come.
use Rattle.std.proofs.Common.{◌≡◌, ◌≢◌, ◌+◌, ◌*◌, ◌==◌, ℕ, nat_lt, nat_le, Bool, true, false, not, ◌&&◌, List, [], ◌∷◌, length, flat_map, Option, Some, None, refl, sym, ap, subst, ◌∙◌, arith}
use Rattle.std.specs.List.{list_all}
use Rattle.std.specs.Option.{option_and_then, option_map}
use Rattle.efl_tree.specs.Syntax.{Text, EflVar}
use Rattle.efl_tree.specs.declared.declaration.EflBound.{EflBound}
use Rattle.efl_scope.specs.DataTypes.{DataType, Array, Members, AndMember, is_sound, are_sound, is_closed, is_large, places, elements}
use Rattle.efl_scope.specs.Scopes.{members_of, of_bounds, bounded}
use Rattle.efl_scoped.specs.declared.summaries.Summary.{Summary}
use Rattle.efl_scoped.specs.Numbers.{Table, Grows, along, number, numbers, number_from, bound_words}
use Rattle.efl_scoped.specs.Told.{capped, Tells, Continues}
use Rattle.efl_scoped.specs.Seen.{Leads, IsBounded, AddsMember, AddsMembers}
use Rattle.efl_scoped.proofs.WordLemmas.{grows_same, grows_on}
use Rattle.efl_scoped.proofs.CountLemmas.{times_capped}

-- ---- later tables ----

pub tells_later : (f g : Table) (t : DataType) (s : Summary) → Grows f g → Tells f t s → Tells g t s
tells_later f g t s grows told = record {
  sound = told.sound;
  places = told.places;
  numbered = λ sound h more. told.numbered sound h (grows_on f g h grows more);
}

pub continues_later : (f g : Table) (ms : Members) (a : Summary) (rest : Members) (b : Summary) → Grows f g → Continues f ms a rest b → Continues g ms a rest b
continues_later f g ms a rest b grows c = record {
  sound = c.sound;
  kept = c.kept;
  places = c.places;
  small = c.small;
  numbered = λ sound h more. c.numbered sound h (grows_on f g h grows more);
}

pub continues_same : (f : Table) (ms : Members) (a : Summary) → Continues f ms a ms a
continues_same f ms a = record { sound = refl; kept = λ is. is; places = refl; small = λ is. is; numbered = λ sound h more. refl }

pub continues_on : (f : Table) (ms : Members) (a : Summary) (ns : Members) (b : Summary) (ls : Members) (c : Summary) →
    Continues f ms a ns b → Continues f ns b ls c → Continues f ms a ls c
continues_on f ms a ns b ls c one two = record {
  sound = one.sound ∙ two.sound;
  kept = λ is. one.kept (two.kept is);
  places = one.places ∙ two.places;
  small = λ is. two.small (one.small is);
  numbered = λ is h more. one.numbered (two.kept is) h more ∙ two.numbered is h more;
}

-- ---- one member ----

pub both_left : (a b : Bool) → (a && b) ≡ true → a ≡ true
both_left true b is = refl
both_left false b is = is

pub both_right : (a b : Bool) → (a && b) ≡ true → b ≡ true
both_right true b is = is
both_right false b is = absurd cc

large_is : (p : ℕ) → nat_lt (capped p) 32768 ≡ not (nat_lt 32767 p)
large_is p = grind arith

regroup : (a b c d : Bool) → (a && ((b && c) && d)) ≡ ((a && (b && c)) && d)
regroup true b c d = refl
regroup false b c d = refl

numbers_next : (h : Table) (x : Text) (t : DataType) (rest : Members) (k w n : ℕ) → number h t ≡ Some w → h k w ≡ Some n → number_from h (AndMember x t rest) k ≡ number_from h rest n
numbers_next h x t rest k w n is next =
    ap (λ o. option_and_then (λ ws. along h ws k) (option_and_then (λ v. option_map (λ ws. v ∷ ws) (numbers h rest)) o)) is ∙ each (numbers h rest)
  where
    each : (o : Option (List ℕ)) → option_and_then (λ ws. along h ws k) (option_map (λ ws. w ∷ ws) o) ≡ option_and_then (λ ws. along h ws n) o
    each None = refl
    each (Some ws) = ap (option_and_then (along h ws)) next

pub member_added : (f g : Table) (a s b : Summary) → Grows f g → g a.number s.number ≡ Some b.number → b.sound ≡ (a.sound && (s.sound && nat_lt s.places 32768)) →
    b.places ≡ capped (a.places + s.places) → AddsMember f a s g b
member_added f g a s b grows is sound count = record { grows = grows; adds = adds }
  where
    adds : (x : Text) (t : DataType) (rest : Members) → Tells f t s → Continues g (AndMember x t rest) a rest b
    adds x t rest told =
        let fits : (s.sound && nat_lt s.places 32768) ≡ (is_sound t && not (is_large t)) =
        ap (λ u. u && nat_lt s.places 32768) told.sound ∙ ap (λ p. is_sound t && nat_lt p 32768) told.places ∙ ap (λ u. is_sound t && u) (large_is (places t)) in
        record {
          sound = regroup a.sound (is_sound t) (not (is_large t)) (are_sound rest) ∙ sym (ap (λ u. u && are_sound rest) (sound ∙ ap (λ u. a.sound && u) fits));
          kept = λ u. both_left a.sound (s.sound && nat_lt s.places 32768) (sym sound ∙ u);
          places = omega (arith, count, told.places);
          small = λ few. omega (arith, count);
          numbered = λ u h more.
              let own : is_sound t ≡ true = sym told.sound ∙ both_left s.sound (nat_lt s.places 32768) (both_right a.sound (s.sound && nat_lt s.places 32768) (sym sound ∙ u)) in
              numbers_next h x t rest a.number s.number b.number (told.numbered own h (grows_on f g h grows more)) (more a.number s.number b.number is);
        }

-- ---- members of one type ----

-- those before have come
pub record MembersLeft (f : Table) (a s : Summary) (vs : List EflVar) (g : Table) (rest : List EflVar) (b : Summary) : Type 0 where
  pub grows : Grows f g
  pub left : (t : DataType) (ms : Members) → Tells f t s → Continues g (members_of t vs ms) a (members_of t rest ms) b

pub members_begun : (f : Table) (a s : Summary) (vs : List EflVar) → MembersLeft f a s vs f vs a
members_begun f a s vs = record { grows = grows_same f; left = λ t ms told. continues_same f (members_of t vs ms) a }

pub member_passed : (f g h i : Table) (a s b m c : Summary) (vs : List EflVar) (v : EflVar) (rest : List EflVar) →
    MembersLeft f a s vs g (v ∷ rest) b → IsBounded g s v.bounds h m → AddsMember h b m i c → MembersLeft f a s vs i rest c
member_passed f g h i a s b m c vs v rest left typed added = record {
  grows = grows_on f h i (grows_on f g h left.grows typed.grows) added.grows;
  left = λ t ms told.
      continues_on i (members_of t vs ms) a (members_of t (v ∷ rest) ms) b (members_of t rest ms) c
      (continues_later g i (members_of t vs ms) a (members_of t (v ∷ rest) ms) b (grows_on g h i typed.grows added.grows) (left.left t ms told))
      (added.adds v.name (of_bounds t v) (members_of t rest ms) (typed.tells t (tells_later f g t s left.grows told)));
}

pub members_ended : (f g : Table) (a s b : Summary) (vs : List EflVar) → MembersLeft f a s vs g [] b → AddsMembers f a s vs g b
members_ended f g a s b vs left = record { grows = left.grows; adds = left.left }

-- ---- bounds ----

pub unbounded : (f : Table) (s : Summary) (bs : List EflBound) → bs ≡ [] → IsBounded f s bs f s
unbounded f s bs none = record {
  grows = grows_same f;
  tells = λ t told. subst (λ x. Tells f (bounded t x) s) (sym none) told;
}

array_is : (t : DataType) (bs : List EflBound) → bs ≢ [] → bounded t bs ≡ Array bs t
array_is t [] some = absurd (some refl)
array_is t (b ∷ bs) some = refl

pub some_bounds : (bs : List EflBound) (b : Bool) → b ≡ false → b ≡ (length bs == 0) → bs ≢ []
some_bounds bs b off is none = let e : length bs ≡ 0 = ap length none in grind (arith, e, off, is)

pub array_bounded : (f g : Table) (s r : Summary) (bs : List EflBound) → bs ≢ [] → Leads f (s.number ∷ flat_map bound_words bs) 3 g r.number →
    r.sound ≡ ((nat_le (length bs) 7 && list_all is_closed bs) && s.sound) → r.places ≡ capped (elements bs * s.places) → IsBounded f s bs g r
array_bounded f g s r bs some leads sound count = record { grows = leads.grows; tells = tells }
  where
    tells : (t : DataType) → Tells f t s → Tells g (bounded t bs) r
    tells t told = subst (λ u. Tells g u r) (sym (array_is t bs some)) (record {
      sound = sound ∙ ap (λ u. (nat_le (length bs) 7 && list_all is_closed bs) && u) told.sound;
      places = count ∙ ap (λ p. capped (elements bs * p)) told.places ∙ times_capped (elements bs) (places t);
      numbered = λ is h more.
          ap (option_and_then (λ w. along h (w ∷ flat_map bound_words bs) 3))
          (told.numbered (both_right (nat_le (length bs) 7 && list_all is_closed bs) (is_sound t) is) h (grows_on f g h leads.grows more))
          ∙ leads.leads h more;
    })
