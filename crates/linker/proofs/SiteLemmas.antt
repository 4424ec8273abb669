-- The list of a program's calls has each of them, and no others, in reading order. So the first one of the list that breaks a rule
-- stands at the first statement that does.
use Rattle.std.proofs.Common.{◌≡◌, ◌<◌, ◌≤◌, ◌+◌, inl, inr, ◌∙◌, ◌∷◌, ◌++◌, [], ℕ, zero, suc, Bool, true, false, List, length, map, get_or, Option, None, Some, find, option_map, refl, sym, ap, subst, arith}
use Rattle.std.proofs.lemmas.List.Elements.{All-nil, All-append, All-map, All-contains, All-contains_itself, All-weaker, Contains-append_left, Contains-append_right}
use Rattle.std.specs.Prelude.{⊤, if◌then◌else◌}
use Rattle.std.proofs.lemmas.List.{get_or-map, length-map}
use Rattle.std.specs.List.{All, Contains, slice_get}
use Rattle.ground.specs.declared.place.Place.{Place}
use Rattle.ground.specs.declared.fault.Fault.{Fault}
use Rattle.ground.specs.declared.fault.FaultKind.{FaultKind}
use Rattle.f66_tree.specs.Syntax.{Line, Routine}
use Rattle.f66_tree.specs.Units.{Context}
use Rattle.f66_program.specs.Mentions.{context_of}
use Rattle.f66_program.specs.Calls.{Call, calls_in}
use Rattle.f66_program.specs.Linking.{Program, Part, at_part, IsEarlier, HasCall, limit_number, Breaks}
use Rattle.linker.specs.Rules.{IsFirstBroken, IsKept}
use Rattle.linker.specs.Sites.{Site, site_at, line_sites, sites_from, sites_of, IsNotBefore, IsSiteIn}
use Rattle.linker.proofs.PartLemmas.{place_here}

-- order

abbrev pub IsOrdered : List Site → Type 0
IsOrdered [] = ⊤
IsOrdered (s ∷ sites) = All (IsNotBefore s) sites × IsOrdered sites

tail : {X : Type 0} (P : X → Type 0) (x : X) (xs : List X) → All P (x ∷ xs) → All P xs
tail P x xs a i d lt = a (suc i) d (omega (arith, lt))

ordered_append : (xs ys : List Site) → IsOrdered xs → IsOrdered ys → All (λ x. All (IsNotBefore x) ys) xs → IsOrdered (xs ++ ys)
ordered_append [] ys ox oy a = oy
ordered_append (x ∷ xs) ys ox oy a = (All-append (IsNotBefore x) xs ys ox.0 (a 0 x (omega arith)), ordered_append xs ys ox.1 oy (tail (λ x. All (IsNotBefore x) ys) x xs a))

abbrev IsBehind : ℕ → ℕ → Site → Type 0
IsBehind u i s = (s.unit ≡ u) × (i ≤ s.line)

act_ordered : (u i : ℕ) (p : Place) (ks : List Call) → IsOrdered (map (site_at u i p) ks)
act_ordered u i p [] = tt
act_ordered u i p (k ∷ ks) = (All-map (IsNotBefore (site_at u i p k)) (site_at u i p) ks (λ j d lt. inr (refl, omega arith)), act_ordered u i p ks)

lines_behind : (u i : ℕ) (c : Context) (lines : List Line) → All (IsBehind u i) (line_sites u i c lines)
lines_behind u i c [] = All-nil (IsBehind u i)
lines_behind u i c (l ∷ lines) =
    All-append (IsBehind u i) (map (site_at u i l.place) (calls_in c l.act)) (line_sites u (suc i) c lines)
    (All-map (IsBehind u i) (site_at u i l.place) (calls_in c l.act) (λ j d lt. (refl, omega arith)))
    (All-weaker (IsBehind u (suc i)) (IsBehind u i) (λ s b. (b.0, (let le = b.1 in omega (arith, le)))) (line_sites u (suc i) c lines) (lines_behind u (suc i) c lines))

lines_ordered : (u i : ℕ) (c : Context) (lines : List Line) → IsOrdered (line_sites u i c lines)
lines_ordered u i c [] = tt
lines_ordered u i c (l ∷ lines) =
    ordered_append (map (site_at u i l.place) (calls_in c l.act)) (line_sites u (suc i) c lines) (act_ordered u i l.place (calls_in c l.act)) (lines_ordered u (suc i) c lines)
    (All-map (λ x. All (IsNotBefore x) (line_sites u (suc i) c lines)) (site_at u i l.place) (calls_in c l.act)
    (λ j d lt. All-weaker (IsBehind u (suc i)) (IsNotBefore (site_at u i l.place (get_or (calls_in c l.act) j d)))
    (λ s b. inr (sym b.0, (let le = b.1 in omega (arith, le)))) (line_sites u (suc i) c lines) (lines_behind u (suc i) c lines)))

units_behind : (u : ℕ) (rs : List Routine) → All (λ s. u ≤ s.unit) (sites_from u rs)
units_behind u [] = All-nil (λ (s : Site). u ≤ s.unit)
units_behind u (r ∷ rs) =
    All-append (λ s. u ≤ s.unit) (line_sites u 0 (context_of r) r.lines) (sites_from (suc u) rs)
    (All-weaker (IsBehind u 0) (λ s. u ≤ s.unit) (λ s b. (let e = b.0 in omega (arith, e))) (line_sites u 0 (context_of r) r.lines) (lines_behind u 0 (context_of r) r.lines))
    (All-weaker (λ s. suc u ≤ s.unit) (λ s. u ≤ s.unit) (λ s le. omega (arith, le)) (sites_from (suc u) rs) (units_behind (suc u) rs))

pub sites_ordered : (u : ℕ) (rs : List Routine) → IsOrdered (sites_from u rs)
sites_ordered u [] = tt
sites_ordered u (r ∷ rs) =
    ordered_append (line_sites u 0 (context_of r) r.lines) (sites_from (suc u) rs) (lines_ordered u 0 (context_of r) r.lines) (sites_ordered (suc u) rs)
    (All-weaker (IsBehind u 0) (λ x. All (IsNotBefore x) (sites_from (suc u) rs))
    (λ x b. All-weaker (λ s. suc u ≤ s.unit) (IsNotBefore x) (λ s le. inl (let e = b.0 in omega (arith, e, le))) (sites_from (suc u) rs) (units_behind (suc u) rs))
    (line_sites u 0 (context_of r) r.lines) (lines_behind u 0 (context_of r) r.lines))

-- each call of the list is one of the program

pub record IsLineSite (u i : ℕ) (c : Context) (lines : List Line) (s : Site) : Type 0 where
  pub unit : s.unit ≡ u
  pub index : ℕ
  pub number : s.line ≡ i + index
  pub line : Line
  pub stands : slice_get lines index ≡ Some line
  pub place : s.place ≡ line.place
  pub called : Contains (calls_in c line.act) s.call

line_further : (u i : ℕ) (c : Context) (l : Line) (lines : List Line) (s : Site) → IsLineSite u (suc i) c lines s → IsLineSite u i c (l ∷ lines) s
line_further u i c l lines s h = record {
  unit = h.unit;
  index = suc h.index;
  number = (let n = h.number in omega (arith, n));
  line = h.line;
  stands = h.stands;
  place = h.place;
  called = h.called;
}

lines_sound : (u i : ℕ) (c : Context) (lines : List Line) → All (IsLineSite u i c lines) (line_sites u i c lines)
lines_sound u i c [] = All-nil (IsLineSite u i c [])
lines_sound u i c (l ∷ lines) =
    All-append (IsLineSite u i c (l ∷ lines)) (map (site_at u i l.place) (calls_in c l.act)) (line_sites u (suc i) c lines)
    (All-map (IsLineSite u i c (l ∷ lines)) (site_at u i l.place) (calls_in c l.act)
    (All-weaker (Contains (calls_in c l.act)) (λ k. IsLineSite u i c (l ∷ lines) (site_at u i l.place k))
    (λ k m. record { unit = refl; index = 0; number = omega arith; line = l; stands = refl; place = refl; called = m }) (calls_in c l.act) (All-contains_itself (calls_in c l.act))))
    (All-weaker (IsLineSite u (suc i) c lines) (IsLineSite u i c (l ∷ lines)) (line_further u i c l lines) (line_sites u (suc i) c lines) (lines_sound u (suc i) c lines))

pub record IsUnitSite (u : ℕ) (rs : List Routine) (s : Site) : Type 0 where
  pub index : ℕ
  pub number : s.unit ≡ u + index
  pub unit : Routine
  pub here : slice_get rs index ≡ Some unit
  pub line : Line
  pub stands : slice_get unit.lines s.line ≡ Some line
  pub place : s.place ≡ line.place
  pub called : Contains (calls_in (context_of unit) line.act) s.call

unit_further : (u : ℕ) (r : Routine) (rs : List Routine) (s : Site) → IsUnitSite (suc u) rs s → IsUnitSite u (r ∷ rs) s
unit_further u r rs s h = record {
  index = suc h.index;
  number = (let n = h.number in omega (arith, n));
  unit = h.unit;
  here = h.here;
  line = h.line;
  stands = h.stands;
  place = h.place;
  called = h.called;
}

in_first : (u : ℕ) (r : Routine) (rs : List Routine) (s : Site) → IsLineSite u 0 (context_of r) r.lines s → IsUnitSite u (r ∷ rs) s
in_first u r rs s h = record {
  index = 0;
  number = (let n = h.unit in omega (arith, n));
  unit = r;
  here = refl;
  line = h.line;
  stands = (let n = h.number in let m : s.line ≡ h.index = omega (arith, n) in rw m h.stands);
  place = h.place;
  called = h.called;
}

units_sound : (u : ℕ) (rs : List Routine) → All (IsUnitSite u rs) (sites_from u rs)
units_sound u [] = All-nil (IsUnitSite u [])
units_sound u (r ∷ rs) =
    All-append (IsUnitSite u (r ∷ rs)) (line_sites u 0 (context_of r) r.lines) (sites_from (suc u) rs)
    (All-weaker (IsLineSite u 0 (context_of r) r.lines) (IsUnitSite u (r ∷ rs)) (in_first u r rs) (line_sites u 0 (context_of r) r.lines) (lines_sound u 0 (context_of r) r.lines))
    (All-weaker (IsUnitSite (suc u) rs) (IsUnitSite u (r ∷ rs)) (unit_further u r rs) (sites_from (suc u) rs) (units_sound (suc u) rs))

pub site_in : (rs : List Routine) (s : Site) → Contains (sites_of rs) s → IsSiteIn rs s
site_in rs s m =
    let h = All-contains (IsUnitSite 0 rs) (sites_of rs) s (units_sound 0 rs) m in
    let n : s.unit ≡ h.index = (let k = h.number in omega (arith, k)) in
    record { unit = h.unit; line = h.line; here = subst (λ k. slice_get rs k ≡ Some h.unit) (sym n) h.here; stands = h.stands; place = h.place; called = h.called }

-- and each call of the program is one of the list

pub Contains-map : {X Y : Type 0} (f : X → Y) (xs : List X) (x : X) → Contains xs x → Contains (map f xs) (f x)
Contains-map f xs x c = (c.0, rw length-map c.1, get_or-map f xs c.0 x (f x) c.1 ∙ ap f c.2)

lines_whole : (u i : ℕ) (c : Context) (lines : List Line) (j : ℕ) (l : Line) (k : Call) → slice_get lines j ≡ Some l → Contains (calls_in c l.act) k →
    Contains (line_sites u i c lines) (site_at u (i + j) l.place k)
lines_whole u i c [] j l k e m = absurd (cc)
lines_whole u i c (s ∷ lines) zero l k e m =
    let same : s ≡ l = (let f : Some s ≡ Some l = e in cc) in
    let n : i + 0 ≡ i = omega arith in
    rw (n, sym same) (Contains-append_left (map (site_at u i s.place) (calls_in c s.act)) (line_sites u (suc i) c lines) (site_at u i s.place k)
    (Contains-map (site_at u i s.place) (calls_in c s.act) k (rw same m)))
lines_whole u i c (s ∷ lines) (suc j) l k e m =
    let n : i + suc j ≡ suc i + j = omega arith in
    rw n (Contains-append_right (map (site_at u i s.place) (calls_in c s.act)) (line_sites u (suc i) c lines) (site_at u (suc i + j) l.place k) (lines_whole u (suc i) c lines j l k e m))

units_whole : (u : ℕ) (rs : List Routine) (j : ℕ) (r : Routine) (i : ℕ) (l : Line) (k : Call) → slice_get rs j ≡ Some r → slice_get r.lines i ≡ Some l →
    Contains (calls_in (context_of r) l.act) k → Contains (sites_from u rs) (site_at (u + j) i l.place k)
units_whole u [] j r i l k e f m = absurd (cc)
units_whole u (s ∷ rs) zero r i l k e f m =
    let same : s ≡ r = (let g : Some s ≡ Some r = e in cc) in
    let n : u + 0 ≡ u = omega arith in
    rw n (Contains-append_left (line_sites u 0 (context_of s) s.lines) (sites_from (suc u) rs) (site_at u i l.place k)
    (let z : 0 + i ≡ i = omega arith in
    subst (λ j. Contains (line_sites u 0 (context_of s) s.lines) (site_at u j l.place k)) z (lines_whole u 0 (context_of s) s.lines i l k (rw same f) (rw same m))))
units_whole u (s ∷ rs) (suc j) r i l k e f m =
    let n : u + suc j ≡ suc u + j = omega arith in
    rw n (Contains-append_right (line_sites u 0 (context_of s) s.lines) (sites_from (suc u) rs) (site_at (suc u + j) i l.place k) (units_whole (suc u) rs j r i l k e f m))

pub call_listed : (rs : List Routine) (u : ℕ) (r : Routine) (i : ℕ) (l : Line) (k : Call) → slice_get rs u ≡ Some r → slice_get r.lines i ≡ Some l → Contains (calls_in (context_of r) l.act) k →
    Contains (sites_of rs) (site_at u i l.place k)
call_listed rs u r i l k e f m = (let z : 0 + u ≡ u = omega arith in subst (λ v. Contains (sites_of rs) (site_at v i l.place k)) z (units_whole 0 rs u r i l k e f m))

-- the first one of the list

hit : (b : Bool) (x : Site) (o : Option Site) → b ≡ true → (if b then Some x else o) ≡ None → ⊥
hit true x o t e = cc
hit false x o t e = cc

missed : (b : Bool) (x : Site) (o : Option Site) → (if b then Some x else o) ≡ None → o ≡ None
missed true x o e = absurd (cc)
missed false x o e = e

passes_not : (test : Site → Bool) (xs : List Site) (i : ℕ) (d : Site) → find test xs ≡ None → i < length xs → test (get_or xs i d) ≡ true → ⊥
passes_not test [] i d e lt t = omega (arith, lt)
passes_not test (x ∷ xs) zero d e lt t = hit (test x) x (find test xs) t e
passes_not test (x ∷ xs) (suc i) d e lt t = passes_not test xs i d (missed (test x) x (find test xs) e) (omega (arith, lt)) t

pub found_none : (test : Site → Bool) (xs : List Site) (x : Site) → find test xs ≡ None → Contains xs x → test x ≡ true → ⊥
found_none test xs x e m t = passes_not test xs m.0 x e m.1 (ap test m.2 ∙ t)

record IsFound (test : Site → Bool) (xs : List Site) (s : Site) : Type 0 where
  passes : test s ≡ true
  listed : Contains xs s
  first : (i : ℕ) (d : Site) → i < length xs → test (get_or xs i d) ≡ true → IsNotBefore s (get_or xs i d)

module _ (test : Site → Bool) (x : Site) (xs : List Site) (s : Site) (o : All (IsNotBefore x) xs) where
  behind : x ≡ s → (i : ℕ) (d : Site) → i < suc (length xs) → IsNotBefore s (get_or (x ∷ xs) i d)
  behind same zero d lt = subst (λ y. IsNotBefore y x) same (inr (refl, omega arith))
  behind same (suc i) d lt = subst (λ y. IsNotBefore y (get_or xs i d)) same (o i d (omega (arith, lt)))

  further : test x ≡ false → IsFound test xs s → (i : ℕ) (d : Site) → i < suc (length xs) → test (get_or (x ∷ xs) i d) ≡ true → IsNotBefore s (get_or (x ∷ xs) i d)
  further f h zero d lt t = absurd (cc)
  further f h (suc i) d lt t = h.first i d (omega (arith, lt)) t

  found_at : (b : Bool) → test x ≡ b → (find test xs ≡ Some s → IsFound test xs s) → (if b then Some x else find test xs) ≡ Some s → IsFound test (x ∷ xs) s
  found_at true t rest e =
      let same : x ≡ s = (let f : Some x ≡ Some s = e in cc) in
      record { passes = ap test (sym same) ∙ t; listed = (0, omega arith, same); first = λ i d lt p. behind same i d lt }
  found_at false t rest e =
      let h = rest e in
      record { passes = h.passes; listed = (let l = h.listed in (suc l.0, (let lt = l.1 in omega (arith, lt)), l.2)); first = further t h }

found : (test : Site → Bool) (xs : List Site) (s : Site) → IsOrdered xs → find test xs ≡ Some s → IsFound test xs s
found test [] s o e = absurd (cc)
found test (x ∷ xs) s o e = found_at test x xs s o.0 (test x) refl (λ f. found test xs s o.1 f) e

not_earlier : (s t : Site) (q : Part) (i : ℕ) → IsNotBefore s t → t.unit ≡ q.unit → t.line ≡ i → q.part ≡ suc i → IsEarlier q (at_part s.unit (suc s.line)) → ⊥
not_earlier s t q i (inl n) u l k (inl e) = omega (arith, n, u, e)
not_earlier s t q i (inl n) u l k (inr e) = (let a = e.0 in omega (arith, n, u, a))
not_earlier s t q i (inr n) u l k (inl e) = (let a = n.0 in omega (arith, a, u, e))
not_earlier s t q i (inr n) u l k (inr e) = (let a = n.1 in let b = e.1 in omega (arith, a, b, l, k))

-- a rule on calls: where no call of the list breaks it, it is kept, and where one does that no other one stands before, that is the first

module _ (kind : FaultKind) (p : Program) (Holds : ℕ → Context → Call → Type 0)
    (is_rule : (q : Part) → Breaks kind p q → HasCall p q (Holds q.unit)) (rule_is : (q : Part) → HasCall p q (Holds q.unit) → Breaks kind p q) where
  pub kept_by : ((s : Site) (r : Routine) → Contains (sites_of p.units) s → slice_get p.units s.unit ≡ Some r → Holds s.unit (context_of r) s.call → ⊥) → IsKept kind p
  kept_by none q b =
      let h = is_rule q b in
      none (site_at q.unit h.at.index h.at.line.place h.call) h.at.unit (call_listed p.units q.unit h.at.unit h.at.index h.at.line h.call h.at.here h.at.stands h.called) h.at.here h.holds

  pub broken_at : (s : Site) → Contains (sites_of p.units) s → ((r : Routine) → slice_get p.units s.unit ≡ Some r → Holds s.unit (context_of r) s.call) →
      ((t : Site) (r : Routine) → Contains (sites_of p.units) t → slice_get p.units t.unit ≡ Some r → Holds t.unit (context_of r) t.call → IsNotBefore s t) →
      (f : Fault) → f.kind ≡ kind → f.number ≡ limit_number kind → f.place ≡ s.place → IsFirstBroken kind p f
  broken_at s listed holds first f k n place =
      let m = site_in p.units s listed in
      let part = at_part s.unit (suc s.line) in
      record {
        kind = k;
        number = n;
        part = part;
        broken = rule_is part (record {
          at = record { unit = m.unit; index = s.line; line = m.line; here = m.here; number = refl; stands = m.stands };
          call = s.call;
          called = m.called;
          holds = holds m.unit m.here;
        });
        earlier = λ q before b.
            let c = is_rule q b in
            let t = site_at q.unit c.at.index c.at.line.place c.call in
            let l = call_listed p.units q.unit c.at.unit c.at.index c.at.line c.call c.at.here c.at.stands c.called in
            not_earlier s t q c.at.index (first t c.at.unit l c.at.here c.holds) refl refl c.at.number before;
        place = place_here p part m.unit m.here ∙ ap (option_map (λ (l : Line). l.place)) m.stands ∙ ap Some (sym m.place ∙ sym place);
      }

  module _ (test : Site → Bool)
      (sound : (s : Site) (r : Routine) → slice_get p.units s.unit ≡ Some r → test s ≡ true → Holds s.unit (context_of r) s.call)
      (whole : (s : Site) (r : Routine) → slice_get p.units s.unit ≡ Some r → Holds s.unit (context_of r) s.call → test s ≡ true) where
    pub rule_kept : find test (sites_of p.units) ≡ None → IsKept kind p
    rule_kept e = kept_by (λ s r m here h. found_none test (sites_of p.units) s e m (whole s r here h))

    pub rule_broken : (s : Site) → find test (sites_of p.units) ≡ Some s → (f : Fault) → f.kind ≡ kind → f.number ≡ limit_number kind → f.place ≡ s.place → IsFirstBroken kind p f
    rule_broken s e f k n place =
        let h = found test (sites_of p.units) s (sites_ordered 0 p.units) e in
        broken_at s h.listed (λ r here. sound s r here h.passes)
        (λ t r m here holds. subst (IsNotBefore s) m.2 (h.first m.0 t m.1 (ap test m.2 ∙ whole t r here holds))) f k n place
