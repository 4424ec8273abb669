-- Programs of units that say what others say, but for a spare variable each: calls lead to the same units, and ties and presets are the
-- same.
use Rattle.std.proofs.Common.{◌≡◌, inl, inr, ℕ, zero, suc, Bool, true≢false, List, [], ◌∷◌, map, Option, None, Some, refl, sym, ap, ◌∙◌, subst}
use Rattle.std.specs.Prelude.{if◌then◌else◌}
use Rattle.std.specs.List.{Contains, slice_get, flat_map}
use Rattle.std.specs.Str.{bytes_eq}
use Rattle.std.proofs.lemmas.List.{map-append}
use Rattle.std.proofs.lemmas.Slice.Eq.{bytes_eq-Decides}
use Rattle.f66_tree.specs.Syntax.{Text, Line, Routine}
use Rattle.f66_tree.specs.Units.{dummies_of, name_of}
use Rattle.f66_program.specs.Mentions.{Mention, AVariable, ACall, AKnown, context_of, mentions_in}
use Rattle.f66_program.specs.Association.{ties_from, ties_of}
use Rattle.f66_program.specs.Calls.{Call, call_in, calls_in, is_called, one_further, unit_named, clashes, miscounts, Leads, Reaches, at_once, further}
use Rattle.f66_program.specs.Initial.{line_presets, presets_from, presets_of}
use Rattle.spared_units.specs.Spared.{mentions_of_lines, is_spare, LacksIfAny, Pair, said_units, made_units}
use Rattle.spared_units.proofs.Among.{Among, among, contained, got, among_got, of_some, in_all, passes, some_of}
use Rattle.spared_units.proofs.SameSizes.{halves}
use Rattle.spared_units.proofs.Notes.{unparted}
use Rattle.spared_units.proofs.Units.{same_ties, same_presets, heard}
use Rattle.spared_units.proofs.Places.{pair_made, said_at}
use Rattle.spared_units.proofs.CallKinds.{IsOther, AllOther, same_clash}
use Rattle.spared_units.proofs.Closed.{lines_closed}

-- ---- units by their names ----

pub named_same : (q : Text) (ps : List Pair) → unit_named q (made_units ps) ≡ unit_named q (said_units ps)
named_same q [] = refl
named_same q (p ∷ ps) =
    ap (λ h. if is_called q h then Some zero else one_further (unit_named q (made_units ps))) p.spared.header
    ∙ ap (λ o. if is_called q p.said.header then Some zero else one_further o) (named_same q ps)

-- ---- ties and presets ----

tied_from : (u : ℕ) (ps : List Pair) → ties_from u (made_units ps) ≡ ties_from u (said_units ps)
tied_from u [] = refl
tied_from u (p ∷ ps) = halves _ _ _ _ (same_ties p.spare p.said p.made p.spared u) (tied_from (suc u) ps)

pub tied : (ps : List Pair) → ties_of (made_units ps) ≡ ties_of (said_units ps)
tied ps = tied_from 0 ps

preset_from : (u : ℕ) (ps : List Pair) → map unparted (presets_from u (made_units ps)) ≡ map unparted (presets_from u (said_units ps))
preset_from u [] = refl
preset_from u (p ∷ ps) =
    map-append unparted (line_presets u 0 (context_of p.made) p.made.lines) (presets_from (suc u) (made_units ps))
    ∙ halves _ _ _ _ (same_presets p.spare p.said p.made p.spared u) (preset_from (suc u) ps)
    ∙ sym (map-append unparted (line_presets u 0 (context_of p.said) p.said.lines) (presets_from (suc u) (said_units ps)))

pub presets : (ps : List Pair) → map unparted (presets_of (made_units ps)) ≡ map unparted (presets_of (said_units ps))
presets ps = preset_from 0 ps

-- ---- calls ----

call_among : (ms : List Mention) (k : Call) → Contains (flat_map call_in ms) k → Among ms (ACall k.by_call k.name k.actuals)
call_among ms k h = let m = of_some call_in ms k (among (flat_map call_in ms) k h) in subst (Among ms) (by_form m.0 m.2) m.1
  where
    by_form : (m : Mention) → Among (call_in m) k → m ≡ ACall k.by_call k.name k.actuals
    by_form (AVariable x) i = absurd i
    by_form (ACall b x es) (inl e) = ap (λ j. ACall j.by_call j.name j.actuals) e
    by_form (ACall b x es) (inr i) = absurd i
    by_form (AKnown x) i = absurd i

among_call : (ms : List Mention) (k : Call) → Among ms (ACall k.by_call k.name k.actuals) → Contains (flat_map call_in ms) k
among_call ms k h = contained (flat_map call_in ms) k (in_all call_in ms (ACall k.by_call k.name k.actuals) k h (inl refl))

-- a call of the unit that was made is one of the other
pub record IsSaidCall (p : Pair) (k : Call) : Type 0 where
  pub index : ℕ
  pub line : Line
  pub stands : slice_get p.said.lines index ≡ Some line
  pub called : Contains (calls_in (context_of p.said) line.act) k
  pub mentioned : Among (mentions_of_lines (context_of p.said) p.said.lines) (ACall k.by_call k.name k.actuals)

not_spare : (o : Option Text) (b : Bool) (x : Text) (es : _) → is_spare o (ACall b x es) → ⊥
not_spare None b x es h = h
not_spare (Some y) b x es h = subst IsCall h tt
  where
    IsCall : Mention → Type 0
    IsCall (ACall v z fs) = Unit {0}
    IsCall _ = ⊥

pub said_call : (p : Pair) (line : Line) → Among p.made.lines line → (k : Call) → Contains (calls_in (context_of p.made) line.act) k → IsSaidCall p k
said_call p line at k h =
    let m = in_all (λ s. mentions_in (context_of p.made) s.act) p.made.lines line (ACall k.by_call k.name k.actuals) at (call_among (mentions_in (context_of p.made) line.act) k h) in
    elim (heard p.spare p.said p.made p.spared (ACall k.by_call k.name k.actuals) m) [
      | inl e ↦ absurd (not_spare p.spare k.by_call k.name k.actuals e)
      | inr i ↦
          let l = of_some (λ s. mentions_in (context_of p.said) s.act) p.said.lines (ACall k.by_call k.name k.actuals) i in
          let g = got p.said.lines l.0 l.1 in
          record { index = g.0; line = l.0; stands = g.1; called = among_call (mentions_in (context_of p.said) l.0.act) k l.2; mentioned = i }
    ]

-- ---- names that are not the spare one ----

other_mention : (s : Routine) (o : Option Text) → LacksIfAny s o → AllOther o (mentions_of_lines (context_of s) s.lines)
other_mention s None h m k y e = absurd (cc)
other_mention s (Some z) h m k y e = λ same. h.mentioned (context_of s) m (contained (mentions_of_lines (context_of s) s.lines) m k) (same ∙ sym (some_of z y e))

other_own : (s : Routine) (o : Option Text) → LacksIfAny s o → IsOther o (name_of s.header)
other_own s None h y e = absurd (cc)
other_own s (Some z) h y e = λ same. h.own (same ∙ sym (some_of z y e))

other_dummy : (s : Routine) (o : Option Text) → LacksIfAny s o → (x : Text) → Among (dummies_of s.header) x → IsOther o x
other_dummy s None h x k y e = absurd (cc)
other_dummy s (Some z) h x k y e = λ same.
    true≢false (sym (passes (bytes_eq z) (dummies_of s.header) x k ((bytes_eq-Decides z x).1 (some_of z y e ∙ sym same))) ∙ h.dummies)

-- a call clashes with the unit that it leads to where it does in the other program
pub clash_same : (p q : Pair) (k : Call) → Among (mentions_of_lines (context_of p.said) p.said.lines) (ACall k.by_call k.name k.actuals) → clashes (context_of p.made) k q.made ≡ clashes (context_of p.said) k q.said
clash_same p q k h =
    let others = other_mention p.said p.spare p.spared.lacks in
    same_clash p.spare p.said p.made p.spared q.spare q.said q.made q.spared k (others (ACall k.by_call k.name k.actuals) h)
    (λ m i. others m (lines_closed (context_of p.said) p.said.lines k.by_call k.name k.actuals h m i)) (other_own q.said q.spare q.spared.lacks) (other_dummy q.said q.spare q.spared.lacks)

pub count_same : (q : Pair) (k : Call) → miscounts k q.made ≡ miscounts k q.said
count_same q k = ap (λ h. miscounts k (record { header = h; lines = q.made.lines; place = q.made.place })) q.spared.header

-- ---- calls of calls ----

module _ (ps : List Pair) where
  leads : (u v : ℕ) → Leads (made_units ps) u v → Leads (said_units ps) u v
  leads u v l =
      let p = pair_made ps u l.unit l.here in
      let stands : Among p.0.made.lines l.line = subst (λ r. Among r.lines l.line) (sym p.2) (among l.unit.lines l.line l.stands) in
      let c = said_call p.0 l.line stands l.call (subst (λ r. Contains (calls_in (context_of r) l.line.act) l.call) (sym p.2) l.called) in
      record {
        unit = p.0.said;
        line = c.line;
        call = l.call;
        here = said_at ps u p.0 p.1;
        stands = contained p.0.said.lines c.line (among_got p.0.said.lines c.index c.line c.stands);
        called = c.called;
        to = sym (named_same l.call.name ps) ∙ l.to;
      }

  pub reaches : {u v : ℕ} → Reaches (made_units ps) u v → Reaches (said_units ps) u v
  reaches (at_once {u} {v} l) = at_once (leads u v l)
  reaches (further {u} {v} {w} l r) = further (leads u v l) (reaches r)
