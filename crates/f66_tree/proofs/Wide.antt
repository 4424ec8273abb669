-- What a part of a run gives at a greater bound: the same, unless it stopped at the lesser one; then its records begin with those so
-- far. It stays so where one part follows another, whatever the language is of which the parts are the meaning.
use Rattle.std.proofs.Common.{◌≡◌, refl, sym, ap, subst}
use Rattle.std.specs.Prelude.{⊤}
use Rattle.ground.specs.declared.place.Place.{Place}
use Rattle.f66_tree.specs.World.{World, End, Ended, GoesOn, Lost, Out, Gives, Halts, bind, counted, IsPrefix, shown}
use Rattle.f66_tree.specs.Laws.{Extends}
use Rattle.f66_tree.proofs.Prefixes.{prefix_self, prefix_in}
use Rattle.f66_tree.proofs.Agreement.{IsOver}
use Rattle.f66_tree.proofs.Posts.{IfGives, post_any}
use Rattle.f66_tree.proofs.Grows.{out_of, Grows, bind_grows_if}

-- what a part gives at the lesser bound, and at the greater one
abbrev pub WidensTo : {A : Type 0} → Out A → Out A → Type 0
WidensTo (Gives a w) o = o ≡ Gives a w
WidensTo (Halts (Ended f) w) o = o ≡ Halts (Ended f) w
WidensTo (Halts Lost w) o = o ≡ Halts Lost w
WidensTo (Halts GoesOn w) o = IsPrefix w.state.tape.written (out_of o)

pub record Wide (A : Type 0) (m1 m2 : World → Out A) : Type 0 where
  pub grows : Grows A m2
  pub widens : (w : World) → WidensTo (m1 w) (m2 w)

itself : {A : Type 0} (o : Out A) → WidensTo o o
itself (Gives a w) = refl
itself (Halts (Ended f) w) = refl
itself (Halts Lost w) = refl
itself (Halts GoesOn w) = prefix_self w.state.tape.written

pub bind_widens : {A B : Type 0} (P : A → Type 0) (o1 o2 : Out A) (g1 g2 : A → World → Out B) → WidensTo o1 o2 → IfGives P o2 → ((a : A) → P a → Wide B (g1 a) (g2 a)) → WidensTo (bind o1 g1) (bind o2 g2)
bind_widens P (Gives a w) o2 g1 g2 h post k = subst (λ q. WidensTo (g1 a w) (bind q g2)) (sym h) ((k a (subst (IfGives P) h post)).widens w)
bind_widens P (Halts (Ended f) w) o2 g1 g2 h post k = ap (λ q. bind q g2) h
bind_widens P (Halts Lost w) o2 g1 g2 h post k = ap (λ q. bind q g2) h
bind_widens {A} {B} P (Halts GoesOn w) o2 g1 g2 h post k = go o2 h post
  where
    go : (q : Out A) → IsPrefix w.state.tape.written (out_of q) → IfGives P q → IsPrefix w.state.tape.written (out_of (bind q g2))
    go (Gives a v) p ok = prefix_in p ((k a ok).grows v)
    go (Halts r v) p ok = p

pub wide_bind : {A B : Type 0} {m1 m2 : World → Out A} {g1 g2 : A → World → Out B} → Wide A m1 m2 → ((a : A) → Wide B (g1 a) (g2 a)) → Wide B (λ w. bind (m1 w) g1) (λ w. bind (m2 w) g2)
wide_bind {m1} {m2} {g1} {g2} h k = record {
  grows = λ w. bind_grows_if (λ _. ⊤) w (m2 w) g2 (h.grows w) (post_any (m2 w)) (λ a _. (k a).grows);
  widens = λ w. bind_widens (λ _. ⊤) (m1 w) (m2 w) g1 g2 (h.widens w) (post_any (m2 w)) (λ a _. k a);
}

-- the same on both sides
pub wide_same : {A : Type 0} (m : World → Out A) → Grows A m → Wide A m m
wide_same m h = record { grows = h; widens = λ w. itself (m w) }

pub wide_gives : {A : Type 0} (a : A) → Wide A (λ w. Gives a w) (λ w. Gives a w)
wide_gives a = wide_same (λ w. Gives a w) (λ w. prefix_self w.state.tape.written)

pub unit_gives : Wide ⊤ (λ w. Gives tt w) (λ w. Gives tt w)
unit_gives = wide_gives (tt {0})

pub wide_halts : {A : Type 0} (e : End) → Wide A (λ w. Halts e w) (λ w. Halts e w)
wide_halts e = wide_same (λ w. Halts e w) (λ w. prefix_self w.state.tape.written)

-- a part that stops at the lesser bound
pub wide_stays : {A : Type 0} (m : World → Out A) → Grows A m → Wide A (λ w. Halts GoesOn w) m
wide_stays m h = record { grows = h; widens = h }

pub wide_counted : {A : Type 0} {m1 m2 : World → Out A} → Wide A m1 m2 → Wide A (λ w. m1 (counted w)) (λ w. m2 (counted w))
wide_counted h = record { grows = λ w. h.grows (counted w); widens = λ w. h.widens (counted w) }

-- the same at two equal places
pub at_both : {A : Type 0} (p q : Place) (m : Place → World → Out A) → p ≡ q → Grows A (m q) → Wide A (m p) (m q)
at_both p q m same h = record { grows = h; widens = λ w. subst (λ v. WidensTo (m p w) (m v w)) same (itself (m p w)) }

pub extends_by : (p q : Out ⊤) → WidensTo p q → Extends (shown p) (shown q)
extends_by (Gives u w) q h = record { over = λ x e. ap shown (sym h); grows = subst (λ v. IsPrefix w.state.tape.written (shown v).records) (sym h) (prefix_self w.state.tape.written) }
extends_by (Halts (Ended x) w) q h = record { over = λ y e. ap shown (sym h); grows = subst (λ v. IsPrefix w.state.tape.written (shown v).records) (sym h) (prefix_self w.state.tape.written) }
extends_by (Halts Lost w) q h = record { over = λ y e. ap shown (sym h); grows = subst (λ v. IsPrefix w.state.tape.written (shown v).records) (sym h) (prefix_self w.state.tape.written) }
extends_by (Halts GoesOn w) q h = record { over = λ y e. absurd (subst IsOver (sym e) tt); grows = same q h }
  where
    same : (q1 : Out ⊤) → IsPrefix w.state.tape.written (out_of q1) → IsPrefix w.state.tape.written (shown q1).records
    same (Gives u1 w1) p = p
    same (Halts e1 w1) p = p
